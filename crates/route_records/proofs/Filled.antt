-- The list whose first records are set and whose others stay: what one record more gives. Assumes nothing.
use mathlib.Core.Path.{◌≡◌, sym, ◌∙◌}
use mathlib.Core.List.{List, ◌++◌}
use Prim.Native.Nat.{ℕ, suc, ◌+◌, ◌<◌, ◌≤◌}
use native.Mathlib.Numerals.{add-one}
use native.Mathlib.Omega.{arith}
use lib.ListN.{length, set, take, drop, get_or}
use lib.Seq.{drop-cons, take-suc, set_at, append_snoc, length-take-le}
use Rattle.route_records.specs.declared.Route.{Route}

pub filled_next : (records old : List Route) (i : ℕ) (other : Route) → i < length records → length records ≤ length old
    → set (take i records ++ drop i old) i (get_or records i other) ≡ take (i + 1) records ++ drop (i + 1) old
filled_next records old i other below room =
    let more : i < length old = omega arith in
    let long : length (take i records) ≡ i = length-take-le i records (omega arith) in
    rw (add-one, take-suc records i other below, drop-cons old i other more)
    (set_at (take i records) (get_or old i other) (drop (suc i) old) (get_or records i other) i long ∙ sym (append_snoc (take i records) (get_or records i other) (drop (suc i) old)))

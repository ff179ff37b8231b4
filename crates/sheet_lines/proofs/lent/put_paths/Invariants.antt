-- `sheet_lines::lent::put_paths` meets its contract. The loop's invariant: path number i stands at `place`, and the lines of the paths not passed are
-- left to be written. Assumes nothing.
use mathlib.Core.Path.{◌≡◌}
use mathlib.Core.List.{List, []}
use Prim.Native.Nat.{ℕ, ◌+◌}
use lib.ListN.{drop}
use Rattle.path_lists.specs.Bytes.{Holds}
use Rattle.path_lists.specs.Reading.{path_place}
use Rattle.sheet_lines.specs.Lines.{path_lines}
use Rattle.sheet_lines.proofs.Writing.{PartWritten}
use Rattle.sheet_lines.proofs.lent.put_paths.Given as goal

abbrev pub invariant-loop-i : goal.invariant-loop-i
invariant-loop-i l = (paths : List (List ℕ)) → Holds l.list l.count paths
    → (l.place ≡ path_place paths l.i) × PartWritten l.initial.out l.out l.at (path_lines 1 paths []) (path_lines (l.i + 1) (drop l.i paths) []) l.next

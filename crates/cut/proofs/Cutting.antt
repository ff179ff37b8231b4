-- The cut item of a path, radio by radio. Assumes nothing.
use mathlib.Core.Path.{◌≡◌, refl}
use mathlib.Core.Bool.{true, false}
use mathlib.Core.List.{List, [], ◌∷◌, map-append}
use Prim.Native.Nat.{ℕ, ◌+◌, ◌≤◌, ◌<◌}
use native.Mathlib.Numerals.{add-one}
use native.Mathlib.Omega.{arith}
use lib.Dec.{eqb}
use lib.ListN.{length, get_or, take, drop, set, drop_of_length-le}
use lib.Seq.{drop-cons, take-suc, take-suc-set}
use Rattle.site.specs.Map.{Site, in_half, out_half}
use Rattle.tokens.specs.Rules.{Entered}
use Rattle.tokens.specs.Run.{at_link, cut_item, item_of, cut_of}
use Rattle.cut.specs.Cut.{Ends}

pub item_of_none : (site : Site) (R : Entered) (radios : List ℕ) → length radios ≡ 0 → 0 ≡ item_of site R radios
unfolding item_of
item_of_none site R [] none = refl
item_of_none site R (u ∷ rest) none = absurd (omega arith)

pub item_starts : (site : Site) (R : Entered) {radios rest : List ℕ} {u : ℕ} → radios ≡ u ∷ rest → item_of site R radios ≡ cut_item site R u rest
unfolding item_of
item_starts site R is = rw is refl

-- so far all halves of the path are entered, and u is the radio before number i of the rest
module _ (site : Site) (R : Entered) (rest : List ℕ) (u i : ℕ) {item : ℕ} (so_far : item ≡ cut_item site R u (drop i rest)) where
  pub item_ends : length rest ≤ i → u ≡ item
  unfolding cut_item
  item_ends l = rw (so_far, drop_of_length-le rest l) refl

  pub leaves_at_link : (s t leaving : ℕ) → Ends s t site → i < length rest → R (in_half (get_or rest i 0)) ≡ false → leaving ≡ at_link (eqb (get_or rest i 0) t) (eqb u s) u (get_or rest i 0) → leaving ≡ item
  unfolding cut_item
  leaves_at_link s t leaving e l out its = rw (its, so_far, drop-cons rest i 0 l, out, e.source, e.sink) refl

  pub leaves_inside : i < length rest → R (in_half (get_or rest i 0)) ≡ true → R (out_half (get_or rest i 0)) ≡ false → get_or rest i 0 ≡ item
  unfolding cut_item
  leaves_inside l into out = rw (so_far, drop-cons rest i 0 l, into, out) refl

  pub stays : i < length rest → R (in_half (get_or rest i 0)) ≡ true → R (out_half (get_or rest i 0)) ≡ true → item ≡ cut_item site R (get_or rest i 0) (drop (i + 1) rest)
  unfolding cut_item
  stays l into out = rw (so_far, add-one, drop-cons rest i 0 l, into, out) refl

-- the items of one path more
pub one_more_item : (site : Site) (R : Entered) (paths : List (List ℕ)) (items : List ℕ) (i item : ℕ) → i < length paths → i < length items → take i items ≡ cut_of site R (take i paths) → item ≡ item_of site R (get_or paths i [])
    → take (i + 1) (set items i item) ≡ cut_of site R (take (i + 1) paths)
one_more_item site R paths items i item l room so_far its =
    rw (add-one, take-suc-set items i item room, so_far, take-suc paths i [] l, map-append (item_of site R) (take i paths) (get_or paths i [] ∷ []), its) refl

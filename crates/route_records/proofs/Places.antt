-- Where a radio stands in a path of different radios, and what its record says of it. Assumes nothing.
use mathlib.Core.Path.{◌≡◌, refl, sym, ap}
use mathlib.Core.Bool.{true}
use mathlib.Core.List.{List, [], ◌∷◌}
use Prim.Native.Nat.{ℕ, zero, suc, ◌<◌}
use native.Mathlib.Omega.{arith}
use native.Mathlib.Decide.{dec_lt}
use lib.Dec.{eqb}
use lib.ListN.{length, get_or}
use borrow.Author.Tests.{eq-eqb, eqb-true}
use Rattle.basics.specs.Counting.{First}
use Rattle.basics.specs.Lists.{among, Different}
use Rattle.basics.proofs.Bools.{clash}
use Rattle.basics.proofs.Counting.{first-from}
use Rattle.basics.proofs.Lists.{among-here, among_there}
use Rattle.route_records.specs.Records.{place_in}

-- what stands at a place is among the list
pub among-at : (list : List ℕ) (i : ℕ) → i < length list → among (get_or list i 0) list ≡ true
among-at [] i below = absurd (omega arith)
among-at (x ∷ list) zero below = among-here x list
among-at (x ∷ list) (suc i) below = among_there _ x list (among-at list i (omega arith))

-- in a list of different numbers each stands at one place
pub one_place : (list : List ℕ) → Different list → (i j : ℕ) → i < length list → j < length list → get_or list i 0 ≡ get_or list j 0 → i ≡ j
one_place [] d i j p q e = absurd (omega arith)
one_place (x ∷ list) d zero zero p q e = refl
one_place (x ∷ list) d zero (suc j) p q e = clash (rw e (among-at list j (omega arith))) d.0
one_place (x ∷ list) d (suc i) zero p q e = clash (rw (sym e) (among-at list i (omega arith))) d.0
one_place (x ∷ list) d (suc i) (suc j) p q e = ap suc (one_place list d.1 i j (omega arith) (omega arith) e)

module _ (path : List ℕ) (v : ℕ) where
  first : First (λ i. eqb (get_or path i 0) v) 0 (length path) (place_in path v)
  first = first-from (λ i. eqb (get_or path i 0) v) 0 (length path) (omega arith)

  -- the radio stands at its place
  pub at_place : place_in path v < length path → get_or path (place_in path v) 0 ≡ v
  at_place there = eqb-true _ _ (first.found there)

  -- and a radio that stands anywhere has a place
  pub has_place : (i : ℕ) → i < length path → get_or path i 0 ≡ v → place_in path v < length path
  has_place i below is = go (dec_lt (place_in path v) (length path))
    where
      go : Dec (place_in path v < length path) → place_in path v < length path
      go (yes l) = l
      go (no ne) = clash (eq-eqb _ _ is) (first.before i (omega arith) (omega (arith, ne, first.within)))

-- a radio at place i has that place, where all are different
pub place_of : (path : List ℕ) → Different path → (i : ℕ) → i < length path → place_in path (get_or path i 0) ≡ i
place_of path d i below =
    let there = has_place path (get_or path i 0) i below refl in
    one_place path d _ i there below (at_place path (get_or path i 0) there)

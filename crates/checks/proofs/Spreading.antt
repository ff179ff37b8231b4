-- A set of radios spread over the rows: each of them gets radio i for a neighbour. Assumes nothing.
use mathlib.Core.Path.{◌≡◌, refl, ap, ◌∙◌}
use mathlib.Core.Bool.{Bool, true, false, not, ◌&&◌, ◌||◌, and-false, or-false}
use mathlib.Core.List.{List}
use Prim.Native.Nat.{ℕ, ◌<◌}
use native.Mathlib.Omega.{arith}
use lib.Dec.{eqb}
use lib.ListN.{get_or}
use borrow.Author.Tests.{eqb-true, eq-eqb, ne_eqb}
use Rattle.basics.specs.Counting.{one_if, count, First}
use Rattle.basics.proofs.Counting.{sum-update}
use Rattle.radios.specs.Member.{member}
use Rattle.radios.proofs.Laws.{member-empty}
use Rattle.site.specs.Limits.{most_radios}
use Rattle.checks.specs.Checked.{joined}

-- the rows on the way: once i joins the rows of the radios that are left as well, it has joined those of the whole set
pub record Spreading (i row : ℕ) (rows now : List ℕ) (rest : ℕ) : Type 0 where
  pub holds : (a b : ℕ) → ((eqb b i && member a rest) || member b (get_or now a 0)) ≡ ((eqb b i && member a row) || member b (get_or rows a 0))

pub swap : (p q z : Bool) → (p || (q || z)) ≡ (q || (p || z))
swap true true z = refl
swap true false z = refl
swap false true z = refl
swap false false z = refl

-- radio v, one of those that are left, leaves them
module _ (rest rest' v : ℕ) (first : First (λ j. member j rest) 0 most_radios v) (below : v < most_radios) (less : (j : ℕ) → member j rest' ≡ (not (eqb j v) && member j rest)) where
  pub spread_less : count (λ j. member j rest') most_radios < count (λ j. member j rest) most_radios
  spread_less =
      omega (arith, sum-update (λ j. one_if (member j rest')) (λ j. one_if (member j rest)) v most_radios below (λ j p ne. rw (less j, ne_eqb j v ne)), ap one_if (first.found below), ap one_if gone)
    where
      gone : member v rest' ≡ false
      gone = less v ∙ rw (eq-eqb v v refl)

  pub spread_more : {i row none : ℕ} {rows now now' : List ℕ} (alone : ℕ) → Spreading i row rows now rest → none ≡ 0 → ((j : ℕ) → member j alone ≡ (eqb j i || member j none))
      → ((a b : ℕ) → member b (get_or now' a 0) ≡ ((eqb a v && member b alone) || member b (get_or now a 0))) → Spreading i row rows now' rest'
  spread_more {i} alone s empty only widened =
      record {
        holds = λ a b.
            rw (less a, widened a b, only b, empty, member-empty b, or-false) (turned (eqb b i) (eqb a v) _ _ (λ e. ap (λ (x : ℕ). member x rest) (eqb-true a v e) ∙ first.found below) ∙ s.holds a b);
      }
    where
      turned : (p q m z : Bool) → (q ≡ true → m ≡ true) → ((p && (not q && m)) || ((q && p) || z)) ≡ ((p && m) || z)
      turned true true m z f = rw (f refl)
      turned false true m z f = refl
      turned p false m z f = refl

-- none is left
pub spread_all : {i row rest : ℕ} {rows now : List ℕ} (before : List ℕ) → ((a b : ℕ) → member b (get_or rows a 0) ≡ ((eqb a i && member b row) || member b (get_or before a 0)))
    → Spreading i row rows now rest → rest ≡ 0 → (a b : ℕ) → member b (get_or now a 0) ≡ joined i row before a b
spread_all {i} {row} before widened s none a b =
    (rw (none, member-empty a, and-false) at (s.holds a b)) ∙ rw (widened a b) (swap (eqb b i && member a row) (eqb a i && member b row) (member b (get_or before a 0)))

-- The number of members of a set: the count of its binary digits that are 1. Assumes nothing.
use mathlib.Core.Path.{◌≡◌, refl, sym, ap, ap₂, ◌∙◌, subst}
use Prim.Native.Nat.{ℕ, zero, suc, ◌+◌, ◌/◌, ◌%◌, ◌^◌, ◌≤◌, ◌<◌}
use native.Mathlib.Nat.{mod-lt, mod-one, mod-eq_of_lt}
use native.Mathlib.Numerals.{one-add}
use lib.Dec.{eqb}
use lib.Pow.{pow_pos, mod-pow-add}
use lib.Count.{ones, ones_cat, ones-le}
use Rattle.basics.specs.Counting.{one_if, sum, count}
use Rattle.radios.specs.Member.{member}
use Rattle.radios.proofs.Laws.{by_digit}

-- the lowest k digits have as many ones as there are members below k
count_low : (k x : ℕ) → ones (x % 2 ^ k) ≡ count (λ j. member j x) k
unfolding ones sum member
count_low zero x = ap ones (mod-one x)
count_low (suc k) x =
    ap (λ (n : ℕ). ones (x % 2 ^ n)) (sym (one-add k)) ∙ ap ones (mod-pow-add x 1 k)
    ∙ ones_cat k (x / 2 ^ k % 2) (x % 2 ^ k) (mod-lt x (pow_pos k))
    ∙ ap₂ ◌+◌ (by_digit (λ d. ones d ≡ one_if (eqb d 1)) refl refl (x / 2 ^ k)) (count_low k x)

-- a number of k digits has as many members as ones
pub count_ones : (k x : ℕ) → x < 2 ^ k → ones x ≡ count (λ j. member j x) k
count_ones k x h = ap ones (sym (mod-eq_of_lt h)) ∙ count_low k x

-- at most k numbers below k are members: what a caller that adds counts needs
pub count-le : (k x : ℕ) → count (λ j. member j x) k ≤ k
count-le k x = subst (λ (n : ℕ). n ≤ k) (count_low k x) (ones-le k (x % 2 ^ k) (mod-lt x (pow_pos k)))

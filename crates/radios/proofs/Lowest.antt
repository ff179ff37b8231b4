-- The first member of a set is its lowest 1: found by counting the zeros below it, also from i on, and taken out by `x & (x - 1)`. Assumes nothing.
use borrow.Author.Tests.{eqb-true, eqb-false, lt-ltb, le-ltb, le-leb, lt-leb}
use mathlib.Core.Path.{◌≡◌, sym, ap, ap₂, ◌∙◌}
use mathlib.Core.Bool.{Bool, true, false, not, ◌&&◌, and_self, true≢false}
use Prim.Native.Nat.{ℕ, zero, suc, ◌+◌, ◌-◌, ◌*◌, ◌/◌, ◌%◌, ◌^◌, ◌≤◌, ◌<◌}
use native.Mathlib.Nat.{mod-eq_of_lt, lt_of_le_of_lt, div-mul-le_self}
use native.Mathlib.Decide.{dec_lt}
use native.Mathlib.Omega.{arith}
use lib.Dec.{eqb, ltb, eqb-zero-suc, eqb-suc-zero, eqb-suc-suc}
use lib.Bits.{bit_and}
use lib.Count.{count_trailing_zeros, under}
use Rattle.basics.specs.Counting.{First}
use Rattle.radios.specs.Member.{member}
use Rattle.radios.proofs.Laws.{by_digit, member-zero, member-suc, member-empty, member-and, member-shr, member-shl, some_member}

-- ---- the zeros

-- from the first member of the upper digits to that of all
first_with_lowest : (k x t : ℕ) → First (λ j. member j (x / 2)) 0 k t → First (λ j. member j x) 0 (suc k) (under (x % 2) t)
first_with_lowest k x t w =
    by_digit (λ d. member zero x ≡ eqb d 1 → First (λ j. member j x) 0 (suc k) (under d t)) even odd x (member-zero x)
  where
    earlier : member zero x ≡ false → (j : ℕ) → j < suc t → member j x ≡ false
    earlier e zero h = e
    earlier e (suc j) h = member-suc j x ∙ w.before j (omega arith) (omega arith)

    even : member zero x ≡ false → First (λ j. member j x) 0 (suc k) (suc t)
    even e =
        record {
          from = omega arith;
          within = omega (arith, w.within);
          before = λ j l h. earlier e j h;
          found = λ h. member-suc t x ∙ w.found (omega arith);
        }

    odd : member zero x ≡ true → First (λ j. member j x) 0 (suc k) zero
    odd e = record { from = omega arith; within = omega arith; before = λ j l h. absurd (omega arith); found = λ h. e }

-- the number of zeros is the first member
pub zeros_first : (k x : ℕ) → First (λ j. member j x) 0 k (count_trailing_zeros k x)
unfolding count_trailing_zeros
zeros_first zero x = record { from = omega arith; within = omega arith; before = λ j l h. absurd (omega arith); found = λ h. absurd (omega arith) }
zeros_first (suc k) x = first_with_lowest k x (count_trailing_zeros k (x / 2)) (zeros_first k (x / 2))

-- an empty set has none
pub empty_first : (x k : ℕ) → x ≡ 0 → First (λ j. member j x) 0 k k
empty_first x k e = record { from = omega arith; within = omega arith; before = λ j l h. ap (member j) e ∙ member-empty j; found = λ h. absurd (omega arith) }

-- and it is below k where the set of k digits is not empty
pub first_below : (k x r : ℕ) → x < 2 ^ k → (x ≡ 0 → ⊥) → First (λ j. member j x) 0 k r → r < k
first_below k x r h ne w = pick (dec_lt r k)
  where
    pick : Dec (r < k) → r < k
    pick (yes l) = l
    pick (no l) = let some = some_member k x h ne in absurd (true≢false (sym some.2 ∙ w.before some.0 (omega arith) (omega (arith, some.1))))

-- ---- the members below i taken out: `(x >> i) << i`

-- those below i are gone
cut_below : (j i y : ℕ) → j < i → member j (y * 2 ^ i) ≡ false
cut_below j i y h = member-shl j i y ∙ simp (lt-leb i j h)

-- those from i on are kept
cut_keeps : (j i x : ℕ) → i ≤ j → member j (x / 2 ^ i * 2 ^ i) ≡ member j x
cut_keeps j i x h =
    let e : i + (j - i) ≡ j = omega arith in
    member-shl j i (x / 2 ^ i) ∙ simp (le-leb i j h) (member-shr (j - i) i x ∙ ap (λ (n : ℕ). member n x) e)

-- what is left, as the machine computes it
pub member-from : (x i j : ℕ) → x < 2 ^ 64 → member j ((x / 2 ^ i * 2 ^ i) % 2 ^ 64) ≡ (not (ltb j i) && member j x)
member-from x i j hx = ap (member j) (mod-eq_of_lt (lt_of_le_of_lt (div-mul-le_self x (2 ^ i)) hx)) ∙ pick (dec_lt j i)
  where
    pick : Dec (j < i) → member j (x / 2 ^ i * 2 ^ i) ≡ (not (ltb j i) && member j x)
    pick (yes l) = cut_below j i (x / 2 ^ i) l ∙ sym (ap (λ (b : Bool). not b && member j x) (lt-ltb j i l))
    pick (no n) = cut_keeps j i x (omega arith) ∙ sym (ap (λ (b : Bool). not b && member j x) (le-ltb j i (omega arith)))

-- ---- the first member taken out: `x & (x - 1)`

-- a set with a member is not 0, so that 1 can be taken from it
pub member-positive : (v x : ℕ) → member v x ≡ true → 1 ≤ x
member-positive v zero e = absurd (true≢false (sym e ∙ member-empty v))
member-positive v (suc x) e = omega arith

-- digit by digit: above the lowest 1 both numbers agree, at it x - 1 has a 0, below it x has zeros
less_lowest : (v x : ℕ) → ((j : ℕ) → j < v → member j x ≡ false) → member v x ≡ true
    → (j : ℕ) → (member j x && member j (x - 1)) ≡ (not (eqb j v) && member j x)
less_lowest zero x before found zero =
    let odd : x % 2 ≡ 1 = eqb-true (x % 2) 1 (sym (member-zero x) ∙ found) in
    let even : (x - 1) % 2 ≡ 0 = omega arith in
    ap₂ ◌&&◌ found (member-zero (x - 1) ∙ ap (λ (n : ℕ). eqb n 1) even)
less_lowest zero x before found (suc j) =
    let odd : x % 2 ≡ 1 = eqb-true (x % 2) 1 (sym (member-zero x) ∙ found) in
    let half : (x - 1) / 2 ≡ x / 2 = omega arith in
    ap (λ (b : Bool). member (suc j) x && b) (member-suc j (x - 1) ∙ ap (member j) half ∙ sym (member-suc j x))
    ∙ and_self (member (suc j) x)
    ∙ sym (ap (λ (b : Bool). not b && member (suc j) x) (eqb-suc-zero j))
less_lowest (suc v) x before found zero =
    let e : member zero x ≡ false = before zero (omega arith) in
    ap (λ (b : Bool). b && member zero (x - 1)) e ∙ sym (ap₂ (λ (b d : Bool). not b && d) (eqb-zero-suc v) e)
less_lowest (suc v) x before found (suc j) =
    let even : x % 2 ≡ 1 → ⊥ = eqb-false (x % 2) 1 (sym (member-zero x) ∙ before zero (omega arith)) in
    let half : (x - 1) / 2 ≡ x / 2 - 1 = omega arith in
    ap₂ ◌&&◌ (member-suc j x) (member-suc j (x - 1) ∙ ap (member j) half)
    ∙ less_lowest v (x / 2) (λ i l. sym (member-suc i x) ∙ before (suc i) (omega arith)) (sym (member-suc v x) ∙ found) j
    ∙ sym (ap₂ (λ (b d : Bool). not b && d) (eqb-suc-suc j v) (member-suc j x))

-- and so for the whole number
pub member-less-first : (v x : ℕ) → First (λ j. member j x) 0 64 v → v < 64 → (j : ℕ) → member j (bit_and x (x - 1)) ≡ (not (eqb j v) && member j x)
member-less-first v x w h j = member-and j x (x - 1) ∙ less_lowest v x (λ i l. w.before i (omega arith) l) (w.found h) j

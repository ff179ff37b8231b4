-- The laws of `member`: which members a number has, when two sets are equal, and what each operation on numbers does to the set. Assumes nothing.
use mathlib.Core.Path.{◌≡◌, refl, sym, ap, ◌∙◌}
use mathlib.Core.Bool.{Bool, true, false, not, cond, ◌&&◌, ◌||◌}
use Prim.Native.Nat.{ℕ, zero, suc, ◌+◌, ◌-◌, ◌*◌, ◌/◌, ◌%◌, ◌^◌, ◌≤◌, ◌<◌, min, max}
use native.Mathlib.Nat.{pow-suc, mod-lt, div-one, zero-div, div-eq_of_lt, lt_of_lt_of_le}
use native.Mathlib.Numerals.{one-add}
use native.Mathlib.Decide.{dec_lt}
use native.Mathlib.Omega.{arith}
use lib.Dec.{eqb, leb, eqb-zero-suc, eqb-suc-zero, eqb-suc-suc, lit<}
use lib.Arith.{digits_mod}
use lib.Pow.{pow_mono, shr-shr, shl-shr, shl_exact}
use lib.Bits.{bit_and, bit_or, bit_xor, differ, and_step, or_step, xor_step, and_shr, or_shr, xor_shr, shifted_half, shifted_even}
use borrow.Author.Tests.{le-leb, lt-leb}
use Rattle.radios.specs.Member.{member}

-- ---- one digit

-- what holds of 0 and of 1 holds of every binary digit
pub by_digit : (P : ℕ → Type 0) → P 0 → P 1 → (x : ℕ) → P (x % 2)
by_digit P p0 p1 x = go (x % 2) (mod-lt x (lit< tt))
  where
    go : (d : ℕ) → d < 2 → P d
    go zero h = p0
    go (suc zero) h = p1
    go (suc (suc d)) h = absurd (omega arith)

-- and so for two digits
by_two_digits : (P : ℕ → ℕ → Type 0) → P 0 0 → P 0 1 → P 1 0 → P 1 1 → (x y : ℕ) → P (x % 2) (y % 2)
by_two_digits P p00 p01 p10 p11 x y = by_digit (λ d. P d (y % 2)) (by_digit (P 0) p00 p01 y) (by_digit (P 1) p10 p11 y) x

-- ---- the members of a number

-- 0 is a member if the lowest digit is a 1
pub member-zero : (x : ℕ) → member zero x ≡ eqb (x % 2) 1
unfolding member
member-zero x = ap (λ (n : ℕ). eqb (n % 2) 1) (div-one x)

-- a shift to the right takes i from each member
pub member-shr : (m i x : ℕ) → member m (x / 2 ^ i) ≡ member (i + m) x
unfolding member
member-shr m i x = ap (λ (n : ℕ). eqb (n % 2) 1) (shr-shr x i m)

-- a number above 0 is a member if it is one, less 1, of the upper digits
pub member-suc : (i x : ℕ) → member (suc i) x ≡ member i (x / 2)
member-suc i x = sym (member-shr i 1 x ∙ ap (λ (n : ℕ). member n x) (one-add i))

-- the empty set has no member
pub member-empty : (i : ℕ) → member i 0 ≡ false
unfolding member
member-empty i = ap (λ (n : ℕ). eqb (n % 2) 1) (zero-div (2 ^ i))

-- a number of k digits has no member from k on
pub member-high : (k i x : ℕ) → x < 2 ^ k → k ≤ i → member i x ≡ false
unfolding member
member-high k i x h l = ap (λ (n : ℕ). eqb (n % 2) 1) (div-eq_of_lt (lt_of_lt_of_le h (pow_mono l)))

-- a number of k digits that is not 0 has a member below k
pub some_member : (k x : ℕ) → x < 2 ^ k → (x ≡ 0 → ⊥) → (v : ℕ) × (v < k) × (member v x ≡ true)
some_member zero x h ne = absurd (ne (omega arith))
some_member (suc k) x h ne =
    by_digit (λ d. x % 2 ≡ d → (v : ℕ) × (v < suc k) × (member v x ≡ true))
    (λ e. let w = some_member k (x / 2) (omega (arith, pow-suc 2 k)) (λ d. ne (omega arith)) in (suc w.0, omega (arith, w.1), member-suc w.0 x ∙ w.2))
    (λ e. (zero, omega arith, member-zero x ∙ ap (λ (n : ℕ). eqb n 1) e))
    x
    refl

-- ---- and, or, one and not the other

-- an operation that works digit by digit, by f, works member by member, by g
digitwise : (op f : ℕ → ℕ → ℕ) (g : Bool → Bool → Bool)
    → ((a b k : ℕ) → op a b / 2 ^ k ≡ op (a / 2 ^ k) (b / 2 ^ k))
    → ((a b : ℕ) → op a b ≡ op (a / 2) (b / 2) * 2 + f (a % 2) (b % 2))
    → ((a b : ℕ) → f (a % 2) (b % 2) < 2)
    → ((a b : ℕ) → eqb (f (a % 2) (b % 2)) 1 ≡ g (eqb (a % 2) 1) (eqb (b % 2) 1))
    → (i a b : ℕ) → member i (op a b) ≡ g (member i a) (member i b)
unfolding member
digitwise op f g shr step digit test i a b =
    let p : ℕ = a / 2 ^ i in
    let q : ℕ = b / 2 ^ i in
    ap (λ (n : ℕ). eqb (n % 2) 1) (shr a b i ∙ step p q) ∙ ap (λ (n : ℕ). eqb n 1) (digits_mod (op (p / 2) (q / 2)) (digit p q)) ∙ test p q

-- what is in both
pub member-and : (i a b : ℕ) → member i (bit_and a b) ≡ (member i a && member i b)
member-and =
    digitwise bit_and min ◌&&◌ and_shr and_step (λ a b. omega arith)
    (by_two_digits (λ d e. eqb (min d e) 1 ≡ (eqb d 1 && eqb e 1)) refl refl refl refl)

-- what is in either
pub member-or : (i a b : ℕ) → member i (bit_or a b) ≡ (member i a || member i b)
member-or =
    digitwise bit_or max ◌||◌ or_shr or_step (λ a b. omega arith)
    (by_two_digits (λ d e. eqb (max d e) 1 ≡ (eqb d 1 || eqb e 1)) refl refl refl refl)

-- what is in one and not in the other: those of a, with those of b changed about
pub member-xor : (i a b : ℕ) → member i (bit_xor a b) ≡ cond (member i b) (not (member i a)) (member i a)
member-xor =
    digitwise bit_xor differ (λ p q. cond q (not p) p) xor_shr xor_step (by_two_digits (λ d e. differ d e < 2) (lit< tt) (lit< tt) (lit< tt) (lit< tt))
    (by_two_digits (λ d e. eqb (differ d e) 1 ≡ cond (eqb e 1) (not (eqb d 1)) (eqb d 1)) refl refl refl refl)

-- ---- the complement in k digits

-- below k the complement has what the set has not
member-not : (k i y : ℕ) → y < 2 ^ k → i < k → member i ((2 ^ k - 1) - y) ≡ not (member i y)
member-not zero i y h l = absurd (omega arith)
member-not (suc k) zero y h l =
    let z : ℕ = (2 ^ suc k - 1) - y in
    member-zero z
    ∙ by_two_digits (λ d e. d + e ≡ 1 → eqb d 1 ≡ not (eqb e 1)) (λ q. absurd (omega arith)) (λ q. refl) (λ q. refl) (λ q. absurd (omega arith)) z y
    (omega (arith, pow-suc 2 k))
    ∙ ap not (sym (member-zero y))
member-not (suc k) (suc i) y h l =
    let half : ((2 ^ suc k - 1) - y) / 2 ≡ (2 ^ k - 1) - y / 2 = omega (arith, pow-suc 2 k) in
    member-suc i ((2 ^ suc k - 1) - y) ∙ ap (member i) half
    ∙ member-not k i (y / 2) (omega (arith, pow-suc 2 k)) (omega arith)
    ∙ ap not (sym (member-suc i y))

-- what is in x and not in y, for sets of numbers below k. From k on both sides are false
pub member-and-not : (k i x y : ℕ) → x < 2 ^ k → y < 2 ^ k → member i (bit_and x ((2 ^ k - 1) - y)) ≡ (member i x && not (member i y))
member-and-not k i x y hx hy = member-and i x ((2 ^ k - 1) - y) ∙ pick (dec_lt i k)
  where
    pick : Dec (i < k) → (member i x && member i ((2 ^ k - 1) - y)) ≡ (member i x && not (member i y))
    pick (yes l) = ap (λ (b : Bool). member i x && b) (member-not k i y hy l)
    pick (no n) =
        let e : member i x ≡ false = member-high k i x hx (omega arith) in
        ap (λ (b : Bool). b && member i ((2 ^ k - 1) - y)) e ∙ sym (ap (λ (b : Bool). b && not (member i y)) e)

-- ---- shifts to the left

-- a shift to the left leaves the lowest digit a 0
member-shl-zero : (y i : ℕ) → member zero (y * 2 ^ suc i) ≡ false
member-shl-zero y i = member-zero (y * 2 ^ suc i) ∙ ap (λ (n : ℕ). eqb n 1) (shifted_even y i)

-- and moves each member up by one
member-shl-suc : (j y i : ℕ) → member (suc j) (y * 2 ^ suc i) ≡ member j (y * 2 ^ i)
member-shl-suc j y i = member-suc j (y * 2 ^ suc i) ∙ ap (member j) (shifted_half y i)

-- so none below i is left, and i is added to each member
shl_below : (j i y : ℕ) → j < i → member j (y * 2 ^ i) ≡ false
shl_below j zero y h = absurd (omega arith)
shl_below zero (suc i) y h = member-shl-zero y i
shl_below (suc j) (suc i) y h = member-shl-suc j y i ∙ shl_below j i y (omega arith)

pub member-shl : (j i y : ℕ) → member j (y * 2 ^ i) ≡ (leb i j && member (j - i) y)
member-shl j i y = pick (dec_lt j i)
  where
    pick : Dec (j < i) → member j (y * 2 ^ i) ≡ (leb i j && member (j - i) y)
    pick (yes l) = simp (lt-leb i j l) (shl_below j i y l)
    pick (no l) =
        let e : i + (j - i) ≡ j = omega arith in
        simp (le-leb i j (omega arith)) (sym (member-shr (j - i) i (y * 2 ^ i) ∙ ap (λ (n : ℕ). member n (y * 2 ^ i)) e) ∙ ap (member (j - i)) (shl-shr y i))

-- a power of two is the set of its exponent alone
member-power : (i j : ℕ) → member j (1 * 2 ^ i) ≡ eqb j i
unfolding member
member-power zero zero = refl
member-power zero (suc j) = member-suc j 1 ∙ member-empty j ∙ sym (eqb-suc-zero j)
member-power (suc i) zero = member-shl-zero 1 i ∙ sym (eqb-zero-suc i)
member-power (suc i) (suc j) = member-shl-suc j 1 i ∙ member-power i j ∙ sym (eqb-suc-suc j i)

-- and so is `1 << i`, as the machine computes it
pub member-one : (i j : ℕ) → i < 64 → member j ((1 * 2 ^ i) % 2 ^ 64) ≡ eqb j i
member-one i j h = ap (member j) (shl_exact 1 i 64 (lit< tt) (omega arith)) ∙ member-power i j

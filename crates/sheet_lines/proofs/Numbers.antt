-- Numbers in decimal: their digits, how many there are, and that they are what the library prints. Assumes nothing.
use mathlib.Core.Path.{◌≡◌, refl, sym, ap, ◌∙◌}
use mathlib.Core.Bool.{Bool, true, false}
use mathlib.Core.List.{List, [], ◌∷◌, ◌++◌}
use Prim.Native.Nat.{ℕ, zero, suc, ◌+◌, ◌/◌, ◌%◌, ◌^◌, ◌≤◌, ◌<◌}
use native.Mathlib.Decide.{dec_lt}
use native.Mathlib.Omega.{arith}
use lib.Dec.{ltb}
use lib.ListN.{length}
use borrow.Author.Tests.{lt-ltb, le-ltb}
use Rattle.basics.proofs.Bools.{clash}
use Rattle.captures.specs.Text.{digits, decimal}
use Rattle.std.specs.Fmt.{decimal as printed}
use Rattle.std.proofs.lemmas.Fmt.{decimal_from_appends, length-decimal-le, length-decimal-le_succ}

-- ---- the last digit, and those before it

few : (f x : ℕ) → x < 10 → digits (suc f) x ≡ (48 + x) ∷ []
unfolding digits
few f x h = go (ltb x 10) (lt-ltb x 10 h)
  where
    go : (b : Bool) → b ≡ true → elim b [ true ↦ (48 + x) ∷ [] | false ↦ digits f (x / 10) ++ ((48 + x % 10) ∷ []) ] ≡ (48 + x) ∷ []
    go true e = refl
    go false e = clash e refl

more : (f x : ℕ) → 10 ≤ x → digits (suc f) x ≡ digits f (x / 10) ++ ((48 + x % 10) ∷ [])
unfolding digits
more f x h = go (ltb x 10) (le-ltb x 10 h)
  where
    go : (b : Bool) → b ≡ false → elim b [ true ↦ (48 + x) ∷ [] | false ↦ digits f (x / 10) ++ ((48 + x % 10) ∷ []) ] ≡ digits f (x / 10) ++ ((48 + x % 10) ∷ [])
    go true e = clash refl e
    go false e = refl

-- any fuel above the number gives the same digits
enough : (f g x : ℕ) → x < f → x < g → digits f x ≡ digits g x
enough zero g x h k = absurd (omega arith)
enough (suc f) zero x h k = absurd (omega arith)
enough (suc f) (suc g) x h k = pick (dec_lt x 10) (λ l. enough f g (x / 10) (omega arith) (omega arith))
  where
    pick : Dec (x < 10) → (10 ≤ x → digits f (x / 10) ≡ digits g (x / 10)) → digits (suc f) x ≡ digits (suc g) x
    pick (yes l) same = few f x l ∙ sym (few g x l)
    pick (no l) same = more f x (omega arith) ∙ ap (λ (front : List ℕ). front ++ ((48 + x % 10) ∷ [])) (same (omega arith)) ∙ sym (more g x (omega arith))

pub one_digit : (x : ℕ) → x < 10 → decimal x ≡ (48 + x) ∷ []
one_digit x h = few x x h

pub last_digit : (x : ℕ) → 10 ≤ x → decimal x ≡ decimal (x / 10) ++ ((48 + x % 10) ∷ [])
last_digit x h = more x x h ∙ ap (λ (front : List ℕ). front ++ ((48 + x % 10) ∷ [])) (enough x (suc (x / 10)) (x / 10) (omega arith) (omega arith))

-- ---- the library prints the same digits

pub as_printed : (x : ℕ) → x < 2 ^ 64 → printed x ≡ decimal x
as_printed x h = sym (decimal_from_appends digits (record { one = few; more = more }) (suc x) x h (omega (arith, length-decimal-le_succ x h)))

-- ---- how many digits

few_digits : (k x : ℕ) → 0 < k → x < 10 ^ k → x < 2 ^ 64 → length (decimal x) ≤ k
few_digits k x h below l = rw (← as_printed x l) (length-decimal-le k x h below l)

pub digits-below-100 : (x : ℕ) → x < 100 → length (decimal x) ≤ 2
digits-below-100 x h = few_digits 2 x (omega arith) h (omega arith)

pub digits-below-1000 : (x : ℕ) → x < 1000 → length (decimal x) ≤ 3
digits-below-1000 x h = few_digits 3 x (omega arith) h (omega arith)

pub digits-below-100000 : (x : ℕ) → x < 100000 → length (decimal x) ≤ 5
digits-below-100000 x h = few_digits 5 x (omega arith) h (omega arith)

-- the largest number that a machine word holds has twenty
pub digits_of_word : (x : ℕ) → x < 2 ^ 64 → length (decimal x) ≤ 20
digits_of_word x h = few_digits 20 x (omega arith) (omega arith) h

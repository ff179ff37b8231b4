-- A number in decimal is read as that number. Assumes nothing.
use mathlib.Core.Path.{◌≡◌, refl, sym, ap, ◌∙◌}
use mathlib.Core.Bool.{Bool, true, not, ◌&&◌, ◌||◌, and_assoc}
use mathlib.Core.List.{List, [], ◌∷◌, ◌++◌}
use Prim.Native.Nat.{ℕ, zero, suc, ◌+◌, ◌-◌, ◌*◌, ◌/◌, ◌%◌, ◌≤◌, ◌<◌}
use native.Mathlib.Decide.{dec_lt}
use native.Mathlib.Omega.{arith}
use lib.Dec.{eqb}
use lib.ListN.{length, get_or, length-append, get_or-append}
use borrow.Author.Tests.{eq-eqb, ne_eqb, le-ltb}
use Rattle.basics.proofs.Bools.{or_left, or_right}
use Rattle.captures.specs.Text.{all_digits, is_digit, value, is_number, most_number, decimal}
use Rattle.captures.proofs.Fields.{digit_between}
use Rattle.sheet_lines.proofs.Numbers.{one_digit, last_digit}

-- what holds of the numbers with one digit, and of each other number if it holds of the number without its last digit
by_digits : (P : ℕ → Type 0) → ((x : ℕ) → x < 10 → P x) → ((x : ℕ) → 10 ≤ x → P (x / 10) → P x) → (x : ℕ) → P x
by_digits P one more x = go (suc x) x (omega arith)
  where
    go : (f x : ℕ) → x < f → P x
    go zero x h = absurd (omega arith)
    go (suc f) x h = pick (dec_lt x 10) (λ l. go f (x / 10) (omega arith))
      where
        pick : Dec (x < 10) → (10 ≤ x → P (x / 10)) → P x
        pick (yes l) shorter = one x l
        pick (no l) shorter = more x (omega arith) (shorter (omega arith))

-- ---- all bytes are digits

digits_append : (front back : List ℕ) → all_digits (front ++ back) ≡ (all_digits front && all_digits back)
unfolding all_digits
digits_append [] back = refl
digits_append (x ∷ front) back = ap (λ (b : Bool). is_digit x && b) (digits_append front back) ∙ sym (and_assoc (is_digit x) (all_digits front) (all_digits back))

pub decimal-digits : (x : ℕ) → all_digits (decimal x) ≡ true
unfolding all_digits
decimal-digits = by_digits (λ x. all_digits (decimal x) ≡ true) one more
  where
    one : (x : ℕ) → x < 10 → all_digits (decimal x) ≡ true
    one x h = rw (one_digit x h, digit_between (48 + x) (omega arith) (omega arith))

    more : (x : ℕ) → 10 ≤ x → all_digits (decimal (x / 10)) ≡ true → all_digits (decimal x) ≡ true
    more x h shorter =
        rw (last_digit x h, digits_append (decimal (x / 10)) ((48 + x % 10) ∷ []), shorter, digit_between (48 + x % 10) (omega arith) (omega arith))

-- ---- they say the number

value-last : (before : ℕ) (front : List ℕ) (x : ℕ) → value before (front ++ (x ∷ [])) ≡ 10 * value before front + (x - 48)
unfolding value
value-last before [] x = refl
value-last before (y ∷ front) x = value-last (10 * before + (y - 48)) front x

pub decimal-value : (x : ℕ) → value 0 (decimal x) ≡ x
unfolding value
decimal-value = by_digits (λ x. value 0 (decimal x) ≡ x) one more
  where
    one : (x : ℕ) → x < 10 → value 0 (decimal x) ≡ x
    one x h = rw (one_digit x h) (omega arith)

    more : (x : ℕ) → 10 ≤ x → value 0 (decimal (x / 10)) ≡ x / 10 → value 0 (decimal x) ≡ x
    more x h shorter = rw (last_digit x h, value-last 0 (decimal (x / 10)) (48 + x % 10), shorter) (omega arith)

-- ---- no leading zero

record Begins (x : ℕ) : Type 0 where
  some : 0 < length (decimal x)
  first : 0 < x → 48 < get_or (decimal x) 0 0

begins : (x : ℕ) → Begins x
begins = by_digits Begins one more
  where
    one : (x : ℕ) → x < 10 → Begins x
    one x h = record { some = omega (arith, ap length (one_digit x h)); first = λ p. omega (arith, ap (λ (bytes : List ℕ). get_or bytes 0 0) (one_digit x h)) }

    more : (x : ℕ) → 10 ≤ x → Begins (x / 10) → Begins x
    more x h shorter =
        record {
          some = omega (arith, shorter.some, ap length (last_digit x h), length-append (decimal (x / 10)) ((48 + x % 10) ∷ []));
          first = λ p.
              omega (
                arith,
                shorter.first (omega arith),
                ap (λ (bytes : List ℕ). get_or bytes 0 0) (last_digit x h),
                get_or-append (decimal (x / 10)) ((48 + x % 10) ∷ []) 0 0 shorter.some,
              );
        }

pub decimal-number : (x : ℕ) → x ≤ most_number → is_number (decimal x) ≡ true
decimal-number x most =
    simp (ne_eqb (length (decimal x)) 0 (λ e. omega (arith, (begins x).some)), decimal-digits x, no_zero (dec_lt x 10), decimal-value x, le-ltb most_number x most)
  where
    no_zero : Dec (x < 10) → (eqb (length (decimal x)) 1 || not (eqb (get_or (decimal x) 0 0) 48)) ≡ true
    no_zero (yes l) = or_left (eqb (length (decimal x)) 1) (not (eqb (get_or (decimal x) 0 0) 48)) (eq-eqb (length (decimal x)) 1 (ap length (one_digit x l)))
    no_zero (no l) = or_right (eqb (length (decimal x)) 1) (not (eqb (get_or (decimal x) 0 0) 48)) (rw (ne_eqb (get_or (decimal x) 0 0) 48 (λ e. omega (arith, (begins x).first (omega arith)))))

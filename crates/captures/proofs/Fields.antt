-- Words and numbers byte by byte: what is known of a field after each byte. Assumes nothing.
use mathlib.Core.Path.{◌≡◌, refl, ap, ap₂, ◌∙◌}
use mathlib.Core.Bool.{Bool, true, false, not, ◌&&◌, ◌||◌, and-false}
use mathlib.Core.List.{List, [], ◌∷◌}
use Prim.Native.Nat.{ℕ, ◌+◌, ◌-◌, ◌*◌, ◌≤◌, ◌<◌}
use native.Mathlib.Numerals.{add-one}
use native.Mathlib.Omega.{arith}
use lib.Dec.{eqb}
use lib.ListN.{length, get_or, drop}
use lib.Seq.{drop-cons}
use borrow.Author.Tests.{eq-eqb, ne_eqb, eqb-true, lt-ltb, le-ltb}
use Rattle.basics.proofs.Bools.{clash, and_left, and_right}
use lib.Pointwise.{pointwise}
use Rattle.std.proofs.Common.{Some, None, rules, tests}
use Rattle.std.specs.Char.{is_ascii_digit}
use Rattle.captures.specs.Text.{same, is_digit, all_digits, value, most_number, number_of}

-- ---- words

-- the same bytes, as `==` tells it
pub same_told : (field word : List ℕ) → pointwise eqb field word ≡ same field word
unfolding same
same_told [] [] = refl
same_told [] (y ∷ word) = refl
same_told (x ∷ field) [] = refl
same_told (x ∷ field) (y ∷ word) = ap (λ (b : Bool). eqb x y && b) (same_told field word)

-- and a word is known by its bytes
pub same-is : (field word : List ℕ) → same field word ≡ true → field ≡ word
unfolding same
same-is [] [] e = refl
same-is [] (y ∷ word) e = clash e refl
same-is (x ∷ field) [] e = clash e refl
same-is (x ∷ field) (y ∷ word) e = ap₂ (λ (z : ℕ) (rest : List ℕ). z ∷ rest) (eqb-true x y (and_left (eqb x y) (same field word) e)) (same-is field word (and_right (eqb x y) (same field word) e))

-- ---- numbers

-- digits are the bytes from 48 to 57
pub digit_between : (x : ℕ) → 48 ≤ x → x ≤ 57 → is_digit x ≡ true
digit_between x p q = rw (le-ltb x 48 p, lt-ltb x 58 (omega arith))

pub digit_told : (x : ℕ) → is_ascii_digit x ≡ is_digit x
digit_told x = search (rules, tests)

-- one more byte of a number
value-at : (before : ℕ) (bytes : List ℕ) (i : ℕ) → i < length bytes → value before (drop i bytes) ≡ value (10 * before + (get_or bytes i 0 - 48)) (drop (i + 1) bytes)
unfolding value
value-at before bytes i p = rw (add-one, drop-cons bytes i 0 p)

digits-at : (bytes : List ℕ) (i : ℕ) → i < length bytes → all_digits (drop i bytes) ≡ (is_digit (get_or bytes i 0) && all_digits (drop (i + 1) bytes))
unfolding all_digits
digits-at bytes i p = rw (add-one, drop-cons bytes i 0 p)

-- digits after a number never make it smaller
value_grows : (before : ℕ) (bytes : List ℕ) → before ≤ value before bytes
unfolding value
value_grows before [] = omega arith
value_grows before (x ∷ bytes) = omega (arith, value_grows (10 * before + (x - 48)) bytes)

-- what is known before byte i: `so_far` is what the bytes before it say, and they are digits
pub record NumberRead (field : List ℕ) (so_far i : ℕ) : Type 0 where
  pub within : i ≤ length field
  pub small : so_far ≤ most_number
  pub says : value 0 field ≡ value so_far (drop i field)
  pub digits : all_digits field ≡ all_digits (drop i field)

module _ (field : List ℕ) (so_far i : ℕ) (known : NumberRead field so_far i) (more : i < length field) where
  abbrev pub then : ℕ
  then = 10 * so_far + (get_or field i 0 - 48)

  pub read_more : is_digit (get_or field i 0) ≡ true → then ≤ most_number → NumberRead field then (i + 1)
  read_more digit small =
      record {
        within = omega arith;
        small = small;
        says = known.says ∙ value-at so_far field i more;
        digits = known.digits ∙ digits-at field i more ∙ ap (λ (b : Bool). b && all_digits (drop (i + 1) field)) digit;
      }

  -- a byte that is no digit
  pub no_digit : is_digit (get_or field i 0) ≡ false → number_of field ≡ None
  unfolding number_of
  no_digit digit =
      let none : all_digits field ≡ false = known.digits ∙ digits-at field i more ∙ ap (λ (b : Bool). b && all_digits (drop (i + 1) field)) digit in
      simp (none, and-false)

  -- a number that is too large whatever follows
  pub too_large : most_number < then → number_of field ≡ None
  unfolding number_of
  too_large large =
      let most : most_number < value 0 field = omega (arith, known.says, value-at so_far field i more, value_grows then (drop (i + 1) field)) in
      simp (lt-ltb most_number (value 0 field) most, and-false)

-- every byte read
pub all_read : (field : List ℕ) (so_far i : ℕ) → NumberRead field so_far i → drop i field ≡ [] → (length field ≡ 0 → ⊥)
    → (eqb (length field) 1 || not (eqb (get_or field 0 0) 48)) ≡ true → number_of field ≡ Some so_far
unfolding number_of value all_digits
all_read field so_far i known end some first =
    let said : value 0 field ≡ so_far = known.says ∙ ap (value so_far) end in
    let digits : all_digits field ≡ true = known.digits ∙ ap all_digits end in
    simp (said, digits, first, ne_eqb (length field) 0 some, le-ltb most_number so_far known.small)

-- nothing, or a leading zero
pub no_bytes : (field : List ℕ) → length field ≡ 0 → number_of field ≡ None
unfolding number_of
no_bytes field e = simp (eq-eqb (length field) 0 e)

pub leading_zero : (field : List ℕ) → (length field ≡ 1 → ⊥) → eqb (get_or field 0 0) 48 ≡ true → number_of field ≡ None
unfolding number_of
leading_zero field d e = simp (ne_eqb (length field) 1 d, e, and-false)

-- Lines, fields and numbers: what a text is made of.
use Rattle.std.specs.Prelude.{Bool, true, false, not, ◌&&◌, ◌||◌, cond, Option, None, Some, List, [], ◌∷◌, ◌++◌, ℕ, zero, suc, ◌+◌, ◌-◌, ◌*◌, ◌/◌, ◌%◌, eqb, ltb, length, get_or}
use Rattle.std.specs.List.{slice_split}

-- ---- pieces between separators

-- what stands between the separators; without one the whole is one piece
unfoldable pub pieces : ℕ → List ℕ → List (List ℕ)
pieces separator bytes = slice_split (λ x. eqb x separator) bytes

-- the same bytes
unfoldable pub same : List ℕ → List ℕ → Bool
same [] [] = true
same [] (y ∷ others) = false
same (x ∷ bytes) [] = false
same (x ∷ bytes) (y ∷ others) = eqb x y && same bytes others

-- ---- numbers: 0 to 65535 in decimal without leading zeros

abbrev pub is_digit : ℕ → Bool
is_digit x = not (ltb x 48) && ltb x 58

unfoldable pub all_digits : List ℕ → Bool
all_digits [] = true
all_digits (x ∷ bytes) = is_digit x && all_digits bytes

-- the number that digits say after a number
unfoldable pub value : ℕ → List ℕ → ℕ
value before [] = before
value before (x ∷ bytes) = value (10 * before + (x - 48)) bytes

abbrev pub most_number : ℕ
most_number = 65535

-- some digits, the first of them no 0 unless it is the only one, that say no more than 65535
abbrev pub is_number : List ℕ → Bool
is_number bytes = not (eqb (length bytes) 0) && all_digits bytes && (eqb (length bytes) 1 || not (eqb (get_or bytes 0 0) 48)) && not (ltb most_number (value 0 bytes))

-- the number that a field says, if it is one
unfoldable pub number_of : List ℕ → Option ℕ
number_of bytes = cond (is_number bytes) (Some (value 0 bytes)) None

-- ---- a number in decimal

unfoldable pub digits : ℕ → ℕ → List ℕ
digits zero x = []
digits (suc f) x = elim (ltb x 10) [ true ↦ (48 + x) ∷ [] | false ↦ digits f (x / 10) ++ ((48 + x % 10) ∷ []) ]

abbrev pub decimal : ℕ → List ℕ
decimal x = digits (suc x) x

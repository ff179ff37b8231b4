-- What the contracts of this crate say of a text and its first separator, and of the numbers in a text.
use Rattle.std.specs.Prelude.{◌≡◌, ◌&&◌, cond, Option, None, Some, List, ◌∷◌, ◌++◌, map, ℕ, eqb, length, MatchOption}
use Rattle.std.specs.List.{list_all}
use Rattle.captures.specs.Words.{tab}
use Rattle.captures.specs.Text.{pieces, value, is_number}

-- the one stands before the first separator, the other after it
pub record Parted (separator : ℕ) (bytes front rest : List ℕ) : Type 0 where
  pub whole : bytes ≡ front ++ (separator ∷ rest)
  pub parted : pieces separator bytes ≡ front ∷ pieces separator rest

-- what fields say, if they are so many numbers
abbrev pub numbers_in : ℕ → List (List ℕ) → Option (List ℕ)
numbers_in n fields = cond (eqb (length fields) n && list_all is_number fields) (Some (map (value 0) fields)) None

-- what the fields of a text say
unfoldable pub numbers_of : ℕ → List ℕ → Option (List ℕ)
numbers_of n text = numbers_in n (pieces tab text)

-- the list was filled with so many numbers that the fields of a text say, or the fields are something else
abbrev pub Filled : List ℕ → ℕ → Option (Unit {0}) → List ℕ → Type 0
Filled text n result numbers = MatchOption result (numbers_of n text ≡ None) (λ done. numbers_of n text ≡ Some numbers)

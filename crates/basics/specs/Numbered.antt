-- Numbered conditions, as a table of refusals has them, and the law by which they give a number.
use Rattle.std.specs.Prelude.{◌≡◌, List, [], ◌∷◌, ◌⊎◌, ◌↔◌, ℕ}

-- from top to bottom, each with its number; a number may stand at several places
abbrev pub Conditions : Type 1
Conditions = List (ℕ × Type 0)

-- they give number c: its own condition holds, and none before it does
abbrev pub Gives : Conditions → ℕ → Type 0
Gives [] c = ⊥
Gives (first ∷ rest) c = ((c ≡ first.0) × first.1) ⊎ ((first.1 → ⊥) × Gives rest c)

-- none of them holds
abbrev pub NoneHolds : Conditions → Type 0
NoneHolds [] = Unit
NoneHolds (first ∷ rest) = (first.1 → ⊥) × NoneHolds rest

-- the law: a number is given exactly when its own condition holds and none before it does, 0 exactly when none holds
pub record Lawful {Answer : Type 0} (number : Answer → ℕ) (conditions : Conditions) (answer : Answer) : Type 0 where
  pub given : (c : ℕ) → (c ≡ 0 → ⊥) → (number answer ≡ c) ↔ Gives conditions c
  pub none : (number answer ≡ 0) ↔ NoneHolds conditions

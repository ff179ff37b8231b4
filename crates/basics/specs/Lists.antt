-- Lists of numbers: what they hold, and when nothing is in them twice.
use Rattle.std.specs.Prelude.{Bool, false, ◌||◌, List, [], ◌∷◌, ◌≡◌, ℕ, eqb}

-- x is one of the list
unfoldable pub among : ℕ → List ℕ → Bool
among x [] = false
among x (y ∷ list) = eqb x y || among x list

-- nothing is in the list twice
abbrev pub Different : List ℕ → Type 0
Different [] = Unit
Different (x ∷ list) = (among x list ≡ false) × Different list

-- each of the list has the property
abbrev pub All {ℓ} : {A : Type ℓ} → (A → Type 0) → List A → Type 0
All P [] = Unit
All P (x ∷ list) = P x × All P list

-- any two of the list stand in the relation, the earlier one first
abbrev pub AnyTwo {ℓ} : {A : Type ℓ} → (A → A → Type 0) → List A → Type 0
AnyTwo R [] = Unit
AnyTwo R (x ∷ list) = All (R x) list × AnyTwo R list

-- two lists of one length, which stand in the relation place by place
abbrev pub InOrder {ℓ κ} : {A : Type ℓ} {B : Type κ} → (A → B → Type 0) → List A → List B → Type 0
InOrder R [] [] = Unit
InOrder R [] (y ∷ others) = ⊥
InOrder R (x ∷ list) [] = ⊥
InOrder R (x ∷ list) (y ∷ others) = R x y × InOrder R list others

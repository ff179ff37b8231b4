-- Disjoint paths, cuts and the largest number M, over the map alone: nothing here knows of tokens.
use Rattle.std.specs.Prelude.{◌≡◌, true, List, [], ◌∷◌, ◌⊎◌, ℕ, ◌<◌, ◌≤◌, length}
use Rattle.basics.specs.Lists.{among, Different, All, AnyTwo}
use Rattle.site.specs.Limits.{direct_link}
use Rattle.site.specs.Map.{Site, linked_on, passes}

-- from radio u along the list to T, each linked to the next
abbrev pub LeadsToT : Site → ℕ → List ℕ → Type 0
LeadsToT site u [] = u ≡ site.T
LeadsToT site u (v ∷ rest) = (linked_on site u v ≡ true) × LeadsToT site v rest

-- all radios of the list but S and T may stand inside a path
abbrev pub InnerPass : Site → List ℕ → Type 0
InnerPass site p = (v : ℕ) → among v p ≡ true → (v ≡ site.S → ⊥) → (v ≡ site.T → ⊥) → passes site v ≡ true

-- a path: a list of different radios from S to T, each linked to the next, of which those between pass on what they hear
pub record Path (site : Site) (p : List ℕ) : Type 0 where
  pub rest : List ℕ
  pub from-S : p ≡ site.S ∷ rest
  pub to-T : LeadsToT site site.S rest
  pub different : Different p
  pub inner : InnerPass site p

-- two lists of radios from S to T are disjoint if they are different and share no radio but S and T
pub record Disjoint (S T : ℕ) (p q : List ℕ) : Type 0 where
  pub differ : p ≡ q → ⊥
  pub apart : (x : ℕ) → among x p ≡ true → among x q ≡ true → (x ≡ S) ⊎ (x ≡ T)

-- paths of which any two are disjoint
pub record DisjointPaths (site : Site) (ps : List (List ℕ)) : Type 0 where
  pub each : All (Path site) ps
  pub two : AnyTwo (Disjoint site.S site.T) ps

-- M: so many disjoint paths there are, and no more
pub record Largest (site : Site) (M : ℕ) : Type 0 where
  pub some : List (List ℕ)
  pub number : length some ≡ M
  pub good : DisjointPaths site some
  pub most : (ps : List (List ℕ)) → DisjointPaths site ps → length ps ≤ M

-- what a cut may name: a radio other than S and T, or the direct link where there is one
abbrev pub CutItem : Site → ℕ → Type 0
CutItem site x = ((x < site.n) × (x ≡ site.S → ⊥) × (x ≡ site.T → ⊥)) ⊎ ((x ≡ direct_link) × (linked_on site site.S site.T ≡ true))

-- the item meets the path: the path holds the radio, or is the direct link
abbrev pub Meets : Site → ℕ → List ℕ → Type 0
Meets site x p = ((x < site.n) × (among x p ≡ true)) ⊎ ((x ≡ direct_link) × (p ≡ site.S ∷ site.T ∷ []))

-- a cut: different items, of which every path of the map meets one
pub record Cut (site : Site) (items : List ℕ) : Type 0 where
  pub each : All (CutItem site) items
  pub different : Different items
  pub met : (p : List ℕ) → Path site p → (x : ℕ) × (among x items ≡ true) × Meets site x p

-- A network of halves: its steps, marks on them, what can be walked, and what a round of any search leaves. Assumes nothing.
use mathlib.Core.Path.{◌≡◌}
use mathlib.Core.Bool.{Bool, true, false, not, ◌&&◌, ◌||◌, cond}
use mathlib.Core.List.{List, [], ◌∷◌}
use mathlib.Core.Logic.{◌⊎◌}
use Prim.Native.Nat.{ℕ, ◌<◌}
use lib.Dec.{eqb}
use Rattle.basics.specs.Lists.{Different}

-- halves are numbers below the size; the search goes from the source to the goal
pub record Network : Type 0 where
  pub size : ℕ
  pub step : ℕ → ℕ → Bool
  pub source : ℕ
  pub goal : ℕ

-- what the split of a map makes of a network: every half but the ends has one step out, or one step in
pub record Split (net : Network) : Type 0 where
  pub from_below : (a b : ℕ) → net.step a b ≡ true → a < net.size
  pub to_below : (a b : ℕ) → net.step a b ≡ true → b < net.size
  pub one_way : (a b : ℕ) → net.step a b ≡ true → net.step b a ≡ true → ⊥
  pub none_into_source : (a : ℕ) → net.step a net.source ≡ true → ⊥
  pub none_from_goal : (b : ℕ) → net.step net.goal b ≡ true → ⊥
  pub source_below : net.source < net.size
  pub ends_differ : net.source ≡ net.goal → ⊥
  pub narrow :
      (h : ℕ) → (h ≡ net.source → ⊥) → (h ≡ net.goal → ⊥)
      → ((a b : ℕ) → net.step h a ≡ true → net.step h b ≡ true → a ≡ b) ⊎ ((a b : ℕ) → net.step a h ≡ true → net.step b h ≡ true → a ≡ b)

-- the step from half a to half b is marked
abbrev pub Marks : Type 0
Marks = ℕ → ℕ → Bool

-- forwards over an unmarked step, or backwards over a marked one
unfoldable pub walkable : Network → Marks → ℕ → ℕ → Bool
walkable net marks x y = (net.step x y && not (marks x y)) || (net.step y x && marks y x)

-- the marks with that of the step between halves h and y, whichever way it leads, reversed
unfoldable pub turned : Network → ℕ → ℕ → Marks → Marks
turned net h y marks a b = cond (net.step a b && ((eqb a h && eqb b y) || (eqb a y && eqb b h))) (not (marks a b)) (marks a b)

-- ---- what a round of any search leaves

-- from half y back over the list to the source, over steps that could be walked the other way round
abbrev pub Way : Network → Marks → ℕ → List ℕ → Type 0
Way net marks y [] = y ≡ net.source
Way net marks y (h ∷ rest) = (walkable net marks h y ≡ true) × Way net marks h rest

-- every step of that way turned
unfoldable pub all_turned : Network → ℕ → List ℕ → Marks → Marks
all_turned net y [] marks = marks
all_turned net y (h ∷ rest) marks = all_turned net h rest (turned net h y marks)

-- a round was won: a walk from the source to the goal, over steps that could be walked under the old marks and meeting no half twice, was turned
pub record WayTurned (net : Network) (marks marks' : Marks) : Type 0 where
  pub halves : List ℕ
  pub way : Way net marks net.goal halves
  pub once : Different (net.goal ∷ halves)
  pub turns : marks' ≡ all_turned net net.goal halves marks

-- a round was lost: its entered halves hold the source, not the goal, and are closed under the steps that can be walked
pub record Shut (net : Network) (marks : Marks) (R : ℕ → Bool) : Type 0 where
  pub closed : (x y : ℕ) → R x ≡ true → walkable net marks x y ≡ true → R y ≡ true
  pub source_in : R net.source ≡ true
  pub goal_out : R net.goal ≡ false

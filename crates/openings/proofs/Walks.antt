-- What a half can walk to, step by step. Assumes nothing.
use mathlib.Core.Path.{◌≡◌, refl, ◌∙◌}
use mathlib.Core.Bool.{Bool, true, false, not, ◌&&◌, and-true, and-false, or-false}
use mathlib.Core.Logic.{◌⊎◌, inl, inr}
use Prim.Native.Nat.{ℕ, ◌+◌, ◌*◌, ◌/◌, ◌%◌, ◌≤◌, ◌<◌}
use native.Mathlib.Decide.{ℕ_discrete}
use native.Mathlib.Omega.{arith}
use lib.Dec.{eqb}
use borrow.Author.Tests.{eq-eqb, ne_eqb}
use Rattle.basics.proofs.Bools.{or_cases, and_left, not_true→false}
use Rattle.site.specs.Map.{Site, linked_on, in_half, out_half, step}
use Rattle.site.proofs.Steps.{in_is_not_out, out_is_out, radio_of_in, radio_of_out, step_over, step_link, none_into_s, Step, step_of, linked-says, step-below, step-sides, one_way}
use Rattle.tokens.specs.Rules.{Marks, may_walk, unmarked}
use Rattle.openings.specs.Rows.{across, Joined}

-- ---- halves

pub from_out : (u v : ℕ) → across (out_half u) v ≡ in_half v
from_out u v = rw (out_is_out u) refl

pub from_in : (u v : ℕ) → across (in_half u) v ≡ out_half v
from_in u v = rw (in_is_not_out u) refl

-- a half is an in half or an out half
pub data Side (h : ℕ) : Type 0 where
  in_of : (u : ℕ) → h ≡ in_half u → Side h
  out_of : (u : ℕ) → h ≡ out_half u → Side h

pub side : (h : ℕ) → Side h
side h = go (ℕ_discrete (h % 2) 1)
  where
    go : Dec (h % 2 ≡ 1) → Side h
    go (yes e) = out_of (h / 2) (omega arith)
    go (no e) = in_of (h / 2) (omega arith)

-- ---- steps

pub joined_step : (site : Site) (a b : ℕ) → Joined site a b → Step site a b ⊎ Step site b a
joined_step site a b (inl e) = inl (step_of site a b e)
joined_step site a b (inr e) = inr (step_of site b a e)

-- joined halves are halves of the map, one of each side, so each stands for itself in the other's row
pub record Pair (site : Site) (h y : ℕ) : Type 0 where
  pub first : h < 2 * site.n
  pub second : y < 2 * site.n
  pub differ : (h + y) % 2 ≡ 1

pub pair : (site : Site) (h y : ℕ) → Joined site h y → Pair site h y
pair site h y j = go (joined_step site h y j)
  where
    go : Step site h y ⊎ Step site y h → Pair site h y
    go (inl step) = let w = step-below site h y step in record { first = w.0; second = w.1; differ = step-sides site h y step }
    go (inr step) = let w = step-below site y h step in record { first = w.1; second = w.0; differ = omega (arith, step-sides site y h step) }

pub across-is : (h y : ℕ) → (h + y) % 2 ≡ 1 → across h (y / 2) ≡ y
across-is h y e = go (side h)
  where
    go : Side h → across h (y / 2) ≡ y
    go (in_of u d) = rw d (from_in u (y / 2) ∙ omega arith)
    go (out_of u d) = rw d (from_out u (y / 2) ∙ omega arith)

pub across-radio : (h v : ℕ) → across h v / 2 ≡ v
across-radio h v = go (side h)
  where
    go : Side h → across h v / 2 ≡ v
    go (in_of u d) = rw (d, from_in u v) (radio_of_out v)
    go (out_of u d) = rw (d, from_out u v) (radio_of_in v)

-- who can walk is joined
pub walk_joined : (site : Site) (marks : Marks) (h y : ℕ) → may_walk site marks h y ≡ true → Joined site h y
unfolding may_walk
walk_joined site marks h y e = go (or_cases _ _ e)
  where
    go : ((step site h y && not (marks h y)) ≡ true) ⊎ ((step site y h && marks y h) ≡ true) → Joined site h y
    go (inl w) = inl (and_left _ _ w)
    go (inr w) = inr (and_left _ _ w)

-- nobody walks out of the map
pub walk_below : (site : Site) (marks : Marks) (h v : ℕ) → site.n ≤ v → may_walk site marks h (across h v) ≡ false
walk_below site marks h v p = not_true→false _ (λ e. let w = pair site h (across h v) (walk_joined site marks h (across h v) e) in omega (arith, w.second, across-radio h v))

-- ---- the start

-- an out half other than T's has a step to each radio linked to it but S
pub step-out : (site : Site) (u v : ℕ) → (u ≡ site.T → ⊥) → step site (out_half u) (in_half v) ≡ (not (eqb v site.S) && linked_on site u v)
step-out site u v nt = pick (ℕ_discrete v site.S) (linked_on site u v) refl
  where
    pick : Dec (v ≡ site.S) → (b : Bool) → linked_on site u v ≡ b → step site (out_half u) (in_half v) ≡ (not (eqb v site.S) && linked_on site u v)
    pick (yes e) b d = rw (eq-eqb v site.S e, e) (none_into_s site u)
    pick (no e) true d = let w = linked-says site u v d in rw (ne_eqb v site.S e) (step_link site u v w.from_below w.to_below nt e)
    pick (no e) false d = rw (step_over site u v, d, and-false) refl

-- where nothing is marked, one walks over steps forwards
pub walk_unmarked : (site : Site) (x y : ℕ) → may_walk site unmarked x y ≡ step site x y
unfolding may_walk
walk_unmarked site x y = simp (and-true, and-false, or-false)

-- ---- the rows tell the marks

-- walking over a step forwards
pub walk_step : (site : Site) (marks : Marks) (a b : ℕ) → step site a b ≡ true → may_walk site marks a b ≡ not (marks a b)
unfolding may_walk
walk_step site marks a b e =
    let back : step site b a ≡ false = not_true→false _ (λ d. one_way site a b (step_of site a b e) (step_of site b a d)) in
    rw (e, back, or-false) refl

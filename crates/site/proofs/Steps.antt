-- The steps between halves, by cases. Assumes nothing.
use mathlib.Core.Path.{◌≡◌, refl, ◌∙◌}
use mathlib.Core.Bool.{true, false, not, ◌&&◌, and-true, and-false, or-false}
use mathlib.Core.Logic.{◌⊎◌, inl, inr}
use Prim.Native.Nat.{ℕ, ◌+◌, ◌*◌, ◌%◌, ◌≤◌, ◌<◌}
use native.Mathlib.Omega.{arith}
use lib.Dec.{eqb, ltb}
use borrow.Author.Tests.{eqb-true, eqb-false, eq-eqb, ne_eqb, lt-ltb, le-ltb, ltb-true, not-true}
use Rattle.basics.proofs.Bools.{or_cases, and_left, and_right}
use Rattle.site.specs.Map.{Site, linked, handheld, linked_on, in_half, out_half, radio_of, is_out, exists, passes, inside_step, link_step, step}

-- ---- the tests, half by half

-- 2v is the in half of v and 2v+1 its out half
pub in_is_not_out : (v : ℕ) → is_out (in_half v) ≡ false
in_is_not_out v = ne_eqb (2 * v % 2) 1 (omega arith)

pub out_is_out : (v : ℕ) → is_out (out_half v) ≡ true
out_is_out v = eq-eqb ((2 * v + 1) % 2) 1 (omega arith)

pub radio_of_in : (v : ℕ) → radio_of (in_half v) ≡ v
radio_of_in v = omega arith

pub radio_of_out : (v : ℕ) → radio_of (out_half v) ≡ v
radio_of_out v = omega arith

module _ (site : Site) where
  -- from an in half there is the step inside, where the radio may stand inside a path, and no other
  pub step_inside : (v b : ℕ) → step site (in_half v) b ≡ (eqb b (out_half v) && passes site v)
  unfolding step inside_step link_step
  step_inside v b = rw (in_is_not_out v, radio_of_in v, or-false)

  -- no step leads from an out half to an out half
  pub step_to_out : (u v : ℕ) → step site (out_half u) (out_half v) ≡ false
  unfolding step inside_step link_step
  step_to_out u v = rw (out_is_out u, out_is_out v)

  -- from an out half to an in half there is a step for each link whose halves exist
  pub step_over : (u v : ℕ) → step site (out_half u) (in_half v) ≡ (linked_on site u v && exists site (out_half u) && exists site (in_half v))
  unfolding step inside_step link_step
  step_over u v = rw (out_is_out u, in_is_not_out v, radio_of_out u, radio_of_in v)

  -- T has no out half
  pub none_from_t : (v : ℕ) → step site (out_half site.T) (in_half v) ≡ false
  unfolding exists
  none_from_t v = rw (step_over site.T v, eq-eqb (out_half site.T) (out_half site.T) refl, and-false, and-false)

  -- S has no in half
  pub none_into_s : (u : ℕ) → step site (out_half u) (in_half site.S) ≡ false
  unfolding exists
  none_into_s u = rw (step_over u site.S, eq-eqb (in_half site.S) (in_half site.S) refl, and-false, and-false)

  -- every radio but T has an out half
  out_exists : (u : ℕ) → u < site.n → (u ≡ site.T → ⊥) → exists site (out_half u) ≡ true
  unfolding exists
  out_exists u p nt = rw (radio_of_out u, lt-ltb u site.n p, ne_eqb (out_half u) (in_half site.S) (omega arith), ne_eqb (out_half u) (out_half site.T) (omega arith))

  -- every radio but S has an in half
  in_exists : (v : ℕ) → v < site.n → (v ≡ site.S → ⊥) → exists site (in_half v) ≡ true
  unfolding exists
  in_exists v p ns = rw (radio_of_in v, lt-ltb v site.n p, ne_eqb (in_half v) (in_half site.S) (omega arith), ne_eqb (in_half v) (out_half site.T) (omega arith))

  -- every link has its step but from T and into S
  pub step_link : (u v : ℕ) → u < site.n → v < site.n → (u ≡ site.T → ⊥) → (v ≡ site.S → ⊥) → step site (out_half u) (in_half v) ≡ linked_on site u v
  step_link u v p q nt ns = rw (step_over u v, out_exists u p nt, in_exists v q ns) (simp and-true)

-- ---- what a link and a step say

pub record Linked (site : Site) (u v : ℕ) : Type 0 where
  pub from_below : u < site.n
  pub to_below : v < site.n
  pub differ : u ≡ v → ⊥

pub linked-says : (site : Site) (u v : ℕ) → linked_on site u v ≡ true → Linked site u v
unfolding linked
linked-says site u v e =
    let parts : (ltb u site.n ≡ true) × (ltb v site.n ≡ true) × (not (eqb u v) ≡ true) = search (and_left, and_right) in
    record { from_below = ltb-true _ _ parts.0; to_below = ltb-true _ _ parts.1; differ = eqb-false _ _ (not-true _ parts.2) }

-- what is known of a radio that may stand inside a path
pub record Passes (site : Site) (v : ℕ) : Type 0 where
  pub below : v < site.n
  pub not_s : v ≡ site.S → ⊥
  pub not_T : v ≡ site.T → ⊥
  pub ordinary : handheld site.table site.n v ≡ false

pub passes-says : (site : Site) (v : ℕ) → passes site v ≡ true → Passes site v
unfolding passes
passes-says site v e =
    let parts : (ltb v site.n ≡ true) × (not (eqb v site.S) ≡ true) × (not (eqb v site.T) ≡ true) × (not (handheld site.table site.n v) ≡ true) = search (and_left, and_right) in
    record { below = ltb-true _ _ parts.0; not_s = eqb-false _ _ (not-true _ parts.1); not_T = eqb-false _ _ (not-true _ parts.2); ordinary = not-true _ parts.3 }

-- no radio outside the map does
pub passes-outside : (site : Site) (v : ℕ) → site.n ≤ v → passes site v ≡ false
unfolding passes
passes-outside site v l = rw (le-ltb v site.n l)

pub may_pass : (site : Site) (v : ℕ) → Passes site v → passes site v ≡ true
unfolding passes
may_pass site v may = rw (lt-ltb v site.n may.below, ne_eqb v site.S may.not_s, ne_eqb v site.T may.not_T, may.ordinary)

-- a step leads inside a radio, or over a link
pub data Step (site : Site) (a b : ℕ) : Type 0 where
  inside : (v : ℕ) → a ≡ in_half v → b ≡ out_half v → passes site v ≡ true → Step site a b
  over : (u v : ℕ) → a ≡ out_half u → b ≡ in_half v → linked_on site u v ≡ true → (u ≡ site.T → ⊥) → (v ≡ site.S → ⊥) → Step site a b

inside_of : (site : Site) (a b : ℕ) → inside_step site a b ≡ true → Step site a b
unfolding inside_step
inside_of site a b w =
    let halves : (not (is_out a) ≡ true) × (eqb b (a + 1) ≡ true) × (passes site (radio_of a) ≡ true) = search (and_left, and_right) in
    let low : a % 2 ≡ 1 → ⊥ = eqb-false _ _ (not-true _ halves.0) in
    let next : b ≡ a + 1 = eqb-true _ _ halves.1 in
    inside (radio_of a) (omega arith) (omega arith) halves.2

over_of : (site : Site) (a b : ℕ) → link_step site a b ≡ true → Step site a b
unfolding link_step exists
over_of site a b w =
    let halves : (is_out a ≡ true) × (not (is_out b) ≡ true) × (linked_on site (radio_of a) (radio_of b) ≡ true) = search (and_left, and_right) in
    let there : (not (eqb a (out_half site.T)) ≡ true) × (not (eqb b (in_half site.S)) ≡ true) = search (and_left, and_right) in
    let high : a % 2 ≡ 1 = eqb-true _ _ halves.0 in
    let low : b % 2 ≡ 1 → ⊥ = eqb-false _ _ (not-true _ halves.1) in
    let not_T : a ≡ out_half site.T → ⊥ = eqb-false _ _ (not-true _ there.0) in
    let not_s : b ≡ in_half site.S → ⊥ = eqb-false _ _ (not-true _ there.1) in
    over (radio_of a) (radio_of b) (omega arith) (omega arith) halves.2 (λ e. not_T (omega arith)) (λ e. not_s (omega arith))

pub step_of : (site : Site) (a b : ℕ) → step site a b ≡ true → Step site a b
unfolding step
step_of site a b e = go (or_cases _ _ e)
  where
    go : (inside_step site a b ≡ true) ⊎ (link_step site a b ≡ true) → Step site a b
    go (inl w) = inside_of site a b w
    go (inr w) = over_of site a b w

-- a step joins two halves of the map
pub step-below : (site : Site) (a b : ℕ) → Step site a b → (a < 2 * site.n) × (b < 2 * site.n)
step-below site a b (inside v x y p) = let w = passes-says site v p in (omega (arith, w.below), omega (arith, w.below))
step-below site a b (over u v x y e nt ns) = let w = linked-says site u v e in (omega (arith, w.from_below), omega (arith, w.to_below))

-- one of each side
pub step-sides : (site : Site) (a b : ℕ) → Step site a b → (a + b) % 2 ≡ 1
step-sides site a b (inside v x y p) = omega arith
step-sides site a b (over u v x y e nt ns) = omega arith

-- and has no step back
pub one_way : (site : Site) (a b : ℕ) → Step site a b → Step site b a → ⊥
one_way site a b (inside v x y p) (inside v' x' y' p') = omega arith
one_way site a b (inside v x y p) (over u' v' x' y' e' nt' ns') = (linked-says site u' v' e').differ (omega arith)
one_way site a b (over u v x y e nt ns) (inside v' x' y' p') = (linked-says site u v e).differ (omega arith)
one_way site a b (over u v x y e nt ns) (over u' v' x' y' e' nt' ns') = omega arith

-- ---- the steps that there are

pub inside-step : (site : Site) (v : ℕ) → passes site v ≡ true → step site (in_half v) (out_half v) ≡ true
inside-step site v e = rw (step_inside site v (out_half v), eq-eqb (out_half v) (out_half v) refl, e)

pub over_step : (site : Site) (u v : ℕ) → linked_on site u v ≡ true → (u ≡ site.T → ⊥) → (v ≡ site.S → ⊥) → step site (out_half u) (in_half v) ≡ true
over_step site u v e nt ns = let w = linked-says site u v e in step_link site u v w.from_below w.to_below nt ns ∙ e

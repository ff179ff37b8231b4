-- What can be walked, and what turning one step changes. Assumes nothing.
use mathlib.Core.Path.{◌≡◌, refl}
use mathlib.Core.Bool.{Bool, true, false, not, ◌&&◌, ◌||◌, cond}
use mathlib.Core.Logic.{◌⊎◌, inl, inr}
use Prim.Native.Nat.{ℕ, ◌+◌, ◌≤◌, ◌<◌}
use native.Mathlib.Omega.{arith}
use lib.Dec.{eqb}
use borrow.Author.Tests.{not-true}
use Rattle.basics.specs.Counting.{one_if, sum, count}
use Rattle.basics.proofs.Bools.{Tells, tells_equal, tells_and, tells_or, and_left, and_right, and_both, or_right, or_cases, not_true→false}
use Rattle.basics.proofs.Counting.{sum-ext, sum-add, sum-swap, sum-le}
use Rattle.menger.proofs.Network.{Network, Split, Marks, walkable, turned}

-- ---- what can be walked

-- a step that can be walked is an unmarked one, or a marked one walked backwards
pub walk_cases : (net : Network) (m : Marks) (x y : ℕ) → walkable net m x y ≡ true → ((net.step x y ≡ true) × (m x y ≡ false)) ⊎ ((net.step y x ≡ true) × (m y x ≡ true))
unfolding walkable
walk_cases net m x y w = go (or_cases _ _ w)
  where
    go : ((net.step x y && not (m x y)) ≡ true) ⊎ ((net.step y x && m y x) ≡ true) → ((net.step x y ≡ true) × (m x y ≡ false)) ⊎ ((net.step y x ≡ true) × (m y x ≡ true))
    go (inl e) = inl (and_left _ _ e, not-true _ (and_right (net.step x y) _ e))
    go (inr e) = inr (and_left _ _ e, and_right (net.step y x) _ e)

-- an unmarked step can be walked
pub walk_forward : (net : Network) (m : Marks) (x y : ℕ) → net.step x y ≡ true → m x y ≡ false → walkable net m x y ≡ true
unfolding walkable
walk_forward net m x y s e = rw (s, e)

-- a marked step can be walked backwards
pub walk_backward : (net : Network) (m : Marks) (x y : ℕ) → net.step y x ≡ true → m y x ≡ true → walkable net m x y ≡ true
unfolding walkable
walk_backward net m x y s e = or_right (net.step x y && not (m x y)) _ (and_both _ _ s e)

-- only halves of the network can be walked between
pub walk_below : {net : Network} → Split net → (m : Marks) (x y : ℕ) → walkable net m x y ≡ true → (x < net.size) × (y < net.size)
walk_below {net} split m x y w = go (walk_cases net m x y w)
  where
    go : ((net.step x y ≡ true) × (m x y ≡ false)) ⊎ ((net.step y x ≡ true) × (m y x ≡ true)) → (x < net.size) × (y < net.size)
    go (inl e) = (split.from_below x y e.0, split.to_below x y e.0)
    go (inr e) = (split.to_below y x e.0, split.from_below y x e.0)

-- a step can be walked from one end only
pub one_end : {net : Network} → Split net → (m : Marks) (x y : ℕ) → one_if (walkable net m x y) + one_if (walkable net m y x) ≤ 1
unfolding walkable
one_end {net} split m x y = go (net.step x y) refl (net.step y x) refl (m x y) (m y x)
  where
    go : (a : Bool) → net.step x y ≡ a → (b : Bool) → net.step y x ≡ b → (c d : Bool) → one_if ((a && not c) || (b && d)) + one_if ((b && not d) || (a && c)) ≤ 1
    go true s true t c d = absurd (split.one_way x y s t)
    go true s false t true d = omega arith
    go true s false t false d = omega arith
    go false s true t c true = omega arith
    go false s true t c false = omega arith
    go false s false t c d = omega arith

-- ---- how many can be walked

module _ (net : Network) (m : Marks) where
  forwards : ℕ → ℕ → ℕ
  forwards x y = one_if (net.step x y && not (m x y))

  backwards : ℕ → ℕ → ℕ
  backwards x y = one_if (net.step x y && m x y)

  walks : (x y : ℕ) → one_if (walkable net m x y) ≤ forwards x y + backwards y x
  unfolding walkable forwards backwards
  walks x y = go (net.step x y && not (m x y)) (net.step y x && m y x)
    where
      go : (a b : Bool) → one_if (a || b) ≤ one_if a + one_if b
      go true b = omega arith
      go false b = omega arith

  either : (x y : ℕ) → forwards x y + backwards x y ≡ one_if (net.step x y)
  unfolding forwards backwards
  either x y = go (net.step x y) (m x y)
    where
      go : (a b : Bool) → one_if (a && not b) + one_if (a && b) ≡ one_if a
      go true true = refl
      go true false = refl
      go false b = refl

  -- the walkable steps are no more than the steps
  pub walkable_steps : sum (λ x. count (walkable net m x) net.size) net.size ≤ sum (λ x. count (net.step x) net.size) net.size
  walkable_steps = omega (
    arith,
    sum-le (λ x. count (walkable net m x) net.size) (λ x. sum (λ y. forwards x y + backwards y x) net.size) net.size (λ x p. sum-le _ (λ y. forwards x y + backwards y x) net.size (λ y q. walks x y)),
    sum-ext (λ x. sum (λ y. forwards x y + backwards y x) net.size) (λ x. sum (forwards x) net.size + sum (λ y. backwards y x) net.size) net.size (λ x p. sum-add (forwards x) (λ y. backwards y x) net.size),
    sum-add (λ x. sum (forwards x) net.size) (λ x. sum (λ y. backwards y x) net.size) net.size,
    sum-swap backwards net.size net.size,
    sum-add (λ x. sum (forwards x) net.size) (λ x. sum (backwards x) net.size) net.size,
    sum-ext (λ x. sum (forwards x) net.size + sum (backwards x) net.size) (λ x. count (net.step x) net.size) net.size (λ x p. omega (arith, sum-add (forwards x) (backwards x) net.size, sum-ext (λ y. forwards x y + backwards x y) (λ y. one_if (net.step x y)) net.size (λ y q. either x y))),
  )

-- ---- turning one step

-- a and b are h and y, one way round or the other
abbrev pub Between : ℕ → ℕ → ℕ → ℕ → Type 0
Between h y a b = ((a ≡ h) × (b ≡ y)) ⊎ ((a ≡ y) × (b ≡ h))

between : (h y a b : ℕ) → Tells ((eqb a h && eqb b y) || (eqb a y && eqb b h)) (Between h y a b)
between h y a b = tells_or _ _ (tells_and _ _ (tells_equal a h) (tells_equal b y)) (tells_and _ _ (tells_equal a y) (tells_equal b h))

module _ (net : Network) (m : Marks) (h y : ℕ) where
  -- the step between the two is turned
  pub turns_this : (a b : ℕ) → net.step a b ≡ true → Between h y a b → turned net h y m a b ≡ not (m a b)
  unfolding turned
  turns_this a b s e = rw (and_both _ _ s ((between h y a b).1 e))

  -- what is no step between the two stands
  pub others_stand : (a b : ℕ) → (net.step a b ≡ true → Between h y a b → ⊥) → turned net h y m a b ≡ m a b
  unfolding turned
  others_stand a b never = rw (not_true→false _ (λ t. never (and_left _ _ t) ((between h y a b).0 (and_right (net.step a b) _ t))))

  -- turning marks nothing but steps
  pub turns_steps : ((a b : ℕ) → m a b ≡ true → net.step a b ≡ true) → (a b : ℕ) → turned net h y m a b ≡ true → net.step a b ≡ true
  unfolding turned
  turns_steps on a b t = go (net.step a b) refl t
    where
      go : (s : Bool) → net.step a b ≡ s → cond (s && ((eqb a h && eqb b y) || (eqb a y && eqb b h))) (not (m a b)) (m a b) ≡ true → s ≡ true
      go true s e = refl
      go false s e = rw s at (on a b e)

-- The PDTs that a round may still send: each goes at most once, so that there are fewer after each. Assumes nothing.
use mathlib.Core.Path.{◌≡◌, refl, sym, ap}
use mathlib.Core.Bool.{Bool, true, false, not, ◌&&◌, and-true, and-false}
use mathlib.Core.Logic.{◌⊎◌, inl, inr}
use Prim.Native.Nat.{ℕ, suc, ◌+◌, ◌≤◌, ◌<◌}
use native.Mathlib.Omega.{arith}
use lib.Dec.{eqb}
use Rattle.basics.specs.Counting.{one_if, sum, count}
use Rattle.basics.proofs.Bools.{Tells, tells_equal, tells_and, and_left, not_true→false}
use Rattle.basics.proofs.Counting.{sum-ext, sum-update}
use Rattle.rounds.proofs.Shows.{hit}

-- half x may still send a PDT to half y
abbrev pub Unsent : Type 0
Unsent = ℕ → ℕ → Bool

-- all but that from h to y
unfoldable pub without : ℕ → ℕ → Unsent → Unsent
without h y left a b = left a b && not (eqb a h && eqb b y)

-- how many are left between halves below the size
abbrev pub remaining : ℕ → Unsent → ℕ
remaining size left = sum (λ x. count (left x) size) size

-- the two ends are these, or not
pub ends : (a b h y : ℕ) → Tells (eqb a h && eqb b y) ((a ≡ h) × (b ≡ y))
ends a b h y = tells_and _ _ (tells_equal a h) (tells_equal b y)

-- a reply leaves every PDT that was left
pub none_goes : (left : Unsent) (a b : ℕ) → 0 + one_if (left a b) ≤ one_if (left a b)
none_goes left a b = omega arith

module _ (h y : ℕ) (left : Unsent) where
  -- what is left without it was left before
  pub without_less : (a b : ℕ) → without h y left a b ≡ true → left a b ≡ true
  unfolding without
  without_less a b e = and_left _ _ e

  -- it is gone
  pub without_this : without h y left h y ≡ false
  unfolding without
  without_this = rw ((ends h y h y).1 (refl, refl), and-false)

  -- every other stays
  pub without_other : (a b : ℕ) → (a ≡ h → b ≡ y → ⊥) → without h y left a b ≡ left a b
  unfolding without
  without_other a b ne = rw (not_true→false _ (λ t. let e = (ends a b h y).0 t in ne e.0 e.1), and-true)

  -- what was left is left without it, or is the one
  pub without_cases : (a b : ℕ) → left a b ≡ true → (without h y left a b ≡ true) ⊎ ((a ≡ h) × (b ≡ y))
  unfolding without
  without_cases a b e = go (eqb a h && eqb b y) refl
    where
      go : (c : Bool) → (eqb a h && eqb b y) ≡ c → ((left a b && not c) ≡ true) ⊎ ((a ≡ h) × (b ≡ y))
      go true t = inr ((ends a b h y).0 t)
      go false t = inl (rw e)

  -- a PDT that is left and goes is one that may go, and the later ones are others
  pub one_goes : left h y ≡ true → (a b : ℕ) → hit a b h y + one_if (without h y left a b) ≤ one_if (left a b)
  unfolding without
  one_goes e a b = go (eqb a h && eqb b y) refl
    where
      go : (c : Bool) → (eqb a h && eqb b y) ≡ c → one_if c + one_if (left a b && not c) ≤ one_if (left a b)
      go true t = let p = (ends a b h y).0 t in rw (p.0, p.1, e) (omega arith)
      go false t = rw and-true (omega arith)

  -- and then there is one fewer
  pub one_fewer : (size : ℕ) → h < size → y < size → left h y ≡ true → remaining size left ≡ suc (remaining size (without h y left))
  one_fewer size p q e = omega (
    arith,
    sum-update (λ a. count (left a) size) (λ a. count (without h y left a) size) h size p (λ a r ne. sum-ext _ _ size (λ b u. ap one_if (sym (without_other a b (λ v w. ne v))))),
    sum-update (λ b. one_if (left h b)) (λ b. one_if (without h y left h b)) y size q (λ b r ne. ap one_if (sym (without_other h b (λ v w. ne w)))),
    ap one_if e,
    ap one_if without_this,
  )

-- The laws of tests: true and false, and, or; and the facts that tests tell. Assumes nothing.
use mathlib.Core.Path.{◌≡◌, refl, sym}
use mathlib.Core.Bool.{Bool, true, false, not, ◌||◌, ◌&&◌, true≢false, false≢true}
use mathlib.Core.Logic.{◌⊎◌, inl, inr, ◌↔◌}
use Prim.Native.Nat.{ℕ, ◌≤◌, ◌<◌}
use lib.Dec.{eqb, ltb}
use borrow.Author.Tests.{eqb-true, eq-eqb, ltb-true, ltb-false, lt-ltb, le-ltb, not-true}

-- ---- true and false

pub clash {ℓ} : {X : Type ℓ} {b : Bool} → b ≡ true → b ≡ false → X
clash {b = true} p q = absurd (true≢false q)
clash {b = false} p q = absurd (false≢true p)

pub not_true→false : (b : Bool) → (b ≡ true → ⊥) → b ≡ false
not_true→false true h = absurd (h refl)
not_true→false false h = refl

-- each where the other is, the same
pub both_ways : (a b : Bool) → (a ≡ true → b ≡ true) → (b ≡ true → a ≡ true) → a ≡ b
both_ways true b there back = sym (there refl)
both_ways false true there back = back refl
both_ways false false there back = refl

pub or_left : (a b : Bool) → a ≡ true → (a || b) ≡ true
or_left true b h = refl
or_left false b h = absurd (false≢true h)

pub or_right : (a b : Bool) → b ≡ true → (a || b) ≡ true
or_right true b h = refl
or_right false b h = h

pub or_neither : (a b : Bool) → a ≡ false → b ≡ false → (a || b) ≡ false
or_neither true b p q = p
or_neither false b p q = q

pub or_cases : (a b : Bool) → (a || b) ≡ true → (a ≡ true) ⊎ (b ≡ true)
or_cases true b h = inl refl
or_cases false b h = inr h

pub and_left : (a b : Bool) → (a && b) ≡ true → a ≡ true
and_left true b h = refl
and_left false b h = h

pub and_right : (a b : Bool) → (a && b) ≡ true → b ≡ true
and_right true b h = h
and_right false b h = absurd (false≢true h)

pub and_both : (a b : Bool) → a ≡ true → b ≡ true → (a && b) ≡ true
and_both true b p q = q
and_both false b p q = absurd (false≢true p)

-- ---- tests and facts

-- the test b holds exactly if P does
abbrev pub Tells : Bool → Type 0 → Type 0
Tells b P = b ≡ true ↔ P

pub tells_below : (a b : ℕ) → Tells (ltb a b) (a < b)
tells_below a b = (ltb-true a b, lt-ltb a b)

pub tells_not_below : (a b : ℕ) → Tells (not (ltb a b)) (b ≤ a)
tells_not_below a b = (λ e. ltb-false a b (not-true _ e), λ p. rw (le-ltb a b p))

pub tells_equal : (a b : ℕ) → Tells (eqb a b) (a ≡ b)
tells_equal a b = (eqb-true a b, eq-eqb a b)

pub tells_or : (a b : Bool) {P R : Type 0} → Tells a P → Tells b R → Tells (a || b) (P ⊎ R)
tells_or true b p r = (λ e. inl (p.0 refl), λ e. refl)
tells_or false b {P} {R} p r = (λ e. inr (r.0 e), back)
  where
    back : P ⊎ R → b ≡ true
    back (inl x) = absurd (false≢true (p.1 x))
    back (inr x) = r.1 x

pub tells_and : (a b : Bool) {P R : Type 0} → Tells a P → Tells b R → Tells (a && b) (P × R)
tells_and true b p r = (λ e. (p.0 refl, r.0 e), λ x. r.1 x.1)
tells_and false b p r = (λ e. absurd (false≢true e), λ x. absurd (false≢true (p.1 x.0)))

pub tells_not : (a : Bool) {P : Type 0} → Tells a P → Tells (not a) (P → ⊥)
tells_not true p = (λ e. absurd (false≢true e), λ no_way. absurd (no_way (p.0 refl)))
tells_not false p = (λ e x. false≢true (p.1 x), λ no_way. refl)

-- the same test tells another fact that holds exactly if the first does
pub tells_same : (a : Bool) {P R : Type 0} → Tells a P → (P ↔ R) → Tells a R
tells_same a p e = (λ t. e.0 (p.0 t), λ x. p.1 (e.1 x))

-- An order of trying: three facts, and what a search uses of it, for every order that has them. Assumes nothing.
use mathlib.Core.Path.{◌≡◌, refl, sym, ◌∙◌}
use mathlib.Core.Bool.{Bool, true, false, not, cond}
use mathlib.Core.Logic.{◌⊎◌, inl, inr}
use Prim.Native.Nat.{ℕ, ◌+◌, ◌-◌, ◌%◌, ◌≤◌, ◌<◌}
use native.Mathlib.Omega.{arith}
use native.Mathlib.Decide.{dec_lt}
use lib.Dec.{eqb}
use borrow.Author.Tests.{eqb-true, eqb-false, ne_eqb, lt-ltb, le-ltb, not-true}
use Rattle.basics.proofs.Bools.{and_left, and_right}
use Rattle.site.specs.Map.{Site, in_half, out_half, radio_of, is_out, step}
use Rattle.site.proofs.Steps.{in_is_not_out, out_is_out, Step, inside, over, step_of, linked-says, passes-says}
use Rattle.tokens.specs.Rules.{Marks, Plan, may_walk, candidate, can_try}
use Rattle.menger.proofs.Network.{walkable}
use Rattle.menger.proofs.Walks.{walk_cases}
use Rattle.routes.proofs.Trails.{network_of}

-- each of the numbers 0 to n stands at one of the places 0 to n, and at one only
pub record Order (n : ℕ) (order : ℕ → ℕ) : Type 0 where
  pub within : (place : ℕ) → place < n + 1 → order place < n + 1
  pub onto : (number : ℕ) → number < n + 1 → (place : ℕ) × (place < n + 1) × (order place ≡ number)
  pub once : (i j : ℕ) → i < n + 1 → j < n + 1 → order i ≡ order j → i ≡ j

-- a plan's order is one
abbrev pub OrderOf : Plan → Type 0
OrderOf plan = Order plan.site.n plan.order

-- ---- numbers, whatever the order

-- half h may try this number, which leads to half y
pub record OpenNumber (site : Site) (marks : Marks) (h y : ℕ) : Type 0 where
  pub number : ℕ
  pub within : number < site.n + 1
  pub opens : can_try site marks h number ≡ true
  pub leads : candidate site h number ≡ y

module _ (site : Site) where
  -- the rules and the network walk alike
  may-walk : (marks : Marks) (x y : ℕ) → may_walk site marks x y ≡ walkable (network_of site) marks x y
  unfolding may_walk walkable
  may-walk marks x y = refl

  -- what a number stands for
  other_radio : (h number : ℕ) (out : Bool) → is_out h ≡ out → number < site.n → candidate site h number ≡ cond out (in_half number) (out_half number)
  unfolding candidate
  other_radio h number out e p = rw (lt-ltb number site.n p, e)

  own_half : (h number : ℕ) (out : Bool) → is_out h ≡ out → site.n ≤ number → candidate site h number ≡ cond out (h - 1) (h + 1)
  unfolding candidate
  own_half h number out e p = rw (le-ltb number site.n p, e)

  -- an open number leads over a step that can be walked
  pub open_walks : (marks : Marks) (h number : ℕ) → can_try site marks h number ≡ true → walkable (network_of site) marks h (candidate site h number) ≡ true
  unfolding can_try
  open_walks marks h number e = rw may-walk at (and_right (not (eqb number (radio_of h))) _ e)

  not_its_own : (marks : Marks) (h number : ℕ) → can_try site marks h number ≡ true → number ≡ radio_of h → ⊥
  unfolding can_try
  not_its_own marks h number e = eqb-false _ _ (not-true _ (and_left _ _ e))

  numbered : (marks : Marks) (h y number : ℕ) → walkable (network_of site) marks h y ≡ true → number < site.n + 1 → (number ≡ radio_of h → ⊥) → candidate site h number ≡ y → OpenNumber site marks h y
  unfolding can_try
  numbered marks h y number w p ne e = record { number = number; within = p; opens = rw (ne_eqb number (radio_of h) ne, e, may-walk) w; leads = e }

  in-half : (v h : ℕ) → h ≡ in_half v → is_out h ≡ false
  in-half v h e = rw e (in_is_not_out v)

  out-half : (v h : ℕ) → h ≡ out_half v → is_out h ≡ true
  out-half v h e = rw e (out_is_out v)

  step_numbered : (marks : Marks) (h y : ℕ) → walkable (network_of site) marks h y ≡ true → Step site h y ⊎ Step site y h → OpenNumber site marks h y
  step_numbered marks h y w (inl (inside v a b p)) = numbered marks h y site.n w (omega arith) (λ c. omega (arith, (passes-says site v p).below)) (own_half h site.n false (in-half v h a) (omega arith) ∙ omega arith)
  step_numbered marks h y w (inr (inside v a b p)) = numbered marks h y site.n w (omega arith) (λ c. omega (arith, (passes-says site v p).below)) (own_half h site.n true (out-half v h b) (omega arith) ∙ omega arith)
  step_numbered marks h y w (inl (over u v a b e nt ns)) =
      let link = linked-says site u v e in
      numbered marks h y v w (omega arith) (λ c. link.differ (omega arith)) (other_radio h v true (out-half u h a) link.to_below ∙ sym b)
  step_numbered marks h y w (inr (over u v a b e nt ns)) =
      let link = linked-says site u v e in
      numbered marks h y u w (omega arith) (λ c. link.differ (omega arith)) (other_radio h u false (in-half v h b) link.from_below ∙ sym a)

  -- every step that can be walked has its open number
  walk_numbered : (marks : Marks) (h y : ℕ) → walkable (network_of site) marks h y ≡ true → OpenNumber site marks h y
  walk_numbered marks h y w = go (walk_cases (network_of site) marks h y w)
    where
      go : ((step site h y ≡ true) × (marks h y ≡ false)) ⊎ ((step site y h ≡ true) × (marks y h ≡ true)) → OpenNumber site marks h y
      go (inl e) = step_numbered marks h y w (inl (step_of site h y e.0))
      go (inr e) = step_numbered marks h y w (inr (step_of site y h e.0))

  -- two open numbers of one half lead to two halves
  same_number : (marks : Marks) (h i j : ℕ) → can_try site marks h i ≡ true → can_try site marks h j ≡ true → i < site.n + 1 → j < site.n + 1 → candidate site h i ≡ candidate site h j → i ≡ j
  same_number marks h i j oi oj p q c = go (is_out h) refl (dec_lt i site.n) (dec_lt j site.n)
    where
      ni : i ≡ radio_of h → ⊥
      ni = not_its_own marks h i oi

      nj : j ≡ radio_of h → ⊥
      nj = not_its_own marks h j oj

      go : (out : Bool) → is_out h ≡ out → Dec (i < site.n) → Dec (j < site.n) → i ≡ j
      go true e (yes a) (yes b) = omega (arith, other_radio h i true e a, other_radio h j true e b)
      go true e (yes a) (no b) = absurd (ni (omega (arith, eqb-true (h % 2) 1 e, other_radio h i true e a, own_half h j true e (omega arith))))
      go true e (no a) (yes b) = absurd (nj (omega (arith, eqb-true (h % 2) 1 e, own_half h i true e (omega arith), other_radio h j true e b)))
      go false e (yes a) (yes b) = omega (arith, other_radio h i false e a, other_radio h j false e b)
      go false e (yes a) (no b) = absurd (ni (omega (arith, eqb-false (h % 2) 1 e, other_radio h i false e a, own_half h j false e (omega arith))))
      go false e (no a) (yes b) = absurd (nj (omega (arith, eqb-false (h % 2) 1 e, own_half h i false e (omega arith), other_radio h j false e b)))
      go true e (no a) (no b) = omega arith
      go false e (no a) (no b) = omega arith

-- ---- places

-- from place i on, half h has an open place that leads to half y
pub record OpenPlace (plan : Plan) (marks : Marks) (h i y : ℕ) : Type 0 where
  pub place : ℕ
  pub from : i ≤ place
  pub within : place < plan.site.n + 1
  pub opens : can_try plan.site marks h (plan.order place) ≡ true
  pub leads : candidate plan.site h (plan.order place) ≡ y

module _ {plan : Plan} (ordered : OrderOf plan) (marks : Marks) (h : ℕ) where
  -- every step that can be walked has its open place
  pub placed : (y : ℕ) → walkable (network_of plan.site) marks h y ≡ true → OpenPlace plan marks h 0 y
  placed y w =
      let a : OpenNumber plan.site marks h y = walk_numbered plan.site marks h y w in
      let at = ordered.onto a.number a.within in
      record { place = at.0; from = omega arith; within = at.1; opens = rw at.2 a.opens; leads = rw at.2 a.leads }

  -- two open places of one half lead to two halves
  pub same_place : {i j y : ℕ} (a : OpenPlace plan marks h i y) (b : OpenPlace plan marks h j y) → a.place ≡ b.place
  same_place a b =
      ordered.once a.place b.place a.within b.within
      (same_number plan.site marks h _ _ a.opens b.opens (ordered.within a.place a.within) (ordered.within b.place b.within) (a.leads ∙ sym b.leads))

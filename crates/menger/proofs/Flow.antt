-- Flows: marks on steps that carry p units from the source to the goal; a walk that is turned carries one more. Assumes nothing.
use mathlib.Core.Path.{◌≡◌, refl, sym, ap, ◌∙◌}
use mathlib.Core.Bool.{true, false, not}
use mathlib.Core.List.{List, [], ◌∷◌}
use mathlib.Core.Logic.{◌⊎◌, inl, inr}
use Prim.Native.Nat.{ℕ, suc, ◌+◌, ◌*◌, ◌<◌}
use native.Mathlib.Omega.{arith}
use native.Mathlib.Decide.{ℕ_discrete}
use native.Mathlib.Nat.{suc-mul}
use lib.Dec.{eqb}
use borrow.Author.Tests.{eq-eqb, ne_eqb}
use Rattle.basics.specs.Counting.{one_if, count}
use Rattle.basics.specs.Lists.{among, Different}
use Rattle.basics.proofs.Bools.{clash}
use Rattle.basics.proofs.Counting.{sum-ext, sum-update}
use Rattle.basics.proofs.Lists.{among-neither}
use Rattle.menger.proofs.Network.{Network, Split, Marks, walkable, turned, Way, all_turned, WayTurned}
use Rattle.menger.proofs.Walks.{walk_cases, walk_below, Between, turns_this, others_stand, turns_steps}

-- the marked steps into half h
abbrev pub into : Network → Marks → ℕ → ℕ
into net m h = count (λ a. m a h) net.size

-- the marked steps out of half h
abbrev pub out_of : Network → Marks → ℕ → ℕ
out_of net m h = count (m h) net.size

-- p units flow: only steps are marked, and as many marked steps lead into a half as out of it, but p more out of the source and p more into the goal
pub record Flow (net : Network) (p : ℕ) (m : Marks) : Type 0 where
  pub on_steps : (a b : ℕ) → m a b ≡ true → net.step a b ≡ true
  pub kept : (h : ℕ) → into net m h + p * one_if (eqb h net.source) ≡ out_of net m h + p * one_if (eqb h net.goal)

-- without marks nothing flows
pub no_flow : (net : Network) → Flow net 0 (λ a b. false)
no_flow net = record { on_steps = λ a b e. clash e refl; kept = λ h. omega arith }

-- ---- one mark more

-- a row with one cell more marked
one_cell : (m m' : Marks) (a b size : ℕ) → b < size → m a b ≡ false → m' a b ≡ true → ((i j : ℕ) → ((i ≡ a) × (j ≡ b) → ⊥) → m' i j ≡ m i j) → (h : ℕ) → count (m' h) size ≡ count (m h) size + one_if (eqb h a)
one_cell m m' a b size p off on same h = go (ℕ_discrete h a)
  where
    go : Dec (h ≡ a) → count (m' h) size ≡ count (m h) size + one_if (eqb h a)
    go (yes u) = omega (arith, sum-update (λ j. one_if (m' h j)) (λ j. one_if (m h j)) b size p (λ j q ne. ap one_if (same h j (λ e. ne e.1))), ap one_if (ap (λ i. m i b) u ∙ off), ap one_if (ap (λ i. m' i b) u ∙ on), ap one_if (eq-eqb h a u))
    go (no u) = omega (arith, sum-ext (λ j. one_if (m' h j)) (λ j. one_if (m h j)) size (λ j q. ap one_if (same h j (λ e. u e.0))), ap one_if (ne_eqb h a u))

module _ (net : Network) where
  -- from marks m to m' one unit more flows from a to b
  abbrev Moves : Marks → Marks → ℕ → ℕ → Type 0
  Moves m m' a b = (h : ℕ) → into net m' h + out_of net m h + one_if (eqb h a) ≡ into net m h + out_of net m' h + one_if (eqb h b)

  mark_moves : (m m' : Marks) (a b : ℕ) → a < net.size → b < net.size → m a b ≡ false → m' a b ≡ true → ((i j : ℕ) → ((i ≡ a) × (j ≡ b) → ⊥) → m' i j ≡ m i j) → Moves m m' a b
  mark_moves m m' a b p q off on same h = omega (
    arith,
    one_cell m m' a b net.size q off on same h,
    one_cell (λ i j. m j i) (λ i j. m' j i) b a net.size p off on (λ i j ne. same j i (λ e. ne (e.1, e.0))) h,
  )

  -- a way on which y is not can be walked as before when a step at y is turned
  way_stands : (m : Marks) (h y g : ℕ) (rest : List ℕ) → among y (g ∷ rest) ≡ false → Way net m g rest → Way net (turned net h y m) g rest
  unfolding walkable
  way_stands m h y g [] out w = w
  way_stands m h y g (k ∷ rest) out w = (rw (stands k g not_k not_g, stands g k not_g not_k) w.0, way_stands m h y k rest later w.1)
    where
      later : among y (k ∷ rest) ≡ false
      later = (among-neither y g (k ∷ rest) out).1

      not_g : g ≡ y → ⊥
      not_g e = (among-neither y g (k ∷ rest) out).0 (sym e)

      not_k : k ≡ y → ⊥
      not_k e = (among-neither y k rest later).0 (sym e)

      stands : (a b : ℕ) → (a ≡ y → ⊥) → (b ≡ y → ⊥) → turned net h y m a b ≡ m a b
      stands a b not_a not-b = others_stand net m h y a b (λ s u. go u)
        where
          go : Between h y a b → ⊥
          go (inl u) = not-b u.1
          go (inr u) = not_a u.0

  module _ (split : Split net) where
    turn_moves : (m : Marks) (h y : ℕ) → walkable net m h y ≡ true → Moves m (turned net h y m) h y
    turn_moves m h y w = go (walk_cases net m h y w)
      where
        below : (h < net.size) × (y < net.size)
        below = walk_below split m h y w

        go : ((net.step h y ≡ true) × (m h y ≡ false)) ⊎ ((net.step y h ≡ true) × (m y h ≡ true)) → Moves m (turned net h y m) h y
        go (inl e) = mark_moves m (turned net h y m) h y below.0 below.1 e.1 (turns_this net m h y h y e.0 (inl (refl, refl)) ∙ ap not e.1) (λ i j ne. others_stand net m h y i j (other ne))
          where
            other : {i j : ℕ} → ((i ≡ h) × (j ≡ y) → ⊥) → net.step i j ≡ true → Between h y i j → ⊥
            other ne s (inl u) = ne u
            other ne s (inr u) = split.one_way h y e.0 (rw (u.0, u.1) at s)
        go (inr e) = λ k. omega (arith, mark_moves (turned net h y m) m y h below.1 below.0 (turns_this net m h y y h e.0 (inr (refl, refl)) ∙ ap not e.1) e.1 (λ i j ne. sym (others_stand net m h y i j (other ne))) k)
          where
            other : {i j : ℕ} → ((i ≡ y) × (j ≡ h) → ⊥) → net.step i j ≡ true → Between h y i j → ⊥
            other ne s (inl u) = split.one_way y h e.0 (rw (u.0, u.1) at s)
            other ne s (inr u) = ne u

    way_moves : (m : Marks) (y : ℕ) (halves : List ℕ) → Way net m y halves → Different (y ∷ halves) → Moves m (all_turned net y halves m) net.source y
    unfolding all_turned
    way_moves m y [] w d k = rw w
    way_moves m y (h ∷ rest) w d k = omega (arith, turn_moves m h y w.0 k, way_moves (turned net h y m) h rest (way_stands m h y h rest d.0 w.1) d.1 k)

  all_on_steps : (m : Marks) (y : ℕ) (halves : List ℕ) → ((a b : ℕ) → m a b ≡ true → net.step a b ≡ true) → (a b : ℕ) → all_turned net y halves m a b ≡ true → net.step a b ≡ true
  unfolding all_turned
  all_on_steps m y [] on = on
  all_on_steps m y (h ∷ rest) on = all_on_steps (turned net h y m) h rest (turns_steps net m h y on)

-- a won round makes one unit more flow
pub one_more : {net : Network} → Split net → {p : ℕ} {m m' : Marks} → Flow net p m → WayTurned net m m' → Flow net (suc p) m'
one_more {net} split {p} {m} flow walked = rw walked.turns (record {
  on_steps = all_on_steps net m net.goal walked.halves flow.on_steps;
  kept = λ h. omega (arith, flow.kept h, way_moves net split m net.goal walked.halves walked.way walked.once h, suc-mul p (one_if (eqb h net.source)), suc-mul p (one_if (eqb h net.goal)));
})

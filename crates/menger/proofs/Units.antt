-- What a flow's marks are like: one marked step into and one out of every half but the ends. Assumes nothing.
use mathlib.Core.Path.{◌≡◌, refl}
use mathlib.Core.Bool.{true}
use mathlib.Core.Logic.{◌⊎◌, inl, inr}
use Prim.Native.Nat.{ℕ, ◌≤◌, ◌<◌}
use native.Mathlib.Omega.{arith}
use borrow.Author.Tests.{eq-eqb, ne_eqb}
use Rattle.basics.specs.Counting.{count}
use Rattle.basics.proofs.Counting.{some_counts, none_counts, counted, counted_once, once_counts}
use Rattle.menger.proofs.Network.{Network, Split, Marks}
use Rattle.menger.proofs.Flow.{into, out_of, Flow}

module _ {net : Network} (split : Split net) {p : ℕ} {m : Marks} (flow : Flow net p m) where
  -- marked steps join halves of the network
  pub marked_below : (a b : ℕ) → m a b ≡ true → (a < net.size) × (b < net.size)
  marked_below a b e = (split.from_below a b (flow.on_steps a b e), split.to_below a b (flow.on_steps a b e))

  -- no marked step leads into the source
  pub not_the_source : (a h : ℕ) → m a h ≡ true → h ≡ net.source → ⊥
  not_the_source a h e u = split.none_into_source a (rw u at (flow.on_steps a h e))

  -- no marked step leads out of the goal
  pub not_the_goal : (h b : ℕ) → m h b ≡ true → h ≡ net.goal → ⊥
  not_the_goal h b e u = split.none_from_goal b (rw u at (flow.on_steps h b e))

  balanced : (h : ℕ) → (h ≡ net.source → ⊥) → (h ≡ net.goal → ⊥) → into net m h ≡ out_of net m h
  balanced h not-source not-goal = omega (arith, rw (ne_eqb h net.source not-source, ne_eqb h net.goal not-goal) at (flow.kept h))

  single : (h : ℕ) → (h ≡ net.source → ⊥) → (h ≡ net.goal → ⊥) → (into net m h ≤ 1) × (out_of net m h ≤ 1)
  single h not-source not-goal = go (split.narrow h not-source not-goal) (balanced h not-source not-goal)
    where
      go : ((a b : ℕ) → net.step h a ≡ true → net.step h b ≡ true → a ≡ b) ⊎ ((a b : ℕ) → net.step a h ≡ true → net.step b h ≡ true → a ≡ b)
          → into net m h ≡ out_of net m h → (into net m h ≤ 1) × (out_of net m h ≤ 1)
      go (inl one) e =
          let few : out_of net m h ≤ 1 = once_counts (m h) net.size (λ a b x y. one a b (flow.on_steps h a x) (flow.on_steps h b y)) in
          (omega arith, few)
      go (inr one) e =
          let few : into net m h ≤ 1 = once_counts (λ a. m a h) net.size (λ a b x y. one a b (flow.on_steps a h x) (flow.on_steps b h y)) in
          (few, omega arith)

  -- p marked steps lead out of the source
  pub from_source : count (m net.source) net.size ≡ p
  from_source = omega (
    arith,
    rw (eq-eqb net.source net.source refl, ne_eqb net.source net.goal split.ends_differ) at (flow.kept net.source),
    none_counts (λ a. m a net.source) net.size (λ a q e. not_the_source a net.source e refl),
  )

  -- at most one marked step leads out of a half but the source
  pub one_out : (h a b : ℕ) → m h a ≡ true → m h b ≡ true → (h ≡ net.source → ⊥) → a ≡ b
  one_out h a b x y not-source = counted_once (m h) net.size a b (single h not-source (not_the_goal h a x)).1 (marked_below h a x).1 (marked_below h b y).1 x y

  -- at most one marked step leads into a half but the goal
  pub one_in : (a b h : ℕ) → m a h ≡ true → m b h ≡ true → (h ≡ net.goal → ⊥) → a ≡ b
  one_in a b h x y not-goal = counted_once (λ a. m a h) net.size a b (single h (not_the_source a h x) not-goal).0 (marked_below a h x).0 (marked_below b h y).0 x y

  -- where a marked step leads, another leads on, but at the goal
  pub goes_on : (a h : ℕ) → m a h ≡ true → (h ≡ net.goal → ⊥) → (b : ℕ) × (m h b ≡ true)
  goes_on a h x not-goal = counted (m h) net.size (omega (arith, balanced h (not_the_source a h x) not-goal, some_counts (λ a. m a h) net.size a (marked_below a h x).0 x))

  -- where a marked step comes from, another led to, but at the source
  pub comes_from : (h b : ℕ) → m h b ≡ true → (h ≡ net.source → ⊥) → (a : ℕ) × (m a h ≡ true)
  comes_from h b x not-source = counted (λ a. m a h) net.size (omega (arith, balanced h not-source (not_the_goal h b x), some_counts (m h) net.size b (marked_below h b x).1 x))

-- The trails of different starts have together no more steps than the network. Assumes nothing.
use mathlib.Core.Path.{◌≡◌}
use mathlib.Core.Bool.{true}
use mathlib.Core.List.{List, ◌∷◌, tail}
use Prim.Native.Nat.{ℕ, ◌≤◌, ◌<◌}
use native.Mathlib.Omega.{arith}
use native.Mathlib.Decide.{ℕ_discrete}
use lib.ListN.{length}
use Rattle.basics.specs.Counting.{one_if, sum, count}
use Rattle.basics.specs.Lists.{among, Different}
use Rattle.basics.proofs.Bools.{clash}
use Rattle.basics.proofs.Counting.{sum-le, one_le, some_counts}
use Rattle.basics.proofs.Lists.{among_there, length_counts, different_pass, total, total_le, total_swap, total_passing, total_once}
use Rattle.menger.proofs.Network.{Network, Marks}
use Rattle.menger.proofs.Flow.{Flow}
use Rattle.menger.proofs.Trail.{trail_from, Arrived, Unbranched, led, followers, followed, back_below, arrives, trails_apart}

-- the steps on a trail: its halves but one
abbrev pub steps_on : List ℕ → ℕ
steps_on trail = length (tail trail)

-- what stands behind the goal is another half of the trail
behind_goal : {net : Network} {m : Marks} {z : ℕ} {trail : List ℕ} → Arrived net m z trail → (x : ℕ) → among x (tail trail) ≡ true → (among x trail ≡ true) × (x ≡ net.goal → ⊥)
behind_goal {net} t x h =
    let behind : among x (t.before ∷ t.rest) ≡ true = rw t.shape at h in
    (rw t.shape (among_there x net.goal (t.before ∷ t.rest) behind), λ (e : x ≡ net.goal). clash (rw e at behind) t.once.0)

module _ {net : Network} {m : Marks} {next : ℕ → ℕ} (lines : Unbranched net m next) where
  -- a trail's steps, counted by the halves that they leave
  steps_counted : {z : ℕ} {trail : List ℕ} → Arrived net m z trail → steps_on trail ≤ count (λ x. among x (tail trail)) net.size
  steps_counted {trail = trail} t = omega (arith, length_counts (tail trail) net.size (rw t.shape t.once.1) (λ x h. back_below lines x trail (led t) (behind_goal t x h).0))

  leaves_some : {z : ℕ} {trail : List ℕ} → Arrived net m z trail → (x : ℕ) → among x (tail trail) ≡ true → 0 < count (m x) net.size
  leaves_some t x h =
      let w = followed t x (behind_goal t x h).0 (behind_goal t x h).1 in
      let e : m x w.0 ≡ true = followers t x w.0 w.1 in
      some_counts (m x) net.size w.0 (lines.below x w.0 e).1 e

  module _ (starts : List ℕ) (d : Different starts) (marked : (z : ℕ) → among z starts ≡ true → m net.source z ≡ true) where
    -- the trails leave no half more often than marked steps do
    each_half : (x : ℕ) → total (λ z. one_if (among x (tail (trail_from net next z)))) starts ≤ count (m x) net.size
    each_half x = go (ℕ_discrete x net.source)
      where
        arrived : (z : ℕ) → among z starts ≡ true → Arrived net m z (trail_from net next z)
        arrived z h = arrives lines z (marked z h)

        go : Dec (x ≡ net.source) → total (λ z. one_if (among x (tail (trail_from net next z)))) starts ≤ count (m x) net.size
        go (yes e) = omega (
          arith,
          total_passing (λ z. among x (tail (trail_from net next z))) starts,
          different_pass starts (m x) net.size d (λ z h. ((lines.below net.source z (marked z h)).1, rw e (marked z h))),
        )
        go (no e) = total_once (λ z. among x (tail (trail_from net next z))) starts (count (m x) net.size) d (λ z h. leaves_some (arrived z h) x)
            (λ z z' h h' u u'. trails_apart lines (arrived z h) (arrived z' h') x (behind_goal (arrived z h) x u).0 (behind_goal (arrived z' h') x u').0 e (behind_goal (arrived z h) x u).1)

    -- they have together no more steps than are marked
    trails_marked : total (λ z. steps_on (trail_from net next z)) starts ≤ sum (λ x. count (m x) net.size) net.size
    trails_marked = omega (
      arith,
      total_le (λ z. steps_on (trail_from net next z)) (λ z. count (λ x. among x (tail (trail_from net next z))) net.size) starts (λ z h. steps_counted (arrives lines z (marked z h))),
      total_swap (λ z x. one_if (among x (tail (trail_from net next z)))) starts net.size,
      sum-le (λ x. total (λ z. one_if (among x (tail (trail_from net next z)))) starts) (λ x. count (m x) net.size) net.size (λ x q. each_half x),
    )

-- the trails of different starts have together no more steps than the network
pub trails_few : {net : Network} {p : ℕ} {m : Marks} → Flow net p m → {next : ℕ → ℕ} → Unbranched net m next → (starts : List ℕ) → Different starts → ((z : ℕ) → among z starts ≡ true → m net.source z ≡ true)
    → total (λ z. steps_on (trail_from net next z)) starts ≤ sum (λ x. count (net.step x) net.size) net.size
trails_few {net} {m = m} flow {next} lines starts d marked = omega (arith, trails_marked lines starts d marked, fewer)
  where
    fewer : sum (λ x. count (m x) net.size) net.size ≤ sum (λ x. count (net.step x) net.size) net.size
    fewer = sum-le _ _ net.size (λ x q. sum-le _ _ net.size (λ y r. one_le (m x y) (net.step x y) (flow.on_steps x y)))

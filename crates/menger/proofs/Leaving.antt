-- Where trails leave the halves of a lost round: every step out of them is marked, lies on one trail, and a trail leaves them once. Assumes nothing.
use mathlib.Core.Path.{◌≡◌, refl, sym, ap, ◌∙◌}
use mathlib.Core.Bool.{Bool, true, false, ◌&&◌}
use mathlib.Core.List.{List, [], ◌∷◌}
use Prim.Native.Nat.{ℕ, ◌<◌}
use native.Mathlib.Omega.{arith}
use Rattle.basics.specs.Counting.{first_from}
use Rattle.basics.proofs.Bools.{clash, and_left, and_right, and_both}
use Rattle.basics.proofs.Counting.{first_passes}
use Rattle.menger.proofs.Network.{Network, Split, Marks, Shut}
use Rattle.menger.proofs.Walks.{walk_forward, walk_backward}
use Rattle.menger.proofs.Flow.{Flow}
use Rattle.menger.proofs.Units.{marked_below, not_the_source, not_the_goal, one_out, comes_from}
use Rattle.menger.proofs.Trail.{trail_from, Back, first, Beside, Arrived, Unbranched, beside_among, followers, followed, starts_at, arrive, arrives}

-- every step out of R is marked
pub leaving_is_marked : {net : Network} {m : Marks} {R : ℕ → Bool} → Shut net m R → (y x : ℕ) → net.step y x ≡ true → R y ≡ true → R x ≡ false → m y x ≡ true
leaving_is_marked {net} {m} shut y x s inside outside = go (m y x) refl
  where
    go : (b : Bool) → m y x ≡ b → b ≡ true
    go true e = refl
    go false e = clash (shut.closed y x inside (walk_forward net m y x s e)) outside

module _ {net : Network} {p : ℕ} {m : Marks} (flow : Flow net p m) {R : ℕ → Bool} (shut : Shut net m R) where
  -- no marked step leads into R
  pub none_enters : (y x : ℕ) → m y x ≡ true → R x ≡ true → R y ≡ true
  none_enters y x e inside = shut.closed x y inside (walk_backward net m x y (flow.on_steps y x e) e)

  -- ---- a step out of R lies on a trail

  module _ (split : Split net) where
    -- the marked steps out of halves of R, walked the other way
    reversed : Marks
    reversed a b = m b a && R b

    -- the half before h
    prior : ℕ → ℕ
    prior h = first_from (λ a. m a h) 0 net.size

    reversed_marked : (a b : ℕ) → reversed a b ≡ true → m b a ≡ true
    unfolding reversed
    reversed_marked a b e = and_left _ _ e

    has_prior : (a h : ℕ) → reversed a h ≡ true → (h ≡ net.source → ⊥) → reversed h (prior h) ≡ true
    unfolding reversed prior
    has_prior a h e not-source =
        let w = comes_from split flow h a (and_left _ _ e) not-source in
        let marked : m (first_from (λ b. m b h) 0 net.size) h ≡ true = first_passes (λ b. m b h) w.0 net.size (marked_below split flow w.0 h w.1).0 w.1 in
        and_both _ _ marked (none_enters _ h marked (and_right (m h a) _ e))

    -- the network of that: from a half x outside R back to the source
    back_from : ℕ → Network
    back_from x = record { size = net.size; step = reversed; source = x; goal = net.source }

    back_lines : (x : ℕ) → x < net.size → R x ≡ false → Unbranched (back_from x) reversed prior
    unfolding reversed back_from
    back_lines x q outside = record {
      below = λ a b e. let w = marked_below split flow b a (reversed_marked a b e) in (w.1, w.0);
      one_back = λ a b h e f not-source. one_out split flow h a b (reversed_marked a h e) (reversed_marked b h f) not-source;
      source_in = q;
      source_first = λ a e. clash (and_right (m x a) _ e) outside;
      goal_last = λ b e. not_the_source split flow b net.source (reversed_marked net.source b e) refl;
      on = has_prior;
    }

    -- a trail that takes the first step of a way to x takes its last
    along : {z : ℕ} {trail : List ℕ} → Arrived net m z trail → (x a b : ℕ) (rest : List ℕ) → Back reversed x (a ∷ b ∷ rest) → Beside a b trail → Beside (first (a ∷ b ∷ rest)) x trail
    unfolding first
    along t x a b [] k u = rw (sym k.1) u
    along {trail = trail} t x a b (c ∷ rest) k u = along t x b c rest k.1 on
      where
        marked : m b c ≡ true
        marked = reversed_marked c b k.1.0

        on : Beside b c trail
        on =
            let w = followed t b (beside_among a b trail u).1 (not_the_goal split flow b c marked) in
            rw (one_out split flow b c w.0 marked (followers t b w.0 w.1) (not_the_source split flow a b (followers t a b u))) w.1

    -- a step out of R lies on the trail of some start
    pub on_a_trail : {next : ℕ → ℕ} → Unbranched net m next → (y x : ℕ) → net.step y x ≡ true → R y ≡ true → R x ≡ false → (z : ℕ) × (m net.source z ≡ true) × Beside y x (trail_from net next z)
    unfolding reversed back_from first
    on_a_trail {next} lines y x s inside outside = go (arrive (back_lines x (marked_below split flow y x marked).1 outside) net.size y x [] (and_both _ _ marked inside, refl) (omega arith))
      where
        marked : m y x ≡ true
        marked = leaving_is_marked shut y x s inside outside

        go : {way : List ℕ} → Arrived (back_from x) reversed y way → (z : ℕ) × (m net.source z ≡ true) × Beside y x (trail_from net next z)
        go w =
            let begun : m net.source w.before ≡ true = reversed_marked w.before net.source w.back.0 in
            let t = arrives lines w.before begun in
            let last : first (net.source ∷ w.before ∷ w.rest) ≡ y = sym (ap first w.shape) ∙ w.begins in
            (w.before, begun, rw last at (along t x net.source w.before w.rest w.back (starts_at t)))

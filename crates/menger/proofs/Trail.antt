-- Trails: following marked steps from the source. A trail is written backwards, where it stands now first and the source last. Assumes nothing.
use mathlib.Core.Path.{◌≡◌, refl, sym, ap, ◌∙◌, subst}
use mathlib.Core.Bool.{true, cond}
use mathlib.Core.List.{List, [], ◌∷◌}
use mathlib.Core.Logic.{◌⊎◌, inl, inr}
use Prim.Native.Nat.{ℕ, zero, suc, ◌+◌, ◌<◌}
use native.Mathlib.Omega.{arith}
use native.Mathlib.Decide.{ℕ_discrete}
use lib.Dec.{eqb}
use lib.ListN.{length}
use borrow.Author.Tests.{eq-eqb, ne_eqb}
use Rattle.basics.specs.Lists.{among, Different}
use Rattle.basics.proofs.Bools.{not_true→false}
use Rattle.basics.proofs.Lists.{among-nil, among-here, among_there, among_cases, among_one, among-other, different_below}
use Rattle.menger.proofs.Network.{Network, Split, Marks}
use Rattle.menger.proofs.Flow.{Flow}
use Rattle.menger.proofs.Units.{marked_below, not_the_source, not_the_goal, one_in}

-- on from the trail's first half by `next` until the goal, at most so many times
unfoldable pub follow : ℕ → (ℕ → ℕ) → ℕ → List ℕ → List ℕ
follow goal next zero trail = trail
follow goal next (suc times) [] = []
follow goal next (suc times) (h ∷ trail) = cond (eqb h goal) (h ∷ trail) (follow goal next times (next h ∷ h ∷ trail))

-- the trail that goes from the source to half z first, and then by `next`
abbrev pub trail_from : Network → (ℕ → ℕ) → ℕ → List ℕ
trail_from net next z = follow net.goal next net.size (z ∷ net.source ∷ [])

-- each half of the trail is led to by the one behind it over a marked step, and the last is the source
abbrev pub Back : Marks → ℕ → List ℕ → Type 0
Back m source [] = ⊥
Back m source (x ∷ []) = x ≡ source
Back m source (x ∷ (y ∷ rest)) = (m y x ≡ true) × Back m source (y ∷ rest)

-- the first half after the source
unfoldable pub first : List ℕ → ℕ
first [] = 0
first (x ∷ []) = 0
first (x ∷ (y ∷ [])) = x
first (x ∷ (y ∷ (z ∷ rest))) = first (y ∷ (z ∷ rest))

-- y is followed by x on the trail
abbrev pub Beside : ℕ → ℕ → List ℕ → Type 0
Beside y x [] = ⊥
Beside y x (a ∷ []) = ⊥
Beside y x (a ∷ (b ∷ rest)) = ((x ≡ a) × (y ≡ b)) ⊎ Beside y x (b ∷ rest)

-- a trail that went from the source to half z first, reached the goal and met no half twice
pub record Arrived (net : Network) (m : Marks) (z : ℕ) (trail : List ℕ) : Type 0 where
  pub before : ℕ
  pub rest : List ℕ
  pub shape : trail ≡ net.goal ∷ before ∷ rest
  pub back : Back m net.source (net.goal ∷ before ∷ rest)
  pub once : Different (net.goal ∷ before ∷ rest)
  pub begins : first trail ≡ z

-- ---- neighbours on a trail

-- neighbours are on the trail
pub beside_among : (y x : ℕ) (trail : List ℕ) → Beside y x trail → (among y trail ≡ true) × (among x trail ≡ true)
beside_among y x [] b = absurd b
beside_among y x (a ∷ []) b = absurd b
beside_among y x (c ∷ (d ∷ rest)) b = go b (beside_among y x (d ∷ rest))
  where
    go : ((x ≡ c) × (y ≡ d)) ⊎ Beside y x (d ∷ rest) → (Beside y x (d ∷ rest) → (among y (d ∷ rest) ≡ true) × (among x (d ∷ rest) ≡ true)) → (among y (c ∷ d ∷ rest) ≡ true) × (among x (c ∷ d ∷ rest) ≡ true)
    go (inl e) ih = (among_there y c (d ∷ rest) (rw e.1 (among-here d rest)), rw e.0 (among-here c (d ∷ rest)))
    go (inr e) ih = (among_there y c (d ∷ rest) (ih e).0, among_there x c (d ∷ rest) (ih e).1)

-- the step between neighbours is marked
beside_marked : (m : Marks) (source y x : ℕ) (trail : List ℕ) → Back m source trail → Beside y x trail → m y x ≡ true
beside_marked m source y x [] k b = absurd b
beside_marked m source y x (a ∷ []) k b = absurd b
beside_marked m source y x (c ∷ (d ∷ rest)) k b = go b (beside_marked m source y x (d ∷ rest) k.1)
  where
    go : ((x ≡ c) × (y ≡ d)) ⊎ Beside y x (d ∷ rest) → (Beside y x (d ∷ rest) → m y x ≡ true) → m y x ≡ true
    go (inl e) ih = rw (e.0, e.1) k.0
    go (inr e) ih = ih e

-- a half behind the trail's first is followed by another
beside_next : (y c d : ℕ) (rest : List ℕ) → among y (d ∷ rest) ≡ true → (x : ℕ) × Beside y x (c ∷ d ∷ rest)
beside_next y c d [] h = (c, inl (refl, among_one y d h))
beside_next y c d (f ∷ rest) h = go (among_cases y d (f ∷ rest) h) (beside_next y d f rest)
  where
    go : (y ≡ d) ⊎ (among y (f ∷ rest) ≡ true) → (among y (f ∷ rest) ≡ true → (x : ℕ) × Beside y x (d ∷ f ∷ rest)) → (x : ℕ) × Beside y x (c ∷ d ∷ f ∷ rest)
    go (inl e) ih = (c, inl (refl, e))
    go (inr e) ih = ((ih e).0, inr (ih e).1)

-- the source is followed by the first half after it
beside_first : (m : Marks) (source x y : ℕ) (rest : List ℕ) → Back m source (x ∷ y ∷ rest) → Beside source (first (x ∷ y ∷ rest)) (x ∷ y ∷ rest)
unfolding first
beside_first m source x y [] k = inl (refl, sym k.1)
beside_first m source x y (z ∷ rest) k = inr (beside_first m source y z rest k.1)

-- ---- on an arrived trail

module _ {net : Network} {m : Marks} {z : ℕ} {trail : List ℕ} (t : Arrived net m z trail) where
  -- each half is led to by the one behind it, back to the source
  pub led : Back m net.source trail
  led = rw t.shape t.back

  -- the source is followed by the trail's start
  pub starts_at : Beside net.source z trail
  starts_at = rw (sym t.begins, t.shape) (beside_first m net.source net.goal t.before t.rest t.back)

  -- neighbours are joined by a marked step
  pub followers : (y x : ℕ) → Beside y x trail → m y x ≡ true
  followers y x b = beside_marked m net.source y x trail led b

  -- a half but the goal is followed by another
  pub followed : (y : ℕ) → among y trail ≡ true → (y ≡ net.goal → ⊥) → (x : ℕ) × Beside y x trail
  followed y h not-goal = rw t.shape (beside_next y net.goal t.before t.rest (sym (among-other y net.goal (t.before ∷ t.rest) not-goal) ∙ (rw t.shape at h)))

-- ---- marks that never branch on the way back

-- what following needs of the marks, and of `next`
pub record Unbranched (net : Network) (m : Marks) (next : ℕ → ℕ) : Type 0 where
  pub below : (a b : ℕ) → m a b ≡ true → (a < net.size) × (b < net.size)
  pub one_back : (a b h : ℕ) → m a h ≡ true → m b h ≡ true → (h ≡ net.goal → ⊥) → a ≡ b
  pub source_in : net.source < net.size
  pub source_first : (a : ℕ) → m a net.source ≡ true → ⊥
  pub goal_last : (b : ℕ) → m net.goal b ≡ true → ⊥
  pub on : (a h : ℕ) → m a h ≡ true → (h ≡ net.goal → ⊥) → m h (next h) ≡ true

-- the marks of a flow, with a `next` that goes over marked steps
pub unbranched : {net : Network} → Split net → {p : ℕ} {m : Marks} → Flow net p m → (next : ℕ → ℕ) → ((a h : ℕ) → m a h ≡ true → (h ≡ net.goal → ⊥) → m h (next h) ≡ true) → Unbranched net m next
unbranched {net} split flow next on = record {
  below = marked_below split flow;
  one_back = one_in split flow;
  source_in = split.source_below;
  source_first = λ a e. not_the_source split flow a net.source e refl;
  goal_last = λ b e. not_the_goal split flow net.goal b e refl;
  on = on;
}

-- the part of a trail from its half x back
record Part (net : Network) (m : Marks) (x : ℕ) (trail : List ℕ) : Type 0 where
  rest : List ℕ
  back : Back m net.source (x ∷ rest)
  shorter : length rest < length trail
  begins : (x ≡ net.source → ⊥) → first (x ∷ rest) ≡ first trail

part : (net : Network) (m : Marks) (x : ℕ) (trail : List ℕ) → among x trail ≡ true → Back m net.source trail → Part net m x trail
unfolding first
part net m x [] h k = absurd k
part net m x (y ∷ []) h k = record { rest = []; back = among_one x y h ∙ k; shorter = omega arith; begins = λ ne. refl }
part net m x (y ∷ (z ∷ [])) h k = go (among_cases x y (z ∷ []) h) (λ h'. part net m x (z ∷ []) h' k.1)
  where
    go : (x ≡ y) ⊎ (among x (z ∷ []) ≡ true) → (among x (z ∷ []) ≡ true → Part net m x (z ∷ [])) → Part net m x (y ∷ z ∷ [])
    go (inl e) ih = record { rest = z ∷ []; back = rw e k; shorter = omega arith; begins = λ ne. e }
    go (inr e) ih = record { rest = (ih e).rest; back = (ih e).back; shorter = omega (arith, (ih e).shorter); begins = λ ne. absurd (ne (among_one x z e ∙ k.1)) }
part net m x (y ∷ (z ∷ (w ∷ more))) h k = go (among_cases x y (z ∷ w ∷ more) h) (λ h'. part net m x (z ∷ w ∷ more) h' k.1)
  where
    go : (x ≡ y) ⊎ (among x (z ∷ w ∷ more) ≡ true) → (among x (z ∷ w ∷ more) ≡ true → Part net m x (z ∷ w ∷ more)) → Part net m x (y ∷ z ∷ w ∷ more)
    go (inl e) ih = record { rest = z ∷ w ∷ more; back = rw e k; shorter = omega arith; begins = λ ne. refl }
    go (inr e) ih = record { rest = (ih e).rest; back = (ih e).back; shorter = omega (arith, (ih e).shorter); begins = (ih e).begins }

module _ {net : Network} {m : Marks} {next : ℕ → ℕ} (lines : Unbranched net m next) where
  leaves : (a b : ℕ) → m a b ≡ true → a ≡ net.goal → ⊥
  leaves a b e u = lines.goal_last b (rw u at e)

  -- the way back to the source is one
  one_way_back : (x : ℕ) (rest rest' : List ℕ) → (x ≡ net.goal → ⊥) → Back m net.source (x ∷ rest) → Back m net.source (x ∷ rest') → rest ≡ rest'
  one_way_back x [] [] ne k k' = refl
  one_way_back x [] (y ∷ rest') ne k k' = absurd (lines.source_first y (rw k at k'.0))
  one_way_back x (y ∷ rest) [] ne k k' = absurd (lines.source_first y (rw k' at k.0))
  one_way_back x (y ∷ rest) (z ∷ rest') ne k k' =
      let e : y ≡ z = lines.one_back y z x k.0 k'.0 ne in
      let f : rest ≡ rest' = one_way_back y rest rest' (leaves y x k.0) k.1 (subst (λ w. Back m net.source (w ∷ rest')) (sym e) k'.1) in
      cc

  once_back : (x : ℕ) (rest : List ℕ) → (x ≡ net.goal → ⊥) → Back m net.source (x ∷ rest) → Different (x ∷ rest)
  once_back x [] ne k = (not_true→false _ (among-nil x), tt)
  once_back x (y ∷ rest) ne k = (not_true→false _ never, once_back y rest (leaves y x k.0) k.1)
    where
      never : among x (y ∷ rest) ≡ true → ⊥
      never h = let w = part net m x (y ∷ rest) h k.1 in omega (arith, w.shorter, ap length (one_way_back x (y ∷ rest) w.rest ne k w.back))

  on_from : (x c d : ℕ) (rest : List ℕ) → Back m net.source (c ∷ d ∷ rest) → among x (d ∷ rest) ≡ true → (b : ℕ) × (m x b ≡ true)
  on_from x c d rest k h = let w = beside_next x c d rest h in (w.0, beside_marked m net.source x w.0 (c ∷ d ∷ rest) k w.1)

  -- the halves of a trail are halves of the network
  pub back_below : (x : ℕ) (trail : List ℕ) → Back m net.source trail → among x trail ≡ true → x < net.size
  back_below x [] k h = absurd k
  back_below x (y ∷ []) k h = rw (among_one x y h, k) lines.source_in
  back_below x (y ∷ (z ∷ rest)) k h = go (among_cases x y (z ∷ rest) h)
    where
      go : (x ≡ y) ⊎ (among x (z ∷ rest) ≡ true) → x < net.size
      go (inl e) = rw e (lines.below z y k.0).1
      go (inr e) = let w = on_from x y z rest k e in (lines.below x w.0 w.1).0

  at_goal : (h g : ℕ) (rest : List ℕ) → Back m net.source (h ∷ g ∷ rest) → h ≡ net.goal → Arrived net m (first (h ∷ g ∷ rest)) (h ∷ g ∷ rest)
  at_goal h g rest k e = record {
    before = g;
    rest = rest;
    shape = rw e;
    back = rw e at k;
    once = (not_true→false _ (λ u. let w = on_from net.goal h g rest k u in lines.goal_last w.0 w.1), once_back g rest (leaves g h k.0) k.1);
    begins = refl;
  }

  -- a trail that has left the source and goes on long enough arrives
  pub arrive : (times h g : ℕ) (rest : List ℕ) → Back m net.source (h ∷ g ∷ rest) → net.size < length (h ∷ g ∷ rest) + times → Arrived net m (first (h ∷ g ∷ rest)) (follow net.goal next times (h ∷ g ∷ rest))
  unfolding follow first
  arrive zero h g rest k p = go (ℕ_discrete h net.goal)
    where
      go : Dec (h ≡ net.goal) → Arrived net m (first (h ∷ g ∷ rest)) (h ∷ g ∷ rest)
      go (yes e) = at_goal h g rest k e
      go (no e) = absurd (omega (arith, different_below (h ∷ g ∷ rest) net.size (once_back h (g ∷ rest) e k) (λ x. back_below x (h ∷ g ∷ rest) k)))
  arrive (suc times) h g rest k p = go (ℕ_discrete h net.goal) (λ k'. arrive times (next h) h (g ∷ rest) k' (omega arith))
    where
      go : Dec (h ≡ net.goal)
          → (Back m net.source (next h ∷ h ∷ g ∷ rest) → Arrived net m (first (h ∷ g ∷ rest)) (follow net.goal next times (next h ∷ h ∷ g ∷ rest)))
          → Arrived net m (first (h ∷ g ∷ rest)) (cond (eqb h net.goal) (h ∷ g ∷ rest) (follow net.goal next times (next h ∷ h ∷ g ∷ rest)))
      go (yes e) ih = rw (eq-eqb h net.goal e) (at_goal h g rest k e)
      go (no e) ih = rw (ne_eqb h net.goal e) (ih (lines.on g h k.0 e, k))

  -- every start's trail arrives at the goal
  pub arrives : (z : ℕ) → m net.source z ≡ true → Arrived net m z (trail_from net next z)
  unfolding first
  arrives z e = arrive net.size z net.source [] (e, refl) (omega arith)

  -- two trails that share a half but the ends are of one start
  pub trails_apart : {z z' : ℕ} {trail trail' : List ℕ} → Arrived net m z trail → Arrived net m z' trail' → (x : ℕ) → among x trail ≡ true → among x trail' ≡ true → (x ≡ net.source → ⊥) → (x ≡ net.goal → ⊥) → z ≡ z'
  trails_apart {trail = trail} {trail' = trail'} t t' x h h' not-source not-goal =
      let w = part net m x trail h (led t) in
      let w' = part net m x trail' h' (led t') in
      sym t.begins ∙ sym (w.begins not-source) ∙ ap (λ (rest : List ℕ). first (x ∷ rest)) (one_way_back x w.rest w'.rest not-goal w.back w'.back) ∙ w'.begins not-source ∙ t'.begins

-- Every state that a run comes to is sane, and every message goes between halves of the map. Assumes nothing.
use mathlib.Core.Path.{◌≡◌, refl, sym, ap, subst}
use mathlib.Core.Bool.{Bool, true, false, not, ◌&&◌, ◌||◌, cond}
use mathlib.Core.Logic.{◌⊎◌, inl, inr}
use Prim.Native.Nat.{ℕ, suc, ◌+◌, ◌*◌, ◌%◌, ◌≤◌, ◌<◌}
use native.Mathlib.Decide.{dec_lt}
use native.Mathlib.Omega.{arith}
use lib.Dec.{eqb, ltb}
use borrow.Author.Tests.{eqb-true, eqb-false, eq-eqb, ne_eqb, lt-ltb, ltb-true}
use Rattle.basics.specs.Counting.{one_if, count, first_within}
use Rattle.basics.proofs.Bools.{and_left, and_right, or_cases, or_right}
use Rattle.basics.proofs.Counting.{sum-update, sum-le, one_le, some_counts, first-from}
use Rattle.site.specs.Map.{Site, in_half, out_half, radio_of, is_out, step}
use Rattle.site.proofs.Steps.{step_of, step-below}
use Rattle.openings.proofs.Order.{from_past}
use Rattle.tokens.specs.declared.Kind.TheVariants.{Done}
use Rattle.tokens.specs.declared.Message.{Message}
use Rattle.tokens.specs.Rules.{Plan, Marks, Notes, Waiting, nobody, waits, State, searching, declining, granting, won, carrying, Next, sends, over, message, only_s, begun, may_walk, candidate, can_try, next_place, entering, gets, pass_on, release, carry, tries, search, reversed, turning, grant, decline, go_on, inner_step, at_first, start}
use Rattle.tokens.specs.Run.{notes_of}
use Rattle.machine.specs.Sane.{Joined, DownToS, Kept, Under, Seeking, Sane}

-- what a message and the state after it are like: the ends are halves of the map, and the state is sane
pub record Sound (plan : Plan) (message : Message) (state : State) : Type 0 where
  pub from_below : message.from < 2 * plan.site.n
  pub to_below : message.to < 2 * plan.site.n
  pub sane : Sane plan state

-- the same of an inner step, where it sends at all
abbrev pub Fine : Plan → Next → Type 0
Fine plan (sends message state) = Sound plan message state
Fine plan over = Unit

-- ---- steps

pub joined-below : (site : Site) (a b : ℕ) → Joined site a b → (a < 2 * site.n) × (b < 2 * site.n)
joined-below site a b (inl e) = step-below site a b (step_of site a b e)
joined-below site a b (inr e) = let w = step-below site b a (step_of site b a e) in (w.1, w.0)

-- a half tries only what a step joins it to
tried-joined : (site : Site) (marks : Marks) (h place : ℕ) → can_try site marks h place ≡ true → Joined site h (candidate site h place)
unfolding can_try may_walk
tried-joined site marks h place e = go (or_cases _ _ (and_right (not (eqb place (radio_of h))) _ e))
  where
    y : ℕ
    y = candidate site h place

    go : ((step site h y && not (marks h y)) ≡ true) ⊎ ((step site y h && marks y h) ≡ true) → Joined site h y
    go (inl w) = inl (and_left _ _ w)
    go (inr w) = inr (and_left _ _ w)

-- ---- the notes

module _ (plan : Plan) (notes : Notes) where
  -- half h is entered
  kept_entering : (h : ℕ) → h < 2 * plan.site.n → Kept plan notes → Kept plan (entering h notes)
  kept_entering h p kept = record { on_steps = kept.on_steps; below = λ x e. go x (or_cases _ _ e); few_rounds = kept.few_rounds; few_found = kept.few_found }
    where
      go : (x : ℕ) → (eqb x h ≡ true) ⊎ (notes.entered x ≡ true) → x < 2 * plan.site.n
      go x (inl e) = omega (arith, eqb-true x h e)
      go x (inr e) = kept.below x e

  -- turning a step marks nothing but steps
  turned_on_steps : (h y : ℕ) → Kept plan notes → (a b : ℕ) → reversed plan.site h y notes.marks a b ≡ true → step plan.site a b ≡ true
  unfolding reversed
  turned_on_steps h y kept a b e = go (step plan.site a b) refl e
    where
      go : (s : Bool) → step plan.site a b ≡ s → cond (s && ((eqb a h && eqb b y) || (eqb a y && eqb b h))) (not (notes.marks a b)) (notes.marks a b) ≡ true → s ≡ true
      go true s t = refl
      go false s t = rw s at (kept.on_steps a b t)

  kept_turning : (h y : ℕ) → Kept plan notes → Kept plan (turning plan.site h y notes)
  kept_turning h y kept = record { on_steps = turned_on_steps h y kept; below = kept.below; few_rounds = kept.few_rounds; few_found = kept.few_found }

  -- the next round begins where fewer than k are found: S's out half searches, and is entered
  begun_seeks : plan.site.S < plan.site.n → ((a b : ℕ) → notes.marks a b ≡ true → step plan.site a b ≡ true) → plan.kept + notes.round ≡ notes.found → notes.found < plan.k
      → Seeking plan (begun plan.site notes) (out_half plan.site.S) nobody
  begun_seeks S-in on_steps same fewer =
      let site = plan.site in
      record {
        under = record {
          kept = record { on_steps = on_steps; below = λ h e. omega (arith, eqb-true h (out_half site.S) e); few_rounds = omega arith; few_found = omega arith };
          numbered = omega arith;
          fewer = fewer;
          asked = refl;
          room = some_counts (only_s site) (2 * site.n) (out_half site.S) (omega arith) (eq-eqb (out_half site.S) (out_half site.S) refl);
        };
        T_new = ne_eqb (in_half site.T) (out_half site.S) (λ e. omega arith);
      }

-- ---- the halves that wait

-- the half on top is one of the map
top_below : (site : Site) → site.S < site.n → (h : ℕ) (rest : Waiting) → DownToS site h rest → h < 2 * site.n
top_below site S-in h nobody e = omega arith
top_below site S-in h (waits asker place rest) asked = (joined-below site asker h asked.0).1

module _ (site : Site) (notes : Notes) (y : ℕ) where
  -- no entered half is lost when one more is entered
  none_lost : count notes.entered (2 * site.n) ≤ count (entering y notes).entered (2 * site.n)
  none_lost = sum-le _ _ (2 * site.n) (λ x p. one_le _ _ (or_right (eqb x y) _))

  -- a new one counts
  one_more : y < 2 * site.n → notes.entered y ≡ false → count (entering y notes).entered (2 * site.n) ≡ suc (count notes.entered (2 * site.n))
  one_more p new = omega (
    arith,
    sum-update (λ x. one_if (eqb x y || notes.entered x)) (λ x. one_if (notes.entered x)) y (2 * site.n) p (λ x q ne. rw (ne_eqb x y ne)),
    ap one_if new,
    here,
  )
    where
      here : one_if (eqb y y || notes.entered y) ≡ 1
      here = rw (eq-eqb y y refl)

-- ---- DONE

module _ (plan : Plan) (S-in : plan.site.S < plan.site.n) (notes : Notes) (kept : Kept plan notes) where
  pass_fine : (h v w : ℕ) → h < 2 * plan.site.n → (w < plan.site.n → v < plan.site.n) → Fine plan (pass_on plan.site h v w notes)
  unfolding pass_on
  pass_fine h v w p q = go (ltb w plan.site.n) refl
    where
      go : (b : Bool) → ltb w plan.site.n ≡ b → Fine plan (cond b (sends (message Done h (in_half w)) (carrying v (in_half w) notes)) over)
      go true e = let l = ltb-true w plan.site.n e in record { from_below = p; to_below = omega arith; sane = (kept, q l, omega arith, λ d. omega arith) }
      go false e = tt

  release_fine : (v : ℕ) → Fine plan (release plan.site v notes)
  unfolding release
  release_fine v = pass_fine (out_half plan.site.S) _ _ (omega arith) (λ p. p)

  carry_fine : (v h : ℕ) (arrived out : Bool) → eqb h (in_half plan.site.T) ≡ arrived → is_out h ≡ out → v < plan.site.n → h < 2 * plan.site.n → Fine plan (carry arrived out plan.site v h notes)
  unfolding carry
  carry_fine v h true out a e p q = release_fine (suc v)
  carry_fine v h false true a e p q = pass_fine h v _ q (λ l. p)
  carry_fine v h false false a e p q =
      let even : h % 2 ≡ 1 → ⊥ = eqb-false (h % 2) 1 e in
      let not_T : h ≡ in_half plan.site.T → ⊥ = eqb-false h (in_half plan.site.T) a in
      record { from_below = q; to_below = omega arith; sane = (kept, p, omega arith, λ d. not_T (omega arith)) }

-- ---- a search

module _ (plan : Plan) (notes : Notes) (h : ℕ) (rest : Waiting) (seeking : Seeking plan notes h rest) where
  under : Under plan notes h rest
  under = seeking.under

  -- half y gets a PDT from half h, which a step joins to it
  gets_sane : (place y : ℕ) (arrived before : Bool) → eqb y (in_half plan.site.T) ≡ arrived → notes.entered y ≡ before → Joined plan.site h y → Sane plan (gets arrived before y notes (waits h place rest))
  unfolding gets
  gets_sane place y true before a e joined = (
    record {
      kept = kept_entering plan notes y (joined-below plan.site h y joined).1 under.kept;
      numbered = under.numbered;
      fewer = under.fewer;
      asked = under.asked;
      room = omega (arith, under.room, none_lost plan.site notes y);
    },
    joined,
  )
  gets_sane place y false true a e joined = (seeking, (joined-below plan.site h y joined).1)
  gets_sane place y false false a e joined =
      let below = (joined-below plan.site h y joined).1 in
      let other : in_half plan.site.T ≡ y → ⊥ = λ d. eqb-false y (in_half plan.site.T) a (sym d) in
      record {
        under = record {
          kept = kept_entering plan notes y below under.kept;
          numbered = under.numbered;
          fewer = under.fewer;
          asked = (joined, under.asked);
          room = omega (arith, under.room, one_more plan.site notes y below e);
        };
        T_new = rw (ne_eqb (in_half plan.site.T) y other) seeking.T_new;
      }

-- nothing is left to try: PDT_B, or S's round fails
gives_up_fine : (plan : Plan) → plan.site.S < plan.site.n → (notes : Notes) (h : ℕ) (rest : Waiting) → Seeking plan notes h rest → (found : ℕ) → Fine plan (tries false plan h found notes rest)
unfolding tries
gives_up_fine plan S-in notes h nobody seeking found = release_fine plan S-in notes seeking.under.kept 0
gives_up_fine plan S-in notes h (waits asker j rest) seeking found =
    let under = seeking.under in
    let joined = joined-below plan.site asker h under.asked.0 in
    record {
      from_below = joined.1;
      to_below = joined.0;
      sane = record {
        under = record { kept = under.kept; numbered = under.numbered; fewer = under.fewer; asked = under.asked.1; room = omega (arith, under.room) };
        T_new = seeking.T_new;
      };
    }

-- a place below n + 1 that is next can be tried
next_tried : (plan : Plan) (marks : Marks) (h place : ℕ) → next_place plan marks h place < plan.site.n + 1 → can_try plan.site marks h (plan.order (next_place plan marks h place)) ≡ true
unfolding next_place first_within
next_tried plan marks h place l = pick (dec_lt (plan.site.n + 1) place)
  where
    pick : Dec (plan.site.n + 1 < place) → can_try plan.site marks h (plan.order (next_place plan marks h place)) ≡ true
    pick (no p) = (first-from (λ i. can_try plan.site marks h (plan.order i)) place (plan.site.n + 1) (omega arith)).found l
    pick (yes p) = absurd (omega (arith, l, from_past plan marks h place p))

search-fine : (plan : Plan) → plan.site.S < plan.site.n → (notes : Notes) (h place : ℕ) (rest : Waiting) → Seeking plan notes h rest → Fine plan (search plan notes (waits h place rest))
unfolding search tries
search-fine plan S-in notes h place rest seeking = go (ltb _ (plan.site.n + 1)) refl
  where
    found : ℕ
    found = next_place plan notes.marks h place

    go : (b : Bool) → ltb found (plan.site.n + 1) ≡ b → Fine plan (tries b plan h found notes rest)
    go true e =
        let y = candidate plan.site h (plan.order found) in
        let joined = tried-joined plan.site notes.marks h (plan.order found) (next_tried plan notes.marks h place (ltb-true found (plan.site.n + 1) e)) in
        let ends = joined-below plan.site h y joined in
        record { from_below = ends.0; to_below = ends.1; sane = gets_sane plan notes h rest seeking (suc found) y _ _ refl refl joined }
    go false e = gives_up_fine plan S-in notes h rest seeking found

-- ---- replies

-- half y replies PMT
grant-fine : (plan : Plan) (y h place : ℕ) (notes : Notes) (rest : Waiting) → Under plan notes h rest → Joined plan.site h y → Fine plan (grant plan.site y notes (waits h place rest))
unfolding grant
grant-fine plan y h place notes nobody under joined =
    let ends = joined-below plan.site h y joined in
    let turned = kept_turning plan notes h y under.kept in
    record {
      from_below = ends.1;
      to_below = ends.0;
      sane = (record { on_steps = turned.on_steps; below = turned.below; few_rounds = turned.few_rounds; few_found = under.fewer }, under.numbered);
    }
grant-fine plan y h place notes (waits asker j rest) under joined =
    let ends = joined-below plan.site h y joined in
    record {
      from_below = ends.1;
      to_below = ends.0;
      sane = (record { kept = kept_turning plan notes h y under.kept; numbered = under.numbered; fewer = under.fewer; asked = under.asked.1; room = omega (arith, under.room) }, under.asked.0);
    }

-- a round is won
goes_on_fine : (plan : Plan) → plan.site.S < plan.site.n → (notes : Notes) → Kept plan notes → plan.kept + notes.round ≡ notes.found → (more : Bool) → ltb notes.found plan.k ≡ more → Fine plan (go_on more plan notes)
unfolding go_on
goes_on_fine plan S-in notes kept same true e = search-fine plan S-in (begun plan.site notes) (out_half plan.site.S) 0 nobody (begun_seeks plan notes S-in kept.on_steps same (ltb-true _ _ e))
goes_on_fine plan S-in notes kept same false e = release_fine plan S-in notes kept 0

-- ---- one inner step

fine : (plan : Plan) → plan.site.S < plan.site.n → (state : State) → Sane plan state → Fine plan (inner_step plan state)
unfolding inner_step decline
fine plan S-in (searching notes nobody) sane = absurd sane
fine plan S-in (searching notes (waits h place rest)) sane = search-fine plan S-in notes h place rest sane
fine plan S-in (declining y notes nobody) sane = absurd sane
fine plan S-in (declining y notes (waits h place rest)) sane = record { from_below = sane.1; to_below = top_below plan.site S-in h rest sane.0.under.asked; sane = sane.0 }
fine plan S-in (granting y notes nobody) sane = absurd sane
fine plan S-in (granting y notes (waits h place rest)) sane = grant-fine plan y h place notes rest sane.0 sane.1
fine plan S-in (won notes) sane = goes_on_fine plan S-in notes sane.0 sane.1 _ refl
fine plan S-in (carrying v h notes) sane = carry_fine plan S-in notes sane.0 v h _ _ refl refl sane.1 sane.2

-- the message that a sane state sends goes between halves of the map, and the state after it is sane
pub sound_step : (plan : Plan) → plan.site.S < plan.site.n → (state : State) (message : Message) (next : State) → Sane plan state → inner_step plan state ≡ sends message next → Sound plan message next
sound_step plan S-in state message next sane e = subst (λ (x : Next). Fine plan x) e (fine plan S-in state sane)

-- the start is sane where a path is lacking and the marks stand on steps
pub sane_start : (plan : Plan) → plan.site.S < plan.site.n → ((a b : ℕ) → plan.marks a b ≡ true → step plan.site a b ≡ true) → plan.kept < plan.k → Sane plan (start plan)
unfolding start
sane_start plan S-in on_steps fewer = rw (lt-ltb plan.kept plan.k fewer) (begun_seeks plan (at_first plan) S-in on_steps (omega arith) fewer)

-- no more rounds start than paths are wanted
pub sane_rounds : (plan : Plan) (state : State) → Sane plan state → (notes_of state).round ≤ plan.k
sane_rounds plan (searching notes nobody) sane = absurd sane
sane_rounds plan (searching notes (waits h place rest)) sane = sane.under.kept.few_rounds
sane_rounds plan (declining y notes nobody) sane = absurd sane
sane_rounds plan (declining y notes (waits h place rest)) sane = sane.0.under.kept.few_rounds
sane_rounds plan (granting y notes nobody) sane = absurd sane
sane_rounds plan (granting y notes (waits h place rest)) sane = sane.0.kept.few_rounds
sane_rounds plan (won notes) sane = sane.0.few_rounds
sane_rounds plan (carrying v h notes) sane = sane.0.few_rounds

-- One depth-first round, whatever the marks it begins with, shows what a round must show. Assumes nothing.
use mathlib.Core.Path.{◌≡◌, refl, sym, ap}
use mathlib.Core.Bool.{Bool, true, false}
use mathlib.Core.List.{[], ◌∷◌}
use mathlib.Core.Logic.{inl, inr}
use Prim.Native.Nat.{ℕ, zero, suc, ◌+◌, ◌*◌, ◌≤◌, ◌<◌}
use native.Mathlib.Omega.{arith}
use native.Mathlib.Decide.{dec_lt}
use lib.Dec.{eqb}
use lib.ListN.{length}
use borrow.Author.Tests.{eqb-true, eqb-false, lt-ltb, le-ltb}
use Rattle.basics.specs.Counting.{First}
use Rattle.basics.proofs.Counting.{first-from}
use Rattle.site.specs.Map.{Site, in_half, A}
use Rattle.site.proofs.Valid.{Valid}
use Rattle.tokens.specs.declared.Kind.TheVariants.{Pdt, PdtB, Pmt}
use Rattle.tokens.specs.Rules.{Marks, Plan, Entered, Notes, Waiting, nobody, waits, searching, granting, won, just_s, candidate, can_try, next_place, message, gets, tries, search, reversed, turning, entering, one_path_more, grant, decline, inner_step}
use Rattle.tokens.specs.Run.{notes_of}
use Rattle.menger.proofs.Network.{walkable, turned, all_turned, WayTurned, Split}
use Rattle.menger.proofs.Walks.{walk_below, walkable_steps}
use Rattle.routes.proofs.Trails.{network_of}
use Rattle.routes.proofs.Split.{split_of}
use Rattle.rounds.proofs.Shows.{Plays}
use Rattle.rounds.proofs.Order.{OrderOf}
use Rattle.rounds.proofs.Once.{Unsent, without, remaining, one_goes, none_goes, one_fewer}
use Rattle.rounds.proofs.Replies.{awaited, owes, answers}
use Rattle.rounds.proofs.Search.{halves_of, with, Search, NoneFrom, begins, was_left, asked, met_before, new_to_all, enters, gave_back, closes}
use Rattle.rounds.proofs.Rest.{Rest, before, played}

-- how many messages a search may still send: a reply to each half that waits below, and each PDT that is left with its reply
abbrev potential : Site → Unsent → Waiting → ℕ
potential site left rest = length (halves_of rest) + 2 * remaining (2 * site.n) left

-- notes in which these halves are entered
abbrev noting : Notes → Entered → Notes
noting notes entered = record { round = notes.round; found = notes.found; marks = notes.marks; entered = entered }

-- getting a PDT starts no round
same-round : (goal earlier : Bool) (y : ℕ) (notes : Notes) (waiting : Waiting) → notes.round ≡ (notes_of (gets goal earlier y notes waiting)).round
unfolding gets
same-round true earlier y notes waiting = refl
same-round false true y notes waiting = refl
same-round false false y notes waiting = refl

-- the rules and the network turn alike
turning-turns : (site : Site) (h y : ℕ) (marks : Marks) → reversed site h y marks ≡ turned (network_of site) h y marks
unfolding reversed turned
turning-turns site h y marks = refl

module _ (plan : Plan) (notes : Notes) where
  -- ---- PMT on the way back

  -- each half that waits turns its step and is paid, down to S
  unwinds :
      (left : Unsent) {most : ℕ} (y h i : ℕ) (rest : Waiting) (current : Notes) → current.round ≡ notes.round → current.found ≡ notes.found
      → WayTurned (network_of plan.site) notes.marks (all_turned (network_of plan.site) y (h ∷ halves_of rest) current.marks) → length (h ∷ halves_of rest) ≤ most
      → Rest plan notes left (awaited y (h ∷ halves_of rest)) most (granting y current (waits h i rest))
  unfolding inner_step grant all_turned
  unwinds left y h i nobody current round found walked p =
      before plan notes {left' = left} {most' = 0} (message Pmt y h) refl (sym round) (owes y h []) (answers y h []) (none_goes left) (omega arith) (record {
        log = [];
        end = won (one_path_more (turning plan.site h y current));
        leads = refl;
        few = omega arith;
        answered = λ a b. refl;
        once = λ a b. omega arith;
        result = inl (record { after = one_path_more (turning plan.site h y current); is-won = refl; same-round = round; one_more = ap suc found; walked = rw turning-turns walked });
      })
  unwinds left y h i (waits g j rest) current round found walked p =
      before plan notes {most' = length (g ∷ halves_of rest)} (message Pmt y h) refl (sym round) (owes y h (g ∷ halves_of rest)) (answers y h (g ∷ halves_of rest)) (none_goes left) (omega arith)
      (unwinds left h g j rest (turning plan.site h y current) round found (rw turning-turns walked) (omega arith))

  -- ---- the search

  -- the search from these halves on ends as a round must
  abbrev Ended : Entered → Unsent → ℕ → ℕ → Waiting → Type 0
  Ended entered left h i rest = Rest plan notes left (awaited h (halves_of rest)) (potential plan.site left rest) (searching (noting notes entered) (waits h i rest))

  -- every search does that may still send fewer messages than this
  abbrev EndsBelow : ℕ → Type 0
  EndsBelow fuel = (entered : Entered) (left : Unsent) (h i : ℕ) (rest : Waiting) → Search plan notes.marks entered entered left (waits h i rest) → potential plan.site left rest < fuel → Ended entered left h i rest

  -- a place of half h is open
  abbrev open_at : ℕ → ℕ → Bool
  open_at h place = can_try plan.site notes.marks h (plan.order place)

  next-place : (h i : ℕ) → i ≤ plan.site.n + 1 → First (open_at h) i (plan.site.n + 1) (next_place plan notes.marks h i)
  unfolding next_place
  next-place h i p = first-from (open_at h) i (plan.site.n + 1) p

  none_from : (h i : ℕ) → i ≤ plan.site.n + 1 → plan.site.n + 1 ≤ next_place plan notes.marks h i → NoneFrom plan notes.marks h i
  none_from h i p q place from within = (next-place h i p).before place from (omega arith)

  module _ (ordered : OrderOf plan) (split : Split (network_of plan.site)) (fuel : ℕ) (ends : EndsBelow fuel) where
    -- half y gets a PDT from half h. The two tests: it is T's in half; it was entered before
    gets_pdt :
        (entered : Entered) (left : Unsent) (y h i : ℕ) (rest : Waiting) (goal earlier : Bool) → eqb y (in_half plan.site.T) ≡ goal → entered y ≡ earlier
        → Search plan notes.marks entered (with y entered) left (waits h i rest) → walkable (network_of plan.site) notes.marks h y ≡ true → potential plan.site left (waits h i rest) < fuel
        → Rest plan notes left (awaited y (h ∷ halves_of rest)) (potential plan.site left (waits h i rest)) (gets goal earlier y (noting notes entered) (waits h i rest))
    unfolding gets inner_step decline
    gets_pdt entered left y h i rest true earlier e f s walk p = unwinds left y h i rest (entering y (noting notes entered)) refl refl walked (omega arith)
      where
        goal : y ≡ in_half plan.site.T
        goal = eqb-true _ _ e

        walked : WayTurned (network_of plan.site) notes.marks (all_turned (network_of plan.site) y (h ∷ halves_of rest) notes.marks)
        walked = record { halves = h ∷ halves_of rest; way = (rw goal at walk, s.chain); once = new_to_all plan notes.marks s s.goal_out; turns = rw goal }
    gets_pdt entered left y h i rest false true e f s walk p =
        before plan notes (message PdtB y h) refl refl (owes y h (halves_of rest)) (answers y h (halves_of rest)) (none_goes left) (omega arith)
        (ends entered left h i rest (met_before plan notes.marks s f) (omega arith))
    gets_pdt entered left y h i rest false false e f s walk p = ends (with y entered) left y 0 (waits h i rest) (enters plan notes.marks ordered s f (eqb-false _ _ e) (walk, s.chain)) p

    -- half h has found its next place
    sends_pdt :
        (entered : Entered) (left : Unsent) (h i : ℕ) (rest : Waiting) → Search plan notes.marks entered entered left (waits h i rest) → potential plan.site left rest < suc fuel
        → next_place plan notes.marks h i < plan.site.n + 1 → Ended entered left h i rest
    unfolding inner_step search tries
    sends_pdt entered left h i rest s p q =
        let place : ℕ = next_place plan notes.marks h i in
        let y : ℕ = candidate plan.site h (plan.order place) in
        let first : First (open_at h) i (plan.site.n + 1) place = next-place h i s.rows.0.within in
        let goes : left h y ≡ true = was_left plan notes.marks s first q in
        let walk : walkable (network_of plan.site) notes.marks h y ≡ true = s.walks h y goes in
        let below = walk_below split notes.marks h y walk in
        let fewer : remaining (2 * plan.site.n) left ≡ suc (remaining (2 * plan.site.n) (without h y left)) = one_fewer h y left (2 * plan.site.n) below.0 below.1 goes in
        before plan notes (message Pdt h y) (rw (lt-ltb place (plan.site.n + 1) q)) (same-round (eqb y (in_half plan.site.T)) (entered y) y (noting notes entered) (waits h (suc place) rest)) tt (λ a b. refl) (one_goes h y left goes) (omega arith)
        (gets_pdt entered (without h y left) y h (suc place) rest (eqb y (in_half plan.site.T)) (entered y) refl refl (asked plan notes.marks s first q ordered) walk (omega arith))

    -- half h has no place left: it replies PDT_B, or is S
    has_none :
        (entered : Entered) (left : Unsent) (h i : ℕ) (rest : Waiting) → Search plan notes.marks entered entered left (waits h i rest) → potential plan.site left rest < suc fuel
        → plan.site.n + 1 ≤ next_place plan notes.marks h i → Ended entered left h i rest
    unfolding inner_step search tries
    has_none entered left h i nobody s p q = record {
      log = [];
      end = searching (noting notes entered) (waits h i nobody);
      leads = refl;
      few = omega arith;
      answered = λ a b. refl;
      once = λ a b. omega arith;
      result = inr (λ start whole. record {
        after = noting notes entered;
        gives_up = rw (le-ltb (next_place plan notes.marks h i) (plan.site.n + 1) q);
        same-round = refl;
        same_found = refl;
        same_marks = refl;
        shut = closes plan notes.marks s (none_from h i s.rows.0.within q);
        told = inr refl;
      });
    }
    has_none entered left h i (waits g j rest) s p q =
        before plan notes (message PdtB h g) (rw (le-ltb (next_place plan notes.marks h i) (plan.site.n + 1) q)) refl (owes h g (halves_of rest)) (answers h g (halves_of rest)) (none_goes left) (omega arith)
        (ends entered left g j rest (gave_back plan notes.marks s (none_from h i s.rows.0.within q)) (omega arith))

  -- the potential falls with each message, so that every search ends
  every_search_ends : OrderOf plan → Split (network_of plan.site) → (fuel : ℕ) → EndsBelow fuel
  every_search_ends ordered split zero entered left h i rest s p = absurd (omega arith)
  every_search_ends ordered split (suc fuel) entered left h i rest s p = go (dec_lt (next_place plan notes.marks h i) (plan.site.n + 1)) (every_search_ends ordered split fuel)
    where
      go : Dec (next_place plan notes.marks h i < plan.site.n + 1) → EndsBelow fuel → Ended entered left h i rest
      go (yes q) ih = sends_pdt ordered split fuel ih entered left h i rest s p q
      go (no q) ih = has_none ordered split fuel ih entered left h i rest s p (omega arith)

-- a round that begins with S's out half alone entered shows what a round must show, whatever the marks
pub round_played : (plan : Plan) → Valid plan.site → OrderOf plan → Plays plan
unfolding A
round_played plan valid ordered state notes same only =
    let left : Unsent = walkable (network_of plan.site) notes.marks in
    let begun : Search plan notes.marks notes.entered notes.entered left (just_s plan.site) = rw only (begins plan notes.marks ordered) in
    played plan notes state same (omega (arith, walkable_steps (network_of plan.site) notes.marks))
    (every_search_ends plan notes ordered (split_of plan.site valid) (suc (potential plan.site left nobody)) notes.entered left _ 0 nobody begun (omega arith))

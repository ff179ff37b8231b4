-- All rounds of a run, whatever search plays them and whatever it starts from: the marks stay a flow of as many units as paths are found. Assumes nothing.
use mathlib.Core.Path.{◌≡◌, refl, ap, ◌∙◌}
use mathlib.Core.List.{List, [], ◌++◌}
use mathlib.Core.Logic.{◌⊎◌, inl, inr}
use Prim.Native.Nat.{ℕ, zero, suc, ◌+◌, ◌*◌, ◌≤◌, ◌<◌}
use native.Mathlib.Nat.{mul-suc}
use native.Mathlib.Omega.{arith}
use native.Mathlib.Decide.{dec_lt}
use lib.ListN.{length, length-append}
use borrow.Author.Tests.{lt-ltb, le-ltb}
use Rattle.site.specs.Map.{A}
use Rattle.site.proofs.Valid.{Valid}
use Rattle.tokens.specs.Rules.{Plan, Notes, State, won, begun, release, go_on, inner_step}
use Rattle.tokens.specs.Run.{Entry, notes_of}
use Rattle.menger.proofs.Network.{Shut}
use Rattle.menger.proofs.Flow.{Flow, one_more}
use Rattle.routes.proofs.Trails.{network_of}
use Rattle.routes.proofs.Split.{split_of}
use Rattle.rounds.proofs.Shows.{Leads, in_round, Won, Lost, Played, Plays}
use Rattle.demands.proofs.Carried.{leads_on, in_round_length, all_append}
use Rattle.demands.proofs.Opening.{opens, one_round, won_at_the_end}
use Rattle.demands.proofs.Told.{NoDone, round_no_done}
use Rattle.demands.proofs.Tokens.{Orderly, dones_orderly, round_orderly, later_rounds}

-- all k paths are found, or the last round was lost. Each round but a lost one has added a path to those that were kept
abbrev pub FullOrLost : Plan → Notes → Type 0
FullOrLost plan last =
    ((last.found ≡ plan.k) × (plan.kept + last.round ≡ plan.k))
    ⊎ ((last.found < plan.k) × (plan.kept + last.round ≡ suc last.found) × Shut (network_of plan.site) last.marks last.entered)

-- rounds from a state on, with these notes before the first of them, until S is about to send DONE
pub record AllPlayed (plan : Plan) (state : State) (notes : Notes) : Type 0 where
  pub log : List Entry
  pub end : State
  pub last : Notes
  pub leads : Leads plan state log end
  pub gives_up : inner_step plan end ≡ release plan.site 0 last
  pub flow : Flow (network_of plan.site) last.found last.marks
  pub few : length log + 2 * A plan.site * notes.round ≤ 2 * A plan.site * last.round
  pub orderly : Orderly plan.site (suc notes.round) log
  pub no_done : NoDone log
  pub more : notes.found ≤ last.found
  pub outcome : FullOrLost plan last
  -- whenever a round has been won on the way, the marks are a flow of as many units as paths are found
  pub each_won : (opening : List Entry) (after : Notes) → Leads plan state opening (won after) → 0 < length opening → length opening ≤ length log → Flow (network_of plan.site) after.found after.marks
  -- where no path is found the state tells the last notes, unless nothing was sent
  pub told : last.found ≡ 0 → ((end ≡ state) × (last ≡ begun plan.site notes)) ⊎ (notes_of end ≡ last)

module _ (plan : Plan) (valid : Valid plan.site) (wanted : 0 < plan.k) (plays : Plays plan) where
  in_order : (notes : Notes) (state : State) (p : Played plan state notes) → Orderly plan.site notes.round (in_round notes.round p.log)
  in_order notes state p = round_orderly plan.site (split_of plan.site valid) notes.marks notes.round p.log p.answered p.once

  sent : (notes : Notes) (state : State) (p : Played plan state notes) → length (in_round notes.round p.log) ≤ 2 * A plan.site
  sent notes state p = omega (arith, in_round_length notes.round p.log, p.few)

  -- the marks where this round was won
  won_flow : (state : State) (notes : Notes) (p : Played plan state notes) → Flow (network_of plan.site) notes.found notes.marks
      → (opening : List Entry) (after : Notes) → Leads plan state opening (won after) → 0 < length opening → length opening ≤ length (in_round notes.round p.log) → Flow (network_of plan.site) after.found after.marks
  won_flow state notes p flow opening after leads some shorter = cases p.result
    where
      parts : (rest : List Entry) × (in_round notes.round p.log ≡ opening ++ rest) × Leads plan (won after) rest p.end
      parts = opens plan state opening (in_round notes.round p.log) (won after) p.end leads p.leads shorter

      at_end : won after ≡ p.end
      at_end = won_at_the_end plan notes.round state opening parts.0 after p.end some leads parts.2 (rw parts.1 at (one_round notes.round p.log (λ x y. 0) p.answered))

      told : (l : Lost plan state p.log notes p.end) → ((p.log ≡ []) × (p.end ≡ state) × (l.after ≡ notes)) ⊎ (notes_of p.end ≡ l.after) → Flow (network_of plan.site) after.found after.marks
      told l (inl w) = absurd (omega (arith, in_round_length notes.round p.log, ap length w.0))
      told l (inr w) = rw (ap notes_of at_end ∙ w, l.same_found, l.same_marks) flow

      cases : Won plan notes p.end ⊎ Lost plan state p.log notes p.end → Flow (network_of plan.site) after.found after.marks
      cases (inl w) = rw (ap notes_of (at_end ∙ w.is-won), w.one_more) (one_more (split_of plan.site valid) flow w.walked)
      cases (inr l) = told l l.told

  -- where all paths are found no round is played
  full : (state : State) (notes : Notes) → notes.found ≡ plan.k → plan.kept + notes.round ≡ notes.found → Flow (network_of plan.site) notes.found notes.marks
      → inner_step plan state ≡ inner_step plan (won notes) → AllPlayed plan state notes
  unfolding inner_step go_on
  full state notes all numbered flow next =
      record {
        log = [];
        end = state;
        last = notes;
        leads = refl;
        gives_up = next ∙ rw (le-ltb notes.found plan.k (omega arith));
        flow = flow;
        few = omega arith;
        orderly = dones_orderly plan.site (suc notes.round) (suc notes.round) [] (omega arith) tt;
        no_done = tt;
        more = omega arith;
        outcome = inl (all, omega arith);
        each_won = λ opening after leads some shorter. absurd (omega arith);
        told = λ none. absurd (omega arith);
      }

  -- ---- a round is played

  module _ (state : State) (notes : Notes) (flow : Flow (network_of plan.site) notes.found notes.marks) (p : Played plan state (begun plan.site notes)) where
    abbrev round : List Entry
    round = in_round (suc notes.round) p.log

    silent_round : NoDone round
    silent_round = round_no_done (suc notes.round) p.log (λ x y. 0) p.answered

    -- a lost round is the last
    lost : notes.found < plan.k → plan.kept + notes.round ≡ notes.found → Lost plan state p.log (begun plan.site notes) p.end → AllPlayed plan state notes
    lost fewer numbered l =
        record {
          log = round;
          end = p.end;
          last = l.after;
          leads = p.leads;
          gives_up = l.gives_up;
          flow = rw (l.same_marks, l.same_found) flow;
          few = omega (arith, sent (begun plan.site notes) state p, ap (λ (r : ℕ). 2 * A plan.site * r) l.same-round, mul-suc (2 * A plan.site) notes.round);
          orderly = in_order (begun plan.site notes) state p;
          no_done = silent_round;
          more = omega (arith, l.same_found);
          outcome = inr (omega (arith, l.same_found), omega (arith, l.same_found, l.same-round), rw l.same_marks l.shut);
          each_won = won_flow state (begun plan.site notes) p flow;
          told = λ none. tell l.told;
        }
      where
        tell : ((p.log ≡ []) × (p.end ≡ state) × (l.after ≡ begun plan.site notes)) ⊎ (notes_of p.end ≡ l.after) → ((p.end ≡ state) × (l.after ≡ begun plan.site notes)) ⊎ (notes_of p.end ≡ l.after)
        tell (inl w) = inl (w.1, w.2)
        tell (inr w) = inr w

    -- a won round comes before those that follow it
    again : (w : Won plan (begun plan.site notes) p.end) → AllPlayed plan p.end w.after → AllPlayed plan state notes
    again w rest =
        record {
          log = round ++ rest.log;
          end = rest.end;
          last = rest.last;
          leads = leads_on plan state p.end rest.end round rest.log p.leads rest.leads;
          gives_up = rest.gives_up;
          flow = rest.flow;
          few = omega (
            arith,
            length-append round rest.log,
            sent (begun plan.site notes) state p,
            rest.few,
            ap (λ (r : ℕ). 2 * A plan.site * r) w.same-round,
            mul-suc (2 * A plan.site) notes.round,
          );
          orderly = later_rounds plan.site (suc notes.round) p.log rest.log (in_order (begun plan.site notes) state p) (rw w.same-round at rest.orderly);
          no_done = all_append _ round rest.log silent_round rest.no_done;
          more = omega (arith, w.one_more, rest.more);
          outcome = rest.outcome;
          each_won = λ opening after leads some shorter. earlier opening after leads some shorter (dec_lt (length round) (length opening));
          told = λ none. absurd (omega (arith, w.one_more, rest.more));
        }
      where
        earlier : (opening : List Entry) (after : Notes) → Leads plan state opening (won after) → 0 < length opening → length opening ≤ length (round ++ rest.log)
            → Dec (length round < length opening) → Flow (network_of plan.site) after.found after.marks
        earlier opening after leads some shorter (no q) = won_flow state (begun plan.site notes) p flow opening after leads some (omega arith)
        earlier opening after leads some shorter (yes q) =
            let parts = opens plan state round opening p.end (won after) p.leads leads (omega arith) in
            let sizes = ap length parts.1 ∙ length-append round parts.0 in
            rest.each_won parts.0 after parts.2 (omega arith) (omega (arith, length-append round rest.log))

  -- so many rounds may still be won
  pub all_played : (f : ℕ) (state : State) (notes : Notes) → notes.found + f ≡ plan.k → plan.kept + notes.round ≡ notes.found → Flow (network_of plan.site) notes.found notes.marks
      → inner_step plan state ≡ inner_step plan (won notes) → AllPlayed plan state notes
  unfolding inner_step go_on
  all_played zero state notes left numbered flow next = full state notes (omega arith) numbered flow next
  all_played (suc f) state notes left numbered flow next = go (plays state (begun plan.site notes) (next ∙ rw (lt-ltb notes.found plan.k (omega arith))) refl) (all_played f)
    where
      go : Played plan state (begun plan.site notes)
          → ((state' : State) (notes' : Notes) → notes'.found + f ≡ plan.k → plan.kept + notes'.round ≡ notes'.found → Flow (network_of plan.site) notes'.found notes'.marks
          → inner_step plan state' ≡ inner_step plan (won notes') → AllPlayed plan state' notes')
          → AllPlayed plan state notes
      go p rest = cases p.result
        where
          cases : Won plan (begun plan.site notes) p.end ⊎ Lost plan state p.log (begun plan.site notes) p.end → AllPlayed plan state notes
          cases (inl w) =
              again state notes flow p w
              (rest p.end w.after (omega (arith, w.one_more)) (omega (arith, w.one_more, w.same-round)) (rw w.one_more (one_more (split_of plan.site valid) flow w.walked))
              (ap (inner_step plan) w.is-won))
          cases (inr l) = lost state notes flow p (omega arith) numbered l

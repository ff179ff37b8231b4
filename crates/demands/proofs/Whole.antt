-- The whole run from any start: its rounds, then its DONE messages, and then it is over by itself. Assumes nothing.
use mathlib.Core.Path.{◌≡◌, refl, sym, ap, ◌∙◌}
use mathlib.Core.Bool.{Bool, true, false, cond}
use mathlib.Core.List.{List, [], ◌∷◌, ◌++◌}
use mathlib.Core.Logic.{◌⊎◌, inl, inr}
use Prim.Native.Nat.{ℕ, zero, suc, ◌+◌, ◌-◌, ◌*◌, ◌≤◌, ◌<◌}
use native.Mathlib.Nat.{add-mul, mul_right_comm}
use native.Mathlib.Omega.{arith}
use native.Mathlib.Decide.{dec_lt}
use lib.Dec.{ltb}
use lib.ListN.{length, length-append}
use borrow.Author.Tests.{lt-ltb, le-ltb}
use Rattle.basics.specs.Lists.{All}
use Rattle.site.specs.Map.{in_half, out_half, A}
use Rattle.site.proofs.Valid.{Valid}
use Rattle.tokens.specs.declared.Kind.TheVariants.{Done}
use Rattle.tokens.specs.declared.Message.{Message}
use Rattle.tokens.specs.Rules.{Plan, Notes, State, searching, won, carrying, over, begun, just_s, go_on, inner_step, at_first, start}
use Rattle.tokens.specs.Run.{Entry, Walked, notes_of, run_on, run_from, walked, paths_of}
use Rattle.menger.proofs.Flow.{Flow}
use Rattle.menger.proofs.Units.{marked_below, not_the_source}
use Rattle.routes.proofs.FromFlow.{whole}
use Rattle.routes.proofs.Split.{split_of}
use Rattle.routes.proofs.Starts.{starts_marked, starts_number, onward_marked}
use Rattle.routes.proofs.Trails.{network_of, trail_of, starts, paths_from}
use Rattle.rounds.proofs.Shows.{Leads, in_round, Plays}
use Rattle.message_log.specs.Last.{DonesLast}
use Rattle.demands.proofs.Carried.{leads_on, in_round_length, dones_of, all_done, stands_at, AllCarried, all_carried}
use Rattle.demands.proofs.Few.{dones_few}
use Rattle.demands.proofs.Opening.{opens, release-carries, no_more_won}
use Rattle.demands.proofs.Rounds.{FullOrLost, AllPlayed, all_played}
use Rattle.demands.proofs.Told.{silent, dones_last, read_all}
use Rattle.demands.proofs.Tokens.{Orderly, then_dones}

-- what a run may start from: a valid map, a search that plays its rounds, marks that are a flow of as many units as paths are kept, and no more of these than are wanted
pub record CanStart (plan : Plan) : Type 0 where
  pub valid : Valid plan.site
  pub plays : Plays plan
  pub flow : Flow (network_of plan.site) plan.kept plan.marks
  pub few : plan.kept ≤ plan.k
  pub wanted : 0 < plan.k

-- what its run comes to
pub record WholeRun (plan : Plan) : Type 0 where
  pub log : List Entry
  pub end : State
  pub last : Notes
  pub leads : Leads plan (start plan) log end
  pub ends : inner_step plan end ≡ over
  pub told : notes_of end ≡ last
  -- the last DONE has come to T, unless no path was found
  pub at-T : (last.found ≡ 0) ⊎ ((v : ℕ) × (end ≡ carrying v (in_half plan.site.T) last))
  pub flow : Flow (network_of plan.site) last.found last.marks
  pub more : plan.kept ≤ last.found
  pub outcome : FullOrLost plan last
  -- whenever a round has been won on the way, the marks are a flow of as many units as paths are found
  pub each_won : (opening : List Entry) (after : Notes) → Leads plan (start plan) opening (won after) → Flow (network_of plan.site) after.found after.marks
  pub paths : paths_of plan.site log ≡ paths_from plan.site last.marks
  pub dones_last : DonesLast log
  pub orderly : Orderly plan.site 0 log
  pub bound : length log ≤ (2 * last.round + 1) * A plan.site

-- a log that leads to the end and fits the budget is the run's
pub run_is : (plan : Plan) (budget : ℕ) (state : State) (log : List Entry) (end : State) → Leads plan state log end → inner_step plan end ≡ over → length log ≤ budget
    → run_from plan budget state ≡ record { log = log; last = end }
unfolding run_on
run_is plan zero state [] end leads ends fits = rw leads
run_is plan (suc budget) state [] end leads ends fits = rw (leads, ends)
run_is plan zero state (e ∷ log) end leads ends fits = absurd (omega arith)
run_is plan (suc budget) state (e ∷ log) end leads ends fits = rw (leads.1, run_is plan budget leads.0 log end leads.3 ends (omega arith), sym leads.2)

-- ---- the start

-- round 1 begins at once
pub starts_searching : (plan : Plan) → plan.kept < plan.k → start plan ≡ searching (begun plan.site (at_first plan)) (just_s plan.site)
unfolding start
starts_searching plan p = rw (lt-ltb plan.kept plan.k p)

-- or no round is needed
starts_won : (plan : Plan) → plan.k ≤ plan.kept → start plan ≡ won (at_first plan)
unfolding start
starts_won plan p = rw (le-ltb plan.kept plan.k p)

-- either way S goes on as after a round that was won
start-goes-on : (plan : Plan) → inner_step plan (start plan) ≡ inner_step plan (won (at_first plan))
unfolding inner_step start go_on
start-goes-on plan = go (ltb plan.kept plan.k) refl
  where
    go : (b : Bool) → ltb plan.kept plan.k ≡ b
        → inner_step plan (cond b (searching (begun plan.site (at_first plan)) (just_s plan.site)) (won (at_first plan))) ≡ go_on (ltb plan.kept plan.k) plan (at_first plan)
    go true e = rw e
    go false e = refl

module _ {plan : Plan} (can : CanStart plan) where
  rounds : AllPlayed plan (start plan) (at_first plan)
  rounds = all_played plan can.valid can.wanted can.plays (plan.k - plan.kept) (start plan) (at_first plan) (omega (arith, can.few)) (omega arith) can.flow (start-goes-on plan)

  -- S sends DONE along the marks of the last round
  carried : (r : AllPlayed plan (start plan) (at_first plan)) → AllCarried plan r.last r.end (starts plan.site r.last.marks)
  carried r = all_carried plan r.last below (onward_marked can.valid r.flow) arrive r.end r.gives_up
    where
      below : (h v : ℕ) → r.last.marks h (in_half v) ≡ true → v < plan.site.n
      below h v e = omega (arith, (marked_below (split_of plan.site can.valid) r.flow h (in_half v) e).1)

      arrive : (v : ℕ) → r.last.marks (out_half plan.site.S) (in_half v) ≡ true → stands_at (trail_of plan.site r.last.marks v) ≡ in_half plan.site.T
      arrive v e = ap stands_at (whole can.valid r.flow v e).shape

  -- where there is no DONE nothing was found, and the rounds tell the notes
  tells : (r : AllPlayed plan (start plan) (at_first plan)) (c : AllCarried plan r.last r.end (starts plan.site r.last.marks)) → notes_of c.end ≡ r.last
  tells r c = go c.at-T
    where
      early : r.last.found ≡ 0 → ((r.end ≡ start plan) × (r.last ≡ begun plan.site (at_first plan))) ⊎ (notes_of r.end ≡ r.last) → notes_of r.end ≡ r.last
      early none (inl w) = ap notes_of (w.0 ∙ starts_searching plan (omega (arith, r.more, can.wanted))) ∙ sym w.1
      early none (inr w) = w

      go : ((starts plan.site r.last.marks ≡ []) × (c.end ≡ r.end)) ⊎ ((v : ℕ) × (c.end ≡ carrying v (in_half plan.site.T) r.last)) → notes_of c.end ≡ r.last
      go (inl w) = let none = sym (starts_number can.valid r.flow) ∙ ap length w.0 in ap notes_of w.1 ∙ early none (r.told none)
      go (inr w) = ap notes_of w.1

  -- both together
  finish : (r : AllPlayed plan (start plan) (at_first plan)) → AllCarried plan r.last r.end (starts plan.site r.last.marks) → WholeRun plan
  unfolding paths_from
  finish r c =
      record {
        log = r.log ++ in_round r.last.round dones;
        end = c.end;
        last = r.last;
        leads = leads_on plan (start plan) r.end c.end r.log (in_round r.last.round dones) r.leads c.leads;
        ends = c.ends;
        told = tells r c;
        at-T = arrived c.at-T;
        flow = r.flow;
        more = r.more;
        outcome = r.outcome;
        each_won = λ opening after leads. wins opening after leads (dec_lt 0 (length opening)) (dec_lt (length r.log) (length opening));
        paths = ap (λ (w : Walked). w.paths) (silent plan.site r.log r.no_done (in_round r.last.round dones) ∙ read);
        dones_last = dones_last r.log r.last.round dones r.no_done done;
        orderly = then_dones plan.site 1 r.last.round r.log dones r.orderly done;
        bound = omega (
          arith,
          length-append r.log (in_round r.last.round dones),
          in_round_length r.last.round dones,
          dones_few can.valid r.flow,
          r.few,
          twice r.last.round (A plan.site),
        );
      }
    where
      dones : List Message
      dones = dones_of plan.site r.last.marks (starts plan.site r.last.marks)

      done : All (λ (m : Message). m.kind ≡ Done) dones
      done = all_done plan.site r.last.marks (starts plan.site r.last.marks)

      arrived : ((starts plan.site r.last.marks ≡ []) × (c.end ≡ r.end)) ⊎ ((v : ℕ) × (c.end ≡ carrying v (in_half plan.site.T) r.last)) → (r.last.found ≡ 0) ⊎ ((v : ℕ) × (c.end ≡ carrying v (in_half plan.site.T) r.last))
      arrived (inl w) = inl (sym (starts_number can.valid r.flow) ∙ ap length w.0)
      arrived (inr w) = inr w

      -- won before anything is sent: no round was needed
      at-first : (after : Notes) → start plan ≡ won after → Dec (plan.kept < plan.k) → Flow (network_of plan.site) after.found after.marks
      at-first after e (yes p) = absurd (let s = sym (starts_searching plan p) ∙ e in let z : ◌≡◌ {A = ℕ} 0 1 = cc in omega arith)
      at-first after e (no p) = rw (ap notes_of (sym e ∙ starts_won plan (omega arith))) can.flow

      wins : (opening : List Entry) (after : Notes) → Leads plan (start plan) opening (won after) → Dec (0 < length opening) → Dec (length r.log < length opening) → Flow (network_of plan.site) after.found after.marks
      wins [] after leads (no p) q = at-first after leads (dec_lt plan.kept plan.k)
      wins (e ∷ opening) after leads (no p) q = absurd (omega arith)
      wins opening after leads (yes p) (no q) = r.each_won opening after leads p (omega arith)
      wins opening after leads (yes p) (yes q) =
          let parts = opens plan (start plan) r.log opening r.end (won after) r.leads leads (omega arith) in
          let sizes = ap length parts.1 ∙ length-append r.log parts.0 in
          absurd (no_more_won plan r.end parts.0 (won after) (rw r.gives_up (release-carries plan.site 0 r.last)) (omega arith) parts.2)

      read : walked plan.site (in_round r.last.round dones) ≡ record { onward = []; paths = paths_from plan.site r.last.marks }
      read = read_all plan.site r.last.marks r.last.round (not_the_source (split_of plan.site can.valid) r.flow) (onward_marked can.valid r.flow) (starts plan.site r.last.marks) (starts_marked plan.site r.last.marks)

      twice : (x a : ℕ) → (2 * x + 1) * a ≡ 2 * a * x + a
      twice x a = add-mul (2 * x) 1 a ∙ omega (arith, mul_right_comm 2 x a)

  pub whole-run : WholeRun plan
  whole-run = finish rounds (carried rounds)

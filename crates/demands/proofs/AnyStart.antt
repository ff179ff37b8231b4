-- What demands 2 and 3 say, of the run of any plan that can start: any order of trying, any marks to begin with. Assumes nothing.
use mathlib.Core.Path.{◌≡◌, sym, ap, ◌∙◌, subst}
use mathlib.Core.Bool.{true}
use mathlib.Core.List.{List}
use mathlib.Core.Logic.{◌⊎◌, ◌↔◌, inl, inr}
use Prim.Native.Nat.{ℕ, min, ◌+◌, ◌-◌, ◌*◌, ◌≤◌, ◌<◌}
use native.Mathlib.Nat.{mul-le-mul_right}
use native.Mathlib.Omega.{arith}
use native.Mathlib.Decide.{dec_lt}
use lib.ListN.{length}
use Rattle.basics.specs.Lists.{All, InOrder}
use Rattle.site.specs.Map.{in_half, out_half, A}
use Rattle.site.specs.Paths.{DisjointPaths, Largest, Meets, Cut}
use Rattle.tokens.specs.Rules.{Plan, Notes, State, won, carrying, over, inner_step, start}
use Rattle.tokens.specs.Run.{Entry, Run, notes_of, run_from, paths_of, times_leaving, cut_of}
use Rattle.menger.proofs.Network.{Shut}
use Rattle.menger.proofs.Flow.{Flow}
use Rattle.menger.proofs.Units.{one_out}
use Rattle.routes.proofs.Trails.{network_of, paths_from}
use Rattle.routes.proofs.FromFlow.{paths_disjoint, paths_number}
use Rattle.routes.proofs.Duality.{largest_unique}
use Rattle.routes.proofs.Cutting.{cut, cut_number, cut_in_order}
use Rattle.routes.proofs.LeavesOnce.{each_leaves_once}
use Rattle.routes.proofs.Split.{split_of}
use Rattle.routes.proofs.Most.{largest}
use Rattle.rounds.proofs.Shows.{Leads}
use Rattle.demands.proofs.Rounds.{FullOrLost}
use Rattle.message_log.specs.Last.{DonesLast}
use Rattle.demands.proofs.Opening.{led_found}
use Rattle.demands.proofs.Tokens.{Orderly}
use Rattle.demands.proofs.Whole.{CanStart, WholeRun, run_is, starts_searching, whole-run}

-- the cut that the halves entered in the last round make
abbrev pub last_cut : Plan → Run → List ℕ
last_cut plan run = cut_of plan.site (notes_of run.last).entered (paths_of plan.site run.log)

-- a run that is over, and what it comes to
pub record Delivers (plan : Plan) (run : Run) : Type 0 where
  pub ends : inner_step plan run.last ≡ over
  -- ---- demand 2
  pub disjoint : DisjointPaths plan.site (paths_of plan.site run.log)
  pub number : length (paths_of plan.site run.log) ≡ (notes_of run.last).found
  pub at_least : plan.kept ≤ (notes_of run.last).found
  pub at_most : (notes_of run.last).found ≤ plan.k
  pub fewer : ((notes_of run.last).found < plan.k) ↔ ((paths : List (List ℕ)) → DisjointPaths plan.site paths → length paths ≡ plan.k → ⊥)
  pub largest : (M : ℕ) → Largest plan.site M → (notes_of run.last).found ≡ min plan.k M
  pub cut : (notes_of run.last).found < plan.k → Cut plan.site (last_cut plan run)
  pub in_order : (notes_of run.last).found < plan.k → InOrder (Meets plan.site) (last_cut plan run) (paths_of plan.site run.log)
  pub items : (notes_of run.last).found < plan.k → length (last_cut plan run) ≡ (notes_of run.last).found
  -- a short run has found the largest number
  pub most : (notes_of run.last).found < plan.k → Largest plan.site (notes_of run.last).found
  -- ---- demand 3
  -- each round but a lost one adds a path to those kept
  pub rounds : (M : ℕ) → Largest plan.site M → plan.kept + (notes_of run.last).round ≡ min plan.k (M + 1)
  -- and no round is played for a path that is not lacking
  pub few_rounds : plan.kept + (notes_of run.last).round ≤ plan.k
  pub orderly : Orderly plan.site 0 run.log
  pub bound : length run.log ≤ (2 * (notes_of run.last).round + 1) * A plan.site
  pub fits : length run.log ≤ (2 * (plan.k - plan.kept) + 1) * A plan.site
  -- ---- the token rules
  -- after every round that S has won the marks are a flow of as many units as paths are found
  pub each_won : (opening : List Entry) (after : Notes) → Leads plan (start plan) opening (won after) → Flow (network_of plan.site) after.found after.marks
  -- so are they at the end of the run
  pub flow : Flow (network_of plan.site) (notes_of run.last).found (notes_of run.last).marks
  -- a failed round's entered halves are closed under the steps that can be walked
  pub shut : (notes_of run.last).found < plan.k → Shut (network_of plan.site) (notes_of run.last).marks (notes_of run.last).entered
  -- each path leaves them exactly once
  pub leaves_once : (notes_of run.last).found < plan.k → All (λ (path : List ℕ). times_leaving (notes_of run.last).entered path ≡ 1) (paths_of plan.site run.log)
  -- an out half that has DONE has one marked link step and no other
  pub one_marked_link : (h a b : ℕ) → (h ≡ out_half plan.site.S → ⊥) → (notes_of run.last).marks h a ≡ true → (notes_of run.last).marks h b ≡ true → a ≡ b
  -- the run ends with DONE at T, unless there is no path: DONE never fails on its way
  pub at-T : ((notes_of run.last).found ≡ 0) ⊎ ((v : ℕ) × (run.last ≡ carrying v (in_half plan.site.T) (notes_of run.last)))
  -- so it never ends on a won round that another might follow
  pub not_won : (notes : Notes) → run.last ≡ won notes → ⊥
  -- no round is played after the first DONE
  pub dones_last : DonesLast run.log

-- ---- what the run came to delivers this

module _ {plan : Plan} (can : CanStart plan) (r : WholeRun plan) where
  -- no more rounds are played than paths are lacking
  rounds_needed : plan.kept + r.last.round ≤ plan.k
  rounds_needed = cases r.outcome
    where
      cases : FullOrLost plan r.last → plan.kept + r.last.round ≤ plan.k
      cases (inl w) = omega (arith, w.1)
      cases (inr w) = omega (arith, w.0, w.1)

  most_found : r.last.found ≤ plan.k
  most_found = cases r.outcome
    where
      cases : FullOrLost plan r.last → r.last.found ≤ plan.k
      cases (inl w) = omega (arith, w.0)
      cases (inr w) = omega (arith, w.0)

  -- where a path is lacking the last round's entered halves are shut
  last_shut : r.last.found < plan.k → Shut (network_of plan.site) r.last.marks r.last.entered
  last_shut p = cases r.outcome
    where
      cases : FullOrLost plan r.last → Shut (network_of plan.site) r.last.marks r.last.entered
      cases (inl w) = absurd (omega (arith, w.0))
      cases (inr w) = w.2

  disjoint_paths : DisjointPaths plan.site (paths_from plan.site r.last.marks)
  disjoint_paths = paths_disjoint can.valid r.flow

  number_of_paths : length (paths_from plan.site r.last.marks) ≡ r.last.found
  number_of_paths = paths_number can.valid r.flow

  short_most : r.last.found < plan.k → Largest plan.site r.last.found
  short_most p = largest can.valid r.flow (last_shut p)

  within_budget : length r.log ≤ (2 * (plan.k - plan.kept) + 1) * A plan.site
  within_budget = omega (arith, r.bound, mul-le-mul_right (A plan.site) more)
    where
      more : 2 * r.last.round + 1 ≤ 2 * (plan.k - plan.kept) + 1
      more = omega (arith, rounds_needed)

  run_delivers : Delivers plan (record { log = r.log; last = r.end })
  run_delivers =
      record {
        ends = r.ends;
        disjoint = rw r.paths disjoint_paths;
        number = rw (r.told, r.paths) number_of_paths;
        at_least = rw r.told r.more;
        at_most = rw r.told most_found;
        fewer = rw r.told (λ p ps d e. omega (arith, (short_most p).most ps d), λ none. enough none (dec_lt r.last.found plan.k));
        largest = rw r.told (λ M l. smaller M l (dec_lt r.last.found plan.k));
        cut = rw (r.told, r.paths) (λ p. cut can.valid r.flow (last_shut p));
        in_order = rw (r.told, r.paths) (λ p. cut_in_order can.valid r.flow (last_shut p));
        items = rw (r.told, r.paths) (λ p. cut_number can.valid r.flow (last_shut p));
        most = rw r.told short_most;
        rounds = rw r.told (λ M l. counted M l r.outcome);
        few_rounds = rw r.told rounds_needed;
        orderly = r.orderly;
        bound = rw r.told r.bound;
        fits = within_budget;
        each_won = r.each_won;
        flow = rw r.told r.flow;
        shut = rw r.told last_shut;
        leaves_once = rw (r.told, r.paths) (λ p. each_leaves_once can.valid r.flow (last_shut p));
        one_marked_link = rw r.told (λ h a b not_s e f. one_out (split_of plan.site can.valid) r.flow h a b e f not_s);
        at-T = rw r.told r.at-T;
        not_won = λ notes e. not_won notes e r.at-T;
        dones_last = r.dones_last;
      }
    where
      -- a round that is won has found a path, and then DONE follows
      not_won : (notes : Notes) → r.end ≡ won notes → (r.last.found ≡ 0) ⊎ ((v : ℕ) × (r.end ≡ carrying v (in_half plan.site.T) r.last)) → ⊥
      not_won notes e (inl none) =
          let same : notes.found ≡ r.last.found = ap (λ (s : State). (notes_of s).found) (sym e) ∙ ap (λ (n : Notes). n.found) r.told in
          let searches = starts_searching plan (omega (arith, r.more, none, can.wanted)) in
          omega (arith, same, led_found plan (start plan) r.log notes (subst (Leads plan (start plan) r.log) e r.leads) (rw searches tt))
      not_won notes e (inr w) = let z : ◌≡◌ {A = ℕ} 0 1 = cc in omega arith

      enough : ((paths : List (List ℕ)) → DisjointPaths plan.site paths → length paths ≡ plan.k → ⊥) → Dec (r.last.found < plan.k) → r.last.found < plan.k
      enough none (yes p) = p
      enough none (no p) = absurd (none _ disjoint_paths (omega (arith, number_of_paths, most_found)))

      smaller : (M : ℕ) → Largest plan.site M → Dec (r.last.found < plan.k) → r.last.found ≡ min plan.k M
      smaller M l (yes p) = omega (arith, largest_unique l (short_most p))
      smaller M l (no p) = omega (arith, most_found, l.most _ disjoint_paths, number_of_paths)

      counted : (M : ℕ) → Largest plan.site M → FullOrLost plan r.last → plan.kept + r.last.round ≡ min plan.k (M + 1)
      counted M l (inl w) = omega (arith, w.0, w.1, l.most _ disjoint_paths, number_of_paths)
      counted M l (inr w) = omega (arith, w.0, w.1, largest_unique l (short_most w.0))

-- ---- the run of a plan, with room for all messages that its rounds may need

module _ {plan : Plan} (can : CanStart plan) where
  the_run : (budget : ℕ) → (2 * (plan.k - plan.kept) + 1) * A plan.site ≤ budget → run_from plan budget (start plan) ≡ record { log = (whole-run can).log; last = (whole-run can).end }
  the_run budget enough = run_is plan budget (start plan) _ _ (whole-run can).leads (whole-run can).ends (omega (arith, within_budget can (whole-run can)))

  -- it delivers what demands 2 and 3 ask
  pub delivers : (budget : ℕ) → (2 * (plan.k - plan.kept) + 1) * A plan.site ≤ budget → Delivers plan (run_from plan budget (start plan))
  delivers budget enough = rw (the_run budget enough) (run_delivers can (whole-run can))

  -- any larger budget gives the same run: it ends by itself
  pub larger_budget : (budget : ℕ) → (2 * (plan.k - plan.kept) + 1) * A plan.site ≤ budget → (larger : ℕ) → budget ≤ larger → run_from plan larger (start plan) ≡ run_from plan budget (start plan)
  larger_budget budget enough larger more = the_run larger (omega arith) ∙ sym (the_run budget enough)

-- ---- the rounds, counted from the start

module _ {plan : Plan} {run : Run} (d : Delivers plan run) (M : ℕ) (l : Largest plan.site M) where
  pub rounds_of_full : plan.k ≤ M → (notes_of run.last).round ≡ plan.k - plan.kept
  rounds_of_full p = omega (arith, d.rounds M l)

  pub rounds_of_short : M < plan.k → (notes_of run.last).round ≡ M - plan.kept + 1
  rounds_of_short p = omega (arith, d.rounds M l, d.largest M l, d.at_least)

-- Demands 2 and 3 hold for every accepted call, as the run with no mark at the start and rule 3's order: the index of what is proved. Assumes nothing.
use mathlib.Core.Path.{◌≡◌, refl, sym, ap, ◌∙◌}
use mathlib.Core.Bool.{true, cond}
use mathlib.Core.List.{List, [], ◌∷◌}
use mathlib.Core.Logic.{◌⊎◌}
use Prim.Native.Nat.{ℕ, suc, ◌+◌, ◌-◌, ◌*◌, ◌≤◌, ◌<◌}
use native.Mathlib.Nat.{sub-zero}
use native.Mathlib.Omega.{arith}
use native.Mathlib.Decide.{dec_lt}
use lib.Dec.{eqb, ltb}
use lib.ListN.{length, length-append}
use borrow.Author.Tests.{eq-eqb, lt-ltb, le-ltb}
use Rattle.basics.specs.Lists.{All}
use Rattle.site.specs.Map.{Site, in_half, out_half, A}
use Rattle.site.specs.Paths.{Path, Largest}
use Rattle.refusals.specs.Refusals.{Call, most_messages, verdict, number}
use Rattle.refusals.specs.Conditions.{of_cell}
use Rattle.refusals.proofs.Exactly.{no_place}
use Rattle.site.proofs.Valid.{Valid}
use Rattle.refusals.proofs.Accepted.{Room, accepted_valid, accepted_room}
use Rattle.tokens.specs.Rules.{Plan, Notes, won, carrying, rising, unmarked, start}
use Rattle.tokens.specs.Run.{Entry, notes_of, run_from, cut_of}
use Rattle.menger.proofs.Network.{Shut}
use Rattle.menger.proofs.Flow.{Flow, no_flow}
use Rattle.routes.proofs.Trails.{network_of}
use Rattle.routes.proofs.Duality.{largest_unique, radios_in, few_bytes}
use Rattle.routes.proofs.Most.{few_units}
use Rattle.rounds.proofs.Shows.{Leads}
use Rattle.rounds.proofs.Order.{Order}
use Rattle.rounds.proofs.Depth.{round_played}
use Rattle.outcome.specs.Leaves.{plan_of, run_of, paths_found, cut_found, outcome, log_left, paths_left, cut_left}
use Rattle.message_log.specs.Bytes.{log_bytes}
use Rattle.path_lists.specs.Bytes.{path_bytes}
use Rattle.buffers.specs.Zeros.{zeros_after}
use Rattle.demands.specs.Demand2.{Demand2}
use Rattle.demands.specs.Demand3.{Demand3}
use Rattle.message_log.specs.Last.{DonesLast}
use Rattle.message_log.proofs.Bytes.{log-length}
use Rattle.demands.proofs.Whole.{CanStart}
use Rattle.demands.proofs.AnyStart.{Delivers, delivers, larger_budget}

-- ---- rule 3's order, from no mark

rising-order : (n : ℕ) → Order n rising
rising-order n = record { within = λ place p. p; onto = λ number p. (number, p, refl); once = λ i j p q e. e }

-- what the run of a call is made from
abbrev plain : Site → ℕ → Plan
plain site k = record { site = site; k = k; order = rising; kept = 0; marks = unmarked }

plain_starts : {site : Site} → Valid site → (k : ℕ) → 0 < k → CanStart (plain site k)
plain_starts {site} valid k wanted = record {
  valid = valid;
  plays = round_played (plain site k) valid (rising-order site.n);
  flow = no_flow (network_of site);
  few = omega arith;
  wanted = wanted;
}

-- the budget of the definition is enough
plain_budget : (site : Site) (k : ℕ) → (2 * (k - 0) + 1) * A site ≤ most_messages site k
plain_budget site k = rw (sub-zero k) (omega arith)

-- its run delivers what demands 2 and 3 ask
plain_delivers : {site : Site} → Valid site → (k : ℕ) → 0 < k → Delivers (plain site k) (run_from (plain site k) (most_messages site k) (start (plain site k)))
plain_delivers {site} valid k wanted = delivers (plain_starts valid k wanted) (most_messages site k) (plain_budget site k)

-- ---- M exists

-- a run that wants more paths than there are radios is lost, and what it found is the largest number
pub some_largest : {site : Site} → Valid site → (M : ℕ) × Largest site M
some_largest {site} valid = (_, d.most (omega (arith, few_units valid d.flow)))
  where
    d : Delivers (plain site (suc site.n)) (run_from (plain site (suc site.n)) (most_messages site (suc site.n)) (start (plain site (suc site.n))))
    d = plain_delivers valid (suc site.n) (omega arith)

-- ---- bytes

-- a byte for each path and one for each radio on it
pub path-bytes : (paths : List (List ℕ)) → length (path_bytes paths) ≡ radios_in paths + length paths
unfolding path_bytes radios_in
path-bytes [] = refl
path-bytes (path ∷ paths) = omega (arith, path-bytes paths, length-append path (path_bytes paths))

-- ---- an accepted call

module _ (call : Call) (accepted : (outcome call).refusal ≡ 0) where
  no_refusal : number (verdict call) ≡ 0
  unfolding outcome
  no_refusal = accepted

  valid : Valid call.site
  valid = accepted_valid call no_refusal

  room : Room call
  room = accepted_room call no_refusal

  -- what is proved for any start
  d : Delivers (plan_of call) (run_of call)
  unfolding run_of
  d = plain_delivers valid call.k room.wanted

  -- any larger budget gives the same run: it ends by itself
  pub any_budget : (budget : ℕ) → most_messages call.site call.k ≤ budget → run_from (plan_of call) budget (start (plan_of call)) ≡ run_of call
  unfolding run_of
  any_budget = larger_budget (plain_starts valid call.k room.wanted) (most_messages call.site call.k) (plain_budget call.site call.k)

  -- ---- what the outcome says, in the run's words

  counted : {X : Type 0} (own nothing : X) → cond (eqb (number (verdict call)) 0) own nothing ≡ own
  counted own nothing = rw (eq-eqb (number (verdict call)) 0 no_refusal)

  paths_counted : (outcome call).paths ≡ length (paths_found call)
  unfolding outcome
  paths_counted = counted (length (paths_found call)) 0

  paths-found : (outcome call).paths ≡ (notes_of (run_of call).last).found
  unfolding paths_found
  paths-found = paths_counted ∙ d.number

  rounds_started : (outcome call).rounds ≡ (notes_of (run_of call).last).round
  unfolding outcome
  rounds_started = counted (notes_of (run_of call).last).round 0

  messages_sent : (outcome call).messages ≡ length (run_of call).log
  unfolding outcome
  messages_sent = counted (length (run_of call).log) 0

  -- where a path is lacking the cut is that of the last round's entered halves
  cut_short : (notes_of (run_of call).last).found < call.k → cut_found call ≡ cut_of call.site (notes_of (run_of call).last).entered (paths_found call)
  unfolding cut_found
  cut_short p = rw (lt-ltb (notes_of (run_of call).last).found call.k p)

  cut_full : (notes_of (run_of call).last).found ≡ call.k → cut_found call ≡ []
  unfolding cut_found
  cut_full e = rw (le-ltb (notes_of (run_of call).last).found call.k (omega arith))

  -- no more than k come back
  pub at_most : (outcome call).paths ≤ call.k
  at_most = rw paths-found d.at_most

  -- ---- demand 2

  pub demand_2 : Demand2 call
  unfolding paths_found
  demand_2 =
      record {
        disjoint = d.disjoint;
        number = sym paths_counted;
        fewer = rw paths-found d.fewer;
        largest = rw paths-found d.largest;
        cut = rw paths-found (λ p. rw (cut_short p) (d.cut p));
        in_order = rw paths-found (λ p. rw (cut_short p) (d.in_order p));
        leaves_once = rw paths-found d.leaves_once;
        full = rw paths-found cut_full;
      }

  -- ---- demand 3

  pub demand_3 : Demand3 call
  unfolding paths_found
  demand_3 =
      record {
        largest = some_largest valid;
        one_largest = λ M M'. largest_unique;
        rounds = λ M l. omega (arith, rounds_started, d.rounds M l);
        messages = log-length (run_of call).log ∙ omega (arith, messages_sent);
        over_steps = d.orderly.over_steps;
        once = d.orderly.once;
        one_reply = d.orderly.one_reply;
        none_before = d.orderly.none_before;
        bound = rw (messages_sent, rounds_started) d.bound;
        ends = d.ends;
        log_fits = omega (arith, log-length (run_of call).log, d.fits, plain_budget call.site call.k, room.log);
        paths_fit = omega (arith, path-bytes (paths_found call), few_bytes call.site valid (paths_found call) d.disjoint, paths_counted, at_most, room.paths);
        cut_fits = fits (dec_lt (notes_of (run_of call).last).found call.k);
      }
    where
      fits : Dec ((notes_of (run_of call).last).found < call.k) → length (cut_found call) ≤ call.cut_length
      fits (yes p) = omega (arith, ap length (cut_short p), d.items p, room.cut)
      fits (no p) = omega (arith, ap length (cut_full (omega (arith, d.at_most))))

  -- ---- the token rules

  -- after every round that S has won the marks are a flow of as many units as paths are found
  pub won_rounds_flow : (opening : List Entry) (after : Notes) → Leads (plan_of call) (start (plan_of call)) opening (won after) → Flow (network_of call.site) after.found after.marks
  won_rounds_flow = d.each_won

  -- so are they at the end of the run
  pub last_marks_flow : Flow (network_of call.site) (outcome call).paths (notes_of (run_of call).last).marks
  last_marks_flow = rw paths-found d.flow

  -- a failed round's entered halves are closed under the steps that can be walked
  pub lost_round_shut : (outcome call).paths < call.k → Shut (network_of call.site) (notes_of (run_of call).last).marks (notes_of (run_of call).last).entered
  lost_round_shut = rw paths-found d.shut

  -- an out half that has DONE has one marked link step and no other
  pub one_marked_link : (h a b : ℕ) → (h ≡ out_half call.site.S → ⊥) → (notes_of (run_of call).last).marks h a ≡ true → (notes_of (run_of call).last).marks h b ≡ true → a ≡ b
  one_marked_link = d.one_marked_link

  -- the run ends with DONE at T, unless there is no path: DONE never fails on its way
  pub done_comes_to_t : ((outcome call).paths ≡ 0) ⊎ ((v : ℕ) × ((run_of call).last ≡ carrying v (in_half call.site.T) (notes_of (run_of call).last)))
  done_comes_to_t = rw paths-found d.at-T

  -- so the run never ends on a won round
  pub never_ends_won : (notes : Notes) → (run_of call).last ≡ won notes → ⊥
  never_ends_won = d.not_won

  -- no round is played after the first DONE
  pub log_ends_with_dones : DonesLast (run_of call).log
  log_ends_with_dones = d.dones_last

  -- ---- what an accepted call leaves, in the words of its run

  pub numbers_left : outcome call ≡ record { refusal = 0; place = 0; paths = length (paths_found call); rounds = (notes_of (run_of call).last).round; messages = length (run_of call).log }
  unfolding outcome
  numbers_left = λ i. record {
    refusal = no_refusal i;
    place = no_place (verdict call) (ap of_cell no_refusal) i;
    paths = counted (length (paths_found call)) 0 i;
    rounds = counted (notes_of (run_of call).last).round 0 i;
    messages = counted (length (run_of call).log) 0 i;
  }

  pub log-left : log_left call ≡ zeros_after call.log_length (log_bytes (run_of call).log)
  unfolding log_left
  log-left = ap (zeros_after call.log_length) (counted (log_bytes (run_of call).log) [])

  pub paths-left : paths_left call ≡ zeros_after call.paths_length (path_bytes (paths_found call))
  unfolding paths_left
  paths-left = ap (zeros_after call.paths_length) (counted (path_bytes (paths_found call)) [])

  pub cut-left : cut_left call ≡ zeros_after call.cut_length (cond (ltb (length (paths_found call)) call.k) (cut_of call.site (notes_of (run_of call).last).entered (paths_found call)) [])
  unfolding cut_left cut_found
  cut-left =
      ap (zeros_after call.cut_length)
      (counted (cut_found call) [] ∙ ap (λ (n : ℕ). cond (ltb n call.k) (cut_of call.site (notes_of (run_of call).last).entered (paths_found call)) []) (sym paths-found ∙ paths_counted))

  -- its paths are short lists of radios of the map
  pub paths_of_the_map : All (Path call.site) (paths_found call)
  paths_of_the_map = demand_2.disjoint.each

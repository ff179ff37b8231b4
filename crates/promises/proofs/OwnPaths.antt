-- The path list of every accepted survey is taken by the call for route records, and the records tell its paths again. Assumes nothing.
use mathlib.Core.Path.{◌≡◌, refl, sym, ap, ◌∙◌}
use mathlib.Core.List.{List, [], ◌∷◌, ◌++◌}
use Prim.Native.Nat.{ℕ, suc, ◌-◌, ◌≤◌, ◌<◌}
use native.Mathlib.Nat.{min-le_left}
use native.Mathlib.Omega.{arith}
use lib.ListN.{length, replicate}
use borrow.Author.Tests.{eq-eqb, le-ltb}
use Rattle.basics.proofs.Lists.{all_from, all_follow}
use Rattle.site.specs.Limits.{most_paths}
use Rattle.site.specs.Map.{Site}
use Rattle.site.specs.Paths.{LeadsToT, Path, DisjointPaths}
use Rattle.site.proofs.Valid.{Valid}
use Rattle.path_lists.specs.Bytes.{path_bytes, Holds}
use Rattle.path_lists.specs.Judge.{last_radio, RadioList, SoundLists}
use Rattle.path_lists.proofs.Walking.{holds_front}
use Rattle.path_lists.proofs.Read.{read_held}
use Rattle.path_lists.proofs.Judging.{sound_tells}
use Rattle.refusals.specs.Refusals.{Call, verdict, number}
use Rattle.refusals.proofs.Accepted.{accepted_valid, accepted_room}
use Rattle.outcome.specs.declared.Outcome.{Outcome}
use Rattle.outcome.specs.Leaves.{paths_found, outcome, paths_left}
use Rattle.routes.proofs.Duality.{path-below}
use Rattle.demands.specs.Demand2.{Demand2}
use Rattle.demands.specs.Promise.{Promise}
use Rattle.route_records.specs.declared.Route.{Route}
use Rattle.route_records.specs.Records.{RoutesCall, routes_verdict, verdict_of}
use Rattle.route_records.specs.Promise.{RoutesPromise}
use Rattle.route_records.specs.Told.{paths_told}
use Rattle.route_records.proofs.Told.{told_again}

-- ---- disjoint paths of a map are sound lists

module _ (site : Site) (valid : Valid site) where
  ends_at_t : (u : ℕ) (rest : List ℕ) → LeadsToT site u rest → last_radio (u ∷ rest) ≡ site.T
  ends_at_t u [] leads = leads
  ends_at_t u (v ∷ rest) leads =
      let later : suc (suc (length rest)) - 1 ≡ suc (suc (length rest) - 1) = omega arith in
      rw later (ends_at_t v rest leads.1)

  path_radios : (p : List ℕ) → Path site p → RadioList site.n site.S site.T p
  path_radios p path =
      record {
        two_or_more = rw path.from-S (longer path.rest path.to-T);
        different = path.different;
        below = all_from (λ v. v < site.n) p (path-below valid path);
        first = rw path.from-S refl;
        last = rw path.from-S (ends_at_t site.S path.rest path.to-T);
      }
    where
      longer : (rest : List ℕ) → LeadsToT site site.S rest → 2 ≤ length (site.S ∷ rest)
      longer [] leads = absurd (valid.ends_differ leads)
      longer (v ∷ rest) leads = omega arith

  pub sound_paths : (ps : List (List ℕ)) → DisjointPaths site ps → SoundLists site.n ps
  sound_paths ps disjoint =
      record { S = site.S; T = site.T; each = all_follow (Path site) (RadioList site.n site.S site.T) path_radios ps disjoint.each; two = disjoint.two }

-- ---- a survey's own list

module _ (call : Call) (numbers : Outcome) (log paths cut : List ℕ) (promise : Promise call numbers log paths cut) (accepted : numbers.refusal ≡ 0) where
  told_0 : (outcome call).refusal ≡ 0
  told_0 = sym (ap (λ (o : Outcome). o.refusal) promise.numbers_are) ∙ accepted

  no_refusal : number (verdict call) ≡ 0
  unfolding outcome
  no_refusal = told_0

  demand : Demand2 call
  demand = promise.demand_2 told_0

  count_is : numbers.paths ≡ length (paths_found call)
  count_is = ap (λ (o : Outcome). o.paths) promise.numbers_are ∙ sym demand.number

  held : Holds paths numbers.paths (paths_found call)
  unfolding paths_left
  held =
      let bytes = path_bytes (paths_found call) in
      let whole : paths ≡ bytes ++ replicate (call.paths_length - length bytes) 0 = rw (eq-eqb (number (verdict call)) 0 no_refusal) at promise.paths_are in
      rw count_is (holds_front paths (paths_found call) (replicate (call.paths_length - length bytes) 0) whole)

  sound : SoundLists call.site.n (paths_found call)
  sound = sound_paths call.site (accepted_valid call no_refusal) (paths_found call) demand.disjoint

  few : numbers.paths ≤ most_paths
  few =
      let M = (promise.demand_3 told_0).largest in
      omega (arith, ap (λ (o : Outcome). o.paths) promise.numbers_are, demand.largest M.0 M.1, min-le_left call.k M.0, (accepted_room call no_refusal).few_wanted)

  module _ (records : List Route) (enough : call.site.n ≤ length records) where
    abbrev asked : RoutesCall
    asked = record { n = call.site.n; count = numbers.paths; list = paths; records = records }

    taken : number (verdict_of asked) ≡ 0
    unfolding routes_verdict
    taken =
        let valid = accepted_valid call no_refusal in
        let read = read_held numbers.paths paths (paths_found call) held in
        rw (le-ltb _ _ valid.two_radios, le-ltb _ _ valid.few_radios, le-ltb _ _ enough, le-ltb _ _ few, read.0, read.1, (sound_tells _ _).1 sound) refl

    -- it is not refused with a record for each radio, and the records tell the paths again, in their order
    pub own_paths_taken : (refusal : ℕ) (left : List Route) → RoutesPromise asked refusal left → (refusal ≡ 0) × (paths_told left call.site.n numbers.paths ≡ paths_found call)
    own_paths_taken refusal left routes =
        let none : refusal ≡ 0 = routes.refusal_is ∙ taken in
        let read = read_held numbers.paths paths (paths_found call) held in
        (none, ap (paths_told left call.site.n) count_is ∙ told_again call.site.n (paths_found call) sound left (λ v below. rw (← read.1) (routes.for_each none v below)))

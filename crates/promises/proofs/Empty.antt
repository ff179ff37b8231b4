-- The empty programs of document 01, "Nothing left to the builder's choice", each ruled out by the promise on a map. Assumes nothing.
use mathlib.Core.Path.{◌≡◌, refl, sym, ap, ◌∙◌}
use mathlib.Core.List.{List, [], ◌∷◌}
use mathlib.Core.Bool.{◌&&◌}
use Prim.Native.Nat.{ℕ, zero, suc, ◌+◌, ◌*◌}
use native.Mathlib.Omega.{arith}
use lib.Dec.{eqb}
use lib.ListN.{length, get_or}
use Rattle.basics.specs.Counting.{one_if, sum, first_within}
use Rattle.site.specs.Map.{linked, links, handheld, exists, passes, inside_step, link_step, step, A}
use Rattle.refusals.specs.Refusals.{Call, call_of, cell_finding, finding_at, first_bad, finding, map_verdict, pair_verdict, room_verdict, verdict}
use Rattle.tokens.specs.Rules.{may_walk, candidate, can_try, next_place, gets, next_marked, pass_on, release, carry, tries, search, reversed, grant, decline, go_on, inner_step, start}
use Rattle.tokens.specs.Run.{run_on, walked, cut_item, item_of}
use Rattle.outcome.specs.declared.Outcome.{Outcome}
use Rattle.outcome.specs.Leaves.{run_of, paths_found, cut_found, outcome, log_left, paths_left, cut_left}
use Rattle.path_lists.specs.Bytes.{path_bytes}
use Rattle.message_log.specs.Bytes.{message_bytes, log_bytes}
use Rattle.demands.specs.Promise.{Promise}

-- two radios that are linked, and two that are not; one path is wanted, and the buffers are 12, 3 and 1 bytes long
abbrev linked_pair : Call
linked_pair = call_of 2 (0 ∷ 1 ∷ 1 ∷ 0 ∷ []) 0 1 1 12 3 1

abbrev apart : Call
apart = call_of 2 (0 ∷ 0 ∷ 0 ∷ 0 ∷ []) 0 1 1 12 3 1

-- the map of 24 messages: four radios, two paths wanted
abbrev diamond : Call
diamond = call_of 4 (0 ∷ 1 ∷ 1 ∷ 0 ∷ 1 ∷ 0 ∷ 1 ∷ 1 ∷ 1 ∷ 1 ∷ 0 ∷ 1 ∷ 0 ∷ 1 ∷ 1 ∷ 0 ∷ []) 0 3 2 160 8 2

accepts-pair : (outcome linked_pair).refusal ≡ 0
unfolding sum first_within linked links handheld exists passes inside_step link_step step A cell_finding finding_at first_bad finding map_verdict pair_verdict room_verdict verdict outcome
accepts-pair = refl

-- a program that refuses everything
pub not_all_refused : (numbers : Outcome) (log paths cut : List ℕ) → Promise linked_pair numbers log paths cut → (numbers.refusal ≡ 0 → ⊥) → ⊥
not_all_refused numbers log paths cut p refused = refused (ap (λ (o : Outcome). o.refusal) p.numbers_are ∙ accepts-pair)

-- one fixed sheet for all maps
pub not_one_sheet : (numbers : Outcome) (log paths cut : List ℕ) → Promise linked_pair numbers log paths cut → Promise apart numbers log paths cut → ⊥
unfolding sum first_within linked links handheld exists passes inside_step link_step step A cell_finding finding_at first_bad finding map_verdict pair_verdict room_verdict verdict may_walk candidate can_try next_place gets next_marked pass_on release carry tries search reversed grant decline go_on inner_step start run_on walked cut_item item_of run_of paths_found cut_found path_bytes log_bytes outcome log_left paths_left cut_left
not_one_sheet numbers log paths cut p q =
    let one : numbers.paths ≡ 1 = ap (λ (o : Outcome). o.paths) p.numbers_are in
    let none : numbers.paths ≡ 0 = ap (λ (o : Outcome). o.paths) q.numbers_are in
    omega arith

-- a program that writes nothing leaves what was there before: a log whose first byte was no 1 is ruled out
pub not_nothing_written : (numbers : Outcome) (before paths cut : List ℕ) → (get_or before 0 0 ≡ 1 → ⊥) → Promise linked_pair numbers before paths cut → ⊥
unfolding sum first_within linked links handheld exists passes inside_step link_step step A cell_finding finding_at first_bad finding map_verdict pair_verdict room_verdict verdict may_walk candidate can_try next_place gets next_marked pass_on release carry tries search reversed grant decline go_on inner_step start run_on walked cut_item item_of run_of paths_found cut_found path_bytes log_bytes outcome log_left paths_left cut_left
not_nothing_written numbers before paths cut other p = other (ap (λ (log : List ℕ). get_or log 0 0) p.log_is)

-- how often a log of so many messages has a PMT to S's out half, number 1, in this round
abbrev granted : ℕ → ℕ → List ℕ → ℕ
granted round zero log = 0
granted round (suc messages) log =
    one_if (eqb (get_or log (message_bytes * messages) 0) 3 && eqb (get_or log (message_bytes * messages + 1) 0) round && eqb (get_or log (message_bytes * messages + 3) 0) 1) + granted round messages log

-- all paths found in round 1, with a second round for show: S has one PMT in each of the two rounds
pub not_for_show : (numbers : Outcome) (log paths cut : List ℕ) → Promise diamond numbers log paths cut → (numbers.rounds ≡ 2) × (granted 1 24 log ≡ 1) × (granted 2 24 log ≡ 1)
unfolding sum first_within linked links handheld exists passes inside_step link_step step A cell_finding finding_at first_bad finding map_verdict pair_verdict room_verdict verdict may_walk candidate can_try next_place gets next_marked pass_on release carry tries search reversed grant decline go_on inner_step start run_on walked cut_item item_of run_of paths_found cut_found path_bytes log_bytes outcome log_left paths_left cut_left
not_for_show numbers log paths cut p = (
  ap (λ (o : Outcome). o.rounds) p.numbers_are,
  ap (granted 1 24) p.log_is,
  ap (granted 2 24) p.log_is,
)

-- an invented message count: so many messages have the bytes of the log that the token rules fix, for every accepted call
pub not_invented : (call : Call) (numbers : Outcome) (log paths cut : List ℕ) → Promise call numbers log paths cut → numbers.refusal ≡ 0 → message_bytes * numbers.messages ≡ length (log_bytes (run_of call).log)
not_invented call numbers log paths cut p accepted =
    let taken : (outcome call).refusal ≡ 0 = sym (ap (λ (o : Outcome). o.refusal) p.numbers_are) ∙ accepted in
    rw (ap (λ (o : Outcome). o.messages) p.numbers_are) (sym (p.demand_3 taken).messages)

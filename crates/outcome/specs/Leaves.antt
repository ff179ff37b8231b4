-- "What a run leaves" of document 01: the numbers and every byte of the three lent buffers, as functions of the call.
use Rattle.std.specs.Prelude.{cond, List, [], ℕ, ltb, length}
use Rattle.refusals.specs.Refusals.{Call, verdict, number, place_of, most_messages, if_accepted}
use Rattle.buffers.specs.Zeros.{zeros_after}
use Rattle.message_log.specs.Bytes.{log_bytes}
use Rattle.path_lists.specs.Bytes.{path_bytes}
use Rattle.tokens.specs.Rules.{Plan, rising, unmarked, start}
use Rattle.tokens.specs.Run.{Run, notes_of, run_from, paths_of, cut_of}
use Rattle.outcome.specs.declared.Outcome.{Outcome}

-- ---- an accepted run

-- what the run of a call is made from: rule 3's order, no path kept, all steps unmarked
abbrev pub plan_of : Call → Plan
plan_of call = record { site = call.site; k = call.k; order = rising; kept = 0; marks = unmarked }

-- the run of a call: the budget is what the log can hold
unfoldable pub run_of : Call → Run
run_of call = run_from (plan_of call) (most_messages call.site call.k) (start (plan_of call))

unfoldable pub paths_found : Call → List (List ℕ)
paths_found call = paths_of call.site (run_of call).log

-- the last round failed exactly if it left fewer than k paths found; R are then the halves entered in it
unfoldable pub cut_found : Call → List ℕ
cut_found call =
    let notes = notes_of (run_of call).last in
    cond (ltb notes.found call.k) (cut_of call.site notes.entered (paths_found call)) []

-- ---- what a call leaves, refusals first

unfoldable pub outcome : Call → Outcome
outcome call =
    record {
      refusal = number (verdict call);
      place = place_of (verdict call);
      paths = if_accepted (verdict call) (length (paths_found call)) 0;
      rounds = if_accepted (verdict call) (notes_of (run_of call).last).round 0;
      messages = if_accepted (verdict call) (length (run_of call).log) 0;
    }

unfoldable pub log_left : Call → List ℕ
log_left call = zeros_after call.log_length (if_accepted (verdict call) (log_bytes (run_of call).log) [])

unfoldable pub paths_left : Call → List ℕ
paths_left call = zeros_after call.paths_length (if_accepted (verdict call) (path_bytes (paths_found call)) [])

unfoldable pub cut_left : Call → List ℕ
cut_left call = zeros_after call.cut_length (if_accepted (verdict call) (cut_found call) [])

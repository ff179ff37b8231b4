-- What a call and the sheet of a text are computed by: an example that unfolds one of these computes. Assumes nothing.
use Rattle.basics.specs.Counting.{sum, first_within}
use Rattle.site.specs.Map.{linked, links, handheld, exists, passes, inside_step, link_step, step, A}
use Rattle.refusals.specs.Refusals.{cell_finding, finding_at, first_bad, finding, map_verdict, pair_verdict, room_verdict, verdict}
use Rattle.tokens.specs.Rules.{may_walk, candidate, can_try, next_place, gets, next_marked, pass_on, release, carry, tries, search, reversed, grant, decline, go_on, inner_step, start}
use Rattle.tokens.specs.Run.{run_on, walked, cut_item, item_of}
use Rattle.outcome.specs.Leaves.{run_of, paths_found, cut_found, outcome, log_left, paths_left, cut_left}
use Rattle.path_lists.specs.Bytes.{path_bytes}
use Rattle.message_log.specs.Bytes.{log_bytes}
use Rattle.captures.specs.Text.{pieces, same, all_digits, value, digits}
use Rattle.captures.specs.Capture.{head_of, line_of, wrong_line, lines_of, came, fault_line, table_with}
use Rattle.sheet_lines.specs.Lines.{refused_line, report_line, radio_fields, path_lines, cut_lines}
use Rattle.text_survey.specs.Survey.{survey_for, survey_of}
use Rattle.sheet_text.specs.Sheet.{sheet_of, sheet}

-- the outcome of a call
unfoldable pub outcome_computes : Unit {0}
unfolding sum first_within linked links handheld exists passes inside_step link_step step A cell_finding finding_at first_bad finding map_verdict pair_verdict room_verdict verdict may_walk candidate can_try next_place gets next_marked pass_on release carry tries search reversed grant decline go_on inner_step start run_on walked cut_item item_of run_of paths_found cut_found outcome
outcome_computes = tt

-- and all that the call leaves
unfoldable pub call_computes : Unit {0}
unfolding outcome_computes path_bytes log_bytes log_left paths_left cut_left
call_computes = tt

-- the sheet of a text
unfoldable pub sheet_computes : Unit {0}
unfolding outcome_computes pieces same all_digits value digits head_of line_of wrong_line lines_of came fault_line table_with survey_for survey_of refused_line report_line radio_fields path_lines cut_lines sheet_of sheet
sheet_computes = tt

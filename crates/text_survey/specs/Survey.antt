-- From a text to its numbers or its refusal: document 01's order of 10, 9, 1 and 11, and then the survey of the map. What is wrong with a
-- line stands in the specs of `captures`, Capture.antt.
use Rattle.std.specs.Prelude.{cond, Option, None, Some, Err, ℕ, ltb, length, get_or}
use mathlib.Core.List.{List, [], tail}
use Rattle.refusals.specs.Refusals.{Call, call_of, verdict, number, place_of, no_size, if_accepted}
use Rattle.refusals.specs.declared.Refusal.TheVariants.{Radios}
use Rattle.outcome.specs.Leaves.{paths_found, cut_found, outcome}
use Rattle.captures.specs.Words.{line_feed}
use Rattle.captures.specs.Text.{pieces}
use Rattle.captures.specs.Capture.{head_of, wrong_line, lines_of, fault_line, table_of}
use Rattle.captures.specs.declared.FirstLine.{FirstLine}
use Rattle.captures.specs.declared.Line.{Line}
use Rattle.text_survey.specs.declared.TextFault.{TextFault}
use Rattle.text_survey.specs.declared.TextFault.TheVariants.{TooLong, WrongShape, WrongRadios, BadLine}
use Rattle.text_survey.specs.declared.Surveyed.{Surveyed}

-- a text of more bytes is refused
abbrev pub most_bytes : ℕ
most_bytes = 8192

-- the buffers of a survey, enough for every call that is accepted: a log of 4 · (2 · 8 + 1) · 574 bytes, since no map has more than
-- 2 · 256 + 64 − 2 steps
abbrev pub log_lent : ℕ
log_lent = 39032

-- 64 − 2 + 3 · 8
abbrev pub paths_lent : ℕ
paths_lent = 86

-- an item for each of 8 paths
abbrev pub cut_lent : ℕ
cut_lent = 8

-- ---- the refusals of a text

-- their numbers; that of 1 is the survey's own
abbrev pub text_number : TextFault → ℕ
text_number TooLong = 10
text_number (WrongShape line) = 9
text_number WrongRadios = number (Err Radios)
text_number (BadLine line) = 11

abbrev pub text_place : TextFault → ℕ
text_place TooLong = 0
text_place (WrongShape line) = line
text_place WrongRadios = place_of (Err Radios)
text_place (BadLine line) = line

-- ---- what a text says

-- the numbers, and the two lists that go with them
pub record TextSurvey : Type 0 where
  pub numbers : Surveyed
  pub paths : List (List ℕ)
  pub cut : List ℕ

-- a text that is refused before the survey has nothing but a refusal
abbrev pub refused_for : TextFault → TextSurvey
refused_for fault =
    record {
      numbers = record { capture = 0; wanted = 0; outcome = record { refusal = text_number fault; place = text_place fault; paths = 0; rounds = 0; messages = 0 } };
      paths = [];
      cut = [];
    }

-- the call that a first line and a table ask for
abbrev pub call_for : FirstLine → List ℕ → Call
call_for first table = call_of first.n table first.s first.t first.k log_lent paths_lent cut_lent

-- what the survey says of it: 4, 5 and 6 are its own
unfoldable pub survey_for : FirstLine → List ℕ → TextSurvey
survey_for first table =
    let call = call_for first table in
    record {
      numbers = record { capture = first.capture; wanted = first.k; outcome = outcome call };
      paths = if_accepted (verdict call) (paths_found call) [];
      cut = if_accepted (verdict call) (cut_found call) [];
    }

-- the refusal for a line, if there is one; else this survey
abbrev pub refused_or : (ℕ → TextFault) → Option ℕ → TextSurvey → TextSurvey
refused_or fault (Some line) survey = refused_for (fault line)
refused_or fault None survey = survey

-- 11, then what the survey says
abbrev pub of_lines : FirstLine → List (Option Line) → TextSurvey
of_lines first lines = refused_or BadLine (fault_line first.n 2 [] lines) (survey_for first (table_of first.n lines))

-- 1 before that
abbrev pub of_head : Option FirstLine → List (Option Line) → TextSurvey
of_head (Some first) lines = cond (no_size first.n) (refused_for WrongRadios) (of_lines first lines)
of_head None lines = refused_for (WrongShape 1)

-- 10, then 9 over all lines
unfoldable pub survey_of : List ℕ → TextSurvey
survey_of text =
    let lines = pieces line_feed text in
    cond (ltb most_bytes (length text)) (refused_for TooLong) (refused_or WrongShape (wrong_line 1 lines) (of_head (head_of (get_or lines 0 [])) (lines_of (tail lines))))

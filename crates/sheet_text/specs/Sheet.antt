-- The sheet: what the program writes for a text. What a text says stands in the specs of `text_survey`, Survey.antt; the lines of a sheet in
-- those of `sheet_lines`.
use Rattle.std.specs.Prelude.{cond, List, [], ℕ, eqb, ltb}
use Rattle.sheet_lines.specs.Lines.{refused_line, report_line, path_lines, cut_lines}
pub use Rattle.sheet_lines.specs.Room.{sheet_room}
use Rattle.text_survey.specs.Survey.{TextSurvey, survey_of}

-- ---- the sheet of a survey

unfoldable pub sheet_of : TextSurvey → List ℕ
sheet_of survey =
    let told = survey.numbers in
    let o = told.outcome in
    cond (eqb o.refusal 0)
    (report_line told.capture (eqb o.paths told.wanted) o.paths o.rounds o.messages (path_lines 1 survey.paths (cut_lines 1 survey.cut)))
    (refused_line o.refusal o.place)

unfoldable pub sheet : List ℕ → List ℕ
sheet text = sheet_of (survey_of text)

-- ---- the sheet in a lent buffer

-- with less room nothing is written
abbrev pub sheet_in : ℕ → List ℕ → List ℕ
sheet_in room text = cond (ltb room sheet_room) [] (sheet text)

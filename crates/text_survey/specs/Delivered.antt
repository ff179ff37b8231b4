-- What the contracts of this crate say of the lent lists, and what a reader of a survey may count on.
use Rattle.std.specs.Prelude.{◌≡◌, Result, MatchResult, List, [], ℕ, ◌*◌, ◌≤◌, length}
use Rattle.buffers.specs.Zeros.{zeros_after}
use Rattle.site.specs.Limits.{most_radios, most_paths}
use Rattle.message_log.specs.Bytes.{message_bytes}
use Rattle.path_lists.specs.Bytes.{path_bytes}
use Rattle.captures.specs.Text.{most_number}
use Rattle.captures.specs.declared.FirstLine.{FirstLine}
use Rattle.texts.specs.Table.{TableCells}
use Rattle.text_survey.specs.declared.TextFault.{TextFault}
use Rattle.text_survey.specs.declared.Surveyed.{Surveyed}
use Rattle.text_survey.specs.Survey.{log_lent, paths_lent, cut_lent, text_place, TextSurvey, refused_for, survey_for, survey_of}

-- the two lists are as long as they must be
pub record Lent (paths cut : List ℕ) : Type 0 where
  pub paths_long : length paths ≡ paths_lent
  pub cut_long : length cut ≡ cut_lent

-- the survey of a text is that of this map, or this refusal
pub record Mapped (text : List ℕ) (first : FirstLine) (table : List ℕ) : Type 0 where
  pub survey_is : survey_of text ≡ survey_for first table
  pub capture : first.capture ≤ most_number
  pub few : first.n ≤ most_radios

pub record Faulty (text : List ℕ) (fault : TextFault) : Type 0 where
  pub survey_is : survey_of text ≡ refused_for fault
  pub small : text_place fault ≤ most_number

abbrev pub ReadAs : List ℕ → Result (FirstLine × TableCells) TextFault → Type 0
ReadAs text result = MatchResult result (λ said. Mapped text said.0 said.1.cells) (Faulty text)

-- how large the numbers are, and how the lists go with them
pub record Bounded (survey : TextSurvey) : Type 0 where
  pub refusal : survey.numbers.outcome.refusal ≤ most_number
  pub place : survey.numbers.outcome.place ≤ most_number
  pub capture : survey.numbers.capture ≤ most_number
  pub few_paths : survey.numbers.outcome.paths ≤ most_paths
  pub few_rounds : survey.numbers.outcome.rounds ≤ most_paths
  pub few_messages : message_bytes * survey.numbers.outcome.messages ≤ log_lent
  pub number : length survey.paths ≡ survey.numbers.outcome.paths
  pub paths_fit : length (path_bytes survey.paths) ≤ paths_lent
  pub cut_fits : length survey.cut ≤ cut_lent
  -- with all paths that were wanted there is no cut; else it has an item for each path
  pub full : survey.numbers.outcome.paths ≡ survey.numbers.wanted → survey.cut ≡ []
  pub items : (survey.numbers.outcome.paths ≡ survey.numbers.wanted → ⊥) → length survey.cut ≡ survey.numbers.outcome.paths

-- these numbers and the bytes of these lists are those of the survey
pub record Delivered (survey : TextSurvey) (numbers : Surveyed) (paths cut : List ℕ) : Type 0 where
  pub numbers_are : numbers ≡ survey.numbers
  pub paths_are : paths ≡ zeros_after paths_lent (path_bytes survey.paths)
  pub cut_is : cut ≡ zeros_after cut_lent survey.cut
  pub bounded : Bounded survey

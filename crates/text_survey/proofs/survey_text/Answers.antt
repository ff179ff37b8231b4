-- `text_survey::survey_text` meets its contract. Assumes nothing.
use lib.ListN.{length-replicate}
use Prim.Native.Nat.{ℕ}
use Rattle.text_survey.specs.Survey.{log_lent}
use Rattle.text_survey.proofs.Answers.{told_surveyed}
use Rattle.text_survey.proofs.survey_text.Goals as goal

pub returns-in-Ok : goal.returns-in-Ok
returns-in-Ok c = rw c.in-Ok.ensures.survey_is
    (told_surveyed c.in-Ok.first (rw c.cells.ensures at c.fog_survey-outcome.ensures) (length-replicate {A = ℕ} log_lent 0) c.requires.paths_long c.requires.cut_long c.in-Ok.ensures.capture c.in-Ok.ensures.few)

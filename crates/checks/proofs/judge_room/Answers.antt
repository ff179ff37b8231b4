-- `checks::judge_room` meets its contract. Assumes nothing.
use mathlib.Core.Logic.{inl, inr, ⊎_elim}
use Rattle.checks.proofs.Verdicts.{told_log, told_lists}
use Rattle.checks.proofs.judge_room.Goals as goal

pub returns-then-log-most_messages : goal.returns-then-log-most_messages
returns-then-log-most_messages c = told_log _ _ _ _ _ _ c.if-log-most_messages.true

pub returns-then-paths-n : goal.returns-then-paths-n
returns-then-paths-n c = told_lists _ _ _ _ _ _ c.if-log-most_messages.false (⊎_elim inl (λ w. inr w.1) c.then-paths-n.either)

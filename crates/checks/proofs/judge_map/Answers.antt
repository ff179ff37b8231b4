-- `checks::judge_map` meets its contract. Assumes nothing.
use mathlib.Core.Path.{sym, ◌∙◌}
use Rattle.basics.proofs.Bools.{or_left, or_right}
use Rattle.refusals.specs.Refusals.{too_few}
use borrow.Author.Tests.{ltb-false}
use Rattle.checks.proofs.Verdicts.{Mapped, told_radios, told_length, told_cell, told_links, told_sound}
use Rattle.checks.proofs.judge_map.Goals as goal
use Rattle.checks.proofs.judge_map.Goals.{After-total_of_rows-total, then-too_few-via-then-too_few, then-too_few-via-else-too_few+then-too_many}

-- what is known once the rows are added up
mapped : (c : After-total_of_rows-total) → Mapped c.args.table.now c.args.n c.check.new.rows c.total_of_rows-total.result
mapped c =
    record {
      two = ltb-false _ _ (sym c.if-too_few.ensures);
      most = ltb-false _ _ (sym c.if-too_many.ensures);
      long = c.if-table-n.false;
      sound = sym c.in_ok-check.ensures.told;
      rows_are = c.in_ok-check.ensures.rows_are;
      added = c.total_of_rows-total.ensures;
    }

pub returns-then-too_few : goal.returns-then-too_few
returns-then-too_few c =
    told_radios
    (elim c.then-too_few.branch [ then-too_few-via-then-too_few w ↦ or_left _ _ (sym c.too_few.ensures ∙ w.if-too_few.true) | then-too_few-via-else-too_few+then-too_many w ↦ or_right (too_few c.args.n) _ (sym w.too_many.ensures ∙ w.if-too_many.true) ])

pub returns-then-table-n : goal.returns-then-table-n
returns-then-table-n c = told_length (ltb-false _ _ (sym c.if-too_few.ensures)) (ltb-false _ _ (sym c.if-too_many.ensures)) c.if-table-n.true

pub returns-in_err-check : goal.returns-in_err-check
returns-in_err-check c = told_cell c.from_residual.result (ltb-false _ _ (sym c.if-too_few.ensures)) (ltb-false _ _ (sym c.if-too_many.ensures)) c.if-table-n.false c.in_err-check.ensures.told c.from_residual.ensures.1

pub returns-then-total-gt-MOST_LINKS : goal.returns-then-total-gt-MOST_LINKS
returns-then-total-gt-MOST_LINKS c = told_links (mapped (goal.at.returns-then-total-gt-MOST_LINKS c).After-total_of_rows-total) c.if-total-gt-MOST_LINKS.true

pub returns : goal.returns
returns c = told_sound (mapped (goal.at.returns c).After-total_of_rows-total) c.ordinary.ensures c.if-total-gt-MOST_LINKS.false

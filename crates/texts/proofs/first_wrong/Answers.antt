-- `texts::first_wrong` meets its contract. The loop's invariant: what `PassedWithin` says of the lines passed. Assumes nothing.
use mathlib.Core.Path.{sym}
use Rattle.std.proofs.Common.{rules, tests}
use Rattle.texts.proofs.Lines.{within_more, wrong_here, wrong_none, wrong_bytes, wrong_first}
use Rattle.texts.proofs.first_wrong.Goals as goal
use Rattle.texts.proofs.first_wrong.Goals.{else-is_empty-via-then-is_empty+else-number-ne1, else-is_empty-via-else-is_empty}

pub returns-then-not-is_right : goal.returns-then-not-is_right
returns-then-not-is_right c = sym (wrong_here c.loop-line.invariant.over c.in-Some.ensures (sym c.if-not-is_right.ensures))

pub loop-line-preserved : goal.loop-line-preserved
loop-line-preserved c = within_more c.loop-line.invariant c.in-Some.ensures (sym c.if-not-is_right.ensures)

pub returns-then-number-ne1 : goal.returns-then-number-ne1
returns-then-number-ne1 c = sym (wrong_none c.loop-line.invariant.over c.in_default.ensures (search (rules, tests)) c.if-number-ne1.true)

pub returns : goal.returns
returns c = let l = c.loop-line in
    sym (elim c.else-is_empty.branch [
      | else-is_empty-via-then-is_empty+else-number-ne1 w ↦ wrong_first l.invariant.over c.in_default.ensures w.if-number-ne1.false
      | else-is_empty-via-else-is_empty w ↦ wrong_bytes l.invariant.over c.in_default.ensures (search (rules, tests))
    ])

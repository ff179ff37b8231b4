-- `openings::outward` meets its contract. Assumes nothing.
use mathlib.Core.Path.{◌∙◌, sym}
use native.Mathlib.Omega.{arith}
use Rattle.openings.proofs.Walks.{step-out}
use Rattle.openings.proofs.Start.{T_sends_none}
use Rattle.openings.proofs.outward.Goals as goal

pub returns-then-u-t : goal.returns-then-u-t
returns-then-u-t c = λ site links v source sink rows row. rw c.none.ensures (T_sends_none site _ (c.if-u-t.true ∙ sym sink) v)

pub returns : goal.returns
returns c = λ site links v source sink rows row. c.without.ensures v ∙ rw (row, rows _ v, ← source) (sym (step-out site _ v (λ e. omega arith)))

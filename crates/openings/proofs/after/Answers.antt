-- `openings::after` meets its contract. Assumes nothing.
use mathlib.Core.Path.{◌∙◌}
use Rattle.radios.proofs.Laws.{member-empty}
use Rattle.openings.proofs.Order.{after_own, after_other}
use Rattle.openings.proofs.after.Goals as goal

pub returns-then-v-u : goal.returns-then-v-u
returns-then-v-u c = λ site marks below is j. rw c.none.ensures (member-empty j) ∙ after_own site marks _ _ _ below is c.if-v-u.true j

pub returns : goal.returns
returns c = λ site marks below is j.
    let above = c.without-above.ensures j in
    let from = c.from.ensures j in
    let own = c.and_not-own.ensures j in
    let others = c.without.ensures j in
    c.both.ensures j ∙ rw (above, from, own, others) (after_other site marks _ _ _ below is c.if-v-u.false j)

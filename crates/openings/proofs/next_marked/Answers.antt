-- `openings::next_marked` meets its contract. Assumes nothing.
use mathlib.Core.Path.{ap, ◌∙◌}
use mathlib.Core.Bool.{Bool, not, ◌&&◌}
use native.Mathlib.Omega.{arith}
use lib.Dec.{eqb}
use Prim.Native.Nat.{◌+◌, ◌*◌}
use Rattle.std.proofs.lemmas.Grind.{get_or_default_zero}
use Rattle.openings.proofs.Order.{marked_is, marked_next}
use Rattle.openings.proofs.next_marked.Goals as goal

pub returns-clause-next : goal.returns-clause-next
returns-clause-next c = λ site marks few start source nt links on now.
    let at = c.args in
    marked_next site marks at.u nt at.rows.now on now _ _ few start
    (λ w.
    c.without-marked.ensures w ∙ ap (λ (b : Bool). not (eqb w at.s) && b) (c.and_not.ensures w)
    ∙ rw (get_or_default_zero at.links.now at.u _ (omega arith), get_or_default_zero at.rows.now (2 * at.u + 1) _ (omega arith)) (marked_is site marks at.u nt at.rows.now on now at.s at.links.now source links w))
    _ c.first_from.ensures.is_first c.first_from.ensures.below

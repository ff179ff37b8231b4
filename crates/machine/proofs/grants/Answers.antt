-- `machine::grants` meets its contract. Assumes nothing.
use mathlib.Core.Path.{refl, ap}
use Prim.Native.Nat.{◌-◌}
use native.Mathlib.Omega.{arith}
use lib.ListN.{get_or}
use Rattle.machine.specs.declared.Stage.{Stage}
use Rattle.machine.specs.View.{moved_to, marks_of}
use Rattle.machine.proofs.Replies.{grants, grant_joined, granting_wins, granting_goes_on}
use Rattle.machine.proofs.grants.Goals as goal

pub turn-requires : goal.turn-requires
turn-requires c = let f = grants c.requires.1.2.2 c.requires.0 in (f.half, f.other)

pub returns-then-machine-eq0-clause-steps : goal.returns-then-machine-eq0-clause-steps
returns-then-machine-eq0-clause-steps c = λ task links plan place ready.
    let at = c.args in
    let turn = c.turn in
    granting_wins ready c.requires.0 turn.new.rows (turn.ensures plan.site (marks_of plan.site at.board.now.rows) (grant_joined ready c.requires.0) ready.walks)
    c.sent.result c.if-machine-eq0.true c.sent.ensures

pub bounds-board-below : goal.bounds-board-below
bounds-board-below c = let f = grants c.requires.1.2.2 c.requires.0 in omega arith

pub returns-clause-steps : goal.returns-clause-steps
returns-clause-steps c = λ task links plan place ready.
    let at = c.args in
    let turn = c.turn in
    let below = at.machine.depth - 1 in
    let asker = get_or at.board.now.halves below 0 in
    granting_goes_on ready c.requires.0 turn.new.rows (turn.ensures plan.site (marks_of plan.site at.board.now.rows) (grant_joined ready c.requires.0) ready.walks)
    c.sent-2.result below asker _ (omega arith) refl
    (ap (λ (s : Stage). moved_to at.machine s asker at.machine.half at.machine.left below) c.requires.0) c.sent-2.ensures

-- `running::run` meets its contract. Assumes nothing.
use Rattle.machine.specs.declared.Board.{Board}
use Rattle.running.proofs.Start.{begin_ready, begin_leaves}
use Rattle.running.proofs.run.Goals as goal

pub run_on-requires-clause-ready : goal.run_on-requires-clause-ready
run_on-requires-clause-ready c =
    let at = c.args in
    let plan = c.requires.plan in
    let board : Board = record { rows = c.fill.new.rows; entered = c.enter_only.new.self; halves = at.board.now.halves } in
    (plan, begin_ready at.task.now at.links.now board c.fill.ensures c.enter_only.ensures.by_half plan c.requires.fresh c.beginning-begin.result c.beginning-begin.ensures)

pub returns : goal.returns
returns c =
    let at = c.args in
    let begin = c.beginning-begin in
    let board : Board = record { rows = c.fill.new.rows; entered = c.enter_only.new.self; halves = at.board.now.halves } in
    λ plan fresh.
    begin_leaves at.task.now at.links.now board c.fill.ensures c.enter_only.ensures.by_half plan fresh begin.result begin.ensures _ _ _ _ _
    (c.run_on.ensures plan (begin_ready at.task.now at.links.now board c.fill.ensures c.enter_only.ensures.by_half plan fresh begin.result begin.ensures))

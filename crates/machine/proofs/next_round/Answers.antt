-- `machine::next_round` meets its contract. Assumes nothing.
use Rattle.machine.proofs.Begins.{round_begins}
use Rattle.machine.proofs.next_round.Goals as goal

pub returns : goal.returns
returns c = λ links.
    let at = c.args in
    rw c.beginning.ensures (round_begins at.task.now at.machine.now links at.board.now c.enter_only.new.self (cc) c.if-machine-task.false c.enter_only.ensures.by_half)

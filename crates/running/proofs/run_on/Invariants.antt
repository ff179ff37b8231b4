-- `running::run_on` meets its contract. The loop's invariant: what `Partly` says of the messages sent. Assumes nothing.
use Prim.Native.Nat.{◌-◌}
use Rattle.running.specs.Progress.{Partly}
use Rattle.running.proofs.run_on.Given as goal

abbrev pub invariant-loop-sent : goal.invariant-loop-sent
invariant-loop-sent l = Partly l.task l.budget l.links (record { machine = l.initial.machine; board = l.initial.board; log = l.initial.log }) l.log l.machine l.board l.sent

abbrev pub decreases-loop-sent : goal.decreases-loop-sent
decreases-loop-sent l = l.budget - l.sent

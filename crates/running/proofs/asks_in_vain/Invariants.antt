-- `running::asks_in_vain` meets its contract. The loop's invariant: what `Asking` says of the others that are left. Assumes nothing.
use Prim.Native.Nat.{◌-◌, ◌/◌}
use Rattle.running.proofs.InVain.{Asking}
use Rattle.running.proofs.asks_in_vain.Given as goal

abbrev pub invariant-loop-v : goal.invariant-loop-v
invariant-loop-v l = Asking l.budget l.board l.initial.log l.m l.sent (l.h / 2) l.own l.log l.others l.at

abbrev pub decreases-loop-v : goal.decreases-loop-v
decreases-loop-v l = l.budget - l.at

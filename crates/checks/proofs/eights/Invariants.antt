-- `checks::eights` meets its contract. The loop's invariant: the eights passed are in the set. Assumes nothing.
use Prim.Native.Nat.{◌*◌, ◌≤◌}
use Rattle.radios.specs.Bytes.{is_one}
use Rattle.checks.proofs.Gathering.{SoFar}
use Rattle.checks.proofs.eights.Given as goal

abbrev pub invariant-loop-k : goal.invariant-loop-k
invariant-loop-k l = (l.k ≤ l.k-end) × SoFar (is_one l.row) (8 * l.k) l.set

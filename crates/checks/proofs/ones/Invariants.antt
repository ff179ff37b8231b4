-- `checks::ones` meets its contract. The loop's invariant: the set holds the cells passed. Assumes nothing.
use Prim.Native.Nat.{◌≤◌}
use lib.ListN.{length}
use Rattle.radios.specs.Bytes.{is_one}
use Rattle.checks.proofs.Gathering.{SoFar}
use Rattle.checks.proofs.ones.Given as goal

abbrev pub invariant-loop-j : goal.invariant-loop-j
invariant-loop-j l = (l.j ≤ length l.row) × SoFar (is_one l.row) l.j l.set

-- `machine::push` meets its contract. Assumes nothing.
use native.Mathlib.Omega.{arith}
use Rattle.machine.proofs.Stages.{pushed}
use Rattle.machine.proofs.push.Goals as goal

pub returns : goal.returns
returns c = let at = c.args in λ site y. pushed site at.halves.now at.depth at.h y (omega arith)

-- `checks::Table::ordinary` meets its contract. The loop's invariant: the set holds the radios passed that are no handhelds. Assumes nothing.
use mathlib.Core.Bool.{not}
use Prim.Native.Nat.{◌≤◌}
use Rattle.site.specs.Map.{handheld}
use Rattle.checks.proofs.Gathering.{SoFar}
use Rattle.checks.proofs.Table.ordinary.Given as goal

abbrev pub invariant-loop-v : goal.invariant-loop-v
invariant-loop-v l = (l.v ≤ l.self.n) × SoFar (λ v. not (handheld l.self.cells.now l.self.n v)) l.v l.set

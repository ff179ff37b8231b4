-- `checks::Table::gather` meets its contract. The loop's invariant: what `Mirrored` says. Assumes nothing.
use Prim.Native.Nat.{◌≤◌}
use Rattle.checks.proofs.Mirrored.{Mirrored}
use Rattle.checks.proofs.Table.gather.Given as goal

abbrev pub invariant-loop-i : goal.invariant-loop-i
invariant-loop-i l = (l.i ≤ l.self.n) × Mirrored l.self.cells.now l.self.n l.rows l.i

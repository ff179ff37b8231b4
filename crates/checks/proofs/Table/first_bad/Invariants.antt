-- `checks::Table::first_bad` meets its contract. Both loops' invariant: the cells before this turn are good. Assumes nothing.
use mathlib.Core.Path.{◌≡◌}
use Prim.Native.Nat.{◌+◌, ◌*◌, ◌≤◌}
use Rattle.std.specs.Prelude.{Ok}
use Rattle.site.specs.Limits.{most_radios}
use Rattle.checks.proofs.Scan.{Scanned}
use Rattle.checks.proofs.Table.first_bad.Given as goal

abbrev pub invariant-loop-j : goal.invariant-loop-j
invariant-loop-j l = (l.i ≤ l.j) × (l.j ≤ l.self.n) × (l.found ≡ Ok tt) × Scanned l.self.cells.now l.self.n (most_radios * l.i + l.j)

abbrev pub invariant-rows : goal.invariant-rows
invariant-rows l = (l.i ≤ l.self.n) × (l.found ≡ Ok tt) × Scanned l.self.cells.now l.self.n (most_radios * l.i + l.i)

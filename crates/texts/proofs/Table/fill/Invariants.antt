-- `texts::Table::fill` meets its contract. The loop's invariant: what `Filling` says of the lines passed. Assumes nothing.
use mathlib.Core.Path.{◌≡◌}
use lib.ListN.{length}
use Rattle.texts.proofs.Tables.{Filling}
use Rattle.texts.proofs.Table.fill.Given as goal

abbrev pub invariant-loop-line : goal.invariant-loop-line
invariant-loop-line l = (l.self.n ≡ l.fn.self.n) × Filling l.lines l.left l.self.n l.self.cells l.number

abbrev pub decreases-loop-line : goal.decreases-loop-line
decreases-loop-line l = length l.left

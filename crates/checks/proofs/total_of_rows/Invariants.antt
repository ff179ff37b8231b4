-- `checks::total_of_rows` meets its contract. The loop's invariant: the total is that of the rows passed. Assumes nothing.
use mathlib.Core.Path.{◌≡◌}
use Prim.Native.Nat.{◌*◌, ◌≤◌}
use Rattle.basics.specs.Counting.{sum}
use Rattle.site.specs.Limits.{most_radios}
use Rattle.checks.specs.Checked.{size}
use Rattle.checks.proofs.total_of_rows.Given as goal

abbrev pub invariant-loop-row : goal.invariant-loop-row
invariant-loop-row l = (l.total ≡ sum (size l.rows) l.row-index) × (l.total ≤ most_radios * l.row-index)

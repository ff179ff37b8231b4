-- `checks::total_of_rows` meets its contract. Assumes nothing.
use mathlib.Core.Path.{◌≡◌, refl}
use native.Mathlib.Omega.{arith}
use Rattle.basics.specs.Counting.{sum}
use Rattle.radios.proofs.Counting.{count-le}
use Rattle.site.specs.Limits.{most_radios}
use Rattle.checks.specs.Checked.{size}
use Rattle.checks.proofs.Sizes.{size_read_of, sum_more}
use Rattle.checks.proofs.total_of_rows.Goals as goal
use Rattle.checks.proofs.total_of_rows.Goals.{After-count-total}

pub loop-row-init : goal.loop-row-init
unfolding sum
loop-row-init c = (refl, omega arith)

-- the row that is read adds its size
added : (c : After-count-total) → c.count-total.result ≡ size c.args.rows.now c.loop-row.row-index
added c = size_read_of c.args.rows.now _ c.loop-row.row-index c.row-item.result _ c.count-total.ensures c.row-item.is c.loop-row-test.true

pub overflow_add-total : goal.overflow_add-total
overflow_add-total c = omega (arith, c.count-total.ensures, count-le most_radios c.row-item.result)

pub loop-row-preserved : goal.loop-row-preserved
loop-row-preserved c =
    let more = added (goal.at.loop-row-preserved c).After-count-total in
    (omega (arith, more, sum_more (size c.args.rows.now) c.loop-row.row-index), omega (arith, c.count-total.ensures, count-le most_radios c.row-item.result))

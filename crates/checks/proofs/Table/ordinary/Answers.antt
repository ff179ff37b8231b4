-- `checks::Table::ordinary` meets its contract. Assumes nothing.
use native.Mathlib.Omega.{arith}
use Rattle.checks.proofs.Gathering.{none_so_far}
use Rattle.checks.proofs.Table.ordinary.Goals as goal

pub loop-v-init : goal.loop-v-init
loop-v-init c = (omega arith, none_so_far _ _ c.none-set.ensures)

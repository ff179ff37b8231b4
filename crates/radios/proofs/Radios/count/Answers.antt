-- `Radios::count` meets its contract. Assumes nothing.
use Rattle.radios.proofs.Counting.{count_ones}
use Rattle.radios.proofs.Radios.count.Goals as goal

pub returns : goal.returns
returns c = rw (← c.self.view_is) (count_ones 64 c.self.inside.bits c.self.invariant)

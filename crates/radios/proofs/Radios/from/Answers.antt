-- `Radios::from` meets its contract. Assumes nothing.
use Rattle.radios.proofs.Lowest.{member-from}
use Rattle.radios.proofs.Radios.from.Goals as goal

pub returns : goal.returns
returns c = rw (← c.self.view_is) (λ j. member-from c.self.inside.bits c.args.i j c.self.invariant)

-- `Radios::without_first` meets its contract. Assumes nothing.
use Rattle.radios.proofs.Lowest.{member-positive, member-less-first}
use Rattle.radios.proofs.Radios.without_first.Goals as goal

pub overflow_sub-result : goal.overflow_sub-result
overflow_sub-result c = rw c.self.view_is (member-positive c.args.v c.args.self (c.requires.0.found c.requires.1))

pub returns : goal.returns
returns c = rw c.self.view_is (member-less-first c.args.v c.args.self c.requires.0 c.requires.1)

-- `Radios::of_eight` meets its contract. Assumes nothing.
use Rattle.radios.proofs.Eight.{eight_members}
use Rattle.radios.proofs.Radios.of_eight.Goals as goal

pub returns-clause-by_index : goal.returns-clause-by_index
returns-clause-by_index c = eight_members c.args.bytes.now c.args.at c.four.result c.four-2.result c.requires.bits c.four.ensures c.four-2.ensures

-- `checks::all_bits` meets its contract. Assumes nothing.
use Rattle.std.proofs.Common.{rules}
use Rattle.checks.proofs.Largest.{largest_tells}
use Rattle.checks.proofs.all_bits.Goals as goal

pub returns : goal.returns
returns c = largest_tells _ _ (search rules)

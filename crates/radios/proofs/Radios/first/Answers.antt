-- `Radios::first` meets its contract. Assumes nothing.
use Rattle.std.proofs.Common.{sym, ◌∙◌}
use borrow.Author.Tests.{eqb-true}
use Rattle.radios.proofs.Lowest.{zeros_first, empty_first}
use Rattle.radios.proofs.Radios.first.Goals as goal

pub returns-then-is_empty-clause-is_first : goal.returns-then-is_empty-clause-is_first
returns-then-is_empty-clause-is_first c = empty_first c.args.self 64 (eqb-true c.args.self 0 (sym c.is_empty.ensures ∙ c.if-is_empty.true))

pub returns-clause-is_first : goal.returns-clause-is_first
returns-clause-is_first c = rw (← c.self.view_is) (zeros_first 64 c.self.inside.bits)

-- `Radios::and_not` meets its contract. Assumes nothing.
use Rattle.radios.proofs.Laws.{member-and-not}
use Rattle.radios.proofs.Radios.and_not.Goals as goal

pub returns : goal.returns
returns c = rw (← c.self.view_is, ← c.other.view_is) (λ j. member-and-not 64 j c.self.inside.bits c.other.inside.bits c.self.invariant c.other.invariant)

-- `Radios::both` meets its contract. Assumes nothing.
use Rattle.std.proofs.lemmas.Nat.{or_lt}
use Rattle.radios.proofs.Laws.{member-or}
use Rattle.radios.proofs.Radios.both.Goals as goal

pub invariant_of-result : goal.invariant_of-result
invariant_of-result c = or_lt 64 c.self.inside.bits c.other.inside.bits c.self.invariant c.other.invariant

pub returns : goal.returns
returns c = rw (← c.self.view_is, ← c.other.view_is) (λ j. member-or j c.self.inside.bits c.other.inside.bits)

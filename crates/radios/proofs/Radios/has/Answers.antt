-- `Radios::has` meets its contract. Assumes nothing.
use mathlib.Core.Path.{ap}
use Prim.Native.Nat.{ℕ, ◌/◌, ◌^◌}
use lib.Dec.{eqb}
use lib.Bits.{and_mask}
use Rattle.radios.specs.Member.{member}
use Rattle.radios.proofs.Radios.has.Goals as goal

pub returns : goal.returns
unfolding member
returns c = rw (← c.self.view_is) (ap (λ (n : ℕ). eqb n 1) (and_mask (c.self.inside.bits / 2 ^ c.args.i) 1))

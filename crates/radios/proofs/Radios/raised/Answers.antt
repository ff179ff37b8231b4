-- `Radios::raised` meets its contract. Assumes nothing.
use mathlib.Core.Path.{ap, ◌∙◌}
use Prim.Native.Nat.{◌*◌, ◌^◌, ◌<◌}
use native.Mathlib.Nat.{mod-eq_of_lt}
use Rattle.radios.specs.Member.{member}
use Rattle.radios.proofs.Laws.{member-shl}
use Rattle.radios.proofs.Radios.raised.Goals as goal

pub returns : goal.returns
returns c =
    let fits : c.self.inside.bits * 2 ^ c.args.i < 2 ^ 64 = rw c.self.view_is c.requires.fits in
    rw (← c.self.view_is) (λ j. ap (member j) (mod-eq_of_lt fits) ∙ member-shl j c.args.i c.self.inside.bits)

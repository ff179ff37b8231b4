-- `Radios::without` meets its contract. Assumes nothing.
use mathlib.Core.Path.{ap, ◌∙◌}
use mathlib.Core.Bool.{Bool, not, ◌&&◌, and_comm}
use Prim.Native.Nat.{ℕ, ◌*◌, ◌%◌, ◌^◌}
use native.Mathlib.Nat.{mod-lt}
use lib.Dec.{eqb}
use lib.Pow.{pow_pos}
use Rattle.radios.specs.Member.{member}
use Rattle.radios.proofs.Laws.{member-and-not, member-one}
use Rattle.radios.proofs.Radios.without.Goals as goal

pub returns : goal.returns
returns c =
    let x : ℕ = c.self.inside.bits in
    let i : ℕ = c.args.i in
    rw (← c.self.view_is)
    (λ j.
    member-and-not 64 j x ((1 * 2 ^ i) % 2 ^ 64) c.self.invariant (mod-lt (1 * 2 ^ i) (pow_pos 64))
    ∙ ap (λ (b : Bool). member j x && not b) (member-one i j c.requires)
    ∙ and_comm (member j x) (not (eqb j i)))

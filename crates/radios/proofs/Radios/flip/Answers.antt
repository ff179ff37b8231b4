-- `Radios::flip` meets its contract. Assumes nothing.
use mathlib.Core.Path.{ap, ◌∙◌}
use mathlib.Core.Bool.{Bool, not, cond}
use Prim.Native.Nat.{ℕ, ◌*◌, ◌%◌, ◌^◌}
use native.Mathlib.Nat.{mod-lt}
use lib.Pow.{pow_pos}
use Rattle.std.proofs.lemmas.Nat.{xor_lt}
use Rattle.radios.specs.Member.{member}
use Rattle.radios.proofs.Laws.{member-xor, member-one}
use Rattle.radios.proofs.Radios.flip.Goals as goal

pub invariant_of-result : goal.invariant_of-result
invariant_of-result c = xor_lt 64 c.self.inside.bits ((1 * 2 ^ c.args.i) % 2 ^ 64) c.self.invariant (mod-lt (1 * 2 ^ c.args.i) (pow_pos 64))

pub returns : goal.returns
returns c =
    let x : ℕ = c.self.inside.bits in
    let i : ℕ = c.args.i in
    rw (← c.self.view_is)
    (λ j. member-xor j x ((1 * 2 ^ i) % 2 ^ 64) ∙ ap (λ (b : Bool). cond b (not (member j x)) (member j x)) (member-one i j c.requires))

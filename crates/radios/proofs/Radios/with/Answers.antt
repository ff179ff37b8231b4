-- `Radios::with` meets its contract. Assumes nothing.
use mathlib.Core.Path.{ap, ◌∙◌}
use mathlib.Core.Bool.{Bool, ◌||◌}
use Prim.Native.Nat.{ℕ, ◌*◌, ◌%◌, ◌^◌}
use native.Mathlib.Nat.{mod-lt}
use lib.Pow.{pow_pos}
use Rattle.std.proofs.lemmas.Nat.{or_lt}
use Rattle.radios.specs.Member.{member}
use Rattle.radios.proofs.Laws.{member-or, member-one}
use Rattle.radios.proofs.Radios.with.Goals as goal

pub invariant_of-result : goal.invariant_of-result
invariant_of-result c = or_lt 64 ((1 * 2 ^ c.args.i) % 2 ^ 64) c.self.inside.bits (mod-lt (1 * 2 ^ c.args.i) (pow_pos 64)) c.self.invariant

pub returns : goal.returns
returns c =
    let x : ℕ = c.self.inside.bits in
    let i : ℕ = c.args.i in
    rw (← c.self.view_is) (λ j. member-or j ((1 * 2 ^ i) % 2 ^ 64) x ∙ ap (λ (b : Bool). b || member j x) (member-one i j c.requires))

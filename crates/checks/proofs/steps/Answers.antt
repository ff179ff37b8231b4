-- `checks::steps` meets its contract. Assumes nothing.
use mathlib.Core.Path.{◌≡◌, refl, ap, ◌∙◌}
use mathlib.Core.Bool.{Bool, true, false}
use native.Mathlib.Omega.{arith}
use mir.Val.{bool_byte}
use Rattle.basics.specs.Counting.{one_if}
use Rattle.basics.proofs.Counting.{one_at_most}
use Rattle.std.proofs.lemmas.List.{get_or_default}
use Rattle.radios.specs.Member.{member}
use Rattle.radios.proofs.Counting.{count-le}
use Rattle.site.specs.Limits.{most_radios}
use Rattle.checks.proofs.Sizes.{size_read}
use Rattle.checks.proofs.steps.Goals as goal

-- a test as a number
byte_is : (test : Bool) → bool_byte test ≡ one_if test
byte_is true = refl
byte_is false = refl

pub overflow_sub-others-2 : goal.overflow_sub-others-2
overflow_sub-others-2 c = omega (arith, size_read c.args.rows.now c.args.s _ _ c.count.ensures (omega arith), size_read c.args.rows.now c.args.t _ _ c.count-2.ensures (omega arith))

pub overflow_add-others : goal.overflow_add-others
overflow_add-others c = omega (arith, count-le most_radios c.args.passing)

pub overflow_add-result : goal.overflow_add-result
overflow_add-result c = omega (arith, count-le most_radios c.args.passing, byte_is c.has.result, one_at_most c.has.result)

pub returns : goal.returns
returns c =
    let linked = ap one_if (c.has.ensures ∙ ap (member c.args.t) (get_or_default c.args.rows.now c.args.s _ 0 (omega arith))) in
    omega (arith, size_read c.args.rows.now c.args.s _ _ c.count.ensures (omega arith), size_read c.args.rows.now c.args.t _ _ c.count-2.ensures (omega arith), c.requires.held, c.count-3.ensures, byte_is c.has.result, linked)

-- `captures::end_of` meets its contract. Assumes nothing.
use native.Mathlib.Omega.{arith}
use Rattle.captures.proofs.Pieces.{passed_more, first_is}
use Rattle.captures.proofs.end_of.Goals as goal

pub loop-place-init : goal.loop-place-init
loop-place-init c = (omega arith, λ k below. absurd (omega arith))

pub returns-then-bytes-place-clause-first : goal.returns-then-bytes-place-clause-first
returns-then-bytes-place-clause-first c = first_is c.args.separator c.args.bytes.now c.loop-place.place c.loop-place.invariant.0 c.loop-place.invariant.1 (λ l. c.if-bytes-place.true)

pub loop-place-preserved : goal.loop-place-preserved
loop-place-preserved c = (omega (arith, c.loop-place-test.true), passed_more c.args.separator c.args.bytes.now c.loop-place.place c.loop-place.invariant.1 c.if-bytes-place.false)

pub returns-clause-first : goal.returns-clause-first
returns-clause-first c = first_is c.args.separator c.args.bytes.now c.loop-place.place c.loop-place.invariant.0 c.loop-place.invariant.1 (λ l. absurd (omega (arith, c.loop-place-test.false)))

-- `checks::spread` meets its contract. Assumes nothing.
use native.Mathlib.Omega.{arith}
use Rattle.checks.proofs.Spreading.{spread_less, spread_more, spread_all}
use Rattle.checks.proofs.spread.Goals as goal

pub loop-v-smaller : goal.loop-v-smaller
loop-v-smaller c = spread_less _ _ _ c.in-Some.ensures.is_first (omega (arith, c.in-Some.ensures.below)) c.without_first-rest.ensures

pub loop-v-preserved : goal.loop-v-preserved
loop-v-preserved c =
    spread_more _ _ _ c.in-Some.ensures.is_first (omega (arith, c.in-Some.ensures.below)) c.without_first-rest.ensures _ c.loop-v.invariant c.none.ensures c.with-alone.ensures c.widen-in-Some.ensures

pub returns : goal.returns
returns c = spread_all c.args.rows.now c.widen.ensures c.loop-v.invariant c.in_default.ensures.empty

-- `checks::eights` meets its contract. Assumes nothing.
use mathlib.Core.Path.{◌≡◌}
use Prim.Native.Nat.{◌+◌, ◌*◌}
use native.Mathlib.Nat.{lt_of_lt_of_le}
use native.Mathlib.Omega.{arith}
use lib.Pow.{pow_mono, shl_lt}
use Rattle.radios.specs.Bytes.{is_one}
use Rattle.checks.proofs.Gathering.{none_so_far, eight_more}
use Rattle.checks.proofs.eights.Goals as goal

pub loop-k-init : goal.loop-k-init
loop-k-init c = (omega arith, none_so_far _ _ c.none-set.ensures)

pub raised-requires-clause-fits : goal.raised-requires-clause-fits
raised-requires-clause-fits c = lt_of_lt_of_le (shl_lt 8 (8 * c.loop-k.k) c.of_eight.ensures.upper_bound) (pow_mono {j = 64} (omega arith))

pub loop-k-preserved : goal.loop-k-preserved
loop-k-preserved c =
    let next : 8 * c.loop-k.k + 8 ≡ 8 * (c.loop-k.k + 1) = omega arith in
    (omega arith, rw (← next) (eight_more (is_one c.args.row.now) _ _ _ _ _ c.loop-k.invariant.1 c.of_eight.ensures.by_index c.raised.ensures c.both-set.ensures))

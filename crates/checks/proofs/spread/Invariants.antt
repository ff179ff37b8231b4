-- `checks::spread` meets its contract. The loop's invariant: what `Spreading` says of the radios that are left. Assumes nothing.
use Rattle.basics.specs.Counting.{count}
use Rattle.radios.specs.Member.{member}
use Rattle.site.specs.Limits.{most_radios}
use Rattle.checks.proofs.Spreading.{Spreading}
use Rattle.checks.proofs.spread.Given as goal

abbrev pub invariant-loop-v : goal.invariant-loop-v
invariant-loop-v l = Spreading l.i l.fn.row l.initial.rows l.rows l.rest

abbrev pub decreases-loop-v : goal.decreases-loop-v
decreases-loop-v l = count (λ j. member j l.rest) most_radios

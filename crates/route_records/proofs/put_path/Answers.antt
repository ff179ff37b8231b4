-- `route_records::put_path` meets its contract. Assumes nothing.
use native.Mathlib.Omega.{arith}
use lib.ListN.{length-append}
use Rattle.route_records.proofs.Laid.{only_laid, source_laid, inner_laid, sink_laid}
use Rattle.route_records.proofs.put_path.Goals as goal

pub returns-in_default-path : goal.returns-in_default-path
returns-in_default-path c = only_laid c.told-records c.requires.all.0 c.requires.all.1 (omega arith) c.alone.ensures

pub loop-near-init : goal.loop-near-init
loop-near-init c = source_laid c.told-records c.requires.all.0 c.requires.all.1 c.in-len2-up.len_at_least (cc) (cc) c.alone.ensures

pub loop-near-preserved : goal.loop-near-preserved
loop-near-preserved c =
    let (size, (fits, near, rest, long)) = c.in-Some.ensures.steps in
    inner_laid c.told-records c.requires.all.0 c.requires.all.1 c.loop-near.invariant (length-append _ _) size fits near rest

pub returns : goal.returns
returns c = sink_laid c.told-records c.requires.all.0 c.requires.all.1 c.loop-near.invariant c.in-None.ensures.steps.1.0 c.alone-2.ensures

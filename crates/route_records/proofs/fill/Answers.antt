-- `route_records::fill` meets its contract. Assumes nothing.
use Rattle.route_records.proofs.Filled.{filled_next}
use Rattle.route_records.proofs.fill.Goals as goal

pub loop-v-preserved : goal.loop-v-preserved
loop-v-preserved c = cc (filled_next c.args.records.now c.args.routes.now c.loop-v.v record { role = 0; path = 0; before = 0; after = 0 } c.loop-v-test.true c.requires)

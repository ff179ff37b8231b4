-- `route_records::fog_routes` meets its contract. Assumes nothing.
use mathlib.Core.Path.{refl, sym, ◌∙◌}
use mathlib.Core.List.{[]}
use native.Mathlib.Omega.{arith}
use lib.Seq.{length-take-le}
use Rattle.route_records.proofs.Promised.{in_order, tellable, enough, promised}
use Rattle.route_records.proofs.fog_routes.Goals as goal

pub returns-in-Err : goal.returns-in-Err
returns-in-Err c = promised _ _ [] (sym c.in-Err.is ∙ c.judge.ensures) c.number.ensures tt refl

pub records_of-records-requires : goal.records_of-records-requires
records_of-records-requires c = tellable (in_order c.judge.ensures c.in_default.is)

pub slice_bounds-records-end : goal.slice_bounds-records-end
slice_bounds-records-end c = enough _ (in_order c.judge.ensures c.in_default.is) c.records_of-records.ensures

pub slice_bounds-fill-end : goal.slice_bounds-fill-end
slice_bounds-fill-end c = sym (length-take-le _ _ (enough _ (in_order c.judge.ensures c.in_default.is) c.records_of-records.ensures))

pub fill-requires : goal.fill-requires
fill-requires c =
    let good = in_order c.judge.ensures c.in_default.is in
    omega (arith, good.room, length-take-le c.args.n c.records_of-records.result (enough _ good c.records_of-records.ensures))

pub returns : goal.returns
returns c = promised _ _ _ (sym c.in_default.is ∙ c.judge.ensures) refl (c.records_of-records.ensures, c.fill.ensures) tt

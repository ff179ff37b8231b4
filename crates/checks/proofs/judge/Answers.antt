-- `checks::judge` meets its contract. Assumes nothing.
use mathlib.Core.Path.{refl}
use Rattle.std.proofs.Common.{rules}
use Rattle.refusals.specs.Refusals.{call_of}
use Rattle.checks.proofs.Verdicts.{Unrefused, stopped_by_map, stopped_by_pair, stopped_by_room, unrefused, unopposed, the_map, the_pair, ends_few, countable, steps_few}
use Rattle.checks.proofs.judge.Goals as goal
use Rattle.checks.proofs.judge.Goals.{In_ok-judge_pair, After-steps-a}

-- the call, as 1 to 6 let it pass
let_pass : (c : In_ok-judge_pair)
    → Unrefused (call_of c.args.n c.args.table.now c.args.s c.args.t c.args.k c.args.log c.args.paths c.args.cut) c.judge_map.new.rows c.in_ok-map.map.total c.in_ok-map.map.ordinary
let_pass c = unrefused (call_of c.args.n c.args.table.now c.args.s c.args.t c.args.k c.args.log c.args.paths c.args.cut) c.in_ok-map.ensures c.in_ok-judge_pair.ensures

pub returns-in_err-map : goal.returns-in_err-map
returns-in_err-map c = stopped_by_map (search rules) c.in_err-map.ensures

pub returns-in_err-judge_pair : goal.returns-in_err-judge_pair
returns-in_err-judge_pair c = stopped_by_pair (search rules) c.in_ok-map.ensures c.in_err-judge_pair.ensures

pub passing-inner-requires : goal.passing-inner-requires
passing-inner-requires c = ends_few (let_pass c)

pub steps-a-requires : goal.steps-a-requires
steps-a-requires c = countable (let_pass (goal.at.steps-a-requires c).In_ok-judge_pair)

pub judge_room-requires-clause-le_n : goal.judge_room-requires-clause-le_n
judge_room-requires-clause-le_n c =
    let map = the_map (let_pass (goal.at.judge_room-requires-clause-le_n c).In_ok-judge_pair) in
    (map.two_radios, map.few_radios)

pub judge_room-requires-clause-k_le_most_paths : goal.judge_room-requires-clause-k_le_most_paths
judge_room-requires-clause-k_le_most_paths c =
    let p = let_pass (goal.at.judge_room-requires-clause-k_le_most_paths c).In_ok-judge_pair in
    ((the_pair p).few_wanted, steps_few p _ (c.passing-inner.ensures _ refl refl p.ordinary_are) _ c.steps-a.ensures)

pub returns-in_err-judge_room : goal.returns-in_err-judge_room
returns-in_err-judge_room c =
    let p = let_pass (goal.at.returns-in_err-judge_room c).In_ok-judge_pair in
    stopped_by_room p _ (c.passing-inner.ensures _ refl refl p.ordinary_are) _ c.steps-a.ensures (search rules) c.in_err-judge_room.ensures

pub returns : goal.returns
returns c =
    let p = let_pass (goal.at.returns c).In_ok-judge_pair in
    unopposed p _ (c.passing-inner.ensures _ refl refl p.ordinary_are) _ c.steps-a.ensures c.in_ok-judge_room.ensures

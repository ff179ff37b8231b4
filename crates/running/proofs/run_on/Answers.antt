-- `running::run_on` meets its contract. Assumes nothing.
use mathlib.Core.Path.{refl}
use native.Mathlib.Omega.{arith}
use Rattle.machine.specs.View.{with_left}
use Rattle.running.specs.Progress.{Beginning}
use Rattle.running.proofs.Progress.{partly_none, partly_more, partly_writable, step_over, machine_leaves, not_won, run_spent, run_over}
use Rattle.running.proofs.InVain.{asks_ready}
use Rattle.running.proofs.run_on.Goals as goal

pub loop-sent-init : goal.loop-sent-init
loop-sent-init c =
    let at = c.args in
    let begin : Beginning = record { machine = at.begin; board = at.board.now; log = at.log.now } in
    partly_none at.task.now at.budget at.links.now begin

pub asks_in_vain-vain-requires : goal.asks_in_vain-vain-requires
asks_in_vain-vain-requires c = asks_ready c.loop-sent.invariant c.requires.room_for c.loop-sent-test.true c.requires.ready.0 c.requires.ready.1

-- `here`: how far the run has come once PDTs were sent in vain
pub step-stepped-requires : goal.step-stepped-requires
step-stepped-requires c =
    let here = (c.asks_in_vain-vain.ensures c.args.task.now).further c.args.links.now _ c.requires.room_for c.loop-sent.invariant in
    let way = here.way c.requires.ready.0 c.requires.ready.1 in
    (c.requires.ready.0, way.place, way.ready)

pub put-requires : goal.put-requires
put-requires c =
    let vain = c.asks_in_vain-vain.ensures c.args.task.now in
    let here = vain.further c.args.links.now _ c.requires.room_for c.loop-sent.invariant in
    let step = c.step-stepped in
    partly_writable here c.requires.room_for step.result step.new.board step.ensures.steps vain.within _ c.in-Sent.is c.requires.ready.0 c.requires.ready.1

pub overflow_add-sent : goal.overflow_add-sent
overflow_add-sent c = omega (arith, (c.asks_in_vain-vain.ensures c.args.task.now).within)

pub loop-sent-smaller : goal.loop-sent-smaller
loop-sent-smaller c = let vain = c.asks_in_vain-vain.ensures c.args.task.now in omega (arith, vain.within, vain.rises)

pub loop-sent-preserved : goal.loop-sent-preserved
loop-sent-preserved c =
    let vain = c.asks_in_vain-vain.ensures c.args.task.now in
    let here = vain.further c.args.links.now _ c.requires.room_for c.loop-sent.invariant in
    let step = c.step-stepped in
    partly_more here c.requires.room_for step.result step.new.board step.ensures.steps _ _ vain.within c.in-Sent.is c.put.ensures

pub returns-after-loop-sent : goal.returns-after-loop-sent
returns-after-loop-sent c = λ plan begun. machine_leaves c.loop-sent.invariant c.requires.room_for _ plan begun (λ other. refl) (run_spent plan _ _ (omega arith))

pub returns-in_default : goal.returns-in_default
returns-in_default c =
    let here = (c.asks_in_vain-vain.ensures c.args.task.now).further c.args.links.now _ c.requires.room_for c.loop-sent.invariant in
    let step = c.step-stepped in
    let l = c.loop-sent in
    λ plan begun.
    machine_leaves here c.requires.room_for _ plan begun
    (λ other. step.ensures.entered_unchanged c.in_default.is (not_won plan.site (here.way plan begun).place (with_left l.machine c.asks_in_vain-vain.result.left) l.board other))
    (run_over plan _ _ (step_over here c.requires.room_for step.result step.new.board step.ensures.steps c.in_default.is plan begun))

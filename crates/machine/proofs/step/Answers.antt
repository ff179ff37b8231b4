-- `machine::step` meets its contract. Assumes nothing.
use mathlib.Core.Path.{ap, ◌∙◌}
use mathlib.Core.List.{List}
use Prim.Native.Nat.{ℕ}
use Rattle.machine.specs.declared.Task.{Task}
use Rattle.machine.specs.declared.Machine.{Machine}
use Rattle.machine.specs.declared.Board.{Board}
use Rattle.machine.specs.View.{entered_of}
use Rattle.machine.specs.Step.{IsReady, Rounds}
use Rattle.machine.proofs.Replies.{last_releases}
use Rattle.machine.proofs.Begins.{follows_on}
use Rattle.machine.proofs.step.Goals as goal

-- the machine is ready for some plan once the next round has begun, where one is due
some : {task : Task} {machine next : Machine} {links : List ℕ} {board board' : Board} → Rounds task machine links board next board'
    → IsReady task machine links board → IsReady task next links board'
some rounds ready =
    let on = rounds.continues ready.0 ready.1 ready.2 in
    (ready.0, on.from, on.ready)

pub searches-requires : goal.searches-requires
searches-requires c = (c.in-Searching.is, some (c.next_round-current.ensures c.args.links.now) c.requires)

pub grants-requires : goal.grants-requires
grants-requires c =
    let at = c.args in
    (c.in-Granting.is, (at.task.now, at.links.now, some (c.next_round-current.ensures at.links.now) c.requires))

pub carries-requires : goal.carries-requires
carries-requires c = (c.in-Carrying.is, some (c.next_round-current.ensures c.args.links.now) c.requires)

pub returns-in-Searching-clause-steps : goal.returns-in-Searching-clause-steps
returns-in-Searching-clause-steps c = follows_on (c.next_round-current.ensures c.args.links.now) _ _ c.searches.ensures.steps

pub returns-in-Searching-clause-entered_unchanged : goal.returns-in-Searching-clause-entered_unchanged
returns-in-Searching-clause-entered_unchanged c = λ e still. c.searches.ensures.entered_unchanged e ∙ (c.next_round-current.ensures c.args.links.now).still still

pub returns-in-Declining-clause-steps : goal.returns-in-Declining-clause-steps
returns-in-Declining-clause-steps c =
    let at = c.args in
    follows_on (c.next_round-current.ensures at.links.now) _ _ (c.declines.ensures at.task.now at.links.now c.next_round-current.new.board)

pub returns-in-Declining-clause-entered_unchanged : goal.returns-in-Declining-clause-entered_unchanged
returns-in-Declining-clause-entered_unchanged c = λ e still. (c.next_round-current.ensures c.args.links.now).still still

pub returns-in-Granting-clause-steps : goal.returns-in-Granting-clause-steps
returns-in-Granting-clause-steps c =
    let at = c.args in
    follows_on (c.next_round-current.ensures at.links.now) _ _ (c.grants.ensures.steps at.task.now at.links.now)

pub returns-in-Granting-clause-entered_unchanged : goal.returns-in-Granting-clause-entered_unchanged
returns-in-Granting-clause-entered_unchanged c = λ e still. ap entered_of c.grants.ensures.entered_unchanged ∙ (c.next_round-current.ensures c.args.links.now).still still

pub returns-in-Won-clause-steps : goal.returns-in-Won-clause-steps
returns-in-Won-clause-steps c =
    let rounds = c.next_round-current.ensures c.args.links.now in
    follows_on rounds _ _
    (λ plan place w. last_releases w c.in-Won.is (rounds.full c.in-Won.is) c.releases.result (c.releases.ensures plan place w.made w.walks w.untried))

pub returns-in-Won-clause-entered_unchanged : goal.returns-in-Won-clause-entered_unchanged
returns-in-Won-clause-entered_unchanged c = λ e still. (c.next_round-current.ensures c.args.links.now).still still

pub returns-in-Carrying-clause-steps : goal.returns-in-Carrying-clause-steps
returns-in-Carrying-clause-steps c = follows_on (c.next_round-current.ensures c.args.links.now) _ _ c.carries.ensures

pub returns-in-Carrying-clause-entered_unchanged : goal.returns-in-Carrying-clause-entered_unchanged
returns-in-Carrying-clause-entered_unchanged c = λ e still. (c.next_round-current.ensures c.args.links.now).still still

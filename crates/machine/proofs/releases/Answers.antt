-- `machine::releases` meets its contract. Assumes nothing.
use mathlib.Core.Path.{◌∙◌}
use native.Mathlib.Omega.{arith}
use Rattle.openings.proofs.Turns.{on_told}
use Rattle.machine.specs.View.{marks_of}
use Rattle.machine.proofs.Replies.{released, passed, not_passed}
use Rattle.machine.proofs.releases.Goals as goal

pub returns-in-Some : goal.returns-in-Some
returns-in-Some c =
    let at = c.args in
    λ plan place made walks untried.
    let site = plan.site in
    let next = c.in-Some.ensures.next site (marks_of site at.board.now.rows) (omega (arith, made.radios, made.fits.few)) (omega (arith, made.radios, c.requires.1)) made.source (λ e. made.fits.differ (e ∙ made.sink)) made.linked (on_told site at.board.now.rows) walks in
    released site at.machine _ at.board.now at.v c.in-Some.w at.task.now.s made.source next.next (passed site at.machine _ at.board.now _ c.in-Some.w c.in-Some.w _ next.a_radio c.pass_on.ensures)

pub returns-in-None : goal.returns-in-None
returns-in-None c =
    let at = c.args in
    λ plan place made walks untried.
    let site = plan.site in
    let next = c.in-None.ensures.next site (marks_of site at.board.now.rows) (omega (arith, made.radios, made.fits.few)) (omega (arith, made.radios, c.requires.1)) made.source (λ e. made.fits.differ (e ∙ made.sink)) made.linked (on_told site at.board.now.rows) walks in
    released site at.machine _ at.board.now at.v site.n at.task.now.s made.source next.next (not_passed site at.machine _ at.board.now _ site.n place c.over.ensures untried)

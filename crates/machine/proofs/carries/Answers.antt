-- `machine::carries` meets its contract. Assumes nothing.
use mathlib.Core.Path.{◌≡◌, sym, ap, ◌∙◌}
use Prim.Native.Nat.{ℕ, ◌+◌, ◌/◌}
use native.Mathlib.Omega.{arith}
use Rattle.site.specs.Map.{out_half}
use Rattle.tokens.specs.Rules.{next_marked}
use Rattle.openings.proofs.Turns.{on_told}
use Rattle.machine.specs.declared.Stage.{Stage}
use Rattle.machine.specs.declared.Stage.TheVariants.{Carrying}
use Rattle.machine.specs.View.{moved_to, marks_of}
use Rattle.machine.proofs.Stages.{sane_in}
use Rattle.machine.proofs.Replies.{carrying_releases, carrying_passes, carrying_inside, passed, not_passed}
use Rattle.machine.proofs.carries.Goals as goal

pub returns-then-h-task : goal.returns-then-h-task
returns-then-h-task c = λ plan place ready.
    carrying_releases ready c.requires.0 c.if-h-task.true c.releases.result (c.releases.ensures plan place ready.made ready.walks ready.untried)

pub returns-in-Some : goal.returns-in-Some
returns-in-Some c = λ plan place ready.
    let at = c.args in
    let site = plan.site in
    let is : out_half (at.machine.half / 2) ≡ at.machine.half = omega arith in
    let sane = sane_in ready Carrying c.requires.0 in
    let next = c.in-Some.ensures.next site (marks_of site at.board.now.rows) (omega (arith, ready.made.radios, ready.made.fits.few)) (omega arith) ready.made.source (λ e. sane.3 (omega arith)) ready.made.linked (on_told site at.board.now.rows) ready.walks in
    carrying_passes ready c.requires.0 c.if-h-task.false c.if-h-eq1.true c.in-Some.w
    (ap (λ (h : ℕ). next_marked site (marks_of site at.board.now.rows) h 0) (sym is) ∙ next.next)
    c.pass_on.result (passed site at.machine _ at.board.now _ _ c.in-Some.w _ next.a_radio c.pass_on.ensures)

pub returns-in-None : goal.returns-in-None
returns-in-None c = λ plan place ready.
    let at = c.args in
    let site = plan.site in
    let is : out_half (at.machine.half / 2) ≡ at.machine.half = omega arith in
    let sane = sane_in ready Carrying c.requires.0 in
    let next = c.in-None.ensures.next site (marks_of site at.board.now.rows) (omega (arith, ready.made.radios, ready.made.fits.few)) (omega arith) ready.made.source (λ e. sane.3 (omega arith)) ready.made.linked (on_told site at.board.now.rows) ready.walks in
    carrying_passes ready c.requires.0 c.if-h-task.false c.if-h-eq1.true site.n
    (ap (λ (h : ℕ). next_marked site (marks_of site at.board.now.rows) h 0) (sym is) ∙ next.next)
    c.over.result (not_passed site at.machine _ at.board.now _ _ place c.over.ensures ready.untried)

pub returns : goal.returns
returns c = λ plan place ready.
    let m = c.args.machine in
    carrying_inside ready c.requires.0 c.if-h-task.false c.if-h-eq1.false c.sent.result _ m.left
    (ap (λ (s : Stage). moved_to m s (m.half + 1) m.other m.left m.depth) c.requires.0) c.sent.ensures

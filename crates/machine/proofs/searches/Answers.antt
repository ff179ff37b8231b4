-- `machine::searches` meets its contract. Assumes nothing.
use mathlib.Core.Path.{sym, ◌∙◌}
use native.Mathlib.Omega.{arith}
use borrow.Author.Tests.{eqb-true, eqb-false}
use Rattle.machine.specs.View.{marks_of}
use Rattle.machine.proofs.Replies.{searches, search_top, search_untried, untried_once_asked, searching_asks, searching_fails}
use Rattle.machine.proofs.searches.Goals as goal

pub returns-then-machine-eq0-clause-steps : goal.returns-then-machine-eq0-clause-steps
returns-then-machine-eq0-clause-steps c = λ plan place ready.
    searching_fails ready c.requires.0 (eqb-true _ _ (sym c.is_empty.ensures ∙ c.if-is_empty.true)) c.releases.result c.if-machine-eq0.true
    (c.releases.ensures plan place ready.made ready.walks ready.untried)

pub returns-then-is_empty-clause-steps : goal.returns-then-is_empty-clause-steps
returns-then-is_empty-clause-steps c = c.gives_up.ensures c.args.task.now c.args.links.now

pub next-y-requires : goal.next-y-requires
next-y-requires c =
    let f = searches c.requires.1.2 c.requires.0 in
    (omega (arith, f.fits.few, f.half), eqb-false _ _ (sym c.is_empty.ensures ∙ c.if-is_empty.false))

pub receives-there-requires : goal.receives-there-requires
receives-there-requires c =
    let f = searches c.requires.1.2 c.requires.0 in
    (omega (arith, f.fits), c.next-y.ensures.few, omega (arith, f.fits.few, f.half), f.deep, c.requires.0)

pub returns-clause-steps : goal.returns-clause-steps
returns-clause-steps c = λ plan place ready.
    let at = c.args in
    let marks = marks_of plan.site at.board.now.rows in
    let y = c.next-y.result in
    let asked = c.next-y.ensures in
    let there = c.receives-there in
    let top = search_top ready c.requires.0 in
    let untried = search_untried ready c.requires.0 in
    let next = asked.next plan marks place ready.made.order top.half untried in
    searching_asks ready c.requires.0 _ next c.sent.result y c.without.result there.result there.new.board asked.across_it
    (there.ensures plan.site ready.made.sink ready.walks
    (untried_once_asked plan marks at.machine.half place _ at.machine.left y _ ready.made.order top.half untried next asked.across_it c.without.ensures))
    c.sent.ensures

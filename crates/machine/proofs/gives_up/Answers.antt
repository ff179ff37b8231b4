-- `machine::gives_up` meets its contract. Assumes nothing.
use mathlib.Core.Path.{refl, ap}
use Prim.Native.Nat.{◌-◌, ◌<◌}
use native.Mathlib.Omega.{arith}
use lib.ListN.{get_or, length}
use Rattle.std.proofs.lemmas.Grind.{get_or_default_zero}
use Rattle.machine.specs.declared.Stage.{Stage}
use Rattle.machine.specs.View.{moved_to, marks_of}
use Rattle.machine.proofs.Replies.{searches, search_top, searching_replies}
use Rattle.machine.proofs.gives_up.Goals as goal

pub bounds-board-below : goal.bounds-board-below
bounds-board-below c = let f = searches c.requires.3.2.2 c.requires.0 in omega arith

pub listed : goal.listed
listed c = omega (arith, (searches c.requires.3.2.2 c.requires.0).asker (c.args.machine.depth - 1) (omega arith))

pub bounds-board-asker : goal.bounds-board-asker
bounds-board-asker c = (searches c.requires.3.2.2 c.requires.0).asker (c.args.machine.depth - 1) (omega arith)

pub after-requires : goal.after-requires
after-requires c =
    let f = searches c.requires.3.2.2 c.requires.0 in
    (omega (arith, f.asker (c.args.machine.depth - 1) (omega arith)), omega (arith, f.fits.few))

pub returns : goal.returns
returns c = λ task links plan place ready.
    let at = c.args in
    let m = at.machine in
    let below = m.depth - 1 in
    let asker = get_or at.board.now.halves below 0 in
    let left = c.after in
    let top = search_top ready c.requires.0 in
    let within : asker < length at.board.now.rows = omega (arith, (searches ready c.requires.0).asker below (omega arith)) in
    searching_replies ready c.requires.0 c.requires.1 c.sent.result below asker left.result m.other _ (omega arith) refl
    (left.ensures plan.site (marks_of plan.site at.board.now.rows) (omega (arith, top.half)) (rw (get_or_default_zero at.board.now.rows asker c.index-board-asker.result within) (ready.walks asker)))
    (ap (λ (s : Stage). moved_to m s asker m.other left.result below) c.requires.0) c.sent.ensures

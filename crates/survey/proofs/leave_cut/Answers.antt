-- `survey::leave_cut` meets its contract. Assumes nothing.
use mathlib.Core.Path.{sym, ◌∙◌}
use native.Mathlib.Omega.{arith}
use lib.ListN.{length-map}
use Rattle.tokens.specs.Run.{item_of, cut_of}
use Rattle.halves.specs.Bytes.{entered_of}
use Rattle.survey.proofs.Tails.{leave_short, leave_full}
use Rattle.survey.proofs.leave_cut.Goals as goal

pub returns-then-count-task : goal.returns-then-count-task
returns-then-count-task c = λ site ps ends held.
    let at = c.args in
    let write = c.write_cut in
    let clear = c.clear_from in
    leave_short (cut_of site (entered_of at.entered.now) ps) at.cut.now write.new.cut clear.new.bytes at.count at.task.now.k (omega arith) (write.ensures site ps ends held)
    (sym (length-map ps (item_of site (entered_of at.entered.now)) ∙ held.number)) c.requires.room clear.ensures

pub returns : goal.returns
returns c = λ site ps ends held.
    let at = c.args in
    let clear = c.clear_from-2 in
    leave_full (cut_of site (entered_of at.entered.now) ps) at.cut.now clear.new.bytes at.count at.task.now.k (omega arith) clear.ensures

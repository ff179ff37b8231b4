-- `machine::receives` meets its contract. Assumes nothing.
use mathlib.Core.Path.{sym, ap, ap₂, ◌∙◌}
use Prim.Native.Nat.{ℕ, ◌+◌}
use Rattle.site.specs.Map.{in_half}
use native.Mathlib.Omega.{arith}
use Rattle.std.proofs.lemmas.Grind.{get_or_default_zero}
use Rattle.machine.specs.declared.Stage.{Stage}
use Rattle.machine.specs.View.{moved_to}
use Rattle.machine.proofs.Replies.{T_receives, entered_receives, new_receives}
use Rattle.machine.proofs.receives.Goals as goal

pub returns-then-y-task : goal.returns-then-y-task
returns-then-y-task c =
    let at = c.args in
    λ site sink walks untried. T_receives site at.machine at.y at.board.now c.enter.new.self (c.if-y-task.true ∙ ap in_half (sym sink)) c.enter.ensures.by_half

pub returns-then-is_entered : goal.returns-then-is_entered
returns-then-is_entered c =
    let at = c.args in
    λ site sink walks untried.
    entered_receives site at.machine at.y at.board.now (λ e. c.if-y-task.false (e ∙ ap in_half sink))
    (sym c.is_entered.ensures ∙ c.if-is_entered.true) untried

pub returns : goal.returns
returns c =
    let at = c.args in
    let m = at.machine in
    let same = get_or_default_zero at.board.now.rows at.y c.index-board-y.result (omega arith) in
    λ site sink walks untried.
    new_receives site m at.y at.board.now _ c.enter-2.new.self c.push.new.halves m.other (λ e. c.if-y-task.false (e ∙ ap in_half sink))
    (sym c.is_entered.ensures ∙ c.if-is_entered.false) c.enter-2.ensures.by_half (c.push.ensures site at.y) walks
    (ap₂ (λ (s : Stage) (left : ℕ). moved_to m s at.y m.other left (m.depth + 1)) c.requires.4 same)

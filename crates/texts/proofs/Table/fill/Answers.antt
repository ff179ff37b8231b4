-- `texts::Table::fill` meets its contract. The loop's invariant: what `Filling` says of the lines passed. Assumes nothing.
use mathlib.Core.Path.{◌≡◌, refl, ap, ◌∙◌}
use Prim.Native.Nat.{ℕ}
use lib.ListN.{replicate, length}
use Rattle.std.proofs.Common.{arith}
use Rattle.std.proofs.lemmas.Grind.{common_steps}
use Rattle.texts.specs.Table.{TableCells}
use Rattle.texts.proofs.Tables.{zeros_taken, filling_none, filled_fault, filling_more, filled}
use Rattle.texts.proofs.Table.fill.Goals as goal

pub loop-line-init : goal.loop-line-init
loop-line-init c = let zeros : c.fill.new.self ≡ replicate (length c.self.inside.cells) 0 = grind (arith, common_steps) in
    let all = zeros ∙ ap (λ (room : ℕ). replicate room 0) c.self.told in
    (ap (λ (t : TableCells). t.n) c.self.view_is, filling_none c.args.lines.now c.self.inside.n (zeros_taken c.self.inside.n c.self.invariant all))

pub returns-then-not-add_line : goal.returns-then-not-add_line
returns-then-not-add_line c = let l = c.loop-line.invariant in
    let added = c.if-not-add_line.ensures in
    (added.0 ∙ l.0, rw (← l.0) (filled_fault l.1 c.in-Some.ensures c.line_of.ensures added.1 refl))

pub loop-line-preserved : goal.loop-line-preserved
loop-line-preserved c = let l = c.loop-line.invariant in
    let added = c.if-not-add_line.ensures in
    (added.0 ∙ l.0, rw added.0 (filling_more l.1 c.in-Some.ensures c.line_of.ensures added.1 refl))

pub returns : goal.returns
returns c = let l = c.loop-line.invariant in (l.0, rw (← l.0) (filled l.1 c.in_default.ensures))

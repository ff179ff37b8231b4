-- `checks::Table::first_bad` meets its contract. Assumes nothing.
use mathlib.Core.Path.{◌≡◌, sym, ap, ◌∙◌}
use native.Mathlib.Omega.{arith}
use Rattle.std.specs.Prelude.{is_err}
use Rattle.checks.proofs.Scan.{tested, found_bad, found_none}
use Rattle.checks.proofs.Table.first_bad.Goals as goal

pub returns-after-rows : goal.returns-after-rows
returns-after-rows c =
    let end : c.rows.i ≡ c.args.self.n = omega arith in
    c.rows.invariant.1 ∙ sym (found_none c.args.self.cells.now c.args.self.n (rw end at c.rows.invariant.2))

pub returns-then-is_err : goal.returns-then-is_err
returns-then-is_err c =
    let here = tested c.args.self.cells.now c.args.self.n c.rows.i c.loop-j.j _ _ _ c.place-place.ensures.0 c.cell.ensures c.cell-in-loop-j.ensures c.judge_cell-found.ensures in
    let bad = ap is_err here ∙ sym c.is_err.ensures.value ∙ c.if-is_err.true in
    sym (found_bad c.args.self.cells.now c.args.self.n c.rows.i c.loop-j.j c.args.self.square.0 c.loop-j.invariant.0 c.loop-j-test.true (omega arith) c.loop-j.invariant.3 bad ∙ here)

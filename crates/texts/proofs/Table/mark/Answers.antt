-- `texts::Table::mark` meets its contract. Assumes nothing.
use mathlib.Core.Path.{◌≡◌, refl, subst}
use mathlib.Core.Bool.{true}
use Prim.Native.Nat.{◌*◌}
use lib.ListN.{set, take}
use Rattle.texts.specs.Table.{TableCells, Marked}
use Rattle.texts.proofs.Tables.{marked}
use Rattle.texts.proofs.Table.mark.Goals as goal

pub returns : goal.returns
returns c = let t = c.self.inside in
    subst (λ (was : TableCells). (t.n ≡ was.n) × Marked was.n c.args.u c.args.v was.cells (take (t.n * t.n) (set (set t.cells c.place-cell.result 1) c.place-mirror.result 1)) true)
    c.self.view_is (refl, marked t.n c.args.u c.args.v t.cells c.place-cell.ensures c.place-mirror.ensures c.if-self-cell-eq1.false)

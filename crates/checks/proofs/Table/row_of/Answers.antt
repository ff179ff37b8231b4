-- `checks::Table::row_of` meets its contract. Assumes nothing.
use mathlib.Core.Path.{ap, ◌∙◌}
use mathlib.Core.Bool.{Bool, not, ◌&&◌}
use lib.Dec.{eqb}
use Rattle.checks.proofs.Cells.{linked_cut}
use Rattle.checks.proofs.Table.row_of.Goals as goal

pub returns : goal.returns
returns c = λ j.
    c.without.ensures j ∙ ap (λ (b : Bool). not (eqb j c.args.i) && b) (c.ones.ensures j)
    ∙ linked_cut c.args.self.cells.now c.args.self.n c.args.i c.place-start.result c.place-start.ensures.0 c.args.self.square.1 c.requires.i_lt_n j

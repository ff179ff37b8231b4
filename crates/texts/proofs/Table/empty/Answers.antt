-- `texts::Table::empty` meets its contract. Assumes nothing.
use mathlib.Core.Path.{refl, ap}
use mathlib.Core.List.{List}
use Prim.Native.Nat.{ℕ}
use Rattle.texts.proofs.Tables.{zeros_taken}
use Rattle.texts.proofs.Table.empty.Goals as goal

pub returns : goal.returns
returns c = ap (λ (cells : List ℕ). record { n = c.args.n; cells = cells }) (zeros_taken c.args.n c.requires refl)

-- `sheet_lines::lent::copy_sheet` meets its contract. Assumes nothing.
use mathlib.Core.Path.{ap, ◌∙◌}
use native.Mathlib.Omega.{arith}
use lib.ListN.{length}
use Rattle.sheet_lines.proofs.Writing.{copied}
use Rattle.sheet_lines.proofs.lent.copy_sheet.Goals as goal

pub returns : goal.returns
returns g c =
    let is = c.as_bytes-bytes.ensures.bytes in
    copied c.args.out.now c.args.at _ (c.copy_from_slice.ensures.after ∙ is) (omega (arith, ap length is)) (omega (arith, ap length is))

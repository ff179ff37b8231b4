-- `sheet_lines::lent::put_refused` meets its contract. Assumes nothing.
use mathlib.Core.Path.{ap}
use native.Mathlib.Omega.{arith}
use lib.ListN.{length}
use Rattle.std.proofs.Common.{rules}
use Rattle.sheet_lines.proofs.Room.{refused_alone}
use Rattle.sheet_lines.proofs.Writing.{has_room, alone, line_written}
use Rattle.sheet_lines.proofs.lent.put_refused.Goals as goal

pub put_refused-requires : goal.put_refused-requires
put_refused-requires c = (search rules, has_room c.new-refusal.ensures _ (refused_alone _ _ (omega arith) (omega arith)))

pub copy_sheet-requires : goal.copy_sheet-requires
copy_sheet-requires c = (search rules, omega (arith, ap length (alone c.new-refusal.ensures c.put_refused.ensures)))

pub returns : goal.returns
returns c = line_written c.new-refusal.ensures c.put_refused.ensures c.copy_sheet.ensures

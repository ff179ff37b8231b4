-- `sheet_lines::lent::put_report` meets its contract. Assumes nothing.
use mathlib.Core.Path.{ap}
use native.Mathlib.Omega.{arith}
use lib.ListN.{length}
use Rattle.std.proofs.Common.{rules}
use Rattle.sheet_lines.proofs.Room.{report_alone}
use Rattle.sheet_lines.proofs.Writing.{has_room, alone, line_written}
use Rattle.sheet_lines.proofs.lent.put_report.Goals as goal

pub put_report-requires : goal.put_report-requires
put_report-requires c = (search rules, has_room c.new-report.ensures _ (report_alone _ _ _ _ _ (omega arith) (omega arith) (omega arith) (omega arith)))

pub copy_sheet-requires : goal.copy_sheet-requires
copy_sheet-requires c = (search rules, omega (arith, ap length (alone c.new-report.ensures c.put_report.ensures)))

pub returns : goal.returns
returns c = line_written c.new-report.ensures c.put_report.ensures c.copy_sheet.ensures

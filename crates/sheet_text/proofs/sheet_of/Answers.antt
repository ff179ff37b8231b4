-- `sheet_text::sheet_of` meets its contract: the parts of the sheet have room one after the other. Assumes nothing.
use Rattle.std.proofs.Common.{rules}
use Rattle.sheet_text.proofs.Found.{refused_room, refused_sheet, listed, report_room, paths_room, full_sheet, items_room, short_sheet}
use Rattle.sheet_text.proofs.sheet_of.Goals as goal

pub put_refused-requires : goal.put_refused-requires
put_refused-requires c = (search rules, refused_room c.requires.1 c.new-sheet.ensures)

pub returns-then-outcome-ne0 : goal.returns-then-outcome-ne0
returns-then-outcome-ne0 c = λ survey delivered. refused_sheet delivered c.new-sheet.ensures c.if-outcome-ne0.true c.put_refused.ensures

pub put_report-requires : goal.put_report-requires
put_report-requires c = (search rules, report_room c.requires.1 c.type_inv.paths c.type_inv.cut c.new-sheet.ensures)

pub put_paths-requires : goal.put_paths-requires
put_paths-requires c = (search rules, paths_room c.requires.1 c.type_inv.paths c.type_inv.cut c.new-sheet.ensures c.put_report.ensures)

pub put_cut-requires : goal.put_cut-requires
put_cut-requires c =
    let found = c.requires.1 in
    (search rules, items_room found c.type_inv.paths c.type_inv.cut c.new-sheet.ensures c.put_report.ensures (c.put_paths.ensures _ (listed found)) c.if-not-all.true)

pub returns-then-not-all : goal.returns-then-not-all
returns-then-not-all c = λ survey delivered.
    short_sheet delivered c.type_inv.paths c.type_inv.cut c.new-sheet.ensures c.put_report.ensures (c.put_paths.ensures _ (listed delivered)) c.if-not-all.true c.if-outcome-ne0.false c.put_cut.ensures

pub returns-else-not-all : goal.returns-else-not-all
returns-else-not-all c = λ survey delivered.
    full_sheet delivered c.type_inv.paths c.type_inv.cut c.new-sheet.ensures c.put_report.ensures (c.put_paths.ensures _ (listed delivered)) c.if-outcome-ne0.false c.if-not-all.false

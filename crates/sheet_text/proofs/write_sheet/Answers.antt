-- `sheet_text::write_sheet` meets its contract. Assumes nothing.
use mathlib.Core.Path.{ap, ◌∙◌}
use native.Mathlib.Omega.{arith}
use lib.ListN.{length}
use borrow.Author.Tests.{le-ltb}
use Rattle.sheet_text.specs.Sheet.{sheet, sheet_room}
use Rattle.sheet_text.proofs.Found.{rest_cleared}
use Rattle.sheet_text.proofs.write_sheet.Goals as goal

pub returns-clause-value : goal.returns-clause-value
unfolding sheet
returns-clause-value c =
    let roomy = le-ltb _ sheet_room c.if-out-lt-SHEET_ROOM.false in
    rw roomy (ap length (c.as_bytes-bytes.ensures.bytes ∙ c.sheet_of-sheet.ensures _ c.survey_text-found.ensures))

pub returns-clause-out_after : goal.returns-clause-out_after
unfolding sheet
returns-clause-out_after c =
    let roomy = le-ltb _ sheet_room c.if-out-lt-SHEET_ROOM.false in
    let is = c.as_bytes-bytes.ensures.bytes ∙ c.sheet_of-sheet.ensures _ c.survey_text-found.ensures in
    rw roomy (rest_cleared c.args.out.now c.clear_from.ensures (c.copy_from_slice.ensures.after ∙ is) (ap length is) (omega arith))

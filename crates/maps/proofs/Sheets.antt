-- The sheet of specs/Sheets.antt is that of its text, computed. Assumes nothing.
use Rattle.std.proofs.Common.{◌≡◌, refl}
use Rattle.sheet_text.specs.Sheet.{sheet}
use Rattle.maps.specs.Sheets.{text_of_q, sheet_of_q}
use Rattle.maps.proofs.Computed.{sheet_computes}

pub sheet-of-Q : sheet text_of_q ≡ sheet_of_q
unfolding sheet_computes
sheet-of-Q = refl

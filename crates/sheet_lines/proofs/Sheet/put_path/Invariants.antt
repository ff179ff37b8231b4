-- `sheet_lines::Sheet::put_path` meets its contract. The loop's invariant: the fields of the radios not passed are left of the line. Assumes nothing.
use mathlib.Core.List.{[], ◌∷◌}
use lib.ListN.{drop}
use Rattle.sheet_lines.specs.Lines.{ended, radio_fields, path_lines}
use Rattle.sheet_lines.proofs.Left.{Left}
use Rattle.sheet_lines.proofs.Sheet.put_path.Given as goal

abbrev pub invariant-loop-radio : goal.invariant-loop-radio
invariant-loop-radio g l = Left l.fn.self (path_lines l.number (l.radios ∷ []) []) l.self (radio_fields (drop l.radio-index l.radios) (ended []))

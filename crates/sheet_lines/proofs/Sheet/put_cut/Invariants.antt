-- `sheet_lines::Sheet::put_cut` meets its contract. The loop's invariant: the lines of the items not passed are left of the list. Assumes nothing.
use Prim.Native.Nat.{◌+◌}
use lib.ListN.{drop}
use Rattle.sheet_lines.specs.Lines.{cut_lines}
use Rattle.sheet_lines.proofs.Left.{Left}
use Rattle.sheet_lines.proofs.Sheet.put_cut.Given as goal

abbrev pub invariant-loop-i : goal.invariant-loop-i
invariant-loop-i g l = Left l.initial.self (cut_lines 1 l.items) l.self (cut_lines (l.i + 1) (drop l.i l.items))

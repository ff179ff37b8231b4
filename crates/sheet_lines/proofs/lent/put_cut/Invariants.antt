-- `sheet_lines::lent::put_cut` meets its contract. The loop's invariant: the lines of the items not passed are left to be written. Assumes nothing.
use Prim.Native.Nat.{◌+◌}
use lib.ListN.{take, drop}
use Rattle.sheet_lines.specs.Lines.{cut_lines}
use Rattle.sheet_lines.proofs.Writing.{PartWritten}
use Rattle.sheet_lines.proofs.lent.put_cut.Given as goal

abbrev pub invariant-loop-i : goal.invariant-loop-i
invariant-loop-i l = PartWritten l.initial.out l.out l.at (cut_lines 1 (take l.count l.items)) (cut_lines (l.i + 1) (drop l.i (take l.count l.items))) l.next

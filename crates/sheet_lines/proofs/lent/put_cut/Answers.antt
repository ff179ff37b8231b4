-- `sheet_lines::lent::put_cut` meets its contract. The loop's invariant: the lines of the items not passed are left to be written. Assumes nothing.
use native.Mathlib.Omega.{arith}
use lib.ListN.{take}
use Rattle.std.proofs.Common.{rules}
use Rattle.sheet_lines.specs.Lines.{cut_lines}
use Rattle.sheet_lines.proofs.Lines.{next_item, no_item}
use Rattle.sheet_lines.proofs.Room.{item_alone}
use Rattle.sheet_lines.proofs.Writing.{partly_none, partly_all, has_room, line_room, line_more}
use Rattle.sheet_lines.proofs.lent.put_cut.Goals as goal

pub loop-i-init : goal.loop-i-init
loop-i-init c = partly_none c.args.out.now c.args.at (cut_lines 1 (take c.args.count c.args.items.now)) (omega arith)

pub put_item-requires : goal.put_item-requires
put_item-requires c = (search rules, has_room c.new-item_line.ensures _ (item_alone _ _ (omega arith) (omega arith)))

pub copy_sheet-next-requires : goal.copy_sheet-next-requires
copy_sheet-next-requires c =
    let taken = take c.args.count c.args.items.now in
    (search rules, line_room c.new-item_line.ensures c.put_item.ensures c.loop-i.invariant (next_item taken c.loop-i.i (omega arith)) c.requires.in_bounds)

pub loop-i-preserved : goal.loop-i-preserved
loop-i-preserved c =
    let taken = take c.args.count c.args.items.now in
    line_more c.new-item_line.ensures c.put_item.ensures c.loop-i.invariant (next_item taken c.loop-i.i (omega arith)) c.copy_sheet-next.ensures

pub returns : goal.returns
returns c = partly_all c.loop-i.invariant (no_item (take c.args.count c.args.items.now) c.loop-i.i (omega arith))

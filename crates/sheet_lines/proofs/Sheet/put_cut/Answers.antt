-- `sheet_lines::Sheet::put_cut` meets its contract. The loop's invariant: the lines of the items not passed are left of the list. Assumes nothing.
use native.Mathlib.Omega.{arith}
use Rattle.std.proofs.Common.{rules}
use Rattle.sheet_lines.proofs.Lines.{next_item, no_item}
use Rattle.sheet_lines.proofs.Left.{room_first, rest_left, none_left}
use Rattle.sheet_lines.proofs.Sheet.put_cut.Goals as goal

pub put_item-requires : goal.put_item-requires
put_item-requires g c = (search rules, room_first c.loop-i.invariant (next_item c.args.items.now c.loop-i.i (omega arith)) c.requires)

pub loop-i-preserved : goal.loop-i-preserved
loop-i-preserved g c = rest_left c.loop-i.invariant (next_item c.args.items.now c.loop-i.i (omega arith)) c.put_item.ensures

pub returns : goal.returns
returns g c = none_left c.loop-i.invariant (no_item c.args.items.now c.loop-i.i (omega arith))

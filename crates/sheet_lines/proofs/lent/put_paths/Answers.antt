-- `sheet_lines::lent::put_paths` meets its contract. The loop's invariant: path number i stands at `place`, and the lines of the paths not passed are
-- left to be written. Assumes nothing.
use mathlib.Core.List.{[]}
use native.Mathlib.Omega.{arith}
use Rattle.std.proofs.Common.{rules}
use Rattle.path_lists.proofs.Walking.{at_front, path_inside, path_stands}
use Rattle.sheet_lines.specs.Lines.{path_lines}
use Rattle.sheet_lines.proofs.Lines.{next_path, no_path}
use Rattle.sheet_lines.proofs.Room.{path_alone, small_bytes}
use Rattle.sheet_lines.proofs.Writing.{partly_none, partly_all, has_room, line_room, line_more}
use Rattle.sheet_lines.proofs.lent.put_paths.Goals as goal

pub loop-i-init : goal.loop-i-init
loop-i-init c = λ paths held. (at_front paths, partly_none c.args.out.now c.args.at (path_lines 1 paths []) (omega arith))

pub path_at-path-requires : goal.path_at-path-requires
path_at-path-requires c =
    let p = c.requires in
    path_inside p.listed c.loop-i.i c.loop-i.place (omega arith) (c.loop-i.invariant p.paths p.listed).0

-- ---- a path of a list has at most 255 radios

pub put_path-requires : goal.put_path-requires
put_path-requires c =
    (search rules, has_room c.new-path_line.ensures _ (path_alone _ _ (omega arith) (omega (arith, c.type_inv.list c.loop-i.place)) (small_bytes _ c.type_inv.path)))

-- ---- the path that the loop has come to stands in the list

pub copy_sheet-next-requires : goal.copy_sheet-next-requires
copy_sheet-next-requires c =
    let p = c.requires in
    let l = c.loop-i in
    let here = path_stands p.listed l.i l.place (omega arith) (l.invariant p.paths p.listed).0 c.path_at-path.ensures.radios in
    (search rules, line_room c.new-path_line.ensures c.put_path.ensures (l.invariant p.paths p.listed).1 (next_path p.paths l.i (omega (arith, p.listed.number)) here.radios) p.room)

pub loop-i-preserved : goal.loop-i-preserved
loop-i-preserved c = λ paths held.
    let l = c.loop-i in
    let here = path_stands held l.i l.place (omega arith) (l.invariant paths held).0 c.path_at-path.ensures.radios in (
      omega (arith, here.next),
      line_more c.new-path_line.ensures c.put_path.ensures (l.invariant paths held).1 (next_path paths l.i (omega (arith, held.number)) here.radios) c.copy_sheet-next.ensures,
    )

pub returns : goal.returns
returns c = λ paths held. partly_all (c.loop-i.invariant paths held).1 (no_path paths c.loop-i.i (omega (arith, held.number)))

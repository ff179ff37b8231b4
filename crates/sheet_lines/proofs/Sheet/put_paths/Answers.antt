-- `sheet_lines::Sheet::put_paths` meets its contract. The loop's invariant: path number i stands at `place`, and the lines of the paths not passed are
-- left of the list. Assumes nothing.
use mathlib.Core.Path.{refl}
use native.Mathlib.Omega.{arith}
use Rattle.std.proofs.Common.{rules}
use Rattle.path_lists.proofs.Walking.{at_front, path_inside, path_stands}
use Rattle.sheet_lines.proofs.Lines.{next_path, no_path}
use Rattle.sheet_lines.proofs.Left.{room_first, rest_left, none_left}
use Rattle.sheet_lines.proofs.Sheet.put_paths.Goals as goal

pub loop-i-init : goal.loop-i-init
loop-i-init g c = λ paths held. (at_front paths, record { whole = refl })

pub path_at-path-requires : goal.path_at-path-requires
path_at-path-requires g c =
    let p = c.requires in
    path_inside p.listed c.loop-i.i c.loop-i.place (omega arith) (c.loop-i.invariant p.paths p.listed).0

pub put_path-requires : goal.put_path-requires
put_path-requires g c =
    let p = c.requires in
    let l = c.loop-i in
    let here = path_stands p.listed l.i l.place (omega arith) (l.invariant p.paths p.listed).0 c.path_at-path.ensures.radios in
    (search rules, room_first (l.invariant p.paths p.listed).1 (next_path p.paths l.i (omega (arith, p.listed.number)) here.radios) p.room)

pub loop-i-preserved : goal.loop-i-preserved
loop-i-preserved g c = λ paths held.
    let l = c.loop-i in
    let here = path_stands held l.i l.place (omega arith) (l.invariant paths held).0 c.path_at-path.ensures.radios in
    (omega (arith, here.next), rest_left (l.invariant paths held).1 (next_path paths l.i (omega (arith, held.number)) here.radios) c.put_path.ensures)

pub returns : goal.returns
returns g c = λ paths held. none_left (c.loop-i.invariant paths held).1 (no_path paths c.loop-i.i (omega (arith, held.number)))

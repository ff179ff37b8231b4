-- `sheet_lines::Sheet::put_path` meets its contract. The loop's invariant: the fields of the radios not passed are left of the line. Assumes nothing.
use mathlib.Core.Path.{refl}
use mathlib.Core.List.{[]}
use native.Mathlib.Omega.{arith}
use Rattle.std.proofs.Common.{rules}
use Rattle.sheet_lines.specs.Lines.{ended}
use Rattle.sheet_lines.proofs.Lines.{next_radio, no_radio}
use Rattle.sheet_lines.proofs.Left.{room_first, rest_left, none_left}
use Rattle.sheet_lines.proofs.Sheet.put_path.Goals as goal

pub put_number-requires-in-loop-radio : goal.put_number-requires-in-loop-radio
put_number-requires-in-loop-radio g c = (search rules, room_first c.loop-radio.invariant (next_radio c.args.radios.now c.loop-radio.radio-index (ended []) (omega arith)) c.requires)

pub loop-radio-preserved : goal.loop-radio-preserved
loop-radio-preserved g c = rest_left c.loop-radio.invariant (next_radio c.args.radios.now c.loop-radio.radio-index (ended []) (omega arith)) c.put_number-in-loop-radio.ensures

-- ---- after the last radio the end of the line is left

pub end_line-requires : goal.end_line-requires
end_line-requires g c = (search rules, room_first c.loop-radio.invariant (no_radio c.args.radios.now c.loop-radio.radio-index (ended []) (omega arith)) c.requires)

pub returns : goal.returns
returns g c = none_left (rest_left c.loop-radio.invariant (no_radio c.args.radios.now c.loop-radio.radio-index (ended []) (omega arith)) c.end_line.ensures) refl

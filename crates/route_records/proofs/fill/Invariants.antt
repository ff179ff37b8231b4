-- The invariant of `route_records::fill`'s loop: the first v records are set and the others stay.
use mathlib.Core.Path.{◌≡◌}
use mathlib.Core.List.{◌++◌}
use lib.ListN.{take, drop}
use Rattle.route_records.proofs.fill.Given as goal

abbrev pub invariant-loop-v : goal.invariant-loop-v
invariant-loop-v l = l.routes ≡ take l.v l.records ++ drop l.v l.initial.routes

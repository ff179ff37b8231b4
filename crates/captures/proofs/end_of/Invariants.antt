use Rattle.std.proofs.Common.{length, ◌-◌, ◌≤◌}
use Rattle.captures.proofs.Pieces.{Passed}
use Rattle.captures.proofs.end_of.Given as goal

abbrev pub invariant-loop-place : goal.invariant-loop-place
invariant-loop-place l = (l.place ≤ length l.bytes) × Passed l.separator l.bytes l.place

abbrev pub decreases-loop-place : goal.decreases-loop-place
decreases-loop-place l = length l.bytes - l.place

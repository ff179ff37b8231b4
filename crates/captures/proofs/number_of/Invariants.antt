-- `captures::number_of` meets its contract. The loop's invariant: what `NumberRead` says of the bytes passed. Assumes nothing.
use Rattle.captures.proofs.Fields.{NumberRead}
use Rattle.captures.proofs.number_of.Given as goal

abbrev pub invariant-loop-digit : goal.invariant-loop-digit
invariant-loop-digit l = NumberRead l.field l.value l.digit-index

-- `texts::first_wrong` meets its contract. The loop's invariant: what `PassedWithin` says of the lines passed. Assumes nothing.
use lib.ListN.{length}
use Rattle.texts.proofs.Lines.{PassedWithin}
use Rattle.texts.proofs.first_wrong.Given as goal

abbrev pub invariant-loop-line : goal.invariant-loop-line
invariant-loop-line l = PassedWithin l.text l.left l.number

abbrev pub decreases-loop-line : goal.decreases-loop-line
decreases-loop-line l = length l.left

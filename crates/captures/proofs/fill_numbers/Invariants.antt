-- `captures::fill_numbers` meets its contract. The loop's invariant: what `NumbersRead` says of the fields passed. Assumes nothing.
use Rattle.captures.proofs.Numbers.{fields_left, NumbersRead}
use Rattle.captures.proofs.fill_numbers.Given as goal

abbrev pub invariant-loop-number : goal.invariant-loop-number
invariant-loop-number l = NumbersRead l.text (fields_left l.fields) l.number-items l.number-index

-- `captures::split_at_first` meets its contract. Assumes nothing.
use mathlib.Core.Path.{sym, ◌∙◌}
use native.Mathlib.Omega.{arith}
use Rattle.captures.proofs.Pieces.{told_place, nowhere, parted_at, parted_none}
use Rattle.captures.proofs.split_at_first.Goals as goal

pub returns-then-place-bytes : goal.returns-then-place-bytes
returns-then-place-bytes c = parted_none c.args.separator c.args.bytes.now (nowhere c.args.separator c.args.bytes.now (sym c.if-place-bytes.true ∙ c.end_of-place.ensures.first))

pub returns : goal.returns
returns c =
    parted_at c.args.separator c.args.bytes.now c.end_of-place.result
    (told_place c.args.separator c.args.bytes.now c.end_of-place.result c.end_of-place.ensures.first (omega (arith, c.end_of-place.ensures.within, c.if-place-bytes.false)))

-- `captures::head_of` meets its contract. Assumes nothing.
use mathlib.Core.Path.{sym, ap, ◌∙◌}
use borrow.Author.Tests.{not-true, not-false}
use Rattle.std.proofs.Common.{option_map}
use Rattle.captures.specs.Words.{net}
use Rattle.captures.proofs.Shapes.{net_of, word_is, word_is_not, head_whole, head_net, head_other}
use Rattle.captures.proofs.head_of.Goals as goal

pub returns-in_err-word : goal.returns-in_err-word
returns-in_err-word c = c.from_residual.ensures ∙ sym (head_whole _ c.in_err-word.ensures)

pub returns-then-ne : goal.returns-then-ne
returns-then-ne c = let b = not-true _ (sym c.ne.ensures ∙ c.if-ne.true) in sym (head_other c.in_ok-word.ensures (word_is_not _ net c.as_slice.ensures b))

pub returns-in_err-capture : goal.returns-in_err-capture
returns-in_err-capture c = let b = not-false _ (sym c.ne.ensures ∙ c.if-ne.false) in
    c.from_residual-in_err-capture.ensures ∙ sym (head_net c.in_ok-word.ensures (word_is _ net c.as_slice.ensures b) ∙ ap (option_map net_of) (sym c.in_err-capture.ensures))

pub returns : goal.returns
returns c = let b = not-false _ (sym c.ne.ensures ∙ c.if-ne.false) in
    sym (head_net c.in_ok-word.ensures (word_is _ net c.as_slice.ensures b) ∙ ap (option_map net_of) (sym c.in_ok-capture.ensures))

-- `captures::line_of` meets its contract. Assumes nothing.
use mathlib.Core.Path.{sym, ap, ◌∙◌}
use Rattle.std.proofs.Common.{option_map}
use Rattle.captures.specs.Words.{link, hand}
use Rattle.captures.proofs.Shapes.{link_of, hand_of, word_is, word_is_not, line_whole, line_link, line_hand, line_other}
use Rattle.captures.proofs.line_of.Goals as goal

pub returns-in_err-word : goal.returns-in_err-word
returns-in_err-word c = c.from_residual.ensures ∙ sym (line_whole _ c.in_err-word.ensures)

pub returns-in_err-u : goal.returns-in_err-u
returns-in_err-u c = let is = word_is _ link c.as_slice.ensures (sym c.eq.ensures ∙ c.if-eq.true) in
    c.from_residual-in_err-u.ensures ∙ sym (line_link c.in_ok-word.ensures is ∙ ap (option_map link_of) (sym c.in_err-u.ensures))

pub returns-then-eq : goal.returns-then-eq
returns-then-eq c = let is = word_is _ link c.as_slice.ensures (sym c.eq.ensures ∙ c.if-eq.true) in
    sym (line_link c.in_ok-word.ensures is ∙ ap (option_map link_of) (sym c.in_ok-u.ensures))

pub returns-in_err-v : goal.returns-in_err-v
returns-in_err-v c = let is = word_is _ hand c.as_slice-2.ensures (sym c.eq-2.ensures ∙ c.if-eq-2.true) in
    c.from_residual-in_err-v.ensures ∙ sym (line_hand c.in_ok-word.ensures is ∙ ap (option_map hand_of) (sym c.in_err-v.ensures))

pub returns-then-eq-2 : goal.returns-then-eq-2
returns-then-eq-2 c = let is = word_is _ hand c.as_slice-2.ensures (sym c.eq-2.ensures ∙ c.if-eq-2.true) in
    sym (line_hand c.in_ok-word.ensures is ∙ ap (option_map hand_of) (sym c.in_ok-v.ensures))

pub returns : goal.returns
returns c = sym (line_other c.in_ok-word.ensures (word_is_not _ link c.as_slice.ensures (sym c.eq.ensures ∙ c.if-eq.false)) (word_is_not _ hand c.as_slice-2.ensures (sym c.eq-2.ensures ∙ c.if-eq-2.false)))

-- `openings::inside` meets its contract. Assumes nothing.
use mathlib.Core.Path.{sym, ◌∙◌}
use mathlib.Core.Bool.{and-true, and-false, or-false}
use Rattle.radios.proofs.Laws.{member-empty}
use Rattle.openings.proofs.inside.Goals as goal

pub returns-then-not-has : goal.returns-then-not-has
returns-then-not-has c = λ v. rw c.none.ensures (member-empty v ∙ sym (simp (sym c.if-not-has.ensures, and-false)))

pub returns : goal.returns
returns c = λ v. c.with.ensures v ∙ rw c.none-2.ensures (simp (member-empty v, sym c.if-not-has.ensures, and-true, or-false))

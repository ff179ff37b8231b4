-- `captures::number_of` meets its contract. The loop's invariant: what `NumberRead` says of the bytes passed. Assumes nothing.
use mathlib.Core.Path.{◌≡◌, sym, ◌∙◌}
use mathlib.Core.Bool.{true, not, ◌||◌, or-true}
use native.Mathlib.Omega.{arith}
use lib.Dec.{eqb}
use lib.ListN.{length, get_or, drop_of_length-le}
use borrow.Author.Tests.{eq-eqb, ne_eqb}
use Rattle.std.proofs.Common.{rules, tests}
use Rattle.captures.proofs.Fields.{digit_told, read_more, no_digit, too_large, all_read, no_bytes, leading_zero}
use Rattle.captures.proofs.number_of.Goals as goal
use Rattle.captures.proofs.number_of.Goals.{else-field-gt1-via-then-field-gt1+else-field-eq48, else-field-gt1-via-else-field-gt1}

pub returns-then-is_empty : goal.returns-then-is_empty
returns-then-is_empty c = sym (no_bytes c.args.field.now (search (rules, tests)))

pub returns-then-field-eq48 : goal.returns-then-field-eq48
returns-then-field-eq48 c = sym (leading_zero _ (λ e. omega arith) (eq-eqb _ _ c.if-field-eq48.true))

pub returns-then-not-is_ascii_digit : goal.returns-then-not-is_ascii_digit
returns-then-not-is_ascii_digit c = let l = c.loop-digit in
    let x = get_or c.args.field.now l.digit-index 0 in
    sym (no_digit _ l.value l.digit-index l.invariant (omega arith) (sym (digit_told x) ∙ sym c.is_ascii_digit.ensures.value ∙ c.if-not-is_ascii_digit.true))

pub returns-then-value-gt-MOST_NUMBER : goal.returns-then-value-gt-MOST_NUMBER
returns-then-value-gt-MOST_NUMBER c = let l = c.loop-digit in
    sym (too_large _ l.value l.digit-index l.invariant (omega arith) (omega arith))

pub loop-digit-preserved : goal.loop-digit-preserved
loop-digit-preserved c = let l = c.loop-digit in
    let x = get_or c.args.field.now l.digit-index 0 in
    read_more _ l.value l.digit-index l.invariant (omega arith) (sym (digit_told x) ∙ sym c.is_ascii_digit.ensures.value ∙ c.if-not-is_ascii_digit.false) (omega arith)

pub returns : goal.returns
returns c = let l = c.loop-digit in
    let field = c.args.field.now in
    let first : (eqb (length field) 1 || not (eqb (get_or field 0 0) 48)) ≡ true = elim c.else-field-gt1.branch [
      | else-field-gt1-via-then-field-gt1+else-field-eq48 w ↦ simp (ne_eqb (get_or field 0 0) 48 w.if-field-eq48.false, or-true)
      | else-field-gt1-via-else-field-gt1 w ↦ simp (eq-eqb (length field) 1 (search (rules, tests)))
    ] in
    sym (all_read field l.value l.digit-index l.invariant (drop_of_length-le field {i = l.digit-index} (omega arith)) (search (rules, tests)) first)

-- `captures::fill_numbers` meets its contract. The loop's invariant: what `NumbersRead` says of the fields passed. Assumes nothing.
use Rattle.std.proofs.Common.{rules, tests, arith, length}
use Rattle.captures.proofs.Numbers.{field_taken, field_none, all_left, none_read, read_one_more, field_lacks, field_wrong, field_too_many, all_numbers_read}
use Rattle.captures.proofs.fill_numbers.Goals as goal

pub loop-number-init : goal.loop-number-init
loop-number-init c = let split = c.split-fields in none_read c.args.text.now c.args.numbers.now (all_left split.result split.ensures.rest split.ensures.done)

pub returns-in_err-next : goal.returns-in_err-next
returns-in_err-next c = rw c.from_residual.ensures
    (field_lacks c.loop-number.invariant (length c.args.numbers.now) (field_none c.loop-number.fields c.in_err-next.ensures.steps.0) (omega arith))

pub returns-in_err-number : goal.returns-in_err-number
returns-in_err-number c = rw c.from_residual-in_err-number.ensures
    (field_wrong c.loop-number.invariant (length c.args.numbers.now)
    (field_taken _ c.loop-number.fields c.next.new.self c.in_ok-next.field-0 (λ x b q k. search (rules, tests)) c.in_ok-next.ensures.steps) c.in_err-number.ensures)

pub loop-number-preserved : goal.loop-number-preserved
loop-number-preserved c = read_one_more c.loop-number.invariant
    (field_taken _ c.loop-number.fields c.next.new.self c.in_ok-next.field-0 (λ x b q k. search (rules, tests)) c.in_ok-next.ensures.steps) c.in_ok-number.ensures (omega arith)

pub returns-in-Some : goal.returns-in-Some
returns-in-Some c = field_too_many c.loop-number.invariant (length c.args.numbers.now)
    (field_taken _ c.loop-number.fields c.next-2.new.self c.in-Some.field-0 (λ x b q k. search (rules, tests)) c.in-Some.ensures.steps) c.loop-number-test.false

pub returns-in-None : goal.returns-in-None
returns-in-None c = all_numbers_read c.loop-number.invariant (length c.args.numbers.now) (field_none c.loop-number.fields c.in-None.ensures.steps.0) c.loop-number.auto.number-items (omega arith)

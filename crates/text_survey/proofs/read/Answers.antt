-- `text_survey::read` meets its contract: each refusal in its turn, and then the map. Assumes nothing.
use mathlib.Core.Path.{◌≡◌, refl, sym, ap, subst, ◌∙◌}
use mathlib.Core.Bool.{true, false}
use mathlib.Core.List.{List, [], ◌∷◌}
use Prim.Native.Nat.{ℕ}
use Rattle.std.proofs.Common.{Option, Some, None, Ok, Err, MatchOption, ok_or, rules, Bor}
use Rattle.basics.proofs.Bools.{or_left, or_right, or_neither}
use Rattle.refusals.specs.Refusals.{too_few, too_many, no_size}
use Rattle.captures.specs.Words.{line_feed}
use Rattle.captures.specs.Text.{pieces}
use Rattle.captures.specs.Reading.{Parted}
use Rattle.texts.specs.Table.{TableCells, LinesRead}
use Rattle.text_survey.specs.declared.TextFault.{TextFault}
use Rattle.text_survey.specs.declared.TextFault.TheVariants.{WrongShape}
use Rattle.text_survey.proofs.Order.{too_long, wrong_shape, some_line, no_head, wrong_radios, bad_line, the_map}
use Rattle.text_survey.proofs.read.Goals as goal
use Rattle.text_survey.proofs.read.Goals.{then-too_few-via-then-too_few, then-too_few-via-else-too_few+then-too_many}

-- ---- where `ok_or` answers

ok_is : {A E : Type 0} (r : Option A) {x : A} (e : E) → Ok x ≡ ok_or r e → Some x ≡ r
ok_is None e h = cc
ok_is (Some y) e h = cc

err_is : {A E : Type 0} (r : Option A) {f : E} (e : E) → Err f ≡ ok_or r e → (None ≡ r) × (f ≡ e)
err_is None e h = (refl, cc)
err_is (Some y) e h = cc

-- what is said of the first line where it is cut off, and where it is not ended
abbrev Cut : List ℕ → Option (Bor (List ℕ) × Bor (List ℕ)) → Type 0
Cut text r = MatchOption r (pieces line_feed text ≡ text ∷ []) (λ parts. Parted line_feed text parts.0.now parts.1.now)

module _ (text : List ℕ) (r : Option (Bor (List ℕ) × Bor (List ℕ))) (e : TextFault) where
  first_cut : {line rest : Bor (List ℕ)} → Ok (line, rest) ≡ ok_or r e → Cut text r → Parted line_feed text line.now rest.now
  first_cut h said = subst (Cut text) (sym (ok_is r e h)) said

  not_ended : {f : TextFault} → Err f ≡ ok_or r e → Cut text r → pieces line_feed text ≡ text ∷ []
  not_ended h said = subst (Cut text) (sym (err_is r e h).0) said

-- 1 is not against the first line
fine : (n : ℕ) → false ≡ too_few n → false ≡ too_many n → no_size n ≡ false
fine n few many = or_neither (too_few n) (too_many n) (sym few) (sym many)

-- ---- 10, then 9

pub returns-then-text-gt-MOST_BYTES : goal.returns-then-text-gt-MOST_BYTES
returns-then-text-gt-MOST_BYTES c = too_long c.args.text.now c.if-text-gt-MOST_BYTES.true

pub returns-in-Some : goal.returns-in-Some
returns-in-Some c = wrong_shape c.args.text.now c.if-text-gt-MOST_BYTES.false c.in-Some.ensures

-- ---- the first line

pub returns-in_err-line : goal.returns-in_err-line
returns-in_err-line c =
    absurd (some_line c.args.text.now c.if-text-gt-MOST_BYTES.false c.in_default.ensures (not_ended c.args.text.now c.split_at_first.result _ c.in_err-line.ensures.value c.split_at_first.ensures))

pub returns-in_err-first : goal.returns-in_err-first
returns-in_err-first c = let none = err_is c.head_of.result _ c.in_err-first.ensures.value in
    let cut = first_cut c.args.text.now c.split_at_first.result _ c.in_ok-line.ensures.value c.split_at_first.ensures in
    let told : c.from_residual-in_err-first.result ≡ Err (WrongShape 1) = search rules in
    rw told (no_head c.args.text.now c.if-text-gt-MOST_BYTES.false c.in_default.ensures cut (none.0 ∙ c.head_of.ensures))

-- ---- 1, then 11, then the map

pub returns-then-too_few : goal.returns-then-too_few
returns-then-too_few c = let n = c.in_ok-first.first.n in
    let bad : no_size n ≡ true = elim c.then-too_few.branch [
      | then-too_few-via-then-too_few w ↦ or_left (too_few n) (too_many n) (sym c.too_few.ensures ∙ w.if-too_few.true)
      | then-too_few-via-else-too_few+then-too_many w ↦ or_right (too_few n) (too_many n) (sym w.too_many.ensures ∙ w.if-too_many.true)
    ] in
    let cut = first_cut c.args.text.now c.split_at_first.result _ c.in_ok-line.ensures.value c.split_at_first.ensures in
    wrong_radios c.args.text.now c.if-text-gt-MOST_BYTES.false c.in_default.ensures cut (ok_is c.head_of.result _ c.in_ok-first.ensures.value ∙ c.head_of.ensures) bad

pub returns-in-Some-fill : goal.returns-in-Some-fill
returns-in-Some-fill c = let cut = first_cut c.args.text.now c.split_at_first.result _ c.in_ok-line.ensures.value c.split_at_first.ensures in
    let one_n = ap (λ (t : TableCells). t.n) c.empty-table.ensures in
    let read = subst (λ (n : ℕ). LinesRead c.in_ok-line.rest.now n c.fill.new.self.cells (Some c.in-Some-fill.line)) one_n c.in-Some-fill.ensures.1 in
    bad_line c.args.text.now c.if-text-gt-MOST_BYTES.false c.in_default.ensures cut (ok_is c.head_of.result _ c.in_ok-first.ensures.value ∙ c.head_of.ensures)
    (fine c.in_ok-first.first.n c.if-too_few.ensures c.if-too_many.ensures) read.told

pub returns : goal.returns
returns c = let cut = first_cut c.args.text.now c.split_at_first.result _ c.in_ok-line.ensures.value c.split_at_first.ensures in
    let one_n = ap (λ (t : TableCells). t.n) c.empty-table.ensures in
    let read = subst (λ (n : ℕ). LinesRead c.in_ok-line.rest.now n c.fill.new.self.cells None) one_n c.in_default-fill.ensures.1 in
    the_map c.args.text.now c.if-text-gt-MOST_BYTES.false c.in_default.ensures cut (ok_is c.head_of.result _ c.in_ok-first.ensures.value ∙ c.head_of.ensures)
    (fine c.in_ok-first.first.n c.if-too_few.ensures c.if-too_many.ensures) read

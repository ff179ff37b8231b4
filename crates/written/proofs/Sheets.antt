-- The text of a sound map is accepted as a text and gives the sheet of that map, in any order of its lines. Assumes nothing.
use mathlib.Core.Path.{◌≡◌, sym, ap, ◌∙◌}
use mathlib.Core.List.{List, []}
use Prim.Native.Nat.{ℕ, ◌≤◌}
use native.Mathlib.Omega.{arith}
use lib.ListN.{length}
use borrow.Author.Tests.{le-ltb}
use Rattle.std.proofs.Common.{Option, None, Some}
use Rattle.basics.proofs.Lists.{all_follow}
use Rattle.site.specs.Limits.{most_radios}
use Rattle.captures.specs.Text.{most_number}
use Rattle.captures.specs.Capture.{head_of, lines_of, fault_line}
use Rattle.captures.specs.declared.FirstLine.{FirstLine}
use Rattle.captures.specs.declared.Line.{Line}
use Rattle.captures.specs.declared.Line.TheVariants.{Link, Hand}
use Rattle.captures.proofs.Cells.{Ordered}
use Rattle.text_survey.specs.Survey.{most_bytes, survey_for, of_head}
use Rattle.sheet_text.specs.Sheet.{sheet_of, sheet}
use Rattle.written.specs.Writing.{capture_text, lines_in}
use Rattle.written.specs.Reading.{first_line, other_lines, Sayable, ReadBack, WritableMap, GoodText, SameLines}
use Rattle.written.proofs.AnyOrder.{sheet-read, same-lines-same-sheet}
use Rattle.written.proofs.ReadBack.{read_back}
use Rattle.written.proofs.MapBack.{as_said, map_read_back, lines_ordered}

module _ (first : FirstLine) (table : List ℕ) (map : WritableMap first.n table) (a : first.capture ≤ most_number) (b : first.s ≤ most_number) (c : first.t ≤ most_number) (d : first.k ≤ most_number) where
  -- radios below n are numbers that a text may say
  sayable : (line : Line) → Ordered first.n (Some line) → Sayable line
  sayable (Hand v) ord = omega (arith, map.few_radios, ord)
  sayable (Link u v) ord = (omega (arith, map.few_radios, ord.0, ord.1), omega (arith, map.few_radios, ord.1))

  read : ReadBack (capture_text first (lines_in first.n table)) first (lines_in first.n table)
  read =
      read_back first (lines_in first.n table) a (omega (arith, map.few_radios)) b c d
      (all_follow _ Sayable sayable (lines_in first.n table) (lines_ordered first.n table map))

  module _ (fits : length (capture_text first (lines_in first.n table)) ≤ most_bytes) where
    -- no refusal 9 to 11 is against the text
    pub written_good : GoodText (capture_text first (lines_in first.n table))
    written_good = record { fits = fits; right-shape = read.right-shape; all_good = good }
      where
        good : (other : FirstLine) → head_of (first_line (capture_text first (lines_in first.n table))) ≡ Some other
            → fault_line other.n 2 [] (lines_of (other_lines (capture_text first (lines_in first.n table)))) ≡ None
        good other said =
            let heads : Some first ≡ Some other = sym read.head ∙ said in
            let same : first ≡ other = cc in
            let same_n : other.n ≡ first.n = sym (ap (λ (f : FirstLine). f.n) same) in
            ap (fault_line other.n 2 []) read.others ∙ ap (λ (m : ℕ). fault_line m 2 [] (as_said first.n table)) same_n ∙ (map_read_back first.n table map).all_good

    -- its sheet is that of the map
    pub written_sheet : sheet (capture_text first (lines_in first.n table)) ≡ sheet_of (survey_for first table)
    written_sheet =
        let text = capture_text first (lines_in first.n table) in
        let back = map_read_back first.n table map in
        sheet-read text fits read.right-shape
        ∙ ap (λ (head : Option FirstLine). sheet_of (of_head head (lines_of (other_lines text)))) read.head
        ∙ ap (λ (lines : List (Option Line)). sheet_of (of_head (Some first) lines)) read.others
        ∙ rw (le-ltb first.n 2 map.two_radios, le-ltb most_radios first.n map.few_radios, back.all_good, back.table_is)

    -- and so is that of every good text with the same lines
    pub any_order_sheet : (text : List ℕ) → GoodText text → SameLines text (capture_text first (lines_in first.n table)) → sheet text ≡ sheet_of (survey_for first table)
    any_order_sheet text good same = same-lines-same-sheet text (capture_text first (lines_in first.n table)) same good written_good ∙ written_sheet

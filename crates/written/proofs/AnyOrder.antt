-- The order of the lines after the first does not matter to the sheet. Assumes nothing.
use mathlib.Core.Path.{◌≡◌, refl, sym, ap, ◌∙◌, subst}
use mathlib.Core.Bool.{Bool, true, false, not, ◌&&◌, cond, and-false}
use mathlib.Core.List.Memᴰ
use mathlib.Core.List.{List, [], ◌∷◌, tail, Memᴰ}
use mathlib.Core.Logic.{◌⊎◌, inl, inr}
use Prim.Native.Nat.{ℕ, suc, ◌≤◌}
use native.Mathlib.Omega.{arith}
use lib.Dec.{eqb}
use lib.ListN.{length}
use borrow.Author.Tests.{eqb-true, le-ltb}
use Rattle.std.proofs.Common.{Option, None, Some, is_some}
use Rattle.basics.proofs.Bools.{clash, and_left}
use Rattle.captures.specs.Words.{line_feed}
use Rattle.captures.specs.Text.{pieces}
use Rattle.captures.specs.Capture.{head_of, line_of, right_shape, wrong_line, lines_of, table_of}
use Rattle.captures.specs.declared.FirstLine.{FirstLine}
use Rattle.captures.specs.declared.Line.{Line}
use Rattle.text_survey.specs.Survey.{most_bytes, of_head, survey_of}
use Rattle.sheet_text.specs.Sheet.{sheet_of, sheet}
use Rattle.written.specs.Reading.{first_line, other_lines, GoodText, SameLines}
use Rattle.written.proofs.Tables.{Among, same-table}

-- ---- what the same lines say

-- what is said is said by a piece of the text
record SaidBy (line : Option Line) (lines : List (List ℕ)) : Type 0 where
  piece : List ℕ
  there : Memᴰ piece lines
  said : line_of piece ≡ line

said_by : (line : Option Line) (lines : List (List ℕ)) → Memᴰ line (lines_of lines) → SaidBy line lines
unfolding lines_of
said_by line [] m = absurd (Memᴰ.not-nil m)
said_by line (last ∷ []) m = absurd (Memᴰ.not-nil m)
said_by line (first ∷ next ∷ rest) m = go (Memᴰ.cases_cons m) (said_by line (next ∷ rest))
  where
    go : (line ≡ line_of first) ⊎ Memᴰ line (lines_of (next ∷ rest)) → (Memᴰ line (lines_of (next ∷ rest)) → SaidBy line (next ∷ rest)) → SaidBy line (first ∷ next ∷ rest)
    go (inl e) later = record { piece = first; there = Memᴰ.head refl; said = sym e }
    go (inr m') later = let s = later m' in record { piece = s.piece; there = Memᴰ.tail s.there; said = s.said }

-- what stands after the last line feed of a text of the right shape is nothing, and says nothing
empty_says_none : (last : List ℕ) → length last ≡ 0 → is_some (line_of last) ≡ true → ⊥
unfolding line_of pieces
empty_says_none [] e r = clash r refl
empty_says_none (x ∷ last) e r = omega arith

right_here : (b : Bool) (number : ℕ) (rest : Option ℕ) → cond b rest (Some number) ≡ None → (b ≡ true) × (rest ≡ None)
right_here true number rest e = (refl, e)
right_here false number rest e = absurd (cc)

-- a piece that says something is a line
line-of : (number : ℕ) (lines : List (List ℕ)) → wrong_line number lines ≡ None → (piece : List ℕ) → Memᴰ piece lines → is_some (line_of piece) ≡ true → Memᴰ (line_of piece) (lines_of lines)
unfolding lines_of wrong_line
line-of number [] right piece m r = absurd (Memᴰ.not-nil m)
line-of number (last ∷ []) right piece m r = go (Memᴰ.cases_cons m)
  where
    empty : (b : Bool) → (eqb (length last) 0 && not (eqb number 1)) ≡ b → cond b None (Some number) ≡ None → length last ≡ 0
    empty true e z = eqb-true (length last) 0 (and_left (eqb (length last) 0) (not (eqb number 1)) e)
    empty false e z = absurd (cc)

    go : (piece ≡ last) ⊎ Memᴰ piece [] → Memᴰ (line_of piece) []
    go (inl e) = absurd (empty_says_none last (empty (eqb (length last) 0 && not (eqb number 1)) refl right) (subst (λ (p : List ℕ). is_some (line_of p) ≡ true) e r))
    go (inr m') = absurd (Memᴰ.not-nil m')
line-of number (line ∷ next ∷ rest) right piece m r =
    go (Memᴰ.cases_cons m) (λ m'. line-of (suc number) (next ∷ rest) (right_here (right_shape number line) number (wrong_line (suc number) (next ∷ rest)) right).1 piece m' r)
  where
    go : (piece ≡ line) ⊎ Memᴰ piece (next ∷ rest) → (Memᴰ piece (next ∷ rest) → Memᴰ (line_of piece) (lines_of (next ∷ rest))) → Memᴰ (line_of piece) (line_of line ∷ lines_of (next ∷ rest))
    go (inl e) later = Memᴰ.head (ap line_of e)
    go (inr m') later = Memᴰ.tail (later m')

others_right : (lines : List (List ℕ)) → wrong_line 1 lines ≡ None → wrong_line 2 (tail lines) ≡ None
unfolding wrong_line
others_right [] right = absurd (cc)
others_right (last ∷ []) right = let none : ◌≡◌ {A = Option ℕ} (Some 1) None = simp and-false at right in absurd (cc)
others_right (line ∷ next ∷ rest) right = (right_here (right_shape 1 line) 1 (wrong_line 2 (next ∷ rest)) right).1

kept : (text text' : List ℕ) → GoodText text' → ((line : List ℕ) → Memᴰ line (other_lines text) → Memᴰ line (other_lines text')) → Among (lines_of (other_lines text)) (lines_of (other_lines text'))
kept text text' good keep line m r =
    let s = said_by line (other_lines text) m in
    subst (λ (l : Option Line). Memᴰ l (lines_of (other_lines text'))) s.said
    (line-of 2 (other_lines text') (others_right (pieces line_feed text') good.right-shape) s.piece (keep s.piece s.there) (ap is_some s.said ∙ r))

-- ---- the sheet

-- of a text that no refusal 9 or 10 is against
pub sheet-read : (text : List ℕ) → length text ≤ most_bytes → wrong_line 1 (pieces line_feed text) ≡ None → sheet text ≡ sheet_of (of_head (head_of (first_line text)) (lines_of (other_lines text)))
unfolding sheet survey_of
sheet-read text fits right = rw (le-ltb most_bytes (length text) fits, right)

pub same-lines-same-sheet : (text text' : List ℕ) → SameLines text text' → GoodText text → GoodText text' → sheet text ≡ sheet text'
same-lines-same-sheet text text' same a a' =
    sheet-read text a.fits a.right-shape ∙ ap sheet_of (go (head_of (first_line text)) refl)
    ∙ ap (λ (line : List ℕ). sheet_of (of_head (head_of line) (lines_of (other_lines text')))) same.first
    ∙ sym (sheet-read text' a'.fits a'.right-shape)
  where
    one_table : (n : ℕ) → table_of n (lines_of (other_lines text)) ≡ table_of n (lines_of (other_lines text'))
    one_table n = same-table n (lines_of (other_lines text)) (lines_of (other_lines text')) (kept text text' a' same.there) (kept text' text a same.back)

    go : (head : Option FirstLine) → head_of (first_line text) ≡ head → of_head head (lines_of (other_lines text)) ≡ of_head head (lines_of (other_lines text'))
    go (Some first) said = rw (a.all_good first said, a'.all_good first (sym (ap head_of same.first) ∙ said), one_table first.n)
    go None said = refl

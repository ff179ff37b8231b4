-- A text has few lines, so the places of 9 and 11 are small. Assumes nothing.
use mathlib.Core.Path.{◌≡◌, sym, subst}
use mathlib.Core.Bool.{Bool, true, false, cond, not, ◌&&◌}
use mathlib.Core.List.{List, [], ◌∷◌}
use Prim.Native.Nat.{ℕ, suc, ◌+◌, ◌≤◌}
use native.Mathlib.Omega.{arith}
use lib.Dec.{eqb}
use lib.ListN.{length}
use Rattle.std.proofs.Common.{Option, Some, None, IfSome}
use Rattle.std.proofs.lemmas.List.Splits.{length-slice_split}
use Rattle.std.proofs.lemmas.List.Sums.{count_by-le-length}
use Rattle.captures.specs.Words.{line_feed}
use Rattle.captures.specs.Text.{pieces, most_number}
use Rattle.captures.specs.Capture.{right_shape, wrong_line, lines_of, at_fault, fault_line}
use Rattle.captures.specs.declared.Line.{Line}
use Rattle.texts.specs.Table.{lines_said}
use Rattle.text_survey.specs.Survey.{most_bytes}

few_pieces : (separator : ℕ) (bytes : List ℕ) → length (pieces separator bytes) ≤ length bytes + 1
unfolding pieces
few_pieces separator bytes = let ends = λ (x : ℕ). eqb x separator in omega (arith, length-slice_split ends bytes, count_by-le-length ends bytes)

-- a number that there is, is no larger
abbrev NoMore : Option ℕ → ℕ → Type 0
NoMore number most = IfSome number (λ r. r ≤ most)

more : (number : Option ℕ) {few most : ℕ} → few ≤ most → NoMore number few → NoMore number most
more None h k = tt
more (Some r) h k = omega arith

wrong_among : (number : ℕ) (lines : List (List ℕ)) → NoMore (wrong_line number lines) (number + length lines)
unfolding wrong_line
wrong_among number [] = omega arith
wrong_among number (last ∷ []) = go (eqb (length last) 0 && not (eqb number 1))
  where
    go : (none : Bool) → NoMore (cond none None (Some number)) (number + length (last ∷ []))
    go true = tt
    go false = omega arith
wrong_among number (line ∷ next ∷ rest) = go (right_shape number line) (wrong_among (suc number) (next ∷ rest))
  where
    go : (right : Bool) → NoMore (wrong_line (suc number) (next ∷ rest)) (suc number + length (next ∷ rest)) → NoMore (cond right (wrong_line (suc number) (next ∷ rest)) (Some number)) (number + length (line ∷ next ∷ rest))
    go true later = more (wrong_line (suc number) (next ∷ rest)) (omega arith) later
    go false later = omega arith

few_lines : (lines : List (List ℕ)) → length (lines_of lines) ≤ length lines
unfolding lines_of
few_lines [] = omega arith
few_lines (last ∷ []) = omega arith
few_lines (line ∷ next ∷ rest) = omega (arith, few_lines (next ∷ rest))

fault_among : (n number : ℕ) (before lines : List (Option Line)) → NoMore (fault_line n number before lines) (number + length lines)
unfolding fault_line
fault_among n number before [] = tt
fault_among n number before (line ∷ rest) = go (at_fault n before line) (fault_among n (suc number) (line ∷ before) rest)
  where
    go : (bad : Bool) → NoMore (fault_line n (suc number) (line ∷ before) rest) (suc number + length rest) → NoMore (cond bad (Some number) (fault_line n (suc number) (line ∷ before) rest)) (number + length (line ∷ rest))
    go true later = omega arith
    go false later = more (fault_line n (suc number) (line ∷ before) rest) (omega arith) later

told : (number : Option ℕ) {r most : ℕ} → Some r ≡ number → NoMore number most → r ≤ most
told number {most = most} e = subst (λ (x : Option ℕ). NoMore x most) (sym e)

pub wrong_small : (text : List ℕ) {line : ℕ} → length text ≤ most_bytes → Some line ≡ wrong_line 1 (pieces line_feed text) → line ≤ most_number
wrong_small text h e = omega (arith, told (wrong_line 1 (pieces line_feed text)) e (wrong_among 1 (pieces line_feed text)), few_pieces line_feed text)

pub fault_small : (text : List ℕ) (n : ℕ) {line : ℕ} → length text ≤ most_bytes → Some line ≡ fault_line n 2 [] (lines_said text) → line ≤ most_number
fault_small text n h e =
    omega (arith, told (fault_line n 2 [] (lines_said text)) e (fault_among n 2 [] (lines_said text)), few_lines (pieces line_feed text), few_pieces line_feed text)

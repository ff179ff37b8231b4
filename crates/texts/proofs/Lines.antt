-- The lines of a text: what is known after each of them. Assumes nothing.
use mathlib.Core.Path.{◌≡◌, refl, ap, ◌∙◌}
use mathlib.Core.Bool.{true, false, not, ◌&&◌, cond, and-false}
use mathlib.Core.List.{List, [], ◌∷◌}
use Prim.Native.Nat.{ℕ, ◌+◌, ◌≤◌, ◌<◌}
use native.Mathlib.Numerals.{add-one}
use native.Mathlib.Omega.{arith}
use lib.Dec.{eqb}
use lib.ListN.{length, length-append}
use borrow.Author.Tests.{eq-eqb, ne_eqb}
use Rattle.std.proofs.Common.{Some, None}
use Rattle.captures.specs.Words.{line_feed}
use Rattle.captures.specs.Text.{pieces}
use Rattle.captures.specs.Capture.{line_of, right_shape, wrong_line, lines_of}
use Rattle.captures.specs.Reading.{Parted}
use Rattle.captures.proofs.Pieces.{rest_shorter, some_piece}

-- ---- one line

wrong_then : (number : ℕ) (line : List ℕ) (more : List (List ℕ)) → 0 < length more → wrong_line number (line ∷ more) ≡ cond (right_shape number line) (wrong_line (number + 1) more) (Some number)
unfolding wrong_line
wrong_then number line [] p = absurd (omega arith)
wrong_then number line (next ∷ rest) p = rw (add-one number)

lines_then : (line : List ℕ) (more : List (List ℕ)) → 0 < length more → lines_of (line ∷ more) ≡ line_of line ∷ lines_of more
unfolding lines_of
lines_then line [] p = absurd (omega arith)
lines_then line (next ∷ rest) p = refl

-- a line that is ended by a line feed: there is a piece after it
module _ {left line rest : List ℕ} (cut : Parted line_feed left line rest) where
  wrong_ended : (number : ℕ) → wrong_line number (pieces line_feed left) ≡ cond (right_shape number line) (wrong_line (number + 1) (pieces line_feed rest)) (Some number)
  wrong_ended number = ap (wrong_line number) cut.parted ∙ wrong_then number line (pieces line_feed rest) (some_piece line_feed rest)

  pub lines_ended : lines_of (pieces line_feed left) ≡ line_of line ∷ lines_of (pieces line_feed rest)
  lines_ended = ap lines_of cut.parted ∙ lines_then line (pieces line_feed rest) (some_piece line_feed rest)

-- what stands after the last line feed
module _ {left : List ℕ} (open_end : pieces line_feed left ≡ left ∷ []) where
  wrong_open : (number : ℕ) → wrong_line number (pieces line_feed left) ≡ cond (eqb (length left) 0 && not (eqb number 1)) None (Some number)
  unfolding wrong_line
  wrong_open number = rw open_end

  pub lines_open : lines_of (pieces line_feed left) ≡ []
  unfolding lines_of
  lines_open = rw open_end

-- ---- line after line

-- what is known before line `number`, which `left` begins with: the lines before it have the right shape
pub record PassedOver (text left : List ℕ) (number : ℕ) : Type 0 where
  pub few : number + length left ≤ length text + 1
  pub same : wrong_line 1 (pieces line_feed text) ≡ wrong_line number (pieces line_feed left)

pub passed_none : (text : List ℕ) → PassedOver text text 1
passed_none text = record { few = omega arith; same = refl }

module _ {text left : List ℕ} {number : ℕ} (passed : PassedOver text left number) where
  module _ {line rest : List ℕ} (cut : Parted line_feed left line rest) where
    pub passed_more : right_shape number line ≡ true → PassedOver text rest (number + 1)
    passed_more right = record { few = omega (arith, passed.few, rest_shorter cut); same = passed.same ∙ wrong_ended cut number ∙ rw right }

    pub wrong_here : right_shape number line ≡ false → wrong_line 1 (pieces line_feed text) ≡ Some number
    wrong_here wrong = passed.same ∙ wrong_ended cut number ∙ rw wrong

  module _ (open_end : pieces line_feed left ≡ left ∷ []) where
    pub wrong_none : length left ≡ 0 → (number ≡ 1 → ⊥) → wrong_line 1 (pieces line_feed text) ≡ None
    wrong_none e d = passed.same ∙ wrong_open open_end number ∙ simp (eq-eqb (length left) 0 e, ne_eqb number 1 d)

    -- bytes after the last line feed
    pub wrong_bytes : (length left ≡ 0 → ⊥) → wrong_line 1 (pieces line_feed text) ≡ Some number
    wrong_bytes d = passed.same ∙ wrong_open open_end number ∙ simp (ne_eqb (length left) 0 d)

    -- no line at all
    pub wrong_first : number ≡ 1 → wrong_line 1 (pieces line_feed text) ≡ Some number
    wrong_first e = passed.same ∙ wrong_open open_end number ∙ simp (eq-eqb number 1 e, and-false)

-- ---- what is left lies in the text

pub record PassedWithin (text left : List ℕ) (number : ℕ) : Type 0 where
  pub within : length left ≤ length text
  pub over : PassedOver text left number

pub within_none : (text : List ℕ) → PassedWithin text text 1
within_none text = record { within = omega arith; over = passed_none text }

module _ {text left : List ℕ} {number : ℕ} (passed : PassedWithin text left number) {line rest : List ℕ} (cut : Parted line_feed left line rest) where
  -- the line and what stands after its line feed lie in what is left, and that lies in the text
  pub bounds : (length line + length rest < length left) × (length left ≤ length text)
  bounds = (omega (arith, ap length cut.whole, length-append line (line_feed ∷ rest)), passed.within)

  pub within_more : right_shape number line ≡ true → PassedWithin text rest (number + 1)
  within_more right = record { within = omega (arith, bounds.0, bounds.1); over = passed_more passed.over cut right }

-- What is promised of a text that was written, and of two texts with the same lines.
use Rattle.std.specs.Prelude.{None, Some, Ok, map, ◌≡◌, ℕ, ◌*◌, ◌≤◌, length, get_or}
use mathlib.Core.List.{List, [], tail, Memᴰ}
use Rattle.site.specs.Limits.{most_radios}
use Rattle.refusals.specs.Refusals.{finding}
use Rattle.captures.specs.Words.{line_feed}
use Rattle.captures.specs.Text.{pieces, most_number}
use Rattle.captures.specs.Capture.{head_of, wrong_line, lines_of, fault_line, table_of}
use Rattle.captures.specs.declared.FirstLine.{FirstLine}
use Rattle.captures.specs.declared.Line.{Line}
use Rattle.captures.specs.declared.Line.TheVariants.{Link, Hand}
use Rattle.text_survey.specs.Survey.{most_bytes}

-- the lines of a text; what stands after the last line feed is the last of them
abbrev pub first_line : List ℕ → List ℕ
first_line text = get_or (pieces line_feed text) 0 []

abbrev pub other_lines : List ℕ → List (List ℕ)
other_lines text = tail (pieces line_feed text)

-- ---- reading what was written

-- a text may say this
abbrev pub Sayable : Line → Type 0
Sayable (Link u v) = (u ≤ most_number) × (v ≤ most_number)
Sayable (Hand v) = v ≤ most_number

-- the text has the right shape, and its lines say these numbers and these things
pub record ReadBack (text : List ℕ) (first : FirstLine) (lines : List Line) : Type 0 where
  pub right-shape : wrong_line 1 (pieces line_feed text) ≡ None
  pub head : head_of (first_line text) ≡ Some first
  pub others : lines_of (other_lines text) ≡ map Some lines

-- a map that no refusal 1, 2, 3 or 13 is against
pub record WritableMap (n : ℕ) (table : List ℕ) : Type 0 where
  pub two_radios : 2 ≤ n
  pub few_radios : n ≤ most_radios
  pub long : length table ≡ n * n
  pub sound : finding table n ≡ Ok tt

-- none of the lines is at fault, and they fill the table
pub record Fills (n : ℕ) (lines : List Line) (table : List ℕ) : Type 0 where
  pub all_good : fault_line n 2 [] (map Some lines) ≡ None
  pub table_is : table_of n (map Some lines) ≡ table

-- ---- two texts

-- a text that no refusal 9 to 11 is against
pub record GoodText (text : List ℕ) : Type 0 where
  pub fits : length text ≤ most_bytes
  pub right-shape : wrong_line 1 (pieces line_feed text) ≡ None
  pub all_good : (first : FirstLine) → head_of (first_line text) ≡ Some first → fault_line first.n 2 [] (lines_of (other_lines text)) ≡ None

-- the first lines are the same, and every other line of the one is a line of the other
pub record SameLines (text text' : List ℕ) : Type 0 where
  pub first : first_line text ≡ first_line text'
  pub there : (line : List ℕ) → Memᴰ line (other_lines text) → Memᴰ line (other_lines text')
  pub back : (line : List ℕ) → Memᴰ line (other_lines text') → Memᴰ line (other_lines text)

-- The order of the refusals of a text: what is told of it once each of them is passed. Assumes nothing.
use mathlib.Core.Path.{◌≡◌, sym, ap, ◌∙◌}
use mathlib.Core.Bool.{true, false, and-false}
use mathlib.Core.List.{List, [], ◌∷◌}
use Prim.Native.Nat.{ℕ, ◌≤◌, ◌<◌}
use native.Mathlib.Omega.{arith}
use lib.ListN.{length}
use borrow.Author.Tests.{lt-ltb, le-ltb}
use Rattle.std.proofs.Common.{Option, Some, None}
use Rattle.refusals.specs.Refusals.{no_size}
use Rattle.refusals.proofs.Accepted.{size_fits}
use Rattle.captures.specs.Words.{line_feed}
use Rattle.captures.specs.Text.{pieces}
use Rattle.captures.specs.Capture.{head_of, wrong_line, fault_line}
use Rattle.captures.specs.Reading.{Parted}
use Rattle.captures.specs.declared.FirstLine.{FirstLine}
use Rattle.captures.specs.declared.Line.{Line}
use Rattle.captures.proofs.Bounds.{head_most}
use Rattle.captures.proofs.Pieces.{rest_shorter}
use Rattle.texts.specs.Table.{lines_said, LinesRead}
use Rattle.text_survey.specs.declared.TextFault.TheVariants.{TooLong, WrongShape, WrongRadios, BadLine}
use Rattle.text_survey.specs.Survey.{most_bytes, refused_for, of_head, survey_of}
use Rattle.text_survey.specs.Delivered.{Mapped, Faulty}
use Rattle.text_survey.proofs.Lines.{wrong_small, fault_small}

-- 1, whatever the lines after the first say
pub told_radios : (first : FirstLine) (lines : List (Option Line)) → no_size first.n ≡ true → of_head (Some first) lines ≡ refused_for WrongRadios
told_radios first lines bad = rw bad

-- 10
pub too_long : (text : List ℕ) → most_bytes < length text → Faulty text TooLong
unfolding survey_of
too_long text long = record { survey_is = rw (lt-ltb most_bytes (length text) long); small = omega arith }

module _ (text : List ℕ) (short : length text ≤ most_bytes) where
  -- 9
  pub wrong_shape : {line : ℕ} → Some line ≡ wrong_line 1 (pieces line_feed text) → Faulty text (WrongShape line)
  unfolding survey_of
  wrong_shape is = record { survey_is = rw (le-ltb most_bytes (length text) short, ← is); small = wrong_small text short is }

  module _ (right : None ≡ wrong_line 1 (pieces line_feed text)) where
    -- a text of the right shape has a first line that is ended
    pub some_line : pieces line_feed text ≡ text ∷ [] → ⊥
    unfolding wrong_line
    some_line whole = let z : ◌≡◌ {A = Option ℕ} None (Some 1) = right ∙ ap (wrong_line 1) whole ∙ simp and-false in cc

    module _ {line rest : List ℕ} (cut : Parted line_feed text line rest) where
      by_head : {said : Option FirstLine} → said ≡ head_of line → survey_of text ≡ of_head said (lines_said rest)
      unfolding survey_of
      by_head e = rw (le-ltb most_bytes (length text) short, ← right, cut.parted, ← e)

      pub no_head : None ≡ head_of line → Faulty text (WrongShape 1)
      no_head e = record { survey_is = by_head e; small = omega arith }

      module _ {first : FirstLine} (says : Some first ≡ head_of line) where
        -- 1
        pub wrong_radios : no_size first.n ≡ true → Faulty text WrongRadios
        wrong_radios bad = record { survey_is = by_head says ∙ told_radios first (lines_said rest) bad; small = omega arith }

        module _ (fine : no_size first.n ≡ false) where
          -- 11
          pub bad_line : {number : ℕ} → Some number ≡ fault_line first.n 2 [] (lines_said rest) → Faulty text (BadLine number)
          bad_line is =
              record { survey_is = by_head says ∙ rw (fine, ← is); small = fault_small rest first.n (omega (arith, short, rest_shorter cut)) is }

          -- or the map
          pub the_map : {table : List ℕ} → LinesRead rest first.n table None → Mapped text first table
          the_map read =
              record { survey_is = by_head says ∙ rw (fine, ← read.told, ← read.filled); capture = (head_most line first (sym says)).0; few = (size_fits first.n fine).1 }

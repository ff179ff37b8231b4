-- A text written out byte by byte: capture 10 of two linked radios, the second a handheld, with one path wanted. Assumes nothing.
use mathlib.Core.Path.{◌≡◌, refl}
use mathlib.Core.List.{[], ◌∷◌}
use Rattle.captures.specs.Text.{digits}
use Rattle.written.specs.Writing.{lines_text, capture_text, cell_lines, lines_in}

-- net 10 2 0 1 1, then link 0 1 and hand 1
pub text_of_a_pair : capture_text (record { capture = 10; n = 2; s = 0; t = 1; k = 1 }) (lines_in 2 (0 ∷ 1 ∷ 1 ∷ 1 ∷ []))
    ≡ 110 ∷ 101 ∷ 116 ∷ 9 ∷ 49 ∷ 48 ∷ 9 ∷ 50 ∷ 9 ∷ 48 ∷ 9 ∷ 49 ∷ 9 ∷ 49 ∷ 10 ∷ 108 ∷ 105 ∷ 110 ∷ 107 ∷ 9 ∷ 48 ∷ 9 ∷ 49 ∷ 10 ∷ 104 ∷ 97 ∷ 110 ∷ 100 ∷ 9 ∷ 49 ∷ 10 ∷ []
unfolding digits lines_text cell_lines
text_of_a_pair = refl

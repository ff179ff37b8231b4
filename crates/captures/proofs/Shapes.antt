-- The shape of a line: its word, and the numbers that stand after it. Assumes nothing.
use mathlib.Core.Path.{◌≡◌, refl, sym, ap, ◌∙◌}
use mathlib.Core.Bool.{Bool, true, false, ◌&&◌, cond, and_assoc, and-true, and-false}
use mathlib.Core.List.{List, [], ◌∷◌}
use Prim.Native.Nat.{ℕ}
use native.Mathlib.Omega.{arith}
use lib.Dec.{eqb}
use lib.ListN.{length, get_or}
use lib.Pointwise.{pointwise}
use borrow.Author.Tests.{ne_eqb}
use Rattle.std.proofs.Common.{Option, Some, None, option_map}
use Rattle.captures.specs.Words.{tab, net, link, hand}
use Rattle.captures.specs.Text.{pieces, same, value, is_number}
use Rattle.captures.specs.Capture.{head_of, line_of}
use Rattle.captures.specs.Reading.{Parted, numbers_in, numbers_of}
use Rattle.captures.specs.declared.FirstLine.{FirstLine}
use Rattle.captures.specs.declared.Line.{Line}
use Rattle.captures.specs.declared.Line.TheVariants.{Link, Hand}
use Rattle.captures.proofs.Fields.{same_told, same-is}

-- ---- the word

module _ (field : List ℕ) {seen : List ℕ} (word : List ℕ) (e : seen ≡ word) where
  pub word_is : pointwise eqb field seen ≡ true → field ≡ word
  word_is h = same-is field word (sym (same_told field word) ∙ ap (pointwise eqb field) (sym e) ∙ h)

  pub word_is_not : pointwise eqb field seen ≡ false → same field word ≡ false
  word_is_not h = sym (same_told field word) ∙ ap (pointwise eqb field) (sym e) ∙ h

-- ---- what the numbers after a word make

abbrev pub net_of : List ℕ → FirstLine
net_of v = record { capture = get_or v 0 0; n = get_or v 1 0; s = get_or v 2 0; t = get_or v 3 0; k = get_or v 4 0 }

abbrev pub link_of : List ℕ → Line
link_of v = Link (get_or v 0 0) (get_or v 1 0)

abbrev pub hand_of : List ℕ → Line
hand_of v = Hand (get_or v 0 0)

cond_map : {A B : Type 0} (f : A → B) (b : Bool) (x : A) → option_map f (cond b (Some x) None) ≡ cond b (Some (f x)) None
cond_map f true x = refl
cond_map f false x = refl

-- ---- the first line

head_from : List (List ℕ) → Option FirstLine
head_from f =
    cond (eqb (length f) 6 && same (get_or f 0 []) net && is_number (get_or f 1 []) && is_number (get_or f 2 []) && is_number (get_or f 3 []) && is_number (get_or f 4 []) && is_number (get_or f 5 []))
    (Some (record { capture = value 0 (get_or f 1 []); n = value 0 (get_or f 2 []); s = value 0 (get_or f 3 []); t = value 0 (get_or f 4 []); k = value 0 (get_or f 5 []) }))
    None

after_net : (fields : List (List ℕ)) → head_from (net ∷ fields) ≡ option_map net_of (numbers_in 5 fields)
unfolding head_from same
after_net [] = refl
after_net (a ∷ []) = refl
after_net (a ∷ b ∷ []) = refl
after_net (a ∷ b ∷ c ∷ []) = refl
after_net (a ∷ b ∷ c ∷ d ∷ []) = refl
after_net (a ∷ b ∷ c ∷ d ∷ e ∷ []) = simp (and_assoc, and-true, cond_map)
after_net (a ∷ b ∷ c ∷ d ∷ e ∷ f ∷ fields) =
    simp (ne_eqb (length (net ∷ a ∷ b ∷ c ∷ d ∷ e ∷ f ∷ fields)) 6 (λ q. omega arith), ne_eqb (length (a ∷ b ∷ c ∷ d ∷ e ∷ f ∷ fields)) 5 (λ q. omega arith))

-- ---- any other line

line_from : List (List ℕ) → Option Line
line_from f =
    cond (eqb (length f) 3 && same (get_or f 0 []) link && is_number (get_or f 1 []) && is_number (get_or f 2 [])) (Some (Link (value 0 (get_or f 1 [])) (value 0 (get_or f 2 []))))
    (cond (eqb (length f) 2 && same (get_or f 0 []) hand && is_number (get_or f 1 [])) (Some (Hand (value 0 (get_or f 1 [])))) None)

after_link : (fields : List (List ℕ)) → line_from (link ∷ fields) ≡ option_map link_of (numbers_in 2 fields)
unfolding line_from same
after_link [] = refl
after_link (a ∷ []) = refl
after_link (a ∷ b ∷ []) = simp (and_assoc, and-true, cond_map)
after_link (a ∷ b ∷ c ∷ fields) =
    simp (ne_eqb (length (link ∷ a ∷ b ∷ c ∷ fields)) 3 (λ q. omega arith), ne_eqb (length (a ∷ b ∷ c ∷ fields)) 2 (λ q. omega arith), and-false)

after_hand : (fields : List (List ℕ)) → line_from (hand ∷ fields) ≡ option_map hand_of (numbers_in 1 fields)
unfolding line_from same
after_hand [] = refl
after_hand (a ∷ []) = simp (and_assoc, and-true, cond_map)
after_hand (a ∷ b ∷ fields) =
    simp (ne_eqb (length (hand ∷ a ∷ b ∷ fields)) 2 (λ q. omega arith), ne_eqb (length (a ∷ b ∷ fields)) 1 (λ q. omega arith), and-false)

-- ---- a line without a tab

module _ (line : List ℕ) (whole : pieces tab line ≡ line ∷ []) where
  pub head_whole : head_of line ≡ None
  unfolding head_of
  head_whole = rw whole

  pub line_whole : line_of line ≡ None
  unfolding line_of
  line_whole = rw whole

-- ---- a line with one

module _ {line word rest : List ℕ} (cut : Parted tab line word rest) where
  pub head_net : word ≡ net → head_of line ≡ option_map net_of (numbers_of 5 rest)
  unfolding head_of head_from numbers_of
  head_net is = ap head_from (cut.parted ∙ ap (λ (w : List ℕ). w ∷ pieces tab rest) is) ∙ after_net (pieces tab rest)

  pub head_other : same word net ≡ false → head_of line ≡ None
  unfolding head_of
  head_other not = rw cut.parted (simp (not, and-false))

  pub line_link : word ≡ link → line_of line ≡ option_map link_of (numbers_of 2 rest)
  unfolding line_of line_from numbers_of
  line_link is = ap line_from (cut.parted ∙ ap (λ (w : List ℕ). w ∷ pieces tab rest) is) ∙ after_link (pieces tab rest)

  pub line_hand : word ≡ hand → line_of line ≡ option_map hand_of (numbers_of 1 rest)
  unfolding line_of line_from numbers_of
  line_hand is = ap line_from (cut.parted ∙ ap (λ (w : List ℕ). w ∷ pieces tab rest) is) ∙ after_hand (pieces tab rest)

  pub line_other : same word link ≡ false → same word hand ≡ false → line_of line ≡ None
  unfolding line_of
  line_other not neither = rw cut.parted (simp (not, neither, and-false))

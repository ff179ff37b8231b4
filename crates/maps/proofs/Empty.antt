-- The empty programs of document 01, "Nothing left to the builder's choice", over texts: ruled out by what `write_sheet` promises of the
-- lent buffer. Assumes nothing.
use mathlib.Core.Path.{◌≡◌, refl, ap}
use mathlib.Core.List.{List, [], ◌∷◌, ◌++◌}
use Prim.Native.Nat.{ℕ, ◌≤◌}
use native.Mathlib.Omega.{arith}
use lib.ListN.{get_or}
use borrow.Author.Tests.{le-ltb}
use Rattle.buffers.specs.Zeros.{zeros_after}
use Rattle.sheet_lines.specs.Lines.{refused_line}
use Rattle.sheet_text.specs.Sheet.{sheet, sheet_room, sheet_in}
use Rattle.maps.proofs.Computed.{sheet_computes}

-- net 1 2 0 1 1: two radios that are not linked, one path wanted
abbrev apart : List ℕ
apart = 110 ∷ 101 ∷ 116 ∷ 9 ∷ 49 ∷ 9 ∷ 50 ∷ 9 ∷ 48 ∷ 9 ∷ 49 ∷ 9 ∷ 49 ∷ 10 ∷ []

-- and link 0 1: two that are
abbrev linked_pair : List ℕ
linked_pair = apart ++ (108 ∷ 105 ∷ 110 ∷ 107 ∷ 9 ∷ 48 ∷ 9 ∷ 49 ∷ 10 ∷ [])

-- report 1 short 0 1 0
apart_sheet : sheet apart ≡ 114 ∷ 101 ∷ 112 ∷ 111 ∷ 114 ∷ 116 ∷ 9 ∷ 49 ∷ 9 ∷ 115 ∷ 104 ∷ 111 ∷ 114 ∷ 116 ∷ 9 ∷ 48 ∷ 9 ∷ 49 ∷ 9 ∷ 48 ∷ 10 ∷ []
unfolding sheet_computes
apart_sheet = refl

-- report 1 full 1 1 3, and the path 0 1
linked-sheet :
    sheet linked_pair
    ≡ 114 ∷ 101 ∷ 112 ∷ 111 ∷ 114 ∷ 116 ∷ 9 ∷ 49 ∷ 9 ∷ 102 ∷ 117 ∷ 108 ∷ 108 ∷ 9 ∷ 49 ∷ 9 ∷ 49 ∷ 9 ∷ 51 ∷ 10
    ∷ 112 ∷ 97 ∷ 116 ∷ 104 ∷ 9 ∷ 49 ∷ 9 ∷ 48 ∷ 9 ∷ 49 ∷ 10 ∷ []
unfolding sheet_computes
linked-sheet = refl

module _ (room : ℕ) (enough : sheet_room ≤ room) where
  -- a buffer with room for a sheet holds that of its text
  promised : (out text used : List ℕ) → out ≡ zeros_after room (sheet_in room text) → sheet text ≡ used → out ≡ zeros_after room used
  promised out text used held is = rw (le-ltb room sheet_room enough, is) at held

  -- a program that refuses every text
  pub not_all_texts_refused : (out : List ℕ) (number place : ℕ) → out ≡ zeros_after room (refused_line number place) → out ≡ zeros_after room (sheet_in room apart) → ⊥
  unfolding refused_line
  not_all_texts_refused out number place p q =
      let refused : get_or out 2 0 ≡ 102 = ap (λ (bytes : List ℕ). get_or bytes 2 0) p in
      let reported : get_or out 2 0 ≡ 112 = ap (λ (bytes : List ℕ). get_or bytes 2 0) (promised out apart _ q apart_sheet) in
      omega arith

  -- one fixed sheet for all texts: no bytes are what is promised for both
  pub not_one_sheet_for_texts : (out : List ℕ) → out ≡ zeros_after room (sheet_in room linked_pair) → out ≡ zeros_after room (sheet_in room apart) → ⊥
  not_one_sheet_for_texts out p q =
      let full : get_or out 9 0 ≡ 102 = ap (λ (bytes : List ℕ). get_or bytes 9 0) (promised out linked_pair _ p linked-sheet) in
      let short : get_or out 9 0 ≡ 115 = ap (λ (bytes : List ℕ). get_or bytes 9 0) (promised out apart _ q apart_sheet) in
      omega arith

  -- a program that writes nothing leaves what was there before: a buffer whose first byte was no r is ruled out
  pub not_nothing_for_texts : (before : List ℕ) → (get_or before 0 0 ≡ 114 → ⊥) → before ≡ zeros_after room (sheet_in room apart) → ⊥
  not_nothing_for_texts before other p = other (ap (λ (bytes : List ℕ). get_or bytes 0 0) (promised before apart _ p apart_sheet))

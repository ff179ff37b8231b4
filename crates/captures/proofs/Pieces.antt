-- What a text is cut into at its first separator. Assumes nothing.
use mathlib.Core.Path.{◌≡◌, refl, sym, ap, ◌∙◌}
use mathlib.Core.Bool.{Bool, false}
use mathlib.Core.List.{List, [], ◌∷◌, ◌++◌}
use Prim.Native.Nat.{ℕ, ◌+◌, ◌-◌, ◌<◌, ◌≤◌}
use native.Mathlib.Decide.{ℕ_discrete, dec_lt}
use native.Mathlib.Omega.{arith}
use lib.Dec.{eqb}
use lib.ListN.{length, get_or, take, drop, length-drop, length-append}
use lib.Seq.{take_all}
use borrow.Author.Tests.{lt-ltb, le-ltb, eqb-true, eq-eqb, ne_eqb}
use Rattle.std.proofs.Common.{Option, Some, None}
use Rattle.std.specs.List.{position, position_or_len}
use Rattle.std.proofs.lemmas.List.Splits.{slice_split_none, slice_split_first, length-slice_split}
use Rattle.std.proofs.lemmas.List.Sums.{split_at_first, position_or_len_is, fails_before_first, passes_at_first}
use Rattle.captures.specs.Text.{pieces}
use Rattle.captures.specs.Reading.{Parted}

module _ (separator : ℕ) (bytes : List ℕ) where
  is_end : ℕ → Bool
  is_end x = eqb x separator

  first : ℕ
  first = position_or_len is_end bytes

  -- no separator stands before the place
  abbrev pub Passed : ℕ → Type 0
  Passed i = (k : ℕ) → k < i → eqb (get_or bytes k 0) separator ≡ false

  pub passed_more : (i : ℕ) → Passed i → (get_or bytes i 0 ≡ separator → ⊥) → Passed (i + 1)
  unfolding is_end
  passed_more i passed other k below = go (ℕ_discrete k i)
    where
      go : Dec (k ≡ i) → eqb (get_or bytes k 0) separator ≡ false
      go (yes e) = rw e (ne_eqb _ _ other)
      go (no ne) = passed k (omega (arith, ne))

  pub first_is : (i : ℕ) → i ≤ length bytes → Passed i → (i < length bytes → get_or bytes i 0 ≡ separator) → i ≡ position_or_len (λ x. eqb x separator) bytes
  unfolding is_end
  first_is i within passed here = sym (position_or_len_is is_end bytes i 0 within passed (λ l. eq-eqb _ _ (here l)))

  pub told_place : (i : ℕ) → i ≡ position_or_len (λ x. eqb x separator) bytes → i < length bytes → Some i ≡ position (λ x. eqb x separator) bytes
  unfolding is_end first
  told_place i is below = rw (lt-ltb first (length bytes) (omega (arith, is))) (ap (λ (n : ℕ). Some n) is)

  pub nowhere : length bytes ≡ position_or_len (λ x. eqb x separator) bytes → None ≡ position (λ x. eqb x separator) bytes
  unfolding is_end first
  nowhere is = rw (le-ltb first (length bytes) (omega (arith, is))) refl

  pub parted_at : (i : ℕ) → Some i ≡ position (λ x. eqb x separator) bytes → Parted separator bytes (take i bytes) (take (length bytes - (i + 1)) (drop (i + 1) bytes))
  unfolding is_end first pieces
  parted_at i e = go (dec_lt first (length bytes))
    where
      go : Dec (first < length bytes) → Parted separator bytes (take i bytes) (take (length bytes - (i + 1)) (drop (i + 1) bytes))
      go (yes p) =
          let here : first ≡ i = let z : Some first ≡ Some i = sym (e ∙ rw (lt-ltb first (length bytes) p)) in cc in
          let rest : take (length bytes - (i + 1)) (drop (i + 1) bytes) ≡ drop (i + 1) bytes = take_all _ _ (simp length-drop (omega arith)) in
          rw (rest, ← here)
          (record {
            whole = split_at_first is_end bytes 0 p ∙ ap (λ (x : ℕ). take first bytes ++ (x ∷ drop (first + 1) bytes)) (eqb-true _ _ (passes_at_first is_end bytes 0 p));
            parted = slice_split_first is_end bytes 0 p;
          })
      go (no p) = absurd (let z : ◌≡◌ {A = Option ℕ} (Some i) None = e ∙ rw (le-ltb first (length bytes) (omega arith)) in cc)

  pub parted_none : None ≡ position (λ x. eqb x separator) bytes → pieces separator bytes ≡ bytes ∷ []
  unfolding is_end first pieces
  parted_none e = go (dec_lt first (length bytes))
    where
      go : Dec (first < length bytes) → pieces separator bytes ≡ bytes ∷ []
      go (yes p) = absurd (let z : ◌≡◌ {A = Option ℕ} None (Some first) = e ∙ rw (lt-ltb first (length bytes) p) in cc)
      go (no p) = slice_split_none is_end bytes (λ k d l. fails_before_first is_end bytes k d (omega arith))

-- what stands after the separator is shorter
pub rest_shorter : {separator : ℕ} {bytes front rest : List ℕ} → Parted separator bytes front rest → length rest < length bytes
rest_shorter {separator} {bytes} {front} {rest} cut = omega (arith, ap length cut.whole, length-append front (separator ∷ rest))

-- there is always a piece
pub some_piece : (separator : ℕ) (bytes : List ℕ) → 0 < length (pieces separator bytes)
unfolding pieces
some_piece separator bytes = omega (arith, length-slice_split (λ x. eqb x separator) bytes)

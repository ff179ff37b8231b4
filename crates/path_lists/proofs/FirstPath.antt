-- The first path of a list, which says what the two ends are. Assumes nothing.
use mathlib.Core.Path.{◌≡◌, refl, sym, ap, ◌∙◌}
use mathlib.Core.Bool.{Bool, true, false, ◌&&◌, and-false}
use mathlib.Core.List.{List, [], ◌∷◌}
use mathlib.Core.Logic.{◌⊎◌, inl, inr}
use Prim.Native.Nat.{ℕ, zero, suc, ◌≤◌, ◌<◌}
use native.Mathlib.Omega.{arith}
use lib.Dec.{ltb, leb}
use lib.ListN.{length}
use borrow.Author.Tests.{lt-ltb, le-ltb, eq-eqb, ne_eqb}
use Rattle.basics.specs.Lists.{among}
use Rattle.path_lists.specs.Reading.{path_end, Inside, path_at, readable, paths_read}
use Rattle.path_lists.specs.Judge.{first_radio, last_radio, fresh, joins, is_sound}
use Rattle.path_lists.proofs.Judged.{sound_from, regroup, ends_early, one_path}

-- ---- the two ends

-- one of them is no radio below n, or they are the same
abbrev pub BadEnds : ℕ → ℕ → ℕ → Type 0
BadEnds n S T = (n ≤ S) ⊎ ((n ≤ T) ⊎ (S ≡ T))

bad_ends : (n S T : ℕ) → BadEnds n S T → fresh n [] (S ∷ T ∷ []) ≡ false
unfolding fresh among
bad_ends n S T (inl high) = rw (le-ltb S n high) refl
bad_ends n S T (inr (inl high)) = rw (le-ltb T n high, and-false (ltb S n && true)) refl
bad_ends n S T (inr (inr same)) = rw (eq-eqb T S (sym same), and-false (ltb T n), and-false (ltb S n && true)) refl

good_ends : (n S T : ℕ) → S < n → T < n → (S ≡ T → ⊥) → fresh n [] (S ∷ T ∷ []) ≡ true
unfolding fresh among
good_ends n S T low low' other = rw (lt-ltb S n low, lt-ltb T n low', ne_eqb T S (λ e. other (sym e))) refl

-- ---- the list

-- so many paths at the front of the list are whole and sound
abbrev pub sound_list : ℕ → ℕ → List ℕ → Bool
sound_list n count list = readable count list && is_sound n (paths_read count list)

pub no-paths : (n count : ℕ) (list : List ℕ) → count ≡ 0 → true ≡ sound_list n count list
unfolding readable paths_read is_sound
no-paths n count list none = rw none refl

pub first_short : (n count : ℕ) (list : List ℕ) → (count ≡ 0 → ⊥) → leb (path_end list 0) (length list) ≡ false → false ≡ sound_list n count list
first_short n zero list some short = absurd (some refl)
first_short n (suc count) list some short = rw (ends_early count list short) refl

-- the ends are judged, and the paths between them
by_ends : (n count : ℕ) (list : List ℕ) → (count ≡ 0 → ⊥)
    → (S T : ℕ) → S ≡ first_radio (path_at list 0) → T ≡ last_radio (path_at list 0) → sound_list n count list ≡ (fresh n [] (S ∷ T ∷ []) && sound_from n S T (S ∷ T ∷ []) false count list)
unfolding readable paths_read is_sound
by_ends n zero list some S T eS eT = absurd (some refl)
by_ends n (suc count) [] some S T eS eT = sym (and-false (fresh n [] (S ∷ T ∷ [])))
by_ends n (suc count) (x ∷ rest) some S T eS eT =
    let list : List ℕ = x ∷ rest in
    rw (eS, eT) (regroup (readable (suc count) list) _ _)

-- a first path of no radio or one joins nothing
not_sound : (n S T : ℕ) (before : List ℕ) (taken : Bool) (count : ℕ) (list : List ℕ) → (count ≡ 0 → ⊥) → Inside list 0 → length (path_at list 0) < 2 → sound_from n S T before taken count list ≡ false
unfolding joins
not_sound n S T before taken zero list some inside few = absurd (some refl)
not_sound n S T before taken (suc count) list some inside few = one_path n S T before taken count list inside ∙ rw (le-ltb 1 (length (path_at list 0)) (omega arith)) refl

-- the first path is whole, and this
module _ (n count : ℕ) (list : List ℕ) (some : count ≡ 0 → ⊥) (inside : Inside list 0) {path : List ℕ} (read : path ≡ path_at list 0) where
  abbrev S : ℕ
  S = first_radio path

  abbrev T : ℕ
  T = last_radio path

  parted : sound_list n count list ≡ (fresh n [] (S ∷ T ∷ []) && sound_from n S T (S ∷ T ∷ []) false count list)
  parted = by_ends n count list some S T (ap first_radio read) (ap last_radio read)

  pub first_alone : length path < 2 → false ≡ sound_list n count list
  first_alone few = sym (parted ∙ rw (not_sound n S T (S ∷ T ∷ []) false count list some inside (omega (arith, ap length read)), and-false (fresh n [] (S ∷ T ∷ []))) refl)

  pub ends_are_bad : BadEnds n S T → false ≡ sound_list n count list
  ends_are_bad bad = sym (parted ∙ rw (bad_ends n S T bad) refl)

  pub ends_are_good : S < n → T < n → (S ≡ T → ⊥) → (b : Bool) → b ≡ sound_from n S T (S ∷ T ∷ []) false count list → b ≡ sound_list n count list
  ends_are_good low low' other b judged = judged ∙ sym (parted ∙ rw (good_ends n S T low low' other) refl)

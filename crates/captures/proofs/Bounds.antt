-- No number of a first line is above 65535. Assumes nothing.
use mathlib.Core.Path.{◌≡◌, refl, sym, ap, ◌∙◌}
use mathlib.Core.Bool.{Bool, true, false, ◌&&◌, cond, and-false}
use mathlib.Core.List.{List, [], ◌∷◌, map}
use Prim.Native.Nat.{ℕ, zero, suc, ◌≤◌, ◌<◌}
use native.Mathlib.Decide.{dec_lt}
use native.Mathlib.Omega.{arith}
use lib.Dec.{eqb}
use lib.ListN.{length, get_or}
use borrow.Author.Tests.{lt-ltb}
use Rattle.std.proofs.Common.{Option, Some, None, option_map}
use Rattle.std.specs.List.{list_all, position}
use Rattle.basics.proofs.Bools.{clash, and_left, and_right}
use Rattle.captures.specs.Words.{tab, net}
use Rattle.captures.specs.Text.{pieces, same, value, is_number, most_number}
use Rattle.captures.specs.Capture.{head_of}
use Rattle.captures.specs.Reading.{Parted, numbers_of}
use Rattle.captures.specs.declared.FirstLine.{FirstLine}
use Rattle.captures.proofs.Fields.{same-is}
use Rattle.captures.proofs.Pieces.{parted_at, parted_none}
use Rattle.captures.proofs.Shapes.{net_of, head_whole, head_net, head_other}

-- ---- one number, and all of a text

value-most : (bytes : List ℕ) → is_number bytes ≡ true → value 0 bytes ≤ most_number
value-most bytes number = go (dec_lt most_number (value 0 bytes))
  where
    go : Dec (most_number < value 0 bytes) → value 0 bytes ≤ most_number
    go (yes p) = clash number (simp (lt-ltb most_number (value 0 bytes) p, and-false))
    go (no p) = omega arith

each_most : (fields : List (List ℕ)) → list_all is_number fields ≡ true → (i : ℕ) → get_or (map (value 0) fields) i 0 ≤ most_number
each_most [] good i = omega arith
each_most (field ∷ fields) good zero = value-most field (and_left (is_number field) (list_all is_number fields) good)
each_most (field ∷ fields) good (suc i) = each_most fields (and_right (is_number field) (list_all is_number fields) good) i

-- what there is where a test passes alone
made : {A : Type 0} (b : Bool) (x z : A) → cond b (Some x) None ≡ Some z → (b ≡ true) × (x ≡ z)
made true x z e = (refl, cc)
made false x z e = absurd (let n : ◌≡◌ {A = Option _} None (Some z) = e in cc)

pub values_most : (n : ℕ) (text : List ℕ) {values : List ℕ} → numbers_of n text ≡ Some values → (i : ℕ) → get_or values i 0 ≤ most_number
unfolding numbers_of
values_most n text {values} e i =
    let fields = pieces tab text in
    let got = made (eqb (length fields) n && list_all is_number fields) (map (value 0) fields) values e in
    omega (arith, each_most fields (and_right (eqb (length fields) n) (list_all is_number fields) got.0) i, ap (λ (v : List ℕ). get_or v i 0) got.1)

-- ---- the first line

-- what was mapped, where there is something
mapped : {A B : Type 0} (f : A → B) (r : Option A) {z : B} → option_map f r ≡ Some z → (x : A) × (r ≡ Some x) × (f x ≡ z)
mapped f None {z} e = absurd (let n : ◌≡◌ {A = Option _} None (Some z) = e in cc)
mapped f (Some x) e = (x, refl, cc)

module _ (line : List ℕ) (first : FirstLine) (says : head_of line ≡ Some first) where
  abbrev Most : Type 0
  Most = (first.capture ≤ most_number) × (first.n ≤ most_number) × (first.s ≤ most_number) × (first.t ≤ most_number) × (first.k ≤ most_number)

  none_said : head_of line ≡ None → ⊥
  none_said e = let n : ◌≡◌ {A = Option FirstLine} None (Some first) = sym e ∙ says in cc

  after_word : {word rest : List ℕ} → Parted tab line word rest → (b : Bool) → same word net ≡ b → Most
  after_word cut false other = absurd (none_said (head_other cut other))
  after_word {word} {rest} cut true is =
      let got = mapped net_of (numbers_of 5 rest) (sym (head_net cut (same-is word net is)) ∙ says) in
      let most = values_most 5 rest got.1 in (
        omega (arith, most 0, ap (λ (f : FirstLine). f.capture) got.2),
        omega (arith, most 1, ap (λ (f : FirstLine). f.n) got.2),
        omega (arith, most 2, ap (λ (f : FirstLine). f.s) got.2),
        omega (arith, most 3, ap (λ (f : FirstLine). f.t) got.2),
        omega (arith, most 4, ap (λ (f : FirstLine). f.k) got.2),
      )

  by_tab : (r : Option ℕ) → r ≡ position (λ x. eqb x tab) line → Most
  by_tab None e = absurd (none_said (head_whole line (parted_none tab line e)))
  by_tab (Some i) e = let cut = parted_at tab line i e in after_word cut _ refl

pub head_most : (line : List ℕ) (first : FirstLine) → head_of line ≡ Some first → (first.capture ≤ most_number) × (first.n ≤ most_number) × (first.s ≤ most_number) × (first.t ≤ most_number) × (first.k ≤ most_number)
head_most line first says = by_tab line first says _ refl

-- The numbers in a text, field by field: what is known after each of them. Assumes nothing.
use mathlib.Core.Path.{◌≡◌, refl, sym, ap, ap₂, subst, ◌∙◌}
use mathlib.Core.Bool.{Bool, true, false, cond, and-false}
use mathlib.Core.List.{List, [], ◌∷◌, ◌++◌, map, append_assoc, append-nil}
use Prim.Native.Nat.{ℕ, ◌+◌, ◌<◌, ◌≤◌}
use native.Mathlib.Omega.{arith}
use lib.Dec.{eqb}
use lib.ListN.{length, take, set, length-append}
use lib.Seq.{take_all}
use borrow.Author.Tests.{eq-eqb, ne_eqb}
use denote.Ref.{Bor}
use denote.Param.Members.{Mut}
use Rattle.std.proofs.Common.{Option, Some, None, get_or}
use Rattle.std.specs.Bool.{MatchBool}
use Rattle.std.specs.Fn.{CalledAt}
use Rattle.std.specs.List.{All, list_all, IsFirstMatchOrLen}
use Rattle.std.specs.declared.slice.Split.{Split}
use Rattle.std.specs.Slice.Iter.{split_steps}
use Rattle.std.proofs.lemmas.Fn.{always_returns_same}
use Rattle.std.proofs.lemmas.Grind.{common_steps}
use Rattle.std.proofs.lemmas.List.{map-append, take_more_set}
use Rattle.std.proofs.lemmas.List.Folds.{list_all-append}
use Rattle.std.proofs.lemmas.List.Splits.{slice_split_none, slice_split_at}
use Rattle.captures.specs.Words.{tab}
use Rattle.captures.specs.Text.{pieces, value, is_number, number_of}
use Rattle.captures.specs.Reading.{numbers_of}

-- ---- the fields

is_tab : ℕ → Bool
is_tab x = eqb x tab

-- the fields that have not been read
abbrev pub fields_left : {F : Type 0} → Split ℕ F → List (List ℕ)
fields_left s = cond s.done [] (pieces tab s.rest.now)

first_field : (xs x rest : List ℕ) (done : Bool) → MatchBool done (xs ≡ x) ((y : ℕ) × (xs ≡ x ++ (y ∷ rest))) → IsFirstMatchOrLen is_tab xs (length x) → pieces tab xs ≡ x ∷ cond done [] (pieces tab rest)
unfolding is_tab pieces
first_field xs x rest true e h = ap (pieces tab) e ∙ slice_split_none is_tab x (λ k d l. subst (λ ys. is_tab (get_or ys k d) ≡ false) e (h.0 k d (omega arith) l))
first_field xs x rest false e h =
    let front : All (λ z. is_tab z ≡ false) x = λ k d l. let a = h.0 k d (omega arith) l in let b = e.1 in grind (arith, common_steps) in
    let hit : is_tab e.0 ≡ true = let b = e.1 in let a = h.1 (grind (arith, common_steps)) e.0 in grind (arith, common_steps) in
    ap (pieces tab) e.1 ∙ slice_split_at is_tab x e.0 rest front hit

module _ {F : Type 0} (g : Mut F (Bor ℕ × Unit {0}) Bool) (s t : Split ℕ F) where
  pub field_taken : (x : Bor (List ℕ)) → ((x : ℕ) (b : Bool) (q : F) → CalledAt g s.pred x b q → (q ≡ s.pred) × (b ≡ eqb x tab)) → split_steps g s (Some x) t
      → fields_left s ≡ x.now ∷ fields_left t
  unfolding is_tab
  field_taken x tests step =
      let computes = always_returns_same g (λ a r. r ≡ is_tab a.0.now) s.pred (λ a r q k. let m = tests a.0.now r q (record { shown = a.0; shows = refl; called = k }) in (m.1, m.0)) in
      ap (λ (b : Bool). cond b [] (pieces tab s.rest.now)) step.0 ∙ first_field _ x.now _ t.done step.1 (step.2 is_tab computes).1

pub field_none : {F : Type 0} (s : Split ℕ F) → s.done ≡ true → fields_left s ≡ []
field_none s e = ap (λ (b : Bool). cond b [] (pieces tab s.rest.now)) e

pub all_left : {F : Type 0} (s : Split ℕ F) {text : List ℕ} → s.rest.now ≡ text → s.done ≡ false → fields_left s ≡ pieces tab text
all_left s e d = ap (λ (b : Bool). cond b [] (pieces tab s.rest.now)) d ∙ ap (pieces tab) e

-- ---- the numbers

-- what is known before field i: those read are numbers, and the list begins with what they say
pub record NumbersRead (text : List ℕ) (left : List (List ℕ)) (numbers : List ℕ) (i : ℕ) : Type 0 where
  pub read : List (List ℕ)
  pub count : length read ≡ i
  pub parted : pieces tab text ≡ read ++ left
  pub good : list_all is_number read ≡ true
  pub has : take i numbers ≡ map (value 0) read

pub none_read : (text : List ℕ) {left : List (List ℕ)} (numbers : List ℕ) → left ≡ pieces tab text → NumbersRead text left numbers 0
none_read text numbers e = record { read = []; count = refl; parted = sym e; good = refl; has = refl }

number_is : (field : List ℕ) (v : ℕ) → Some v ≡ number_of field → (is_number field ≡ true) × (value 0 field ≡ v)
unfolding number_of
number_is field v e = go (is_number field) refl e
  where
    go : (b : Bool) → is_number field ≡ b → Some v ≡ cond b (Some (value 0 field)) None → (is_number field ≡ true) × (value 0 field ≡ v)
    go true q f = (q, cc)
    go false q f = absurd (let z : ◌≡◌ {A = Option ℕ} (Some v) None = f in cc)

no_number : (field : List ℕ) → None ≡ number_of field → is_number field ≡ false
unfolding number_of
no_number field e = go (is_number field) refl e
  where
    go : (b : Bool) → is_number field ≡ b → None ≡ cond b (Some (value 0 field)) None → is_number field ≡ false
    go true q f = absurd (let z : ◌≡◌ {A = Option ℕ} None (Some (value 0 field)) = f in cc)
    go false q f = q

module _ {text : List ℕ} {left : List (List ℕ)} {numbers : List ℕ} {i : ℕ} (known : NumbersRead text left numbers i) where
  counted : length (pieces tab text) ≡ i + length left
  counted = ap length known.parted ∙ length-append known.read left ∙ ap (λ (k : ℕ). k + length left) known.count

  -- one number more
  pub read_one_more : {field : List ℕ} {others : List (List ℕ)} {v : ℕ} → left ≡ field ∷ others → Some v ≡ number_of field → i < length numbers → NumbersRead text others (set numbers i v) (i + 1)
  read_one_more {field} {others} {v} e said more =
      let is = number_is field v said in
      record {
        read = known.read ++ (field ∷ []);
        count = simp length-append (omega (arith, known.count));
        parted = known.parted ∙ ap (λ (l : List (List ℕ)). known.read ++ l) e ∙ sym (append_assoc known.read (field ∷ []) others);
        good = list_all-append is_number known.read (field ∷ []) ∙ rw (known.good, is.0);
        has = take_more_set numbers i v more ∙ ap₂ (λ (a : List ℕ) (x : ℕ). a ++ (x ∷ [])) known.has (sym is.1) ∙ sym (map-append (value 0) known.read (field ∷ []));
      }

  -- no field where one is asked for
  pub field_lacks : (n : ℕ) → left ≡ [] → i < n → numbers_of n text ≡ None
  unfolding numbers_of
  field_lacks n e more = rw (ne_eqb (length (pieces tab text)) n (λ z. omega (arith, counted, ap length e)))

  -- a field that is no number
  pub field_wrong : (n : ℕ) {field : List ℕ} {others : List (List ℕ)} → left ≡ field ∷ others → None ≡ number_of field → numbers_of n text ≡ None
  unfolding numbers_of
  field_wrong n {field} {others} e said =
      let wrong : list_all is_number (pieces tab text) ≡ false =
      ap (list_all is_number) (known.parted ∙ ap (λ (l : List (List ℕ)). known.read ++ l) e) ∙ list_all-append is_number known.read (field ∷ others) ∙ rw (no_number field said, and-false)
      in
      rw (wrong, and-false)

  -- a field too many
  pub field_too_many : (n : ℕ) {field : List ℕ} {others : List (List ℕ)} → left ≡ field ∷ others → n ≤ i → numbers_of n text ≡ None
  unfolding numbers_of
  field_too_many n e enough = rw (ne_eqb (length (pieces tab text)) n (λ z. omega (arith, counted, ap length e)))

  -- all of them
  pub all_numbers_read : (n : ℕ) → left ≡ [] → length numbers ≡ n → n ≡ i → numbers_of n text ≡ Some numbers
  unfolding numbers_of
  all_numbers_read n e long enough =
      let whole : pieces tab text ≡ known.read = known.parted ∙ ap (λ (l : List (List ℕ)). known.read ++ l) e ∙ append-nil known.read in
      let said : map (value 0) (pieces tab text) ≡ numbers = ap (map (value 0)) whole ∙ sym known.has ∙ take_all i numbers (omega arith) in
      rw (said, ap (list_all is_number) whole ∙ known.good, eq-eqb (length (pieces tab text)) n (omega (arith, counted, ap length e)))

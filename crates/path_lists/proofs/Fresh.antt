-- The radios inside a path, judged one by one against a set of those seen. Assumes nothing.
use mathlib.Core.Path.{◌≡◌, refl, sym, ap, subst, ◌∙◌}
use mathlib.Core.Bool.{Bool, true, false, not, ◌&&◌, ◌||◌, and_assoc, and-false}
use mathlib.Core.List.{List, [], ◌∷◌, ◌++◌}
use mathlib.Core.Logic.{◌⊎◌, inl, inr}
use Prim.Native.Nat.{ℕ, suc, ◌+◌, ◌≤◌, ◌<◌}
use native.Mathlib.Numerals.{add-one}
use lib.Dec.{eqb, ltb}
use lib.ListN.{length, get_or, take, drop}
use lib.Seq.{take-suc, take_all, split_at, append_snoc}
use borrow.Author.Tests.{lt-ltb, le-ltb}
use Rattle.basics.specs.Lists.{among}
use Rattle.radios.specs.Member.{member}
use Rattle.path_lists.specs.Judge.{fresh}
use Rattle.path_lists.specs.Seen.{IsSet}

-- ---- lists

or_swap : (a b c : Bool) → (a || (b || c)) ≡ (b || (a || c))
or_swap true true c = refl
or_swap true false c = refl
or_swap false b c = refl

-- one between two lists may as well stand at the front
among-middle : (v x : ℕ) (list other : List ℕ) → among v (list ++ (x ∷ other)) ≡ among v (x ∷ (list ++ other))
unfolding among
among-middle v x [] other = refl
among-middle v x (y ∷ list) other = ap (λ (b : Bool). eqb v y || b) (among-middle v x list other) ∙ or_swap (eqb v y) (eqb v x) (among v (list ++ other))

-- what is among those seen counts, not in which order
fresh-same : (n : ℕ) (list seen other : List ℕ) → ((v : ℕ) → among v seen ≡ among v other) → fresh n seen list ≡ fresh n other list
unfolding fresh among
fresh-same n [] seen other same = refl
fresh-same n (x ∷ list) seen other same = rw (same x, fresh-same n list (x ∷ seen) (x ∷ other) (λ v. ap (λ (b : Bool). eqb v x || b) (same v))) refl

-- two lists, one after the other
fresh-append : (n : ℕ) (seen list other : List ℕ) → fresh n seen (list ++ other) ≡ (fresh n seen list && fresh n (list ++ seen) other)
unfolding fresh
fresh-append n seen [] other = refl
fresh-append n seen (x ∷ list) other =
    let here : Bool = ltb x n && not (among x seen) in
    let later : fresh n (list ++ (x ∷ seen)) other ≡ fresh n (x ∷ (list ++ seen)) other = fresh-same n other _ _ (λ v. among-middle v x list seen) in
    ap (λ (b : Bool). here && b) (fresh-append n (x ∷ seen) list other ∙ ap (λ (b : Bool). fresh n (x ∷ seen) list && b) later) ∙ sym (and_assoc here _ _)

-- ---- the loop over the radios

-- those at the front are fine, and the set has them besides
pub record FineSoFar (n set : ℕ) (before front : List ℕ) : Type 0 where
  pub fine : fresh n before front ≡ true
  pub set_is : IsSet set (front ++ before)

pub fine_at_first : (n set : ℕ) (before : List ℕ) → IsSet set before → FineSoFar n set before []
unfolding fresh
fine_at_first n set before is = record { fine = refl; set_is = is }

module _ (n set : ℕ) (before inside : List ℕ) (i : ℕ) (so_far : FineSoFar n set before (take i inside)) where
  abbrev v : ℕ
  v = get_or inside i 0

  -- the next one is fine
  pub one_more : i < length inside → v < n → member v set ≡ false → (set' : ℕ) → ((j : ℕ) → member j set' ≡ (eqb j v || member j set)) → FineSoFar n set' before (take (i + 1) inside)
  unfolding fresh among
  one_more more low new set' grown = rw (add-one, take-suc inside i 0 more) record {
    fine = fresh-append n before (take i inside) (v ∷ []) ∙ rw (so_far.fine, sym (so_far.set_is v), new, lt-ltb v n low) refl;
    set_is = λ j. grown j ∙ ap (λ (b : Bool). eqb j v || b) (so_far.set_is j) ∙ sym (among-middle j v (take i inside) before) ∙ ap (among j) (sym (append_snoc (take i inside) v before));
  }

  -- the next one is not
  pub one_bad : i < length inside → (n ≤ v) ⊎ (member v set ≡ true) → fresh n before inside ≡ false
  unfolding fresh
  one_bad more bad = ap (fresh n before) (split_at inside i 0 more) ∙ fresh-append n before (take i inside) (v ∷ drop (suc i) inside) ∙ rw (so_far.fine, sym (so_far.set_is v)) (go bad)
    where
      go : (n ≤ v) ⊎ (member v set ≡ true) → (ltb v n && not (member v set) && fresh n (v ∷ (take i inside ++ before)) (drop (suc i) inside)) ≡ false
      go (inl high) = rw (le-ltb v n high) refl
      go (inr seen) = rw (seen, and-false (ltb v n)) refl

  -- there is none
  pub all_fine : length inside ≤ i → FineSoFar n set before inside
  all_fine end = subst (FineSoFar n set before) (take_all i inside end) so_far

-- The laws of lists of numbers: membership, nothing twice, and the pigeonhole. Assumes nothing.
use mathlib.Core.Path.{◌≡◌, refl, sym, ap, ◌∙◌}
use mathlib.Core.Bool.{Bool, true, false, ◌||◌, cond, false≢true}
use mathlib.Core.List.{List, [], ◌∷◌, ◌++◌, map}
use mathlib.Core.Logic.{◌⊎◌, inl, inr}
use Prim.Native.Nat.{ℕ, zero, suc, ◌+◌, ◌≤◌, ◌<◌}
use native.Mathlib.Nat.{not-suc-le-zero}
use native.Mathlib.Omega.{arith}
use lib.Dec.{eqb}
use lib.ListN.{length, get_or, replicate}
use borrow.Author.Tests.{eqb-true, eq-eqb, ne_eqb}
use Rattle.basics.specs.Counting.{one_if, sum, count}
use Rattle.basics.specs.Lists.{among, Different, All, AnyTwo}
use Rattle.basics.proofs.Bools.{or_left, or_right, or_cases, clash, not_true→false}
use Rattle.basics.proofs.Counting.{sum-update, sum-add, sum-zero, sum_one, sum-le, one_at_most, one_le, none_counts}

-- ---- membership

pub among-nil : (x : ℕ) → among x [] ≡ true → ⊥
unfolding among
among-nil x h = false≢true h

pub among-here : (x : ℕ) (list : List ℕ) → among x (x ∷ list) ≡ true
unfolding among
among-here x list = or_left _ _ (eq-eqb x x refl)

pub among_there : (x y : ℕ) (list : List ℕ) → among x list ≡ true → among x (y ∷ list) ≡ true
unfolding among
among_there x y list h = or_right (eqb x y) _ h

pub among_cases : (x y : ℕ) (list : List ℕ) → among x (y ∷ list) ≡ true → (x ≡ y) ⊎ (among x list ≡ true)
unfolding among
among_cases x y list h = go (or_cases _ _ h)
  where
    go : (eqb x y ≡ true) ⊎ (among x list ≡ true) → (x ≡ y) ⊎ (among x list ≡ true)
    go (inl e) = inl (eqb-true x y e)
    go (inr e) = inr e

-- a number other than the first is among the rest exactly if it is among all
pub among-other : (x y : ℕ) (list : List ℕ) → (x ≡ y → ⊥) → among x (y ∷ list) ≡ among x list
unfolding among
among-other x y list ne = rw (ne_eqb x y ne)

pub among_one : (x y : ℕ) → among x (y ∷ []) ≡ true → x ≡ y
among_one x y h = go (among_cases x y [] h)
  where
    go : (x ≡ y) ⊎ (among x [] ≡ true) → x ≡ y
    go (inl e) = e
    go (inr e) = absurd (among-nil x e)

-- every one of the first list is one of the second
abbrev pub ◌⊆◌ : List ℕ → List ℕ → Type 0
◌⊆◌ list other = (x : ℕ) → among x list ≡ true → among x other ≡ true

infix 20 ◌⊆◌
-- ---- the pigeonhole

-- the list without the first x in it
unfoldable pub erase : ℕ → List ℕ → List ℕ
erase x [] = []
erase x (y ∷ list) = cond (eqb x y) list (y ∷ erase x list)

pub erase_length : (x : ℕ) (list : List ℕ) → among x list ≡ true → suc (length (erase x list)) ≡ length list
unfolding among erase
erase_length x [] h = absurd (false≢true h)
erase_length x (y ∷ list) h = go (eqb x y) h (erase_length x list)
  where
    go : (b : Bool) → (b || among x list) ≡ true → (among x list ≡ true → suc (length (erase x list)) ≡ length list) → suc (length (cond b list (y ∷ erase x list))) ≡ suc (length list)
    go true e ih = refl
    go false e ih = ap suc (ih e)

-- every other number stays
pub erase_keeps : (x y : ℕ) (list : List ℕ) → (y ≡ x → ⊥) → among y list ≡ true → among y (erase x list) ≡ true
unfolding erase
erase_keeps x y [] ne h = h
erase_keeps x y (z ∷ list) ne h = go (eqb x z) refl (among_cases y z list h) (erase_keeps x y list ne)
  where
    go : (b : Bool) → eqb x z ≡ b → (y ≡ z) ⊎ (among y list ≡ true) → (among y list ≡ true → among y (erase x list) ≡ true) → among y (cond b list (z ∷ erase x list)) ≡ true
    go true e (inl f) ih = absurd (ne (f ∙ sym (eqb-true x z e)))
    go true e (inr f) ih = f
    go false e (inl f) ih = rw f (among-here z (erase x list))
    go false e (inr f) ih = among_there y z (erase x list) (ih f)

-- ---- not in a list

-- what is not in a list is not its first and not in the rest
pub among-neither : (x y : ℕ) (list : List ℕ) → among x (y ∷ list) ≡ false → (x ≡ y → ⊥) × (among x list ≡ false)
among-neither x y list h = (λ (e : x ≡ y). clash (rw e (among-here y list)) h, not_true→false _ (λ t. clash (among_there x y list t) h))

-- ---- lists counted

-- different numbers below n, counted
pub length_counts : (list : List ℕ) (n : ℕ) → Different list → ((x : ℕ) → among x list ≡ true → x < n) → count (λ x. among x list) n ≡ length list
length_counts [] n d below = none_counts (λ x. among x []) n (λ x p. among-nil x)
length_counts (y ∷ list) n d below = omega (
  arith,
  length_counts list n d.1 (λ x h. below x (among_there x y list h)),
  sum-update (λ x. one_if (among x (y ∷ list))) (λ x. one_if (among x list)) y n (below y (among-here y list)) (λ x p ne. ap one_if (among-other x y list ne)),
  ap one_if (among-here y list),
  ap one_if d.0,
)

-- different numbers below n that all pass a test are no more than those that pass it
pub different_pass : (list : List ℕ) (test : ℕ → Bool) (n : ℕ) → Different list → ((x : ℕ) → among x list ≡ true → (x < n) × (test x ≡ true)) → length list ≤ count test n
different_pass list test n d each = omega (
  arith,
  length_counts list n d (λ x h. (each x h).0),
  sum-le (λ x. one_if (among x list)) (λ x. one_if (test x)) n (λ x p. one_le (among x list) (test x) (λ h. (each x h).1)),
)

-- different numbers below n are at most n
pub different_below : (list : List ℕ) (n : ℕ) → Different list → ((x : ℕ) → among x list ≡ true → x < n) → length list ≤ n
different_below list n d below = omega (arith, different_pass list (λ x. true) n d (λ x h. (below x h, refl)), sum_one n)

-- ---- totals over a list

-- f of each of the list, added up
abbrev pub total : (ℕ → ℕ) → List ℕ → ℕ
total f [] = 0
total f (x ∷ list) = f x + total f list

-- no more for each, no more in all
pub total_le : (f g : ℕ → ℕ) (list : List ℕ) → ((x : ℕ) → among x list ≡ true → f x ≤ g x) → total f list ≤ total g list
total_le f g [] h = omega arith
total_le f g (y ∷ list) h = omega (arith, h y (among-here y list), total_le f g list (λ x e. h x (among_there x y list e)))

-- the list first or the numbers below n first
pub total_swap : (f : ℕ → ℕ → ℕ) (list : List ℕ) (n : ℕ) → total (λ x. sum (f x) n) list ≡ sum (λ i. total (λ x. f x i) list) n
total_swap f [] n = sym (sum-zero n)
total_swap f (y ∷ list) n = omega (arith, total_swap f list n, sum-add (f y) (λ i. total (λ x. f x i) list) n)

-- those of a list that pass a test are at most all
pub total_passing : (test : ℕ → Bool) (list : List ℕ) → total (λ x. one_if (test x)) list ≤ length list
total_passing test [] = omega arith
total_passing test (y ∷ list) = omega (arith, total_passing test list, one_at_most (test y))

-- if all that pass are one, they are at most a number that is not zero where one passes
pub total_once : (test : ℕ → Bool) (list : List ℕ) (k : ℕ) → Different list → ((x : ℕ) → among x list ≡ true → test x ≡ true → 0 < k) → ((x y : ℕ) → among x list ≡ true → among y list ≡ true → test x ≡ true → test y ≡ true → x ≡ y)
    → total (λ x. one_if (test x)) list ≤ k
total_once test [] k d some same = omega arith
total_once test (y ∷ list) k d some same = go (test y) refl (λ j some'. total_once test list j d.1 some' (λ a b u v. same a b (among_there a y list u) (among_there b y list v)))
  where
    go : (b : Bool) → test y ≡ b → ((j : ℕ) → ((x : ℕ) → among x list ≡ true → test x ≡ true → 0 < j) → total (λ x. one_if (test x)) list ≤ j) → one_if b + total (λ x. one_if (test x)) list ≤ k
    go true e later = omega (arith, some y (among-here y list) e, later 0 (λ x u t. clash (rw (same x y (among_there x y list u) (among-here y list) t e) at u) d.0))
    go false e later = omega (arith, later k (λ x u. some x (among_there x y list u)))

-- ---- without one of them

-- no other number comes
pub erase_among : (x y : ℕ) (list : List ℕ) → among y (erase x list) ≡ true → among y list ≡ true
unfolding erase
erase_among x y [] h = h
erase_among x y (z ∷ list) h = go (eqb x z) h (erase_among x y list)
  where
    go : (b : Bool) → among y (cond b list (z ∷ erase x list)) ≡ true → (among y (erase x list) ≡ true → among y list ≡ true) → among y (z ∷ list) ≡ true
    go true e ih = among_there y z list e
    go false e ih = cases (among_cases y z (erase x list) e)
      where
        cases : (y ≡ z) ⊎ (among y (erase x list) ≡ true) → among y (z ∷ list) ≡ true
        cases (inl u) = rw u (among-here z list)
        cases (inr u) = among_there y z list (ih u)

-- of different numbers the others are different, and x is gone
pub erase_different : (x : ℕ) (list : List ℕ) → Different list → Different (erase x list) × (among x (erase x list) ≡ false)
unfolding erase among
erase_different x [] d = (tt, refl)
erase_different x (y ∷ list) d = go (eqb x y) refl (erase_different x list d.1)
  where
    go : (b : Bool) → eqb x y ≡ b → Different (erase x list) × (among x (erase x list) ≡ false) → Different (cond b list (y ∷ erase x list)) × (among x (cond b list (y ∷ erase x list)) ≡ false)
    go true e ih = (d.1, rw (eqb-true x y e) d.0)
    go false e ih = ((not_true→false _ (λ h. clash (erase_among x y list h) d.0), ih.0), rw e ih.1)

-- ---- one list after another

-- what is in the two is in one of them
pub among-append : (x : ℕ) (list other : List ℕ) → among x (list ++ other) ≡ true → (among x list ≡ true) ⊎ (among x other ≡ true)
among-append x [] other h = inr h
among-append x (y ∷ list) other h = go (among_cases x y (list ++ other) h) (among-append x list other)
  where
    there : (among x list ≡ true) ⊎ (among x other ≡ true) → (among x (y ∷ list) ≡ true) ⊎ (among x other ≡ true)
    there (inl e) = inl (among_there x y list e)
    there (inr e) = inr e

    go : (x ≡ y) ⊎ (among x (list ++ other) ≡ true) → (among x (list ++ other) ≡ true → (among x list ≡ true) ⊎ (among x other ≡ true)) → (among x (y ∷ list) ≡ true) ⊎ (among x other ≡ true)
    go (inl e) ih = inl (rw e (among-here y list))
    go (inr e) ih = there (ih e)

-- two lists of different numbers that share none
pub different_append : (list other : List ℕ) → Different list → Different other → ((x : ℕ) → among x list ≡ true → among x other ≡ true → ⊥) → Different (list ++ other)
different_append [] other d d' apart = d'
different_append (x ∷ list) other d d' apart = (not_true→false _ (λ h. new (among-append x list other h)), different_append list other d.1 d' (λ y h. apart y (among_there y x list h)))
  where
    new : (among x list ≡ true) ⊎ (among x other ≡ true) → ⊥
    new (inl e) = clash e d.0
    new (inr e) = apart x (among-here x list) e

-- ---- each and any two

-- what each of the list has, every number among it has
pub all_among : (P : ℕ → Type 0) (x : ℕ) (list : List ℕ) → All P list → among x list ≡ true → P x
all_among P x [] a h = absurd (among-nil x h)
all_among P x (y ∷ list) a h = go (among_cases x y list h) (all_among P x list a.1)
  where
    go : (x ≡ y) ⊎ (among x list ≡ true) → (among x list ≡ true → P x) → P x
    go (inl e) ih = rw e a.0
    go (inr e) ih = ih e

-- ---- one for each of a list

-- what comes of one of the list is among what comes of all
pub among-map : (f : ℕ → ℕ) (x : ℕ) (list : List ℕ) → among x list ≡ true → among (f x) (map f list) ≡ true
among-map f x [] h = absurd (among-nil x h)
among-map f x (y ∷ list) h = go (among_cases x y list h) (among-map f x list)
  where
    go : (x ≡ y) ⊎ (among x list ≡ true) → (among x list ≡ true → among (f x) (map f list) ≡ true) → among (f x) (f y ∷ map f list) ≡ true
    go (inl e) ih = rw e (among-here (f y) (map f list))
    go (inr e) ih = among_there (f x) (f y) (map f list) (ih e)

-- what each gives has the property
pub all_map {ℓ} : {A : Type ℓ} (P : A → Type 0) (f : ℕ → A) (list : List ℕ) → ((x : ℕ) → among x list ≡ true → P (f x)) → All P (map f list)
all_map P f [] each = tt
all_map P f (x ∷ list) each = (each x (among-here x list), all_map P f list (λ y h. each y (among_there y x list h)))

-- what any two different ones give stands in the relation
pub any_two_map {ℓ} : {A : Type ℓ} (R : A → A → Type 0) (f : ℕ → A) (list : List ℕ) → Different list → ((x y : ℕ) → among x list ≡ true → among y list ≡ true → (x ≡ y → ⊥) → R (f x) (f y)) → AnyTwo R (map f list)
any_two_map R f [] d two = tt
any_two_map R f (x ∷ list) d two = (
  all_map (R (f x)) f list (λ y h. two x y (among-here x list) (among_there y x list h) (λ (e : x ≡ y). clash (rw e h) d.0)),
  any_two_map R f list d.1 (λ y z h h'. two y z (among_there y x list h) (among_there z x list h')),
)

-- a property of each is one of each where it follows
pub all_follow {ℓ} : {A : Type ℓ} (P Q : A → Type 0) → ((x : A) → P x → Q x) → (list : List A) → All P list → All Q list
all_follow P Q follows [] all = tt
all_follow P Q follows (x ∷ list) all = (follows x all.0, all_follow P Q follows list all.1)

-- what each of a list has, the one at an index has
pub all_at {ℓ} : {A : Type ℓ} (P : A → Type 0) (list : List A) (i : ℕ) (other : A) → All P list → i < length list → P (get_or list i other)
all_at P [] i other all l = absurd (not-suc-le-zero l)
all_at P (x ∷ list) zero other all l = all.0
all_at P (x ∷ list) (suc i) other all l = all_at P list i other all.1 (omega arith)

-- what holds of every number among a list holds of each of it
pub all_from : (P : ℕ → Type 0) (list : List ℕ) → ((x : ℕ) → among x list ≡ true → P x) → All P list
all_from P [] holds = tt
all_from P (x ∷ list) holds = (holds x (among-here x list), all_from P list (λ y h. holds y (among_there y x list h)))

-- ---- one number over and over

-- every place reads it, and past the end it is what is read anyway
pub same-everywhere : (a n i : ℕ) → get_or (replicate n a) i a ≡ a
same-everywhere a zero i = refl
same-everywhere a (suc n) zero = refl
same-everywhere a (suc n) (suc i) = same-everywhere a n i

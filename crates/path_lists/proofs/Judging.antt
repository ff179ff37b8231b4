-- The judge of a path list finds sound exactly the lists that are: its tests tell what document 02, 1/13 says in words. Assumes nothing.
use mathlib.Core.Path.{◌≡◌, refl, sym, ap, ◌∙◌, subst}
use mathlib.Core.Bool.{Bool, true, false, not, ◌&&◌, ◌||◌, false≢true}
use mathlib.Core.List.{List, [], ◌∷◌, ◌++◌}
use mathlib.Core.Logic.{◌⊎◌, inl, inr}
use Prim.Native.Nat.{ℕ, suc, ◌-◌, ◌<◌, ◌≤◌}
use native.Mathlib.Omega.{arith}
use lib.ListN.{length, take, drop}
use lib.Seq.{take-length, take-suc}
use borrow.Author.Tests.{eqb-true, eq-eqb}
use Rattle.basics.specs.Lists.{among, Different, All, AnyTwo}
use Rattle.basics.proofs.Bools.{clash, not_true→false, or_left, or_right, or_cases, and_left, and_right, and_both, Tells, tells_below, tells_equal, tells_and, tells_not, tells_same}
use Rattle.basics.proofs.Lists.{among-nil, among-here, among_there, among_cases, among_one, among-append, different_append, all_among, all_from, all_follow}
use Rattle.site.specs.Paths.{Disjoint}
use Rattle.path_lists.specs.Judge.{first_radio, last_radio, inner, RadioList, SoundLists, fresh, joins, is_direct, sound_after, is_sound}

-- ---- two lists, one after the other

among-left : (x : ℕ) (list other : List ℕ) → among x list ≡ true → among x (list ++ other) ≡ true
among-left x [] other h = absurd (among-nil x h)
among-left x (y ∷ list) other h = go (among_cases x y list h) (among-left x list other)
  where
    go : (x ≡ y) ⊎ (among x list ≡ true) → (among x list ≡ true → among x (list ++ other) ≡ true) → among x (y ∷ list ++ other) ≡ true
    go (inl e) ih = rw e (among-here y (list ++ other))
    go (inr e) ih = among_there x y (list ++ other) (ih e)

among-right : (x : ℕ) (list other : List ℕ) → among x other ≡ true → among x (list ++ other) ≡ true
among-right x [] other h = h
among-right x (y ∷ list) other h = among_there x y (list ++ other) (among-right x list other h)

-- where nothing is twice, nothing is twice in the first list, and the two share nothing
different_left : (list other : List ℕ) → Different (list ++ other) → Different list
different_left [] other d = tt
different_left (x ∷ list) other d = (not_true→false _ (λ h. clash (among-left x list other h) d.0), different_left list other d.1)

different_apart : (list other : List ℕ) → Different (list ++ other) → (x : ℕ) → among x list ≡ true → among x other ≡ true → ⊥
different_apart [] other d x h k = among-nil x h
different_apart (y ∷ list) other d x h k = go (among_cases x y list h) (different_apart list other d.1 x)
  where
    go : (x ≡ y) ⊎ (among x list ≡ true) → (among x list ≡ true → among x other ≡ true → ⊥) → ⊥
    go (inl e) ih = clash (among-right y list other (rw e at k)) d.0
    go (inr e) ih = ih e k

-- ---- fresh radios

untrue_tells : (b : Bool) → Tells (not b) (b ≡ true → ⊥)
untrue_tells b = tells_not b (λ e. e, λ e. e)

-- different radios below n, none of them among those seen
record Fresh (n : ℕ) (seen list : List ℕ) : Type 0 where
  below : All (λ v. v < n) list
  different : Different list
  new : (x : ℕ) → among x list ≡ true → among x seen ≡ true → ⊥

fresh-tells : (n : ℕ) (seen list : List ℕ) → Tells (fresh n seen list) (Fresh n seen list)
unfolding fresh
fresh-tells n seen [] = (λ e. record { below = tt; different = tt; new = λ x h. absurd (among-nil x h) }, λ f. refl)
fresh-tells n seen (v ∷ list) = tells_same _ (tells_and _ _ (tells_and _ _ (tells_below v n) (untrue_tells _)) (fresh-tells n (v ∷ seen) list)) (there, back)
  where
    there : ((v < n) × (among v seen ≡ true → ⊥)) × Fresh n (v ∷ seen) list → Fresh n seen (v ∷ list)
    there ((small, unseen), rest) = record {
      below = (small, rest.below);
      different = (not_true→false _ (λ h. rest.new v h (among-here v seen)), rest.different);
      new = λ x h k. cases x k (among_cases x v list h);
    }
      where
        cases : (x : ℕ) → among x seen ≡ true → (x ≡ v) ⊎ (among x list ≡ true) → ⊥
        cases x k (inl e) = unseen (rw e at k)
        cases x k (inr e) = rest.new x e (among_there x v seen k)

    back : Fresh n seen (v ∷ list) → ((v < n) × (among v seen ≡ true → ⊥)) × Fresh n (v ∷ seen) list
    back all = ((all.below.0, all.new v (among-here v list)), record { below = all.below.1; different = all.different.1; new = λ x h k. cases x h (among_cases x v seen k) })
      where
        cases : (x : ℕ) → among x list ≡ true → (x ≡ v) ⊎ (among x seen ≡ true) → ⊥
        cases x h (inl e) = clash (rw e at h) all.different.0
        cases x h (inr e) = all.new x (among_there x v list h) e

-- ---- the parts of a path

pub path-parts : (path : List ℕ) → 2 ≤ length path → path ≡ first_radio path ∷ (inner path ++ (last_radio path ∷ []))
path-parts [] h = absurd (omega arith)
path-parts (x ∷ []) h = absurd (omega arith)
path-parts (x ∷ y ∷ rest) h =
    let two-less : suc (suc (length rest)) - 2 ≡ length rest = omega arith in
    let one_less : suc (suc (length rest)) - 1 ≡ suc (length rest) = omega arith in
    rw (two-less, one_less) (ap (λ (list : List ℕ). x ∷ list) (sym (take-length (y ∷ rest)) ∙ take-suc (y ∷ rest) (length rest) 0 (omega arith)))

-- two or more radios from S to T
record Ends (S T : ℕ) (path : List ℕ) : Type 0 where
  two_or_more : 2 ≤ length path
  first : first_radio path ≡ S
  last : last_radio path ≡ T

joins-tells : (S T : ℕ) (path : List ℕ) → Tells (joins S T path) (Ends S T path)
unfolding joins
joins-tells S T path = tells_same _ (tells_and _ _ (tells_and _ _ (tells_below 1 (length path)) (tells_equal (first_radio path) S)) (tells_equal (last_radio path) T)) (there, back)
  where
    there : ((2 ≤ length path) × (first_radio path ≡ S)) × (last_radio path ≡ T) → Ends S T path
    there ((long, from), to) = record { two_or_more = long; first = from; last = to }

    back : Ends S T path → ((2 ≤ length path) × (first_radio path ≡ S)) × (last_radio path ≡ T)
    back ends = ((ends.two_or_more, ends.first), ends.last)

module _ {S T : ℕ} {path : List ℕ} (ends : Ends S T path) where
  parts : path ≡ S ∷ (inner path ++ (T ∷ []))
  parts = path-parts path ends.two_or_more ∙ (λ i. ends.first i ∷ (inner path ++ (ends.last i ∷ [])))

  among_inner : (x : ℕ) → among x (inner path) ≡ true → among x path ≡ true
  among_inner x h = subst (λ (p : List ℕ). among x p ≡ true) (sym parts) (among_there x S _ (among-left x (inner path) (T ∷ []) h))

  among_path : (x : ℕ) → among x path ≡ true → (among x (inner path) ≡ true) ⊎ ((x ≡ S) ⊎ (x ≡ T))
  among_path x h = go (among_cases x S _ (subst (λ (p : List ℕ). among x p ≡ true) parts h))
    where
      inside : (among x (inner path) ≡ true) ⊎ (among x (T ∷ []) ≡ true) → (among x (inner path) ≡ true) ⊎ ((x ≡ S) ⊎ (x ≡ T))
      inside (inl e) = inl e
      inside (inr e) = inr (inr (among_one x T e))

      go : (x ≡ S) ⊎ (among x (inner path ++ (T ∷ [])) ≡ true) → (among x (inner path) ≡ true) ⊎ ((x ≡ S) ⊎ (x ≡ T))
      go (inl e) = inr (inl e)
      go (inr e) = inside (among-append x (inner path) (T ∷ []) e)

  -- the direct link alone is one list, so two of them are the same
  direct_path : is_direct path ≡ true → path ≡ S ∷ T ∷ []
  direct_path h = parts ∙ ap (λ (list : List ℕ). S ∷ (list ++ (T ∷ []))) nothing
    where
      nothing : inner path ≡ []
      nothing = ap (λ (k : ℕ). take (k - 2) (drop 1 path)) (eqb-true (length path) 2 h)

  some_inside : is_direct path ≡ false → (x : ℕ) × (among x (inner path) ≡ true)
  some_inside h = go (inner path) refl
    where
      go : (list : List ℕ) → inner path ≡ list → (x : ℕ) × (among x (inner path) ≡ true)
      go [] e = clash (eq-eqb (length path) 2 (ap length (parts ∙ ap (λ (list : List ℕ). S ∷ (list ++ (T ∷ []))) e))) h
      go (x ∷ list) e = (x, subst (λ (l : List ℕ). among x l ≡ true) (sym e) (among-here x list))

-- ---- a path after others

-- what the judge asks of it, with these radios seen before it and the direct link taken or not
record Fits (n S T : ℕ) (seen : List ℕ) (taken : Bool) (path : List ℕ) : Type 0 where
  ends : Ends S T path
  link : (taken && is_direct path) ≡ true → ⊥
  inside : Fresh n seen (inner path)

fits_tells : (n S T : ℕ) (seen : List ℕ) (taken : Bool) (path : List ℕ)
    → Tells (joins S T path && not (taken && is_direct path) && fresh n seen (inner path)) (Fits n S T seen taken path)
fits_tells n S T seen taken path = tells_same _ (tells_and _ _ (tells_and _ _ (joins-tells S T path) (untrue_tells _)) (fresh-tells n seen (inner path))) (there, back)
  where
    there : (Ends S T path × ((taken && is_direct path) ≡ true → ⊥)) × Fresh n seen (inner path) → Fits n S T seen taken path
    there ((ends, link), inside) = record { ends = ends; link = link; inside = inside }

    back : Fits n S T seen taken path → (Ends S T path × ((taken && is_direct path) ≡ true → ⊥)) × Fresh n seen (inner path)
    back fits = ((fits.ends, fits.link), fits.inside)

-- a path that fits after this one fits without it and is disjoint from it, and the other way round
module _ {n S T : ℕ} {seen : List ℕ} {taken : Bool} {path : List ℕ} (fits : Fits n S T seen taken path) (q : List ℕ) where
  abbrev Later : Type 0
  Later = Fits n S T (inner path ++ seen) (taken || is_direct path) q

  later_fits : Later → Fits n S T seen taken q
  later_fits later = record {
    ends = later.ends;
    link = λ k. later.link (and_both _ _ (or_left taken _ (and_left taken _ k)) (and_right taken _ k));
    inside = record { below = later.inside.below; different = later.inside.different; new = λ x h k. later.inside.new x h (among-right x (inner path) seen k) };
  }

  later_disjoint : Later → Disjoint S T path q
  later_disjoint later = record { differ = λ e. same e (is_direct path) refl; apart = λ x h k. shared x (among_path fits.ends x h) (among_path later.ends x k) }
    where
      same : path ≡ q → (b : Bool) → is_direct path ≡ b → ⊥
      same e true d = later.link (and_both _ _ (or_right taken _ d) (subst (λ (p : List ℕ). is_direct p ≡ true) e d))
      same e false d =
          let some : (x : ℕ) × (among x (inner path) ≡ true) = some_inside fits.ends d in
          later.inside.new some.0 (subst (λ (p : List ℕ). among some.0 (inner p) ≡ true) e some.1) (among-left some.0 (inner path) seen some.1)

      shared : (x : ℕ) → (among x (inner path) ≡ true) ⊎ ((x ≡ S) ⊎ (x ≡ T)) → (among x (inner q) ≡ true) ⊎ ((x ≡ S) ⊎ (x ≡ T)) → (x ≡ S) ⊎ (x ≡ T)
      shared x (inr e) k = e
      shared x (inl h) (inr e) = e
      shared x (inl h) (inl k) = absurd (later.inside.new x k (among-left x (inner path) seen h))

  fits_later : among S seen ≡ true → among T seen ≡ true → Fits n S T seen taken q → Disjoint S T path q → Later
  fits_later S-seen T-seen other disjoint = record {
    ends = other.ends;
    link = λ k. direct (and_right (taken || is_direct path) _ k) (or_cases taken _ (and_left _ _ k));
    inside = record { below = other.inside.below; different = other.inside.different; new = λ x h k. unseen x h (among-append x (inner path) seen k) };
  }
    where
      direct : is_direct q ≡ true → (taken ≡ true) ⊎ (is_direct path ≡ true) → ⊥
      direct d (inl t) = other.link (and_both _ _ t d)
      direct d (inr d') = disjoint.differ (direct_path fits.ends d' ∙ sym (direct_path other.ends d))

      an_end : (x : ℕ) → among x (inner q) ≡ true → (x ≡ S) ⊎ (x ≡ T) → ⊥
      an_end x h (inl e) = other.inside.new x h (rw e S-seen)
      an_end x h (inr e) = other.inside.new x h (rw e T-seen)

      unseen : (x : ℕ) → among x (inner q) ≡ true → (among x (inner path) ≡ true) ⊎ (among x seen ≡ true) → ⊥
      unseen x h (inl k) = an_end x h (disjoint.apart x (among_inner fits.ends x k) (among_inner other.ends x h))
      unseen x h (inr k) = other.inside.new x h k

-- ---- path by path

-- what follows from two properties, each has where each has the two
all_with {ℓ} : {A : Type ℓ} (P Q R : A → Type 0) → ((x : A) → P x → Q x → R x) → (list : List A) → All P list → All Q list → All R list
all_with P Q R follows [] p q = tt
all_with P Q R follows (x ∷ list) p q = (follows x p.0 q.0, all_with P Q R follows list p.1 q.1)

-- each has the property, and any two are disjoint
abbrev EachApart : (S T : ℕ) → (List ℕ → Type 0) → List (List ℕ) → Type 0
EachApart S T P paths = All P paths × AnyTwo (Disjoint S T) paths

-- the ends count as seen: no path has them inside
after_tells : (n S T : ℕ) (seen : List ℕ) (taken : Bool) (paths : List (List ℕ)) → among S seen ≡ true → among T seen ≡ true
    → Tells (sound_after n S T seen taken paths) (EachApart S T (Fits n S T seen taken) paths)
unfolding sound_after
after_tells n S T seen taken [] S-seen T-seen = (λ e. (tt, tt), λ f. refl)
after_tells n S T seen taken (path ∷ paths) S-seen T-seen = tells_same _ (tells_and _ _ (fits_tells n S T seen taken path) (
    after_tells n S T (inner path ++ seen) (taken || is_direct path) paths (among-right S (inner path) seen S-seen) (among-right T (inner path) seen T-seen))) (there, back)
  where
    Before : List ℕ → Type 0
    Before = Fits n S T seen taken

    After : List ℕ → Type 0
    After = Fits n S T (inner path ++ seen) (taken || is_direct path)

    there : Before path × EachApart S T After paths → EachApart S T Before (path ∷ paths)
    there (fits, (all, two)) = ((fits, all_follow After Before (later_fits fits) paths all), (all_follow After (Disjoint S T path) (later_disjoint fits) paths all, two))

    back : EachApart S T Before (path ∷ paths) → Before path × EachApart S T After paths
    back ((fits, all), (apart, two)) = (fits, (all_with Before (Disjoint S T path) After (λ q. fits_later fits q S-seen T-seen) paths all apart, two))

-- ---- the lists in words

-- one path by itself, where only the ends are seen
module _ {n S T : ℕ} {path : List ℕ} where
  fits_radios : Fresh n [] (S ∷ T ∷ []) → Fits n S T (S ∷ T ∷ []) false path → RadioList n S T path
  fits_radios two fits = record {
    two_or_more = fits.ends.two_or_more;
    different = subst Different (sym (parts fits.ends)) (not_true→false _ (λ h. once (among-append S (inner path) (T ∷ []) h)), others);
    below = all_from (λ v. v < n) path (λ x h. small x (among_path fits.ends x h));
    first = fits.ends.first;
    last = fits.ends.last;
  }
    where
      once : (among S (inner path) ≡ true) ⊎ (among S (T ∷ []) ≡ true) → ⊥
      once (inl e) = fits.inside.new S e (among-here S (T ∷ []))
      once (inr e) = clash e two.different.0

      others : Different (inner path ++ (T ∷ []))
      others = different_append (inner path) (T ∷ []) fits.inside.different two.different.1 (λ x h k. fits.inside.new x h (among_there x S (T ∷ []) k))

      small : (x : ℕ) → (among x (inner path) ≡ true) ⊎ ((x ≡ S) ⊎ (x ≡ T)) → x < n
      small x (inl h) = all_among (λ v. v < n) x (inner path) fits.inside.below h
      small x (inr (inl e)) = rw e two.below.0
      small x (inr (inr e)) = rw e two.below.1.0

  module _ (radios : RadioList n S T path) where
    ends_of : Ends S T path
    ends_of = record { two_or_more = radios.two_or_more; first = radios.first; last = radios.last }

    parts_different : Different (S ∷ (inner path ++ (T ∷ [])))
    parts_different = subst Different (parts ends_of) radios.different

    parts_below : All (λ v. v < n) (S ∷ (inner path ++ (T ∷ [])))
    parts_below = subst (All (λ v. v < n)) (parts ends_of) radios.below

    radios_ends : Fresh n [] (S ∷ T ∷ [])
    radios_ends = record {
      below = (parts_below.0, (all_among (λ v. v < n) T (inner path ++ (T ∷ [])) parts_below.1 (among-right T (inner path) (T ∷ []) (among-here T [])), tt));
      different = (not_true→false _ (λ h. clash (among-right S (inner path) (T ∷ []) h) parts_different.0), (not_true→false _ (among-nil T), tt));
      new = λ x h. among-nil x;
    }

    radios_fit : Fits n S T (S ∷ T ∷ []) false path
    radios_fit = record {
      ends = ends_of;
      link = false≢true;
      inside = record {
        below = all_from (λ v. v < n) (inner path) (λ x h. all_among (λ v. v < n) x path radios.below (among_inner ends_of x h));
        different = different_left (inner path) (T ∷ []) parts_different.1;
        new = λ x h k. an_end x h (among_cases x S (T ∷ []) k);
      };
    }
      where
        an_end : (x : ℕ) → among x (inner path) ≡ true → (x ≡ S) ⊎ (among x (T ∷ []) ≡ true) → ⊥
        an_end x h (inl e) = clash (among-left S (inner path) (T ∷ []) (rw e at h)) parts_different.0
        an_end x h (inr e) = different_apart (inner path) (T ∷ []) parts_different.1 x h e

-- ---- the judge

-- from the ends of the first path on
ends_tell : (n S T : ℕ) (path : List ℕ) (paths : List (List ℕ))
    → Tells (fresh n [] (S ∷ T ∷ []) && sound_after n S T (S ∷ T ∷ []) false (path ∷ paths)) (EachApart S T (RadioList n S T) (path ∷ paths))
ends_tell n S T path paths = tells_same _ (tells_and _ _ (fresh-tells n [] (S ∷ T ∷ [])) (
    after_tells n S T (S ∷ T ∷ []) false (path ∷ paths) (among-here S (T ∷ [])) (among_there T S (T ∷ []) (among-here T [])))) (there, back)
  where
    Fit : List ℕ → Type 0
    Fit = Fits n S T (S ∷ T ∷ []) false

    there : Fresh n [] (S ∷ T ∷ []) × EachApart S T Fit (path ∷ paths) → EachApart S T (RadioList n S T) (path ∷ paths)
    there (ends, (all, two)) = (all_follow Fit (RadioList n S T) (λ q. fits_radios ends) (path ∷ paths) all, two)

    back : EachApart S T (RadioList n S T) (path ∷ paths) → Fresh n [] (S ∷ T ∷ []) × EachApart S T Fit (path ∷ paths)
    back (all, two) = (radios_ends all.0, (all_follow (RadioList n S T) Fit (λ q. radios_fit) (path ∷ paths) all, two))

pub sound_tells : (n : ℕ) (paths : List (List ℕ)) → Tells (is_sound n paths) (SoundLists n paths)
unfolding is_sound
sound_tells n [] = (λ e. record { S = 0; T = 0; each = tt; two = tt }, λ s. refl)
sound_tells n (path ∷ paths) = (there, back)
  where
    first : ℕ
    first = first_radio path

    last : ℕ
    last = last_radio path

    there : is_sound n (path ∷ paths) ≡ true → SoundLists n (path ∷ paths)
    there e = let told : EachApart first last (RadioList n first last) (path ∷ paths) = (ends_tell n first last path paths).0 e in record { S = first; T = last; each = told.0; two = told.1 }

    back : SoundLists n (path ∷ paths) → is_sound n (path ∷ paths) ≡ true
    back sound =
        let judged : ℕ → ℕ → Bool = λ S T. fresh n [] (S ∷ T ∷ []) && sound_after n S T (S ∷ T ∷ []) false (path ∷ paths) in
        (λ i. judged (sound.each.0.first i) (sound.each.0.last i)) ∙ (ends_tell n sound.S sound.T path paths).1 (sound.each, sound.two)

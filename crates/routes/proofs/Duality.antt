-- Over the map alone: as many items as paths are enough, the largest number is one, and what a family of disjoint paths holds. Assumes nothing.
use mathlib.Core.Path.{◌≡◌, refl, sym, ◌∙◌}
use mathlib.Core.Bool.{true, false}
use mathlib.Core.List.{List, [], ◌∷◌, ◌++◌}
use mathlib.Core.Logic.{◌⊎◌, inl, inr}
use Prim.Native.Nat.{ℕ, ◌+◌, ◌*◌, ◌≤◌, ◌<◌}
use native.Mathlib.Omega.{arith}
use lib.ListN.{length, length-append}
use Rattle.basics.specs.Lists.{among, Different, All, AnyTwo}
use Rattle.basics.proofs.Bools.{clash, not_true→false}
use Rattle.basics.proofs.Lists.{among-nil, among-here, among_there, among_cases, erase, erase_length, erase_keeps, erase_among, erase_different, among-append, different_append, all_among, different_below}
use Rattle.site.specs.Map.{Site}
use Rattle.site.specs.Paths.{LeadsToT, Path, Disjoint, DisjointPaths, Largest, CutItem, Meets}
use Rattle.site.proofs.Steps.{linked-says}
use Rattle.site.proofs.Valid.{Valid}

-- ---- items and paths

module _ (site : Site) (small : site.n ≤ 64) where
  -- no item meets two disjoint paths
  pub meets_one : (x : ℕ) (p q : List ℕ) → CutItem site x → Disjoint site.S site.T p q → Meets site x p → Meets site x q → ⊥
  meets_one x p q (inl radio) d (inl on) (inl on') = ends (d.apart x on.1 on'.1)
    where
      ends : (x ≡ site.S) ⊎ (x ≡ site.T) → ⊥
      ends (inl e) = radio.1 e
      ends (inr e) = radio.2 e
  meets_one x p q (inr direct) d (inl on) (inl on') = omega (arith, direct.0, on.0)
  meets_one x p q item d (inl on) (inr is) = omega (arith, on.0, is.0)
  meets_one x p q item d (inr is) (inl on) = omega (arith, on.0, is.0)
  meets_one x p q item d (inr is) (inr is') = d.differ (is.1 ∙ sym is'.1)

  -- an item that meets the path
  abbrev Met : List ℕ → List ℕ → Type 0
  Met items p = (x : ℕ) × (among x items ≡ true) × CutItem site x × Meets site x p

  -- what meets the others is still there without the item of the first
  still_met : (items : List ℕ) (p : List ℕ) (first : Met items p) (ps : List (List ℕ)) → All (Disjoint site.S site.T p) ps → All (Met items) ps → All (Met (erase first.0 items)) ps
  still_met items p first [] apart met = tt
  still_met items p first (q ∷ ps) apart met =
      let y : ℕ = met.0.0 in
      let other : y ≡ first.0 → ⊥ = λ e. meets_one y p q met.0.2 apart.0 (rw e first.3) met.0.3 in
      ((y, erase_keeps first.0 y items other met.0.1, met.0.2, met.0.3), still_met items p first ps apart.1 met.1)

  no_more : (items : List ℕ) (ps : List (List ℕ)) → AnyTwo (Disjoint site.S site.T) ps → All (Met items) ps → length ps ≤ length items
  no_more items [] two met = omega arith
  no_more items (p ∷ ps) two met =
      let x : ℕ = met.0.0 in
      omega (arith, no_more (erase x items) ps two.1 (still_met items p met.0 ps two.0 met.1), erase_length x items met.0.1)

  -- where every path of the map meets one of the items, there are no more disjoint paths than items
  pub fewer_than_items : (items : List ℕ) → All (CutItem site) items → ((p : List ℕ) → Path site p → (x : ℕ) × (among x items ≡ true) × Meets site x p) → (ps : List (List ℕ)) → DisjointPaths site ps → length ps ≤ length items
  fewer_than_items items sound meets ps family = no_more items ps family.two (met ps family.each)
    where
      met : (ps : List (List ℕ)) → All (Path site) ps → All (Met items) ps
      met [] each = tt
      met (p ∷ ps) each = let m = meets p each.0 in ((m.0, m.1, all_among (CutItem site) m.0 items sound m.1, m.2), met ps each.1)

-- ---- the largest number

-- there is one largest number
pub largest_unique : {site : Site} {M M' : ℕ} → Largest site M → Largest site M' → M ≡ M'
largest_unique most most' = omega (arith, most.number, most'.number, most.most most'.some most'.good, most'.most most.some most.good)

-- ---- the radios of a path

-- where a path ends
pub leads_to_T : (site : Site) (u v : ℕ) (rest : List ℕ) → LeadsToT site u (v ∷ rest) → among site.T (v ∷ rest) ≡ true
leads_to_T site u v [] w = rw w.1 (among-here site.T [])
leads_to_T site u v (x ∷ rest) w = among_there site.T v (x ∷ rest) (leads_to_T site v x rest w.1)

-- every radio of a path is one of the map
leads_below : (site : Site) (x u : ℕ) (rest : List ℕ) → LeadsToT site u rest → among x rest ≡ true → x < site.n
leads_below site x u [] w h = absurd (among-nil x h)
leads_below site x u (v ∷ rest) w h = go (among_cases x v rest h) (leads_below site x v rest w.1)
  where
    go : (x ≡ v) ⊎ (among x rest ≡ true) → (among x rest ≡ true → x < site.n) → x < site.n
    go (inl e) ih = omega (arith, (linked-says site u v w.0).to_below)
    go (inr e) ih = ih e

pub path-below : {site : Site} → Valid site → {p : List ℕ} → Path site p → (x : ℕ) → among x p ≡ true → x < site.n
path-below {site} valid path x h = go (among_cases x site.S path.rest (rw path.from-S at h))
  where
    go : (x ≡ site.S) ⊎ (among x path.rest ≡ true) → x < site.n
    go (inl e) = omega (arith, valid.S_below)
    go (inr e) = leads_below site x site.S path.rest path.to-T e

-- a path has no more radios than the map
pub path-few : {site : Site} → Valid site → {p : List ℕ} → Path site p → length p ≤ site.n
path-few {site} valid {p} path = different_below p site.n path.different (path-below valid path)

-- how many radios the paths list, one after another
unfoldable pub radios_in : List (List ℕ) → ℕ
radios_in [] = 0
radios_in (p ∷ ps) = length p + radios_in ps

module _ (site : Site) (valid : Valid site) where
  -- the radios between S and T
  abbrev inner : List ℕ → List ℕ
  inner p = erase site.T (erase site.S p)

  abbrev inner_of : List (List ℕ) → List ℕ
  inner_of [] = []
  inner_of (p ∷ ps) = inner p ++ inner_of ps

  S_on : (p : List ℕ) → Path site p → among site.S p ≡ true
  S_on p path = rw path.from-S (among-here site.S path.rest)

  T_on : (p : List ℕ) → Path site p → among site.T p ≡ true
  T_on p path = rw path.from-S (go path.rest path.to-T)
    where
      go : (rest : List ℕ) → LeadsToT site site.S rest → among site.T (site.S ∷ rest) ≡ true
      go [] w = absurd (valid.ends_differ w)
      go (v ∷ rest) w = among_there site.T site.S (v ∷ rest) (leads_to_T site site.S v rest w)

  -- all radios of a path but two stand between S and T
  inner_length : (p : List ℕ) → Path site p → length (inner p) + 2 ≡ length p
  inner_length p path = omega (
    arith,
    erase_length site.S p (S_on p path),
    erase_length site.T (erase site.S p) (erase_keeps site.S site.T p (λ e. valid.ends_differ (sym e)) (T_on p path)),
  )

  -- x is a radio of the path other than S and T
  record Inner (x : ℕ) (p : List ℕ) : Type 0 where
    on : among x p ≡ true
    below : x < site.n
    not_s : x ≡ site.S → ⊥
    not_T : x ≡ site.T → ⊥

  inner_says : (x : ℕ) (p : List ℕ) → Path site p → among x (inner p) ≡ true → Inner x p
  inner_says x p path h =
      let without-S : Different (erase site.S p) × (among site.S (erase site.S p) ≡ false) = erase_different site.S p path.different in
      let there : among x (erase site.S p) ≡ true = erase_among site.T x (erase site.S p) h in
      let on : among x p ≡ true = erase_among site.S x p there in
      record {
        on = on;
        below = path-below valid path x on;
        not_s = λ e. clash (rw e at there) without-S.1;
        not_T = λ e. clash (rw e at h) (erase_different site.T (erase site.S p) without-S.0).1;
      }

  inner_different : (p : List ℕ) → Path site p → Different (inner p)
  inner_different p path = (erase_different site.T (erase site.S p) (erase_different site.S p path.different).0).0

  -- what stands inside a path stands in no path disjoint from it
  not_inside : (x : ℕ) (p : List ℕ) → Inner x p → (ps : List (List ℕ)) → All (Path site) ps → All (Disjoint site.S site.T p) ps → among x (inner_of ps) ≡ true → ⊥
  not_inside x p i [] each apart h = among-nil x h
  not_inside x p i (q ∷ ps) each apart h = go (among-append x (inner q) (inner_of ps) h) (not_inside x p i ps each.1 apart.1)
    where
      ends : (x ≡ site.S) ⊎ (x ≡ site.T) → ⊥
      ends (inl e) = i.not_s e
      ends (inr e) = i.not_T e

      go : (among x (inner q) ≡ true) ⊎ (among x (inner_of ps) ≡ true) → (among x (inner_of ps) ≡ true → ⊥) → ⊥
      go (inl e) ih = ends (apart.0.apart x i.on (inner_says x q each.0 e).on)
      go (inr e) ih = ih e

  all_different : (ps : List (List ℕ)) → All (Path site) ps → AnyTwo (Disjoint site.S site.T) ps → Different (inner_of ps)
  all_different [] each two = tt
  all_different (p ∷ ps) each two = different_append (inner p) (inner_of ps) (inner_different p each.0) (all_different ps each.1 two.1) (λ x h. not_inside x p (inner_says x p each.0 h) ps each.1 two.0)

  -- what stands inside one of the paths
  inside_some : (x : ℕ) (ps : List (List ℕ)) → All (Path site) ps → among x (inner_of ps) ≡ true → (p : List ℕ) × Inner x p
  inside_some x [] each h = absurd (among-nil x h)
  inside_some x (p ∷ ps) each h = go (among-append x (inner p) (inner_of ps) h) (inside_some x ps each.1)
    where
      go : (among x (inner p) ≡ true) ⊎ (among x (inner_of ps) ≡ true) → (among x (inner_of ps) ≡ true → (p : List ℕ) × Inner x p) → (p : List ℕ) × Inner x p
      go (inl e) ih = (p, inner_says x p each.0 e)
      go (inr e) ih = ih e

  inner_count : (ps : List (List ℕ)) → All (Path site) ps → length (inner_of ps) + 2 * length ps ≡ radios_in ps
  unfolding radios_in
  inner_count [] each = refl
  inner_count (p ∷ ps) each = omega (arith, inner_count ps each.1, inner_length p each.0, length-append (inner p) (inner_of ps))

  -- a list of disjoint paths has at most n − 2 radios and two more for each path
  pub few_bytes : (ps : List (List ℕ)) → DisjointPaths site ps → radios_in ps + 2 ≤ site.n + 2 * length ps
  few_bytes ps family = omega (arith, inner_count ps family.each, different_below (site.S ∷ site.T ∷ inner_of ps) site.n different below)
    where
      said : (x : ℕ) → among x (inner_of ps) ≡ true → (p : List ℕ) × Inner x p
      said x = inside_some x ps family.each

      different : Different (site.S ∷ site.T ∷ inner_of ps)
      different = (not_true→false _ (λ h. new_s (among_cases site.S site.T (inner_of ps) h)), (not_true→false _ (λ h. (said site.T h).1.not_T refl), all_different ps family.each family.two))
        where
          new_s : (site.S ≡ site.T) ⊎ (among site.S (inner_of ps) ≡ true) → ⊥
          new_s (inl e) = valid.ends_differ e
          new_s (inr e) = (said site.S e).1.not_s refl

      below : (x : ℕ) → among x (site.S ∷ site.T ∷ inner_of ps) ≡ true → x < site.n
      below x h = go (among_cases x site.S (site.T ∷ inner_of ps) h)
        where
          after : (x ≡ site.T) ⊎ (among x (inner_of ps) ≡ true) → x < site.n
          after (inl e) = omega (arith, valid.T_below)
          after (inr e) = (said x e).1.below

          go : (x ≡ site.S) ⊎ (among x (site.T ∷ inner_of ps) ≡ true) → x < site.n
          go (inl e) = omega (arith, valid.S_below)
          go (inr e) = after (among_cases x site.T (inner_of ps) e)

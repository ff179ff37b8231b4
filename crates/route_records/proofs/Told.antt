-- The records of sound lists tell these lists again. Assumes nothing.
use mathlib.Core.Path.{◌≡◌, refl, sym, ap, ◌∙◌}
use mathlib.Core.Bool.{Bool, true, false, cond, ◌&&◌}
use mathlib.Core.List.{List, [], ◌∷◌}
use mathlib.Core.Logic.{◌⊎◌, inl, inr}
use Prim.Native.Nat.{ℕ, zero, suc, ◌+◌, ◌-◌, ◌≤◌, ◌<◌}
use native.Mathlib.Omega.{arith}
use native.Mathlib.Numerals.{add-one}
use native.Mathlib.Decide.{ℕ_discrete}
use lib.Dec.{eqb, ltb}
use lib.ListN.{length, get_or, take, drop, drop_of_length-le}
use lib.Seq.{drop-cons, take-suc, take-length}
use borrow.Author.Tests.{eq-eqb, ne_eqb, eqb-true, lt-ltb, le-ltb, ltb-true}
use Rattle.basics.specs.Counting.{first_from}
use Rattle.basics.specs.Lists.{All, AnyTwo}
use Rattle.basics.proofs.Bools.{and_left, and_right, not_true→false}
use Rattle.basics.proofs.Counting.{first_is}
use Rattle.basics.proofs.Lists.{all_at, all_among, different_below}
use Rattle.site.specs.Paths.{Disjoint}
use Rattle.path_lists.specs.Judge.{RadioList, SoundLists}
use Rattle.route_records.specs.declared.Role.TheVariants.{OffPaths, Source, Sink}
use Rattle.route_records.specs.declared.Route.{Route}
use Rattle.route_records.specs.Records.{alone, record_in, place_in, record_at, record_from, record_of}
use Rattle.route_records.specs.Told.{first_with, following, start_of, path_told, paths_told}
use Rattle.route_records.proofs.Places.{among-at, one_place, at_place, place_of}

-- ---- the record at a place of a path

module _ (number : ℕ) (path : List ℕ) where
  pub at_source : record_at number path 0 ≡ alone Source
  unfolding record_at
  at_source = refl

  pub at_sink : (i : ℕ) → (i ≡ 0 → ⊥) → i + 1 ≡ length path → record_at number path i ≡ alone Sink
  unfolding record_at
  at_sink i some last = rw (ne_eqb i 0 some, eq-eqb (i + 1) (length path) last) refl

  pub at_inner : (i : ℕ) → (i ≡ 0 → ⊥) → (i + 1 ≡ length path → ⊥) → record_at number path i ≡ record { role = 1; path = number; before = get_or path (i - 1) 0; after = get_or path (i + 1) 0 }
  unfolding record_at
  at_inner i some more = rw (ne_eqb i 0 some, ne_eqb (i + 1) (length path) more) refl

-- ---- a record is that of a place of a path

-- radio v stands at a place of path number i, counted from 0, which gives the record
record Placed (paths : List (List ℕ)) (number : ℕ) (v : ℕ) (route : Route) : Type 0 where
  i : ℕ
  place : ℕ
  below : i < length paths
  there : place < length (get_or paths i [])
  is : get_or (get_or paths i []) place 0 ≡ v
  gives : route ≡ record_at (number + i) (get_or paths i []) place

-- either it is on no path, or it stands at one
placed : (number : ℕ) (paths : List (List ℕ)) (v : ℕ) → (record_from number paths v ≡ alone OffPaths) ⊎ Placed paths number v (record_from number paths v)
unfolding record_from
placed number [] v = inl refl
placed number (path ∷ paths) v = go (ltb (place_in path v) (length path)) refl (placed (suc number) paths v)
  where
    go : (b : Bool) → ltb (place_in path v) (length path) ≡ b → (record_from (suc number) paths v ≡ alone OffPaths) ⊎ Placed paths (suc number) v (record_from (suc number) paths v)
        → (cond b (record_at number path (place_in path v)) (record_from (suc number) paths v) ≡ alone OffPaths) ⊎ Placed (path ∷ paths) number v (cond b (record_at number path (place_in path v)) (record_from (suc number) paths v))
    go true e later =
        let l = ltb-true _ _ e in
        inr (record { i = 0; place = place_in path v; below = omega arith; there = l; is = at_place path v l; gives = ap (λ (k : ℕ). record_at k path (place_in path v)) (omega arith) })
    go false e (inl none) = inl none
    go false e (inr p) = inr (record { i = suc p.i; place = p.place; below = omega (arith, p.below); there = p.there; is = p.is; gives = p.gives ∙ ap (λ (k : ℕ). record_at k (get_or paths p.i []) p.place) (omega arith) })

module _ (n S T : ℕ) where
  -- ---- each radio of a path has the record of its place there

  -- the first and the last radio have the same record on every path
  same_ends : (number number' : ℕ) {i j v : ℕ} {p q : List ℕ} → RadioList n S T p → RadioList n S T q → i < length p → j < length q → get_or p i 0 ≡ v → get_or q j 0 ≡ v → (v ≡ S) ⊎ (v ≡ T) → record_at number p i ≡ record_at number' q j
  same_ends number number' {i} {j} {v} {p} {q} rp rq below below' is is' (inl e) =
      let zero-i : i ≡ 0 = one_place p rp.different i 0 below (omega (arith, rp.two_or_more)) (is ∙ e ∙ sym rp.first) in
      let zero-j : j ≡ 0 = one_place q rq.different j 0 below' (omega (arith, rq.two_or_more)) (is' ∙ e ∙ sym rq.first) in
      ap (record_at number p) zero-i ∙ at_source number p ∙ sym (ap (record_at number' q) zero-j ∙ at_source number' q)
  same_ends number number' {i} {j} {v} {p} {q} rp rq below below' is is' (inr e) =
      let last-i : i ≡ length p - 1 = one_place p rp.different i (length p - 1) below (omega (arith, rp.two_or_more)) (is ∙ e ∙ sym rp.last) in
      let last-j : j ≡ length q - 1 = one_place q rq.different j (length q - 1) below' (omega (arith, rq.two_or_more)) (is' ∙ e ∙ sym rq.last) in
      at_sink number p i (λ z. omega (arith, rp.two_or_more)) (omega (arith, rp.two_or_more)) ∙ sym (at_sink number' q j (λ z. omega (arith, rq.two_or_more)) (omega (arith, rq.two_or_more)))

  pub on_path : (number : ℕ) (paths : List (List ℕ)) → All (RadioList n S T) paths → AnyTwo (Disjoint S T) paths → (i j : ℕ) → i < length paths → j < length (get_or paths i [])
      → record_from number paths (get_or (get_or paths i []) j 0) ≡ record_at (number + i) (get_or paths i []) j
  unfolding record_from
  on_path number [] each two i j below there = absurd (omega arith)
  on_path number (path ∷ paths) each two zero j below there =
      rw (place_of path each.0.different j there, lt-ltb j (length path) there) (ap (λ (k : ℕ). record_at k path j) (omega arith))
  on_path number (path ∷ paths) each two (suc i) j below there = go (ltb (place_in path v) (length path)) refl (on_path (suc number) paths each.1 two.1 i j (omega arith) there)
    where
      v : ℕ
      v = get_or (get_or paths i []) j 0

      go : (b : Bool) → ltb (place_in path v) (length path) ≡ b → record_from (suc number) paths v ≡ record_at (suc number + i) (get_or paths i []) j
          → cond b (record_at number path (place_in path v)) (record_from (suc number) paths v) ≡ record_at (number + suc i) (get_or paths i []) j
      go true e later =
          let l : place_in path v < length path = ltb-true _ _ e in
          let other = all_at (RadioList n S T) paths i [] each.1 (omega arith) in
          let apart = (all_at (Disjoint S T path) paths i [] two.0 (omega arith)).apart v (rw (sym (at_place path v l)) (among-at path (place_in path v) l)) (among-at (get_or paths i []) j there) in
          same_ends number (number + suc i) each.0 other l there (at_place path v l) refl apart
      go false e later = later ∙ ap (λ (k : ℕ). record_at k (get_or paths i []) j) (omega arith)

-- ---- the first that passes a test, where one does and no other

only_one : (test : ℕ → Bool) (a limit : ℕ) → a < limit → test a ≡ true → ((v : ℕ) → v < limit → test v ≡ true → v ≡ a) → first_from test 0 limit ≡ a
only_one test a limit below passes only =
    first_is test 0 limit a (omega arith)
    (record { from = omega arith; within = omega arith; before = λ j _ l. not_true→false (test j) (λ t. absurd (omega (arith, only j (omega arith) t))); found = λ _. passes })

none_passes : (test : ℕ → Bool) (limit : ℕ) → ((v : ℕ) → v < limit → test v ≡ true → ⊥) → first_from test 0 limit ≡ limit
none_passes test limit none =
    first_is test 0 limit limit (omega arith) (record { from = omega arith; within = omega arith; before = λ j _ l. not_true→false (test j) (none j l); found = λ l. absurd (omega arith) })

-- ---- the lists again

module _ (n : ℕ) (paths : List (List ℕ)) (sound : SoundLists n paths) (records : List Route) (are : (v : ℕ) → v < n → record_in records v ≡ record_of paths v) where
  abbrev S : ℕ
  S = sound.S

  abbrev T : ℕ
  T = sound.T

  -- what a radio is to the paths, and what its record says of it
  data Standing (v : ℕ) : Type 0 where
    off : record_in records v ≡ alone OffPaths → Standing v
    source : v ≡ S → record_in records v ≡ alone Source → Standing v
    sink : v ≡ T → record_in records v ≡ alone Sink → Standing v
    inner : (i place : ℕ) → i < length paths → 0 < place → place + 1 < length (get_or paths i []) → get_or (get_or paths i []) place 0 ≡ v
        → record_in records v ≡ record { role = 1; path = 1 + i; before = get_or (get_or paths i []) (place - 1) 0; after = get_or (get_or paths i []) (place + 1) 0 } → Standing v

  path-is : (i : ℕ) → i < length paths → RadioList n S T (get_or paths i [])
  path-is i below = all_at (RadioList n S T) paths i [] sound.each below

  standing : (v : ℕ) → v < n → Standing v
  standing v below = go (placed 1 paths v)
    where
      at : (p : Placed paths 1 v (record_of paths v)) → Dec (p.place ≡ 0) → Dec (p.place + 1 ≡ length (get_or paths p.i [])) → Standing v
      at p (yes e) last = source (sym p.is ∙ ap (λ (k : ℕ). get_or (get_or paths p.i []) k 0) e ∙ (path-is p.i p.below).first) (are v below ∙ p.gives ∙ ap (record_at (1 + p.i) (get_or paths p.i [])) e ∙ at_source (1 + p.i) (get_or paths p.i []))
      at p (no ne) (yes e) =
          sink (sym p.is ∙ ap (λ (k : ℕ). get_or (get_or paths p.i []) k 0) (omega (arith, e)) ∙ (path-is p.i p.below).last) (are v below ∙ p.gives ∙ at_sink (1 + p.i) (get_or paths p.i []) p.place ne e)
      at p (no ne) (no more) = inner p.i p.place p.below (omega (arith, ne)) (omega (arith, more, p.there)) p.is (are v below ∙ p.gives ∙ at_inner (1 + p.i) (get_or paths p.i []) p.place ne more)

      go : (record_of paths v ≡ alone OffPaths) ⊎ Placed paths 1 v (record_of paths v) → Standing v
      go (inl none) = off (are v below ∙ none)
      go (inr p) = at p (ℕ_discrete p.place 0) (ℕ_discrete (p.place + 1) (length (get_or paths p.i [])))

  module _ (i : ℕ) (below : i < length paths) where
    abbrev path : List ℕ
    path = get_or paths i []

    abbrev its : RadioList n S T path
    its = path-is i below

    small : (j : ℕ) → j < length path → get_or path j 0 < n
    small j there = all_at (λ v. v < n) path j 0 its.below there

    record_is : (j : ℕ) → j < length path → record_in records (get_or path j 0) ≡ record_at (1 + i) path j
    record_is j there = are (get_or path j 0) (small j there) ∙ on_path n S T 1 paths sound.each sound.two i j below there

    -- its ends have the roles of the source and of the sink, and nobody else has
    source_is : first_with records n Source ≡ S
    source_is = only_one _ S n (rw (← its.first) (small 0 (omega (arith, its.two_or_more)))) passes only
      where
        passes : eqb (record_in records S).role 2 ≡ true
        passes = rw (← its.first, record_is 0 (omega (arith, its.two_or_more)), at_source) refl

        only : (v : ℕ) → v < n → eqb (record_in records v).role 2 ≡ true → v ≡ S
        only v l e = go (standing v l) (eqb-true _ _ e)
          where
            go : Standing v → (record_in records v).role ≡ 2 → v ≡ S
            go (off r) q = absurd (omega (arith, q, ap (λ (x : Route). x.role) r))
            go (source s r) q = s
            go (sink s r) q = absurd (omega (arith, q, ap (λ (x : Route). x.role) r))
            go (inner i' place b p m s r) q = absurd (omega (arith, q, ap (λ (x : Route). x.role) r))

    last_place : length path - 1 < length path
    last_place = omega (arith, its.two_or_more)

    sink_is : first_with records n Sink ≡ T
    sink_is = only_one _ T n (rw (← its.last) (small (length path - 1) last_place)) passes only
      where
        passes : eqb (record_in records T).role 3 ≡ true
        passes = rw (← its.last, record_is (length path - 1) last_place, at_sink (1 + i) path (length path - 1) (λ z. omega (arith, its.two_or_more)) (omega (arith, its.two_or_more))) refl

        only : (v : ℕ) → v < n → eqb (record_in records v).role 3 ≡ true → v ≡ T
        only v l e = go (standing v l) (eqb-true _ _ e)
          where
            go : Standing v → (record_in records v).role ≡ 3 → v ≡ T
            go (off r) q = absurd (omega (arith, q, ap (λ (x : Route). x.role) r))
            go (source s r) q = absurd (omega (arith, q, ap (λ (x : Route). x.role) r))
            go (sink s r) q = s
            go (inner i' place b p m s r) q = absurd (omega (arith, q, ap (λ (x : Route). x.role) r))

    abbrev starts : ℕ → Bool
    starts v = eqb (record_in records v).path (1 + i) && eqb (record_in records v).before S

    -- a radio that has S before it on this path stands at its place 1
    starts_at_1 : (v : ℕ) → v < n → starts v ≡ true → (2 < length path) × (v ≡ get_or path 1 0)
    starts_at_1 v l e = go (standing v l) (eqb-true _ _ (and_left _ _ e)) (eqb-true _ _ (and_right (eqb (record_in records v).path (1 + i)) _ e))
      where
        go : Standing v → (record_in records v).path ≡ 1 + i → (record_in records v).before ≡ S → (2 < length path) × (v ≡ get_or path 1 0)
        go (off r) p b = absurd (omega (arith, p, ap (λ (x : Route). x.path) r))
        go (source s r) p b = absurd (omega (arith, p, ap (λ (x : Route). x.path) r))
        go (sink s r) p b = absurd (omega (arith, p, ap (λ (x : Route). x.path) r))
        go (inner i' place there some more s r) p b =
            let same : i' ≡ i = omega (arith, p, ap (λ (x : Route). x.path) r) in
            let longer : place + 1 < length path = rw (← same) more in
            let begins : get_or path (place - 1) 0 ≡ get_or path 0 0 = rw (← same) (sym (ap (λ (x : Route). x.before) r) ∙ b ∙ sym (path-is i' there).first) in
            let first-place : place - 1 ≡ 0 = one_place path its.different (place - 1) 0 (omega arith) (omega arith) begins in
            let one : place ≡ 1 = omega arith in
            (omega arith, sym s ∙ rw (same, one) refl)

    ends : (j : ℕ) → j < length path → j + 1 ≡ length path → drop j path ≡ get_or path j 0 ∷ []
    ends j there last =
        let over : length path ≤ suc j = omega arith in
        drop-cons path j 0 there ∙ ap (λ (rest : List ℕ). get_or path j 0 ∷ rest) (drop_of_length-le path over)

    -- following `after` from a place on gives the rest of the path
    walk : (more j : ℕ) → 0 < j → j < length path → length path ≤ j + 1 + more → following records more (get_or path j 0) ≡ drop j path
    unfolding following
    walk zero j some there enough = sym (ends j there (omega arith))
    walk (suc more) j some there enough = go (ℕ_discrete (j + 1) (length path)) (λ next. walk more (j + 1) (omega arith) next (omega arith))
      where
        go : Dec (j + 1 ≡ length path) → (j + 1 < length path → following records more (get_or path (j + 1) 0) ≡ drop (j + 1) path)
            → (get_or path j 0 ∷ cond (eqb (record_in records (get_or path j 0)).role 1) (following records more (record_in records (get_or path j 0)).after) []) ≡ drop j path
        go (yes e) later = rw (record_is j there, at_sink (1 + i) path j (λ z. omega arith) e, ← ends j there e) refl
        go (no ne) later = rw (record_is j there, at_inner (1 + i) path j (λ z. omega arith) ne, later (omega (arith, ne)), drop-cons path j 0 there, add-one) refl

    long_enough : length path ≤ n
    long_enough = different_below path n its.different (λ x a. all_among (λ v. v < n) x path its.below a)

    from_1 : following records n (get_or path 1 0) ≡ drop 1 path
    from_1 = walk n 1 (omega arith) (omega (arith, its.two_or_more)) (omega (arith, long_enough))

    whole : (S ∷ drop 1 path) ≡ path
    whole = rw (← its.first) (sym (drop-cons path 0 0 (omega (arith, its.two_or_more))))

    pub path-told : path_told records n (1 + i) ≡ path
    unfolding path_told
    path-told = go (ℕ_discrete (length path) 2)
      where
        go : Dec (length path ≡ 2) → (first_with records n Source ∷ following records n (cond (ltb (start_of records n (first_with records n Source) (1 + i)) n) (start_of records n (first_with records n Source) (1 + i)) (first_with records n Sink))) ≡ path
        go (yes two) =
            let none : start_of records n S (1 + i) ≡ n = none_passes starts n (λ v l e. omega (arith, two, (starts_at_1 v l e).0)) in
            let last : first_with records n Sink ≡ get_or path 1 0 = sink_is ∙ sym its.last ∙ ap (λ (k : ℕ). get_or path (k - 1) 0) two in
            rw (source_is, none, le-ltb n n (omega arith), last, from_1) whole
        go (no more) =
            let longer : 2 < length path = omega (arith, more, its.two_or_more) in
            let passes : starts (get_or path 1 0) ≡ true = rw (record_is 1 (omega arith), at_inner (1 + i) path 1 (λ z. omega arith) (λ z. omega arith), its.first, eq-eqb (1 + i) (1 + i) refl, eq-eqb S S refl) refl in
            let start : start_of records n S (1 + i) ≡ get_or path 1 0 = only_one starts (get_or path 1 0) n (small 1 (omega arith)) passes (λ v l e. (starts_at_1 v l e).1) in
            rw (source_is, start, lt-ltb (get_or path 1 0) n (small 1 (omega arith)), from_1) whole

  -- one path more, up to all of them
  told_so_far : (count : ℕ) → count ≤ length paths → paths_told records n count ≡ take count paths
  unfolding paths_told
  told_so_far zero few = refl
  told_so_far (suc count) few =
      let last : path_told records n (suc count) ≡ get_or paths count [] = ap (path_told records n) (omega arith) ∙ path-told count (omega arith) in
      rw (told_so_far count (omega arith), take-suc paths count [] (omega arith), last) refl

  pub told_again : paths_told records n (length paths) ≡ paths
  told_again = told_so_far (length paths) (omega arith) ∙ take-length paths

-- What the records that are laid say of a radio: after some radios of one path, and after some of the paths. Assumes nothing.
use mathlib.Core.Path.{◌≡◌, refl, sym, ap, ◌∙◌, subst}
use mathlib.Core.Bool.{Bool, true, false, cond}
use mathlib.Core.List.{List, [], ◌∷◌}
use mathlib.Core.Logic.{◌⊎◌, inl, inr}
use Prim.Native.Nat.{ℕ, zero, suc, ◌+◌, ◌-◌, ◌≤◌, ◌<◌}
use native.Mathlib.Decide.{ℕ_discrete}
use native.Mathlib.Omega.{arith}
use lib.Dec.{ltb}
use lib.ListN.{length, length-set, length-replicate, length-drop, get_or, set, take, drop, replicate}
use lib.Seq.{drop-drop, get_or-take, get_or-drop, get_or-set_same, get_or-set_other}
use borrow.Author.Tests.{lt-ltb, le-ltb, ltb-true, ltb-false}
use Rattle.basics.specs.Lists.{All, Different}
use Rattle.basics.proofs.Bools.{both_ways}
use Rattle.basics.proofs.Lists.{all_at}
use Rattle.path_lists.specs.Judge.{SoundLists}
use Rattle.site.specs.Limits.{most_radios}
use Rattle.route_records.specs.declared.Role.TheVariants.{OffPaths, Source, Sink}
use Rattle.route_records.specs.declared.Route.{Route}
use Rattle.route_records.specs.Records.{alone, record_in, place_in, record_at, record_from, record_of}
use Rattle.route_records.specs.Filling.{PathLaid}
use Rattle.route_records.proofs.Places.{at_place, place_of}
use Rattle.route_records.proofs.Told.{at_source, at_sink, at_inner, on_path}

-- ---- the records of one path

none_laid : (number : ℕ) (path : List ℕ) (before : List Route) → PathLaid number path before 0 before
none_laid number path before = record { long = refl; route = λ v. rw (le-ltb (place_in path v) 0 (omega arith)) refl }

-- one radio more: it has that place alone, and no other radio has it
pub one_more_laid : {number : ℕ} {path : List ℕ} {before : List Route} {i : ℕ} {middle : List Route} {route : Route} → Different path → i < length path → get_or path i 0 < length middle
    → PathLaid number path before i middle → route ≡ record_at number path i → PathLaid number path before (i + 1) (set middle (get_or path i 0) route)
one_more_laid {number} {path} {before} {i} {middle} {route} different below within laid its = record { long = length-set middle x route ∙ laid.long; route = λ v. now_laid v (ℕ_discrete v x) }
  where
    x : ℕ
    x = get_or path i 0

    now_laid : (v : ℕ) → Dec (v ≡ x) → record_in (set middle x route) v ≡ cond (ltb (place_in path v) (i + 1)) (record_at number path (place_in path v)) (record_in before v)
    now_laid v (yes e) =
        let place : place_in path v ≡ i = ap (place_in path) e ∙ place_of path different i below in
        rw (e, get_or-set_same middle x route (alone OffPaths) within) (its ∙ rw (← e, place, lt-ltb i (i + 1) (omega arith)) refl)
    now_laid v (no other) = get_or-set_other middle x v route (alone OffPaths) other ∙ laid.route v ∙ rw same refl
      where
        not_here : place_in path v ≡ i → ⊥
        not_here e = other (sym (at_place path v (omega arith)) ∙ ap (λ (k : ℕ). get_or path k 0) e)

        same : ltb (place_in path v) i ≡ ltb (place_in path v) (i + 1)
        same = both_ways _ _ (λ e. lt-ltb (place_in path v) (i + 1) (omega (arith, ltb-true (place_in path v) i e))) (λ e. lt-ltb (place_in path v) i (omega (arith, ltb-true (place_in path v) (i + 1) e, not_here)))

room : (path : List ℕ) (before records : List Route) (i : ℕ) → All (λ v. v < most_radios) path → length before ≡ most_radios → length records ≡ length before → i < length path → get_or path i 0 < length records
room path before records i all long same below = omega (arith, all_at (λ v. v < most_radios) path i 0 all below)

-- the first k windows of three radios are passed: up to the last one's middle radio they have their records
pub record Passed (number : ℕ) (path : List ℕ) (before : List Route) (rest : List ℕ) (size k : ℕ) (records : List Route) : Type 0 where
  pub three : size ≡ 3
  pub rest_is : rest ≡ drop k path
  pub more : k + 2 ≤ length path
  pub laid : PathLaid number path before (k + 1) records

module _ {number : ℕ} {path : List ℕ} {before : List Route} (long : length before ≡ most_radios) (all : All (λ v. v < most_radios) path) (different : Different path) where
  -- the source first
  pub first_laid : {route : Route} → 0 < length path → route ≡ alone Source → PathLaid number path before 1 (set before (get_or path 0 0) route)
  first_laid some its = one_more_laid different some (room path _ _ 0 all long refl some) (none_laid number path before) (its ∙ sym (at_source number path))

  -- and nothing else on a path of one radio
  pub only_laid : {route : Route} → length path ≡ 1 → route ≡ alone Source → PathLaid number path before (length path) (set before (get_or path 0 0) route)
  only_laid one its = rw one (first_laid (omega arith) its)

  pub source_laid : {rest : List ℕ} {size : ℕ} {route : Route} → 2 ≤ length path → rest ≡ path → size ≡ 3 → route ≡ alone Source → Passed number path before rest size 0 (set before (get_or path 0 0) route)
  source_laid two same three its = record { three = three; rest_is = same; more = two; laid = first_laid (omega arith) its }

  -- then those between, each in the middle of three
  pub inner_laid : {k k' size size' : ℕ} {rest rest' near : List ℕ} {records : List Route} → Passed number path before rest size k records → k' ≡ k + 1 → size' ≡ size → size ≤ length rest → near ≡ take size rest → rest' ≡ drop 1 rest
      → Passed number path before rest' size' k' (set records (get_or near 1 0) record { role = 1; path = number; before = get_or near 0 0; after = get_or near 2 0 })
  inner_laid {k} {k'} {size} {size'} {rest} {rest'} {near} {records} passed next same fits is cut = record { three = same ∙ passed.three; rest_is = cut ∙ ap (drop 1) passed.rest_is ∙ drop-drop 1 k path ∙ ap (λ (n : ℕ). drop n path) (sym next); more = omega (arith, enough); laid = rw (next, there 0 (omega arith), there 1 (omega arith), there 2 (omega arith)) (one_more_laid different below (room path _ _ (k + 1) all long passed.laid.long below) passed.laid its) }
    where
      below : k + 1 < length path
      below = omega (arith, passed.more)

      enough : k + 3 ≤ length path
      enough = omega (arith, passed.three, ap length passed.rest_is, length-drop k path, passed.more)

      there : (j : ℕ) → j < 3 → get_or near j 0 ≡ get_or path (k + j) 0
      there j l = ap (λ (list : List ℕ). get_or list j 0) is ∙ rw (passed.three, passed.rest_is) (get_or-take 3 (drop k path) j 0 l ∙ get_or-drop k path j 0)

      its : record { role = 1; path = number; before = get_or path (k + 0) 0; after = get_or path (k + 2) 0 } ≡ record_at number path (k + 1)
      its =
          let first : k + 1 - 1 ≡ k + 0 = omega arith in
          let third : k + 1 + 1 ≡ k + 2 = omega arith in
          sym (at_inner number path (k + 1) (λ z. omega arith) (λ z. omega (arith, z, enough)) ∙ rw (first, third) refl)

  -- the sink last
  pub sink_laid : {k size : ℕ} {rest : List ℕ} {records : List Route} {route : Route} → Passed number path before rest size k records → length rest < size → route ≡ alone Sink
      → PathLaid number path before (length path) (set records (get_or path (length path - 1) 0) route)
  sink_laid {k} passed short its =
      let last : k + 1 + 1 ≡ length path = omega (arith, passed.three, ap length passed.rest_is, length-drop k path, passed.more) in
      let place : length path - 1 ≡ k + 1 = omega arith in
      rw (place, ← last) (one_more_laid different (omega arith) (room path _ _ (k + 1) all long passed.laid.long (omega arith)) passed.laid (its ∙ sym (at_sink number path (k + 1) (λ z. omega arith) last)))

-- ---- the records of all paths

-- radio v has its record, or it is on none of the first i paths and has none yet
abbrev SoFar : List (List ℕ) → ℕ → List Route → ℕ → Type 0
SoFar paths i records v = (record_in records v ≡ record_of paths v) ⊎ ((record_in records v ≡ alone OffPaths) × ((j : ℕ) → j < i → length (get_or paths j []) ≤ place_in (get_or paths j []) v))

-- the records with those of the first i paths in them
pub record PathsLaid (paths : List (List ℕ)) (i : ℕ) (records : List Route) : Type 0 where
  pub long : length records ≡ most_radios
  pub told : (v : ℕ) → SoFar paths i records v

all_off : {none : Route} → none ≡ alone OffPaths → (m v : ℕ) → record_in (replicate m none) v ≡ alone OffPaths
all_off is zero v = refl
all_off is (suc m) zero = is
all_off is (suc m) (suc v) = all_off is m v

-- before any path
pub no_path_laid : {paths : List (List ℕ)} {none : Route} → none ≡ alone OffPaths → PathsLaid paths 0 (replicate most_radios none)
no_path_laid {paths} {none} is = record { long = length-replicate most_radios none; told = λ v. inr (all_off is most_radios v, λ j l. absurd (omega arith)) }

-- one path more: where a radio of it is on an earlier one too, its record stays what it is
pub one_more_path : {n : ℕ} {paths : List (List ℕ)} {i : ℕ} {path : List ℕ} {before after : List Route} → SoundLists n paths → i < length paths → path ≡ get_or paths i [] → PathsLaid paths i before → PathLaid (i + 1) path before (length path) after → PathsLaid paths (i + 1) after
one_more_path {n} {paths} {i} {path} {before} {after} sound below is_path laid new = record { long = new.long ∙ laid.long; told = λ v. step v }
  where
    next : List ℕ
    next = get_or paths i []

    step : (v : ℕ) → SoFar paths (i + 1) after v
    step v = go (ltb (place_in next v) (length next)) refl ((subst (λ (p : List ℕ). PathLaid (i + 1) p before (length p) after) is_path new).route v) (laid.told v)
      where
        go : (b : Bool) → ltb (place_in next v) (length next) ≡ b → record_in after v ≡ cond b (record_at (i + 1) next (place_in next v)) (record_in before v) → SoFar paths i before v → SoFar paths (i + 1) after v
        go true e now old =
            let there = ltb-true _ _ e in
            inl (now ∙ ap (λ (k : ℕ). record_at k next (place_in next v)) (omega arith) ∙ sym (on_path n sound.S sound.T 1 paths sound.each sound.two i (place_in next v) below there) ∙ ap (record_of paths) (at_place next v there))
        go false e now (inl done) = inl (now ∙ done)
        go false e now (inr off) = inr (now ∙ off.0, λ j l. off_all j l (ℕ_discrete j i))
          where
            off_all : (j : ℕ) → j < i + 1 → Dec (j ≡ i) → length (get_or paths j []) ≤ place_in (get_or paths j []) v
            off_all j l (yes is) = rw is (ltb-false _ _ e)
            off_all j l (no other) = off.1 j (omega (arith, other))

-- a radio on no path
on_none : (number : ℕ) (paths : List (List ℕ)) (v : ℕ) → ((j : ℕ) → j < length paths → length (get_or paths j []) ≤ place_in (get_or paths j []) v) → record_from number paths v ≡ alone OffPaths
unfolding record_from
on_none number [] v off = refl
on_none number (path ∷ paths) v off = rw (le-ltb (place_in path v) (length path) (off 0 (omega arith))) (on_none (suc number) paths v (λ j l. off (suc j) (omega arith)))

-- after all of them
pub all_laid : {paths : List (List ℕ)} {i : ℕ} {records : List Route} → i ≡ length paths → PathsLaid paths i records → (v : ℕ) → record_in records v ≡ record_of paths v
all_laid {paths} {i} {records} all laid v = go (laid.told v)
  where
    go : SoFar paths i records v → record_in records v ≡ record_of paths v
    go (inl done) = done
    go (inr off) = off.0 ∙ sym (on_none 1 paths v (λ j l. off.1 j (omega arith)))

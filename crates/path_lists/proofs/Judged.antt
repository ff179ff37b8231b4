-- A list judged path by path against what has been seen. Assumes nothing.
use mathlib.Core.Path.{◌≡◌, refl, sym, ap, ◌∙◌}
use mathlib.Core.Bool.{Bool, true, false, not, ◌&&◌, ◌||◌}
use mathlib.Core.List.{List, [], ◌∷◌, ◌++◌}
use Prim.Native.Nat.{ℕ, suc, ◌+◌, ◌-◌, ◌≤◌, ◌<◌}
use native.Mathlib.Omega.{arith}
use lib.Dec.{leb, eqb}
use lib.ListN.{length, take, drop, length-drop}
use lib.Seq.{take_all}
use borrow.Author.Tests.{leb-false, le-leb, lt-leb}
use Rattle.basics.specs.Lists.{among}
use Rattle.radios.specs.Member.{member}
use Rattle.radios.proofs.Laws.{member-empty}
use Rattle.path_lists.specs.declared.Seen.{Seen}
use Rattle.path_lists.specs.Reading.{path_end, Inside, path_at, readable, paths_read}
use Rattle.path_lists.specs.Judge.{inner, fresh, joins, is_direct, sound_after}
use Rattle.path_lists.specs.Seen.{IsSet, Sees}

-- ---- the loop over the paths

-- so many paths at the front of the list are whole and sound, after what has been seen
abbrev pub sound_from : ℕ → ℕ → ℕ → List ℕ → Bool → ℕ → List ℕ → Bool
sound_from n S T before taken count list = readable count list && sound_after n S T before taken (paths_read count list)

one_left : {i count : ℕ} → i < count → count - i ≡ suc (count - (i + 1))
one_left more = omega arith

none_left : {i count : ℕ} → count ≤ i → count - i ≡ 0
none_left end = omega arith

-- whether the list is whole is asked before the path is judged, or after
pub regroup : (a b c : Bool) → (a && (b && c)) ≡ (b && (a && c))
regroup true b c = refl
regroup false true c = refl
regroup false false c = refl

-- the list ends before its first path does
pub ends_early : (count : ℕ) (list : List ℕ) → leb (path_end list 0) (length list) ≡ false → readable (suc count) list ≡ false
unfolding readable
ends_early count [] short = refl
ends_early count (size ∷ list) short = rw (lt-leb size (length list) (omega (arith, leb-false _ _ short))) refl

-- the list holds it
pub one_path : (n S T : ℕ) (before : List ℕ) (taken : Bool) (count : ℕ) (list : List ℕ) → Inside list 0
    → let path = path_at list 0 in
    sound_from n S T before taken (suc count) list ≡ (joins S T path && not (taken && is_direct path) && fresh n before (inner path) && sound_from n S T (inner path ++ before) (taken || is_direct path) count (drop (path_end list 0) list))
unfolding readable paths_read sound_after
one_path n S T before taken count [] inside = absurd (omega arith)
one_path n S T before taken count (size ∷ list) inside =
    let path = take size list in
    let later : List ℕ = drop size list in
    let end : 1 + size ≡ suc size = omega arith in
    rw (end, le-leb size (length list) (omega arith)) (regroup (readable count later) (joins S T path && not (taken && is_direct path) && fresh n before (inner path)) (sound_after n S T (inner path ++ before) (taken || is_direct path) (paths_read count later)))

-- what is left to judge of the list: the rest that the loop has come to
pub record StillJudged (n S T : ℕ) (list : List ℕ) (count : ℕ) (seen : Seen) (rest : List ℕ) (i : ℕ) : Type 0 where
  pub before : List ℕ
  pub set_is : IsSet seen.set before
  pub same : sound_from n S T (S ∷ T ∷ []) false count list ≡ sound_from n S T before seen.direct (count - i) rest

-- the two ends are seen from the start
pub judged_at_first : (n S T : ℕ) (list : List ℕ) (count one both : ℕ) {none : ℕ} → none ≡ 0 → ((j : ℕ) → member j one ≡ (eqb j T || member j none)) → ((j : ℕ) → member j both ≡ (eqb j S || member j one))
    → StillJudged n S T list count record { direct = false; set = both } list 0
unfolding among
judged_at_first n S T list count one both empty has-T has-S =
    let all : count - 0 ≡ count = omega arith in
    record { before = S ∷ T ∷ []; set_is = λ v. has-S v ∙ rw (has-T v, empty, member-empty v) refl; same = rw all refl }

module _ (n S T : ℕ) (list : List ℕ) (count : ℕ) (seen : Seen) (rest : List ℕ) (i : ℕ) (still : StillJudged n S T list count seen rest i) where
  abbrev whole : Bool
  whole = sound_from n S T (S ∷ T ∷ []) false count list

  pub judged_all : count ≤ i → true ≡ whole
  unfolding readable paths_read sound_after
  judged_all end = sym (still.same ∙ rw (none_left end) refl)

  pub judged_short : i < count → leb (path_end rest 0) (length rest) ≡ false → false ≡ whole
  judged_short more short = sym (still.same ∙ rw (one_left more, ends_early (count - (i + 1)) rest short) refl)

  -- the path that the loop has come to, and what is seen after it
  module _ (more : i < count) (inside : Inside rest 0) {path : List ℕ} (read : path ≡ path_at rest 0) where
    abbrev fine : Bool
    fine = joins S T path && not (seen.direct && is_direct path) && fresh n still.before (inner path)

    unrolled : whole ≡ (fine && sound_from n S T (inner path ++ still.before) (seen.direct || is_direct path) (count - (i + 1)) (drop (path_end rest 0) rest))
    unrolled = still.same ∙ rw (one_left more, read) (one_path n S T still.before seen.direct (count - (i + 1)) rest inside)

    pub judged_bad : fine ≡ false → false ≡ whole
    judged_bad bad = sym (unrolled ∙ rw bad refl)

    pub judged_on : {next : Seen} (size : ℕ) → size ≡ path_end rest 0 → (fine ≡ true) × Sees (inner path ++ still.before) (seen.direct || is_direct path) next
        → StillJudged n S T list count next (take (length rest - size) (drop size rest)) (i + 1)
    judged_on size there (good, sees) =
        let all-of-it : take (length rest - size) (drop size rest) ≡ drop (path_end rest 0) rest = take_all (length rest - size) (drop size rest) (omega (arith, length-drop size rest)) ∙ ap (λ (k : ℕ). drop k rest) there in
        record { before = inner path ++ still.before; set_is = sees.set_is; same = unrolled ∙ rw (good, sees.direct_is, all-of-it) refl }

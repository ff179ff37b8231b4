-- The judge of a path list: "disjoint lists of two or more different radios below n with the same first and the same last",
-- document 02, 1/13. It knows no map: whether two neighbours are linked is another question.
use Rattle.std.specs.Prelude.{◌≡◌, Bool, true, false, not, ◌&&◌, ◌||◌, List, [], ◌∷◌, ◌++◌, ℕ, ◌-◌, ◌<◌, ◌≤◌, eqb, ltb, length, get_or, take, drop}
use Rattle.basics.specs.Lists.{among, Different, All, AnyTwo}
use Rattle.site.specs.Paths.{Disjoint}

abbrev pub first_radio : List ℕ → ℕ
first_radio path = get_or path 0 0

abbrev pub last_radio : List ℕ → ℕ
last_radio path = get_or path (length path - 1) 0

-- the radios between the two
abbrev pub inner : List ℕ → List ℕ
inner path = take (length path - 2) (drop 1 path)

-- ---- in words

-- two or more different radios below n, the first of them S and the last T
pub record RadioList (n S T : ℕ) (path : List ℕ) : Type 0 where
  pub two_or_more : 2 ≤ length path
  pub different : Different path
  pub below : All (λ v. v < n) path
  pub first : first_radio path ≡ S
  pub last : last_radio path ≡ T

-- disjoint lists of that kind with the same first and the same last
pub record SoundLists (n : ℕ) (paths : List (List ℕ)) : Type 0 where
  pub S : ℕ
  pub T : ℕ
  pub each : All (RadioList n S T) paths
  pub two : AnyTwo (Disjoint S T) paths

-- ---- as it is judged, radio by radio and path by path

-- each is below n, not among those seen, and seen from then on
unfoldable pub fresh : ℕ → List ℕ → List ℕ → Bool
fresh n seen [] = true
fresh n seen (v ∷ list) = ltb v n && not (among v seen) && fresh n (v ∷ seen) list

-- two or more radios from S to T
unfoldable pub joins : ℕ → ℕ → List ℕ → Bool
joins S T path = ltb 1 (length path) && eqb (first_radio path) S && eqb (last_radio path) T

-- nothing stands between the two: the direct link alone
abbrev pub is_direct : List ℕ → Bool
is_direct path = eqb (length path) 2

-- paths from S to T, after others that have left these radios seen and taken the direct link or not
unfoldable pub sound_after : ℕ → ℕ → ℕ → List ℕ → Bool → List (List ℕ) → Bool
sound_after n S T seen taken [] = true
sound_after n S T seen taken (path ∷ paths) =
    joins S T path
    && not (taken && is_direct path)
    && fresh n seen (inner path)
    && sound_after n S T (inner path ++ seen) (taken || is_direct path) paths

-- the first path says what S and T are
unfoldable pub is_sound : ℕ → List (List ℕ) → Bool
is_sound n [] = true
is_sound n (path ∷ paths) =
    let S = first_radio path in
    let T = last_radio path in
    fresh n [] (S ∷ T ∷ []) && sound_after n S T (S ∷ T ∷ []) false (path ∷ paths)

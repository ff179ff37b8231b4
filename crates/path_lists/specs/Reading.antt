-- A path list read path by path.
use Rattle.std.specs.Prelude.{Bool, true, false, ◌&&◌, List, [], ◌∷◌, ℕ, zero, suc, ◌+◌, ◌≤◌, leb, length, get_or, take, drop}
use Rattle.path_lists.specs.Bytes.{path_bytes}

-- where the path at this place ends, and the next one stands: its number of radios stands before them
abbrev pub path_end : List ℕ → ℕ → ℕ
path_end list at = at + 1 + get_or list at 0

-- the list does not end before it
abbrev pub Inside : List ℕ → ℕ → Type 0
Inside list at = path_end list at ≤ length list

-- its radios
abbrev pub path_at : List ℕ → ℕ → List ℕ
path_at list at = take (get_or list at 0) (drop (at + 1) list)

-- where path number i stands: after those before it
abbrev pub path_place : List (List ℕ) → ℕ → ℕ
path_place paths i = length (path_bytes (take i paths))

-- ---- a list from elsewhere, which may end too early

-- it does not end before so many paths at its front do
unfoldable pub readable : ℕ → List ℕ → Bool
readable zero list = true
readable (suc count) [] = false
readable (suc count) (size ∷ list) = leb size (length list) && readable count (drop size list)

-- these paths
unfoldable pub paths_read : ℕ → List ℕ → List (List ℕ)
paths_read zero list = []
paths_read (suc count) [] = []
paths_read (suc count) (size ∷ list) = take size list ∷ paths_read count (drop size list)

-- where the last of them ends
unfoldable pub list_end : ℕ → List ℕ → ℕ
list_end zero list = 0
list_end (suc count) [] = 1
list_end (suc count) (size ∷ list) = 1 + size + list_end count (drop size list)

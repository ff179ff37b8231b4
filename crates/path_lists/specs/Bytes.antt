-- The path list's bytes of document 01, "What a run leaves".
use Rattle.std.specs.Prelude.{◌≡◌, List, [], ◌∷◌, ◌++◌, ℕ, length, take}

-- for each path its number of radios, then the radios
unfoldable pub path_bytes : List (List ℕ) → List ℕ
path_bytes [] = []
path_bytes (path ∷ paths) = length path ∷ path ++ path_bytes paths

-- the list holds so many paths at its front, and these are they
pub record Holds (list : List ℕ) (count : ℕ) (paths : List (List ℕ)) : Type 0 where
  pub number : length paths ≡ count
  pub bytes : take (length (path_bytes paths)) list ≡ path_bytes paths

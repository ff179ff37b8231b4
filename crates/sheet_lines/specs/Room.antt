-- Room on a sheet.
use Rattle.std.specs.Prelude.{List, [], ℕ, ◌+◌, ◌≤◌, length}
use Rattle.path_lists.specs.Bytes.{Holds}
use Rattle.sheet_lines.specs.Lines.{path_lines}

-- no sheet is longer
abbrev pub sheet_room : ℕ
sheet_room = 512

-- the bytes fit behind what is written
abbrev pub HasRoom : ℕ → List ℕ → List ℕ → Type 0
HasRoom room sheet bytes = length sheet + length bytes ≤ room

-- the list holds some paths, and there is room for their lines
pub record Printable (size : ℕ) (sheet list : List ℕ) (count : ℕ) : Type 0 where
  pub paths : List (List ℕ)
  pub listed : Holds list count paths
  pub room : HasRoom size sheet (path_lines 1 paths [])

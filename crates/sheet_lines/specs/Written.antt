-- Lines written into a lent buffer.
use Rattle.std.specs.Prelude.{◌≡◌, List, [], ◌++◌, ℕ, ◌+◌, ◌≤◌, length, take, drop}
use Rattle.path_lists.specs.Bytes.{Holds}
use Rattle.sheet_lines.specs.Lines.{path_lines}

-- the bytes stand in the buffer from `at` up to `next`, and all around them it is as it was
pub record Written (before after : List ℕ) (at : ℕ) (bytes : List ℕ) (next : ℕ) : Type 0 where
  pub ends : next ≡ at + length bytes
  pub room : next ≤ length before
  pub left : after ≡ take at before ++ bytes ++ drop next before

-- the list holds some paths, and the buffer has room for their lines
pub record PrintableAt (out : List ℕ) (at : ℕ) (list : List ℕ) (count : ℕ) : Type 0 where
  pub paths : List (List ℕ)
  pub listed : Holds list count paths
  pub room : at + length (path_lines 1 paths []) ≤ length out

-- `sheet_lines::Sheet::put_paths` meets its contract. The loop's invariant: path number i stands at `place`, and the lines of the paths not passed are
-- left of the list. Assumes nothing.
use mathlib.Core.Path.{◌≡◌}
use mathlib.Core.List.{List, []}
use Prim.Native.Nat.{ℕ, ◌+◌}
use lib.ListN.{drop}
use Rattle.path_lists.specs.Bytes.{Holds}
use Rattle.path_lists.specs.Reading.{path_place}
use Rattle.sheet_lines.specs.Lines.{path_lines}
use Rattle.sheet_lines.proofs.Left.{Left}
use Rattle.sheet_lines.proofs.Sheet.put_paths.Given as goal

abbrev pub invariant-loop-i : goal.invariant-loop-i
invariant-loop-i g l = (paths : List (List ℕ)) → Holds l.list l.count paths
    → (l.place ≡ path_place paths l.i) × Left l.initial.self (path_lines 1 paths []) l.self (path_lines (l.i + 1) (drop l.i paths) [])

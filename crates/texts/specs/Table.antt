-- What the contracts of this crate say of the table that the lines fill.
use Rattle.std.specs.Prelude.{◌≡◌, Bool, false, not, ◌||◌, cond, Option, None, Some, IfNone, IfSome, List, [], ℕ, ◌+◌, ◌-◌, ◌*◌, eqb, ltb, get_or, set, take}
use Rattle.captures.specs.Words.{line_feed}
use Rattle.captures.specs.Text.{pieces}
use Rattle.captures.specs.Capture.{lines_of, fault_line, with_line, table_of}
use Rattle.captures.specs.declared.Line.{Line}
use Rattle.captures.specs.declared.Line.TheVariants.{Link, Hand}

-- a table of n radios, and its n · n cells, row after row
pub record TableCells : Type 0 where
  pub n : ℕ
  pub cells : List ℕ

-- 11, with a cell that is 1 for a link or a handheld that came before
abbrev pub fault_in : ℕ → List ℕ → Option Line → Bool
fault_in n table (Some (Link u v)) = not (ltb u v) || not (ltb v n) || eqb (get_or table (u * n + v) 0) 1
fault_in n table (Some (Hand v)) = not (ltb v n) || eqb (get_or table (v * n + v) 0) 1
fault_in n table None = false

-- the cell of row u and column v and its mirror are 1 now, or the cell was and all is as it was
pub record Marked (n u v : ℕ) (table after : List ℕ) (new : Bool) : Type 0 where
  pub told : new ≡ not (eqb (get_or table (u * n + v) 0) 1)
  pub marked : after ≡ cond new (set (set table (u * n + v) 1) (v * n + u) 1) table

-- a good line is told to be good and joins the table; one at fault leaves it as it was
pub record Added (n : ℕ) (table : List ℕ) (line : Option Line) (after : List ℕ) (good : Bool) : Type 0 where
  pub told : good ≡ not (fault_in n table line)
  pub joined : after ≡ cond good (with_line n table line) table

-- what the lines of a text say
abbrev pub lines_said : List ℕ → List (Option Line)
lines_said text = lines_of (pieces line_feed text)

-- 11 with its place, the first of these lines being line 2; and the table, of all lines or of those before the one at fault
pub record LinesRead (text : List ℕ) (n : ℕ) (table : List ℕ) (r : Option ℕ) : Type 0 where
  pub told : r ≡ fault_line n 2 [] (lines_said text)
  pub filled : IfNone r (table ≡ table_of n (lines_said text))
  pub stopped : IfSome r (λ number. table ≡ table_of n (take (number - 2) (lines_said text)))

-- A capture in writing: the text that "The sheet" of document 01 asks for, from its numbers and what its lines say.
use Rattle.std.specs.Prelude.{Option, None, Some, option_to_list, cond, List, [], ◌∷◌, ◌++◌, ℕ, zero, suc, ◌*◌, ◌/◌, ◌%◌, eqb, ltb, get_or}
use Rattle.captures.specs.Words.{net, link, hand}
use Rattle.captures.specs.Text.{decimal}
use Rattle.captures.specs.declared.FirstLine.{FirstLine}
use Rattle.captures.specs.declared.Line.{Line}
use Rattle.captures.specs.declared.Line.TheVariants.{Link, Hand}
use Rattle.sheet_lines.specs.Lines.{field, ended}

-- ---- lines

-- the first line: net, capture number, n, S, T, k, parted by tabs
abbrev pub net_fields : FirstLine → List ℕ
net_fields first = net ++ (field (decimal first.capture) ++ (field (decimal first.n) ++ (field (decimal first.s) ++ (field (decimal first.t) ++ field (decimal first.k)))))

abbrev pub net_line : FirstLine → List ℕ
net_line first = net_fields first ++ ended []

-- every other line: link and two radios, or hand and one
abbrev pub line_fields : Line → List ℕ
line_fields (Link u v) = link ++ (field (decimal u) ++ field (decimal v))
line_fields (Hand v) = hand ++ field (decimal v)

abbrev pub line_text : Line → List ℕ
line_text line = line_fields line ++ ended []

unfoldable pub lines_text : List Line → List ℕ
lines_text [] = []
lines_text (line ∷ lines) = line_text line ++ lines_text lines

abbrev pub capture_text : FirstLine → List Line → List ℕ
capture_text first lines = net_line first ++ lines_text lines

-- ---- the lines of a table

-- what a 1 in row u and column v says: above the diagonal a link, on it a handheld. Below it the mirror cell has said so
abbrev pub one_says : ℕ → ℕ → Option Line
one_says u v = cond (ltb u v) (Some (Link u v)) (cond (eqb u v) (Some (Hand v)) None)

-- what the cell at a place says; that of row u and column v is at u·n+v
abbrev pub line_at : ℕ → List ℕ → ℕ → Option Line
line_at n table place = cond (eqb (get_or table place 0) 1) (one_says (place / n) (place % n)) None

-- what the cells of so many places say, from this one on
unfoldable pub cell_lines : ℕ → List ℕ → ℕ → ℕ → List Line
cell_lines n table place zero = []
cell_lines n table place (suc more) = option_to_list (line_at n table place) ++ cell_lines n table (suc place) more

-- what all cells say, in row order
abbrev pub lines_in : ℕ → List ℕ → List Line
lines_in n table = cell_lines n table 0 (n * n)

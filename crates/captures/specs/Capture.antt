-- A capture: its lines, and what is wrong with them: 9 and 11, with their places.
use Rattle.std.specs.Prelude.{Bool, false, not, ◌&&◌, ◌||◌, cond, Option, None, Some, is_some, List, [], ◌∷◌, ℕ, suc, ◌+◌, ◌*◌, eqb, ltb, length, get_or, set, replicate}
use Rattle.captures.specs.Words.{tab, net, link, hand}
use Rattle.captures.specs.Text.{pieces, same, value, is_number}
use Rattle.captures.specs.declared.FirstLine.{FirstLine}
use Rattle.captures.specs.declared.Line.{Line}
use Rattle.captures.specs.declared.Line.TheVariants.{Link, Hand}

-- ---- lines

-- first line: net, capture number, n, S, T, k, parted by tabs; none if it has another shape
unfoldable pub head_of : List ℕ → Option FirstLine
head_of line =
    let f = pieces tab line in
    cond (eqb (length f) 6 && same (get_or f 0 []) net && is_number (get_or f 1 []) && is_number (get_or f 2 []) && is_number (get_or f 3 []) && is_number (get_or f 4 []) && is_number (get_or f 5 []))
    (Some (record { capture = value 0 (get_or f 1 []); n = value 0 (get_or f 2 []); s = value 0 (get_or f 3 []); t = value 0 (get_or f 4 []); k = value 0 (get_or f 5 []) }))
    None

-- every other line: link and two radios, or hand and one; none if it has another shape
unfoldable pub line_of : List ℕ → Option Line
line_of line =
    let f = pieces tab line in
    cond (eqb (length f) 3 && same (get_or f 0 []) link && is_number (get_or f 1 []) && is_number (get_or f 2 [])) (Some (Link (value 0 (get_or f 1 [])) (value 0 (get_or f 2 []))))
    (cond (eqb (length f) 2 && same (get_or f 0 []) hand && is_number (get_or f 1 [])) (Some (Hand (value 0 (get_or f 1 [])))) None)

-- ---- 9: the first line of the wrong shape

-- the first line is line 1
abbrev pub right_shape : ℕ → List ℕ → Bool
right_shape number line = cond (eqb number 1) (is_some (head_of line)) (is_some (line_of line))

-- its number, if there is one, among pieces of which the first is line `number`. Every line is ended by a line feed, so the last piece is
-- what stands after the last of them: nothing, and not before there was a line
unfoldable pub wrong_line : ℕ → List (List ℕ) → Option ℕ
wrong_line number [] = Some number
wrong_line number (last ∷ []) = cond (eqb (length last) 0 && not (eqb number 1)) None (Some number)
wrong_line number (line ∷ next ∷ rest) = cond (right_shape number line) (wrong_line (suc number) (next ∷ rest)) (Some number)

-- ---- the lines after the first

-- what they say, a line each, nothing where a line has the wrong shape. The last piece stands after the last line feed: it is no line
unfoldable pub lines_of : List (List ℕ) → List (Option Line)
lines_of [] = []
lines_of (last ∷ []) = []
lines_of (line ∷ next ∷ rest) = line_of line ∷ lines_of (next ∷ rest)

-- two lines say the same link, or name the same handheld
abbrev pub says : Option Line → Option Line → Bool
says (Some (Link u v)) (Some (Link a b)) = eqb u a && eqb v b
says (Some (Link u v)) (Some (Hand w)) = false
says (Some (Link u v)) None = false
says (Some (Hand v)) (Some (Link a b)) = false
says (Some (Hand v)) (Some (Hand w)) = eqb v w
says (Some (Hand v)) None = false
says None other = false

-- what the line says came before
unfoldable pub came : Option Line → List (Option Line) → Bool
came line [] = false
came line (other ∷ before) = says line other || came line before

-- 11: what is wrong with a line after those before it. A link's first radio is not below the second, or the second is not below n, or the
-- link came before; a handheld is not below n, or was named before
abbrev pub at_fault : ℕ → List (Option Line) → Option Line → Bool
at_fault n before (Some (Link u v)) = not (ltb u v) || not (ltb v n) || came (Some (Link u v)) before
at_fault n before (Some (Hand v)) = not (ltb v n) || came (Some (Hand v)) before
at_fault n before None = false

-- the number of the first line at fault, if there is one, of lines of which the first is line `number`. Every line counts
unfoldable pub fault_line : ℕ → ℕ → List (Option Line) → List (Option Line) → Option ℕ
fault_line n number before [] = None
fault_line n number before (line ∷ rest) = cond (at_fault n before line) (Some number) (fault_line n (suc number) (line ∷ before) rest)

-- ---- the map

-- the table after a line: a link stands in both its cells, a handheld in its own
abbrev pub with_line : ℕ → List ℕ → Option Line → List ℕ
with_line n table (Some (Link u v)) = set (set table (u * n + v) 1) (v * n + u) 1
with_line n table (Some (Hand v)) = set table (v * n + v) 1
with_line n table None = table

unfoldable pub table_with : ℕ → List ℕ → List (Option Line) → List ℕ
table_with n table [] = table
table_with n table (line ∷ rest) = table_with n (with_line n table line) rest

-- the table of n radios that these lines say
abbrev pub table_of : ℕ → List (Option Line) → List ℕ
table_of n lines = table_with n (replicate (n * n) 0) lines

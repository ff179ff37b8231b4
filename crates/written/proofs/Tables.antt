-- The table that lines fill holds a 1 in the cells of each of them, whatever their order. Assumes nothing.
use mathlib.Core.Path.{◌≡◌, refl, sym, ap, ◌∙◌, subst}
use mathlib.Core.Bool.{Bool, true, false, ◌||◌, cond}
use mathlib.Core.List.{List, [], ◌∷◌, Memᴰ}
use mathlib.Core.Logic.{◌⊎◌, inl, inr}
use Prim.Native.Nat.{ℕ, ◌*◌, ◌<◌}
use native.Mathlib.Omega.{arith}
use lib.ListN.{length, get_or, replicate, length-replicate, get_or-replicate}
use lib.Seq.{ext_get_or}
use Rattle.std.proofs.Common.{Option, None, Some, is_some}
use Rattle.basics.specs.Lists.{All}
use Rattle.basics.proofs.Bools.{clash, both_ways, or_left, or_right, or_cases}
use Rattle.captures.specs.Capture.{with_line, table_with, table_of}
use Rattle.captures.proofs.Cells.{is_cell, cond_or, with_cell, with_long}
use Rattle.captures.specs.declared.Line.{Line}
use Rattle.captures.specs.declared.Line.TheVariants.{Link, Hand}

-- ---- the cells of the lines

-- the place is a cell of one of them
abbrev pub in_cells : ℕ → ℕ → List (Option Line) → Bool
in_cells n place [] = false
in_cells n place (line ∷ lines) = is_cell n place line || in_cells n place lines

table_long : (n : ℕ) (table : List ℕ) (lines : List (Option Line)) → length (table_with n table lines) ≡ length table
unfolding table_with
table_long n table [] = refl
table_long n table (line ∷ lines) = table_long n (with_line n table line) lines ∙ with_long n table line

table_cell : (n : ℕ) (table : List ℕ) (lines : List (Option Line)) (place : ℕ) → place < length table
    → get_or (table_with n table lines) place 0 ≡ cond (in_cells n place lines) 1 (get_or table place 0)
unfolding table_with
table_cell n table [] place p = refl
table_cell n table (line ∷ lines) place p =
    table_cell n (with_line n table line) lines place (omega (arith, with_long n table line))
    ∙ ap (cond (in_cells n place lines) 1) (with_cell n table line place p)
    ∙ cond_or (is_cell n place line) (in_cells n place lines) 1 (get_or table place 0)

-- ---- the table of some lines

pub table_of_long : (n : ℕ) (lines : List (Option Line)) → length (table_of n lines) ≡ n * n
table_of_long n lines = table_long n (replicate (n * n) 0) lines ∙ length-replicate (n * n) 0

pub table_of_cell : (n : ℕ) (lines : List (Option Line)) (place : ℕ) → place < n * n → get_or (table_of n lines) place 0 ≡ cond (in_cells n place lines) 1 0
table_of_cell n lines place p =
    table_cell n (replicate (n * n) 0) lines place (simp length-replicate p)
    ∙ ap (cond (in_cells n place lines) 1) (get_or-replicate (n * n) place 0 0 p)

-- ---- lines with the same members

-- every record of the one is a line of the other
abbrev pub Among : List (Option Line) → List (Option Line) → Type 0
Among lines lines' = (line : Option Line) → Memᴰ line lines → is_some line ≡ true → Memᴰ line lines'

-- what each of them has, one of them has
pub all_there : (P : Option Line → Type 0) (lines : List (Option Line)) → All P lines → (line : Option Line) → Memᴰ line lines → P line
all_there P [] all line m = elim m [ ]
all_there P (other ∷ lines) all line (Memᴰ.head e) = subst P (sym e) all.0
all_there P (other ∷ lines) all line (Memᴰ.tail m) = all_there P lines all.1 line m

-- a cell of the lines is a cell of one of them
pub record CellIn (n place : ℕ) (lines : List (Option Line)) : Type 0 where
  pub line : Option Line
  pub there : Memᴰ line lines
  pub is : is_cell n place line ≡ true

pub cell_in : (n place : ℕ) (lines : List (Option Line)) → in_cells n place lines ≡ true → CellIn n place lines
cell_in n place [] c = clash c refl
cell_in n place (line ∷ lines) c = go (or_cases (is_cell n place line) (in_cells n place lines) c) (cell_in n place lines)
  where
    go : (is_cell n place line ≡ true) ⊎ (in_cells n place lines ≡ true) → (in_cells n place lines ≡ true → CellIn n place lines) → CellIn n place (line ∷ lines)
    go (inl h) rest = record { line = line; there = Memᴰ.head refl; is = h }
    go (inr h) rest = let w = rest h in record { line = w.line; there = Memᴰ.tail w.there; is = w.is }

pub cell-of : (n place : ℕ) (line : Option Line) (lines : List (Option Line)) → Memᴰ line lines → is_cell n place line ≡ true → in_cells n place lines ≡ true
cell-of n place line [] m c = elim m [ ]
cell-of n place line (other ∷ lines) (Memᴰ.head e) c = or_left (is_cell n place other) (in_cells n place lines) (rw e at c)
cell-of n place line (other ∷ lines) (Memᴰ.tail m) c = or_right (is_cell n place other) (in_cells n place lines) (cell-of n place line lines m c)

pub cell_record : (n place : ℕ) (line : Option Line) → is_cell n place line ≡ true → is_some line ≡ true
cell_record n place (Some (Link u v)) c = refl
cell_record n place (Some (Hand v)) c = refl
cell_record n place None c = c

cells_kept : (n place : ℕ) (lines lines' : List (Option Line)) → Among lines lines' → in_cells n place lines ≡ true → in_cells n place lines' ≡ true
cells_kept n place lines lines' keep c =
    let w = cell_in n place lines c in
    cell-of n place w.line lines' (keep w.line w.there (cell_record n place w.line w.is)) w.is

-- fill the same table
pub same-table : (n : ℕ) (lines lines' : List (Option Line)) → Among lines lines' → Among lines' lines → table_of n lines ≡ table_of n lines'
same-table n lines lines' there back = ext_get_or 0 (table_of n lines) (table_of n lines') (table_of_long n lines ∙ sym (table_of_long n lines')) each
  where
    each : (place : ℕ) → place < length (table_of n lines) → get_or (table_of n lines) place 0 ≡ get_or (table_of n lines') place 0
    each place p =
        let within : place < n * n = omega (arith, table_of_long n lines) in
        table_of_cell n lines place within
        ∙ ap (λ (b : Bool). cond b 1 0) (both_ways (in_cells n place lines) (in_cells n place lines') (cells_kept n place lines lines' there) (cells_kept n place lines' lines back))
        ∙ sym (table_of_cell n lines' place within)

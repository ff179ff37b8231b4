-- The lines of a sound map are all good, and the table that they fill is the map's. Assumes nothing.
use mathlib.Core.Path.{◌≡◌, refl, sym, ap, ◌∙◌, subst}
use mathlib.Core.Bool.{Bool, true, false, ◌||◌, cond}
use mathlib.Core.List.{List, [], ◌∷◌, ◌++◌, Memᴰ}
use mathlib.Core.Logic.{◌⊎◌, inl, inr}
use Prim.Native.Nat.{ℕ, zero, suc, ◌+◌, ◌*◌, ◌/◌, ◌%◌, ◌≤◌, ◌<◌}
use native.Mathlib.Decide.{ℕ_discrete, dec_lt}
use native.Mathlib.Nat.{div-add-mod'}
use native.Mathlib.Omega.{arith}
use lib.Dec.{eqb, ltb}
use lib.ListN.{get_or}
use lib.Seq.{ext_get_or}
use borrow.Author.Tests.{eq-eqb, eqb-true, lt-ltb, le-ltb, ltb-true}
use Rattle.std.proofs.Common.{Option, None, Some, map}
use Rattle.std.specs.Prelude.{option_to_list}
use Rattle.basics.specs.Lists.{All}
use Rattle.basics.proofs.Bools.{clash, not_true→false, or_left, or_right, or_cases}
use Rattle.basics.proofs.Places.{row_of, column_of, row_below, column_below}
use Rattle.refusals.specs.Conditions.{Fault, no_bit, mirror}
use Rattle.refusals.proofs.Exactly.{sound_table}
use Rattle.captures.specs.Capture.{says, came, at_fault, fault_line, table_of}
use Rattle.captures.specs.declared.Line.{Line}
use Rattle.captures.specs.declared.Line.TheVariants.{Link, Hand}
use Rattle.captures.proofs.Cells.{is_cell, cell_of, mirror_of, Ordered, says_same, cells_are, mirror_in, mirror_back, good_new}
use Rattle.written.specs.Writing.{line_at, cell_lines, lines_in}
use Rattle.written.specs.Reading.{WritableMap, Fills}
use Rattle.written.proofs.Tables.{in_cells, all_there, cell_in, cell-of, table_of_long, table_of_cell}

-- ---- what one cell says

-- a line that the cell at a place says
record Said (n : ℕ) (table : List ℕ) (place : ℕ) (line : Line) : Type 0 where
  one : get_or table place 0 ≡ 1
  own : cell_of n (Some line) ≡ place
  ordered : Ordered n (Some line)

cell_said : (n : ℕ) (table : List ℕ) (place : ℕ) (line : Line) → 0 < n → line_at n table place ≡ Some line → Said n table place line
cell_said n table place line some = go (eqb (get_or table place 0) 1) (ltb u v) (eqb u v) refl refl refl
  where
    u : ℕ
    u = place / n

    v : ℕ
    v = place % n

    go : (one above on : Bool) → eqb (get_or table place 0) 1 ≡ one → ltb u v ≡ above → eqb u v ≡ on
        → cond one (cond above (Some (Link u v)) (cond on (Some (Hand v)) None)) None ≡ Some line → Said n table place line
    go true true on e a o is =
        let same : Link u v ≡ line = cc in
        subst (Said n table place) same (record { one = eqb-true _ _ e; own = div-add-mod' place n; ordered = (ltb-true u v a, column_below n place some) })
    go true false true e a o is =
        let same : Hand v ≡ line = cc in
        subst (Said n table place) same
        (record { one = eqb-true _ _ e; own = ap (λ (x : ℕ). x * n + v) (sym (eqb-true u v o)) ∙ div-add-mod' place n; ordered = column_below n place some })
    go true false false e a o is = absurd (cc)
    go false above on e a o is = absurd (cc)

-- each 1 says something, unless it is below the diagonal
record Says (n : ℕ) (table : List ℕ) (place : ℕ) : Type 0 where
  line : Line
  says : line_at n table place ≡ Some line

one_said : (n : ℕ) (table : List ℕ) (place : ℕ) → place / n ≤ place % n → get_or table place 0 ≡ 1 → Says n table place
one_said n table place above one = go (dec_lt (place / n) (place % n))
  where
    go : Dec (place / n < place % n) → Says n table place
    go (yes l) = record { line = Link (place / n) (place % n); says = rw (eq-eqb (get_or table place 0) 1 one, lt-ltb (place / n) (place % n) l) }
    go (no l) =
        record {
          line = Hand (place % n);
          says = rw (eq-eqb (get_or table place 0) 1 one, le-ltb (place / n) (place % n) (omega arith), eq-eqb (place / n) (place % n) (omega arith));
        }

-- ---- the lines in row order

-- what holds of each line that a cell says holds of all lines
each_line : (P : Line → Type 0) (n : ℕ) (table : List ℕ) (place more : ℕ) → ((q : ℕ) (line : Line) → q < place + more → line_at n table q ≡ Some line → P line)
    → All P (cell_lines n table place more)
unfolding cell_lines
each_line P n table place zero each = tt
each_line P n table place (suc more) each = go (line_at n table place) refl (each_line P n table (suc place) more (λ q line l. each q line (omega arith)))
  where
    go : (said : Option Line) → line_at n table place ≡ said → All P (cell_lines n table (suc place) more) → All P (option_to_list said ++ cell_lines n table (suc place) more)
    go (Some line) is rest = (each place line (omega arith) is, rest)
    go None is rest = rest

-- a line that a cell says is one of them
line_given : (n : ℕ) (table : List ℕ) (place more q : ℕ) (line : Line) → place ≤ q → q < place + more → line_at n table q ≡ Some line
    → Memᴰ (Some line) (map Some (cell_lines n table place more))
unfolding cell_lines
line_given n table place zero q line l p is = absurd (omega arith)
line_given n table place (suc more) q line l p is = pick (ℕ_discrete q place) (λ l'. line_given n table (suc place) more q line l' (omega arith) is)
  where
    here : (said : Option Line) → said ≡ Some line → Memᴰ (Some line) (map Some (option_to_list said ++ cell_lines n table (suc place) more))
    here (Some other) e = Memᴰ.head (sym e)
    here None e = absurd (cc)

    further : (said : Option Line) → Memᴰ (Some line) (map Some (cell_lines n table (suc place) more)) → Memᴰ (Some line) (map Some (option_to_list said ++ cell_lines n table (suc place) more))
    further (Some other) m = Memᴰ.tail m
    further None m = m

    pick : Dec (q ≡ place) → (suc place ≤ q → Memᴰ (Some line) (map Some (cell_lines n table (suc place) more)))
        → Memᴰ (Some line) (map Some (option_to_list (line_at n table place) ++ cell_lines n table (suc place) more))
    pick (yes e) rest = here (line_at n table place) (ap (line_at n table) (sym e) ∙ is)
    pick (no d) rest = further (line_at n table place) (rest (omega arith))

-- what holds of each of them holds of each of them as a line of a text
all_said : (P : Option Line → Type 0) (lines : List Line) → All (λ line. P (Some line)) lines → All P (map Some lines)
all_said P [] all = tt
all_said P (line ∷ lines) all = (all.0, all_said P lines all.1)

-- ---- no line is at fault

-- the own cells of all these lines stand before a place
abbrev Before : ℕ → ℕ → List (Option Line) → Type 0
Before n place lines = (line : Option Line) → came line lines ≡ true → cell_of n line < place

module _ (n : ℕ) (table : List ℕ) (some : 0 < n) where
  before_more : (place : ℕ) (before : List (Option Line)) (said : Line) → line_at n table place ≡ Some said → Before n place before → Before n (suc place) (Some said ∷ before)
  unfolding came
  before_more place before said is b line c = go (or_cases (says line (Some said)) (came line before) c)
    where
      go : (says line (Some said) ≡ true) ⊎ (came line before ≡ true) → cell_of n line < suc place
      go (inl e) = omega (arith, ap (cell_of n) (says_same line (Some said) e), (cell_said n table place said some is).own)
      go (inr e) = omega (arith, b line e)

  good_here : (place : ℕ) (before : List (Option Line)) (line : Line) → line_at n table place ≡ Some line → Before n place before → at_fault n before (Some line) ≡ false
  good_here place before line is b =
      let said = cell_said n table place line some is in
      good_new n before (Some line) said.ordered (not_true→false _ (λ c. omega (arith, b (Some line) c, said.own)))

  all_good : (place more number : ℕ) (before : List (Option Line)) → Before n place before → fault_line n number before (map Some (cell_lines n table place more)) ≡ None
  unfolding fault_line cell_lines
  all_good place zero number before b = refl
  all_good place (suc more) number before b = go (line_at n table place) refl (all_good (suc place) more)
    where
      go : (said : Option Line) → line_at n table place ≡ said
          → ((number' : ℕ) (before' : List (Option Line)) → Before n (suc place) before' → fault_line n number' before' (map Some (cell_lines n table (suc place) more)) ≡ None)
          → fault_line n number before (map Some (option_to_list said ++ cell_lines n table (suc place) more)) ≡ None
      go (Some line) is rest = rw (good_here place before line is b) (rest (suc number) (Some line ∷ before) (before_more place before line is b))
      go None is rest = rest number before (λ line c. omega (arith, b line c))

  -- the cells of a line that a cell says are that cell and its mirror
  cells_said : (place cell : ℕ) (line : Line) → line_at n table place ≡ Some line → is_cell n cell (Some line) ≡ (eqb cell place || eqb cell (mirror_of n place))
  cells_said place cell line is =
      let said = cell_said n table place line some is in
      cells_are n (Some line) cell refl said.ordered ∙ ap (λ (x : ℕ). eqb cell x || eqb cell (mirror_of n x)) said.own

-- ---- the cells of a sound map

-- its lines, as lines of a text
abbrev pub as_said : ℕ → List ℕ → List (Option Line)
as_said n table = map Some (lines_in n table)

module _ (n : ℕ) (table : List ℕ) (map : WritableMap n table) where
  some : 0 < n
  some = omega (arith, map.two_radios)

  no_fault : (place : ℕ) → place < n * n → Fault table n place → ⊥
  no_fault = sound_table table n map.sound

  bit : (place : ℕ) → place < n * n → (get_or table place 0 ≡ 1 → ⊥) → get_or table place 0 ≡ 0
  bit place p d = go (ℕ_discrete (get_or table place 0) 0)
    where
      go : Dec (get_or table place 0 ≡ 0) → get_or table place 0 ≡ 0
      go (yes e) = e
      go (no c) = absurd (no_fault place p (no_bit (c, d)))

  mirrored : (place : ℕ) → place < n * n → get_or table place 0 ≡ get_or table (mirror_of n place) 0
  mirrored place p = go (ℕ_discrete _ _)
    where
      go : Dec (get_or table place 0 ≡ get_or table (mirror_of n place) 0) → get_or table place 0 ≡ get_or table (mirror_of n place) 0
      go (yes e) = e
      go (no d) = absurd (no_fault place p (mirror d))

  abbrev said : List (Option Line)
  said = as_said n table

  -- a cell of a line is 1
  cell_one : (cell place : ℕ) (line : Line) → place < n * n → line_at n table place ≡ Some line → is_cell n cell (Some line) ≡ true → get_or table cell 0 ≡ 1
  cell_one cell place line p is c = go (or_cases (eqb cell place) (eqb cell (mirror_of n place)) (sym (cells_said n table some place cell line is) ∙ c))
    where
      one : get_or table place 0 ≡ 1
      one = (cell_said n table place line some is).one

      go : (eqb cell place ≡ true) ⊎ (eqb cell (mirror_of n place) ≡ true) → get_or table cell 0 ≡ 1
      go (inl e) = ap (λ (x : ℕ). get_or table x 0) (eqb-true cell place e) ∙ one
      go (inr e) = ap (λ (x : ℕ). get_or table x 0) (eqb-true cell (mirror_of n place) e) ∙ sym (mirrored place p) ∙ one

  cells_one : (cell : ℕ) → in_cells n cell said ≡ true → get_or table cell 0 ≡ 1
  cells_one cell c =
      let w = cell_in n cell said c in
      let P : Option Line → Type 0 = λ line. is_cell n cell line ≡ true → get_or table cell 0 ≡ 1 in
      all_there P said (all_said P (lines_in n table) (each_line _ n table 0 (n * n) (λ place line p. cell_one cell place line (omega arith)))) w.line w.there w.is

  -- a place not below the diagonal whose cell is 1 is a cell of a line, and so is its mirror
  cells_of : (place cell : ℕ) → place < n * n → place / n ≤ place % n → get_or table place 0 ≡ 1 → (eqb cell place || eqb cell (mirror_of n place)) ≡ true → in_cells n cell said ≡ true
  cells_of place cell p above one c =
      let s = one_said n table place above one in
      cell-of n cell (Some s.line) said (line_given n table 0 (n * n) place s.line (omega arith) (omega arith) s.says) (cells_said n table some place cell s.line s.says ∙ c)

  -- a cell that is 1 is a cell of a line
  one_in_cells : (cell : ℕ) → cell < n * n → get_or table cell 0 ≡ 1 → in_cells n cell said ≡ true
  one_in_cells cell p one = pick (dec_lt (cell % n) (cell / n))
    where
      row : cell / n < n
      row = row_below n cell some p

      below : cell % n < cell / n → mirror_of n cell / n ≤ mirror_of n cell % n
      below l = rw (row_of n (cell % n) (cell / n) row, column_of n (cell % n) (cell / n) row) (omega arith)

      pick : Dec (cell % n < cell / n) → in_cells n cell said ≡ true
      pick (no d) = cells_of cell cell p (omega arith) one (or_left (eqb cell cell) (eqb cell (mirror_of n cell)) (eq-eqb cell cell refl))
      pick (yes l) =
          cells_of (mirror_of n cell) cell (mirror_in n cell p some) (below l) (sym (mirrored cell p) ∙ one)
          (or_right (eqb cell (mirror_of n cell)) (eqb cell (mirror_of n (mirror_of n cell))) (eq-eqb cell _ (sym (mirror_back n cell p some))))

  -- so the lines fill the table
  same_cell : (cell : ℕ) → cell < n * n → cond (in_cells n cell said) 1 0 ≡ get_or table cell 0
  same_cell cell p = go (in_cells n cell said) refl
    where
      go : (b : Bool) → in_cells n cell said ≡ b → cond b 1 0 ≡ get_or table cell 0
      go true e = sym (cells_one cell e)
      go false e = sym (bit cell p (λ one. clash (one_in_cells cell p one) e))

  pub map_read_back : Fills n (lines_in n table) table
  unfolding came
  map_read_back =
      record {
        all_good = all_good n table some 0 (n * n) 2 [] (λ line c. clash c refl);
        table_is =
            ext_get_or 0 (table_of n said) table (table_of_long n said ∙ sym map.long)
            (λ cell p. let within : cell < n * n = omega (arith, table_of_long n said) in table_of_cell n said cell within ∙ same_cell cell within);
      }

  -- each of them is of radios below n
  pub lines_ordered : All (λ line. Ordered n (Some line)) (lines_in n table)
  lines_ordered = each_line _ n table 0 (n * n) (λ place line p is. (cell_said n table place line some is).ordered)

-- The cells of the table that a line fills, and which lines are good. Assumes nothing.
use mathlib.Core.Path.{◌≡◌, refl, sym, ap, ap₂, ◌∙◌}
use mathlib.Core.Bool.{Bool, true, false, not, ◌||◌, cond, or_self}
use mathlib.Core.List.{List}
use mathlib.Core.Logic.{◌⊎◌, inl, inr, ⊎_elim}
use Prim.Native.Nat.{ℕ, ◌+◌, ◌*◌, ◌/◌, ◌%◌, ◌<◌}
use native.Mathlib.Decide.{ℕ_discrete}
use native.Mathlib.Nat.{div-add-mod'}
use native.Mathlib.Omega.{arith}
use lib.Dec.{eqb, ltb}
use lib.ListN.{length, get_or, set, length-set}
use lib.Seq.{get_or-set_same, get_or-set_other}
use borrow.Author.Tests.{eq-eqb, ne_eqb, eqb-true, lt-ltb, ltb-true}
use Rattle.basics.proofs.Bools.{clash, both_ways, or_left, or_cases, and_left, and_right, and_both}
use Rattle.basics.proofs.Places.{row_of, column_of, one_row_one_column, in_table, row_below, column_below}
use Rattle.std.proofs.Common.{Option, None, Some, is_some}
use Rattle.captures.specs.Capture.{says, came, at_fault, with_line}
use Rattle.captures.specs.declared.Line.{Line}
use Rattle.captures.specs.declared.Line.TheVariants.{Link, Hand}

-- ---- the table after a line

-- the place is one of the two cells of the line's link, or the handheld's own
abbrev pub is_cell : ℕ → ℕ → Option Line → Bool
is_cell n place (Some (Link u v)) = eqb place (u * n + v) || eqb place (v * n + u)
is_cell n place (Some (Hand v)) = eqb place (v * n + v)
is_cell n place None = false

pub cond_or : (a b : Bool) (x y : ℕ) → cond b x (cond a x y) ≡ cond (a || b) x y
cond_or true true x y = refl
cond_or true false x y = refl
cond_or false b x y = refl

cell_set : (table : List ℕ) (at place : ℕ) → place < length table → get_or (set table at 1) place 0 ≡ cond (eqb place at) 1 (get_or table place 0)
cell_set table at place p = go (ℕ_discrete place at)
  where
    go : Dec (place ≡ at) → get_or (set table at 1) place 0 ≡ cond (eqb place at) 1 (get_or table place 0)
    go (yes e) = rw (← e, eq-eqb place place refl) (get_or-set_same table place 1 0 p)
    go (no d) = rw (ne_eqb place at d) (get_or-set_other table at place 1 0 d)

pub with_cell : (n : ℕ) (table : List ℕ) (line : Option Line) (place : ℕ) → place < length table → get_or (with_line n table line) place 0 ≡ cond (is_cell n place line) 1 (get_or table place 0)
with_cell n table None place p = refl
with_cell n table (Some (Hand v)) place p = cell_set table (v * n + v) place p
with_cell n table (Some (Link u v)) place p =
    cell_set (set table (u * n + v) 1) (v * n + u) place (simp length-set p)
    ∙ ap (cond (eqb place (v * n + u)) 1) (cell_set table (u * n + v) place p)
    ∙ cond_or (eqb place (u * n + v)) (eqb place (v * n + u)) 1 (get_or table place 0)

pub with_long : (n : ℕ) (table : List ℕ) (line : Option Line) → length (with_line n table line) ≡ length table
with_long n table None = refl
with_long n table (Some (Hand v)) = simp length-set
with_long n table (Some (Link u v)) = simp length-set

-- ---- a line's own cell

-- the cell that a line is known by: of a link's two the one above the diagonal
abbrev pub cell_of : ℕ → Option Line → ℕ
cell_of n (Some (Link u v)) = u * n + v
cell_of n (Some (Hand v)) = v * n + v
cell_of n None = 0

-- the place on the other side of the diagonal
abbrev pub mirror_of : ℕ → ℕ → ℕ
mirror_of n place = place % n * n + place / n

-- a line's radios are below n, and those of a link stand in order
abbrev pub Ordered : ℕ → Option Line → Type 0
Ordered n (Some (Link u v)) = (u < v) × (v < n)
Ordered n (Some (Hand v)) = v < n
Ordered n None = Unit {0}

pub own_in : (n : ℕ) (line : Option Line) → is_some line ≡ true → Ordered n line → cell_of n line < n * n
own_in n None is ord = clash is refl
own_in n (Some (Hand v)) is ord = in_table n v v ord ord
own_in n (Some (Link u v)) is ord = in_table n u v (omega (arith, ord.0, ord.1)) ord.1

-- lines that say the same are the same
pub says_same : (line other : Option Line) → says line other ≡ true → line ≡ other
says_same None other e = clash e refl
says_same (Some (Hand v)) None e = clash e refl
says_same (Some (Hand v)) (Some (Link a b)) e = clash e refl
says_same (Some (Hand v)) (Some (Hand w)) e = ap (λ (a : ℕ). Some (Hand a)) (eqb-true v w e)
says_same (Some (Link u v)) None e = clash e refl
says_same (Some (Link u v)) (Some (Hand w)) e = clash e refl
says_same (Some (Link u v)) (Some (Link a b)) e = ap₂ (λ (a b : ℕ). Some (Link a b)) (eqb-true u a (and_left (eqb u a) (eqb v b) e)) (eqb-true v b (and_right (eqb u a) (eqb v b) e))

module _ (n : ℕ) where
  own_is_cell : (line : Option Line) → is_some line ≡ true → is_cell n (cell_of n line) line ≡ true
  own_is_cell None is = is
  own_is_cell (Some (Hand v)) is = eq-eqb (v * n + v) (v * n + v) refl
  own_is_cell (Some (Link u v)) is = or_left (eqb (u * n + v) (u * n + v)) (eqb (u * n + v) (v * n + u)) (eq-eqb (u * n + v) (u * n + v) refl)

  -- a cell of a link is in the row of the one radio and the column of the other
  in_link : (a b u v : ℕ) → b < n → Ordered n (Some (Link u v)) → is_cell n (a * n + b) (Some (Link u v)) ≡ true → ((a ≡ u) × (b ≡ v)) ⊎ ((a ≡ v) × (b ≡ u))
  in_link a b u v p ord c = go (or_cases (eqb (a * n + b) (u * n + v)) (eqb (a * n + b) (v * n + u)) c)
    where
      go : (eqb (a * n + b) (u * n + v) ≡ true) ⊎ (eqb (a * n + b) (v * n + u) ≡ true) → ((a ≡ u) × (b ≡ v)) ⊎ ((a ≡ v) × (b ≡ u))
      go (inl e) = inl (one_row_one_column n a b u v p ord.1 (eqb-true _ _ e))
      go (inr e) = inr (one_row_one_column n a b v u p (omega (arith, ord.0, ord.1)) (eqb-true _ _ e))

  -- no line that says something else fills it
  own_told : (line other : Option Line) → is_some line ≡ true → Ordered n line → Ordered n other → is_cell n (cell_of n line) other ≡ true → says line other ≡ true
  own_told None other is ord ord' c = clash is refl
  own_told (Some (Link a b)) None is ord ord' c = clash c refl
  own_told (Some (Link a b)) (Some (Hand v)) is ord ord' c = let s = one_row_one_column n a b v v ord.1 ord' (eqb-true _ _ c) in absurd (omega (arith, ord.0, s.0, s.1))
  own_told (Some (Link a b)) (Some (Link u v)) is ord ord' c =
      ⊎_elim (λ s. and_both (eqb a u) (eqb b v) (eq-eqb a u s.0) (eq-eqb b v s.1)) (λ s. absurd (omega (arith, ord.0, ord'.0, s.0, s.1)))
      (in_link a b u v ord.1 ord' c)
  own_told (Some (Hand a)) None is ord ord' c = clash c refl
  own_told (Some (Hand a)) (Some (Hand v)) is ord ord' c = eq-eqb a v (one_row_one_column n a a v v ord ord' (eqb-true _ _ c)).0
  own_told (Some (Hand a)) (Some (Link u v)) is ord ord' c =
      ⊎_elim (λ s. absurd (omega (arith, ord'.0, s.0, s.1))) (λ s. absurd (omega (arith, ord'.0, s.0, s.1))) (in_link a a u v ord ord' c)

  pub own_cell : (line other : Option Line) → is_some line ≡ true → Ordered n line → Ordered n other → is_cell n (cell_of n line) other ≡ says line other
  own_cell line other is ord ord' =
      both_ways _ _ (own_told line other is ord ord') (λ e. ap (is_cell n (cell_of n line)) (sym (says_same line other e)) ∙ own_is_cell line is)

  -- its cells are its own one and the mirror of that
  pub cells_are : (line : Option Line) (place : ℕ) → is_some line ≡ true → Ordered n line → is_cell n place line ≡ (eqb place (cell_of n line) || eqb place (mirror_of n (cell_of n line)))
  cells_are None place is ord = clash is refl
  cells_are (Some (Hand v)) place is ord = rw (row_of n v v ord, column_of n v v ord) (sym (or_self (eqb place (v * n + v))))
  cells_are (Some (Link u v)) place is ord = rw (row_of n u v ord.1, column_of n u v ord.1) refl

  pub mirror_in : (place : ℕ) → place < n * n → 0 < n → mirror_of n place < n * n
  mirror_in place p some = in_table n (place % n) (place / n) (column_below n place some) (row_below n place some p)

  pub mirror_back : (place : ℕ) → place < n * n → 0 < n → mirror_of n (mirror_of n place) ≡ place
  mirror_back place p some =
      let row : place / n < n = row_below n place some p in
      rw (row_of n (place % n) (place / n) row, column_of n (place % n) (place / n) row) (div-add-mod' place n)

-- ---- good lines

pub good_ordered : (n : ℕ) (before : List (Option Line)) (line : Option Line) → at_fault n before line ≡ false → Ordered n line
good_ordered n before None good = tt
good_ordered n before (Some (Hand v)) good = go (ltb v n) refl good
  where
    go : (a : Bool) → ltb v n ≡ a → (not a || came (Some (Hand v)) before) ≡ false → v < n
    go true p g = ltb-true _ _ p
    go false p g = clash refl g
good_ordered n before (Some (Link u v)) good = go (ltb u v) (ltb v n) refl refl good
  where
    go : (a b : Bool) → ltb u v ≡ a → ltb v n ≡ b → (not a || not b || came (Some (Link u v)) before) ≡ false → (u < v) × (v < n)
    go true true p q g = (ltb-true _ _ p, ltb-true _ _ q)
    go true false p q g = clash refl g
    go false b p q g = clash refl g

pub good_new : (n : ℕ) (before : List (Option Line)) (line : Option Line) → Ordered n line → came line before ≡ false → at_fault n before line ≡ false
good_new n before None ord new = refl
good_new n before (Some (Hand v)) ord new = rw (lt-ltb v n ord, new)
good_new n before (Some (Link u v)) ord new = rw (lt-ltb u v ord.0, lt-ltb v n ord.1, new)

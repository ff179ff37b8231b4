-- The table that the lines fill: what a line says came before exactly if its own cell is 1. Assumes nothing.
use mathlib.Core.Path.{◌≡◌, refl, sym, ap, ap₂, ◌∙◌}
use mathlib.Core.Bool.{Bool, true, false, ◌||◌, cond}
use mathlib.Core.List.{List, [], ◌∷◌, ◌++◌, append_assoc, append-nil}
use Prim.Native.Nat.{ℕ, ◌+◌, ◌-◌, ◌*◌, ◌≤◌, ◌<◌}
use native.Mathlib.Decide.{dec_lt}
use native.Mathlib.Nat.{mul-le-mul_right}
use native.Mathlib.Numerals.{add-one}
use native.Mathlib.Omega.{arith}
use lib.Dec.{eqb}
use lib.ListN.{length, get_or, set, take, replicate, length-append, length-replicate, get_or-replicate}
use lib.Seq.{take_at}
use borrow.Author.Tests.{lt-ltb, le-ltb, not-true, not-false, ne_eqb}
use Rattle.std.proofs.Common.{Option, Some, None, is_some}
use Rattle.std.proofs.Math.Seq.{take-set-lt}
use Rattle.std.proofs.lemmas.List.{get_or-take, take-replicate}
use Rattle.site.specs.Limits.{most_radios}
use Rattle.captures.specs.Words.{line_feed}
use Rattle.captures.specs.Text.{pieces}
use Rattle.captures.specs.Capture.{line_of, came, at_fault, fault_line, with_line, table_with, table_of}
use Rattle.captures.specs.Reading.{Parted}
use Rattle.captures.specs.declared.Line.{Line}
use Rattle.captures.specs.declared.Line.TheVariants.{Link, Hand}
use Rattle.captures.proofs.Cells.{is_cell, with_cell, with_long, cell_of, Ordered, own_in, own_cell, good_ordered}
use Rattle.captures.proofs.Pieces.{rest_shorter}
use Rattle.texts.specs.Table.{fault_in, Marked, Added, lines_said, LinesRead}
use Rattle.texts.proofs.Lines.{lines_ended, lines_open}

-- ---- the cells

-- the own cell of a line is 1 exactly if what it says came before
abbrev pub Cells : ℕ → List ℕ → List (Option Line) → Type 0
Cells n table before = (line : Option Line) → is_some line ≡ true → Ordered n line → came line before ≡ eqb (get_or table (cell_of n line) 0) 1

cells_none : (n : ℕ) → Cells n (replicate (n * n) 0) []
unfolding came
cells_none n line is ord = rw (get_or-replicate {A = ℕ} (n * n) (cell_of n line) 0 0 (own_in n line is ord))

-- a cell that is set is 1, and another is as it was
set_or_was : (b : Bool) (was : ℕ) → (b || eqb was 1) ≡ eqb (cond b 1 was) 1
set_or_was true was = refl
set_or_was false was = refl

-- the table of one line more
cells_more : (n : ℕ) (table : List ℕ) (before : List (Option Line)) (new : Option Line) → length table ≡ n * n → Ordered n new → Cells n table before → Cells n (with_line n table new) (new ∷ before)
unfolding came
cells_more n table before new long ordered cells line is ord =
    let within : cell_of n line < length table = omega (arith, own_in n line is ord) in
    ap₂ (λ (a b : Bool). a || b) (sym (own_cell n line new is ord ordered)) (cells line is ord)
    ∙ set_or_was (is_cell n (cell_of n line) new) (get_or table (cell_of n line) 0)
    ∙ ap (λ (x : ℕ). eqb x 1) (sym (with_cell n table new (cell_of n line) within))

-- so the table tells a line at fault
fault_told : (n : ℕ) (table : List ℕ) (before : List (Option Line)) (line : Option Line) → Cells n table before → at_fault n before line ≡ fault_in n table line
fault_told n table before None cells = refl
fault_told n table before (Some (Hand v)) cells = pick (dec_lt v n)
  where
    pick : Dec (v < n) → at_fault n before (Some (Hand v)) ≡ fault_in n table (Some (Hand v))
    pick (yes p) = rw (cells (Some (Hand v)) refl p)
    pick (no p) = rw (le-ltb v n (omega arith))
fault_told n table before (Some (Link u v)) cells = pick (dec_lt u v) (dec_lt v n)
  where
    pick : Dec (u < v) → Dec (v < n) → at_fault n before (Some (Link u v)) ≡ fault_in n table (Some (Link u v))
    pick (yes p) (yes q) = rw (cells (Some (Link u v)) refl (p, q))
    pick (no p) q = rw (le-ltb u v (omega arith))
    pick (yes p) (no q) = rw (lt-ltb u v p, le-ltb v n (omega arith))

-- ---- the room for the cells

-- two cells of a table are set in the room for them
pub marked : (n u v : ℕ) (room : List ℕ) {cell mirror : ℕ} → (cell ≡ u * n + v) × (cell < n * n) → (mirror ≡ v * n + u) × (mirror < n * n) → (get_or room cell 0 ≡ 1 → ⊥)
    → Marked n u v (take (n * n) room) (take (n * n) (set (set room cell 1) mirror 1)) true
marked n u v room {cell} {mirror} c m new =
    let was : get_or (take (n * n) room) (u * n + v) 0 ≡ get_or room cell 0 = rw (← c.0) (get_or-take (n * n) room cell 0 c.1) in
    record {
      told = rw (was, ne_eqb (get_or room cell 0) 1 new);
      marked = rw (← c.0, ← m.0) (take-set-lt (n * n) (set room cell 1) mirror 1 m.1 ∙ ap (λ (t : List ℕ). set t mirror 1) (take-set-lt (n * n) room cell 1 c.1));
    }

-- as many cells of the room for them as there are
pub zeros_taken : (n : ℕ) → n ≤ most_radios → {room : List ℕ} → room ≡ replicate (most_radios * most_radios) 0 → take (n * n) room ≡ replicate (n * n) 0
zeros_taken n few e =
    let fits : n * n ≤ most_radios * most_radios = omega (arith, mul-le-mul_right n few) in
    ap (take (n * n)) e ∙ take-replicate (n * n) (most_radios * most_radios) 0 fits

-- ---- line after line

-- what is known before line `number`, which `left` begins with: no line read was at fault, and the table has them. `before` is the
-- same lines, the last one first
pub record Filling (text left : List ℕ) (n : ℕ) (table : List ℕ) (number : ℕ) : Type 0 where
  pub few : number + length left ≤ length text + 2
  pub long : length table ≡ n * n
  pub read : List (Option Line)
  pub count : length read + 2 ≡ number
  pub parted : lines_said text ≡ read ++ lines_said left
  pub has : table ≡ table_of n read
  pub before : List (Option Line)
  pub cells : Cells n table before
  pub fault : fault_line n 2 [] (lines_said text) ≡ fault_line n number before (lines_said left)

pub filling_none : (text : List ℕ) (n : ℕ) {table : List ℕ} → table ≡ replicate (n * n) 0 → Filling text text n table 2
unfolding table_with
filling_none text n zeros =
    record {
      few = omega arith;
      long = ap length zeros ∙ length-replicate (n * n) 0;
      read = [];
      count = refl;
      parted = refl;
      has = zeros;
      before = [];
      cells = rw zeros (cells_none n);
      fault = refl;
    }

-- the table of one line more
table_more : (n : ℕ) (table : List ℕ) (lines : List (Option Line)) (line : Option Line) → table_with n table (lines ++ (line ∷ [])) ≡ with_line n (table_with n table lines) line
unfolding table_with
table_more n table [] line = refl
table_more n table (first ∷ lines) line = table_more n (with_line n table first) lines line

-- no line makes a table longer or shorter
table_long : (n : ℕ) (table : List ℕ) (lines : List (Option Line)) → length (table_with n table lines) ≡ length table
unfolding table_with
table_long n table [] = refl
table_long n table (line ∷ lines) = table_long n (with_line n table line) lines ∙ with_long n table line

-- so a table that was left at a fault has its n · n cells too
pub read_long : (text : List ℕ) (n : ℕ) (table : List ℕ) (r : Option ℕ) → LinesRead text n table r → length table ≡ n * n
read_long text n table None read = ap length read.filled ∙ table_long n _ _ ∙ length-replicate (n * n) 0
read_long text n table (Some number) read = ap length read.stopped ∙ table_long n _ _ ∙ length-replicate (n * n) 0

module _ {text left : List ℕ} {n : ℕ} {table : List ℕ} {number : ℕ} (filling : Filling text left n table number) where
  module _ {line rest : List ℕ} (cut : Parted line_feed left line rest) {said : Option Line} (says : said ≡ line_of line) {after : List ℕ} {good : Bool} (added : Added n table said after good) where
    lines_here : lines_said left ≡ said ∷ lines_said rest
    lines_here = lines_ended cut ∙ ap (λ (l : Option Line). l ∷ lines_said rest) (sym says)

    -- a line at fault
    pub filled_fault : good ≡ false → LinesRead text n after (Some number)
    unfolding fault_line
    filled_fault refused =
        let bad : fault_in n table said ≡ true = not-false (fault_in n table said) (sym added.told ∙ refused) in
        let told : fault_line n 2 [] (lines_said text) ≡ Some number =
        filling.fault ∙ ap (fault_line n number filling.before) lines_here
        ∙ rw (fault_told n table filling.before said filling.cells, bad)
        in
        let kept : after ≡ table = added.joined ∙ ap (λ (b : Bool). cond b (with_line n table said) table) refused in
        let count : length filling.read ≡ number - 2 = omega (arith, filling.count) in
        record {
          told = sym told;
          filled = tt;
          stopped = kept ∙ filling.has ∙ ap (table_of n) (sym (ap (take (number - 2)) filling.parted ∙ take_at filling.read _ (number - 2) count));
        }

    -- a good one
    pub filling_more : good ≡ true → Filling text rest n after (number + 1)
    unfolding fault_line
    filling_more taken =
        let fine : fault_in n table said ≡ false = not-true (fault_in n table said) (sym added.told ∙ taken) in
        let ordered : Ordered n said = good_ordered n filling.before said (fault_told n table filling.before said filling.cells ∙ fine) in
        let has : after ≡ with_line n table said = added.joined ∙ ap (λ (b : Bool). cond b (with_line n table said) table) taken in
        record {
          few = omega (arith, filling.few, rest_shorter cut);
          long = ap length has ∙ with_long n table said ∙ filling.long;
          read = filling.read ++ (said ∷ []);
          count = simp length-append (omega (arith, filling.count));
          parted = filling.parted ∙ ap (λ (lines : List (Option Line)). filling.read ++ lines) lines_here ∙ sym (append_assoc filling.read (said ∷ []) _);
          has = has ∙ ap (λ (t : List ℕ). with_line n t said) filling.has ∙ sym (table_more n (replicate (n * n) 0) filling.read said);
          before = said ∷ filling.before;
          cells = rw has (cells_more n table filling.before said filling.long ordered filling.cells);
          fault = filling.fault ∙ ap (fault_line n number filling.before) lines_here ∙ rw (fault_told n table filling.before said filling.cells, fine, add-one number);
        }

  -- every line read
  pub filled : pieces line_feed left ≡ left ∷ [] → LinesRead text n table None
  unfolding fault_line
  filled open_end =
      let none : lines_said left ≡ [] = lines_open open_end in
      let all : lines_said text ≡ filling.read = filling.parted ∙ ap (λ (lines : List (Option Line)). filling.read ++ lines) none ∙ append-nil filling.read in
      record {
        told = sym (filling.fault ∙ ap (fault_line n number filling.before) none);
        filled = filling.has ∙ ap (table_of n) (sym all);
        stopped = tt;
      }

-- The cells of a table: what a good one says, where it stands in row order, and what it says of the links. Assumes nothing.
use mathlib.Core.Path.{◌≡◌, refl, sym, ap, ◌∙◌}
use mathlib.Core.Bool.{Bool, true, false, not, ◌&&◌, cond, and-false, true≢false}
use mathlib.Core.List.{List}
use Prim.Native.Nat.{ℕ, ◌+◌, ◌-◌, ◌*◌, ◌≤◌, ◌<◌}
use native.Mathlib.Decide.{ℕ_discrete, dec_lt}
use native.Mathlib.Nat.{mul-le-mul_right, suc-mul}
use native.Mathlib.Omega.{arith}
use lib.Dec.{eqb, ltb}
use Rattle.std.specs.Prelude.{Ok, Err, is_err}
use lib.ListN.{length, get_or, take, drop}
use Rattle.std.proofs.lemmas.List.{get_or-take, get_or-drop, length-take, length-drop}
use borrow.Author.Tests.{eq-eqb, ne_eqb, eqb-true, lt-ltb, le-ltb, ltb-false}
use Rattle.basics.proofs.Places.{row_of, column_of}
use Rattle.radios.specs.Bytes.{is_one}
use Rattle.site.specs.Map.{linked}
use Rattle.refusals.specs.Refusals.{Finding, cell_finding, finding_at}
use Rattle.refusals.specs.declared.BadCell.TheVariants.{Value, Mirror}
use Rattle.site.specs.Limits.{most_radios}

-- ---- good cells

-- what is known of a cell that is not bad
pub record Good (cell mirror : ℕ) : Type 0 where
  pub bit : cell ≤ 1
  pub even : cell ≡ mirror

good : (place cell mirror : ℕ) → is_err (cell_finding place cell mirror) ≡ false → Good cell mirror
unfolding cell_finding
good place cell mirror = go (ltb 1 cell) (eqb cell mirror) refl refl
  where
    go : (value even : Bool) → ltb 1 cell ≡ value → eqb cell mirror ≡ even → let found : Finding = cond value (Err (Value place)) (cond (not even) (Err (Mirror place)) (Ok tt)) in is_err found ≡ false → Good cell mirror
    go false true v e sound = record { bit = ltb-false 1 cell v; even = eqb-true cell mirror e }
    go true even v e sound = absurd (true≢false sound)
    go false false v e sound = absurd (true≢false sound)

pub not_bad : (place cell mirror : ℕ) → Good cell mirror → is_err (cell_finding place cell mirror) ≡ false
unfolding cell_finding
not_bad place cell mirror g = simp (le-ltb 1 cell g.bit, eq-eqb cell mirror g.even)

-- what is found at the cell of row i and column j of a table
abbrev pub finding_in : List ℕ → ℕ → ℕ → ℕ → Finding
finding_in table n i j = cell_finding (i * n + j) (get_or table (i * n + j) 0) (get_or table (j * n + i) 0)

abbrev pub bad_in : List ℕ → ℕ → ℕ → ℕ → Bool
bad_in table n i j = is_err (finding_in table n i j)

-- a cell is as good as its mirror cell
pub good_mirror : (table : List ℕ) (n i j : ℕ) → bad_in table n i j ≡ false → bad_in table n j i ≡ false
good_mirror table n i j e =
    let g = good (i * n + j) (get_or table (i * n + j) 0) (get_or table (j * n + i) 0) e in
    not_bad (j * n + i) (get_or table (j * n + i) 0) (get_or table (i * n + j) 0) (record { bit = omega (arith, g.bit, g.even); even = sym g.even })

-- ---- links

-- two radios are linked where their cell is 1
pub linked-apart : (table : List ℕ) (n i j : ℕ) → i < n → j < n → (i ≡ j → ⊥) → linked table n i j ≡ is_one table (i * n + j)
unfolding linked
linked-apart table n i j hi hj d = simp (lt-ltb i n hi, lt-ltb j n hj, ne_eqb i j d)

-- no radio is linked to itself
pub linked-itself : (table : List ℕ) (n i j : ℕ) → i ≡ j → linked table n i j ≡ false
unfolding linked
linked-itself table n i j e = simp (eq-eqb i j e, and-false)

-- no radio outside the map has a link
pub linked-outside : (table : List ℕ) (n u v : ℕ) → (u < n → v < n → ⊥) → linked table n u v ≡ false
unfolding linked
linked-outside table n u v out = pick (dec_lt u n) (dec_lt v n)
  where
    pick : Dec (u < n) → Dec (v < n) → (ltb u n && ltb v n && not (eqb u v) && eqb (get_or table (u * n + v) 0) 1) ≡ false
    pick (yes p) (yes q) = absurd (out p q)
    pick (yes p) (no q) = simp (lt-ltb u n p, le-ltb v n (omega arith))
    pick (no p) (yes q) = simp (le-ltb u n (omega arith))
    pick (no p) (no q) = simp (le-ltb u n (omega arith))

-- the cells of row i that are 1, but for its own, are the radios that i is linked to
pub linked-row : (table : List ℕ) (n i j : ℕ) → i < n → (not (eqb j i) && (ltb j n && is_one table (i * n + j))) ≡ linked table n i j
linked-row table n i j hi = pick (ℕ_discrete i j) (dec_lt j n)
  where
    pick : Dec (i ≡ j) → Dec (j < n) → (not (eqb j i) && (ltb j n && is_one table (i * n + j))) ≡ linked table n i j
    pick (yes e) q = simp (eq-eqb j i (sym e)) (sym (linked-itself table n i j e))
    pick (no d) (yes q) = simp (ne_eqb j i (λ e. d (sym e)), lt-ltb j n q) (sym (linked-apart table n i j hi q d))
    pick (no d) (no q) = simp (ne_eqb j i (λ e. d (sym e)), le-ltb j n (omega arith)) (sym (linked-outside table n i j (λ a b. q b)))

-- the cells of row i, as they are cut out of the table, tell of these links
pub linked_cut : (table : List ℕ) (n i start : ℕ) → start ≡ i * n + 0 → length table ≡ n * n → i < n
    → (j : ℕ) → let row : List ℕ = take (start + n - start) (drop start table) in (not (eqb j i) && (ltb j (length row) && is_one row j)) ≡ linked table n i j
linked_cut table n i start at long inside j =
    let row : List ℕ = take (start + n - start) (drop start table) in
    let room : start + n ≤ length table = omega (arith, mul-le-mul_right n inside, suc-mul i n) in
    let size : length row ≡ n = omega (arith, length-take (start + n - start) (drop start table), length-drop start table) in
    ap (λ (k : ℕ). not (eqb j i) && (ltb j k && is_one row j)) size ∙ pick (dec_lt j n) ∙ linked-row table n i j inside
  where
    pick : Dec (j < n) → let row : List ℕ = take (start + n - start) (drop start table) in (not (eqb j i) && (ltb j n && is_one row j)) ≡ (not (eqb j i) && (ltb j n && is_one table (i * n + j)))
    pick (yes l) =
        let here : start + j ≡ i * n + j = omega arith in
        ap (λ (cell : ℕ). not (eqb j i) && (ltb j n && eqb cell 1)) (get_or-take (start + n - start) (drop start table) j 0 (omega arith) ∙ get_or-drop start table j 0 ∙ ap (λ (place : ℕ). get_or table place 0) here)
    pick (no l) = simp (le-ltb j n (omega arith))

-- ---- row order

-- the cell of row i and column j has the place i·n+j
pub at_place : (table : List ℕ) (n i j : ℕ) → j < n → finding_at table n (i * n + j) ≡ finding_in table n i j
unfolding finding_at
at_place table n i j h = rw (row_of n i j h, column_of n i j h) refl

-- an earlier place is in an earlier row, or in the same row and further left
pub earlier : (n a b i j : ℕ) → n ≤ most_radios → b < n → j < n → a * n + b < i * n + j → most_radios * a + b < most_radios * i + j
earlier n a b i j h hb hj l = pick (dec_lt a i) (dec_lt i a)
  where
    pick : Dec (a < i) → Dec (i < a) → most_radios * a + b < most_radios * i + j
    pick (yes p) q = omega arith
    pick (no p) (yes q) = absurd (omega (arith, mul-le-mul_right n q, suc-mul i n))
    pick (no p) (no q) = let e : a ≡ i = omega arith in omega (arith, ap (λ (x : ℕ). x * n) e)

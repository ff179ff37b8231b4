-- The scan of the table: what is known after each cell, and what it comes to. Assumes nothing.
use mathlib.Core.Path.{◌≡◌, refl, sym, ap, ◌∙◌}
use mathlib.Core.Bool.{true, false}
use mathlib.Core.List.{List}
use Prim.Native.Nat.{ℕ, zero, suc, ◌+◌, ◌*◌, ◌/◌, ◌%◌, ◌≤◌, ◌<◌, zero-le}
use native.Mathlib.Decide.{dec_lt}
use native.Mathlib.Nat.{mod-lt, div-add-mod', div-lt_iff_lt-mul}
use native.Mathlib.Omega.{arith}
use Rattle.std.specs.Prelude.{Ok, is_err}
use lib.ListN.{length, get_or, get_or-eq_default}
use borrow.Author.Tests.{lt-ltb, le-ltb}
use Rattle.basics.specs.Counting.{first_from}
use Rattle.basics.proofs.Counting.{first_is}
use Rattle.radios.specs.Bytes.{Bits}
use Rattle.refusals.specs.Conditions.{no_bit}
use Rattle.refusals.specs.Refusals.{Finding, cell_finding, bad_cell, first_bad, finding}
use Rattle.refusals.proofs.Exactly.{sound_table}
use Rattle.site.proofs.Formula.{Even}
use Rattle.refusals.proofs.Accepted.{even_links}
use Rattle.site.specs.Limits.{most_radios}
use Rattle.checks.proofs.Cells.{finding_in, bad_in, good_mirror, at_place, earlier}

-- what is known before the turn `here`: the cells before it are good. The scan meets a pair of radios at its lower radio's row
abbrev pub Scanned : List ℕ → ℕ → ℕ → Type 0
Scanned table n here = (a b : ℕ) → a ≤ b → b < n → most_radios * a + b < here → bad_in table n a b ≡ false

-- ---- what the scan comes to

-- below the diagonal too: a cell is as good as its mirror cell, which came first
sound_below : (table : List ℕ) (n here : ℕ) → Scanned table n here
    → (a b : ℕ) → a < n → b < n → most_radios * a + b < here → bad_in table n a b ≡ false
sound_below table n here s a b p q l = pick (dec_lt b a)
  where
    pick : Dec (b < a) → bad_in table n a b ≡ false
    pick (yes d) = good_mirror table n b a (s b a (omega arith) p (omega arith))
    pick (no d) = s a b (omega arith) q l

some_row : (n place : ℕ) → place < n * n → 0 < n
some_row zero place l = absurd (omega arith)
some_row (suc n) place l = omega arith

-- so every place before the turn is good
sound_places : (table : List ℕ) (n here end : ℕ) → end ≤ n * n → Scanned table n here
    → ((a b : ℕ) → a < n → b < n → a * n + b < end → most_radios * a + b < here)
    → (place : ℕ) → place < end → bad_cell table n place ≡ false
sound_places table n here end most s order place l =
    let pos : 0 < n = some_row n place (omega arith) in
    let a : ℕ = place / n in
    let b : ℕ = place % n in
    let in_row : a < n = (div-lt_iff_lt-mul pos).1 (omega arith) in
    let in-column : b < n = mod-lt place pos in
    ap (bad_cell table n) (sym (div-add-mod' place n)) ∙ ap is_err (at_place table n a b in-column)
    ∙ sound_below table n here s a b in_row in-column (order a b in_row in-column (omega (arith, div-add-mod' place n)))

-- the finding at a cell, as it is judged by its place, what it holds and what its mirror cell holds
pub tested : (table : List ℕ) (n i j place cell mirror : ℕ) {found : Finding} → place ≡ i * n + j → cell ≡ get_or table (i * n + j) 0 → mirror ≡ get_or table (j * n + i) 0 → found ≡ cell_finding place cell mirror → finding_in table n i j ≡ found
tested table n i j place cell mirror p c m told = rw (told, p, c, m) refl

-- the scan stopped at a bad cell: it is the first
pub found_bad : (table : List ℕ) (n i j : ℕ) → n ≤ most_radios → i ≤ j → j < n → i * n + j < n * n → Scanned table n (most_radios * i + j)
    → bad_in table n i j ≡ true → finding table n ≡ finding_in table n i j
unfolding finding first_bad
found_bad table n i j small from within inside s e =
    let first : first_from (bad_cell table n) 0 (n * n) ≡ i * n + j =
    first_is (bad_cell table n) 0 (n * n) (i * n + j) zero-le
    (record {
      from = zero-le;
      within = omega arith;
      before = λ place p q.
          sound_places table n (most_radios * i + j) (i * n + j) (omega arith) s (λ a b x y l. earlier n a b i j small y within l) place q;
      found = λ p. ap is_err (at_place table n i j within) ∙ e;
    })
    in
    rw (first, lt-ltb (i * n + j) (n * n) inside) (at_place table n i j within)

-- the scan went through: there is no bad cell
pub found_none : (table : List ℕ) (n : ℕ) → Scanned table n (most_radios * n + n) → finding table n ≡ Ok tt
unfolding finding first_bad
found_none table n s =
    let first : first_from (bad_cell table n) 0 (n * n) ≡ n * n =
    first_is (bad_cell table n) 0 (n * n) (n * n) zero-le
    (record {
      from = zero-le;
      within = omega arith;
      before = λ place p q. sound_places table n (most_radios * n + n) (n * n) (omega arith) s (λ a b x y l. omega arith) place q;
      found = λ p. absurd (omega arith);
    })
    in
    rw (first, le-ltb (n * n) (n * n) (omega arith)) refl

-- ---- what a sound table says

-- its cells are 0 or 1
pub sound_bits : (table : List ℕ) (n : ℕ) → length table ≡ n * n → finding table n ≡ Ok tt → Bits table
sound_bits table n long e at = pick (dec_lt at (n * n)) (dec_lt 1 (get_or table at 0))
  where
    pick : Dec (at < n * n) → Dec (1 < get_or table at 0) → get_or table at 0 ≤ 1
    pick (yes p) (yes q) = absurd (sound_table table n e at p (no_bit (λ z. omega arith, λ z. omega arith)))
    pick (no p) (yes q) = let z : get_or table at 0 ≡ 0 = get_or-eq_default table 0 (omega arith) in omega arith
    pick p (no q) = omega arith

-- and its links go both ways
pub sound_even : (table : List ℕ) (n : ℕ) → finding table n ≡ Ok tt → Even table n
sound_even table n e = even_links table n (sound_table table n e)

-- Places in row order: each is of one row and one column. Assumes nothing.
use mathlib.Core.Path.{◌≡◌, sym, ap, ◌∙◌}
use Prim.Native.Nat.{ℕ, ◌+◌, ◌*◌, ◌/◌, ◌%◌, ◌<◌}
use native.Mathlib.Nat.{mod-lt, div-lt_iff_lt-mul, mul-le-mul_right, suc-mul, mul-add-div_right, mul-add-mod_self_right, div-eq_of_lt, mod-eq_of_lt}
use native.Mathlib.Omega.{arith}

pub row_of : (n i j : ℕ) → j < n → (i * n + j) / n ≡ i
row_of n i j below = mul-add-div_right {m = n} (omega arith) i j ∙ omega (arith, div-eq_of_lt below)

pub column_of : (n i j : ℕ) → j < n → (i * n + j) % n ≡ j
column_of n i j below = mul-add-mod_self_right i n j ∙ mod-eq_of_lt below

-- a place is of one row and one column
pub one_row_one_column : (n i j u v : ℕ) → j < n → v < n → i * n + j ≡ u * n + v → (i ≡ u) × (j ≡ v)
one_row_one_column n i j u v below below' e =
    (sym (row_of n i j below) ∙ ap (λ (x : ℕ). x / n) e ∙ row_of n u v below', sym (column_of n i j below) ∙ ap (λ (x : ℕ). x % n) e ∙ column_of n u v below')

pub in_table : (n i j : ℕ) → i < n → j < n → i * n + j < n * n
in_table n i j row column = omega (arith, mul-le-mul_right n row, suc-mul i n)

-- row and column are below n
module _ (n place : ℕ) (some : 0 < n) where
  pub row_below : place < n * n → place / n < n
  row_below p = (div-lt_iff_lt-mul some).1 p

  pub column_below : place % n < n
  column_below = mod-lt place some

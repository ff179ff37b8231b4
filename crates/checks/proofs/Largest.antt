-- The largest cell tells whether all are 0 or 1. Assumes nothing.
use mathlib.Core.Path.{◌≡◌}
use mathlib.Core.Bool.{true}
use mathlib.Core.List.{List, [], ◌∷◌}
use mathlib.Core.Logic.{◌↔◌}
use Prim.Native.Nat.{ℕ, zero, suc, ◌≤◌, max}
use native.Mathlib.Omega.{arith}
use lib.Dec.{leb}
use borrow.Author.Tests.{leb-true, le-leb}
use Rattle.std.specs.Prelude.{fold}
use Rattle.radios.specs.Bytes.{Bits}

low_cells : (most : ℕ) (cells : List ℕ) → fold max most cells ≤ 1 → (most ≤ 1) × Bits cells
low_cells most [] low = (low, λ at. omega arith)
low_cells most (cell ∷ cells) low = let (larger, others) = low_cells (max most cell) cells low in (omega (arith, larger), each larger others)
  where
    each : max most cell ≤ 1 → Bits cells → Bits (cell ∷ cells)
    each larger others zero = omega arith
    each larger others (suc at) = others at

low_largest : (most : ℕ) (cells : List ℕ) → most ≤ 1 → Bits cells → fold max most cells ≤ 1
low_largest most [] low bits = low
low_largest most (cell ∷ cells) low bits = low_largest (max most cell) cells (omega (arith, bits 0)) (λ at. bits (suc at))

pub largest_tells : (largest : ℕ) (cells : List ℕ) → largest ≡ fold max 0 cells → (leb largest 1 ≡ true) ↔ Bits cells
largest_tells largest cells is = (λ low. (low_cells 0 cells (omega (arith, is, leb-true _ _ low))).1, λ bits. le-leb _ _ (omega (arith, is, low_largest 0 cells (omega arith) bits)))

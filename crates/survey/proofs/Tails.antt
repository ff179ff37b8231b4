-- Used bytes at the front of a buffer, and zeros after them. Assumes nothing.
use mathlib.Core.Path.{◌≡◌, sym, ap₂, ◌∙◌}
use mathlib.Core.Bool.{cond}
use mathlib.Core.List.{List, [], ◌++◌}
use Prim.Native.Nat.{ℕ, ◌-◌, ◌≤◌, ◌<◌}
use native.Mathlib.Nat.{sub-zero}
use native.Mathlib.Omega.{arith}
use lib.Dec.{ltb}
use lib.ListN.{length, take, drop, replicate, length-append, length-drop}
use lib.Seq.{take_at}
use borrow.Author.Tests.{lt-ltb, le-ltb}
use Rattle.buffers.specs.Zeros.{zeros_after}

-- a buffer that is cleared from its front on
pub all_zeros : (before : List ℕ) → take 0 before ++ replicate (length before - 0) 0 ≡ replicate (length before) 0
all_zeros before = rw sub-zero

-- a buffer that is cleared after the bytes used
pub zeros-after : (used before : List ℕ) (n : ℕ) → n ≡ length used → n ≤ length before
    → take n (used ++ drop n before) ++ replicate (length (used ++ drop n before) - n) 0 ≡ zeros_after (length before) used
zeros-after used before n e fits = ap₂ (λ (front : List ℕ) (m : ℕ). front ++ replicate m 0) (take_at used (drop n before) n (sym e)) left
  where
    left : length (used ++ drop n before) - n ≡ length before - length used
    left = omega (arith, length-append used (drop n before), length-drop n before)

-- where a path is lacking the items stand at the front
pub leave_short : (used before middle after : List ℕ) (count k : ℕ) → count < k → middle ≡ used ++ drop count before → count ≡ length used → count ≤ length before
    → after ≡ take count middle ++ replicate (length middle - count) 0 → after ≡ zeros_after (length before) (cond (ltb count k) used [])
leave_short used before middle after count k fewer wrote number room cleared = cleared ∙ rw (wrote, lt-ltb count k fewer) (zeros-after used before count number room)

-- in a full run there are none
pub leave_full : (used before after : List ℕ) (count k : ℕ) → k ≤ count → after ≡ take 0 before ++ replicate (length before - 0) 0 → after ≡ zeros_after (length before) (cond (ltb count k) used [])
leave_full used before after count k enough cleared = cleared ∙ rw (le-ltb count k enough)

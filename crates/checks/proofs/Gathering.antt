-- Cells gathered into a set: eight more, one more. Assumes nothing.
use mathlib.Core.Path.{◌≡◌}
use mathlib.Core.Bool.{Bool, ◌&&◌, ◌||◌, or-false}
use Prim.Native.Nat.{ℕ, ◌+◌, ◌-◌, ◌<◌}
use native.Mathlib.Decide.{dec_lt}
use native.Mathlib.Omega.{arith}
use lib.Dec.{ltb, leb}
use borrow.Author.Tests.{lt-ltb, le-ltb, le-leb, lt-leb}
use Rattle.radios.specs.Member.{member}
use Rattle.radios.proofs.Laws.{member-empty}

-- the radios below k that pass the test, as a set
abbrev pub SoFar : (ℕ → Bool) → ℕ → ℕ → Type 0
SoFar test k set = (j : ℕ) → member j set ≡ (ltb j k && test j)

pub none_so_far : (test : ℕ → Bool) (set : ℕ) → set ≡ 0 → SoFar test 0 set
none_so_far test set empty j = rw (empty, member-empty j) (simp (le-ltb j 0 (omega arith)))

-- eight more, read from the place at and raised by as much
pub eight_more : (test : ℕ → Bool) (at set eight raised set' : ℕ) → SoFar test at set
    → ((j : ℕ) → member j eight ≡ (ltb j 8 && test (at + j)))
    → ((j : ℕ) → member j raised ≡ (leb at j && member (j - at) eight))
    → ((j : ℕ) → member j set' ≡ (member j raised || member j set))
    → SoFar test (at + 8) set'
eight_more test at set eight raised set' before read moved joins j = rw (joins j, moved j, before j, read (j - at)) (pick (dec_lt j at) (dec_lt j (at + 8)))
  where
    pick : Dec (j < at) → Dec (j < at + 8) → ((leb at j && (ltb (j - at) 8 && test (at + (j - at)))) || (ltb j at && test j)) ≡ (ltb j (at + 8) && test j)
    pick (yes l) q = simp (lt-leb at j l, lt-ltb j at l, lt-ltb j (at + 8) (omega arith))
    pick (no l) (yes q) = let e : at + (j - at) ≡ j = omega arith in rw e (simp (le-leb at j (omega arith), le-ltb j at (omega arith), lt-ltb (j - at) 8 (omega arith), lt-ltb j (at + 8) q, or-false))
    pick (no l) (no q) = simp (le-leb at j (omega arith), le-ltb j at (omega arith), le-ltb (j - at) 8 (omega arith), le-ltb j (at + 8) (omega arith))

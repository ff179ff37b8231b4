-- Replies on the way back: the tokens not answered are those between the halves that wait, and the last one is answered first. Assumes nothing.
use mathlib.Core.Path.{◌≡◌, refl, ap}
use mathlib.Core.List.{List, [], ◌∷◌}
use Prim.Native.Nat.{ℕ, ◌+◌, ◌-◌, ◌<◌}
use native.Mathlib.Omega.{arith}
use Rattle.basics.specs.Counting.{one_if}
use Rattle.rounds.proofs.Shows.{hit}
use Rattle.rounds.proofs.Once.{ends}

-- how many tokens from a to b are not answered, if the last went to half y from the first of these halves, and so on down to S
abbrev pub awaited : ℕ → List ℕ → ℕ → ℕ → ℕ
awaited y [] a b = 0
awaited y (h ∷ rest) a b = awaited h rest a b + hit a b h y

-- y owes a reply to the half on top
pub owes : (y h : ℕ) (rest : List ℕ) → 0 < awaited y (h ∷ rest) h y
owes y h rest = omega (arith, ap one_if ((ends h y h y).1 (refl, refl)))

-- with that reply its token is answered
pub answers : (y h : ℕ) (rest : List ℕ) (a b : ℕ) → awaited y (h ∷ rest) a b - hit a b h y ≡ awaited h rest a b
answers y h rest a b = omega arith

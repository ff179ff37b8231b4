-- Bytes that say yes or no, one a radio: what the contracts of this crate and of its callers say of them.
use Rattle.std.specs.Prelude.{Bool, List, ℕ, ◌+◌, ◌*◌, ◌≤◌, eqb, get_or}

-- every byte is 0 or 1
abbrev pub Bits : List ℕ → Type 0
Bits bytes = (at : ℕ) → get_or bytes at 0 ≤ 1

-- is the byte at a place 1?
abbrev pub is_one : List ℕ → ℕ → Bool
is_one bytes at = eqb (get_or bytes at 0) 1

-- four bytes from a place on as one number, the first the lowest
abbrev pub spaced : List ℕ → ℕ → ℕ
spaced bytes at = get_or bytes at 0 + 256 * get_or bytes (at + 1) 0 + 65536 * get_or bytes (at + 2) 0 + 16777216 * get_or bytes (at + 3) 0

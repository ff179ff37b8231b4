-- Counting, and the first that passes: the words on numbers that the definitions of document 01 use.
-- `elim b [ true ↦ x | false ↦ y ]` reads: x if b holds, else y.
use Rattle.std.specs.Prelude.{Bool, true, false, ◌≡◌, ℕ, zero, suc, ◌+◌, ◌-◌, ◌≤◌, ◌<◌}

-- 1 if it holds, else 0
abbrev pub one_if : Bool → ℕ
one_if true = 1
one_if false = 0

-- f 0 + f 1 + .. + f (n − 1)
unfoldable pub sum : (ℕ → ℕ) → ℕ → ℕ
sum f zero = 0
sum f (suc n) = f n + sum f n

-- how many numbers below n pass the test
abbrev pub count : (ℕ → Bool) → ℕ → ℕ
count test n = sum (λ i. one_if (test i)) n

-- the first of the numbers i, i + 1, .., of which there are f, that passes the test; i + f where none does
unfoldable pub first_within : (ℕ → Bool) → ℕ → ℕ → ℕ
first_within test i zero = i
first_within test i (suc f) = elim (test i) [ true ↦ i | false ↦ first_within test (suc i) f ]

-- the first number from i on and below the limit that passes the test; the limit where none does
abbrev pub first_from : (ℕ → Bool) → ℕ → ℕ → ℕ
first_from test i limit = first_within test i (limit - i)

-- what "first" means: r is the first number from i on that passes the test, or the limit where none below it does
pub record First (test : ℕ → Bool) (i limit r : ℕ) : Type 0 where
  pub from : i ≤ r
  pub within : r ≤ limit
  pub before : (j : ℕ) → i ≤ j → j < r → test j ≡ false
  pub found : r < limit → test r ≡ true

-- The sizes of the rows: the degrees of the radios, and twice the number of links together. Assumes nothing.
use mathlib.Core.Path.{◌≡◌, refl, ap, ◌∙◌}
use mathlib.Core.Bool.{Bool, false}
use mathlib.Core.List.{List}
use Prim.Native.Nat.{ℕ, zero, suc, ◌+◌, ◌≤◌, ◌<◌}
use native.Mathlib.Decide.{ℕ_discrete}
use native.Mathlib.Numerals.{add-one}
use native.Mathlib.Omega.{arith}
use lib.ListN.{length, get_or, take}
use Rattle.std.proofs.lemmas.List.{get_or_default, get_or-take, length-take}
use Rattle.basics.specs.Counting.{one_if, sum, count}
use Rattle.basics.proofs.Counting.{sum-ext}
use Rattle.site.specs.Map.{linked, degree}
use Rattle.site.specs.Limits.{most_radios}
use Rattle.radios.specs.Member.{member}
use Rattle.radios.specs.Links.{RowsOfLinks}
use Rattle.checks.specs.Checked.{members, size}
use Rattle.checks.proofs.Cells.{linked-outside}

-- what is counted in a row that is read, whatever is read past the last, is its size
pub size_read : (rows : List ℕ) (u past counted : ℕ) → counted ≡ members (get_or rows u past) → u < length rows → counted ≡ size rows u
size_read rows u past counted told below = told ∙ ap members (get_or_default rows u past 0 below)

-- and so of the first n rows
pub size_read_of : (rows : List ℕ) (n u row counted : ℕ) → counted ≡ members row → row ≡ get_or (take n rows) u row → u < length (take n rows) → counted ≡ size rows u
size_read_of rows n u row counted told is below =
    size_read rows u row counted (told ∙ ap members (is ∙ get_or-take n rows u row (omega (arith, length-take n rows)))) (omega (arith, length-take n rows))

-- one number more
pub sum_more : (f : ℕ → ℕ) (n : ℕ) → sum f (n + 1) ≡ sum f n + f n
unfolding sum
sum_more f n = rw add-one (omega arith)

-- what adds nothing from n on adds nothing
sum-beyond : (f : ℕ → ℕ) (n m : ℕ) → n ≤ m → ((x : ℕ) → n ≤ x → f x ≡ 0) → sum f m ≡ sum f n
unfolding sum
sum-beyond f n zero h none = let e : n ≡ 0 = omega arith in rw e refl
sum-beyond f n (suc m) h none = pick (ℕ_discrete n (suc m)) (λ p. sum-beyond f n m p none)
  where
    pick : Dec (n ≡ suc m) → (n ≤ m → sum f m ≡ sum f n) → sum f (suc m) ≡ sum f n
    pick (yes e) rest = rw e refl
    pick (no d) rest = omega (arith, none m (omega arith), rest (omega arith))

-- a set of those that pass a test which none from n on passes
pub members-are : (test : ℕ → Bool) (set n : ℕ) → n ≤ most_radios → ((v : ℕ) → member v set ≡ test v) → ((v : ℕ) → n ≤ v → test v ≡ false) → members set ≡ count test n
members-are test set n small are none = sum-ext _ (λ v. one_if (test v)) most_radios (λ v l. ap one_if (are v)) ∙ sum-beyond (λ v. one_if (test v)) n most_radios small (λ v l. ap one_if (none v l))

-- the size of row u is the degree of u
pub size-degree : (table : List ℕ) (n : ℕ) (rows : List ℕ) → n ≤ most_radios → RowsOfLinks table n rows → (u : ℕ) → size rows u ≡ degree table n u
size-degree table n rows small rows_are u = members-are (linked table n u) (get_or rows u 0) n small (rows_are u) (λ v l. linked-outside table n u v (λ p q. omega arith))

-- The laws of sums, of counting and of the first that passes. Assumes nothing.
use mathlib.Core.Path.{◌≡◌, refl, sym, ap, ◌∙◌}
use mathlib.Core.Bool.{Bool, true, false, ◌&&◌}
use Prim.Native.Nat.{ℕ, zero, suc, ◌+◌, ◌*◌, ◌-◌, ◌≤◌, ◌<◌}
use native.Mathlib.Omega.{arith}
use native.Mathlib.Decide.{ℕ_discrete, dec_lt}
use lib.Dec.{eqb}
use borrow.Author.Tests.{eq-eqb, ne_eqb}
use Rattle.basics.specs.Counting.{one_if, sum, count, first_within, first_from, First}
use Rattle.basics.proofs.Bools.{clash, not_true→false}

-- ---- sums

-- equal below n, equal sums
pub sum-ext : (f g : ℕ → ℕ) (n : ℕ) → ((x : ℕ) → x < n → f x ≡ g x) → sum f n ≡ sum g n
unfolding sum
sum-ext f g zero h = refl
sum-ext f g (suc n) h = omega (arith, h n (omega arith), sum-ext f g n (λ x p. h x (omega arith)))

-- where f and g differ below n at y alone, their sums differ as f y and g y do
pub sum-update : (f g : ℕ → ℕ) (y n : ℕ) → y < n → ((x : ℕ) → x < n → (x ≡ y → ⊥) → f x ≡ g x) → sum f n + g y ≡ sum g n + f y
unfolding sum
sum-update f g y zero p h = omega arith
sum-update f g y (suc n) p h = go (ℕ_discrete n y) (λ q. sum-update f g y n q (λ x r. h x (omega arith)))
  where
    go : Dec (n ≡ y) → (y < n → sum f n + g y ≡ sum g n + f y) → f n + sum f n + g y ≡ g n + sum g n + f y
    go (yes e) ih = omega (arith, ap f e, ap g e, sum-ext f g n (λ x q. h x (omega arith) (λ (u : x ≡ y). omega arith)))
    go (no e) ih = omega (arith, ih (omega arith), h n (omega arith) e)

-- a sum of sums
pub sum-add : (f g : ℕ → ℕ) (n : ℕ) → sum (λ x. f x + g x) n ≡ sum f n + sum g n
unfolding sum
sum-add f g zero = refl
sum-add f g (suc n) = omega (arith, sum-add f g n)

-- nothing, n times
pub sum-zero : (n : ℕ) → sum (λ x. 0) n ≡ 0
unfolding sum
sum-zero zero = refl
sum-zero (suc n) = omega (arith, sum-zero n)

-- one, n times
pub sum_one : (n : ℕ) → sum (λ x. 1) n ≡ n
unfolding sum
sum_one zero = refl
sum_one (suc n) = omega (arith, sum_one n)

-- rows first or columns first
pub sum-swap : (f : ℕ → ℕ → ℕ) (n m : ℕ) → sum (λ x. sum (f x) m) n ≡ sum (λ y. sum (λ x. f x y) n) m
unfolding sum
sum-swap f zero m = sym (sum-zero m)
sum-swap f (suc n) m = omega (arith, sum-swap f n m, sum-add (f n) (λ y. sum (λ x. f x y) n) m)

-- twice as many, two at a time
pub sum-pairs : (f : ℕ → ℕ) (n : ℕ) → sum f (2 * n) ≡ sum (λ x. f (2 * x) + f (2 * x + 1)) n
unfolding sum
sum-pairs f zero = refl
sum-pairs f (suc n) = ap (sum f) two ∙ omega (arith, sum-pairs f n, ap f one)
  where
    two : 2 * suc n ≡ suc (suc (2 * n))
    two = omega arith

    one : suc (2 * n) ≡ 2 * n + 1
    one = omega arith

-- one of the numbers added is at most the sum
sum-above : (f : ℕ → ℕ) (a n : ℕ) → a < n → f a ≤ sum f n
unfolding sum
sum-above f a zero p = absurd (omega arith)
sum-above f a (suc n) p = go (ℕ_discrete a n) (sum-above f a n)
  where
    go : Dec (a ≡ n) → (a < n → f a ≤ sum f n) → f a ≤ f n + sum f n
    go (yes e) ih = omega (arith, ap f e)
    go (no e) ih = omega (arith, ih (omega arith))

-- and so are two of them together
pub sum-above-two : (f : ℕ → ℕ) (a b n : ℕ) → a < n → b < n → (a ≡ b → ⊥) → f a + f b ≤ sum f n
unfolding sum
sum-above-two f a b zero p q ne = absurd (omega arith)
sum-above-two f a b (suc n) p q ne = go (ℕ_discrete a n) (ℕ_discrete b n) (λ p' q'. sum-above-two f a b n p' q' ne)
  where
    go : Dec (a ≡ n) → Dec (b ≡ n) → (a < n → b < n → f a + f b ≤ sum f n) → f a + f b ≤ f n + sum f n
    go (yes e) (yes d) ih = absurd (ne (omega arith))
    go (yes e) (no d) ih = omega (arith, ap f e, sum-above f b n (omega arith))
    go (no e) (yes d) ih = omega (arith, ap f d, sum-above f a n (omega arith))
    go (no e) (no d) ih = omega (arith, ih (omega arith) (omega arith))

-- ---- counting

-- one test counts for at most one
pub one_at_most : (b : Bool) → one_if b ≤ 1
one_at_most true = omega arith
one_at_most false = omega arith

-- of the numbers below n the number c alone passes, if k holds
pub count-only : (k : Bool) (c n : ℕ) → c < n → count (λ x. eqb x c && k) n ≡ one_if k
count-only k c n p = omega (arith, sum-update (λ x. one_if (eqb x c && k)) (λ x. 0) c n p (λ x q ne. rw (ne_eqb x c ne)), sum-zero n, at)
  where
    at : one_if (eqb c c && k) ≡ one_if k
    at = rw (eq-eqb c c refl)

-- ---- the first that passes

first-of : (test : ℕ → Bool) (i f limit : ℕ) → i + f ≡ limit → First test i limit (first_within test i f)
unfolding first_within
first-of test i zero limit e = record { from = omega arith; within = omega arith; before = λ j p q. absurd (omega arith); found = λ p. absurd (omega arith) }
first-of test i (suc f) limit e = go (test i) refl (first-of test (suc i) f limit (omega arith))
  where
    earlier : (r : ℕ) → test i ≡ false → First test (suc i) limit r → (j : ℕ) → Dec (j ≡ i) → i ≤ j → j < r → test j ≡ false
    earlier r t w j (yes u) p q = rw u t
    earlier r t w j (no u) p q = w.before j (omega arith) q

    go : (b : Bool) → test i ≡ b → First test (suc i) limit (first_within test (suc i) f) → First test i limit (elim b [ true ↦ i | false ↦ first_within test (suc i) f ])
    go true t w = record { from = omega arith; within = omega arith; before = λ j p q. absurd (omega arith); found = λ p. t }
    go false t w = record { from = omega (arith, w.from); within = w.within; before = λ j p q. earlier _ t w j (ℕ_discrete j i) p q; found = w.found }

-- first_from finds the first
pub first-from : (test : ℕ → Bool) (i limit : ℕ) → i ≤ limit → First test i limit (first_from test i limit)
first-from test i limit p = first-of test i (limit - i) limit (omega arith)

-- the first that passes is one number
pub first_is : (test : ℕ → Bool) (i limit r : ℕ) → i ≤ limit → First test i limit r → first_from test i limit ≡ r
first_is test i limit r from w = pick (dec_lt (first_from test i limit) r) (dec_lt r (first_from test i limit)) (first-from test i limit from)
  where
    pick : Dec (first_from test i limit < r) → Dec (r < first_from test i limit) → First test i limit (first_from test i limit) → first_from test i limit ≡ r
    pick (yes p) q f = clash (f.found (omega (arith, w.within))) (w.before _ f.from p)
    pick (no p) (yes q) f = clash (w.found (omega (arith, f.within))) (f.before r w.from q)
    pick (no p) (no q) f = omega arith

-- ---- sums and counts compared

-- no more at each place, no more in all
pub sum-le : (f g : ℕ → ℕ) (n : ℕ) → ((x : ℕ) → x < n → f x ≤ g x) → sum f n ≤ sum g n
unfolding sum
sum-le f g zero h = omega arith
sum-le f g (suc n) h = omega (arith, h n (omega arith), sum-le f g n (λ x p. h x (omega arith)))

-- no more numbers below n pass a test than there are
pub count_most : (test : ℕ → Bool) (n : ℕ) → count test n ≤ n
count_most test n = omega (arith, sum-le (λ x. one_if (test x)) (λ x. 1) n (λ x p. one_at_most (test x)), sum_one n)

-- a test that passes only where another does counts for no more
pub one_le : (a b : Bool) → (a ≡ true → b ≡ true) → one_if a ≤ one_if b
one_le true b h = omega (arith, ap one_if (h refl))
one_le false b h = omega arith

-- one that passes is counted
pub some_counts : (test : ℕ → Bool) (n a : ℕ) → a < n → test a ≡ true → 0 < count test n
some_counts test n a p h = omega (arith, sum-above (λ x. one_if (test x)) a n p, ap one_if h)

-- where none passes none is counted
pub none_counts : (test : ℕ → Bool) (n : ℕ) → ((a : ℕ) → a < n → test a ≡ true → ⊥) → count test n ≡ 0
none_counts test n h = sum-ext (λ x. one_if (test x)) (λ x. 0) n (λ x p. ap one_if (not_true→false (test x) (h x p))) ∙ sum-zero n

-- what is counted can be found
pub counted : (test : ℕ → Bool) (n : ℕ) → 0 < count test n → (a : ℕ) × (test a ≡ true)
unfolding sum
counted test zero p = absurd (omega arith)
counted test (suc n) p = go (test n) refl p (counted test n)
  where
    go : (b : Bool) → test n ≡ b → 0 < one_if b + count test n → (0 < count test n → (a : ℕ) × (test a ≡ true)) → (a : ℕ) × (test a ≡ true)
    go true e q ih = (n, e)
    go false e q ih = ih (omega arith)

-- if at most one is counted, two that pass are one
pub counted_once : (test : ℕ → Bool) (n a b : ℕ) → count test n ≤ 1 → a < n → b < n → test a ≡ true → test b ≡ true → a ≡ b
counted_once test n a b c p q h k = go (ℕ_discrete a b)
  where
    go : Dec (a ≡ b) → a ≡ b
    go (yes e) = e
    go (no e) = absurd (omega (arith, sum-above-two (λ x. one_if (test x)) a b n p q e, ap one_if h, ap one_if k))

-- if all that pass are one, at most one is counted
pub once_counts : (test : ℕ → Bool) (n : ℕ) → ((a b : ℕ) → test a ≡ true → test b ≡ true → a ≡ b) → count test n ≤ 1
unfolding sum
once_counts test zero h = omega arith
once_counts test (suc n) h = go (test n) refl (once_counts test n h)
  where
    go : (b : Bool) → test n ≡ b → count test n ≤ 1 → one_if b + count test n ≤ 1
    go true e ih = omega (arith, none_counts test n (λ a p t. omega (arith, h a n t e)))
    go false e ih = omega arith

-- where one passes, the first that passes does
pub first_passes : (test : ℕ → Bool) (a limit : ℕ) → a < limit → test a ≡ true → test (first_from test 0 limit) ≡ true
first_passes test a limit p h = go (dec_lt (first_from test 0 limit) limit) (first-from test 0 limit (omega arith))
  where
    go : Dec (first_from test 0 limit < limit) → First test 0 limit (first_from test 0 limit) → test (first_from test 0 limit) ≡ true
    go (yes q) w = w.found q
    go (no q) w = clash h (w.before a (omega arith) (omega arith))

-- The number of steps is the A that document 01, "The map", writes out, less one for each handheld other than S and T. Assumes nothing.
use mathlib.Core.Path.{◌≡◌, refl, sym, ap, ◌∙◌}
use mathlib.Core.List.{List}
use mathlib.Core.Bool.{Bool, true, false, not, ◌&&◌, and-true, and-false}
use Prim.Native.Nat.{ℕ, ◌+◌, ◌*◌, ◌-◌, ◌≤◌, ◌<◌}
use native.Mathlib.Omega.{arith}
use lib.Dec.{eqb, ltb}
use borrow.Author.Tests.{eq-eqb, ne_eqb, lt-ltb, ltb-true, ltb-false}
use Rattle.basics.specs.Counting.{one_if, sum, count}
use Rattle.basics.proofs.Counting.{sum-ext, sum-update, sum-add, sum-zero, sum_one, sum-swap, sum-pairs, sum-above-two, some_counts, count-only}
use Rattle.site.proofs.Steps.{step_inside, step_to_out, none_from_t, none_into_s, step_link}
use Rattle.site.specs.Map.{Site, linked, degree, links, handheld, linked_on, in_half, out_half, passes, step, A}

-- the table is symmetric: u is linked to v if v is linked to u
abbrev pub Even : List ℕ → ℕ → Type 0
Even table n = (u v : ℕ) → linked table n u v ≡ linked table n v u

-- ---- each link is counted at both its radios

-- no radio is linked to itself
not_to_itself : (table : List ℕ) (n u v : ℕ) → u ≡ v → linked table n u v ≡ false
unfolding linked
not_to_itself table n u v e = rw (eq-eqb u v e, and-false)

-- of two linked radios one is the lower
one_is_lower : (table : List ℕ) (n u v : ℕ) → one_if (linked table n u v) ≡ one_if (ltb u v && linked table n u v) + one_if (ltb v u && linked table n u v)
one_is_lower table n u v = go (ltb u v) (ltb v u) refl refl
  where
    go : (a b : Bool) → ltb u v ≡ a → ltb v u ≡ b → one_if (linked table n u v) ≡ one_if (a && linked table n u v) + one_if (b && linked table n u v)
    go true true p q = absurd (omega (arith, ltb-true u v p, ltb-true v u q))
    go true false p q = omega arith
    go false true p q = omega arith
    go false false p q = ap one_if (not_to_itself table n u v (omega (arith, ltb-false u v p, ltb-false v u q)))

-- the degrees of all radios together are twice the number of links
pub degrees_twice_links : (table : List ℕ) (n : ℕ) → Even table n → sum (degree table n) n ≡ 2 * links table n
unfolding links
degrees_twice_links table n even = omega (
  arith,
  sum-ext (degree table n) (λ u. sum (up u) n + sum (λ v. up v u) n) n (λ u p. row u),
  sum-add (λ u. sum (up u) n) (λ u. sum (λ v. up v u) n) n,
  sum-swap up n n,
)
  where
    up : ℕ → ℕ → ℕ
    up u v = one_if (ltb u v && linked table n u v)

    row : (u : ℕ) → degree table n u ≡ sum (up u) n + sum (λ v. up v u) n
    row u = sum-ext (λ v. one_if (linked table n u v)) (λ v. up u v + up v u) n (λ v p. one_is_lower table n u v ∙ rw (even u v)) ∙ sum-add (up u) (λ v. up v u) n

-- ---- the rows of steps

module _ (site : Site) where
  -- from the in half of v leads one step or none
  row_in : (v : ℕ) → v < site.n → count (step site (in_half v)) (2 * site.n) ≡ one_if (passes site v)
  row_in v p = sum-ext _ (λ b. one_if (eqb b (out_half v) && passes site v)) (2 * site.n) (λ b q. ap one_if (step_inside site v b)) ∙ count-only (passes site v) (out_half v) (2 * site.n) (omega arith)

  -- how many steps lead from the out half of u to in halves
  abbrev over : ℕ → ℕ
  over u = count (λ v. step site (out_half u) (in_half v)) site.n

  -- and there are no others from it
  row_out : (u : ℕ) → count (step site (out_half u)) (2 * site.n) ≡ over u
  row_out u = sum-pairs (λ b. one_if (step site (out_half u) b)) site.n ∙ sum-ext _ _ site.n (λ v q. omega (arith, ap one_if (step_to_out site u v)))

-- ---- the formula

-- a handheld other than S and T
abbrev pub inner_handheld : Site → ℕ → Bool
inner_handheld site v = not (eqb v site.S) && not (eqb v site.T) && handheld site.table site.n v

module _ (site : Site) (S-in : site.S < site.n) (T-in : site.T < site.n) (differ : site.S ≡ site.T → ⊥) (even : Even site.table site.n) where
  abbrev between : ℕ → Bool
  between v = not (eqb v site.S) && not (eqb v site.T)

  -- all radios but two are neither S nor T
  two_ends : count between site.n + 2 ≡ site.n
  two_ends = omega (
    arith,
    sum-update inner other_than_s site.T site.n T-in (λ v p ne. rw (ne_eqb v site.T ne, and-true)),
    inner_t,
    ap one_if (ap not (ne_eqb site.T site.S (λ e. differ (sym e)))),
    sum-update other_than_s (λ v. 1) site.S site.n S-in (λ v p ne. rw (ne_eqb v site.S ne)),
    ap one_if (ap not (eq-eqb site.S site.S refl)),
    sum_one site.n,
  )
    where
      inner : ℕ → ℕ
      inner v = one_if (between v)

      other_than_s : ℕ → ℕ
      other_than_s v = one_if (not (eqb v site.S))

      inner_t : inner site.T ≡ 0
      inner_t = rw (eq-eqb site.T site.T refl, and-false)

  -- each of them has a step inside, or is a handheld
  pub steps_inside : count (passes site) site.n + count (inner_handheld site) site.n + 2 ≡ site.n
  unfolding passes
  steps_inside = omega (
    arith,
    two_ends,
    sum-add (λ v. one_if (passes site v)) (λ v. one_if (inner_handheld site v)) site.n,
    sum-ext (λ v. one_if (passes site v) + one_if (inner_handheld site v)) (λ v. one_if (between v)) site.n
        (λ v p. rw (lt-ltb v site.n p) (either (not (eqb v site.S)) (not (eqb v site.T)) (handheld site.table site.n v))),
  )
    where
      either : (a b h : Bool) → one_if (true && a && b && not h) + one_if (a && b && h) ≡ one_if (a && b)
      either true true true = refl
      either true true false = refl
      either true false h = refl
      either false b h = refl

  -- each link has a step each way, but for those from T and those into S
  steps_over : sum (over site) site.n + degree site.table site.n site.S + degree site.table site.n site.T ≡ sum (degree site.table site.n) site.n + one_if (linked_on site site.S site.T)
  steps_over = omega (
    arith,
    sum-update (λ u. over site u + to_s u) (degree site.table site.n) site.T site.n T-in row,
    sum-add (over site) to_s site.n,
    sum-ext _ (λ v. 0) site.n (λ v p. ap one_if (none_from_t site v)) ∙ sum-zero site.n,
    sum-ext to_s (λ u. one_if (linked_on site site.S u)) site.n (λ u p. ap one_if (even u site.S)),
    ap one_if (even site.T site.S),
  )
    where
      to_s : ℕ → ℕ
      to_s u = one_if (linked_on site u site.S)

      row : (u : ℕ) → u < site.n → (u ≡ site.T → ⊥) → over site u + to_s u ≡ degree site.table site.n u
      row u p nt = omega (
        arith,
        sum-update (λ v. one_if (step site (out_half u) (in_half v))) (λ v. one_if (linked_on site u v)) site.S site.n S-in (λ v q ns. ap one_if (step_link site u v p q nt ns)),
        ap one_if (none_into_s site u),
      )

  -- the formula with nothing taken away
  pub steps_and_degrees : A site + degree site.table site.n site.S + degree site.table site.n site.T ≡ 2 * links site.table site.n + one_if (linked_on site site.S site.T) + count (passes site) site.n
  unfolding A
  steps_and_degrees = omega (
    arith,
    sum-pairs (λ a. count (step site a) (2 * site.n)) site.n,
    sum-ext (λ v. count (step site (in_half v)) (2 * site.n) + count (step site (out_half v)) (2 * site.n)) (λ v. one_if (passes site v) + over site v) site.n (λ v p. omega (arith, row_in site v p, row_out site v)),
    sum-add (λ v. one_if (passes site v)) (over site) site.n,
    steps_over,
    degrees_twice_links site.table site.n even,
  )

  -- deg S + deg T is at most 2m, so that the formula never takes away too much
  pub two_degrees : degree site.table site.n site.S + degree site.table site.n site.T ≤ 2 * links site.table site.n
  two_degrees = omega (arith, sum-above-two (degree site.table site.n) site.S site.T site.n S-in T-in differ, degrees_twice_links site.table site.n even)

  -- A = 2m − deg S − deg T + (1 if S and T are linked, else 0) + n − 2, less one for each handheld other than S and T
  pub formula : A site ≡ 2 * links site.table site.n - degree site.table site.n site.S - degree site.table site.n site.T + one_if (linked_on site site.S site.T) + site.n - 2 - count (inner_handheld site) site.n
  formula = omega (arith, steps_and_degrees, steps_inside, two_degrees)

  -- there are at most 2m + n − 2 steps
  pub few_steps : A site + 2 ≤ 2 * links site.table site.n + site.n
  few_steps = omega (arith, steps_and_degrees, steps_inside, direct (linked_on site site.S site.T) refl)
    where
      direct : (b : Bool) → linked_on site site.S site.T ≡ b → one_if b ≤ degree site.table site.n site.S
      direct true e = omega (arith, some_counts (linked_on site site.S) site.n site.T T-in e)
      direct false e = omega arith

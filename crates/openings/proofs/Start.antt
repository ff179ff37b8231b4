-- The rows at the start, row by row. Assumes nothing.
use mathlib.Core.Path.{◌≡◌, refl, sym, ap, ◌∙◌}
use mathlib.Core.Bool.{◌&&◌}
use mathlib.Core.List.{List}
use Prim.Native.Nat.{ℕ, ◌+◌, ◌*◌, ◌<◌}
use native.Mathlib.Decide.{ℕ_discrete, dec_lt}
use native.Mathlib.Omega.{arith}
use lib.Dec.{eqb, ltb}
use lib.ListN.{get_or, set, length, replicate}
use lib.Seq.{get_or-set_same, get_or-set_other}
use borrow.Author.Tests.{eq-eqb, ne_eqb, lt-ltb, le-ltb}
use Rattle.basics.proofs.Bools.{not_true→false}
use Rattle.basics.proofs.Lists.{same-everywhere}
use Rattle.radios.specs.Member.{member}
use Rattle.radios.proofs.Laws.{member-empty}
use Rattle.site.specs.Map.{Site, in_half, out_half, passes, step}
use Rattle.site.proofs.Steps.{step_inside, none_from_t}
use Rattle.tokens.specs.Rules.{may_walk, unmarked}
use Rattle.openings.specs.Rows.{across, Open}
use Rattle.openings.proofs.Walks.{from_in, from_out, pair, walk_joined, walk_unmarked}

-- ---- one row

pub T_sends_none : (site : Site) (u : ℕ) → u ≡ site.T → (v : ℕ) → member v 0 ≡ step site (out_half u) (in_half v)
T_sends_none site u e v = member-empty v ∙ sym (rw e (none_from_t site v))

-- row h is right where nothing is marked
abbrev StartsAt : Site → ℕ → ℕ → Type 0
StartsAt site h x = (v : ℕ) → member v x ≡ may_walk site unmarked h (across h v)

pub in_starts : (site : Site) (u x : ℕ) → ((v : ℕ) → member v x ≡ (eqb v u && passes site u)) → StartsAt site (in_half u) x
in_starts site u x is v = is v ∙ sym (rw (from_in u v) (walk_unmarked site (in_half u) (out_half v) ∙ step_inside site u (out_half v) ∙ rw (same (ℕ_discrete v u)) refl))
  where
    same : Dec (v ≡ u) → eqb (out_half v) (out_half u) ≡ eqb v u
    same (yes e) = rw (eq-eqb v u e) (eq-eqb (out_half v) (out_half u) (omega arith))
    same (no e) = rw (ne_eqb v u e) (ne_eqb (out_half v) (out_half u) (λ d. e (omega arith)))

pub out_starts : (site : Site) (u x : ℕ) → ((v : ℕ) → member v x ≡ step site (out_half u) (in_half v)) → StartsAt site (out_half u) x
out_starts site u x is v = is v ∙ sym (rw (from_out u v) (walk_unmarked site (out_half u) (in_half v)))

-- ---- all rows

-- the rows below k are filled, and the others are empty
abbrev pub FilledTo : Site → List ℕ → ℕ → Type 0
FilledTo site rows k = (h v : ℕ) → member v (get_or rows h 0) ≡ (ltb h k && may_walk site unmarked h (across h v))

pub none_filled : (site : Site) (rows : List ℕ) → rows ≡ replicate 128 0 → FilledTo site rows 0
none_filled site rows e h v = rw (e, same-everywhere 0 128 h, le-ltb h 0 (omega arith)) (member-empty v)

pub one_more : (site : Site) (rows : List ℕ) (k x : ℕ) → k < length rows → StartsAt site k x → FilledTo site rows k → FilledTo site (set rows k x) (k + 1)
one_more site rows k x l is filled h v = pick (ℕ_discrete h k) (dec_lt h k)
  where
    pick : Dec (h ≡ k) → Dec (h < k) → member v (get_or (set rows k x) h 0) ≡ (ltb h (k + 1) && may_walk site unmarked h (across h v))
    pick (yes e) m = rw (e, get_or-set_same rows k x 0 l, lt-ltb k (k + 1) (omega arith)) (is v)
    pick (no e) (yes m) = ap (member v) (get_or-set_other rows k h x 0 e) ∙ filled h v ∙ rw (lt-ltb h k m, lt-ltb h (k + 1) (omega arith)) refl
    pick (no e) (no m) = ap (member v) (get_or-set_other rows k h x 0 e) ∙ filled h v ∙ rw (le-ltb h k (omega arith), le-ltb h (k + 1) (omega arith)) refl

-- no half past those of the map walks anywhere
pub all_filled : (site : Site) (rows : List ℕ) → FilledTo site rows (2 * site.n) → Open site unmarked rows
all_filled site rows filled h v = filled h v ∙ pick (dec_lt h (2 * site.n))
  where
    pick : Dec (h < 2 * site.n) → (ltb h (2 * site.n) && may_walk site unmarked h (across h v)) ≡ may_walk site unmarked h (across h v)
    pick (yes l) = rw (lt-ltb h (2 * site.n) l) refl
    pick (no l) =
        rw (le-ltb h (2 * site.n) (omega arith))
        (sym (not_true→false _ (λ e. omega (arith, (pair site h (across h v) (walk_joined site unmarked h (across h v) e)).first))))

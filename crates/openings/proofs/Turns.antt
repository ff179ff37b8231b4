-- A mark is reversed: two radios more or less in the rows. Assumes nothing.
use mathlib.Core.Path.{◌≡◌, refl, sym, ap, ◌∙◌, fun_ext}
use mathlib.Core.Bool.{Bool, true, false, not, cond, ◌&&◌, ◌||◌, true≢false, false≢true, not-not}
use mathlib.Core.List.{List}
use mathlib.Core.Logic.{◌⊎◌, inl, inr}
use Prim.Native.Nat.{ℕ, ◌+◌, ◌/◌, ◌%◌}
use native.Mathlib.Decide.{ℕ_discrete}
use native.Mathlib.Omega.{arith}
use lib.Dec.{eqb}
use lib.ListN.{get_or}
use borrow.Author.Tests.{eq-eqb, ne_eqb, eqb-true}
use Rattle.basics.proofs.Bools.{clash, or_cases, and_left, and_right, or_left, or_right, not_true→false, both_ways}
use Rattle.radios.specs.Member.{member}
use Rattle.site.specs.Map.{Site, step, radio_of}
use Rattle.site.proofs.Steps.{one_way, step_of}
use Rattle.tokens.specs.Rules.{Marks, may_walk, reversed}
use Rattle.openings.specs.Rows.{across, Open, Joined, OnSteps, marks_of}
use Rattle.openings.proofs.Walks.{pair, across-is, across-radio, walk_step}

-- radio v joins row h or leaves it, and nothing else changes
abbrev pub Toggled : ℕ → ℕ → List ℕ → List ℕ → Type 0
Toggled h v rows rows' = (a b : ℕ) → member b (get_or rows' a 0) ≡ cond (eqb a h && eqb b v) (not (member b (get_or rows a 0))) (member b (get_or rows a 0))

-- ---- tests

-- of a step and the step back only one is there; turning the mark of either turns who can walk
walk_turned : (p q t m w : Bool) → (p && q) ≡ false → (t ≡ true → (p || q) ≡ true)
    → ((p && not (cond (p && t) (not m) m)) || (q && cond (q && t) (not w) w)) ≡ cond t (not ((p && not m) || (q && w))) ((p && not m) || (q && w))
walk_turned true true t m w e j = absurd (true≢false e)
walk_turned true false true true w e j = refl
walk_turned true false true false w e j = refl
walk_turned true false false true w e j = refl
walk_turned true false false false w e j = refl
walk_turned false true true m true e j = refl
walk_turned false true true m false e j = refl
walk_turned false true false m true e j = refl
walk_turned false true false m false e j = refl
walk_turned false false true m w e j = absurd (false≢true (j refl))
walk_turned false false false m w e j = refl

-- turned in one place and then in another
turned_twice : (x z m : Bool) → (x && z) ≡ false → cond z (not (cond x (not m) m)) (cond x (not m) m) ≡ cond (x || z) (not m) m
turned_twice true true m e = absurd (true≢false e)
turned_twice true false m e = refl
turned_twice false z m e = refl

-- ---- in the definition

module _ (site : Site) (h y : ℕ) (joined : Joined site h y) where
  abbrev between : ℕ → ℕ → Bool
  between a b = (eqb a h && eqb b y) || (eqb a y && eqb b h)

  other_way : (a b : ℕ) → between b a ≡ between a b
  other_way a b = both_ways _ _ (λ e. turn a b (or_cases _ _ e)) (λ e. turn b a (or_cases _ _ e))
    where
      turn : (a b : ℕ) → ((eqb b h && eqb a y) ≡ true) ⊎ ((eqb b y && eqb a h) ≡ true) → between a b ≡ true
      turn a b (inl e) = or_right (eqb a h && eqb b y) _ (rw (eq-eqb a y (eqb-true a y (and_right (eqb b h) _ e)), eq-eqb b h (eqb-true b h (and_left _ _ e))) refl)
      turn a b (inr e) = or_left (eqb a h && eqb b y) _ (rw (eq-eqb a h (eqb-true a h (and_right (eqb b y) _ e)), eq-eqb b y (eqb-true b y (and_left _ _ e))) refl)

  is_step : (a b : ℕ) → between a b ≡ true → (step site a b || step site b a) ≡ true
  is_step a b e = which (or_cases _ _ e) joined
    where
      which : ((eqb a h && eqb b y) ≡ true) ⊎ ((eqb a y && eqb b h) ≡ true) → Joined site h y → (step site a b || step site b a) ≡ true
      which (inl w) (inl s) = or_left (step site a b) (step site b a) (rw (eqb-true a h (and_left _ _ w), eqb-true b y (and_right (eqb a h) _ w)) s)
      which (inl w) (inr s) = or_right (step site a b) (step site b a) (rw (eqb-true a h (and_left _ _ w), eqb-true b y (and_right (eqb a h) _ w)) s)
      which (inr w) (inl s) = or_right (step site a b) (step site b a) (rw (eqb-true a y (and_left _ _ w), eqb-true b h (and_right (eqb a y) _ w)) s)
      which (inr w) (inr s) = or_left (step site a b) (step site b a) (rw (eqb-true a y (and_left _ _ w), eqb-true b h (and_right (eqb a y) _ w)) s)

  walk_reversed : (marks : Marks) (a b : ℕ) → may_walk site (reversed site h y marks) a b ≡ cond (between a b) (not (may_walk site marks a b)) (may_walk site marks a b)
  unfolding may_walk reversed
  walk_reversed marks a b =
      rw (other_way a b)
      (walk_turned (step site a b) (step site b a) (between a b) (marks a b) (marks b a)
      (not_true→false _ (λ e. one_way site a b (step_of site a b (and_left _ _ e)) (step_of site b a (and_right (step site a b) _ e)))) (is_step a b))

  -- ---- in the rows

  same_test : (a v x z : ℕ) → (x + z) % 2 ≡ 1 → (eqb a x && eqb v (z / 2)) ≡ (eqb a x && eqb (across a v) z)
  same_test a v x z odd = pick (ℕ_discrete a x) (ℕ_discrete v (z / 2))
    where
      pick : Dec (a ≡ x) → Dec (v ≡ z / 2) → (eqb a x && eqb v (z / 2)) ≡ (eqb a x && eqb (across a v) z)
      pick (yes e) (yes d) = rw (e, d, eq-eqb (z / 2) (z / 2) refl, eq-eqb (across x (z / 2)) z (across-is x z odd)) refl
      pick (yes e) (no d) = rw (e, ne_eqb v (z / 2) d, ne_eqb (across x v) z (λ w. d (sym (across-radio x v) ∙ ap (λ (t : ℕ). t / 2) w))) refl
      pick (no e) d = rw (ne_eqb a x e) refl

  module _ (rows mid rows' : List ℕ) (first : Toggled h (y / 2) rows mid) (second : Toggled y (h / 2) mid rows') where
    rows_turned : (a v : ℕ) → member v (get_or rows' a 0) ≡ cond (between a (across a v)) (not (member v (get_or rows a 0))) (member v (get_or rows a 0))
    rows_turned a v =
        let odd = (pair site h y joined).differ in
        let even : (y + h) % 2 ≡ 1 = omega arith in
        second a v
        ∙ rw (first a v, same_test a v h y odd, same_test a v y h even)
        (turned_twice (eqb a h && eqb (across a v) y) (eqb a y && eqb (across a v) h) (member v (get_or rows a 0)) apart)
      where
        apart : ((eqb a h && eqb (across a v) y) && (eqb a y && eqb (across a v) h)) ≡ false
        apart = not_true→false _ (λ e.
            let p : a ≡ h = eqb-true a h (and_left _ _ (and_left _ _ e)) in
            let q : a ≡ y = eqb-true a y (and_left _ _ (and_right (eqb a h && eqb (across a v) y) _ e)) in
            omega (arith, (pair site h y joined).differ))

    pub turned : (marks : Marks) → Open site marks rows → Open site (reversed site h y marks) rows'
    turned marks now a v = rows_turned a v ∙ rw (now a v) (sym (walk_reversed marks a (across a v)))

-- ---- the marks that the rows tell

pub on_turned : (site : Site) (h y : ℕ) (marks : Marks) → OnSteps site marks → OnSteps site (reversed site h y marks)
unfolding reversed
on_turned site h y marks on a b e = go (step site a b) refl e
  where
    go : (s : Bool) → step site a b ≡ s → cond (s && ((eqb a h && eqb b y) || (eqb a y && eqb b h))) (not (marks a b)) (marks a b) ≡ true → step site a b ≡ true
    go true s t = s
    go false s t = on a b t

pub on_told : (site : Site) (rows : List ℕ) → OnSteps site (marks_of site rows)
on_told site rows a b e = and_left _ _ e

pub marks_told : (site : Site) (marks : Marks) (rows : List ℕ) → OnSteps site marks → Open site marks rows → marks ≡ marks_of site rows
marks_told site marks rows on now = fun_ext (λ a. fun_ext (λ b. go a b (step site a b) refl))
  where
    go : (a b : ℕ) (s : Bool) → step site a b ≡ s → marks a b ≡ (step site a b && not (member (radio_of b) (get_or rows a 0)))
    go a b true s =
        rw (s, now a (radio_of b), across-is a b (pair site a b (inl s)).differ, walk_step site marks a b s) (sym (not-not (marks a b)))
    go a b false s = rw s (not_true→false _ (λ e. clash (on a b e) s))

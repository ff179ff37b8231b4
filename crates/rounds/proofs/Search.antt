-- A depth-first search while the marks stand still: what holds before each message, and what it comes to. Assumes nothing.
use mathlib.Core.Path.{◌≡◌, refl, sym, ap, ◌∙◌}
use mathlib.Core.Bool.{true, false, ◌||◌}
use mathlib.Core.List.{List, [], ◌∷◌}
use mathlib.Core.Logic.{◌⊎◌, inl, inr}
use Prim.Native.Nat.{ℕ, suc, ◌+◌, ◌≤◌, ◌<◌}
use native.Mathlib.Omega.{arith}
use native.Mathlib.Decide.{dec_lt, ℕ_discrete}
use lib.Dec.{eqb}
use borrow.Author.Tests.{eqb-true, eq-eqb, ne_eqb}
use Rattle.basics.specs.Counting.{First}
use Rattle.basics.specs.Lists.{among, Different}
use Rattle.basics.proofs.Bools.{clash, not_true→false, or_left, or_right, or_cases}
use Rattle.basics.proofs.Lists.{among-nil, among-here, among_there, among_cases, among_one, among-neither}
use Rattle.site.specs.Map.{in_half, out_half}
use Rattle.tokens.specs.Rules.{Marks, Plan, Entered, Waiting, nobody, waits, only_s, just_s, candidate, can_try}
use Rattle.menger.proofs.Network.{walkable, Way, Shut}
use Rattle.routes.proofs.Trails.{network_of}
use Rattle.rounds.proofs.Order.{OrderOf, OpenPlace, open_walks, placed, same_place}
use Rattle.rounds.proofs.Once.{Unsent, without, without_less, without_this, without_other, without_cases}

-- the halves that wait, the last one first
abbrev pub halves_of : Waiting → List ℕ
halves_of nobody = []
halves_of (waits h i rest) = h ∷ halves_of rest

-- those entered before, and half y
abbrev pub with : ℕ → Entered → Entered
with y entered = λ x. eqb x y || entered x

with_cases : (y : ℕ) (entered : Entered) (x : ℕ) → with y entered x ≡ true → (x ≡ y) ⊎ (entered x ≡ true)
with_cases y entered x e = go (or_cases (eqb x y) _ e)
  where
    go : (eqb x y ≡ true) ⊎ (entered x ≡ true) → (x ≡ y) ⊎ (entered x ≡ true)
    go (inl p) = inl (eqb-true x y p)
    go (inr p) = inr p

module _ (plan : Plan) (marks : Marks) where
  -- ---- what holds

  -- half h may still send to those at its open places from place i on, and to no other
  pub record Row (left : Unsent) (h i : ℕ) : Type 0 where
    pub within : i ≤ plan.site.n + 1
    pub ahead : (y : ℕ) → left h y ≡ true → OpenPlace plan marks h i y
    pub still : (y : ℕ) → OpenPlace plan marks h i y → left h y ≡ true

  abbrev pub Rows : Unsent → Waiting → Type 0
  Rows left nobody = Unit
  Rows left (waits h i rest) = Row left h i × Rows left rest

  -- the half on top was reached from the one below it, and so on down to S
  abbrev pub Chain : Waiting → Type 0
  Chain nobody = ⊥
  Chain (waits h i rest) = Way (network_of plan.site) marks h (halves_of rest)

  -- a search that has entered some halves and met these, and perhaps one more, to which a PDT is under way
  pub record Search (entered met : Entered) (left : Unsent) (waiting : Waiting) : Type 0 where
    -- a PDT goes only over a step that can be walked
    pub walks : (x y : ℕ) → left x y ≡ true → walkable (network_of plan.site) marks x y ≡ true
    -- one that is not left has gone from an entered half to one that was met
    pub tried : (x y : ℕ) → walkable (network_of plan.site) marks x y ≡ true → (left x y ≡ true) ⊎ ((entered x ≡ true) × (met y ≡ true))
    -- an entered half that does not wait has none left
    pub done : (x y : ℕ) → entered x ≡ true → left x y ≡ true → among x (halves_of waiting) ≡ true
    pub rows : Rows left waiting
    pub inside : (x : ℕ) → among x (halves_of waiting) ≡ true → entered x ≡ true
    pub different : Different (halves_of waiting)
    pub goal_out : entered (in_half plan.site.T) ≡ false
    pub chain : Chain waiting

  -- ---- rule 2: S's out half alone is entered, and searches

  -- a half that has tried nothing has all its places before it
  whole_row : OrderOf plan → (left : Unsent) (h : ℕ) → ((y : ℕ) → left h y ≡ true → walkable (network_of plan.site) marks h y ≡ true) → ((y : ℕ) → walkable (network_of plan.site) marks h y ≡ true → left h y ≡ true) → Row left h 0
  whole_row ordered left h walks all = record {
    within = omega arith;
    ahead = λ y e. placed ordered marks h y (walks y e);
    still = λ y a. all y (rw a.leads at (open_walks plan.site marks h (plan.order a.place) a.opens));
  }

  pub begins : OrderOf plan → Search (only_s plan.site) (only_s plan.site) (walkable (network_of plan.site) marks) (just_s plan.site)
  begins ordered = record {
    walks = λ x y e. e;
    tried = λ x y e. inl e;
    done = λ x y e l. rw (eqb-true x _ e) (among-here _ []);
    rows = (whole_row ordered _ _ (λ y e. e) (λ y e. e), tt);
    inside = λ x e. eq-eqb x _ (among_one x _ e);
    different = (not_true→false _ (among-nil _), tt);
    goal_out = ne_eqb (in_half plan.site.T) (out_half plan.site.S) (λ e. omega arith);
    chain = refl;
  }

  -- ---- the half on top sends a PDT over its next place

  module _ {entered : Entered} {left : Unsent} {h i : ℕ} {rest : Waiting} (search : Search entered entered left (waits h i rest)) {place : ℕ} (first : First (λ p. can_try plan.site marks h (plan.order p)) i (plan.site.n + 1) place) (within : place < plan.site.n + 1) where
    abbrev y : ℕ
    y = candidate plan.site h (plan.order place)

    abbrev here : OpenPlace plan marks h i y
    here = record { place = place; from = first.from; within = within; opens = first.found within; leads = refl }

    -- it was left
    pub was_left : left h y ≡ true
    was_left = search.rows.0.still y here

    rows_apart : (waiting : Waiting) → among h (halves_of waiting) ≡ false → Rows left waiting → Rows (without h y left) waiting
    rows_apart nobody e rows = tt
    rows_apart (waits g j r) e rows = (row rows.0, rows_apart r apart.1 rows.1)
      where
        apart : (h ≡ g → ⊥) × (among h (halves_of r) ≡ false)
        apart = among-neither h g (halves_of r) e

        row : Row left g j → Row (without h y left) g j
        row before = record {
          within = before.within;
          ahead = λ z l. before.ahead z (without_less h y left g z l);
          still = λ z a. without_other h y left g z (λ u v. apart.0 (sym u)) ∙ before.still z a;
        }

    row_next : OrderOf plan → Row (without h y left) h (suc place)
    row_next ordered = record {
      within = omega arith;
      ahead = λ z l. let a = search.rows.0.ahead z (without_less h y left h z l) in record { place = a.place; from = later z l a (dec_lt _ _) (ℕ_discrete _ _); within = a.within; opens = a.opens; leads = a.leads };
      still = λ z a. without_other h y left h z (λ u v. other z a v) ∙ search.rows.0.still z (record { place = a.place; from = omega (arith, a.from, first.from); within = a.within; opens = a.opens; leads = a.leads });
    }
      where
        later : (z : ℕ) → without h y left h z ≡ true → (a : OpenPlace plan marks h i z) → Dec (a.place < place) → Dec (a.place ≡ place) → suc place ≤ a.place
        later z l a (yes p) q = clash a.opens (first.before a.place a.from p)
        later z l a (no p) (yes q) =
            let same : z ≡ y = sym a.leads ∙ ap (λ p. candidate plan.site h (plan.order p)) q in
            clash l (rw same (without_this h y left))
        later z l a (no p) (no q) = omega arith

        other : (z : ℕ) → OpenPlace plan marks h (suc place) z → z ≡ y → ⊥
        other z a e = omega (arith, a.from, same_place ordered marks h (record { place = a.place; from = a.from; within = a.within; opens = a.opens; leads = a.leads ∙ e }) here)

    -- now one PDT fewer is left, and the half it goes to is met
    pub asked : OrderOf plan → Search entered (with y entered) (without h y left) (waits h (suc place) rest)
    asked ordered = record {
      walks = λ a b e. search.walks a b (without_less h y left a b e);
      tried = λ a b w. again a b (search.tried a b w);
      done = λ a b e l. search.done a b e (without_less h y left a b l);
      rows = (row_next ordered, rows_apart rest search.different.0 search.rows.1);
      inside = search.inside;
      different = search.different;
      goal_out = search.goal_out;
      chain = search.chain;
    }
      where
        goes : (a b : ℕ) → (without h y left a b ≡ true) ⊎ ((a ≡ h) × (b ≡ y)) → (without h y left a b ≡ true) ⊎ ((entered a ≡ true) × (with y entered b ≡ true))
        goes a b (inl l) = inl l
        goes a b (inr p) = inr (rw p.0 (search.inside h (among-here h (halves_of rest))), or_left (eqb b y) _ (eq-eqb b y p.1))

        again : (a b : ℕ) → (left a b ≡ true) ⊎ ((entered a ≡ true) × (entered b ≡ true)) → (without h y left a b ≡ true) ⊎ ((entered a ≡ true) × (with y entered b ≡ true))
        again a b (inl e) = goes a b (without_cases h y left a b e)
        again a b (inr e) = inr (e.0, or_right (eqb b y) _ e.1)

  -- ---- half y gets the PDT that is under way

  -- it was entered before
  pub met_before :
      {entered : Entered} {left : Unsent} {waiting : Waiting} {y : ℕ} → Search entered (with y entered) left waiting → entered y ≡ true
      → Search entered entered left waiting
  met_before {entered} {left} {y = y} search before = record {
    walks = search.walks;
    tried = λ a b w. again a b (search.tried a b w);
    done = search.done;
    rows = search.rows;
    inside = search.inside;
    different = search.different;
    goal_out = search.goal_out;
    chain = search.chain;
  }
    where
      was : (b : ℕ) → (b ≡ y) ⊎ (entered b ≡ true) → entered b ≡ true
      was b (inl e) = rw e before
      was b (inr e) = e

      again : (a b : ℕ) → (left a b ≡ true) ⊎ ((entered a ≡ true) × (with y entered b ≡ true)) → (left a b ≡ true) ⊎ ((entered a ≡ true) × (entered b ≡ true))
      again a b (inl e) = inl e
      again a b (inr e) = inr (e.0, was b (with_cases y entered b e.1))

  -- it was not, so that it does not wait
  pub new_to_all : {entered met : Entered} {left : Unsent} {waiting : Waiting} {y : ℕ} → Search entered met left waiting → entered y ≡ false → Different (y ∷ halves_of waiting)
  new_to_all {y = y} search new = (not_true→false _ (λ e. clash (search.inside y e) new), search.different)

  -- it is entered now, and searches
  pub enters :
      OrderOf plan → {entered : Entered} {left : Unsent} {waiting : Waiting} {y : ℕ} → Search entered (with y entered) left waiting → entered y ≡ false → (y ≡ in_half plan.site.T → ⊥) → Way (network_of plan.site) marks y (halves_of waiting)
      → Search (with y entered) (with y entered) left (waits y 0 waiting)
  enters ordered {entered} {left} {waiting} {y} search new not-goal way = record {
    walks = search.walks;
    tried = λ a b w. again a b (search.tried a b w);
    done = λ a b e l. waits_now a b l (with_cases y entered a e);
    rows = (whole_row ordered left y (search.walks y) (λ z w. untried z (search.tried y z w)), search.rows);
    inside = λ x e. in_now x (among_cases x y (halves_of waiting) e);
    different = new_to_all search new;
    goal_out = rw (ne_eqb (in_half plan.site.T) y (λ e. not-goal (sym e))) search.goal_out;
    chain = way;
  }
    where
      again : (a b : ℕ) → (left a b ≡ true) ⊎ ((entered a ≡ true) × (with y entered b ≡ true)) → (left a b ≡ true) ⊎ ((with y entered a ≡ true) × (with y entered b ≡ true))
      again a b (inl e) = inl e
      again a b (inr e) = inr (or_right (eqb a y) _ e.0, e.1)

      untried : (z : ℕ) → (left y z ≡ true) ⊎ ((entered y ≡ true) × (with y entered z ≡ true)) → left y z ≡ true
      untried z (inl e) = e
      untried z (inr e) = clash e.0 new

      waits_now : (a b : ℕ) → left a b ≡ true → (a ≡ y) ⊎ (entered a ≡ true) → among a (y ∷ halves_of waiting) ≡ true
      waits_now a b l (inl e) = rw e (among-here y (halves_of waiting))
      waits_now a b l (inr e) = among_there a y (halves_of waiting) (search.done a b e l)

      in_now : (x : ℕ) → (x ≡ y) ⊎ (among x (halves_of waiting) ≡ true) → with y entered x ≡ true
      in_now x (inl e) = or_left (eqb x y) _ (eq-eqb x y e)
      in_now x (inr e) = or_right (eqb x y) _ (search.inside x e)

  -- ---- the half on top has nothing left to try

  -- no place of half h from i on is open
  abbrev pub NoneFrom : ℕ → ℕ → Type 0
  NoneFrom h i = (place : ℕ) → i ≤ place → place < plan.site.n + 1 → can_try plan.site marks h (plan.order place) ≡ false

  waits_below :
      {entered : Entered} {left : Unsent} {h i : ℕ} {rest : Waiting} → Search entered entered left (waits h i rest) → NoneFrom h i
      → (x y : ℕ) → entered x ≡ true → left x y ≡ true → among x (halves_of rest) ≡ true
  waits_below {left = left} {h} {rest = rest} search none x y e l = go (among_cases x h (halves_of rest) (search.done x y e l))
    where
      nothing_left : left h y ≡ true → ⊥
      nothing_left p = let a = search.rows.0.ahead y p in clash a.opens (none a.place a.from a.within)

      go : (x ≡ h) ⊎ (among x (halves_of rest) ≡ true) → among x (halves_of rest) ≡ true
      go (inl p) = absurd (nothing_left (rw p at l))
      go (inr p) = p

  -- it replies PDT_B, and the half below it goes on
  pub gave_back :
      {entered : Entered} {left : Unsent} {h i g j : ℕ} {rest : Waiting} → Search entered entered left (waits h i (waits g j rest)) → NoneFrom h i
      → Search entered entered left (waits g j rest)
  gave_back search none = record {
    walks = search.walks;
    tried = search.tried;
    done = waits_below search none;
    rows = search.rows.1;
    inside = λ x e. search.inside x (among_there x _ _ e);
    different = search.different.1;
    goal_out = search.goal_out;
    chain = search.chain.1;
  }

  -- it is S: the entered halves are closed
  pub closes : {entered : Entered} {left : Unsent} {h i : ℕ} → Search entered entered left (waits h i nobody) → NoneFrom h i → Shut (network_of plan.site) marks entered
  closes {entered} {left} {h} search none = record {
    closed = λ x y e w. go x y e (search.tried x y w);
    source_in = rw (← search.chain) (search.inside h (among-here h []));
    goal_out = search.goal_out;
  }
    where
      go : (x y : ℕ) → entered x ≡ true → (left x y ≡ true) ⊎ ((entered x ≡ true) × (entered y ≡ true)) → entered y ≡ true
      go x y e (inl l) = absurd (among-nil x (waits_below search none x y e l))
      go x y e (inr p) = p.1

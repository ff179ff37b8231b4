-- The order of trying, read off a set: the radio tried next, and what is left then. Assumes nothing.
use mathlib.Core.Path.{◌≡◌, refl, sym, ap, ◌∙◌, subst}
use mathlib.Core.Bool.{Bool, true, false, not, cond, ◌&&◌, ◌||◌, and-false, or-true, not-not}
use mathlib.Core.List.{List}
use Prim.Native.Nat.{ℕ, zero, suc, ◌+◌, ◌-◌, ◌*◌, ◌%◌, ◌^◌, ◌≤◌, ◌<◌}
use native.Mathlib.Nat.{pow-suc}
use native.Mathlib.Decide.{ℕ_discrete, dec_lt}
use native.Mathlib.Omega.{arith}
use lib.Dec.{eqb, ltb, leb}
use lib.ListN.{get_or}
use borrow.Author.Tests.{eq-eqb, ne_eqb, lt-ltb, le-ltb, le-leb, lt-leb, leb-true, eqb-true, eqb-false, not-true}
use Rattle.basics.specs.Counting.{First, first_within, first_from}
use Rattle.basics.proofs.Bools.{clash, and_left, and_right, not_true→false}
use Rattle.basics.proofs.Counting.{first_is, first-from}
use Rattle.radios.specs.Member.{member, or_64}
use Rattle.radios.proofs.Laws.{member-empty, some_member}
use Rattle.std.specs.Prelude.{Option, Some, None, IfSome}
use Rattle.site.specs.Map.{Site, linked_on, in_half, out_half, radio_of, is_out, step}
use Rattle.site.proofs.Steps.{step_of, step-below}
use Rattle.tokens.specs.Rules.{Plan, Marks, may_walk, rising, candidate, can_try, next_place, next_marked}
use Rattle.openings.specs.Rows.{across, Open, OnSteps, place_in_order, Untried, NextRadio, NextMarked}
use Rattle.radios.specs.Links.{RowsOfLinks}
use Rattle.openings.proofs.Walks.{from_out, walk_below, walk_step, step-out}

-- ---- places

own_place : (site : Site) (h v : ℕ) → v ≡ radio_of h → place_in_order site h v ≡ site.n
own_place site h v e = rw (eq-eqb v (radio_of h) e) refl

other_place : (site : Site) (h v : ℕ) → (v ≡ radio_of h → ⊥) → place_in_order site h v ≡ v
other_place site h v e = rw (ne_eqb v (radio_of h) e) refl

-- a radio of the map has one of the places 0 to n, and not the one that is passed over
pub record Placed (site : Site) (h v : ℕ) : Type 0 where
  pub low : place_in_order site h v ≤ site.n
  pub not_own : place_in_order site h v ≡ radio_of h → ⊥

pub placed : (site : Site) (h v : ℕ) → h < 2 * site.n → v < site.n → Placed site h v
placed site h v p q = pick (ℕ_discrete v (radio_of h))
  where
    pick : Dec (v ≡ radio_of h) → Placed site h v
    pick (yes e) = let w = own_place site h v e in record { low = omega arith; not_own = λ d. omega arith }
    pick (no e) = let w = other_place site h v e in record { low = omega arith; not_own = λ d. e (omega arith) }

-- two radios of the map have two places
two_places : (site : Site) (h v w : ℕ) → v < site.n → w < site.n → place_in_order site h v ≡ place_in_order site h w → v ≡ w
two_places site h v w p q e = pick (ℕ_discrete v (radio_of h)) (ℕ_discrete w (radio_of h))
  where
    pick : Dec (v ≡ radio_of h) → Dec (w ≡ radio_of h) → v ≡ w
    pick (yes x) (yes z) = x ∙ sym z
    pick (yes x) (no z) = absurd (omega (arith, own_place site h v x, other_place site h w z))
    pick (no x) (yes z) = absurd (omega (arith, other_place site h v x, own_place site h w z))
    pick (no x) (no z) = sym (other_place site h v x) ∙ e ∙ other_place site h w z

-- what stands at a radio's place
pub candidate-at : (site : Site) (h v : ℕ) → h < 2 * site.n → v < site.n → candidate site h (place_in_order site h v) ≡ across h v
unfolding candidate
candidate-at site h v p q = pick (ℕ_discrete v (radio_of h))
  where
    own : v ≡ radio_of h → (b : Bool) → is_out h ≡ b → cond b (h - 1) (h + 1) ≡ cond b (in_half v) (out_half v)
    own e true d = let odd : h % 2 ≡ 1 = eqb-true _ _ d in omega arith
    own e false d = let even : h % 2 ≡ 1 → ⊥ = eqb-false _ _ d in omega arith

    pick : Dec (v ≡ radio_of h) → candidate site h (place_in_order site h v) ≡ across h v
    pick (no e) = rw (other_place site h v e, lt-ltb v site.n q) refl
    pick (yes e) = rw (own_place site h v e, le-ltb site.n site.n (omega arith)) (own e (is_out h) refl)

try_at : (site : Site) (marks : Marks) (h v : ℕ) → h < 2 * site.n → v < site.n → can_try site marks h (place_in_order site h v) ≡ may_walk site marks h (across h v)
unfolding can_try
try_at site marks h v p q = rw (ne_eqb (place_in_order site h v) (radio_of h) (placed site h v p q).not_own, candidate-at site h v p q) refl

-- its own radio's number is no place
try_own : (site : Site) (marks : Marks) (h v : ℕ) → v ≡ radio_of h → can_try site marks h v ≡ false
unfolding can_try
try_own site marks h v e = rw (eq-eqb v (radio_of h) e) refl

-- ---- the next place

below_power : (x : ℕ) → x < 2 ^ x
below_power zero = omega arith
below_power (suc x) = omega (arith, below_power x, pow-suc 2 x)

-- where all places are tried
pub from_past : (plan : Plan) (marks : Marks) (h place : ℕ) → plan.site.n + 1 < place → next_place plan marks h place ≡ place
unfolding next_place first_within
from_past plan marks h place l = let e : plan.site.n + 1 - place ≡ 0 = omega arith in rw e refl

-- by rising numbers a place is the number that is tried there
in_order : (plan : Plan) (marks : Marks) (h place : ℕ) → plan.order ≡ rising → next_place plan marks h place ≡ first_from (can_try plan.site marks h) place (plan.site.n + 1)
unfolding next_place
in_order plan marks h place e = ap (λ (order : ℕ → ℕ). first_from (λ i. can_try plan.site marks h (order i)) place (plan.site.n + 1)) e

-- where no radio before a place is left, no place before it can be tried
none_before : (site : Site) (marks : Marks) (h place left : ℕ) → h < 2 * site.n → Untried site marks h place left → (limit : ℕ)
    → ((v : ℕ) → v < site.n → place_in_order site h v < limit → member v left ≡ false)
    → (j : ℕ) → place ≤ j → j ≤ site.n → j < limit → can_try site marks h j ≡ false
none_before site marks h place left half all limit none j p q l = pick (ℕ_discrete j (radio_of h)) (dec_lt j site.n)
  where
    at : (v : ℕ) → v < site.n → place_in_order site h v ≡ j → can_try site marks h j ≡ false
    at v r e =
        ap (can_try site marks h) (sym e) ∙ try_at site marks h v half r
        ∙ sym (rw (le-leb place (place_in_order site h v) (omega arith)) at (all v)) ∙ none v r (omega arith)

    pick : Dec (j ≡ radio_of h) → Dec (j < site.n) → can_try site marks h j ≡ false
    pick (yes e) r = try_own site marks h j e
    pick (no e) (yes r) = at j r (other_place site h j e)
    pick (no e) (no r) = at (radio_of h) (omega arith) (own_place site h (radio_of h) refl ∙ omega arith)

-- what is left once the first has been tried
less_first : (site : Site) (marks : Marks) (h place left : ℕ) → h < 2 * site.n → Untried site marks h place left → (r left' : ℕ) → r < site.n → First (can_try site marks h) place (site.n + 1) (place_in_order site h r)
    → ((v : ℕ) → member v left' ≡ (not (eqb v r) && member v left)) → Untried site marks h (suc (place_in_order site h r)) left'
less_first site marks h place left half all r left' below first less v = less v ∙ pick (ℕ_discrete v r) (dec_lt (place_in_order site h r) (place_in_order site h v)) (dec_lt v site.n) (dec_lt (place_in_order site h v) place)
  where
    pick : Dec (v ≡ r) → Dec (place_in_order site h r < place_in_order site h v) → Dec (v < site.n) → Dec (place_in_order site h v < place) → (not (eqb v r) && member v left) ≡ (leb (suc (place_in_order site h r)) (place_in_order site h v) && may_walk site marks h (across h v))
    pick (yes e) (yes l) m t = absurd (omega (arith, ap (place_in_order site h) e))
    pick (yes e) (no l) m t = rw (eq-eqb v r e, lt-leb (suc (place_in_order site h r)) (place_in_order site h v) (omega arith)) refl
    pick (no e) (yes l) m t = rw (ne_eqb v r e, all v, le-leb place (place_in_order site h v) (omega (arith, first.from)), le-leb (suc (place_in_order site h r)) (place_in_order site h v) (omega arith)) refl
    pick (no e) (no l) (no m) t = rw (ne_eqb v r e, all v, walk_below site marks h v (omega arith), and-false, and-false) refl
    pick (no e) (no l) (yes m) (yes t) = rw (ne_eqb v r e, all v, lt-leb place (place_in_order site h v) t, lt-leb (suc (place_in_order site h r)) (place_in_order site h v) (omega arith)) refl
    pick (no e) (no l) (yes m) (no t) =
        let apart : place_in_order site h v ≡ place_in_order site h r → ⊥ = λ d. e (two_places site h v r m below d) in
        let shut : may_walk site marks h (across h v) ≡ false = sym (try_at site marks h v half m) ∙ first.before (place_in_order site h v) (omega arith) (omega arith) in
        rw (ne_eqb v r e, all v, shut, and-false, and-false) refl

-- what is left is of the map, and can be walked to
record Stays (site : Site) (marks : Marks) (h place r : ℕ) : Type 0 where
  later : place ≤ place_in_order site h r
  walks : may_walk site marks h (across h r) ≡ true
  below : r < site.n

stays : (site : Site) (marks : Marks) (h place left r : ℕ) → Untried site marks h place left → member r left ≡ true → Stays site marks h place r
stays site marks h place left r all is =
    record { later = leb-true _ _ (and_left _ _ both); walks = walks; below = in_map (dec_lt r site.n) }
  where
    both : (leb place (place_in_order site h r) && may_walk site marks h (across h r)) ≡ true
    both = sym (all r) ∙ is

    walks : may_walk site marks h (across h r) ≡ true
    walks = and_right (leb place (place_in_order site h r)) _ both

    in_map : Dec (r < site.n) → r < site.n
    in_map (yes l) = l
    in_map (no l) = clash walks (walk_below site marks h r (omega arith))

-- nothing is left: there is no place from this one on
pub none_left : (plan : Plan) (marks : Marks) (h place : ℕ) → plan.order ≡ rising → h < 2 * plan.site.n → Untried plan.site marks h place 0 → plan.site.n < next_place plan marks h place
none_left plan marks h place order half all = pick (dec_lt (plan.site.n + 1) place)
  where
    pick : Dec (plan.site.n + 1 < place) → plan.site.n < next_place plan marks h place
    pick (yes l) = omega (arith, from_past plan marks h place l)
    pick (no l) =
        omega (
          arith,
          in_order plan marks h place order,
          first_is (can_try plan.site marks h) place (plan.site.n + 1) (plan.site.n + 1) (omega arith)
              (record {
                from = omega arith;
                within = omega arith;
                before = λ j p l. none_before plan.site marks h place 0 half all (plan.site.n + 1) (λ v q l. member-empty v) j p (omega arith) l;
                found = λ l. absurd (omega arith);
              }),
        )

module _ (plan : Plan) (marks : Marks) (h place left : ℕ) (order : plan.order ≡ rising) (half : h < 2 * plan.site.n) (all : Untried plan.site marks h place left) where
  -- the first radio left, by its place
  found : (r : ℕ) → member r left ≡ true → ((v : ℕ) → v < plan.site.n → place_in_order plan.site h v < place_in_order plan.site h r → member v left ≡ false) → NextRadio plan marks h place r
  found r is none =
      let left_r = stays plan.site marks h place left r all is in
      let at = placed plan.site h r half left_r.below in
      record {
        found =
            in_order plan marks h place order
            ∙ first_is (can_try plan.site marks h) place (plan.site.n + 1) (place_in_order plan.site h r) (omega (arith, left_r.later, at.low))
            (record {
              from = left_r.later;
              within = omega (arith, at.low);
              before = λ j p l. none_before plan.site marks h place left half all (place_in_order plan.site h r) none j p (omega (arith, at.low)) l;
              found = λ l. try_at plan.site marks h r half left_r.below ∙ left_r.walks;
            });
        below = left_r.below;
        walks = left_r.walks;
      }

  -- what is left once the next has been tried
  pub untried_less : (r left' : ℕ) → NextRadio plan marks h place r → ((v : ℕ) → member v left' ≡ (not (eqb v r) && member v left)) → Untried plan.site marks h (suc (place_in_order plan.site h r)) left'
  untried_less r left' next less =
      less_first plan.site marks h place left half all r left' next.below
      (subst (First (can_try plan.site marks h) place (plan.site.n + 1)) (sym (in_order plan marks h place order) ∙ next.found) (first-from (can_try plan.site marks h) place (plan.site.n + 1) (start (dec_lt (plan.site.n + 1) place))))
      less
    where
      start : Dec (plan.site.n + 1 < place) → place ≤ plan.site.n + 1
      start (no l) = omega arith
      start (yes l) = absurd (omega (arith, from_past plan marks h place l, next.found, (placed plan.site h r half next.below).low))

  -- the other radios come first
  module _ (others : ℕ) (is_others : (v : ℕ) → member v others ≡ (not (eqb v (radio_of h)) && member v left)) where
    other_left : (v : ℕ) → (v ≡ radio_of h → ⊥) → member v others ≡ member v left
    other_left v e = is_others v ∙ rw (ne_eqb v (radio_of h) e) refl

    -- the first of them is the next
    pub next_other : (r : ℕ) → First (λ v. member v others) 0 64 r → r < 64 → NextRadio plan marks h place r
    next_other r first fits = found r is_left (λ v p l. before v l (ℕ_discrete v (radio_of h)))
      where
        is : (not (eqb r (radio_of h)) && member r left) ≡ true
        is = sym (is_others r) ∙ first.found fits

        is_left : member r left ≡ true
        is_left = and_right (not (eqb r (radio_of h))) _ is

        own_later : place_in_order plan.site h r ≡ r
        own_later = other_place plan.site h r (eqb-false _ _ (not-true _ (and_left _ _ is)))

        before : (v : ℕ) → place_in_order plan.site h v < place_in_order plan.site h r → Dec (v ≡ radio_of h) → member v left ≡ false
        before v l (no e) = sym (other_left v e) ∙ first.before v (omega arith) (omega (arith, other_place plan.site h v e, own_later))
        before v l (yes e) = absurd (omega (arith, own_place plan.site h v e, own_later, (stays plan.site marks h place left r all is_left).below))

    -- where there is none of them, its own is
    pub next_own : others ≡ 0 → (left ≡ 0 → ⊥) → NextRadio plan marks h place (radio_of h)
    next_own none some = found (radio_of h) own (λ v p l. not_other v (λ e. omega (arith, ap (place_in_order plan.site h) e)))
      where
        not_other : (v : ℕ) → (v ≡ radio_of h → ⊥) → member v left ≡ false
        not_other v e = sym (other_left v e) ∙ rw none (member-empty v)

        own : member (radio_of h) left ≡ true
        own = let w = some_member left left (below_power left) some in pick w.0 w.2 (ℕ_discrete w.0 (radio_of h))
          where
            pick : (v : ℕ) → member v left ≡ true → Dec (v ≡ radio_of h) → member (radio_of h) left ≡ true
            pick v is (yes e) = rw e at is
            pick v is (no e) = clash is (not_other v e)

-- ---- what is left of a row

-- of a half that has tried nothing all is left
pub untried_whole : (site : Site) (marks : Marks) (h : ℕ) (rows : List ℕ) → Open site marks rows → Untried site marks h 0 (get_or rows h 0)
untried_whole site marks h rows now v = now h v ∙ rw (le-leb 0 (place_in_order site h v) (omega arith)) refl

module _ (site : Site) (marks : Marks) (h v row : ℕ) (below : v < site.n) (is : (j : ℕ) → member j row ≡ may_walk site marks h (across h j)) where
  -- its own half comes last
  pub after_own : v ≡ radio_of h → (j : ℕ) → false ≡ (leb (suc (place_in_order site h v)) (place_in_order site h j) && may_walk site marks h (across h j))
  after_own e j = sym (pick (ℕ_discrete j (radio_of h)) (dec_lt j site.n))
    where
      pick : Dec (j ≡ radio_of h) → Dec (j < site.n) → (leb (suc (place_in_order site h v)) (place_in_order site h j) && may_walk site marks h (across h j)) ≡ false
      pick (yes d) l = rw (own_place site h v e, own_place site h j d, lt-leb (suc site.n) site.n (omega arith)) refl
      pick (no d) (yes l) = rw (own_place site h v e, other_place site h j d, lt-leb (suc site.n) j (omega arith)) refl
      pick (no d) (no l) = rw (walk_below site marks h j (omega arith), and-false) refl

  -- another is followed by the radios above it, and by its own half
  pub after_other : (v ≡ radio_of h → ⊥) → (j : ℕ)
      → ((not (eqb j v) && (not (ltb j v) && member j row)) || (member j row && not (not (eqb j (radio_of h)) && member j row))) ≡ (leb (suc (place_in_order site h v)) (place_in_order site h j) && may_walk site marks h (across h j))
  after_other ne j = rw (is j, other_place site h v ne) (pick (ℕ_discrete j (radio_of h)) (ℕ_discrete j v) (dec_lt j v) (may_walk site marks h (across h j)))
    where
      pick : Dec (j ≡ radio_of h) → Dec (j ≡ v) → Dec (j < v) → (b : Bool) → ((not (eqb j v) && (not (ltb j v) && b)) || (b && not (not (eqb j (radio_of h)) && b))) ≡ (leb (suc v) (place_in_order site h j) && b)
      pick (yes e) d l true = rw (eq-eqb j (radio_of h) e, or-true, le-leb (suc v) site.n (omega arith)) refl
      pick (yes e) d l false = simp and-false
      pick (no e) d l false = simp and-false
      pick (no e) (yes d) l true = rw (ne_eqb j (radio_of h) e, eq-eqb j v d, lt-leb (suc v) j (omega arith)) refl
      pick (no e) (no d) (yes l) true = rw (ne_eqb j (radio_of h) e, ne_eqb j v d, lt-ltb j v l, lt-leb (suc v) j (omega arith)) refl
      pick (no e) (no d) (no l) true = rw (ne_eqb j (radio_of h) e, ne_eqb j v d, le-ltb j v (omega arith), le-leb (suc v) j (omega arith)) refl

-- ---- the marked steps of an out half other than T's

module _ (site : Site) (marks : Marks) (u : ℕ) (nt : u ≡ site.T → ⊥) (rows : List ℕ) (on : OnSteps site marks) (now : Open site marks rows) where
  pub marked_is : (s : ℕ) (links : List ℕ) → site.S ≡ s → RowsOfLinks site.table site.n links → (w : ℕ) → (not (eqb w s) && (member w (get_or links u 0) && not (member w (get_or rows (out_half u) 0)))) ≡ marks (out_half u) (in_half w)
  marked_is s links source is w = rw (← source, is u w) (go (not (eqb w site.S)) (linked_on site u w) (step site (out_half u) (in_half w)) refl (sym (step-out site u w nt)))
    where
      go : (a b c : Bool) → step site (out_half u) (in_half w) ≡ c → (a && b) ≡ c → (a && (b && not (member w (get_or rows (out_half u) 0)))) ≡ marks (out_half u) (in_half w)
      go true true true e d = rw (now (out_half u) w, from_out u w, walk_step site marks (out_half u) (in_half w) e) (not-not (marks (out_half u) (in_half w)))
      go true true false e d = clash refl d
      go true false true e d = clash d refl
      go true false false e d = sym (not_true→false _ (λ t. clash (on _ _ t) e))
      go false b true e d = clash d refl
      go false b false e d = sym (not_true→false _ (λ t. clash (on _ _ t) e))

  module _ (set v : ℕ) (few : site.n ≤ 64) (start : v ≤ site.n) (is_set : (w : ℕ) → member w set ≡ marks (out_half u) (in_half w)) where
    pub marked_next : (found : Option ℕ) → First (λ w. member w set) v 64 (or_64 found) → IfSome found (λ w. w < 64) → NextMarked site marks (out_half u) v found
    unfolding next_marked
    marked_next None first below =
        record {
          next =
              first_is (λ w. marks (out_half u) (in_half w)) v site.n site.n start
              (record { from = start; within = omega arith; before = λ j p q. sym (is_set j) ∙ first.before j p (omega arith); found = λ q. absurd (omega arith) });
          a_radio = tt;
        }
    marked_next (Some r) first below =
        let marked : marks (out_half u) (in_half r) ≡ true = sym (is_set r) ∙ first.found below in
        let radio : r < site.n = omega (arith, (step-below site (out_half u) (in_half r) (step_of site (out_half u) (in_half r) (on _ _ marked))).1) in
        record {
          next =
              first_is (λ w. marks (out_half u) (in_half w)) v site.n r start
              (record { from = first.from; within = omega arith; before = λ j p q. sym (is_set j) ∙ first.before j p q; found = λ q. marked });
          a_radio = radio;
        }

-- What each half can walk to now, as a set of radios for each half: the rows and what they stand for.
use Rattle.std.specs.Prelude.{◌≡◌, true, not, cond, ◌&&◌, List, Option, Some, None, ◌⊎◌, ℕ, ◌*◌, ◌<◌, eqb, leb, get_or, IfSome}
use Rattle.radios.specs.Member.{member}
use Rattle.site.specs.Limits.{most_radios}
use Rattle.site.specs.Map.{Site, in_half, out_half, radio_of, is_out, step}
use Rattle.tokens.specs.Rules.{Plan, Marks, may_walk, rising, next_place, next_marked}

-- ---- the rows

-- the half that a radio stands for in half h's row: its half of the other kind; h's own radio stands for h's own other half
abbrev pub across : ℕ → ℕ → ℕ
across h v = cond (is_out h) (in_half v) (out_half v)

-- row h holds the radios that half h can walk to now
abbrev pub Open : Site → Marks → List ℕ → Type 0
Open site marks rows = (h v : ℕ) → member v (get_or rows h 0) ≡ may_walk site marks h (across h v)

-- the marks that the rows tell: a step is marked where its start cannot walk over it
abbrev pub marks_of : Site → List ℕ → Marks
marks_of site rows a b = step site a b && not (member (radio_of b) (get_or rows a 0))

-- ---- the order of trying

-- a radio's place in half h's order: its own number, and n for h's own radio
abbrev pub place_in_order : Site → ℕ → ℕ → ℕ
place_in_order site h v = cond (eqb v (radio_of h)) site.n v

-- the radios that half h can walk to now and that stand at this place of its order or later
abbrev pub Untried : Site → Marks → ℕ → ℕ → ℕ → Type 0
Untried site marks h place left = (v : ℕ) → member v left ≡ (leb place (place_in_order site h v) && may_walk site marks h (across h v))

-- radio r stands at the first place from this one on that half h can walk to now
pub record NextRadio (plan : Plan) (marks : Marks) (h place r : ℕ) : Type 0 where
  pub found : next_place plan marks h place ≡ place_in_order plan.site h r
  pub below : r < plan.site.n
  pub walks : may_walk plan.site marks h (across h r) ≡ true

-- half h, which has these radios left by rising numbers, tries half y next
pub record NextHalf (left h y : ℕ) : Type 0 where
  pub few : y < 2 * most_radios
  pub across_it : y ≡ across h (radio_of y)
  pub next : (plan : Plan) (marks : Marks) (place : ℕ) → plan.order ≡ rising → h < 2 * plan.site.n → Untried plan.site marks h place left → NextRadio plan marks h place (radio_of y)

-- ---- the marked steps

-- a radio's number; n, where there is none
abbrev pub or_none : Site → Option ℕ → ℕ
or_none site None = site.n
or_none site (Some w) = w

-- the first radio from v on with a marked step from half h to it, if there is one
pub record NextMarked (site : Site) (marks : Marks) (h v : ℕ) (found : Option ℕ) : Type 0 where
  pub next : next_marked site marks h v ≡ or_none site found
  pub a_radio : IfSome found (λ w. w < site.n)

-- ---- what is leant on

-- a step joins two halves, whichever way it leads
abbrev pub Joined : Site → ℕ → ℕ → Type 0
Joined site a b = (step site a b ≡ true) ⊎ (step site b a ≡ true)

-- marks stand on steps only
abbrev pub OnSteps : Site → Marks → Type 0
OnSteps site marks = (a b : ℕ) → marks a b ≡ true → step site a b ≡ true

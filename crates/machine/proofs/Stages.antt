-- What holds where the machine is at a stage, and what the definition says of a half that searches. Assumes nothing.
use mathlib.Core.Path.{◌≡◌, refl, ap, subst}
use mathlib.Core.Bool.{false}
use mathlib.Core.List.{List}
use Prim.Native.Nat.{ℕ, zero, suc, ◌+◌, ◌*◌, ◌≤◌, ◌<◌}
use native.Mathlib.Numerals.{add-one}
use native.Mathlib.Omega.{arith}
use lib.Dec.{eqb}
use lib.ListN.{get_or, set, length}
use lib.Seq.{get_or-set_same, get_or-set_other}
use borrow.Author.Tests.{lt-ltb, le-ltb}
use Rattle.basics.proofs.Counting.{count_most}
use Rattle.site.specs.Limits.{most_radios}
use Rattle.site.specs.Map.{Site, in_half}
use Rattle.tokens.specs.Rules.{Plan, Notes, Waiting, nobody, waits, searching, sends, message, rising, gets, tries, search, inner_step, next_place}
use Rattle.tokens.specs.declared.Kind.TheVariants.{Pdt}
use Rattle.openings.specs.Rows.{across, Untried, NextRadio}
use Rattle.openings.proofs.Walks.{pair, across-radio}
use Rattle.openings.proofs.Order.{placed, candidate-at}
use Rattle.machine.specs.declared.Task.{Task}
use Rattle.machine.specs.declared.Stage.{Stage}
use Rattle.machine.specs.declared.Machine.{Machine}
use Rattle.machine.specs.declared.Board.{Board}
use Rattle.machine.specs.View.{marks_of, entered_of, place_in_order, tried, waiting_of, notes_in, state_in, stack_of, state_of}
use Rattle.machine.specs.Sane.{Joined, DownToS, depth, Under, Sane}
use Rattle.machine.specs.Step.{Made, WhileSeeking, Ready}

-- ---- the halves that wait

depth-of : (site : Site) (halves : List ℕ) (d h : ℕ) → depth (waiting_of site halves d h) ≡ d
depth-of site halves zero h = refl
depth-of site halves (suc d) h = ap suc (depth-of site halves d (get_or halves d 0))

-- a store above those that wait changes nothing
below_set : (site : Site) (halves : List ℕ) (d h i x : ℕ) → d ≤ i → waiting_of site (set halves i x) d h ≡ waiting_of site halves d h
below_set site halves zero h i x l = refl
below_set site halves (suc d) h i x l = rw (get_or-set_other halves i d x 0 (λ e. omega arith), below_set site halves d (get_or halves d 0) i x (omega arith)) refl

pub pushed : (site : Site) (halves : List ℕ) (d h y : ℕ) → d < length halves → waiting_of site (set halves d h) (d + 1) y ≡ waits h (tried site h y) (waiting_of site halves d h)
pushed site halves d h y l = rw (add-one d) (rw (get_or-set_same halves d h 0 l, below_set site halves d h d h (omega arith)) refl)

asked_below : (site : Site) (h : ℕ) (rest : Waiting) → site.S < site.n → DownToS site h rest → h < 2 * site.n
asked_below site h nobody s e = omega arith
asked_below site h (waits asker place rest) s a = (pair site asker h a.0).second

-- ---- the half on top

-- what the code leans on of the half on top
pub record Top (site : Site) (machine : Machine) (halves : List ℕ) : Type 0 where
  pub few : site.n ≤ most_radios
  pub source : site.S < site.n
  pub half : machine.half < 2 * site.n
  pub deep : machine.depth < 2 * most_radios
  pub asker : (below : ℕ) → machine.depth ≡ suc below → Joined site (get_or halves below 0) machine.half

pub on-top : (plan : Plan) (task : Task) (machine : Machine) (links : List ℕ) (board : Board) → Made plan task links
    → Under plan (notes_in plan.site machine board) machine.half (waiting_of plan.site board.halves machine.depth machine.half) → Top plan.site machine board.halves
on-top plan task machine links board made under =
    let site = plan.site in
    let n = made.radios in
    let s = made.source in
    let few : site.n ≤ most_radios = omega (arith, made.fits.few) in
    let source : site.S < site.n = omega (arith, made.fits.source) in
    record {
      few = few;
      source = source;
      half = asked_below site machine.half (waiting_of site board.halves machine.depth machine.half) source under.asked;
      deep = omega (arith, under.room, depth-of site board.halves machine.depth machine.half, count_most (entered_of board.entered) (2 * site.n));
      asker = λ below e. (rw e at under.asked).0;
    }

-- ---- a stage

module _ (site : Site) (place : ℕ) (machine : Machine) (board : Board) where
  -- the state by its stage
  pub in_stage : (stage : Stage) → machine.stage ≡ stage
      → state_of site place machine board ≡ state_in stage machine.half machine.other (notes_in site machine board) (stack_of site place machine board.halves)
  in_stage stage e = ap (λ (s : Stage). state_in s machine.half machine.other (notes_in site machine board) (stack_of site place machine board.halves)) e

module _ {plan : Plan} {place : ℕ} {task : Task} {machine : Machine} {links : List ℕ} {board : Board} (ready : Ready plan place task machine links board) where
  pub sane_in : (stage : Stage) → machine.stage ≡ stage
      → Sane plan (state_in stage machine.half machine.other (notes_in plan.site machine board) (stack_of plan.site place machine board.halves))
  sane_in stage e = subst (Sane plan) (in_stage plan.site place machine board stage e) ready.sane

  pub untried_in : (stage : Stage) → machine.stage ≡ stage → WhileSeeking stage (Untried plan.site (marks_of plan.site board.rows) machine.half place machine.left)
  untried_in stage e = subst (λ (s : Stage). WhileSeeking s (Untried plan.site (marks_of plan.site board.rows) machine.half place machine.left)) e ready.untried

-- ---- the definition, by what half h tries next

pub tried-across : (site : Site) (h v : ℕ) → tried site h (across h v) ≡ suc (place_in_order site h v)
tried-across site h v = ap (λ (r : ℕ). suc (place_in_order site h r)) (across-radio h v)

module _ (plan : Plan) (notes : Notes) (h place : ℕ) (rest : Waiting) (half : h < 2 * plan.site.n) where
  pub asks_next : (r : ℕ) → plan.order ≡ rising → NextRadio plan notes.marks h place r → inner_step plan (searching notes (waits h place rest))
      ≡ sends (message Pdt h (across h r)) (gets (eqb (across h r) (in_half plan.site.T)) (notes.entered (across h r)) (across h r) notes (waits h (tried plan.site h (across h r)) rest))
  unfolding inner_step search tries
  asks_next r order next =
      rw (
        tried-across plan.site h r,
        next.found,
        lt-ltb (place_in_order plan.site h r) (plan.site.n + 1) (omega (arith, (placed plan.site h r half next.below).low)),
        ap (λ (o : ℕ → ℕ). o (place_in_order plan.site h r)) order,
        candidate-at plan.site h r half next.below,
      )
      refl

  pub asks_no_more : plan.site.n < next_place plan notes.marks h place → inner_step plan (searching notes (waits h place rest)) ≡ tries false plan h (next_place plan notes.marks h place) notes rest
  unfolding inner_step search
  asks_no_more past = rw (le-ltb (next_place plan notes.marks h place) (plan.site.n + 1) (omega arith)) refl

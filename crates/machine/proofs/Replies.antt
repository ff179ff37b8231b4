-- What each stage of the step leaves, by what its parts left. Assumes nothing.
use mathlib.Core.Path.{◌≡◌, refl, sym, ap, ap₂, ◌∙◌, subst, subst⁻¹}
use mathlib.Core.Bool.{true, false, not, ◌&&◌, ◌||◌}
use mathlib.Core.List.{List}
use Prim.Native.Nat.{ℕ, suc, ◌+◌, ◌*◌, ◌%◌, ◌≤◌, ◌<◌}
use native.Mathlib.Numerals.{add-one}
use native.Mathlib.Omega.{arith}
use lib.Dec.{eqb}
use lib.ListN.{get_or}
use borrow.Author.Tests.{eq-eqb, ne_eqb, lt-ltb, le-ltb}
use Rattle.radios.specs.Member.{member}
use Rattle.site.specs.Limits.{most_radios}
use Rattle.site.specs.Map.{Site, in_half, out_half}
use Rattle.tokens.specs.Rules.{Plan, Marks, Entered, Notes, Waiting, waits, State, searching, granting, won, sends, message, rising, gets, pass_on, release, carry, tries, reversed, grant, decline, go_on, inner_step, next_place, next_marked}
use Rattle.tokens.specs.declared.Kind.TheVariants.{Pdt, PdtB, Pmt, Done}
use Rattle.tokens.specs.declared.Message.{Message}
use Rattle.tokens.specs.declared.Answer.TheVariants.{Sent, End}
use Rattle.openings.specs.Rows.{across, Open, Joined, Untried, NextRadio}
use Rattle.openings.proofs.Walks.{pair}
use Rattle.openings.proofs.Turns.{on_turned, on_told, marks_told}
use Rattle.openings.proofs.Order.{untried_whole, untried_less, none_left}
use Rattle.machine.specs.declared.Task.{Task}
use Rattle.machine.specs.declared.Stage.{Stage}
use Rattle.machine.specs.declared.Stage.TheVariants.{Searching, Declining, Granting, Won, Carrying}
use Rattle.machine.specs.declared.Machine.{Machine}
use Rattle.machine.specs.declared.Board.{Board}
use Rattle.machine.specs.declared.Stepped.{Stepped}
use Rattle.machine.specs.View.{moved_to, with_left, marks_of, entered_of, tried, waiting_of, notes_in, state_in, stack_of, state_of}
use Rattle.machine.specs.Step.{Fits, TopUntried, Ready, Agrees, Follows, Received}
use Rattle.machine.proofs.Stages.{tried-across, in_stage, sane_in, untried_in, Top, on-top, asks_next, asks_no_more}

-- a message is sent
abbrev pub sent_by : Message → Machine → Stepped
sent_by message machine = record { answer = Sent message; machine = machine }

-- ---- a PDT is received in one of three ways

module _ (site : Site) (machine : Machine) (y : ℕ) (board : Board) where
  abbrev Above : Waiting
  Above = waits machine.half (tried site machine.half y) (waiting_of site board.halves machine.depth machine.half)

  abbrev Noted : Entered → Notes
  Noted now = record { round = machine.round; found = machine.found; marks = marks_of site board.rows; entered = now }

  pub T_receives : (entered' : List ℕ) → y ≡ in_half site.T → entered_of entered' ≡ (λ x. eqb x y || entered_of board.entered x)
      → Received site machine y board (moved_to machine Granting machine.half y machine.left machine.depth) (record { rows = board.rows; entered = entered'; halves = board.halves })
  unfolding gets
  T_receives entered' t e =
      record {
        place = tried site machine.half y;
        same_rows = refl;
        untried = tt;
        state = rw (eq-eqb y (in_half site.T) t) (ap (λ (now : Entered). granting y (Noted now) Above) (sym e));
      }

  pub entered_receives : (y ≡ in_half site.T → ⊥) → entered_of board.entered y ≡ true → Untried site (marks_of site board.rows) machine.half (tried site machine.half y) machine.left
      → Received site machine y board (moved_to machine Declining machine.half y machine.left machine.depth) board
  unfolding gets
  entered_receives t e rest = record { place = tried site machine.half y; same_rows = refl; untried = rest; state = rw (ne_eqb y (in_half site.T) t, e) refl }

  pub new_receives : (next : Machine) (entered' halves' : List ℕ) (other : ℕ) → (y ≡ in_half site.T → ⊥) → entered_of board.entered y ≡ false → entered_of entered' ≡ (λ x. eqb x y || entered_of board.entered x)
      → waiting_of site halves' (machine.depth + 1) y ≡ Above → Open site (marks_of site board.rows) board.rows
      → next ≡ moved_to machine Searching y other (get_or board.rows y 0) (machine.depth + 1) → Received site machine y board next (record { rows = board.rows; entered = entered'; halves = halves' })
  unfolding gets
  new_receives next entered' halves' other t e f w walks m =
      rw m
      (record {
        place = 0;
        same_rows = refl;
        untried = untried_whole site (marks_of site board.rows) y board.rows walks;
        state =
            rw (ne_eqb y (in_half site.T) t, e)
            (ap₂ (λ (now : Entered) (w : Waiting). searching (Noted now) (waits y 0 w)) (sym f) (sym w));
      })

-- ---- DONE

module _ (site : Site) (machine : Machine) (stepped : Stepped) (board : Board) (h v : ℕ) where
  pub passed : (w left : ℕ) → w < site.n → stepped ≡ sent_by (message Done h (2 * w)) (moved_to machine Carrying (2 * w) v left 0)
      → Agrees site (pass_on site h v w (notes_in site machine board)) stepped board
  unfolding pass_on
  passed w left l e = rw e (record { place = 0; untried = tt; answers = rw (lt-ltb w site.n l) refl })

  -- n stands for no radio
  pub not_passed : (place : ℕ) → stepped ≡ record { answer = End; machine = machine } → TopUntried site place machine board.rows → Agrees site (pass_on site h v site.n (notes_in site machine board)) stepped board
  unfolding pass_on
  not_passed place e untried = rw e (record { place = place; untried = untried; answers = rw (le-ltb site.n site.n (omega arith)) refl })

module _ (site : Site) (machine : Machine) (stepped : Stepped) (board : Board) (v w : ℕ) where
  abbrev Sends : ℕ → Type 0
  Sends s = next_marked site (marks_of site board.rows) (out_half s) v ≡ w → Agrees site (pass_on site (out_half s) w w (notes_in site machine board)) stepped board
      → Agrees site (release site v (notes_in site machine board)) stepped board

  S_sends : Sends site.S
  unfolding release
  S_sends is gives = record { place = gives.place; untried = gives.untried; answers = rw is gives.answers }

  pub released : (s : ℕ) → site.S ≡ s → Sends s
  released s e = subst Sends e S_sends

-- ---- a stage

module _ {plan : Plan} {place : ℕ} {task : Task} {machine : Machine} {links : List ℕ} {board : Board} (ready : Ready plan place task machine links board) where
  abbrev Now : Notes
  Now = notes_in plan.site machine board

  abbrev Rest : Waiting
  Rest = waiting_of plan.site board.halves machine.depth machine.half

  abbrev From : Stage → State
  From stage = state_in stage machine.half machine.other Now (stack_of plan.site place machine board.halves)

  abbrev pub LeavesNext : Stepped → Board → Type 0
  LeavesNext stepped board' = Follows plan (state_of plan.site place machine board) stepped board'

  -- what is given from the state at its stage follows
  follows_at : (stage : Stage) → machine.stage ≡ stage → (stepped : Stepped) (board' : Board) → Open plan.site (marks_of plan.site board'.rows) board'.rows
      → Agrees plan.site (inner_step plan (From stage)) stepped board' → LeavesNext stepped board'
  follows_at stage e stepped board' walks gives =
      record {
        walks = walks;
        gives = record { place = gives.place; untried = gives.untried; answers = ap (inner_step plan) (in_stage plan.site place machine board stage e) ∙ gives.answers };
      }

  pub carrying_releases : machine.stage ≡ Carrying → machine.half ≡ 2 * task.t → (stepped : Stepped)
      → Agrees plan.site (release plan.site (machine.other + 1) Now) stepped board → LeavesNext stepped board
  unfolding inner_step carry
  carrying_releases e t stepped gives =
      follows_at Carrying e stepped board ready.walks
      (record {
        place = gives.place;
        untried = gives.untried;
        answers = rw (eq-eqb machine.half (in_half plan.site.T) (t ∙ ap in_half (sym ready.made.sink))) (ap (λ (v : ℕ). release plan.site v Now) (sym (add-one machine.other)) ∙ gives.answers);
      })

  not_T : (machine.half ≡ 2 * task.t → ⊥) → eqb machine.half (in_half plan.site.T) ≡ false
  not_T t = ne_eqb machine.half (in_half plan.site.T) (λ e. t (e ∙ ap in_half ready.made.sink))

  pub carrying_passes : machine.stage ≡ Carrying → (machine.half ≡ 2 * task.t → ⊥) → machine.half % 2 ≡ 1 → (w : ℕ) → next_marked plan.site (marks_of plan.site board.rows) machine.half 0 ≡ w → (stepped : Stepped)
      → Agrees plan.site (pass_on plan.site machine.half machine.other w Now) stepped board → LeavesNext stepped board
  unfolding inner_step carry
  carrying_passes e t out w is stepped gives =
      follows_at Carrying e stepped board ready.walks
      (record { place = gives.place; untried = gives.untried; answers = rw (not_T t, eq-eqb (machine.half % 2) 1 out, is) gives.answers })

  pub carrying_inside : machine.stage ≡ Carrying → (machine.half ≡ 2 * task.t → ⊥) → (machine.half % 2 ≡ 1 → ⊥) → (stepped : Stepped) (next : Machine) (left : ℕ)
      → next ≡ moved_to machine Carrying (machine.half + 1) machine.other left machine.depth → stepped ≡ sent_by (message Done machine.half (machine.half + 1)) next → LeavesNext stepped board
  unfolding inner_step carry
  carrying_inside e t low stepped next left m s =
      follows_at Carrying e stepped board ready.walks
      (rw (s, m) (record { place = 0; untried = tt; answers = rw (not_T t, ne_eqb (machine.half % 2) 1 low) refl }))

  pub declining_replies : machine.stage ≡ Declining → (stepped : Stepped) (next : Machine) (other : ℕ) → next ≡ moved_to machine Searching machine.half other machine.left machine.depth
      → stepped ≡ sent_by (message PdtB machine.other machine.half) next → LeavesNext stepped board
  unfolding inner_step decline
  declining_replies e stepped next other m s =
      follows_at Declining e stepped board ready.walks (rw (s, m) (record { place = place; untried = untried_in ready Declining e; answers = refl }))

  pub last_releases : machine.stage ≡ Won → task.k ≤ machine.found → (stepped : Stepped) → Agrees plan.site (release plan.site 0 Now) stepped board → LeavesNext stepped board
  unfolding inner_step go_on
  last_releases e full stepped gives =
      follows_at Won e stepped board ready.walks
      (record { place = gives.place; untried = gives.untried; answers = rw (le-ltb machine.found plan.k (omega (arith, ready.made.wanted))) gives.answers })

  -- ---- a search

  module _ (e : machine.stage ≡ Searching) where
    pub search_top : Top plan.site machine board.halves
    search_top = on-top plan task machine links board ready.made (sane_in ready Searching e).under

    pub search_untried : Untried plan.site (marks_of plan.site board.rows) machine.half place machine.left
    search_untried = untried_in ready Searching e

    pub searching_asks : (v : ℕ) → NextRadio plan (marks_of plan.site board.rows) machine.half place v → (stepped : Stepped) (y left : ℕ) (there : Machine) (board' : Board) → y ≡ across machine.half v
        → Received plan.site (with_left machine left) y board there board' → stepped ≡ sent_by (message Pdt machine.half y) there → LeavesNext stepped board'
    searching_asks v next stepped y left there board' is received s =
        follows_at Searching e stepped board' (subst⁻¹ (λ (rows : List ℕ). Open plan.site (marks_of plan.site rows) rows) received.same_rows ready.walks)
        (rw s
        (record {
          place = received.place;
          untried = received.untried;
          answers =
              asks_next plan Now machine.half place Rest search_top.half v ready.made.order next
              ∙ rw (← is) (ap (sends (message Pdt machine.half y)) received.state);
        }))

    -- nothing is left to try
    no_more : machine.left ≡ 0 → inner_step plan (From Searching) ≡ tries false plan machine.half (next_place plan (marks_of plan.site board.rows) machine.half place) Now Rest
    no_more none =
        asks_no_more plan Now machine.half place Rest search_top.half
        (none_left plan (marks_of plan.site board.rows) machine.half place ready.made.order search_top.half (subst (Untried plan.site (marks_of plan.site board.rows) machine.half place) none search_untried))

    pub searching_fails : machine.left ≡ 0 → (stepped : Stepped) → machine.depth ≡ 0 → Agrees plan.site (release plan.site 0 Now) stepped board → LeavesNext stepped board
    unfolding tries
    searching_fails none stepped bottom gives =
        follows_at Searching e stepped board ready.walks (record { place = gives.place; untried = gives.untried; answers = no_more none ∙ rw bottom gives.answers })

    pub searching_replies : machine.left ≡ 0 → (stepped : Stepped) (below asker left other : ℕ) (there : Machine) → machine.depth ≡ suc below → asker ≡ get_or board.halves below 0
        → Untried plan.site (marks_of plan.site board.rows) asker (tried plan.site asker machine.half) left → there ≡ moved_to machine Searching asker other left below
        → stepped ≡ sent_by (message PdtB machine.half asker) there → LeavesNext stepped board
    unfolding tries
    searching_replies none stepped below asker left other there deep is rest m s =
        follows_at Searching e stepped board ready.walks
        (rw (s, m) (record { place = tried plan.site asker machine.half; untried = rest; answers = no_more none ∙ rw (deep, is) refl }))

  -- ---- a PMT

  module _ (e : machine.stage ≡ Granting) where
    pub grant_top : Top plan.site machine board.halves
    grant_top = on-top plan task machine links board ready.made (sane_in ready Granting e).0

    pub grant_joined : Joined plan.site machine.half machine.other
    grant_joined = (sane_in ready Granting e).1

    module _ (rows' : List ℕ) (turned : Open plan.site (reversed plan.site machine.half machine.other (marks_of plan.site board.rows)) rows') (stepped : Stepped) where
      marks_are : reversed plan.site machine.half machine.other (marks_of plan.site board.rows) ≡ marks_of plan.site rows'
      marks_are = marks_told plan.site _ rows' (on_turned plan.site machine.half machine.other (marks_of plan.site board.rows) (on_told plan.site board.rows)) turned

      walks' : Open plan.site (marks_of plan.site rows') rows'
      walks' = subst (λ (marks : Marks). Open plan.site marks rows') marks_are turned

      abbrev pub TurnedBoard : Board
      TurnedBoard = record { rows = rows'; entered = board.entered; halves = board.halves }

      abbrev Turned : Marks → ℕ → Notes
      Turned marks found = record { round = machine.round; found = found; marks = marks; entered = entered_of board.entered }

      abbrev OneMore : Machine
      OneMore = record { stage = Won; half = machine.half; other = machine.other; left = machine.left; depth = machine.depth; round = machine.round; found = machine.found + 1 }

      pub granting_wins : machine.depth ≡ 0 → stepped ≡ sent_by (message Pmt machine.other machine.half) OneMore → LeavesNext stepped TurnedBoard
      unfolding inner_step grant
      granting_wins none s =
          follows_at Granting e stepped TurnedBoard walks'
          (rw s
          (record {
            place = 0;
            untried = tt;
            answers =
                rw none
                (ap₂ (λ (marks : Marks) (found : ℕ). sends (message Pmt machine.other machine.half) (won (Turned marks found))) marks_are (sym (add-one machine.found)));
          }))

      pub granting_goes_on : (below asker : ℕ) (there : Machine) → machine.depth ≡ suc below → asker ≡ get_or board.halves below 0
          → there ≡ moved_to machine Granting asker machine.half machine.left below → stepped ≡ sent_by (message Pmt machine.other machine.half) there → LeavesNext stepped TurnedBoard
      unfolding inner_step grant
      granting_goes_on below asker there deep is m s =
          follows_at Granting e stepped TurnedBoard walks'
          (rw (s, m)
          (record {
            place = tried plan.site asker machine.half;
            untried = tt;
            answers =
                rw (deep, is)
                (ap
                (λ (marks : Marks). sends (message Pmt machine.other machine.half) (granting machine.half (Turned marks machine.found) (waits (get_or board.halves below 0) (tried plan.site (get_or board.halves below 0) machine.half) (waiting_of plan.site board.halves below (get_or board.halves below 0)))))
                marks_are);
          }))

-- ---- what the code leans on, at a stage

-- the half that DONE has come to
pub record Carries (task : Task) (machine : Machine) : Type 0 where
  pub fits : Fits task
  pub radio : machine.other < task.n
  pub half : machine.half < 2 * task.n

-- the half that owes PMT and the one that it owes it to
pub record Grants (machine : Machine) (halves : List ℕ) : Type 0 where
  pub half : machine.half < 2 * most_radios
  pub other : machine.other < 2 * most_radios
  pub deep : machine.depth < 2 * most_radios
  pub asker : (below : ℕ) → machine.depth ≡ suc below → get_or halves below 0 < 2 * most_radios

-- the half that searches
pub record Searches (task : Task) (machine : Machine) (halves : List ℕ) : Type 0 where
  pub fits : Fits task
  pub half : machine.half < 2 * task.n
  pub deep : machine.depth < 2 * most_radios
  pub asker : (below : ℕ) → machine.depth ≡ suc below → get_or halves below 0 < 2 * most_radios

module _ {plan : Plan} {place : ℕ} {task : Task} {machine : Machine} {links : List ℕ} {board : Board} (ready : Ready plan place task machine links board) where
  pub carries : machine.stage ≡ Carrying → Carries task machine
  carries e =
      let sane = sane_in ready Carrying e in
      let n = ready.made.radios in
      record { fits = ready.made.fits; radio = omega (arith, sane.1); half = omega (arith, sane.2) }

  -- who asked the half on top is a half
  asker_half : Top plan.site machine board.halves → (below : ℕ) → machine.depth ≡ suc below → get_or board.halves below 0 < 2 * most_radios
  asker_half top below d = omega (arith, top.few, (pair plan.site (get_or board.halves below 0) machine.half (top.asker below d)).first)

  pub grants : machine.stage ≡ Granting → Grants machine board.halves
  grants e =
      let top = grant_top ready e in
      let two = pair plan.site machine.half machine.other (grant_joined ready e) in
      record { half = omega (arith, top.few, top.half); other = omega (arith, top.few, two.second); deep = top.deep; asker = asker_half top }

  pub few_found : machine.stage ≡ Granting → machine.found < task.k
  few_found e = let k = ready.made.wanted in omega (arith, (sane_in ready Granting e).0.fewer)

  pub searches : machine.stage ≡ Searching → Searches task machine board.halves
  searches e =
      let top = search_top ready e in
      let n = ready.made.radios in
      record {
        fits = ready.made.fits;
        half = omega (arith, top.half);
        deep = top.deep;
        asker = asker_half top;
      }

-- what the half on top has left once it has asked radio v
pub untried_once_asked : (plan : Plan) (marks : Marks) (h place v left y left' : ℕ) → plan.order ≡ rising → h < 2 * plan.site.n → Untried plan.site marks h place left → NextRadio plan marks h place v → y ≡ across h v
    → ((j : ℕ) → member j left' ≡ (not (eqb j v) && member j left)) → Untried plan.site marks h (tried plan.site h y) left'
untried_once_asked plan marks h place v left y left' order half all next is less =
    rw (is, tried-across plan.site h v) (untried_less plan marks h place left order half all v left' next less)

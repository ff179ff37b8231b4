-- PDTs in vain: each is two inner steps, a PDT and the PDT_B that answers it. Assumes nothing.
use mathlib.Core.Path.{◌≡◌, refl, sym, ap, ◌∙◌, subst}
use mathlib.Core.Bool.{Bool, true, false, not, ◌&&◌, ◌||◌, and-false, or-false, false≢true}
use mathlib.Core.List.{List}
use Prim.Native.Nat.{ℕ, ◌+◌, ◌*◌, ◌≤◌, ◌<◌}
use native.Mathlib.Decide.{ℕ_discrete, dec_lt}
use native.Mathlib.Omega.{arith}
use lib.Bits.{bit_or}
use lib.Dec.{eqb}
use lib.ListN.{length}
use borrow.Author.Tests.{eq-eqb, ne_eqb}
use Rattle.basics.specs.Counting.{First}
use Rattle.basics.proofs.Bools.{clash}
use Rattle.radios.specs.Member.{member}
use Rattle.radios.proofs.Laws.{member-or}
use Rattle.site.specs.Limits.{most_radios}
use Rattle.site.specs.Map.{in_half, out_half, radio_of}
use Rattle.tokens.specs.Rules.{Plan, Notes, message}
use Rattle.tokens.specs.Run.{notes_of}
use Rattle.tokens.specs.declared.Kind.TheVariants.{Pdt, PdtB}
use Rattle.tokens.specs.declared.Message.{Message}
use Rattle.message_log.specs.Bytes.{RoomFor}
use Rattle.message_log.specs.Put.{Appends}
use Rattle.openings.specs.Rows.{across}
use Rattle.openings.proofs.Walks.{from_out}
use Rattle.openings.proofs.Order.{next_other}
use Rattle.machine.specs.declared.Task.{Task}
use Rattle.machine.specs.declared.Stage.{Stage}
use Rattle.machine.specs.declared.Stage.TheVariants.{Searching, Declining, Granting, Won, Carrying}
use Rattle.machine.specs.declared.Machine.{Machine}
use Rattle.machine.specs.declared.Board.{Board}
use Rattle.machine.specs.View.{moved_to, with_left, entered_of, marks_of, state_of}
use Rattle.machine.specs.Step.{WhileSeeking, Steps}
use Rattle.machine.proofs.Stages.{sane_in}
use Rattle.machine.proofs.Replies.{sent_by, entered_receives, untried_once_asked, search_top, search_untried, searching_asks, declining_replies}
use Rattle.running.specs.Progress.{Beginning, Begun, Partly, Onward}
use Rattle.running.specs.Run.{Asks}
use Rattle.running.proofs.Progress.{partly_length, partly_more, notes-in}
use Rattle.running.proofs.Sane.{sane_rounds}

-- ---- the set that is left counts by its members alone

abbrev SameMembers : ℕ → ℕ → Type 0
SameMembers x y = (j : ℕ) → member j x ≡ member j y

untried_same : (stage : Stage) {P : Type 0} {R : Type 0} → (P → R) → WhileSeeking stage P → WhileSeeking stage R
untried_same Searching f w = f w
untried_same Declining f w = f w
untried_same Granting f w = tt
untried_same Won f w = tt
untried_same Carrying f w = tt

partly_same : {task : Task} {budget : ℕ} {links : List ℕ} {begin : Beginning} {bytes : List ℕ} {board : Board} {sent : ℕ} (machine : Machine) (x y : ℕ) → SameMembers x y
    → Partly task budget links begin bytes (with_left machine x) board sent → Partly task budget links begin bytes (with_left machine y) board sent
partly_same machine x y same partly = record {
  log = partly.log;
  number = partly.number;
  within = partly.within;
  filled = partly.filled;
  way = λ plan begun.
      let way = partly.way plan begun in
      record {
        place = way.place;
        ready = record { made = way.ready.made; walks = way.ready.walks; untried = untried_same machine.stage (λ all v. sym (same v) ∙ all v) way.ready.untried; sane = way.ready.sane };
        so_far = way.so_far;
      };
}

module _ (task : Task) (budget : ℕ) (board : Board) (bytes : List ℕ) (machine : Machine) (sent : ℕ) where
  -- nothing is sent
  pub onward_none : (left : ℕ) → SameMembers machine.left left → sent < budget → Onward task budget board bytes machine sent bytes (with_left machine left) sent
  onward_none left same p = record { within = p; rises = omega arith; same_length = refl; further = λ links begin room partly. partly_same machine machine.left left same partly }

  pub onward_same : (now : List ℕ) (at left left' : ℕ) → SameMembers left left' → Onward task budget board bytes machine sent now (with_left machine left) at → Onward task budget board bytes machine sent now (with_left machine left') at
  onward_same now at left left' same onward = record {
    within = onward.within;
    rises = onward.rises;
    same_length = onward.same_length;
    further = λ links begin room partly. partly_same machine left left' same (onward.further links begin room partly);
  }

  -- the out half of radio u on top, which has the others and its own half left, asks radio v, the first of the others, whose in half was entered before
  module _ (searching : machine.stage ≡ Searching) (u own others v others' : ℕ) (is-u : machine.half ≡ out_half u) (not_u : member u others ≡ false) (only-u : (j : ℕ) → (j ≡ u → ⊥) → member j own ≡ false)
      (first : First (λ j. member j others) 0 64 v) (fits : v < 64) (came : entered_of board.entered (in_half v) ≡ true) (less : (j : ℕ) → member j others' ≡ (not (eqb j v) && member j others)) where
    abbrev Before : ℕ
    Before = bit_or others own

    abbrev After : ℕ
    After = bit_or others' own

    abbrev Declined : Machine
    Declined = moved_to machine Declining machine.half (in_half v) After machine.depth

    v_other : v ≡ u → ⊥
    v_other e = clash (first.found fits) (ap (λ (j : ℕ). member j others) e ∙ not_u)

    radio : radio_of machine.half ≡ u
    radio = omega (arith, is-u)

    -- the others are what is left but for its own half
    is_others : (j : ℕ) → member j others ≡ (not (eqb j (radio_of machine.half)) && member j Before)
    is_others j = pick (ℕ_discrete j u)
      where
        pick : Dec (j ≡ u) → member j others ≡ (not (eqb j (radio_of machine.half)) && member j Before)
        pick (yes e) = ap (λ (i : ℕ). member i others) e ∙ not_u ∙ rw (radio, eq-eqb j u e) refl
        pick (no ne) = rw (radio, ne_eqb j u ne, member-or j others own, only-u j ne, or-false) refl

    -- v has gone from what is left, and nothing else
    gone : (j : ℕ) → member j After ≡ (not (eqb j v) && member j Before)
    gone j = rw (member-or j others' own, member-or j others own, less j) (pick (ℕ_discrete j v))
      where
        pick : Dec (j ≡ v) → ((not (eqb j v) && member j others) || member j own) ≡ (not (eqb j v) && (member j others || member j own))
        pick (yes e) = rw (eq-eqb j v e, only-u j (λ d. v_other (sym e ∙ d))) refl
        pick (no ne) = rw (ne_eqb j v ne) refl

    asks : (links : List ℕ) → Steps task (with_left machine Before) links board (sent_by (message Pdt machine.half (in_half v)) Declined) board
    asks links plan place ready =
        let top = search_top ready searching in
        let all = search_untried ready searching in
        let next = next_other plan (marks_of plan.site board.rows) machine.half place Before ready.made.order top.half all others is_others v first fits in
        let is : in_half v ≡ across machine.half v = sym (from_out u v) ∙ ap (λ (h : ℕ). across h v) (sym is-u) in
        let not_T : in_half v ≡ in_half plan.site.T → ⊥ = λ e. clash came (ap (entered_of board.entered) e ∙ (sane_in ready Searching searching).T_new) in
        searching_asks ready searching v next (sent_by (message Pdt machine.half (in_half v)) Declined) (in_half v) After Declined board is
        (entered_receives plan.site (with_left machine After) (in_half v) board not_T came
        (untried_once_asked plan (marks_of plan.site board.rows) machine.half place v Before (in_half v) After ready.made.order top.half all next is gone))
        refl

    -- the machine that searches on, whatever its stage is called
    on : moved_to machine Searching machine.half machine.other After machine.depth ≡ with_left machine After
    on = ap (λ (s : Stage). moved_to machine s machine.half machine.other After machine.depth) (sym searching)

    replies : (links : List ℕ) → Steps task Declined links board (sent_by (message PdtB (in_half v) machine.half) (with_left machine After)) board
    replies links plan place ready =
        declining_replies ready refl (sent_by (message PdtB (in_half v) machine.half) (with_left machine After)) (with_left machine After) machine.other (sym on) refl

    pub onward_two : (now mid now' : List ℕ) (token back : Message) (at : ℕ) → Onward task budget board bytes machine sent now (with_left machine Before) at → at + 2 < budget
        → token ≡ message Pdt machine.half (in_half v) → Appends at (record { message = token; round = machine.round }) now mid
        → back ≡ message PdtB (in_half v) machine.half → Appends (at + 1) (record { message = back; round = machine.round }) mid now'
        → Onward task budget board bytes machine sent now' (with_left machine After) (at + 2)
    onward_two now mid now' token back at onward room is-token first-put is-back second-put =
        record {
          within = room;
          rises = omega (arith, onward.rises);
          same_length = second-put.same_length ∙ first-put.same_length ∙ onward.same_length;
          further = λ links begin long partly.
              let once = partly_more (onward.further links begin long partly) long _ board (asks links) (message Pdt machine.half (in_half v)) mid (omega arith) refl
              (subst (λ (m : Message). Appends at (record { message = m; round = machine.round }) now mid) is-token first-put) in
              let twice = partly_more once long _ board (replies links) (message PdtB (in_half v) machine.half) now' (omega arith) refl
              (subst (λ (m : Message). Appends (at + 1) (record { message = m; round = machine.round }) mid now') is-back second-put) in
              let two : at + 1 + 1 ≡ at + 2 = omega arith in
              subst (λ (n : ℕ). Partly task budget links begin now' (with_left machine After) board n) two twice;
        }

-- ---- the loop

-- the out half of radio u has asked so far, and these others are left; those that it asked come before them
pub record Asking (budget : ℕ) (board : Board) (bytes : List ℕ) (machine : Machine) (sent u own : ℕ) (now : List ℕ) (others at : ℕ) : Type 0 where
  pub onward : (task : Task) → Onward task budget board bytes machine sent now (with_left machine (bit_or others own)) at
  pub same_length : length now ≡ length bytes
  pub not_u : member u others ≡ false
  pub room : (j : ℕ) → member j others ≡ true → at ≤ sent + 2 * j
  pub most : at ≤ sent + 2 * most_radios

module _ (budget : ℕ) (board : Board) (bytes : List ℕ) (machine : Machine) (sent u own : ℕ) (searching : machine.stage ≡ Searching) (is-u : machine.half ≡ out_half u) (only-u : (j : ℕ) → (j ≡ u → ⊥) → member j own ≡ false)
    (long : sent + 2 * most_radios < budget) where
  pub asking_more : (now mid now' : List ℕ) (token back : Message) (others at v others' : ℕ) → Asking budget board bytes machine sent u own now others at → First (λ j. member j others) 0 64 v → v < 64
      → entered_of board.entered (in_half v) ≡ true → ((j : ℕ) → member j others' ≡ (not (eqb j v) && member j others))
      → token ≡ message Pdt machine.half (in_half v) → Appends at (record { message = token; round = machine.round }) now mid
      → back ≡ message PdtB (in_half v) machine.half → Appends (at + 1) (record { message = back; round = machine.round }) mid now' → Asking budget board bytes machine sent u own now' others' (at + 2)
  asking_more now mid now' token back others at v others' asking first fits came less is-token first-put is-back second-put =
      record {
        onward = λ task.
            onward_two task budget board bytes machine sent searching u own others v others' is-u asking.not_u only-u first fits came less now mid now' token back at (asking.onward task) (omega (arith, here)) is-token first-put is-back second-put;
        same_length = second-put.same_length ∙ first-put.same_length ∙ asking.same_length;
        not_u = less u ∙ rw (asking.not_u, and-false) refl;
        room = λ j e. omega (arith, here, later j e);
        most = omega (arith, here);
      }
    where
      here : at ≤ sent + 2 * v
      here = asking.room v (first.found fits)

      -- those that are left come after v
      later : (j : ℕ) → member j others' ≡ true → v < j
      later j e = pick (ℕ_discrete j v) (dec_lt j v)
        where
          left : (not (eqb j v) && member j others) ≡ true
          left = sym (less j) ∙ e

          pick : Dec (j ≡ v) → Dec (j < v) → v < j
          pick (yes d) l = absurd (false≢true (sym (rw (eq-eqb j v d) refl) ∙ left))
          pick (no d) (yes l) = clash (rw (ne_eqb j v d) at left) (first.before j (omega arith) l)
          pick (no d) (no l) = omega arith

-- ---- what is left, in two parts

-- the others and its own half
module _ (u left others own : ℕ) (are-others : (j : ℕ) → member j others ≡ (not (eqb j u) && member j left)) (is-own : (j : ℕ) → member j own ≡ (member j left && not (member j others))) where
  pub own_not_other : member u others ≡ false
  own_not_other = are-others u ∙ rw (eq-eqb u u refl) refl

  pub own_alone : (j : ℕ) → (j ≡ u → ⊥) → member j own ≡ false
  own_alone j ne = is-own j ∙ rw (are-others j, ne_eqb j u ne) (go (member j left))
    where
      go : (b : Bool) → (b && not b) ≡ false
      go true = refl
      go false = refl

  pub both_parts : (j : ℕ) → member j left ≡ member j (bit_or others own)
  both_parts j = rw (member-or j others own, is-own j, are-others j) (go (not (eqb j u)) (member j left))
    where
      go : (x b : Bool) → b ≡ ((x && b) || (b && not (x && b)))
      go true true = refl
      go true false = refl
      go false true = refl
      go false false = refl

-- ---- room in the log

-- what the PDTs in vain lean on
pub asks_ready : {task : Task} {budget : ℕ} {links : List ℕ} {begin : Beginning} {bytes : List ℕ} {machine : Machine} {board : Board} {sent : ℕ} → Partly task budget links begin bytes machine board sent
    → RoomFor budget begin.log → sent < budget → (plan : Plan) → Begun plan task links begin → Asks machine budget sent bytes
asks_ready {machine = machine} {board} partly room p plan begun =
    let way = partly.way plan begun in
    let made = way.ready.made in
    let round : (notes_of (state_of plan.site way.place machine board)).round ≡ machine.round = ap (λ (notes : Notes). notes.round) (notes-in machine.stage _ _ _ _) in
    record {
      half = λ e. let top = search_top way.ready e in omega (arith, top.few, top.half);
      round = omega (arith, sane_rounds plan (state_of plan.site way.place machine board) way.ready.sane, made.wanted, made.fits.few_wanted);
      within = p;
      room = omega (arith, partly_length partly room);
    }

-- How far a run has come: one message more, and what comes after it. Assumes nothing.
use mathlib.Core.Path.{◌≡◌, refl, sym, ap, ◌∙◌}
use mathlib.Core.Bool.{false}
use mathlib.Core.List.{List, [], ◌∷◌, ◌++◌, append_assoc, append-nil}
use Prim.Native.Nat.{ℕ, zero, suc, ◌+◌, ◌-◌, ◌<◌}
use native.Mathlib.Nat.{sub-zero}
use native.Mathlib.Omega.{arith}
use lib.ListN.{length, length-append}
use Rattle.site.specs.Map.{Site}
use Rattle.tokens.specs.declared.Message.{Message}
use Rattle.tokens.specs.declared.Answer.{Answer}
use Rattle.tokens.specs.declared.Answer.TheVariants.{Sent, End}
use Rattle.tokens.specs.Rules.{Plan, Notes, Waiting, State, won, sends, over, inner_step}
use Rattle.tokens.specs.Run.{Entry, notes_of, logged, run_on, run_from}
use Rattle.message_log.specs.Bytes.{RoomFor, log_bytes}
use Rattle.message_log.specs.Put.{Writable, Appends}
use Rattle.message_log.proofs.Bytes.{filled_length}
use Rattle.machine.specs.declared.Task.{Task}
use Rattle.machine.specs.declared.Stage.{Stage}
use Rattle.machine.specs.declared.Stage.TheVariants.{Searching, Declining, Granting, Won, Carrying}
use Rattle.machine.specs.declared.Machine.{Machine}
use Rattle.machine.specs.declared.Board.{Board}
use Rattle.machine.specs.declared.Stepped.{Stepped}
use Rattle.machine.specs.View.{entered_of, is_won, notes_in, state_in, state_of, next_of}
use Rattle.machine.specs.Step.{Follows, Steps}
use Rattle.machine.proofs.Stages.{in_stage}
use Rattle.running.specs.Run.{Leaves}
use Rattle.running.specs.Progress.{Beginning, Begun, whole_run, Partly}
use Rattle.running.proofs.Sane.{Sound, sound_step, sane_rounds}

-- ---- the run

pub run_spent : (plan : Plan) (budget : ℕ) (state : State) → budget ≡ 0 → run_from plan budget state ≡ record { log = []; last = state }
unfolding run_on
run_spent plan budget state e = rw e

pub run_over : (plan : Plan) (budget : ℕ) (state : State) → inner_step plan state ≡ over → run_from plan budget state ≡ record { log = []; last = state }
unfolding run_on
run_over plan zero state e = refl
run_over plan (suc budget) state e = rw e

run_sends : (plan : Plan) (budget : ℕ) (state : State) (message : Message) (next : State) → inner_step plan state ≡ sends message next → run_from plan (suc budget) state ≡ logged message next (run_from plan budget next)
unfolding run_on
run_sends plan budget state message next e = rw e

-- ---- how far the run has come

-- nothing is sent yet
pub partly_none : (task : Task) (budget : ℕ) (links : List ℕ) (begin : Beginning) → Partly task budget links begin begin.log begin.machine begin.board 0
unfolding log_bytes
partly_none task budget links begin = record {
  log = [];
  number = refl;
  within = omega arith;
  filled = refl;
  way = λ plan ready. record { place = 0; ready = ready; so_far = rw sub-zero };
}

-- the notes of a state are the machine's own
pub notes-in : (stage : Stage) (half other : ℕ) (notes : Notes) (waiting : Waiting) → notes_of (state_in stage half other notes waiting) ≡ notes
notes-in Searching half other notes waiting = refl
notes-in Declining half other notes waiting = refl
notes-in Granting half other notes waiting = refl
notes-in Won half other notes waiting = refl
notes-in Carrying half other notes waiting = refl

-- a machine whose state is not won is at no won stage
pub not_won : (site : Site) (place : ℕ) (machine : Machine) (board : Board) → ((notes : Notes) → state_of site place machine board ≡ won notes → ⊥) → is_won machine.stage ≡ false
not_won site place machine board other = go machine.stage refl
  where
    go : (stage : Stage) → machine.stage ≡ stage → is_won stage ≡ false
    go Searching e = refl
    go Declining e = refl
    go Granting e = refl
    go Won e = absurd (other _ (in_stage site place machine board Won e))
    go Carrying e = refl

module _ {task : Task} {budget : ℕ} {links : List ℕ} {begin : Beginning} {bytes : List ℕ} {machine : Machine} {board : Board} {sent : ℕ}
    (partly : Partly task budget links begin bytes machine board sent) (room : RoomFor budget begin.log) where
  abbrev StateOf : (plan : Plan) → Begun plan task links begin → State
  StateOf plan begun = state_of plan.site (partly.way plan begun).place machine board

  -- the log keeps its length
  pub partly_length : length bytes ≡ length begin.log
  partly_length = filled_length partly.log begin.log bytes (omega (arith, partly.number, partly.within)) partly.filled

  module _ (stepped : Stepped) (board' : Board) (steps : Steps task machine links board stepped board') where
    pub follows : (plan : Plan) (begun : Begun plan task links begin) → Follows plan (StateOf plan begun) stepped board'
    follows plan begun = let way = partly.way plan begun in steps plan way.place way.ready

    abbrev NextState : (plan : Plan) → Begun plan task links begin → State
    NextState plan begun = state_of plan.site (follows plan begun).gives.place stepped.machine board'

    pub step_sends : (message : Message) → stepped.answer ≡ Sent message → (plan : Plan) (begun : Begun plan task links begin) → inner_step plan (StateOf plan begun) ≡ sends message (NextState plan begun)
    step_sends message e plan begun = (follows plan begun).gives.answers ∙ ap (λ (answer : Answer). next_of answer (NextState plan begun)) e

    pub step_over : stepped.answer ≡ End → (plan : Plan) (begun : Begun plan task links begin) → inner_step plan (StateOf plan begun) ≡ over
    step_over e plan begun = (follows plan begun).gives.answers ∙ ap (λ (answer : Answer). next_of answer (NextState plan begun)) e

    sound : (message : Message) → stepped.answer ≡ Sent message → (plan : Plan) (begun : Begun plan task links begin) → Sound plan message (NextState plan begun)
    sound message e plan begun =
        let ready = (partly.way plan begun).ready in
        sound_step plan (omega (arith, ready.made.radios, ready.made.source, ready.made.fits.source)) _ message _ ready.sane (step_sends message e plan begun)

    round_is : (plan : Plan) (begun : Begun plan task links begin) → (notes_of (NextState plan begun)).round ≡ stepped.machine.round
    round_is plan begun = ap (λ (notes : Notes). notes.round) (notes-in stepped.machine.stage _ _ _ _)

    -- the next message can be written
    pub partly_writable : sent < budget → (message : Message) → stepped.answer ≡ Sent message → (plan : Plan) → Begun plan task links begin → Writable bytes sent message stepped.machine.round
    partly_writable p message e plan begun =
        let made = (partly.way plan begun).ready.made in
        let s = sound message e plan begun in
        let r = round_is plan begun in
        record {
          room = omega (arith, partly_length);
          round_fits = omega (arith, sane_rounds plan (NextState plan begun) s.sane, made.wanted, made.fits.few_wanted);
          from_fits = omega (arith, s.from_below, made.radios, made.fits.few);
          to_fits = omega (arith, s.to_below, made.radios, made.fits.few);
        }

    -- one message more is sent and written
    pub partly_more : (message : Message) (bytes' : List ℕ) → sent < budget → stepped.answer ≡ Sent message → Appends sent (record { message = message; round = stepped.machine.round }) bytes bytes'
        → Partly task budget links begin bytes' stepped.machine board' (sent + 1)
    partly_more message bytes' p e appends = record {
      log = partly.log ++ (entry ∷ []);
      number = omega (arith, length-append partly.log (entry ∷ []), partly.number);
      within = omega arith;
      filled = appends.filled partly.log begin.log partly.number partly.filled;
      way = λ plan begun.
          let way = partly.way plan begun in
          record {
            place = (follows plan begun).gives.place;
            ready = record { made = way.ready.made; walks = (follows plan begun).walks; untried = (follows plan begun).gives.untried; sane = (sound message e plan begun).sane };
            so_far = way.so_far ∙ rw (left, run_sends plan (budget - (sent + 1)) _ message _ (step_sends message e plan begun), round_is plan begun, append_assoc);
          };
    }
      where
        entry : Entry
        entry = record { message = message; round = stepped.machine.round }

        left : budget - sent ≡ suc (budget - (sent + 1))
        left = omega arith

  -- the run goes no further: what is sent is the whole of it, and the machine has its numbers
  pub machine_leaves : (after : List ℕ) (plan : Plan) (begun : Begun plan task links begin) → (((notes : Notes) → StateOf plan begun ≡ won notes → ⊥) → entered_of after ≡ entered_of board.entered)
      → run_from plan (budget - sent) (StateOf plan begun) ≡ record { log = []; last = StateOf plan begun }
      → Leaves (whole_run plan budget begin) (record { rounds = machine.round; found = machine.found; messages = sent }) after begin.log bytes
  machine_leaves after plan begun last e =
      let same : notes_of (StateOf plan begun) ≡ notes_in plan.site machine board = notes-in machine.stage _ _ _ _ in
      let whole : whole_run plan budget begin ≡ record { log = partly.log; last = StateOf plan begun } = (partly.way plan begun).so_far ∙ rw (e, append-nil) in
      rw whole
      (record {
        messages = sym partly.number;
        rounds = sym (ap (λ (notes : Notes). notes.round) same);
        found = sym (ap (λ (notes : Notes). notes.found) same);
        filled = partly.filled;
        entered_last = λ not_won. last not_won ∙ sym (ap (λ (notes : Notes). notes.entered) same);
      })

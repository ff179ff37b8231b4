-- The rows and bytes that a run begins with stand for the start of the token rules. Assumes nothing.
use mathlib.Core.Path.{◌≡◌, sym, ap, ap₂, ◌∙◌, subst, subst⁻¹}
use mathlib.Core.Bool.{true, false≢true}
use mathlib.Core.List.{List}
use Prim.Native.Nat.{ℕ, ◌+◌, ◌*◌}
use native.Mathlib.Omega.{arith}
use lib.Dec.{eqb}
use borrow.Author.Tests.{lt-ltb}
use Rattle.site.specs.Map.{Site, out_half, step}
use Rattle.tokens.specs.Rules.{Plan, Marks, Entered, Notes, State, searching, waits, nobody, unmarked, start}
use Rattle.tokens.specs.Run.{run_from}
use Rattle.openings.specs.Rows.{Open}
use Rattle.radios.specs.Links.{RowsOfLinks, Passing}
use Rattle.openings.proofs.Turns.{marks_told}
use Rattle.openings.proofs.Order.{untried_whole}
use Rattle.machine.specs.declared.Task.{Task}
use Rattle.machine.specs.declared.Machine.{Machine}
use Rattle.machine.specs.declared.Board.{Board}
use Rattle.machine.specs.View.{beginning_at, marks_of, entered_of, state_of}
use Rattle.machine.specs.Sane.{Sane}
use Rattle.machine.specs.Step.{Ready}
use Rattle.running.specs.declared.Ran.{Ran}
use Rattle.running.specs.Run.{Leaves, Fresh}
use Rattle.running.proofs.Sane.{sane_start}

-- the rows are filled, and S's out half alone is entered
module _ (task : Task) (links : List ℕ) (board : Board)
    (filled : (site : Site) → site.n ≡ task.n → site.S ≡ task.s → site.T ≡ task.t → Passing site task.passing → RowsOfLinks site.table site.n links → Open site unmarked board.rows) (only-S : entered_of board.entered ≡ (λ x. eqb x (2 * task.s + 1))) where
  abbrev Begin : Machine
  Begin = beginning_at (2 * task.s + 1) board.rows 1 0

  abbrev Noted : ℕ → Marks → Entered → Notes
  Noted found marks now = record { round = 1; found = found; marks = marks; entered = now }

  module _ (plan : Plan) (fresh : Fresh plan task links) where
    walks : Open plan.site unmarked board.rows
    walks = filled plan.site fresh.made.radios fresh.made.source fresh.made.sink fresh.made.passing fresh.made.linked

    no_marks : unmarked ≡ marks_of plan.site board.rows
    no_marks = marks_told plan.site unmarked board.rows (λ a b e. absurd (false≢true e)) walks

    at_start : start plan ≡ state_of plan.site 0 Begin board
    unfolding start
    at_start =
        let h = 2 * task.s + 1 in
        rw (lt-ltb plan.kept plan.k (omega (arith, fresh.none_kept, fresh.wanted)))
        (ap (λ (x : ℕ). searching (Noted plan.kept plan.marks (λ y. eqb y x)) (waits x 0 nobody)) (ap out_half fresh.made.source)
        ∙ ap (λ (found : ℕ). searching (Noted found plan.marks (λ y. eqb y h)) (waits h 0 nobody)) fresh.none_kept
        ∙ ap₂ (λ (marks : Marks) (now : Entered). searching (Noted 0 marks now) (waits h 0 nobody)) (fresh.none_marked ∙ no_marks) (sym only-S))

    on_steps : (a b : ℕ) → plan.marks a b ≡ true → step plan.site a b ≡ true
    on_steps a b e = absurd (false≢true (sym (ap (λ (marks : Marks). marks a b) fresh.none_marked) ∙ e))

    ready : Ready plan 0 task Begin links board
    ready =
        let marked = subst (λ (marks : Marks). Open plan.site marks board.rows) no_marks walks in
        record {
          made = fresh.made;
          walks = marked;
          untried = untried_whole plan.site (marks_of plan.site board.rows) (2 * task.s + 1) board.rows marked;
          sane = subst (Sane plan) at_start (sane_start plan (omega (arith, fresh.made.radios, fresh.made.source, fresh.made.fits.source)) on_steps (omega (arith, fresh.none_kept, fresh.wanted)));
        }

    module _ (begin : Machine) (begins : begin ≡ Begin) where
      pub begin_ready : Ready plan 0 task begin links board
      begin_ready = subst⁻¹ (λ (machine : Machine). Ready plan 0 task machine links board) begins ready

      -- so the run from there is the whole run
      pub begin_leaves : (budget : ℕ) (ran : Ran) (after before bytes : List ℕ) → Leaves (run_from plan budget (state_of plan.site 0 begin board)) ran after before bytes
          → Leaves (run_from plan budget (start plan)) ran after before bytes
      begin_leaves budget ran after before bytes leaves =
          subst⁻¹ (λ (state : State). Leaves (run_from plan budget state) ran after before bytes) (at_start ∙ ap (λ (machine : Machine). state_of plan.site 0 machine board) (sym begins)) leaves

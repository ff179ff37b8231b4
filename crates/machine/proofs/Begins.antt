-- The next round begins where one is due. Assumes nothing.
use mathlib.Core.Path.{◌≡◌, refl, sym, ap, ap₂, ◌∙◌, subst}
use mathlib.Core.Bool.{false≢true}
use mathlib.Core.List.{List}
use Prim.Native.Nat.{ℕ, suc, ◌+◌, ◌*◌, ◌<◌}
use native.Mathlib.Numerals.{add-one}
use native.Mathlib.Omega.{arith}
use lib.Dec.{eqb}
use borrow.Author.Tests.{eq-eqb, ne_eqb, eqb-true, lt-ltb}
use Rattle.basics.proofs.Counting.{some_counts}
use Rattle.site.specs.Map.{Site, in_half, out_half}
use Rattle.tokens.specs.Rules.{Plan, Entered, Notes, nobody, waits, searching, only_s, begun, just_s, go_on, inner_step}
use Rattle.openings.proofs.Order.{untried_whole}
use Rattle.machine.specs.declared.Task.{Task}
use Rattle.machine.specs.declared.Stage.TheVariants.{Won}
use Rattle.machine.specs.declared.Machine.{Machine}
use Rattle.machine.specs.declared.Board.{Board}
use Rattle.machine.specs.declared.Stepped.{Stepped}
use Rattle.machine.specs.View.{beginning_at, marks_of, entered_of, notes_in, is_won, state_of}
use Rattle.machine.specs.Sane.{Sane}
use Rattle.machine.specs.Step.{Made, Ready, Steps, Rounds}
use Rattle.machine.proofs.Stages.{in_stage, sane_in}

module _ (task : Task) (machine : Machine) (links : List ℕ) (board : Board) where
  abbrev Begun : Machine
  Begun = beginning_at (out_half task.s) board.rows (machine.round + 1) machine.found

  abbrev Noted : Site → ℕ → Entered → Notes
  Noted site round now = record { round = round; found = machine.found; marks = marks_of site board.rows; entered = now }

  abbrev BegunBoard : List ℕ → Board
  BegunBoard entered' = record { rows = board.rows; entered = entered'; halves = board.halves }

  pub round_begins : (entered' : List ℕ) → machine.stage ≡ Won → machine.found < task.k → entered_of entered' ≡ (λ x. eqb x (out_half task.s)) → Rounds task machine links board Begun (BegunBoard entered')
  unfolding inner_step go_on
  round_begins entered' is-won more e =
      record {
        continues = λ plan place ready. record {
          from = 0;
          ready = record {
            made = ready.made;
            walks = ready.walks;
            untried = untried_whole plan.site (marks_of plan.site board.rows) (out_half task.s) board.rows ready.walks;
            sane = subst (Sane plan) (is_begun plan ready.made) (begun_sane plan place ready);
          };
          same =
              ap (inner_step plan) (in_stage plan.site place machine board Won is-won)
              ∙ rw (lt-ltb machine.found plan.k (omega (arith, ready.made.wanted))) (ap (inner_step plan) (is_begun plan ready.made));
        };
        full = λ d. absurd (false≢true (ap is_won d));
        still = λ d. absurd (false≢true (sym d ∙ ap is_won is-won));
        same_rows = refl;
        same_halves = refl;
      }
    where
      -- the bytes are those of the definition's first state in a round
      is_begun : (plan : Plan) → Made plan task links → searching (begun plan.site (notes_in plan.site machine board)) (just_s plan.site) ≡ state_of plan.site 0 Begun (BegunBoard entered')
      is_begun plan made =
          ap (λ (x : ℕ). searching (Noted plan.site (suc machine.round) (λ y. eqb y x)) (waits x 0 nobody)) (ap out_half made.source)
          ∙ ap₂ (λ (round : ℕ) (now : Entered). searching (Noted plan.site round now) (waits (out_half task.s) 0 nobody)) (sym (add-one machine.round)) (sym e)

      begun_sane : (plan : Plan) (place : ℕ) → Ready plan place task machine links board → Sane plan (searching (begun plan.site (notes_in plan.site machine board)) (just_s plan.site))
      begun_sane plan place ready =
          let site = plan.site in
          let sane = sane_in ready Won is-won in
          let n = ready.made.radios in
          let s = ready.made.source in
          let k = ready.made.wanted in
          let below : site.S < site.n = omega (arith, ready.made.fits.source) in
          record {
            under = record {
              kept = record { on_steps = sane.0.on_steps; below = λ h d. omega (arith, eqb-true h (out_half site.S) d); few_rounds = omega (arith, sane.1); few_found = omega arith };
              numbered = omega (arith, sane.1);
              fewer = omega arith;
              asked = refl;
              room = some_counts (only_s site) (2 * site.n) (out_half site.S) (omega arith) (eq-eqb (out_half site.S) (out_half site.S) refl);
            };
            T_new = ne_eqb (in_half site.T) (out_half site.S) (λ d. omega arith);
          }

-- what follows once the round has begun follows from here on
pub follows_on : {task : Task} {machine : Machine} {links : List ℕ} {board : Board} {next : Machine} {board' : Board} → Rounds task machine links board next board'
    → (stepped : Stepped) (board'' : Board) → Steps task next links board' stepped board'' → Steps task machine links board stepped board''
follows_on rounds stepped board'' steps plan place ready =
    let on = rounds.continues plan place ready in
    let after = steps plan on.from on.ready in
    record { walks = after.walks; gives = record { place = after.gives.place; untried = after.gives.untried; answers = on.same ∙ after.gives.answers } }

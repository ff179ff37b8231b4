-- The promise of the public call, kept on both ways out: the call is accepted, or it is refused. Assumes nothing.
use mathlib.Core.Path.{◌≡◌, refl, sym, ap, ◌∙◌}
use mathlib.Core.List.{List}
use Prim.Native.Nat.{ℕ}
use lib.ListN.{length, replicate}
use Rattle.std.specs.Prelude.{Result, Ok, Err}
use Rattle.refusals.specs.Refusals.{Call, call_of, verdict, number, place_of}
use Rattle.refusals.specs.declared.Refusal.{Refusal}
use Rattle.refusals.proofs.Exactly.{some_number}
use Rattle.refusals.proofs.Accepted.{Room, accepted_valid, accepted_room}
use Rattle.site.proofs.Valid.{Valid}
use Rattle.outcome.specs.declared.Outcome.{Outcome}
use Rattle.outcome.specs.Leaves.{outcome}
use Rattle.checks.specs.Checked.{Judged, verdict_in}
use Rattle.demands.specs.Demand1.{NothingLeft}
use Rattle.demands.specs.Promise.{Promise}
use Rattle.demands.proofs.First.{demand_1}
use Rattle.demands.proofs.Demands.{demand_2, demand_3}
use Rattle.survey.specs.Parts.{Given, LeftBehind}

module _ (n : ℕ) (table : List ℕ) (s t k : ℕ) (log paths cut rows : List ℕ) {answer : Result ℕ Refusal} (judged : Judged (call_of n table s t k (length log) (length paths) (length cut)) rows answer) where
  abbrev call : Call
  call = call_of n table s t k (length log) (length paths) (length cut)

  -- the number is the verdict's
  told : (outcome call).refusal ≡ number (verdict_in answer)
  unfolding outcome
  told = ap number (sym judged.told)

  place_told : (outcome call).place ≡ place_of (verdict_in answer)
  unfolding outcome
  place_told = ap place_of (sym judged.told)

  pub given : (passing : ℕ) → answer ≡ Ok passing → Given (record { n = n; s = s; t = t; k = k; passing = passing }) rows log paths cut
  given passing is =
      record {
        call = call;
        accepted = told ∙ accepted;
        fresh = record {
          made = record {
            fits = record { few = valid.few_radios; source = valid.S_below; sink = valid.T_below; differ = valid.ends_differ; few_wanted = room.few_wanted };
            radios = refl;
            source = refl;
            sink = refl;
            wanted = refl;
            order = refl;
            passing = rw is at judged.passing_are;
            linked = rw is at judged.rows_are;
          };
          none_kept = refl;
          none_marked = refl;
          wanted = room.wanted;
        };
        log-lent = refl;
        paths-lent = refl;
        cut-lent = refl;
      }
    where
      accepted : number (verdict_in answer) ≡ 0
      accepted = ap (λ (a : Result ℕ Refusal). number (verdict_in a)) is

      no_refusal : number (verdict call) ≡ 0
      no_refusal = ap number (sym judged.told) ∙ accepted

      valid : Valid call.site
      valid = accepted_valid call no_refusal

      room : Room call
      room = accepted_room call no_refusal

  pub kept_accepted : {numbers : Outcome} {log' paths' cut' : List ℕ} → (passing : ℕ) → answer ≡ Ok passing
      → ((g : Given (record { n = n; s = s; t = t; k = k; passing = passing }) rows log paths cut) → LeftBehind g.call numbers log' paths' cut') → Promise call numbers log' paths' cut'
  unfolding given
  kept_accepted {numbers} {log'} {paths'} {cut'} passing is leaves =
      record {
        numbers_are = left.numbers_are;
        log_is = left.log_is;
        paths_are = left.paths_are;
        cut_is = left.cut_is;
        demand_1 = demand_1 call;
        demand_2 = demand_2 call;
        demand_3 = demand_3 call;
      }
    where
      left : LeftBehind call numbers log' paths' cut'
      left = leaves (given passing is)

  pub kept_refused : {numbers : Outcome} {log' paths' cut' : List ℕ} → (refusal : Refusal) → answer ≡ Err refusal
      → numbers ≡ record { refusal = number (Err refusal); place = place_of (Err refusal); paths = 0; rounds = 0; messages = 0 }
      → log' ≡ replicate (length log) 0 → paths' ≡ replicate (length paths) 0 → cut' ≡ replicate (length cut) 0 → Promise call numbers log' paths' cut'
  kept_refused {numbers} refusal is numbers-told log-zero paths-zero cut-zero =
      record {
        numbers_are = numbers-told ∙ same;
        log_is = log-zero ∙ sym nothing.log;
        paths_are = paths-zero ∙ sym nothing.path_list;
        cut_is = cut-zero ∙ sym nothing.cut_list;
        demand_1 = demand_1 call;
        demand_2 = demand_2 call;
        demand_3 = demand_3 call;
      }
    where
      number_told : (outcome call).refusal ≡ number (Err refusal)
      number_told = told ∙ ap (λ (a : Result ℕ Refusal). number (verdict_in a)) is

      at_place : (outcome call).place ≡ place_of (Err refusal)
      at_place = place_told ∙ ap (λ (a : Result ℕ Refusal). place_of (verdict_in a)) is

      nothing : NothingLeft call
      nothing = (demand_1 call).nothing_left (λ e. some_number refusal (sym number_told ∙ e))

      same : ◌≡◌ {A = Outcome} (record { refusal = number (Err refusal); place = place_of (Err refusal); paths = 0; rounds = 0; messages = 0 }) (outcome call)
      same = λ i. record { refusal = sym number_told i; place = sym at_place i; paths = sym nothing.paths i; rounds = sym nothing.rounds i; messages = sym nothing.messages i }

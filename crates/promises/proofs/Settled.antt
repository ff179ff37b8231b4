-- Any two outcomes that a promise allows are equal, in every number, every byte and every record. Assumes nothing.
use mathlib.Core.Path.{◌≡◌, sym, ◌∙◌}
use mathlib.Core.List.{List}
use Prim.Native.Nat.{ℕ}
use Rattle.refusals.specs.Refusals.{Call}
use Rattle.outcome.specs.declared.Outcome.{Outcome}
use Rattle.demands.specs.Promise.{Promise}
use Rattle.route_records.specs.declared.Route.{Route}
use Rattle.route_records.specs.Records.{RoutesCall}
use Rattle.route_records.specs.Promise.{RoutesPromise}

pub settled : (call : Call) (numbers numbers' : Outcome) (log log' paths paths' cut cut' : List ℕ) → Promise call numbers log paths cut → Promise call numbers' log' paths' cut'
    → (numbers ≡ numbers') × (log ≡ log') × (paths ≡ paths') × (cut ≡ cut')
settled call numbers numbers' log log' paths paths' cut cut' p q =
    (p.numbers_are ∙ sym q.numbers_are, p.log_is ∙ sym q.log_is, p.paths_are ∙ sym q.paths_are, p.cut_is ∙ sym q.cut_is)

pub records_settled : (call : RoutesCall) (refusal refusal' : ℕ) (records records' : List Route) → RoutesPromise call refusal records → RoutesPromise call refusal' records' → (refusal ≡ refusal') × (records ≡ records')
records_settled call refusal refusal' records records' p q = (p.refusal_is ∙ sym q.refusal_is, p.records_are ∙ sym q.records_are)

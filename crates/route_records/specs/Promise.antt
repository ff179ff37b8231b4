-- What the call for route records promises: the number, every record, and what the customer asked for.
use Rattle.std.specs.Prelude.{◌≡◌, List, ℕ, ◌<◌, ◌≤◌, length, take}
use Rattle.basics.specs.Numbered.{Lawful}
use Rattle.path_lists.specs.Reading.{paths_read, list_end}
use Rattle.refusals.specs.Refusals.{number}
use Rattle.route_records.specs.declared.Role.TheVariants.{OffPaths}
use Rattle.route_records.specs.declared.Route.{Route}
use Rattle.route_records.specs.Records.{alone, record_in, record_of, RoutesCall, verdict_of, routes_conditions, records_left}

-- another path list in place of the call's
abbrev pub reading : RoutesCall → List ℕ → RoutesCall
reading call list = record { n = call.n; count = call.count; list = list; records = call.records }

-- the number returned, and the records at the end
pub record RoutesPromise (call : RoutesCall) (refusal : ℕ) (records : List Route) : Type 0 where
  pub refusal_is : refusal ≡ number (verdict_of call)
  pub records_are : records ≡ records_left call
  -- each number exactly when its own condition holds and none before it does, 0 exactly when none holds
  pub lawful : Lawful number (routes_conditions call.n (length call.records) call.count call.list) (verdict_of call)
  -- one record for each radio, by the paths of the list
  pub for_each : refusal ≡ 0 → (v : ℕ) → v < call.n → record_in records v ≡ record_of (paths_read call.count call.list) v
  -- with no paths they are all 0
  pub no-paths : refusal ≡ 0 → call.count ≡ 0 → (v : ℕ) → v < call.n → record_in records v ≡ alone OffPaths
  -- records past n stay as they were, and a refused call changes none
  pub past_n : (v : ℕ) → call.n ≤ v → record_in records v ≡ record_in call.records v
  pub unchanged : (refusal ≡ 0 → ⊥) → records ≡ call.records
  -- bytes past the last path are not read: a list that agrees up to its end gives the same
  pub past_unread : (other : List ℕ) → take (list_end call.count call.list) other ≡ take (list_end call.count call.list) call.list
      → (refusal ≡ number (verdict_of (reading call other))) × (records ≡ records_left (reading call other))

-- What the contracts of this crate say of the path list that is read, and of the records of one path.
use Rattle.std.specs.Prelude.{◌≡◌, true, cond, List, ℕ, ◌≤◌, ltb, length}
use Rattle.site.specs.Limits.{most_radios, most_paths}
use Rattle.path_lists.specs.Reading.{readable, paths_read}
use Rattle.path_lists.specs.Judge.{SoundLists}
use Rattle.route_records.specs.declared.Route.{Route}
use Rattle.route_records.specs.Records.{record_in, place_in, record_at}

-- a list that holds so many whole and disjoint paths, each with a number that fits a record
pub record Tellable (count : ℕ) (list : List ℕ) : Type 0 where
  pub few : count ≤ most_paths
  pub whole : readable count list ≡ true
  pub sound : SoundLists most_radios (paths_read count list)

-- each of the first i radios of the path with this number has its record, all others as before
pub record PathLaid (number : ℕ) (path : List ℕ) (before : List Route) (i : ℕ) (after : List Route) : Type 0 where
  pub long : length after ≡ length before
  pub route : (v : ℕ) → record_in after v ≡ cond (ltb (place_in path v) i) (record_at number path (place_in path v)) (record_in before v)

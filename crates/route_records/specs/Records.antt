-- A route record for every radio: request 1/13 of document 02.
use Rattle.std.specs.Prelude.{not, ◌&&◌, ◌||◌, cond, List, [], ◌∷◌, ◌++◌, ◌⊎◌, ℕ, zero, suc, ◌+◌, ◌-◌, ◌<◌, eqb, ltb, length, get_or, drop}
use Rattle.basics.specs.Counting.{first_from}
use Rattle.basics.specs.Numbered.{Conditions}
use Rattle.site.specs.Limits.{most_paths}
use Rattle.path_lists.specs.Bytes.{Holds}
use Rattle.path_lists.specs.Reading.{readable, paths_read}
use Rattle.path_lists.specs.Judge.{SoundLists, is_sound}
use Rattle.refusals.specs.Refusals.{Verdict, size_verdict, refuse, ◌or_else◌, number, if_accepted}
use Rattle.refusals.specs.Conditions.{size_conditions}
use Rattle.refusals.specs.declared.Refusal.TheVariants.{Records, PathList}
use Rattle.route_records.specs.declared.Role.{Role}
use Rattle.route_records.specs.declared.Role.TheVariants.{OffPaths, OnPath, Source, Sink}
use Rattle.route_records.specs.declared.Route.{Route}

-- ---- a record

-- the number of each role
abbrev pub role_number : Role → ℕ
role_number OffPaths = 0
role_number OnPath = 1
role_number Source = 2
role_number Sink = 3

-- a radio with its role alone: the other fields are 0
abbrev pub alone : Role → Route
alone role = record { role = role_number role; path = 0; before = 0; after = 0 }

-- the record of radio v in a list of them; past its end a radio is on no path
abbrev pub record_in : List Route → ℕ → Route
record_in records v = get_or records v (alone OffPaths)

-- ---- the record of a radio

-- where a radio stands in a path, counted from 0; as many as the path has where it is not in it
abbrev pub place_in : List ℕ → ℕ → ℕ
place_in path v = first_from (λ i. eqb (get_or path i 0) v) 0 (length path)

-- the record of the radio at place i of the path with this number: S is the first of a path and T the last
unfoldable pub record_at : ℕ → List ℕ → ℕ → Route
record_at number path i =
    cond (eqb i 0) (alone Source)
    (cond (eqb (i + 1) (length path)) (alone Sink)
    (record { role = role_number OnPath; path = number; before = get_or path (i - 1) 0; after = get_or path (i + 1) 0 }))

-- the record of radio v, the paths having this number and those after it
unfoldable pub record_from : ℕ → List (List ℕ) → ℕ → Route
record_from number [] v = alone OffPaths
record_from number (path ∷ paths) v = cond (ltb (place_in path v) (length path)) (record_at number path (place_in path v)) (record_from (suc number) paths v)

-- paths are numbered from 1
abbrev pub record_of : List (List ℕ) → ℕ → Route
record_of paths v = record_from 1 paths v

-- one for each of the first n radios
unfoldable pub records_of : List (List ℕ) → ℕ → List Route
records_of paths zero = []
records_of paths (suc n) = records_of paths n ++ (record_of paths n ∷ [])

-- ---- the call

-- what a caller hands over: n, the number of paths and the path list of a run, and the records as they are before
pub record RoutesCall : Type 0 where
  pub n : ℕ
  pub count : ℕ
  pub list : List ℕ
  pub records : List Route

-- 1, then 20 for too few records, then 21 for the path list
unfoldable pub routes_verdict : ℕ → ℕ → ℕ → List ℕ → Verdict
routes_verdict n records count list =
    size_verdict n
    or_else refuse (ltb records n) Records
    or_else refuse (ltb most_paths count || not (readable count list && is_sound n (paths_read count list))) PathList

-- the same as facts: the list does not hold that many disjoint lists of two or more different radios below n with the same first
-- and the same last
abbrev pub routes_conditions : ℕ → ℕ → ℕ → List ℕ → Conditions
routes_conditions n records count list =
    size_conditions n
    ++ (20, records < n)
    ∷ (21, (most_paths < count) ⊎ ((paths : List (List ℕ)) → Holds list count paths → SoundLists n paths → ⊥))
    ∷ []

abbrev pub verdict_of : RoutesCall → Verdict
verdict_of call = routes_verdict call.n (length call.records) call.count call.list

-- the records as they are afterwards: those past n stay, and a refused call changes none
unfoldable pub records_left : RoutesCall → List Route
records_left call = if_accepted (verdict_of call) (records_of (paths_read call.count call.list) call.n ++ drop call.n call.records) call.records

-- The paths as a fitter reads them off the records: from S's first radio on, following `after`.
use Rattle.std.specs.Prelude.{◌&&◌, cond, List, [], ◌∷◌, ◌++◌, ℕ, zero, suc, eqb, ltb}
use Rattle.basics.specs.Counting.{first_from}
use Rattle.route_records.specs.declared.Role.{Role}
use Rattle.route_records.specs.declared.Role.TheVariants.{OnPath, Source, Sink}
use Rattle.route_records.specs.declared.Route.{Route}
use Rattle.route_records.specs.Records.{role_number, record_in}

-- the first of n radios that has this role
abbrev pub first_with : List Route → ℕ → Role → ℕ
first_with records n role = first_from (λ v. eqb (record_in records v).role (role_number role)) 0 n

-- from radio v on, through at most so many radios that are on a path
unfoldable pub following : List Route → ℕ → ℕ → List ℕ
following records zero v = v ∷ []
following records (suc more) v = v ∷ cond (eqb (record_in records v).role (role_number OnPath)) (following records more (record_in records v).after) []

-- S's first radio on the path with this number: the one that has S before it
abbrev pub start_of : List Route → ℕ → ℕ → ℕ → ℕ
start_of records n S number = first_from (λ v. eqb (record_in records v).path number && eqb (record_in records v).before S) 0 n

-- the path with this number; no radio stands on the direct link, so that S's first radio there is T
unfoldable pub path_told : List Route → ℕ → ℕ → List ℕ
path_told records n number =
    let S = first_with records n Source in
    let start = start_of records n S number in
    S ∷ following records n (cond (ltb start n) start (first_with records n Sink))

-- the first `count` of them
unfoldable pub paths_told : List Route → ℕ → ℕ → List (List ℕ)
paths_told records n zero = []
paths_told records n (suc count) = paths_told records n count ++ (path_told records n (suc count) ∷ [])

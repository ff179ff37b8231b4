-- What the contracts of this crate say of the rows of links, and of what the checks leave.
use Rattle.std.specs.Prelude.{◌≡◌, Bool, true, ◌&&◌, ◌||◌, ◌↔◌, List, ℕ, ◌+◌, ◌*◌, ◌≤◌, ◌<◌, eqb, get_or, Result, Ok, Err, OnOk, IfOk}
use Rattle.basics.specs.Counting.{count}
use Rattle.radios.specs.Links.{RowsOfLinks, Ordinary, Passing}
use Rattle.radios.specs.Member.{member}
use Rattle.site.specs.Limits.{most_radios, most_links}
use Rattle.site.specs.Map.{links}
use Rattle.refusals.specs.Refusals.{Call, Verdict, Finding, finding, map_verdict, verdict}
use Rattle.refusals.specs.declared.Refusal.{Refusal}
use Rattle.checks.specs.declared.SoundMap.{SoundMap}

-- two sets have the same radios up to i
abbrev pub AgreeTo : ℕ → ℕ → ℕ → Type 0
AgreeTo x y i = (j : ℕ) → j ≤ i → member j x ≡ member j y

-- how many radios are in a set
abbrev pub members : ℕ → ℕ
members set = count (λ v. member v set) most_radios

-- how many are in row u
abbrev pub size : List ℕ → ℕ → ℕ
size rows u = members (get_or rows u 0)

-- is v a neighbour of u in the rows, once radio i and those of a set have become neighbours?
abbrev pub joined : ℕ → ℕ → List ℕ → ℕ → ℕ → Bool
joined i set rows u v = (eqb u i && member v set) || ((eqb v i && member u set) || member v (get_or rows u 0))

-- the answer whether a table is sound, and the rows that it leaves where it is
pub record Gathered (table : List ℕ) (n : ℕ) (rows : List ℕ) (sound : Bool) : Type 0 where
  pub told : sound ≡ true ↔ finding table n ≡ Ok tt
  pub rows_are : sound ≡ true → RowsOfLinks table n rows

-- what the check of a table finds, and the rows that it leaves where it finds no fault
pub record Checked (table : List ℕ) (n : ℕ) (rows : List ℕ) (found : Finding) : Type 0 where
  pub told : found ≡ finding table n
  pub rows_are : OnOk found (RowsOfLinks table n rows)

-- what the count of the steps leans on: two ends, and a total that holds both their rows and fits
pub record Countable (rows : List ℕ) (total s t : ℕ) : Type 0 where
  pub source : s < most_radios
  pub sink : t < most_radios
  pub held : size rows s + size rows t ≤ total
  pub fits : total ≤ 2 * most_links

-- there are at most two steps for each link, and one inside each radio
abbrev pub most_steps : ℕ
most_steps = 2 * most_links + most_radios

-- what a judge tells a call: it is accepted, with whatever is found, or refused
abbrev pub verdict_in : {Found : Type 0} → Result Found Refusal → Verdict
verdict_in (Ok found) = Ok tt
verdict_in (Err refusal) = Err refusal

-- what a map is told, and where it is accepted its rows, twice the number of its links and its radios that are no handhelds
pub record MapJudged (table : List ℕ) (n : ℕ) (rows : List ℕ) (answer : Result SoundMap Refusal) : Type 0 where
  pub told : verdict_in answer ≡ map_verdict table n
  pub rows_are : OnOk answer (RowsOfLinks table n rows)
  pub twice : IfOk answer (λ map. map.total ≡ 2 * links table n)
  pub ordinary_are : IfOk answer (λ map. Ordinary table n map.ordinary)

-- what a call is told, and where it is accepted the rows that it finds and the radios that may stand inside a path
pub record Judged (call : Call) (rows : List ℕ) (answer : Result ℕ Refusal) : Type 0 where
  pub told : verdict_in answer ≡ verdict call
  pub rows_are : OnOk answer (RowsOfLinks call.site.table call.site.n rows)
  pub passing_are : IfOk answer (λ passing. Passing call.site passing)

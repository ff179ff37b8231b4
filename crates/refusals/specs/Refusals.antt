-- "Refusals by number, in this order" of document 01, as document 02 amends them: 1 to 8 and 13 with their places.
use Rattle.std.specs.Prelude.{Bool, not, ◌||◌, cond, List, ℕ, ◌+◌, ◌-◌, ◌*◌, ◌/◌, ◌%◌, eqb, ltb, length, get_or, Result, Ok, Err, is_err}
use Rattle.basics.specs.Counting.{first_from}
use Rattle.site.specs.Limits.{most_radios, most_links, most_paths}
use Rattle.site.specs.Map.{Site, links, A}
use Rattle.message_log.specs.Bytes.{message_bytes}
use Rattle.refusals.specs.declared.BadCell.{BadCell}
use Rattle.refusals.specs.declared.BadCell.TheVariants.{Value, Mirror}
use Rattle.refusals.specs.declared.Refusal.{Refusal}
use Rattle.refusals.specs.declared.Refusal.TheVariants.{Radios, TableLength, CellValue, CellMirror, Links, Ends, Wanted, Log, Lists, Records, PathList}

-- what a caller hands over: the map and its ends, the number of paths wanted, and the lengths of the three lent buffers
pub record Call : Type 0 where
  pub site : Site
  pub k : ℕ
  pub log_length : ℕ
  pub paths_length : ℕ
  pub cut_length : ℕ

abbrev pub call_of : ℕ → List ℕ → ℕ → ℕ → ℕ → ℕ → ℕ → ℕ → Call
call_of n table S T k log paths cut = record { site = record { n = n; table = table; S = S; T = T }; k = k; log_length = log; paths_length = paths; cut_length = cut }

-- what a call is told: accepted, or refused for a reason
abbrev pub Verdict : Type 0
Verdict = Result (Unit {0}) Refusal

-- what is found at a cell, and in a table: no fault, or a bad cell
abbrev pub Finding : Type 0
Finding = Result (Unit {0}) BadCell

-- ---- 3 and 13: the table's cells

-- the cell at this place is judged by two kinds of fault in this order: it is not 0 or 1, it differs from its mirror cell
unfoldable pub cell_finding : ℕ → ℕ → ℕ → Finding
cell_finding place cell mirror = cond (ltb 1 cell) (Err (Value place)) (cond (not (eqb cell mirror)) (Err (Mirror place)) (Ok tt))

-- the cell at a place of the table; places are counted from 0 in row order
unfoldable pub finding_at : List ℕ → ℕ → ℕ → Finding
finding_at table n place = cell_finding place (get_or table place 0) (get_or table (place % n * n + place / n) 0)

abbrev pub bad_cell : List ℕ → ℕ → ℕ → Bool
bad_cell table n place = is_err (finding_at table n place)

-- the place of the first bad cell in row order; n·n where there is none
unfoldable pub first_bad : List ℕ → ℕ → ℕ
first_bad table n = first_from (bad_cell table n) 0 (n * n)

-- what the check of the table finds: that cell's finding
unfoldable pub finding : List ℕ → ℕ → Finding
finding table n =
    let place = first_bad table n in
    cond (ltb place (n * n)) (finding_at table n place) (Ok tt)

-- ---- 7 and 8: how much a run may need

-- the most messages that a run of k paths may send
abbrev pub most_messages : Site → ℕ → ℕ
most_messages site k = (2 * k + 1) * A site

abbrev pub log_needs : Site → ℕ → ℕ
log_needs site k = message_bytes * most_messages site k

abbrev pub paths_need : Site → ℕ → ℕ
paths_need site k = site.n - 2 + 3 * k

-- ---- numbers and places

-- the documents' number for each verdict, 0 being none, and its place: only a cell has one
abbrev pub numbered : Verdict → ℕ × ℕ
numbered (Ok accepted) = (0, 0)
numbered (Err Radios) = (1, 0)
numbered (Err TableLength) = (2, 0)
numbered (Err (CellValue place)) = (3, place)
numbered (Err (CellMirror place)) = (13, place)
numbered (Err Links) = (4, 0)
numbered (Err Ends) = (5, 0)
numbered (Err Wanted) = (6, 0)
numbered (Err Log) = (7, 0)
numbered (Err Lists) = (8, 0)
numbered (Err Records) = (20, 0)
numbered (Err PathList) = (21, 0)

abbrev pub number : Verdict → ℕ
number v = (numbered v).0

abbrev pub place_of : Verdict → ℕ
place_of v = (numbered v).1

-- ---- the first reason against a call

-- an accepted call leaves its own, a refused one something else
abbrev pub if_accepted {ℓ} : {X : Type ℓ} → Verdict → X → X → X
if_accepted verdict own other = cond (eqb (number verdict) 0) own other

-- refused by v if the test holds
abbrev pub refuse : Bool → Refusal → Verdict
refuse test v = cond test (Err v) (Ok tt)

-- a call whose table has a bad cell is refused for it
abbrev pub refusal_of : BadCell → Refusal
refusal_of (Value place) = CellValue place
refusal_of (Mirror place) = CellMirror place

-- a finding on the table is passed on
abbrev pub passed : Finding → Verdict
passed (Ok sound) = Ok tt
passed (Err bad) = Err (refusal_of bad)

infixl 25 ◌or_else◌
-- the first of two verdicts that does not accept
abbrev pub ◌or_else◌ : Verdict → Verdict → Verdict
v or_else w = cond (eqb (number v) 0) w v

-- a kit has no such number of radios
abbrev pub too_few : ℕ → Bool
too_few n = ltb n 2

abbrev pub too_many : ℕ → Bool
too_many n = ltb most_radios n

abbrev pub no_size : ℕ → Bool
no_size n = too_few n || too_many n

-- 1: n radios
abbrev pub size_verdict : ℕ → Verdict
size_verdict n = refuse (no_size n) Radios

-- 1 to 4 and 13: a map of n radios
unfoldable pub map_verdict : List ℕ → ℕ → Verdict
map_verdict table n =
    size_verdict n
    or_else refuse (not (eqb (length table) (n * n))) TableLength
    or_else passed (finding table n)
    or_else refuse (ltb most_links (links table n)) Links

-- 5 and 6: two radios of n, and the number of paths wanted
unfoldable pub pair_verdict : ℕ → ℕ → ℕ → ℕ → Verdict
pair_verdict n S T k =
    refuse (not (ltb S n) || not (ltb T n) || eqb S T) Ends
    or_else refuse (eqb k 0 || ltb most_paths k) Wanted

-- 7 and 8: the lengths of the three buffers, for k paths among n radios over so many steps
unfoldable pub room_verdict : ℕ → ℕ → ℕ → ℕ → ℕ → ℕ → Verdict
room_verdict n k steps log_length paths_length cut_length =
    refuse (ltb log_length (message_bytes * ((2 * k + 1) * steps))) Log
    or_else refuse (ltb paths_length (n - 2 + 3 * k) || ltb cut_length k) Lists

unfoldable pub verdict : Call → Verdict
verdict call =
    let site = call.site in
    map_verdict site.table site.n
    or_else pair_verdict site.n site.S site.T call.k
    or_else room_verdict site.n call.k (A site) call.log_length call.paths_length call.cut_length

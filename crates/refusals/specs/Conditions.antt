-- The column "given exactly when" of document 01's table of refusals, with 13 of document 02, as facts about a call.
use Rattle.std.specs.Prelude.{◌≡◌, Bool, ◌||◌, List, [], ◌∷◌, ◌++◌, ◌⊎◌, ℕ, ◌+◌, ◌-◌, ◌*◌, ◌/◌, ◌%◌, ◌<◌, ◌≤◌, eqb, length, get_or}
use Rattle.basics.specs.Numbered.{Conditions, Gives}
use Rattle.site.specs.Limits.{most_radios, most_links, most_paths}
use Rattle.site.specs.Map.{links, A}
use Rattle.message_log.specs.Bytes.{message_bytes}
use Rattle.refusals.specs.Refusals.{Call}

-- ---- 3 and 13: the kinds of fault

-- the cell at this place is not 0 or 1
abbrev pub NoBit : List ℕ → ℕ → Type 0
NoBit table place = (get_or table place 0 ≡ 0 → ⊥) × (get_or table place 0 ≡ 1 → ⊥)

-- it differs from its mirror cell
abbrev pub Unlike : List ℕ → ℕ → ℕ → Type 0
Unlike table n place = get_or table place 0 ≡ get_or table (place % n * n + place / n) 0 → ⊥

-- in the order in which they are tried at one cell
abbrev pub kinds : List ℕ → ℕ → ℕ → Conditions
kinds table n place =
    (3, NoBit table place)
    ∷ (13, Unlike table n place)
    ∷ []

-- these numbers tell of a cell
abbrev pub of_cell : ℕ → Bool
of_cell c = eqb c 3 || eqb c 13

-- a cell at fault is of one of the kinds
pub data Fault (table : List ℕ) (n place : ℕ) : Type 0 where
  no_bit : NoBit table place → Fault table n place
  mirror : Unlike table n place → Fault table n place

-- the first such cell in row order
pub record FirstFault (table : List ℕ) (n place : ℕ) : Type 0 where
  pub within : place < n * n
  pub fault : Fault table n place
  pub none_before : (earlier : ℕ) → earlier < place → Fault table n earlier → ⊥

-- the first cell at fault is at this place, and it is of the kind with number c and of no kind before it
pub record FirstIs (table : List ℕ) (n c place : ℕ) : Type 0 where
  pub first : FirstFault table n place
  pub kind : Gives (kinds table n place) c

-- ---- the list, part by part

-- 1: n radios
abbrev pub size_conditions : ℕ → Conditions
size_conditions n = (1, (n < 2) ⊎ (most_radios < n)) ∷ []

-- 3 and 13: the table's cells
abbrev pub cell_conditions : List ℕ → ℕ → Conditions
cell_conditions table n =
    (3, (place : ℕ) × FirstIs table n 3 place)
    ∷ (13, (place : ℕ) × FirstIs table n 13 place)
    ∷ []

-- 1 to 4 and 13: a map of n radios
abbrev pub map_conditions : List ℕ → ℕ → Conditions
map_conditions table n =
    size_conditions n
    ++ (2, length table ≡ n * n → ⊥)
    ∷ cell_conditions table n
    ++ (4, most_links < links table n)
    ∷ []

-- 5 and 6: two radios of n, and the number of paths wanted
abbrev pub pair_conditions : ℕ → ℕ → ℕ → ℕ → Conditions
pair_conditions n S T k =
    (5, (n ≤ S) ⊎ (n ≤ T) ⊎ (S ≡ T))
    ∷ (6, (k ≡ 0) ⊎ (most_paths < k))
    ∷ []

-- 7 and 8: the lengths of the three buffers, for k paths among n radios over so many steps
abbrev pub room_conditions : ℕ → ℕ → ℕ → ℕ → ℕ → ℕ → Conditions
room_conditions n k steps log_length paths_length cut_length =
    (7, log_length < message_bytes * ((2 * k + 1) * steps))
    ∷ (8, (paths_length < n - 2 + 3 * k) ⊎ (cut_length < k))
    ∷ []

-- all of them
abbrev pub conditions : Call → Conditions
conditions call =
    let site = call.site in
    map_conditions site.table site.n
    ++ pair_conditions site.n site.S site.T call.k
    ++ room_conditions site.n call.k (A site) call.log_length call.paths_length call.cut_length

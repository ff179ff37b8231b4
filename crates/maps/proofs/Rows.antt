-- The rows of specs/Rows.antt are what the definitions say, computed: the ten rows, the three with handhelds, and the case Q given whole. Assumes nothing.
use Rattle.std.proofs.Common.{◌≡◌, refl, [], ◌∷◌, map}
use Rattle.refusals.specs.Refusals.{call_of}
use Rattle.buffers.specs.Zeros.{zeros_after}
use Rattle.maps.specs.Rows.{table_of, result_of, MapRow, Q, rows, handhelds, short_of_q, log_of_q, whole_of}
use Rattle.maps.proofs.Computed.{call_computes}

-- every row of the table is what the definitions say
pub ten_maps : map (λ (row : MapRow). result_of row.made) rows ≡ map (λ (row : MapRow). row.result) rows
unfolding call_computes
ten_maps = refl

pub three_maps : map (λ (row : MapRow). result_of row.made) handhelds ≡ map (λ (row : MapRow). row.result) handhelds
unfolding call_computes
three_maps = refl

-- Q with k = 3: both paths, both cut items, and 0 past them
pub case_q :
    whole_of (call_of 8 (table_of 8 Q) 0 7 3 560 15 3)
    ≡ record { numbers = short_of_q; log = zeros_after 560 log_of_q; path_list = zeros_after 15 (4 ∷ 0 ∷ 1 ∷ 6 ∷ 7 ∷ 4 ∷ 0 ∷ 4 ∷ 3 ∷ 7 ∷ []); cut_list = 1 ∷ 4 ∷ 0 ∷ [] }
unfolding call_computes
case_q = refl

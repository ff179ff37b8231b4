-- A site as a network of halves, and the paths that DONE walks over its marks, as lists. Assumes nothing.
use mathlib.Core.Bool.{Bool, cond}
use mathlib.Core.List.{List, [], ◌∷◌, map}
use Prim.Native.Nat.{ℕ, zero, suc, ◌+◌, ◌*◌}
use Rattle.site.specs.Map.{Site, in_half, out_half, radio_of, is_out, step}
use Rattle.tokens.specs.Rules.{Marks, next_marked}
use Rattle.menger.proofs.Network.{Network}
use Rattle.menger.proofs.Trail.{follow}

abbrev pub network_of : Site → Network
network_of site = record { size = 2 * site.n; step = step site; source = out_half site.S; goal = in_half site.T }

-- where DONE goes from half h: an in half passes it to its own out half, an out half over its marked link step
unfoldable pub onward : Site → Marks → ℕ → ℕ
onward site marks h = cond (is_out h) (in_half (next_marked site marks h 0)) (h + 1)

-- the trail of the DONE that S sends to radio v, until T's in half
unfoldable pub trail_of : Site → Marks → ℕ → List ℕ
trail_of site marks v = follow (in_half site.T) (onward site marks) (2 * site.n) (in_half v ∷ out_half site.S ∷ [])

-- the radios of a trail's in halves, in the order in which they are walked
unfoldable pub radios_of : List ℕ → List ℕ → List ℕ
radios_of [] after = after
radios_of (h ∷ trail) after = radios_of trail (cond (is_out h) after (radio_of h ∷ after))

-- the path of the DONE that S sends to radio v
unfoldable pub path_of : Site → Marks → ℕ → List ℕ
path_of site marks v = site.S ∷ radios_of (trail_of site marks v) []

-- the numbers from i on, of which there are f, that pass the test, rising
unfoldable pub passing : (ℕ → Bool) → ℕ → ℕ → List ℕ
passing test i zero = []
passing test i (suc f) = cond (test i) (i ∷ passing test (suc i) f) (passing test (suc i) f)

-- the radios with a marked step from S, in rising order
unfoldable pub starts : Site → Marks → List ℕ
starts site marks = passing (λ v. marks (out_half site.S) (in_half v)) 0 site.n

-- all paths, in the order of DONE
unfoldable pub paths_from : Site → Marks → List (List ℕ)
paths_from site marks = map (path_of site marks) (starts site marks)

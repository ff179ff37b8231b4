-- The DONE messages of a run are no more than the steps of the map. Assumes nothing.
use mathlib.Core.Path.{◌≡◌, refl, ap}
use mathlib.Core.Bool.{Bool, true, false, cond}
use mathlib.Core.List.{List, [], ◌∷◌, map, tail}
use mathlib.Core.Logic.{◌⊎◌, inl, inr}
use Prim.Native.Nat.{ℕ, zero, suc, ◌+◌, ◌*◌, ◌≤◌}
use native.Mathlib.Omega.{arith}
use lib.Dec.{eqb}
use lib.ListN.{length, length-append}
use Rattle.basics.specs.Lists.{among, Different}
use Rattle.basics.proofs.Bools.{clash, not_true→false}
use Rattle.basics.proofs.Lists.{among-nil, among-here, among_there, among_cases, total}
use Rattle.site.specs.Map.{Site, in_half, out_half, A}
use Rattle.site.proofs.Valid.{Valid}
use Rattle.tokens.specs.declared.Kind.TheVariants.{Done}
use Rattle.tokens.specs.Rules.{Marks, message}
use Rattle.menger.proofs.Flow.{Flow}
use Rattle.menger.proofs.Trail.{follow, trail_from, Arrived}
use Rattle.menger.proofs.Few.{steps_on, trails_few}
use Rattle.routes.proofs.Starts.{starts_marked, starts_different}
use Rattle.routes.proofs.FromFlow.{lines, whole}
use Rattle.routes.proofs.Trails.{network_of, onward, trail_of, starts}
use Rattle.demands.proofs.Carried.{dones_from, dones_of}

-- DONE sends a message for each half that the trail gains
gains : (site : Site) (marks : Marks) (times h : ℕ) (trail : List ℕ)
    → length (follow (in_half site.T) (onward site marks) times (h ∷ trail)) ≡ length (dones_from site marks times h) + length (h ∷ trail)
unfolding follow dones_from
gains site marks zero h trail = omega arith
gains site marks (suc times) h trail = go (eqb h (in_half site.T)) (gains site marks times (onward site marks h) (h ∷ trail))
  where
    go : (b : Bool)
        → length (follow (in_half site.T) (onward site marks) times (onward site marks h ∷ h ∷ trail)) ≡ length (dones_from site marks times (onward site marks h)) + length (onward site marks h ∷ h ∷ trail)
        → length (cond b (h ∷ trail) (follow (in_half site.T) (onward site marks) times (onward site marks h ∷ h ∷ trail)))
        ≡ length (cond b [] (message Done h (onward site marks h) ∷ dones_from site marks times (onward site marks h))) + length (h ∷ trail)
    go true ih = omega arith
    go false ih = omega arith

module _ {site : Site} (valid : Valid site) {p : ℕ} {m : Marks} (flow : Flow (network_of site) p m) where
  one_trail : (v : ℕ) → m (out_half site.S) (in_half v) ≡ true → suc (length (dones_from site m (2 * site.n) (in_half v))) ≡ steps_on (trail_of site m v)
  unfolding trail_of
  one_trail v e =
      let t : Arrived (network_of site) m (in_half v) (trail_of site m v) = whole valid flow v e in
      omega (arith, gains site m (2 * site.n) (in_half v) (out_half site.S ∷ []), ap length t.shape, ap (λ (trail : List ℕ). length (tail trail)) t.shape)

  all_trails : (radios : List ℕ) → ((v : ℕ) → among v radios ≡ true → m (out_half site.S) (in_half v) ≡ true)
      → length (dones_of site m radios) ≡ total (λ z. steps_on (trail_from (network_of site) (onward site m) z)) (map in_half radios)
  unfolding dones_of trail_of
  all_trails [] marked = refl
  all_trails (v ∷ radios) marked = omega (
    arith,
    length-append (dones_from site m (2 * site.n) (in_half v)) (dones_of site m radios),
    one_trail v (marked v (among-here v radios)),
    all_trails radios (λ w h. marked w (among_there w v radios h)),
  )

  halves-of : (z : ℕ) (radios : List ℕ) → among z (map in_half radios) ≡ true → (v : ℕ) × (among v radios ≡ true) × (z ≡ in_half v)
  halves-of z [] h = absurd (among-nil z h)
  halves-of z (v ∷ radios) h = go (among_cases z (in_half v) (map in_half radios) h) (halves-of z radios)
    where
      go : (z ≡ in_half v) ⊎ (among z (map in_half radios) ≡ true) → (among z (map in_half radios) ≡ true → (w : ℕ) × (among w radios ≡ true) × (z ≡ in_half w)) → (w : ℕ) × (among w (v ∷ radios) ≡ true) × (z ≡ in_half w)
      go (inl e) ih = (v, among-here v radios, e)
      go (inr e) ih = let w = ih e in (w.0, among_there w.0 v radios w.1, w.2)

  different_halves : (radios : List ℕ) → Different radios → Different (map in_half radios)
  different_halves [] d = tt
  different_halves (v ∷ radios) d = (not_true→false _ twice, different_halves radios d.1)
    where
      twice : among (in_half v) (map in_half radios) ≡ true → ⊥
      twice h = let w = halves-of (in_half v) radios h in let e : w.0 ≡ v = omega (arith, w.2) in clash (rw e at w.1) d.0

  pub dones_few : length (dones_of site m (starts site m)) ≤ A site
  unfolding A
  dones_few = omega (
    arith,
    all_trails (starts site m) (starts_marked site m),
    trails_few flow (lines valid flow) (map in_half (starts site m)) (different_halves (starts site m) (starts_different site m)) marked,
  )
    where
      marked : (z : ℕ) → among z (map in_half (starts site m)) ≡ true → m (out_half site.S) z ≡ true
      marked z h = let w = halves-of z (starts site m) h in rw w.2 (starts_marked site m w.0 w.1)

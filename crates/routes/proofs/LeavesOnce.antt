-- Each path that DONE walks leaves the halves of a failed round exactly once. Assumes nothing.
use mathlib.Core.Path.{◌≡◌, refl, ◌∙◌}
use mathlib.Core.Bool.{Bool, true, false, not, ◌&&◌, cond}
use mathlib.Core.List.{List, [], ◌∷◌}
use Prim.Native.Nat.{ℕ, ◌+◌}
use native.Mathlib.Omega.{arith}
use Rattle.basics.specs.Counting.{one_if}
use Rattle.basics.specs.Lists.{All}
use Rattle.basics.proofs.Bools.{clash}
use Rattle.basics.proofs.Lists.{all_map}
use Rattle.site.specs.Map.{Site, in_half, out_half, radio_of, is_out}
use Rattle.site.proofs.Steps.{Step, inside, over, step_of, in_is_not_out, out_is_out, radio_of_in, radio_of_out}
use Rattle.site.proofs.Valid.{Valid}
use Rattle.tokens.specs.Run.{leavings, times_leaving}
use Rattle.menger.proofs.Network.{Marks, Shut}
use Rattle.menger.proofs.Flow.{Flow}
use Rattle.menger.proofs.Trail.{Back, Arrived}
use Rattle.menger.proofs.Leaving.{none_enters}
use Rattle.routes.proofs.Starts.{starts_marked}
use Rattle.routes.proofs.Radios.{radios-in, radios_out}
use Rattle.routes.proofs.FromFlow.{whole}
use Rattle.routes.proofs.Trails.{network_of, radios_of, trail_of, path_of, starts, paths_from}

-- how often a path that is at half h, with the radios after it, leaves R
unfoldable leavings_from : (ℕ → Bool) → ℕ → List ℕ → ℕ
leavings_from R h after = cond (is_out h) 0 (one_if (R (in_half (radio_of h)) && not (R (out_half (radio_of h))))) + leavings R (radio_of h) after

from_out : (R : ℕ → Bool) (u : ℕ) (after : List ℕ) → leavings_from R (out_half u) after ≡ leavings R u after
unfolding leavings_from
from_out R u after = rw (out_is_out u, radio_of_out u) (omega arith)

from_in : (R : ℕ → Bool) (v : ℕ) (after : List ℕ) → leavings_from R (in_half v) after ≡ one_if (R (in_half v) && not (R (out_half v))) + leavings R v after
unfolding leavings_from
from_in R v after = rw (in_is_not_out v, radio_of_in v)

-- a step that does not come into R leaves it, or both halves are in R, or neither is
over_one : (a b : Bool) → (b ≡ true → a ≡ true) → one_if (not a) + one_if (a && not b) ≡ one_if (not b)
over_one true true back = refl
over_one true false back = refl
over_one false true back = clash (back refl) refl
over_one false false back = refl

module _ {site : Site} (valid : Valid site) {p : ℕ} {m : Marks} (flow : Flow (network_of site) p m) {R : ℕ → Bool} (shut : Shut (network_of site) m R) where
  -- a trail to half h has left R once if h is not in R, else never
  so_far : (h : ℕ) (trail after : List ℕ) → Back m (out_half site.S) (h ∷ trail) → leavings R site.S (radios_of (h ∷ trail) after) ≡ one_if (not (R h)) + leavings_from R h after
  unfolding radios_of
  so_far h [] after back = rw (back, radios_out site.S [] after, shut.source_in) (omega (arith, from_out R site.S after))
  so_far h (g ∷ trail) after back = go (step_of site g h (flow.on_steps g h back.0)) (λ after'. so_far g trail after' back.1)
    where
      one : one_if (not (R g)) + one_if (R g && not (R h)) ≡ one_if (not (R h))
      one = over_one (R g) (R h) (none_enters flow shut g h back.0)

      go : Step site g h → ((after' : List ℕ) → leavings R site.S (radios_of (g ∷ trail) after') ≡ one_if (not (R g)) + leavings_from R g after') → leavings R site.S (radios_of (h ∷ g ∷ trail) after) ≡ one_if (not (R h)) + leavings_from R h after
      go (inside v x y q) ih = rw (y, radios_out v (g ∷ trail) after) (ih after ∙ rw x (omega (arith, rw (x, y) at one, from_in R v after, from_out R v after)))
      go (over u v x y l nt ns) ih = rw (y, radios-in v (g ∷ trail) after) (ih (v ∷ after) ∙ rw x (omega (arith, rw (x, y) at one, from_out R u (v ∷ after), from_in R v after)))

  -- each path leaves R exactly once
  pub each_leaves_once : All (λ path. times_leaving R path ≡ 1) (paths_from site m)
  unfolding paths_from path_of
  each_leaves_once = all_map (λ path. times_leaving R path ≡ 1) (path_of site m) (starts site m) (λ v h. go v (whole valid flow v (starts_marked site m v h)))
    where
      go : (v : ℕ) → Arrived (network_of site) m (in_half v) (trail_of site m v) → leavings R site.S (radios_of (trail_of site m v) []) ≡ 1
      go v t = rw t.shape (so_far (in_half site.T) (t.before ∷ t.rest) [] t.back ∙ rw (from_in R site.T [], shut.goal_out))

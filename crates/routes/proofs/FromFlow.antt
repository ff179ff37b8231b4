-- Marks that are a flow of p units are p disjoint paths: those that DONE walks. Assumes nothing.
use mathlib.Core.Path.{◌≡◌, ◌∙◌}
use mathlib.Core.Bool.{true}
use Prim.Native.Nat.{ℕ}
use native.Mathlib.Omega.{arith}
use lib.ListN.{length, length-map}
use Rattle.basics.proofs.Lists.{all_map, any_two_map}
use Rattle.site.specs.Map.{Site, in_half, out_half}
use Rattle.site.specs.Paths.{Path, Disjoint, DisjointPaths}
use Rattle.site.proofs.Valid.{Valid}
use Rattle.menger.proofs.Network.{Marks}
use Rattle.menger.proofs.Flow.{Flow}
use Rattle.menger.proofs.Trail.{Arrived, Unbranched, unbranched, arrives, trails_apart}
use Rattle.routes.proofs.Split.{split_of}
use Rattle.routes.proofs.Starts.{starts_marked, starts_different, starts_number, onward_marked}
use Rattle.routes.proofs.Radios.{trail_path, trails_disjoint}
use Rattle.routes.proofs.Trails.{network_of, onward, trail_of, path_of, starts, paths_from}

module _ {site : Site} (valid : Valid site) {p : ℕ} {m : Marks} (flow : Flow (network_of site) p m) where
  -- DONE never has a choice on its way
  pub lines : Unbranched (network_of site) m (onward site m)
  lines = unbranched (split_of site valid) flow (onward site m) (onward_marked valid flow)

  -- each DONE that S sends comes to T
  pub whole : (v : ℕ) → m (out_half site.S) (in_half v) ≡ true → Arrived (network_of site) m (in_half v) (trail_of site m v)
  unfolding trail_of
  whole v e = arrives lines (in_half v) e

  -- what DONE walks is a path
  is_path : (v : ℕ) → m (out_half site.S) (in_half v) ≡ true → Path site (path_of site m v)
  unfolding path_of
  is_path v e = trail_path site m flow.on_steps (in_half v) (trail_of site m v) (whole v e)

  are_disjoint : (v v' : ℕ) → m (out_half site.S) (in_half v) ≡ true → m (out_half site.S) (in_half v') ≡ true → (v ≡ v' → ⊥) → Disjoint site.S site.T (path_of site m v) (path_of site m v')
  unfolding path_of
  are_disjoint v v' e e' other =
      trails_disjoint site m flow.on_steps v v' (trail_of site m v) (trail_of site m v') (whole v e) (whole v' e')
      (λ x h h' not_s not_T. other (omega (arith, trails_apart lines (whole v e) (whole v' e') x h h' not_s not_T))) other

  -- the paths that DONE walks are disjoint
  pub paths_disjoint : DisjointPaths site (paths_from site m)
  unfolding paths_from
  paths_disjoint = record {
    each = all_map (Path site) (path_of site m) (starts site m) (λ v h. is_path v (starts_marked site m v h));
    two = any_two_map (Disjoint site.S site.T) (path_of site m) (starts site m) (starts_different site m) (λ v v' h h'. are_disjoint v v' (starts_marked site m v h) (starts_marked site m v' h'));
  }

  -- a flow of p units has p paths
  pub paths_number : length (paths_from site m) ≡ p
  unfolding paths_from
  paths_number = length-map (starts site m) (path_of site m) ∙ starts_number valid flow

-- A flow gives as many disjoint paths as it has units, and where a round failed there are no more. Assumes nothing.
use mathlib.Core.Path.{◌≡◌}
use mathlib.Core.Bool.{Bool, true}
use mathlib.Core.List.{List}
use Prim.Native.Nat.{ℕ, ◌≤◌, ◌<◌}
use native.Mathlib.Omega.{arith}
use lib.ListN.{length}
use Rattle.basics.specs.Lists.{among}
use Rattle.basics.proofs.Lists.{different_below}
use Rattle.site.specs.Map.{Site, in_half, out_half}
use Rattle.site.specs.Paths.{DisjointPaths, Largest}
use Rattle.site.proofs.Valid.{Valid}
use Rattle.tokens.specs.Run.{cut_of}
use Rattle.menger.proofs.Network.{Marks, Shut}
use Rattle.menger.proofs.Flow.{Flow}
use Rattle.menger.proofs.Units.{marked_below}
use Rattle.routes.proofs.Split.{split_of}
use Rattle.routes.proofs.Starts.{starts_marked, starts_different, starts_number}
use Rattle.routes.proofs.Duality.{fewer_than_items}
use Rattle.routes.proofs.FromFlow.{paths_disjoint, paths_number}
use Rattle.routes.proofs.Cutting.{cut, cut_number}
use Rattle.routes.proofs.Trails.{network_of, starts, paths_from}

module _ {site : Site} (valid : Valid site) {p : ℕ} {m : Marks} (flow : Flow (network_of site) p m) where
  -- where p units flow there are p disjoint paths
  pub enough : (ps : List (List ℕ)) × (length ps ≡ p) × DisjointPaths site ps
  enough = (paths_from site m, paths_number valid flow, paths_disjoint valid flow)

  -- no flow has more units than there are radios
  pub few_units : p ≤ site.n
  few_units = omega (arith, starts_number valid flow, different_below (starts site m) site.n (starts_different site m) below)
    where
      below : (v : ℕ) → among v (starts site m) ≡ true → v < site.n
      below v h = let w = marked_below (split_of site valid) flow (out_half site.S) (in_half v) (starts_marked site m v h) in omega (arith, w.1)

  -- where a round has failed, p is the largest number of disjoint paths
  pub largest : {R : ℕ → Bool} → Shut (network_of site) m R → Largest site p
  largest {R} shut = record {
    some = paths_from site m;
    number = paths_number valid flow;
    good = paths_disjoint valid flow;
    most = λ ps family. omega (arith, cut_number valid flow shut, fewer_than_items site valid.few_radios (cut_of site R (paths_from site m)) (cut valid flow shut).each (cut valid flow shut).met ps family);
  }

-- Demand 2 of the survey, with names for its parts: the paths are real and disjoint, fewer than k come back exactly if no k exist,
-- and then the cut has one item for each path, which leaves the halves of the failed round once, and every route meets it.
use Rattle.std.specs.Prelude.{◌≡◌, List, [], ◌↔◌, ℕ, min, ◌<◌, length}
use Rattle.basics.specs.Lists.{All, InOrder}
use Rattle.site.specs.Paths.{DisjointPaths, Largest, Meets, Cut}
use Rattle.refusals.specs.Refusals.{Call}
use Rattle.tokens.specs.Run.{notes_of, times_leaving}
use Rattle.outcome.specs.Leaves.{run_of, paths_found, cut_found, outcome}

pub record Demand2 (call : Call) : Type 0 where
  -- each is a path from S to T of the map, goes through no handheld and repeats no radio; any two share none but the ends; the direct link serves one at most
  pub disjoint : DisjointPaths call.site (paths_found call)
  -- they are as many as the outcome says
  pub number : length (paths_found call) ≡ (outcome call).paths
  -- fewer than k come back exactly if no k disjoint paths exist
  pub fewer : ((outcome call).paths < call.k) ↔ ((paths : List (List ℕ)) → DisjointPaths call.site paths → length paths ≡ call.k → ⊥)
  -- with M the largest number of disjoint paths, min(k, M) come back
  pub largest : (M : ℕ) → Largest call.site M → (outcome call).paths ≡ min call.k M
  -- where fewer than k come back every route of the map meets the cut
  pub cut : (outcome call).paths < call.k → Cut call.site (cut_found call)
  -- and it has one item for each path, in path order
  pub in_order : (outcome call).paths < call.k → InOrder (Meets call.site) (cut_found call) (paths_found call)
  -- with R the halves entered in the last round, which failed, each path leaves R exactly once
  pub leaves_once : (outcome call).paths < call.k → All (λ (path : List ℕ). times_leaving (notes_of (run_of call).last).entered path ≡ 1) (paths_found call)
  -- a full run has no cut
  pub full : (outcome call).paths ≡ call.k → cut_found call ≡ []

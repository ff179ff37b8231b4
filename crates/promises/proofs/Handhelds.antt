-- A handheld stands inside no path of any survey, and with its handhelds made ordinary a map has at least as many paths. Assumes nothing.
use mathlib.Core.Path.{◌≡◌, refl, sym, ap, ◌∙◌, subst}
use mathlib.Core.Bool.{true, false}
use mathlib.Core.List.{List, [], ◌∷◌}
use Prim.Native.Nat.{ℕ, zero, suc, min, ◌+◌, ◌*◌, ◌≤◌, ◌<◌}
use native.Mathlib.Decide.{ℕ_discrete, dec_lt}
use native.Mathlib.Omega.{arith}
use lib.ListN.{length, get_or, set, length-set, get_or-eq_default}
use lib.Seq.{get_or-set_same, get_or-set_other}
use Rattle.basics.specs.Lists.{among, All}
use Rattle.basics.proofs.Bools.{clash, not_true→false}
use Rattle.basics.proofs.Lists.{all_follow}
use Rattle.basics.proofs.Places.{one_row_one_column}
use Rattle.site.specs.Map.{Site, linked, handheld, linked_on, passes}
use Rattle.site.specs.Paths.{LeadsToT, Path, DisjointPaths, Largest}
use Rattle.site.proofs.Steps.{passes-says, may_pass, linked-says}
use Rattle.refusals.specs.Refusals.{Call}
use Rattle.outcome.specs.declared.Outcome.{Outcome}
use Rattle.outcome.specs.Leaves.{paths_found, outcome}
use Rattle.demands.specs.Promise.{Promise}
use Rattle.promises.specs.Ordinary.{own_cleared, made_ordinary}

-- ---- the table with its own cells cleared

-- a cell that is set to 0 reads 0, also past the table's end
cleared : (table : List ℕ) (place : ℕ) → get_or (set table place 0) place 0 ≡ 0
cleared table place = go (dec_lt place (length table))
  where
    go : Dec (place < length table) → get_or (set table place 0) place 0 ≡ 0
    go (yes l) = get_or-set_same table place 0 0 l
    go (no l) = get_or-eq_default (set table place 0) 0 (simp length-set (omega arith))

module _ (n : ℕ) (table : List ℕ) where
  -- a cell off the diagonal stays
  others_stay : (u v w : ℕ) → v < n → w ≤ n → (u ≡ v → ⊥) → get_or (own_cleared n table w) (u * n + v) 0 ≡ get_or table (u * n + v) 0
  unfolding own_cleared
  others_stay u v zero below within differ = refl
  others_stay u v (suc w) below within differ = get_or-set_other (own_cleared n table w) (w * n + w) (u * n + v) _ 0 apart ∙ others_stay u v w below (omega arith) differ
    where
      apart : u * n + v ≡ w * n + w → ⊥
      apart e = let s = one_row_one_column n u v w w below (omega arith) e in differ (s.0 ∙ sym s.1)

  -- an own cell is 0
  own_zero : (v w : ℕ) → v < w → get_or (own_cleared n table w) (v * n + v) 0 ≡ 0
  unfolding own_cleared
  own_zero v zero l = absurd (omega arith)
  own_zero v (suc w) l = go (ℕ_discrete (v * n + v) (w * n + w)) (own_zero v w)
    where
      go : Dec (v * n + v ≡ w * n + w) → (v < w → get_or (own_cleared n table w) (v * n + v) 0 ≡ 0) → get_or (set (own_cleared n table w) (w * n + w) 0) (v * n + v) 0 ≡ 0
      go (yes e) before = rw e (cleared (own_cleared n table w) (w * n + w))
      go (no d) before = get_or-set_other (own_cleared n table w) (w * n + w) (v * n + v) _ 0 d ∙ before (go_on (ℕ_discrete v w))
        where
          go_on : Dec (v ≡ w) → v < w
          go_on (yes e) = absurd (d (ap (λ (x : ℕ). x * n + x) e))
          go_on (no other) = omega arith

-- ---- every path of the map is one of the map with its handhelds made ordinary

module _ (site : Site) where
  still_linked : (u v : ℕ) → linked_on site u v ≡ true → linked_on (made_ordinary site) u v ≡ true
  unfolding linked
  still_linked u v e =
      let w = linked-says site u v e in
      rw (others_stay site.n site.table u v site.n w.to_below (omega arith) w.differ) e

  still_leads : (u : ℕ) (rest : List ℕ) → LeadsToT site u rest → LeadsToT (made_ordinary site) u rest
  still_leads u [] leads = leads
  still_leads u (v ∷ rest) leads = (still_linked u v leads.0, still_leads v rest leads.1)

  still_passes : (v : ℕ) → passes site v ≡ true → passes (made_ordinary site) v ≡ true
  unfolding handheld
  still_passes v e =
      let w = passes-says site v e in
      may_pass (made_ordinary site) v (record { below = w.below; not_s = w.not_s; not_T = w.not_T; ordinary = rw (own_zero site.n site.table v site.n w.below) refl })

  still_path : (p : List ℕ) → Path site p → Path (made_ordinary site) p
  still_path p path =
      record {
        rest = path.rest;
        from-S = path.from-S;
        to-T = still_leads site.S path.rest path.to-T;
        different = path.different;
        inner = λ v on not_s not_T. still_passes v (path.inner v on not_s not_T);
      }

  still_disjoint : (ps : List (List ℕ)) → DisjointPaths site ps → DisjointPaths (made_ordinary site) ps
  still_disjoint ps disjoint = record { each = all_follow (Path site) (Path (made_ordinary site)) still_path ps disjoint.each; two = disjoint.two }

  -- so it has at least as many disjoint paths
  pub more_with_ordinary : (M M' : ℕ) → Largest site M → Largest (made_ordinary site) M' → M ≤ M'
  more_with_ordinary M M' largest largest' = omega (arith, largest.number, largest'.most largest.some (still_disjoint largest.some largest.good))

-- ---- in a caller's words

module _ {call : Call} {numbers : Outcome} {log paths cut : List ℕ} (promise : Promise call numbers log paths cut) (accepted : numbers.refusal ≡ 0) where
  taken : (outcome call).refusal ≡ 0
  taken = sym (ap (λ (o : Outcome). o.refusal) promise.numbers_are) ∙ accepted

  -- a handheld stands inside no path of any survey
  pub never_inside : (v : ℕ) → handheld call.site.table call.site.n v ≡ true → (v ≡ call.site.S → ⊥) → (v ≡ call.site.T → ⊥) → All (λ (path : List ℕ). among v path ≡ false) (paths_found call)
  never_inside v held not_s not_T =
      all_follow (Path call.site) (λ (path : List ℕ). among v path ≡ false)
      (λ p path. not_true→false _ (λ on. clash held (passes-says call.site v (path.inner v on not_s not_T)).ordinary))
      (paths_found call) (promise.demand_2 taken).disjoint.each

  -- as many paths are found as there are, up to k
  found : (M : ℕ) → Largest call.site M → numbers.paths ≡ min call.k M
  found M largest = ap (λ (o : Outcome). o.paths) promise.numbers_are ∙ (promise.demand_2 taken).largest M largest

-- a survey of the map with its handhelds made ordinary finds at least as many paths
pub finds_more : {call call' : Call} {numbers numbers' : Outcome} {log paths cut log' paths' cut' : List ℕ} → Promise call numbers log paths cut → Promise call' numbers' log' paths' cut'
    → numbers.refusal ≡ 0 → numbers'.refusal ≡ 0 → call'.site ≡ made_ordinary call.site → call'.k ≡ call.k → numbers.paths ≤ numbers'.paths
finds_more {call} {call'} promise promise' accepted accepted' site-is same-k =
    let M = (promise.demand_3 (taken promise accepted)).largest in
    let M' = (promise'.demand_3 (taken promise' accepted')).largest in
    let more : M.0 ≤ M'.0 = more_with_ordinary call.site M.0 M'.0 M.1 (subst (λ (site : Site). Largest site M'.0) site-is M'.1) in
    omega (arith, found promise accepted M.0 M.1, found promise' accepted' M'.0 M'.1)

-- The halves and steps of a site are a split network: an in half has one step out, an out half one step in. Assumes nothing.
use mathlib.Core.Path.{◌≡◌}
use mathlib.Core.Bool.{true}
use mathlib.Core.Logic.{◌⊎◌, inl, inr}
use Prim.Native.Nat.{ℕ, ◌%◌}
use native.Mathlib.Omega.{arith}
use native.Mathlib.Decide.{ℕ_discrete}
use Rattle.site.specs.Map.{Site, step, in_half, out_half}
use Rattle.site.proofs.Steps.{Step, inside, over, step_of, passes-says, step-below, one_way}
use Rattle.site.proofs.Valid.{Valid}
use Rattle.menger.proofs.Network.{Split}
use Rattle.routes.proofs.Trails.{network_of}

module _ (site : Site) where
  into_source : (a : ℕ) → Step site a (out_half site.S) → ⊥
  into_source a (inside v x y p) = (passes-says site v p).not_s (omega arith)
  into_source a (over u v x y e nt ns) = omega arith

  from_goal : (b : ℕ) → Step site (in_half site.T) b → ⊥
  from_goal b (inside v x y p) = (passes-says site v p).not_T (omega arith)
  from_goal b (over u v x y e nt ns) = omega arith

  one_step_out : (h a b : ℕ) → h % 2 ≡ 0 → Step site h a → Step site h b → a ≡ b
  one_step_out h a b even (inside v x y p) (inside v' x' y' p') = omega arith
  one_step_out h a b even (inside v x y p) (over u' v' x' y' e' nt' ns') = omega arith
  one_step_out h a b even (over u v x y e nt ns) other = omega arith

  one_step_in : (h a b : ℕ) → (h % 2 ≡ 0 → ⊥) → Step site a h → Step site b h → a ≡ b
  one_step_in h a b odd (inside v x y p) (inside v' x' y' p') = omega arith
  one_step_in h a b odd (inside v x y p) (over u' v' x' y' e' nt' ns') = omega arith
  one_step_in h a b odd (over u v x y e nt ns) other = absurd (odd (omega arith))

  -- the map of a valid site is a split network
  pub split_of : Valid site → Split (network_of site)
  split_of valid = record {
    from_below = λ a b e. (step-below site a b (step_of site a b e)).0;
    to_below = λ a b e. (step-below site a b (step_of site a b e)).1;
    one_way = λ a b e f. one_way site a b (step_of site a b e) (step_of site b a f);
    none_into_source = λ a e. into_source a (step_of site a _ e);
    none_from_goal = λ b e. from_goal b (step_of site _ b e);
    source_below = omega (arith, valid.S_below);
    ends_differ = λ e. omega arith;
    narrow = λ h ns nt. narrow h (ℕ_discrete (h % 2) 0);
  }
    where
      narrow : (h : ℕ) → Dec (h % 2 ≡ 0) → ((a b : ℕ) → step site h a ≡ true → step site h b ≡ true → a ≡ b) ⊎ ((a b : ℕ) → step site a h ≡ true → step site b h ≡ true → a ≡ b)
      narrow h (yes even) = inl (λ a b e f. one_step_out h a b even (step_of site h a e) (step_of site h b f))
      narrow h (no odd) = inr (λ a b e f. one_step_in h a b odd (step_of site a h e) (step_of site b h f))

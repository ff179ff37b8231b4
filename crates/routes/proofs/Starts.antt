-- Where the paths of a flow start and how DONE goes on: as many starts as units, and from every half that it comes to a marked step on. Assumes nothing.
use mathlib.Core.Path.{◌≡◌, refl, ap}
use mathlib.Core.Bool.{Bool, true, false, cond}
use mathlib.Core.List.{◌∷◌}
use mathlib.Core.Logic.{◌⊎◌, inl, inr}
use Prim.Native.Nat.{ℕ, zero, suc, ◌+◌, ◌≤◌, ◌<◌}
use native.Mathlib.Omega.{arith}
use native.Mathlib.Decide.{ℕ_discrete}
use lib.ListN.{length}
use Rattle.basics.specs.Counting.{one_if, sum, count}
use Rattle.basics.specs.Lists.{among, Different}
use Rattle.basics.proofs.Bools.{clash, not_true→false}
use Rattle.basics.proofs.Counting.{sum-ext, sum-pairs, first_passes}
use Rattle.basics.proofs.Lists.{among-nil, among-here, among_there, among_cases}
use Rattle.site.specs.Map.{Site, in_half, out_half}
use Rattle.site.proofs.Steps.{Step, inside, over, step_of, step_to_out, linked-says, in_is_not_out, out_is_out}
use Rattle.site.proofs.Valid.{Valid}
use Rattle.tokens.specs.Rules.{next_marked}
use Rattle.menger.proofs.Network.{Marks}
use Rattle.menger.proofs.Flow.{Flow}
use Rattle.menger.proofs.Units.{goes_on, from_source}
use Rattle.routes.proofs.Split.{split_of}
use Rattle.routes.proofs.Trails.{network_of, onward, passing, starts}

-- ---- the numbers that pass a test

module _ (test : ℕ → Bool) where
  passing_says : (z i f : ℕ) → among z (passing test i f) ≡ true → (test z ≡ true) × (i ≤ z)
  unfolding passing
  passing_says z i zero h = absurd (among-nil z h)
  passing_says z i (suc f) h = go (test i) refl h (passing_says z (suc i) f)
    where
      go : (b : Bool) → test i ≡ b → among z (cond b (i ∷ passing test (suc i) f) (passing test (suc i) f)) ≡ true → (among z (passing test (suc i) f) ≡ true → (test z ≡ true) × (suc i ≤ z)) → (test z ≡ true) × (i ≤ z)
      go false e k ih = ((ih k).0, omega (arith, (ih k).1))
      go true e k ih = cases (among_cases z i (passing test (suc i) f) k)
        where
          cases : (z ≡ i) ⊎ (among z (passing test (suc i) f) ≡ true) → (test z ≡ true) × (i ≤ z)
          cases (inl u) = (rw u e, omega arith)
          cases (inr u) = ((ih u).0, omega (arith, (ih u).1))

  passing_holds : (z i f : ℕ) → test z ≡ true → i ≤ z → z < i + f → among z (passing test i f) ≡ true
  unfolding passing
  passing_holds z i zero h p q = absurd (omega arith)
  passing_holds z i (suc f) h p q = go (test i) refl (ℕ_discrete z i) (λ later. passing_holds z (suc i) f h later (omega arith))
    where
      go : (b : Bool) → test i ≡ b → Dec (z ≡ i) → (suc i ≤ z → among z (passing test (suc i) f) ≡ true) → among z (cond b (i ∷ passing test (suc i) f) (passing test (suc i) f)) ≡ true
      go true e (yes u) ih = rw u (among-here i (passing test (suc i) f))
      go true e (no u) ih = among_there z i (passing test (suc i) f) (ih (omega arith))
      go false e (yes u) ih = clash h (rw u e)
      go false e (no u) ih = ih (omega arith)

  passing_different : (i f : ℕ) → Different (passing test i f)
  unfolding passing
  passing_different i zero = tt
  passing_different i (suc f) = go (test i) (passing_different (suc i) f)
    where
      go : (b : Bool) → Different (passing test (suc i) f) → Different (cond b (i ∷ passing test (suc i) f) (passing test (suc i) f))
      go true d = (not_true→false _ (λ h. omega (arith, (passing_says i (suc i) f h).1)), d)
      go false d = d

  passing_length : (i f : ℕ) → count test i + length (passing test i f) ≡ count test (i + f)
  unfolding passing sum
  passing_length i zero = omega (arith, ap (count test) same)
    where
      same : i ≡ i + 0
      same = omega arith
  passing_length i (suc f) = go (test i) refl (passing_length (suc i) f)
    where
      same : suc i + f ≡ i + suc f
      same = omega arith

      go : (b : Bool) → test i ≡ b → count test (suc i) + length (passing test (suc i) f) ≡ count test (suc i + f) → count test i + length (cond b (i ∷ passing test (suc i) f) (passing test (suc i) f)) ≡ count test (i + suc f)
      go true e ih = omega (arith, ap one_if e, ap (count test) same)
      go false e ih = omega (arith, ap one_if e, ap (count test) same)

module _ (site : Site) (m : Marks) where
  -- ---- the radios that S sends DONE to

  -- each has a marked step from S
  pub starts_marked : (v : ℕ) → among v (starts site m) ≡ true → m (out_half site.S) (in_half v) ≡ true
  unfolding starts
  starts_marked v h = (passing_says (λ v. m (out_half site.S) (in_half v)) v 0 site.n h).0

  -- each with a marked step from S is one
  pub marked_starts : (v : ℕ) → v < site.n → m (out_half site.S) (in_half v) ≡ true → among v (starts site m) ≡ true
  unfolding starts
  marked_starts v below e = passing_holds (λ v. m (out_half site.S) (in_half v)) v 0 site.n e (omega arith) (omega arith)

  -- none is there twice
  pub starts_different : Different (starts site m)
  unfolding starts
  starts_different = passing_different (λ v. m (out_half site.S) (in_half v)) 0 site.n

  -- ---- where DONE goes

  -- an in half passes DONE to its own out half
  onward_in : (v : ℕ) → onward site m (in_half v) ≡ out_half v
  unfolding onward
  onward_in v = rw (in_is_not_out v)

  -- an out half passes it to the first radio with a marked step from it
  onward_out : (u : ℕ) → onward site m (out_half u) ≡ in_half (next_marked site m (out_half u) 0)
  unfolding onward
  onward_out u = rw (out_is_out u)

  -- that radio is found where there is one
  next_found : (h v : ℕ) → v < site.n → m h (in_half v) ≡ true → m h (in_half (next_marked site m h 0)) ≡ true
  unfolding next_marked
  next_found h v below e = first_passes (λ w. m h (in_half w)) v site.n below e

module _ {site : Site} (valid : Valid site) {p : ℕ} {m : Marks} (flow : Flow (network_of site) p m) where
  -- a flow of p units has p starts
  pub starts_number : length (starts site m) ≡ p
  unfolding starts sum
  starts_number = omega (
    arith,
    passing_length (λ v. m (out_half site.S) (in_half v)) 0 site.n,
    ap (count (λ v. m (out_half site.S) (in_half v))) all,
    from_source (split_of site valid) flow,
    sum-pairs (λ b. one_if (m (out_half site.S) b)) site.n,
    sum-ext (λ v. one_if (m (out_half site.S) (in_half v)) + one_if (m (out_half site.S) (out_half v))) (λ v. one_if (m (out_half site.S) (in_half v))) site.n (λ v q. omega (arith, ap one_if (none_out v))),
  )
    where
      all : 0 + site.n ≡ site.n
      all = omega arith

      none_out : (v : ℕ) → m (out_half site.S) (out_half v) ≡ false
      none_out v = not_true→false _ (λ e. clash (flow.on_steps _ _ e) (step_to_out site site.S v))

  -- a marked step from S leads to the in half of a radio
  pub start_of : (z : ℕ) → m (out_half site.S) z ≡ true → (v : ℕ) × (z ≡ in_half v) × (v < site.n)
  start_of z e = go (step_of site (out_half site.S) z (flow.on_steps (out_half site.S) z e))
    where
      go : Step site (out_half site.S) z → (v : ℕ) × (z ≡ in_half v) × (v < site.n)
      go (inside v x y below) = absurd (omega arith)
      go (over u v x y l nt ns) = (v, y, (linked-says site u v l).to_below)

  -- where DONE comes to, but T's in half, the step that it takes next is marked
  pub onward_marked : (a h : ℕ) → m a h ≡ true → (h ≡ in_half site.T → ⊥) → m h (onward site m h) ≡ true
  onward_marked a h e not_T = go (goes_on (split_of site valid) flow a h e not_T)
    where
      go : (b : ℕ) × (m h b ≡ true) → m h (onward site m h) ≡ true
      go on = by (step_of site h on.0 (flow.on_steps h on.0 on.1))
        where
          by : Step site h on.0 → m h (onward site m h) ≡ true
          by (inside v x y q) = rw (x, onward_in site m v) (rw (x, y) at on.1)
          by (over u v x y l nt ns) = rw (x, onward_out site m u) (next_found site m (out_half u) v (linked-says site u v l).to_below (rw (x, y) at on.1))

-- From trails of halves to paths of radios: a whole trail is a path, and trails that share only their ends are disjoint paths. Assumes nothing.
use mathlib.Core.Path.{◌≡◌, refl, sym, ◌∙◌}
use mathlib.Core.Bool.{true, cond}
use mathlib.Core.List.{List, [], ◌∷◌, head-eq_of_cons-eq, tail-eq_of_cons-eq}
use mathlib.Core.Logic.{◌⊎◌, inl, inr}
use Prim.Native.Nat.{ℕ, ◌%◌}
use native.Mathlib.Omega.{arith}
use native.Mathlib.Decide.{ℕ_discrete}
use Rattle.basics.specs.Lists.{among, Different}
use Rattle.basics.proofs.Bools.{clash, not_true→false}
use Rattle.basics.proofs.Lists.{among-nil, among-here, among_there, among_cases, among_one}
use Rattle.site.specs.Map.{Site, in_half, out_half, radio_of, is_out, passes, step}
use Rattle.site.specs.Paths.{LeadsToT, Path, Disjoint}
use Rattle.site.proofs.Steps.{Step, inside, over, step_of, in_is_not_out, out_is_out, radio_of_in, radio_of_out}
use Rattle.menger.proofs.Network.{Marks}
use Rattle.menger.proofs.Trail.{Back, first, Arrived}
use Rattle.routes.proofs.Trails.{network_of, radios_of}

-- ---- half by half

-- every half is the in half or the out half of a radio
half_of : (h : ℕ) → ((v : ℕ) × (h ≡ in_half v)) ⊎ ((v : ℕ) × (h ≡ out_half v))
half_of h = go (ℕ_discrete (h % 2) 0)
  where
    go : Dec (h % 2 ≡ 0) → ((v : ℕ) × (h ≡ in_half v)) ⊎ ((v : ℕ) × (h ≡ out_half v))
    go (yes even) = inl (radio_of h, omega arith)
    go (no odd) = inr (radio_of h, omega arith)

-- an in half puts its radio in front
pub radios-in : (v : ℕ) (trail after : List ℕ) → radios_of (in_half v ∷ trail) after ≡ radios_of trail (v ∷ after)
unfolding radios_of
radios-in v trail after = rw (in_is_not_out v, radio_of_in v)

-- an out half puts nothing
pub radios_out : (v : ℕ) (trail after : List ℕ) → radios_of (out_half v ∷ trail) after ≡ radios_of trail after
unfolding radios_of
radios_out v trail after = rw (out_is_out v)

-- ---- no radio twice

radios_among : (w : ℕ) (trail after : List ℕ) → among w (radios_of trail after) ≡ true → (among w after ≡ true) ⊎ (among (in_half w) trail ≡ true)
unfolding radios_of
radios_among w [] after k = inl k
radios_among w (h ∷ trail) after k = go (half_of h) (λ after'. radios_among w trail after')
  where
    later : (among w after ≡ true) ⊎ (among (in_half w) trail ≡ true) → (among w after ≡ true) ⊎ (among (in_half w) (h ∷ trail) ≡ true)
    later (inl e) = inl e
    later (inr e) = inr (among_there (in_half w) h trail e)

    this : (v : ℕ) → h ≡ in_half v → (among w (v ∷ after) ≡ true) ⊎ (among (in_half w) trail ≡ true) → (among w after ≡ true) ⊎ (among (in_half w) (h ∷ trail) ≡ true)
    this v x (inr e) = later (inr e)
    this v x (inl e) = cases (among_cases w v after e)
      where
        cases : (w ≡ v) ⊎ (among w after ≡ true) → (among w after ≡ true) ⊎ (among (in_half w) (h ∷ trail) ≡ true)
        cases (inl u) = inr (rw (u, x) (among-here (in_half v) trail))
        cases (inr u) = inl u

    go : ((v : ℕ) × (h ≡ in_half v)) ⊎ ((v : ℕ) × (h ≡ out_half v)) → ((after' : List ℕ) → among w (radios_of trail after') ≡ true → (among w after' ≡ true) ⊎ (among (in_half w) trail ≡ true)) → (among w after ≡ true) ⊎ (among (in_half w) (h ∷ trail) ≡ true)
    go (inl i) ih = this i.0 i.1 (ih (i.0 ∷ after) (rw (i.1, radios-in i.0 trail after) at k))
    go (inr o) ih = later (ih after (rw (o.1, radios_out o.0 trail after) at k))

radios_different : (trail after : List ℕ) → Different trail → Different after → ((w : ℕ) → among w after ≡ true → among (in_half w) trail ≡ true → ⊥) → Different (radios_of trail after)
unfolding radios_of
radios_different [] after d d' new = d'
radios_different (h ∷ trail) after d d' new = go (half_of h) (λ after'. radios_different trail after' d.1)
  where
    this : (v : ℕ) → h ≡ in_half v → among v after ≡ true → ⊥
    this v x a = new v a (rw x (among-here (in_half v) trail))

    later : (v : ℕ) → h ≡ in_half v → (w : ℕ) → among (in_half w) trail ≡ true → (w ≡ v) ⊎ (among w after ≡ true) → ⊥
    later v x w b (inl u) = clash (rw u at b) (rw x at d.0)
    later v x w b (inr u) = new w u (among_there (in_half w) h trail b)

    go : ((v : ℕ) × (h ≡ in_half v)) ⊎ ((v : ℕ) × (h ≡ out_half v)) → ((after' : List ℕ) → Different after' → ((w : ℕ) → among w after' ≡ true → among (in_half w) trail ≡ true → ⊥) → Different (radios_of trail after')) → Different (radios_of (h ∷ trail) after)
    go (inl i) ih = rw (i.1, radios-in i.0 trail after) (ih (i.0 ∷ after) (not_true→false _ (this i.0 i.1), d') (λ w a b. later i.0 i.1 w b (among_cases w i.0 after a)))
    go (inr o) ih = rw (o.1, radios_out o.0 trail after) (ih after d' (λ w a b. new w a (among_there (in_half w) h trail b)))

-- ---- from S to T

module _ (site : Site) (m : Marks) (on : (a b : ℕ) → m a b ≡ true → step site a b ≡ true) where
  -- each radio is linked to the next
  leads : (h : ℕ) (trail after : List ℕ) → Back m (out_half site.S) (h ∷ trail) → LeadsToT site (radio_of h) after → LeadsToT site site.S (radios_of (h ∷ trail) after)
  unfolding radios_of
  leads h [] after back w = rw (back, radios_out site.S [] after) (rw (back, radio_of_out site.S) at w)
  leads h (g ∷ trail) after back w = go (step_of site g h (on g h back.0)) (λ after'. leads g trail after' back.1)
    where
      go : Step site g h → ((after' : List ℕ) → LeadsToT site (radio_of g) after' → LeadsToT site site.S (radios_of (g ∷ trail) after')) → LeadsToT site site.S (radios_of (h ∷ g ∷ trail) after)
      go (inside v x y p) ih = let same : radio_of h ≡ radio_of g = omega arith in rw (y, radios_out v (g ∷ trail) after) (ih after (rw same at w))
      go (over u v x y e nt ns) ih =
          let from : radio_of g ≡ u = omega arith in
          let to : radio_of h ≡ v = omega arith in
          rw (y, radios-in v (g ∷ trail) after) (ih (v ∷ after) (rw from (e, rw to at w)))

  -- no trail comes to S's in half
  not_to_s : (trail : List ℕ) → Back m (out_half site.S) trail → among (in_half site.S) trail ≡ true → ⊥
  not_to_s [] back h = back
  not_to_s (x ∷ []) back h = let e : in_half site.S ≡ x = among_one (in_half site.S) x h in omega arith
  not_to_s (x ∷ (y ∷ trail)) back h = go (among_cases (in_half site.S) x (y ∷ trail) h) (not_to_s (y ∷ trail) back.1)
    where
      never : Step site y x → in_half site.S ≡ x → ⊥
      never (inside v a b p) e = omega arith
      never (over u v a b l nt ns) e = ns (omega arith)

      go : (in_half site.S ≡ x) ⊎ (among (in_half site.S) (y ∷ trail) ≡ true) → (among (in_half site.S) (y ∷ trail) ≡ true → ⊥) → ⊥
      go (inl e) ih = never (step_of site y x (on y x back.0)) e
      go (inr e) ih = ih e

  -- a trail goes on from an in half only inside a radio that passes
  passes_on : (h : ℕ) (trail : List ℕ) → Back m (out_half site.S) (h ∷ trail) → (w : ℕ) → among (in_half w) trail ≡ true → passes site w ≡ true
  passes_on h [] back w k = absurd (among-nil (in_half w) k)
  passes_on h (g ∷ trail) back w k = go (among_cases (in_half w) g trail k) (passes_on g trail back.1 w)
    where
      by : Step site g h → in_half w ≡ g → passes site w ≡ true
      by (inside v x y p) e = let same : w ≡ v = omega arith in rw same p
      by (over u v x y l nt ns) e = absurd (omega arith)

      go : (in_half w ≡ g) ⊎ (among (in_half w) trail ≡ true) → (among (in_half w) trail ≡ true → passes site w ≡ true) → passes site w ≡ true
      go (inl e) ih = by (step_of site g h (on g h back.0)) e
      go (inr e) ih = ih e

  -- the radios of a whole trail are a path
  pub trail_path : (z : ℕ) (trail : List ℕ) → Arrived (network_of site) m z trail → Path site (site.S ∷ radios_of trail [])
  trail_path z trail whole = rw whole.shape (record {
    rest = radios_of halves [];
    from-S = refl;
    to-T = leads (in_half site.T) (whole.before ∷ whole.rest) [] whole.back (radio_of_in site.T);
    different = (not_true→false _ (λ h. never (radios_among site.S halves [] h)), radios_different halves [] whole.once tt (λ w h. absurd (among-nil w h)));
    inner = λ v h not_s not_T. between v not_s not_T (among_cases v site.S (radios_of halves []) h);
  })
    where
      halves : List ℕ
      halves = in_half site.T ∷ whole.before ∷ whole.rest

      between : (v : ℕ) → (v ≡ site.S → ⊥) → (v ≡ site.T → ⊥) → (v ≡ site.S) ⊎ (among v (radios_of halves []) ≡ true) → passes site v ≡ true
      between v not_s not_T (inl e) = absurd (not_s e)
      between v not_s not_T (inr h) = on_trail (radios_among v halves [] h)
        where
          later : (in_half v ≡ in_half site.T) ⊎ (among (in_half v) (whole.before ∷ whole.rest) ≡ true) → passes site v ≡ true
          later (inl e) = absurd (not_T (omega arith))
          later (inr k) = passes_on (in_half site.T) (whole.before ∷ whole.rest) whole.back v k

          on_trail : (among v [] ≡ true) ⊎ (among (in_half v) halves ≡ true) → passes site v ≡ true
          on_trail (inl e) = absurd (among-nil v e)
          on_trail (inr k) = later (among_cases (in_half v) (in_half site.T) (whole.before ∷ whole.rest) k)

      never : (among site.S [] ≡ true) ⊎ (among (in_half site.S) halves ≡ true) → ⊥
      never (inl e) = among-nil site.S e
      never (inr e) = not_to_s halves whole.back e

  -- the first radio after S
  begins_with : (v x y : ℕ) (trail after : List ℕ) → Back m (out_half site.S) (x ∷ y ∷ trail) → first (x ∷ y ∷ trail) ≡ in_half v → (rest : List ℕ) × (radios_of (x ∷ y ∷ trail) after ≡ v ∷ rest)
  unfolding first radios_of
  begins_with v x y [] after back e = (after, rw (e, back.1) (radios-in v (out_half site.S ∷ []) after ∙ radios_out site.S [] (v ∷ after)))
  begins_with v x y (z ∷ trail) after back e = begins_with v y z trail (cond (is_out x) after (radio_of x ∷ after)) back.1 e

  -- two whole trails that begin with different radios and share only their ends are disjoint paths
  pub trails_disjoint : (v v' : ℕ) (trail trail' : List ℕ) → Arrived (network_of site) m (in_half v) trail → Arrived (network_of site) m (in_half v') trail'
      → ((x : ℕ) → among x trail ≡ true → among x trail' ≡ true → (x ≡ out_half site.S → ⊥) → (x ≡ in_half site.T → ⊥) → ⊥) → (v ≡ v' → ⊥) → Disjoint site.S site.T (site.S ∷ radios_of trail []) (site.S ∷ radios_of trail' [])
  trails_disjoint v v' trail trail' whole whole' apart other = record {
    differ = λ e. other (head-eq_of_cons-eq (sym (starts v trail whole).1 ∙ tail-eq_of_cons-eq e ∙ (starts v' trail' whole').1));
    apart = λ x h h'. go x (among_cases x site.S (radios_of trail []) h) (among_cases x site.S (radios_of trail' []) h');
  }
    where
      starts : (v : ℕ) (trail : List ℕ) → Arrived (network_of site) m (in_half v) trail → (rest : List ℕ) × (radios_of trail [] ≡ v ∷ rest)
      starts v trail whole = rw whole.shape (begins_with v (in_half site.T) whole.before whole.rest [] whole.back (rw whole.shape at whole.begins))

      on_trail : (x : ℕ) (trail : List ℕ) → among x (radios_of trail []) ≡ true → among (in_half x) trail ≡ true
      on_trail x trail h = cases (radios_among x trail [] h)
        where
          cases : (among x [] ≡ true) ⊎ (among (in_half x) trail ≡ true) → among (in_half x) trail ≡ true
          cases (inl e) = absurd (among-nil x e)
          cases (inr e) = e

      shared : (x : ℕ) → among (in_half x) trail ≡ true → among (in_half x) trail' ≡ true → Dec (x ≡ site.T) → (x ≡ site.S) ⊎ (x ≡ site.T)
      shared x h h' (yes e) = inr e
      shared x h h' (no e) = absurd (apart (in_half x) h h' (λ u. omega arith) (λ u. e (omega arith)))

      go : (x : ℕ) → (x ≡ site.S) ⊎ (among x (radios_of trail []) ≡ true) → (x ≡ site.S) ⊎ (among x (radios_of trail' []) ≡ true) → (x ≡ site.S) ⊎ (x ≡ site.T)
      go x (inl e) h' = inl e
      go x (inr h) (inl e) = inl e
      go x (inr h) (inr h') = shared x (on_trail x trail h) (on_trail x trail' h') (ℕ_discrete x site.T)

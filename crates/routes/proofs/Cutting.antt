-- A round that failed leaves a cut: one item for each path, and every path of the map meets one. Assumes nothing.
use mathlib.Core.Path.{◌≡◌, refl, sym, ap, ◌∙◌}
use mathlib.Core.Bool.{Bool, true, false, cond}
use mathlib.Core.List.{List, [], ◌∷◌, map-map}
use mathlib.Core.Logic.{◌⊎◌, inl, inr}
use Prim.Native.Nat.{ℕ, ◌<◌}
use lib.Dec.{eqb}
use lib.ListN.{length, length-map}
use borrow.Author.Tests.{eqb-true, eqb-false}
use Rattle.basics.specs.Lists.{InOrder, among, Different, All, AnyTwo}
use Rattle.basics.proofs.Bools.{clash, not_true→false}
use Rattle.basics.proofs.Lists.{◌⊆◌, among-nil, among-here, among_there, among_cases, among-map}
use Rattle.site.specs.Map.{Site, in_half, out_half, radio_of, is_out, step}
use Rattle.site.specs.Paths.{LeadsToT, InnerPass, Path, Disjoint, CutItem, Meets, Cut}
use Rattle.site.proofs.Steps.{Step, inside, over, step_of, inside-step, over_step, linked-says, in_is_not_out, out_is_out, radio_of_in, radio_of_out}
use Rattle.site.proofs.Valid.{Valid}
use Rattle.tokens.specs.Run.{at_link, cut_item, item_of, cut_of}
use Rattle.menger.proofs.Network.{Marks, Shut}
use Rattle.menger.proofs.Flow.{Flow}
use Rattle.menger.proofs.Trail.{Back, Beside, led}
use Rattle.menger.proofs.Leaving.{none_enters, on_a_trail}
use Rattle.routes.proofs.Duality.{meets_one, leads_to_T}
use Rattle.routes.proofs.Radios.{radios-in, radios_out}
use Rattle.routes.proofs.Split.{split_of}
use Rattle.routes.proofs.Starts.{marked_starts, start_of}
use Rattle.routes.proofs.FromFlow.{lines, whole, paths_disjoint, paths_number}
use Rattle.routes.proofs.Trails.{network_of, trail_of, radios_of, path_of, starts, paths_from}

-- ---- the item of a step

-- what is cut where a path leaves R from half y to half x
unfoldable item_at : Site → ℕ → ℕ → ℕ
item_at site y x = cond (is_out y) (at_link (eqb (radio_of x) site.T) (eqb (radio_of y) site.S) (radio_of y) (radio_of x)) (radio_of y)

item_inside : (site : Site) (v : ℕ) → item_at site (in_half v) (out_half v) ≡ v
unfolding item_at
item_inside site v = rw (in_is_not_out v) (radio_of_in v)

item_over : (site : Site) (u v : ℕ) → item_at site (out_half u) (in_half v) ≡ at_link (eqb v site.T) (eqb u site.S) u v
unfolding item_at
item_over site u v = rw (out_is_out u, radio_of_out u, radio_of_in v)

-- ---- every path of the map leaves R

module _ {site : Site} (valid : Valid site) {m : Marks} {R : ℕ → Bool} (shut : Shut (network_of site) m R) where
  -- the path leaves R over a step that the item names
  record LeavesAt (p : List ℕ) (item : ℕ) : Type 0 where
    from : ℕ
    to : ℕ
    over : step site from to ≡ true
    in_r : R from ≡ true
    not_in_r : R to ≡ false
    named : item ≡ item_at site from to
    sound : CutItem site item
    meets : Meets site item p

  -- radio u of the path p, its out half in R, and the radios after it
  leave : (p : List ℕ) (u : ℕ) (rest : List ℕ) → LeadsToT site u rest → R (out_half u) ≡ true → u < site.n → (u ≡ site.T → ⊥) → among u p ≡ true → rest ⊆ p → InnerPass site p → ((x : ℕ) → among x rest ≡ true → x ≡ site.S → ⊥)
      → (u ≡ site.S → (r : List ℕ) → rest ≡ site.T ∷ r → p ≡ site.S ∷ site.T ∷ []) → LeavesAt p (cut_item site R u rest)
  unfolding cut_item
  leave p u [] w i below not_T on after inner no-S direct = absurd (not_T w)
  leave p u (v ∷ rest) w i below not_T on after inner no-S direct =
      go (R (in_half v)) refl (R (out_half v)) refl (λ i' not-T'. leave p v rest w.1 i' v_below not-T' v_on (λ x h. after x (among_there x v rest h)) inner (λ x h. no-S x (among_there x v rest h)) (λ e. absurd (v_not_s e)))
    where
      v_below : v < site.n
      v_below = (linked-says site u v w.0).to_below

      v_on : among v p ≡ true
      v_on = after v (among-here v rest)

      v_not_s : v ≡ site.S → ⊥
      v_not_s = no-S v (among-here v rest)

      across : (to_t from_s : Bool) → eqb v site.T ≡ to_t → eqb u site.S ≡ from_s → CutItem site (at_link to_t from_s u v) × Meets site (at_link to_t from_s u v) p
      across false from_s e f = (inl (v_below, v_not_s, eqb-false _ _ e), inl (v_below, v_on))
      across true false e f = (inl (below, eqb-false _ _ f, not_T), inl (below, on))
      across true true e f =
          let to-T : v ≡ site.T = eqb-true _ _ e in
          let from-S : u ≡ site.S = eqb-true _ _ f in
          (inr (refl, rw (from-S, to-T) at w.0), inr (refl, direct from-S rest (rw to-T)))

      go : (a : Bool) → R (in_half v) ≡ a → (b : Bool) → R (out_half v) ≡ b → (R (out_half v) ≡ true → (v ≡ site.T → ⊥) → LeavesAt p (cut_item site R v rest))
          → LeavesAt p (cond a (cond b (cut_item site R v rest) v) (at_link (eqb v site.T) (eqb u site.S) u v))
      go false e b f ih =
          let item = across (eqb v site.T) (eqb u site.S) refl refl in
          record { from = out_half u; to = in_half v; over = over_step site u v w.0 not_T v_not_s; in_r = i; not_in_r = e; named = sym (item_over site u v); sound = item.0; meets = item.1 }
      go true e false f ih =
          let v-not-T : v ≡ site.T → ⊥ = λ q. clash (rw q at e) shut.goal_out in
          record { from = in_half v; to = out_half v; over = inside-step site v (inner v v_on v_not_s v-not-T); in_r = e; not_in_r = f; named = sym (item_inside site v); sound = inl (v_below, v_not_s, v-not-T); meets = inl (v_below, v_on) }
      go true e true f ih = ih f (λ (q : v ≡ site.T). clash (rw q at e) shut.goal_out)

  -- a path of the map leaves R at its item
  path_leaves : (p : List ℕ) → Path site p → LeavesAt p (item_of site R p)
  unfolding item_of
  path_leaves p path =
      rw path.from-S (leave (site.S ∷ rest) site.S rest path.to-T shut.source_in valid.S_below valid.ends_differ (among-here site.S rest) (λ x h. among_there x site.S rest h) (λ x h. path.inner x (rw path.from-S h))
      (λ x h e. clash (rw e at h) once.0) (λ e r f. rw f (ap (λ (end : List ℕ). site.S ∷ site.T ∷ end) (last r f))))
    where
      rest : List ℕ
      rest = path.rest

      once : Different (site.S ∷ path.rest)
      once = rw path.from-S at path.different

      -- nothing comes after T
      last : (r : List ℕ) → path.rest ≡ site.T ∷ r → r ≡ []
      last [] f = refl
      last (x ∷ r) f =
          let w : LeadsToT site site.S (site.T ∷ x ∷ r) = rw f at path.to-T in
          let d : Different (site.S ∷ site.T ∷ x ∷ r) = rw f at once in
          clash (leads_to_T site site.T x r w.1) d.1.0

  -- the items of paths are items of a cut
  items_sound : (ps : List (List ℕ)) → All (Path site) ps → All (CutItem site) (cut_of site R ps)
  items_sound [] each = tt
  items_sound (p ∷ ps) each = ((path_leaves p each.0).sound, items_sound ps each.1)

  items_in_order : (ps : List (List ℕ)) → All (Path site) ps → InOrder (Meets site) (cut_of site R ps) ps
  items_in_order [] each = tt
  items_in_order (p ∷ ps) each = ((path_leaves p each.0).meets, items_in_order ps each.1)

  -- those of disjoint paths are different
  items_different : (ps : List (List ℕ)) → All (Path site) ps → AnyTwo (Disjoint site.S site.T) ps → Different (cut_of site R ps)
  items_different [] each two = tt
  items_different (p ∷ ps) each two = (not_true→false _ (new ps each.1 two.0), items_different ps each.1 two.1)
    where
      leaves : LeavesAt p (item_of site R p)
      leaves = path_leaves p each.0

      new : (qs : List (List ℕ)) → All (Path site) qs → All (Disjoint site.S site.T p) qs → among (item_of site R p) (cut_of site R qs) ≡ true → ⊥
      new [] each apart h = among-nil (item_of site R p) h
      new (q ∷ qs) each apart h = go (among_cases (item_of site R p) (item_of site R q) (cut_of site R qs) h) (new qs each.1 apart.1)
        where
          go : (item_of site R p ≡ item_of site R q) ⊎ (among (item_of site R p) (cut_of site R qs) ≡ true) → (among (item_of site R p) (cut_of site R qs) ≡ true → ⊥) → ⊥
          go (inl e) ih = meets_one site valid.few_radios (item_of site R p) p q leaves.sound apart.0 leaves.meets (rw e (path_leaves q each.0).meets)
          go (inr e) ih = ih e

-- ---- the item of a trail

-- the item of a path that has come to half h, which is in R, with the radios after it
unfoldable item_from : Site → (ℕ → Bool) → ℕ → List ℕ → ℕ
item_from site R h after = cond (is_out h) (cut_item site R (radio_of h) after) (cond (R (out_half (radio_of h))) (cut_item site R (radio_of h) after) (radio_of h))

module _ (site : Site) (R : ℕ → Bool) where
  from_out : (u : ℕ) (after : List ℕ) → item_from site R (out_half u) after ≡ cut_item site R u after
  unfolding item_from
  from_out u after = rw (out_is_out u, radio_of_out u)

  from_in : (v : ℕ) (after : List ℕ) → item_from site R (in_half v) after ≡ cond (R (out_half v)) (cut_item site R v after) v
  unfolding item_from
  from_in v after = rw (in_is_not_out v, radio_of_in v)

  -- on from u's out half into v's in half
  goes_over : (u v : ℕ) (after : List ℕ) → R (in_half v) ≡ true → item_from site R (out_half u) (v ∷ after) ≡ item_from site R (in_half v) after
  unfolding cut_item
  goes_over u v after i = from_out u (v ∷ after) ∙ rw (i, from_in v after)

  -- on from v's in half into its out half
  goes_inside : (v : ℕ) (after : List ℕ) → R (out_half v) ≡ true → item_from site R (in_half v) after ≡ item_from site R (out_half v) after
  goes_inside v after i = from_in v after ∙ rw (i, from_out v after)

  -- over a step out of R
  stops_over : (u v : ℕ) (after : List ℕ) → R (in_half v) ≡ false → item_from site R (out_half u) (v ∷ after) ≡ item_at site (out_half u) (in_half v)
  unfolding cut_item
  stops_over u v after o = from_out u (v ∷ after) ∙ rw (o, item_over site u v)

  stops_inside : (v : ℕ) (after : List ℕ) → R (out_half v) ≡ false → item_from site R (in_half v) after ≡ item_at site (in_half v) (out_half v)
  stops_inside v after o = from_in v after ∙ rw (o, item_inside site v)

module _ {site : Site} (valid : Valid site) {p : ℕ} {m : Marks} (flow : Flow (network_of site) p m) {R : ℕ → Bool} (shut : Shut (network_of site) m R) where
  -- a trail to a half in R has not left R before
  not_yet : (h : ℕ) (trail after : List ℕ) → Back m (out_half site.S) (h ∷ trail) → R h ≡ true → cut_item site R site.S (radios_of (h ∷ trail) after) ≡ item_from site R h after
  unfolding radios_of
  not_yet h [] after back i = rw (back, radios_out site.S [] after, from_out site R site.S after)
  not_yet h (g ∷ trail) after back i = go (step_of site g h (flow.on_steps g h back.0)) (λ after'. not_yet g trail after' back.1 (none_enters flow shut g h back.0 i))
    where
      go : Step site g h → ((after' : List ℕ) → cut_item site R site.S (radios_of (g ∷ trail) after') ≡ item_from site R g after') → cut_item site R site.S (radios_of (h ∷ g ∷ trail) after) ≡ item_from site R h after
      go (inside v x y q) ih = rw (y, radios_out v (g ∷ trail) after) (ih after ∙ rw x (goes_inside site R v after (rw y at i)))
      go (over u v x y l nt ns) ih = rw (y, radios-in v (g ∷ trail) after) (ih (v ∷ after) ∙ rw x (goes_over site R u v after (rw y at i)))

  -- the item of a trail is that of the step over which it leaves R
  trail_item : (y x : ℕ) (trail after : List ℕ) → Back m (out_half site.S) trail → Beside y x trail → R y ≡ true → R x ≡ false → cut_item site R site.S (radios_of trail after) ≡ item_at site y x
  unfolding radios_of
  trail_item y x [] after back b i o = absurd b
  trail_item y x (h ∷ []) after back b i o = absurd b
  trail_item y x (h ∷ (g ∷ trail)) after back b i o = go b (λ after' b'. trail_item y x (g ∷ trail) after' back.1 b' i o)
    where
      here : Step site g h → R g ≡ true → R h ≡ false → cut_item site R site.S (radios_of (h ∷ g ∷ trail) after) ≡ item_at site g h
      here (inside v a c q) i' o' = rw (c, radios_out v (g ∷ trail) after) (not_yet g trail after back.1 i' ∙ rw a (stops_inside site R v after (rw c at o')))
      here (over u v a c l nt ns) i' o' = rw (c, radios-in v (g ∷ trail) after) (not_yet g trail (v ∷ after) back.1 i' ∙ rw a (stops_over site R u v after (rw c at o')))

      go : ((x ≡ h) × (y ≡ g)) ⊎ Beside y x (g ∷ trail) → ((after' : List ℕ) → Beside y x (g ∷ trail) → cut_item site R site.S (radios_of (g ∷ trail) after') ≡ item_at site y x) → cut_item site R site.S (radios_of (h ∷ g ∷ trail) after) ≡ item_at site y x
      go (inl e) ih = rw (e.0, e.1) (here (step_of site g h (flow.on_steps g h back.0)) (rw e.1 at i) (rw e.0 at o))
      go (inr e) ih = ih (cond (is_out h) after (radio_of h ∷ after)) e

  -- so is the item of a path that DONE walks
  path_item : (v y x : ℕ) → m (out_half site.S) (in_half v) ≡ true → Beside y x (trail_of site m v) → R y ≡ true → R x ≡ false → item_of site R (path_of site m v) ≡ item_at site y x
  unfolding path_of item_of
  path_item v y x e b i o = trail_item y x (trail_of site m v) [] (led (whole valid flow v e)) b i o

  -- ---- the cut

  -- the item of a path of the map is that of one of the paths that DONE walks
  found : (q : List ℕ) → Path site q → among (item_of site R q) (cut_of site R (paths_from site m)) ≡ true
  unfolding trail_of paths_from
  found q path =
      let leaves = path_leaves valid shut q path in
      let t = on_a_trail flow shut (split_of site valid) (lines valid flow) leaves.from leaves.to leaves.over leaves.in_r leaves.not_in_r in
      let start = start_of valid flow t.0 t.1 in
      let marked : m (out_half site.S) (in_half start.0) ≡ true = rw start.1 at t.1 in
      rw (leaves.named, ← path_item start.0 leaves.from leaves.to marked (rw start.1 at t.2) leaves.in_r leaves.not_in_r, map-map (item_of site R) (path_of site m) (starts site m))
      (among-map (λ v. item_of site R (path_of site m v)) start.0 (starts site m) (marked_starts site m start.0 start.2 marked))

  -- the items are a cut
  pub cut : Cut site (cut_of site R (paths_from site m))
  cut = record {
    each = items_sound valid shut (paths_from site m) (paths_disjoint valid flow).each;
    different = items_different valid shut (paths_from site m) (paths_disjoint valid flow).each (paths_disjoint valid flow).two;
    met = λ q path. (item_of site R q, found q path, (path_leaves valid shut q path).meets);
  }

  -- one item for each path
  pub cut_number : length (cut_of site R (paths_from site m)) ≡ p
  cut_number = length-map (paths_from site m) (item_of site R) ∙ paths_number valid flow

  -- in path order
  pub cut_in_order : InOrder (Meets site) (cut_of site R (paths_from site m)) (paths_from site m)
  cut_in_order = items_in_order valid shut (paths_from site m) (paths_disjoint valid flow).each

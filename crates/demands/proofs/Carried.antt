-- Rule 7: S sends DONE along each trail of marked steps, each DONE comes to T, and the run is over. Assumes nothing.
use mathlib.Core.Path.{◌≡◌, refl, ap, ◌∙◌}
use mathlib.Core.Bool.{Bool, true, false, cond}
use mathlib.Core.List.{List, [], ◌∷◌, ◌++◌}
use mathlib.Core.Logic.{◌⊎◌, inl, inr}
use Prim.Native.Nat.{ℕ, zero, suc, ◌+◌, ◌-◌, ◌*◌, ◌≤◌, ◌<◌}
use native.Mathlib.Nat.{sub-eq-zero_of_le}
use native.Mathlib.Omega.{arith}
use lib.Dec.{eqb}
use lib.ListN.{length}
use borrow.Author.Tests.{eqb-false, eq-eqb, lt-ltb, le-ltb}
use Rattle.basics.specs.Counting.{first_within}
use Rattle.basics.specs.Lists.{All}
use Rattle.site.specs.Map.{Site, in_half, out_half, is_out}
use Rattle.tokens.specs.declared.Kind.TheVariants.{Done}
use Rattle.tokens.specs.declared.Message.{Message}
use Rattle.tokens.specs.Rules.{Marks, Plan, Notes, State, carrying, sends, over, message, next_marked, pass_on, release, carry, inner_step}
use Rattle.tokens.specs.Run.{Entry}
use Rattle.menger.proofs.Trail.{follow}
use Rattle.routes.proofs.Trails.{onward, trail_of, passing, starts}
use Rattle.rounds.proofs.Shows.{Leads, in_round}

-- ---- two logs, one after the other

pub leads_on : (plan : Plan) (state middle end : State) (log later : List Entry) → Leads plan state log middle → Leads plan middle later end → Leads plan state (log ++ later) end
leads_on plan state middle end [] later first second = rw first second
leads_on plan state middle end (entry ∷ log) later first second = (first.0, first.1, first.2, leads_on plan first.0 middle end log later first.3 second)

pub in_round_append : (round : ℕ) (log later : List Message) → in_round round (log ++ later) ≡ in_round round log ++ in_round round later
in_round_append round [] later = refl
in_round_append round (m ∷ log) later = ap (λ (rest : List Entry). record { message = m; round = round } ∷ rest) (in_round_append round log later)

pub in_round_length : (round : ℕ) (log : List Message) → length (in_round round log) ≡ length log
in_round_length round [] = refl
in_round_length round (m ∷ log) = ap suc (in_round_length round log)

pub all_append {ℓ} : {A : Type ℓ} (P : A → Type 0) (log later : List A) → All P log → All P later → All P (log ++ later)
all_append P [] later first second = second
all_append P (m ∷ log) later first second = (first.0, all_append P log later first.1 second)

-- ---- the DONE messages of a trail

-- from half h on, until T's in half, at most so many
unfoldable pub dones_from : Site → Marks → ℕ → ℕ → List Message
dones_from site marks zero h = []
dones_from site marks (suc times) h =
    cond (eqb h (in_half site.T)) [] (message Done h (onward site marks h) ∷ dones_from site marks times (onward site marks h))

-- of all trails of the radios that S sends to
unfoldable pub dones_of : Site → Marks → List ℕ → List Message
dones_of site marks [] = []
dones_of site marks (v ∷ radios) = message Done (out_half site.S) (in_half v) ∷ dones_from site marks (2 * site.n) (in_half v) ++ dones_of site marks radios

-- they are all DONE
from_all_done : (site : Site) (marks : Marks) (times h : ℕ) → All (λ (m : Message). m.kind ≡ Done) (dones_from site marks times h)
unfolding dones_from
from_all_done site marks zero h = tt
from_all_done site marks (suc times) h = go (eqb h (in_half site.T)) (from_all_done site marks times (onward site marks h))
  where
    go : (b : Bool) → All (λ (m : Message). m.kind ≡ Done) (dones_from site marks times (onward site marks h))
        → All (λ (m : Message). m.kind ≡ Done) (cond b [] (message Done h (onward site marks h) ∷ dones_from site marks times (onward site marks h)))
    go true ih = tt
    go false ih = (refl, ih)

pub all_done : (site : Site) (marks : Marks) (radios : List ℕ) → All (λ (m : Message). m.kind ≡ Done) (dones_of site marks radios)
unfolding dones_of
all_done site marks [] = tt
all_done site marks (v ∷ radios) = (refl, all_append (λ (m : Message). m.kind ≡ Done) (dones_from site marks (2 * site.n) (in_half v)) (dones_of site marks radios) (from_all_done site marks (2 * site.n) (in_half v)) (all_done site marks radios))

-- ---- the next radio with a marked step: here, further on, none

module _ (site : Site) (marks : Marks) (h v : ℕ) where
  down : v < site.n → site.n - v ≡ suc (site.n - suc v)
  down p = omega arith

  next_here : v < site.n → marks h (in_half v) ≡ true → next_marked site marks h v ≡ v
  unfolding next_marked first_within
  next_here p e = rw (down p, e, first_within)

  next_further : v < site.n → marks h (in_half v) ≡ false → next_marked site marks h v ≡ next_marked site marks h (suc v)
  unfolding next_marked first_within
  next_further p e = rw (down p, e, first_within)

  next_none : site.n ≤ v → next_marked site marks h v ≡ v
  unfolding next_marked first_within
  next_none p = rw (sub-eq-zero_of_le p)

-- the half that a trail stands at
abbrev pub stands_at : List ℕ → ℕ
stands_at [] = 0
stands_at (h ∷ trail) = h

-- S has sent DONE to each of these radios, and the run is over
pub record AllCarried (plan : Plan) (notes : Notes) (state : State) (radios : List ℕ) : Type 0 where
  pub end : State
  pub leads : Leads plan state (in_round notes.round (dones_of plan.site notes.marks radios)) end
  pub ends : inner_step plan end ≡ over
  -- the last DONE has come to T
  pub at-T : ((radios ≡ []) × (end ≡ state)) ⊎ ((v : ℕ) × (end ≡ carrying v (in_half plan.site.T) notes))

-- ---- what is known where DONE is carried: the marked steps go on to T

module _ (plan : Plan) (notes : Notes)
    (below : (h v : ℕ) → notes.marks h (in_half v) ≡ true → v < plan.site.n)
    (on : (a h : ℕ) → notes.marks a h ≡ true → (h ≡ in_half plan.site.T → ⊥) → notes.marks h (onward plan.site notes.marks h) ≡ true)
    (arrive : (v : ℕ) → notes.marks (out_half plan.site.S) (in_half v) ≡ true → stands_at (trail_of plan.site notes.marks v) ≡ in_half plan.site.T) where
  -- one passing of DONE
  pass : (v h : ℕ) → eqb h (in_half plan.site.T) ≡ false → notes.marks h (onward plan.site notes.marks h) ≡ true
      → inner_step plan (carrying v h notes) ≡ sends (message Done h (onward plan.site notes.marks h)) (carrying v (onward plan.site notes.marks h) notes)
  unfolding inner_step carry pass_on onward
  pass v h not_T marked = rw not_T (go (is_out h) marked)
    where
      go : (b : Bool) → notes.marks h (cond b (in_half (next_marked plan.site notes.marks h 0)) (h + 1)) ≡ true
          → carry false b plan.site v h notes ≡ sends (message Done h (cond b (in_half (next_marked plan.site notes.marks h 0)) (h + 1))) (carrying v (cond b (in_half (next_marked plan.site notes.marks h 0)) (h + 1)) notes)
      go true m = rw (lt-ltb (next_marked plan.site notes.marks h 0) plan.site.n (below h (next_marked plan.site notes.marks h 0) m))
      go false m = refl

  -- DONE is carried along a trail to its end
  along : (v times h : ℕ) (trail : List ℕ) → (a : ℕ) → notes.marks a h ≡ true → stands_at (follow (in_half plan.site.T) (onward plan.site notes.marks) times (h ∷ trail)) ≡ in_half plan.site.T
      → Leads plan (carrying v h notes) (in_round notes.round (dones_from plan.site notes.marks times h)) (carrying v (in_half plan.site.T) notes)
  unfolding follow dones_from
  along v zero h trail a led ends = ap (λ (x : ℕ). carrying v x notes) ends
  along v (suc times) h trail a led ends = go (eqb h (in_half plan.site.T)) refl ends (along v times (onward plan.site notes.marks h) (h ∷ trail) h)
    where
      next : ℕ
      next = onward plan.site notes.marks h

      go : (b : Bool) → eqb h (in_half plan.site.T) ≡ b
          → stands_at (cond b (h ∷ trail) (follow (in_half plan.site.T) (onward plan.site notes.marks) times (onward plan.site notes.marks h ∷ h ∷ trail))) ≡ in_half plan.site.T
          → (notes.marks h (onward plan.site notes.marks h) ≡ true → stands_at (follow (in_half plan.site.T) (onward plan.site notes.marks) times (onward plan.site notes.marks h ∷ h ∷ trail)) ≡ in_half plan.site.T
          → Leads plan (carrying v (onward plan.site notes.marks h) notes) (in_round notes.round (dones_from plan.site notes.marks times (onward plan.site notes.marks h))) (carrying v (in_half plan.site.T) notes))
          → Leads plan (carrying v h notes) (in_round notes.round (cond b [] (message Done h (onward plan.site notes.marks h) ∷ dones_from plan.site notes.marks times (onward plan.site notes.marks h)))) (carrying v (in_half plan.site.T) notes)
      go true e at ih = ap (λ (x : ℕ). carrying v x notes) at
      go false e at ih =
          let marked = on a h led (eqb-false h (in_half plan.site.T) e) in
          (carrying v (onward plan.site notes.marks h) notes, pass v h e marked, refl, ih marked at)

  -- ---- all trails

  marked : ℕ → Bool
  marked v = notes.marks (out_half plan.site.S) (in_half v)

  -- at T the next DONE leaves
  at-T : (v : ℕ) → inner_step plan (carrying v (in_half plan.site.T) notes) ≡ release plan.site (suc v) notes
  unfolding inner_step carry
  at-T v = rw (eq-eqb (in_half plan.site.T) (in_half plan.site.T) refl)

  -- S goes through the radios from v on, of which f are left
  from : (f v : ℕ) (state : State) → v + f ≡ plan.site.n → inner_step plan state ≡ release plan.site v notes → AllCarried plan notes state (passing marked v f)
  unfolding passing release pass_on dones_of marked trail_of
  from zero v state e next = record { end = state; leads = refl; ends = next ∙ none; at-T = inl (refl, refl) }
    where
      none : release plan.site v notes ≡ over
      none = rw (next_none plan.site notes.marks (out_half plan.site.S) v (omega arith), le-ltb v plan.site.n (omega arith))
  from (suc f) v state e next = go (marked v) refl (λ state'. from f (suc v) state' (omega arith))
    where
      go : (b : Bool) → marked v ≡ b → ((state' : State) → inner_step plan state' ≡ release plan.site (suc v) notes → AllCarried plan notes state' (passing marked (suc v) f))
          → AllCarried plan notes state (cond b (v ∷ passing marked (suc v) f) (passing marked (suc v) f))
      go true m ih = one (ih (carrying v (in_half plan.site.T) notes) (at-T v))
        where
          sent : inner_step plan state ≡ sends (message Done (out_half plan.site.S) (in_half v)) (carrying v (in_half v) notes)
          sent = next ∙ rw (next_here plan.site notes.marks (out_half plan.site.S) v (omega arith) m, lt-ltb v plan.site.n (omega arith))

          one : AllCarried plan notes (carrying v (in_half plan.site.T) notes) (passing marked (suc v) f) → AllCarried plan notes state (v ∷ passing marked (suc v) f)
          one rest =
              record {
                end = rest.end;
                leads = (
                  carrying v (in_half v) notes,
                  sent,
                  refl,
                  rw (in_round_append notes.round (dones_from plan.site notes.marks (2 * plan.site.n) (in_half v)) (dones_of plan.site notes.marks (passing marked (suc v) f)))
                      (leads_on plan (carrying v (in_half v) notes) (carrying v (in_half plan.site.T) notes) rest.end (in_round notes.round (dones_from plan.site notes.marks (2 * plan.site.n) (in_half v))) (in_round notes.round (dones_of plan.site notes.marks (passing marked (suc v) f))) (along v (2 * plan.site.n) (in_half v) (out_half plan.site.S ∷ []) (out_half plan.site.S) m (arrive v m)) rest.leads),
                );
                ends = rest.ends;
                at-T = inr (arrived rest.at-T);
              }
            where
              arrived : ((passing marked (suc v) f ≡ []) × (rest.end ≡ carrying v (in_half plan.site.T) notes)) ⊎ ((w : ℕ) × (rest.end ≡ carrying w (in_half plan.site.T) notes)) → (w : ℕ) × (rest.end ≡ carrying w (in_half plan.site.T) notes)
              arrived (inl w) = (v, w.1)
              arrived (inr w) = w
      go false m ih = ih state (next ∙ rw (next_further plan.site notes.marks (out_half plan.site.S) v (omega arith) m))

  -- S goes through all radios
  pub all_carried : (state : State) → inner_step plan state ≡ release plan.site 0 notes → AllCarried plan notes state (starts plan.site notes.marks)
  unfolding starts marked
  all_carried state next = from plan.site.n 0 state (omega arith) next

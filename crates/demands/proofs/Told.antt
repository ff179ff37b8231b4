-- Rule 8: the paths read off the DONE messages are those of the trails, in the order of DONE. Assumes nothing.
use mathlib.Core.Path.{◌≡◌, refl, ap, ◌∙◌}
use mathlib.Core.Bool.{Bool, true, false, cond}
use mathlib.Core.List.{List, [], ◌∷◌, ◌++◌, map, append-nil}
use Prim.Native.Nat.{ℕ, zero, suc, ◌*◌}
use lib.Dec.{eqb}
use borrow.Author.Tests.{eqb-false, eq-eqb, ne_eqb}
use Rattle.basics.specs.Lists.{among, All}
use Rattle.basics.proofs.Lists.{among-here, among_there, all_follow}
use Rattle.site.specs.Map.{Site, in_half, out_half, radio_of, is_out}
use Rattle.site.proofs.Steps.{in_is_not_out, out_is_out, radio_of_in, radio_of_out}
use Rattle.tokens.specs.declared.Kind.{Kind}
use Rattle.tokens.specs.declared.Kind.TheVariants.{Pdt, PdtB, Pmt, Done}
use Rattle.tokens.specs.declared.Message.{Message}
use Rattle.tokens.specs.Rules.{Marks, message}
use Rattle.message_log.specs.Last.{DonesLast}
use Rattle.tokens.specs.Run.{Entry, done_over, heard, walked}
use Rattle.menger.proofs.Trail.{follow}
use Rattle.routes.proofs.Trails.{onward, trail_of, radios_of, path_of}
use Rattle.rounds.proofs.Shows.{in_round, due_after, Answered}
use Rattle.demands.proofs.Carried.{in_round_append, dones_from, dones_of}

-- ---- the messages before the DONEs

-- none of these is a DONE
abbrev pub NoDone : List Entry → Type 0
NoDone log = All (λ (e : Entry). e.message.kind ≡ Done → ⊥) log

-- a round sends no DONE
pub round_no_done : (round : ℕ) (log : List Message) (w : ℕ → ℕ → ℕ) → Answered log w → NoDone (in_round round log)
round_no_done round [] w answered = tt
round_no_done round (m ∷ log) w answered = (λ (is : m.kind ≡ Done). rw is at answered.0, round_no_done round log (due_after m.kind m.from m.to w) answered.1)

-- such messages tell of no path
pub silent : (site : Site) (log : List Entry) → NoDone log → (later : List Entry) → walked site (log ++ later) ≡ walked site later
unfolding walked
silent site [] none later = refl
silent site (e ∷ log) none later = go e.message.kind none.0 (silent site log none.1 later)
  where
    go : (kind : Kind) → (kind ≡ Done → ⊥) → walked site (log ++ later) ≡ walked site later → heard kind site e.message.from e.message.to (walked site (log ++ later)) ≡ walked site later
    go Pdt other ih = ih
    go PdtB other ih = ih
    go Pmt other ih = ih
    go Done other ih = absurd (other refl)

-- another message asks nothing of those after it
no_done_first : (e : Entry) → (e.message.kind ≡ Done → ⊥) → (log : List Entry) → All (λ (b : Entry). e.message.kind ≡ Done → b.message.kind ≡ Done) log
no_done_first e other [] = tt
no_done_first e other (b ∷ log) = (λ is. absurd (other is), no_done_first e other log)

all_in_round : (P : Message → Type 0) (round : ℕ) (log : List Message) → All P log → All (λ (e : Entry). P e.message) (in_round round log)
all_in_round P round [] all = tt
all_in_round P round (m ∷ log) all = (all.0, all_in_round P round log all.1)

pub dones_last : (log : List Entry) (round : ℕ) (dones : List Message) → NoDone log → All (λ (m : Message). m.kind ≡ Done) dones → DonesLast (log ++ in_round round dones)
dones_last [] round [] none all = tt
dones_last [] round (m ∷ dones) none all = (
  all_in_round (λ b. m.kind ≡ Done → b.kind ≡ Done) round dones (all_follow (λ (b : Message). b.kind ≡ Done) _ (λ b is first. is) dones all.1),
  dones_last [] round dones tt all.1,
)
dones_last (e ∷ log) round dones none all = (no_done_first e none.0 (log ++ in_round round dones), dones_last log round dones none.1 all)

-- ---- the DONEs

-- the radios that DONE reaches from half h on
unfoldable radios_from : Site → Marks → ℕ → ℕ → List ℕ
radios_from site marks zero h = []
radios_from site marks (suc times) h =
    let next = onward site marks h in
    cond (eqb h (in_half site.T)) [] (cond (is_out next) (radios_from site marks times next) (radio_of next ∷ radios_from site marks times next))

-- they are those of the trail
on_the_trail : (site : Site) (marks : Marks) (times h : ℕ) (trail : List ℕ)
    → radios_of (follow (in_half site.T) (onward site marks) times (h ∷ trail)) [] ≡ radios_of (h ∷ trail) (radios_from site marks times h)
unfolding follow radios_from radios_of
on_the_trail site marks zero h trail = refl
on_the_trail site marks (suc times) h trail = go (eqb h (in_half site.T)) (on_the_trail site marks times (onward site marks h) (h ∷ trail))
  where
    go : (b : Bool)
        → radios_of (follow (in_half site.T) (onward site marks) times (onward site marks h ∷ h ∷ trail)) [] ≡ radios_of (onward site marks h ∷ h ∷ trail) (radios_from site marks times (onward site marks h))
        → radios_of (cond b (h ∷ trail) (follow (in_half site.T) (onward site marks) times (onward site marks h ∷ h ∷ trail))) []
        ≡ radios_of (h ∷ trail) (cond b [] (cond (is_out (onward site marks h)) (radios_from site marks times (onward site marks h)) (radio_of (onward site marks h) ∷ radios_from site marks times (onward site marks h))))
    go true ih = refl
    go false ih = ih

path-is : (site : Site) (marks : Marks) (v : ℕ) → path_of site marks v ≡ site.S ∷ v ∷ radios_from site marks (2 * site.n) (in_half v)
unfolding path_of trail_of radios_of
path-is site marks v =
    ap (λ (rest : List ℕ). site.S ∷ rest) (on_the_trail site marks (2 * site.n) (in_half v) (out_half site.S ∷ []) ∙ rw (in_is_not_out v, out_is_out site.S, radio_of_in v))

module _ (site : Site) (marks : Marks) (round : ℕ)
    (not_s : (a h : ℕ) → marks a h ≡ true → h ≡ out_half site.S → ⊥)
    (on : (a h : ℕ) → marks a h ≡ true → (h ≡ in_half site.T → ⊥) → marks h (onward site marks h) ≡ true) where
  -- what is read off the rest of one trail
  read_trail : (times h a : ℕ) → marks a h ≡ true → (later : List Entry)
      → walked site (in_round round (dones_from site marks times h) ++ later) ≡ record { onward = radios_from site marks times h ++ (walked site later).onward; paths = (walked site later).paths }
  unfolding dones_from radios_from walked
  read_trail zero h a led later = refl
  read_trail (suc times) h a led later = go (eqb h (in_half site.T)) refl (λ marked. read_trail times (onward site marks h) h marked later)
    where
      go : (b : Bool) → eqb h (in_half site.T) ≡ b
          → (marks h (onward site marks h) ≡ true → walked site (in_round round (dones_from site marks times (onward site marks h)) ++ later) ≡ record { onward = radios_from site marks times (onward site marks h) ++ (walked site later).onward; paths = (walked site later).paths })
          → walked site (in_round round (cond b [] (message Done h (onward site marks h) ∷ dones_from site marks times (onward site marks h))) ++ later)
          ≡ record { onward = cond b [] (cond (is_out (onward site marks h)) (radios_from site marks times (onward site marks h)) (radio_of (onward site marks h) ∷ radios_from site marks times (onward site marks h))) ++ (walked site later).onward; paths = (walked site later).paths }
      go true e ih = refl
      go false e ih = rw (ih (on a h led (eqb-false h (in_half site.T) e))) (reached (is_out (onward site marks h)))
        where
          reached : (b : Bool)
              → done_over b site h (onward site marks h) (record { onward = radios_from site marks times (onward site marks h) ++ (walked site later).onward; paths = (walked site later).paths })
              ≡ record { onward = cond b (radios_from site marks times (onward site marks h)) (radio_of (onward site marks h) ∷ radios_from site marks times (onward site marks h)) ++ (walked site later).onward; paths = (walked site later).paths }
          reached true = refl
          reached false = rw (ne_eqb h (out_half site.S) (not_s a h led))

  -- the paths read off all DONE messages
  pub read_all : (radios : List ℕ) → ((v : ℕ) → among v radios ≡ true → marks (out_half site.S) (in_half v) ≡ true)
      → walked site (in_round round (dones_of site marks radios)) ≡ record { onward = []; paths = map (path_of site marks) radios }
  unfolding dones_of walked
  read_all [] marked = refl
  read_all (v ∷ radios) marked =
      rw (
        in_round_append round (dones_from site marks (2 * site.n) (in_half v)) (dones_of site marks radios),
        read_trail (2 * site.n) (in_half v) (out_half site.S) (marked v (among-here v radios)) (in_round round (dones_of site marks radios)),
        read_all radios (λ w h. marked w (among_there w v radios h)),
        in_is_not_out v,
        eq-eqb (out_half site.S) (out_half site.S) refl,
        radio_of_out site.S,
        radio_of_in v,
        append-nil,
        path-is site marks v,
      )

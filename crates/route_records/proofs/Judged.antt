-- The refusals of the call for route records: by the one law, and what it guarantees that none comes. Assumes nothing.
use mathlib.Core.Path.{◌≡◌, refl}
use mathlib.Core.Bool.{Bool, true, false, not, ◌&&◌, ◌||◌}
use mathlib.Core.List.{List, []}
use Prim.Native.Nat.{ℕ, ◌≤◌}
use native.Mathlib.Omega.{arith}
use lib.Dec.{ltb}
use borrow.Author.Tests.{ltb-false}
use Rattle.basics.specs.Numbered.{Lawful}
use Rattle.basics.proofs.Bools.{Tells, tells_below, tells_or, tells_and, tells_not, tells_same, and_left, and_right}
use Rattle.site.specs.Limits.{most_radios, most_paths}
use Rattle.path_lists.specs.Bytes.{Holds}
use Rattle.path_lists.specs.Reading.{readable, paths_read}
use Rattle.path_lists.specs.Judge.{SoundLists, is_sound}
use Rattle.path_lists.proofs.Judging.{sound_tells}
use Rattle.path_lists.proofs.Read.{read_held, held_read}
use Rattle.refusals.specs.Refusals.{no_size, refuse, ◌or_else◌, number}
use Rattle.refusals.specs.declared.Refusal.TheVariants.{Radios, Records, PathList}
use Rattle.refusals.proofs.Exactly.{size_exact, one, ◌then◌}
use Rattle.refusals.proofs.Accepted.{size_fits}
use Rattle.route_records.specs.Records.{routes_verdict, routes_conditions}

-- a list that holds that many paths and is sound
abbrev Good : ℕ → ℕ → List ℕ → Type 0
Good n count list = (readable count list ≡ true) × SoundLists n (paths_read count list)

-- 21's words: no such paths stand in the list
pub unsound_tells : (n count : ℕ) (list : List ℕ) → Tells (not (readable count list && is_sound n (paths_read count list))) ((paths : List (List ℕ)) → Holds list count paths → SoundLists n paths → ⊥)
unsound_tells n count list = tells_same _ (tells_not _ (tells_and _ _ (λ e. e, λ e. e) (sound_tells n (paths_read count list)))) (to, back)
  where
    to : (Good n count list → ⊥) → (paths : List (List ℕ)) → Holds list count paths → SoundLists n paths → ⊥
    to bad paths held sound =
        let read = read_held count list paths held in
        bad (read.0, rw read.1 sound)

    back : ((paths : List (List ℕ)) → Holds list count paths → SoundLists n paths → ⊥) → Good n count list → ⊥
    back none good = none (paths_read count list) (held_read count list good.0) good.1

pub routes_exact : (n records count : ℕ) (list : List ℕ) → Lawful number (routes_conditions n records count list) (routes_verdict n records count list)
unfolding routes_verdict
routes_exact n records count list =
    (size_exact {table = []} n then one Records _ refl (tells_below _ _) then one PathList _ refl (tells_or _ _ (tells_below _ _) (unsound_tells n count list))).law

-- no refusal comes
pub record Accepted (n records count : ℕ) (list : List ℕ) : Type 0 where
  pub few_radios : n ≤ most_radios
  pub room : n ≤ records
  pub few_paths : count ≤ most_paths
  pub whole : readable count list ≡ true
  pub sound : is_sound n (paths_read count list) ≡ true

pub accepted : (n records count : ℕ) (list : List ℕ) → number (routes_verdict n records count list) ≡ 0 → Accepted n records count list
unfolding routes_verdict
accepted n records count list = go (no_size n) refl (ltb records n) refl (ltb most_paths count) refl (readable count list && is_sound n (paths_read count list)) refl
  where
    go : (a : Bool) → no_size n ≡ a → (b : Bool) → ltb records n ≡ b → (c : Bool) → ltb most_paths count ≡ c → (d : Bool) → (readable count list && is_sound n (paths_read count list)) ≡ d
        → number (refuse a Radios or_else refuse b Records or_else refuse (c || not d) PathList) ≡ 0 → Accepted n records count list
    go true ea b eb c ec d ed e = absurd (omega arith)
    go false ea true eb c ec d ed e = absurd (omega arith)
    go false ea false eb true ec d ed e = absurd (omega arith)
    go false ea false eb false ec false ed e = absurd (omega arith)
    go false ea false eb false ec true ed e =
        record { few_radios = (size_fits n ea).1; room = ltb-false records n eb; few_paths = ltb-false most_paths count ec; whole = and_left (readable count list) (is_sound n (paths_read count list)) ed; sound = and_right (readable count list) (is_sound n (paths_read count list)) ed }

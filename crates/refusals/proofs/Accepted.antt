-- What the refusals that do not come guarantee, part by part: a sound map, a pair that can be asked for, and room enough. Assumes nothing.
use mathlib.Core.Path.{◌≡◌, refl, sym}
use mathlib.Core.Bool.{Bool, true, false, not, ◌||◌, ◌&&◌, and-false, true≢false}
use mathlib.Core.List.{List, [], ◌∷◌, ◌++◌}
use mathlib.Core.Logic.{inl, inr}
use Prim.Native.Nat.{ℕ, ◌+◌, ◌-◌, ◌*◌, ◌≤◌, ◌<◌}
use native.Mathlib.Omega.{arith}
use native.Mathlib.Decide.{dec_lt, ℕ_discrete}
use lib.Dec.{eqb, ltb}
use lib.ListN.{length, get_or}
use Rattle.std.specs.Prelude.{Ok}
use borrow.Author.Tests.{ltb-false, le-ltb, lt-ltb, eq-eqb, ne_eqb}
use Rattle.basics.specs.Numbered.{NoneHolds}
use Rattle.basics.proofs.Bools.{not_true→false}
use Rattle.basics.proofs.Numbered.{none_parts}
use Rattle.basics.proofs.Places.{row_of, column_of, in_table}
use Rattle.site.specs.Limits.{most_radios, most_links, most_paths}
use Rattle.site.specs.Map.{linked, links, A}
use Rattle.site.proofs.Formula.{Even}
use Rattle.site.proofs.Valid.{Valid}
use Rattle.message_log.specs.Bytes.{message_bytes}
use Rattle.refusals.specs.Refusals.{Call, no_size, finding, log_needs, paths_need, verdict, number}
use Rattle.refusals.specs.Conditions.{Fault, mirror, cell_conditions, map_conditions, pair_conditions, room_conditions}
use Rattle.refusals.proofs.Exactly.{finds_nothing, bad_number, sound_table, cells_exact, call_exact}

-- ---- a table without faults

-- the cells of a table without faults are their mirror cells
mirrored : (table : List ℕ) (n u v : ℕ) → u < n → v < n → ((place : ℕ) → place < n * n → Fault table n place → ⊥) → get_or table (u * n + v) 0 ≡ get_or table (v * n + u) 0
mirrored table n u v p q none = go (ℕ_discrete _ _)
  where
    go : Dec (get_or table (u * n + v) 0 ≡ get_or table (v * n + u) 0) → get_or table (u * n + v) 0 ≡ get_or table (v * n + u) 0
    go (yes e) = e
    go (no e) = absurd (none (u * n + v) (in_table n u v p q) (mirror (rw (row_of n u v q, column_of n u v q) e)))

-- so its links lead both ways
pub even_links : (table : List ℕ) (n : ℕ) → ((place : ℕ) → place < n * n → Fault table n place → ⊥) → Even table n
unfolding linked
even_links table n none u v = go (dec_lt u n) (dec_lt v n) (ℕ_discrete u v)
  where
    go : Dec (u < n) → Dec (v < n) → Dec (u ≡ v)
        → (ltb u n && ltb v n && not (eqb u v) && eqb (get_or table (u * n + v) 0) 1) ≡ (ltb v n && ltb u n && not (eqb v u) && eqb (get_or table (v * n + u) 0) 1)
    go (yes p) (yes q) (yes e) = rw (eq-eqb u v e, eq-eqb v u (sym e)) (simp and-false)
    go (yes p) (yes q) (no e) = rw (lt-ltb u n p, lt-ltb v n q, ne_eqb u v e, ne_eqb v u (λ w. e (sym w)), mirrored table n u v p q none)
    go (yes p) (no q) e = rw (le-ltb v n (omega arith), and-false)
    go (no p) q e = rw (le-ltb u n (omega arith), and-false)

-- ---- what each part guarantees

-- 1 does not come: two radios or more, and no more than a kit has
pub size_fits : (n : ℕ) → no_size n ≡ false → (2 ≤ n) × (n ≤ most_radios)
size_fits n fine = go (ltb n 2) refl fine
  where
    go : (few : Bool) → ltb n 2 ≡ few → (few || ltb most_radios n) ≡ false → (2 ≤ n) × (n ≤ most_radios)
    go true e h = absurd (true≢false h)
    go false e h = (ltb-false n 2 e, ltb-false most_radios n h)

-- 1 to 4 do not come: a sound map
pub record SoundMap (table : List ℕ) (n : ℕ) : Type 0 where
  pub two_radios : 2 ≤ n
  pub few_radios : n ≤ most_radios
  pub long : length table ≡ n * n
  pub no_fault : (place : ℕ) → place < n * n → Fault table n place → ⊥
  pub sound : finding table n ≡ Ok tt
  pub even : Even table n
  pub few_links : links table n ≤ most_links

pub sound_map : (table : List ℕ) (n : ℕ) → NoneHolds (map_conditions table n) → SoundMap table n
sound_map table n (radios, (length-differs, others)) =
    let some : n < 2 → ⊥ = λ p. radios (inl p) in
    let few : most_radios < n → ⊥ = λ p. radios (inr p) in
    let (cells, (many-links, end)) = none_parts (cell_conditions table n) ((4, most_links < links table n) ∷ []) others in
    let sound : finding table n ≡ Ok tt = finds_nothing (finding table n) (not_true→false _ (λ bad. bad_number (finding table n) bad ((cells_exact table n).law.none.1 cells))) in
    let no_fault = sound_table table n sound in
    record { two_radios = omega arith; few_radios = omega arith; long = go (ℕ_discrete _ _); no_fault = no_fault; sound = sound; even = even_links table n no_fault; few_links = omega arith }
  where
    go : Dec (length table ≡ n * n) → length table ≡ n * n
    go (yes e) = e
    go (no e) = absurd (length-differs e)

-- 5 and 6 do not come: two radios of the map, and a number of paths that may be wanted
pub record GoodPair (n S T k : ℕ) : Type 0 where
  pub S_below : S < n
  pub T_below : T < n
  pub ends_differ : S ≡ T → ⊥
  pub wanted : 0 < k
  pub few_wanted : k ≤ most_paths

pub good_pair : (n S T k : ℕ) → NoneHolds (pair_conditions n S T k) → GoodPair n S T k
good_pair n S T k (ends, (paths, end)) =
    let source : n ≤ S → ⊥ = λ p. ends (inl p) in
    let sink : n ≤ T → ⊥ = λ p. ends (inr (inl p)) in
    let some : k ≡ 0 → ⊥ = λ e. paths (inl e) in
    let few : most_paths < k → ⊥ = λ p. paths (inr p) in
    record { S_below = omega arith; T_below = omega arith; ends_differ = λ e. ends (inr (inr e)); wanted = omega arith; few_wanted = omega arith }

-- 7 and 8 do not come: room enough
pub record EnoughRoom (n k steps log_length paths_length cut_length : ℕ) : Type 0 where
  pub log : message_bytes * ((2 * k + 1) * steps) ≤ log_length
  pub paths : n - 2 + 3 * k ≤ paths_length
  pub cut : k ≤ cut_length

pub enough_room : (n k steps log_length paths_length cut_length : ℕ) → NoneHolds (room_conditions n k steps log_length paths_length cut_length) → EnoughRoom n k steps log_length paths_length cut_length
enough_room n k steps log_length paths_length cut_length (log-short, (lists-short, end)) =
    let paths : paths_length < n - 2 + 3 * k → ⊥ = λ p. lists-short (inl p) in
    let cut : cut_length < k → ⊥ = λ p. lists-short (inr p) in
    record { log = omega arith; paths = omega arith; cut = omega arith }

-- ---- an accepted call

-- all three together
pub record Unopposed (call : Call) : Type 0 where
  pub map : SoundMap call.site.table call.site.n
  pub pair : GoodPair call.site.n call.site.S call.site.T call.k
  pub room : EnoughRoom call.site.n call.k (A call.site) call.log_length call.paths_length call.cut_length

pub unopposed : (call : Call) → number (verdict call) ≡ 0 → Unopposed call
unopposed call accepted =
    let on-map = map_conditions call.site.table call.site.n in
    let on-pair = pair_conditions call.site.n call.site.S call.site.T call.k in
    let on_room = room_conditions call.site.n call.k (A call.site) call.log_length call.paths_length call.cut_length in
    let (before-room, room) = none_parts (on-map ++ on-pair) on_room ((call_exact call).law.none.0 accepted) in
    let (map, pair) = none_parts on-map on-pair before-room in
    record { map = sound_map _ _ map; pair = good_pair _ _ _ _ pair; room = enough_room _ _ _ _ _ _ room }

-- an accepted call has a valid site
pub accepted_valid : (call : Call) → number (verdict call) ≡ 0 → Valid call.site
accepted_valid call accepted =
    let record { map = map; pair = pair; room = room } = unopposed call accepted in
    record { two_radios = map.two_radios; few_radios = map.few_radios; even = map.even; S_below = pair.S_below; T_below = pair.T_below; ends_differ = pair.ends_differ }

-- an accepted call wants some path, and lends enough room
pub record Room (call : Call) : Type 0 where
  pub wanted : 0 < call.k
  pub few_wanted : call.k ≤ most_paths
  pub log : log_needs call.site call.k ≤ call.log_length
  pub paths : paths_need call.site call.k ≤ call.paths_length
  pub cut : call.k ≤ call.cut_length

pub accepted_room : (call : Call) → number (verdict call) ≡ 0 → Room call
accepted_room call accepted =
    let record { map = map; pair = pair; room = room } = unopposed call accepted in
    record { wanted = pair.wanted; few_wanted = pair.few_wanted; log = room.log; paths = room.paths; cut = room.cut }

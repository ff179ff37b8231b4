-- What the call for route records leaves keeps its promise. Assumes nothing.
use mathlib.Core.Path.{◌≡◌, refl, sym, ap, ◌∙◌}
use mathlib.Core.List.{List, [], ◌∷◌, ◌++◌}
use Prim.Native.Nat.{ℕ, zero, suc, ◌-◌, ◌≤◌, ◌<◌}
use native.Mathlib.Omega.{arith}
use native.Mathlib.Decide.{ℕ_discrete}
use lib.ListN.{length, get_or, take, drop, length-append, get_or-append}
use lib.Seq.{take-suc, take-length, get_or-append_seam, get_or-append-add, get_or-drop}
use borrow.Author.Tests.{eq-eqb, ne_eqb}
use Rattle.basics.proofs.Lists.{all_follow}
use Rattle.site.specs.Limits.{most_radios}
use Rattle.path_lists.specs.Reading.{paths_read, list_end}
use Rattle.path_lists.specs.Judge.{RadioList, SoundLists}
use Rattle.path_lists.proofs.Judging.{sound_tells}
use Rattle.path_lists.proofs.Read.{same-front}
use Rattle.refusals.specs.Refusals.{Verdict, number}
use Rattle.refusals.proofs.Exactly.{some_number}
use Rattle.std.specs.Prelude.{Ok, Err, OnOk, OnErr}
use Rattle.route_records.specs.declared.Role.TheVariants.{OffPaths}
use Rattle.route_records.specs.declared.Route.{Route}
use Rattle.route_records.specs.Records.{alone, record_in, record_from, record_of, records_of, RoutesCall, routes_verdict, verdict_of, records_left}
use Rattle.route_records.specs.Filling.{Tellable}
use Rattle.route_records.specs.Promise.{reading, RoutesPromise}
use Rattle.route_records.proofs.Laid.{PathsLaid, all_laid}
use Rattle.route_records.proofs.Judged.{Accepted, accepted, routes_exact}

-- ---- the first n records

pub length_records : (paths : List (List ℕ)) (n : ℕ) → length (records_of paths n) ≡ n
unfolding records_of
length_records paths zero = refl
length_records paths (suc n) = omega (arith, length-append (records_of paths n) (record_of paths n ∷ []), length_records paths n)

pub record_at_v : (paths : List (List ℕ)) (n v : ℕ) (other : Route) → v < n → get_or (records_of paths n) v other ≡ record_of paths v
unfolding records_of
record_at_v paths zero v other below = absurd (omega arith)
record_at_v paths (suc n) v other below = go (ℕ_discrete v n) (λ l. record_at_v paths n v other l)
  where
    go : Dec (v ≡ n) → (v < n → get_or (records_of paths n) v other ≡ record_of paths v) → get_or (records_of paths n ++ (record_of paths n ∷ [])) v other ≡ record_of paths v
    go (yes e) earlier = ap (λ (i : ℕ). get_or (records_of paths n ++ (record_of paths n ∷ [])) i other) (e ∙ sym (length_records paths n)) ∙ get_or-append_seam (records_of paths n) (record_of paths n) [] other ∙ ap (record_of paths) (sym e)
    go (no ne) earlier = get_or-append (records_of paths n) (record_of paths n ∷ []) other v (omega (arith, ne, length_records paths n)) ∙ earlier (omega (arith, ne))

-- records that are each radio's, as far as they go
pub their_records : (paths : List (List ℕ)) (records : List Route) (n : ℕ) → n ≤ length records → ((v : ℕ) → v < n → record_in records v ≡ record_of paths v) → take n records ≡ records_of paths n
unfolding records_of
their_records paths records zero few are = refl
their_records paths records (suc n) few are = rw (take-suc records n (alone OffPaths) (omega arith), their_records paths records n (omega arith) (λ v l. are v (omega arith)), are n (omega arith)) refl

-- of more records the first n
pub fewer_records : (paths : List (List ℕ)) (n m : ℕ) → n ≤ m → take n (records_of paths m) ≡ records_of paths n
fewer_records paths n m few = their_records paths (records_of paths m) n (omega (arith, length_records paths m)) (λ v l. record_at_v paths m v (alone OffPaths) (omega arith))

-- where all paths are laid, they are all radios'
pub all_records : {paths : List (List ℕ)} {i : ℕ} {records : List Route} → i ≡ length paths → PathsLaid paths i records → records ≡ records_of paths most_radios
all_records {paths} {i} {records} all laid =
    sym (take-length records) ∙ ap (λ (n : ℕ). take n records) laid.long ∙ their_records paths records most_radios (omega (arith, laid.long)) (λ v l. all_laid all laid v)

module _ (paths : List (List ℕ)) (n : ℕ) (old : List Route) where
  first_records : (v : ℕ) (other : Route) → v < n → get_or (records_of paths n ++ drop n old) v other ≡ record_of paths v
  first_records v other below = get_or-append (records_of paths n) (drop n old) other v (omega (arith, length_records paths n)) ∙ record_at_v paths n v other below

  later_records : (v : ℕ) (other : Route) → n ≤ v → get_or (records_of paths n ++ drop n old) v other ≡ get_or old v other
  later_records v other past =
      ap (λ (i : ℕ). get_or (records_of paths n ++ drop n old) i other) (omega (arith, length_records paths n))
      ∙ get_or-append-add (records_of paths n) (drop n old) (v - n) other ∙ get_or-drop n old (v - n) other ∙ ap (λ (i : ℕ). get_or old i other) (omega arith)

-- ---- what the call leaves

abbrev paths_of : RoutesCall → List (List ℕ)
paths_of call = paths_read call.count call.list

pub left_accepted : (call : RoutesCall) → number (verdict_of call) ≡ 0 → records_left call ≡ records_of (paths_of call) call.n ++ drop call.n call.records
unfolding records_left
left_accepted call none = rw (eq-eqb _ 0 none) refl

pub left_refused : (call : RoutesCall) → (number (verdict_of call) ≡ 0 → ⊥) → records_left call ≡ call.records
unfolding records_left
left_refused call some = rw (ne_eqb _ 0 some) refl

-- a list that agrees up to the end of the last path is read alike
alike : (call : RoutesCall) (other : List ℕ) → take (list_end call.count call.list) other ≡ take (list_end call.count call.list) call.list
    → (number (verdict_of call) ≡ number (verdict_of (reading call other))) × (records_left call ≡ records_left (reading call other))
unfolding routes_verdict records_left
alike call other agree =
    let same = same-front call.count call.list other agree in
    (rw (same.0, same.1) refl, rw (same.0, same.1) refl)

for_each : (call : RoutesCall) → number (verdict_of call) ≡ 0 → (v : ℕ) → v < call.n → record_in (records_left call) v ≡ record_of (paths_of call) v
for_each call none v below = rw (left_accepted call none) (first_records (paths_of call) call.n call.records v (alone OffPaths) below)

empty : (count : ℕ) (list : List ℕ) (v : ℕ) → count ≡ 0 → record_of (paths_read count list) v ≡ alone OffPaths
unfolding paths_read record_from
empty count list v zeros = rw zeros refl

past_n : (call : RoutesCall) (v : ℕ) → call.n ≤ v → record_in (records_left call) v ≡ record_in call.records v
past_n call v past = go (ℕ_discrete (number (verdict_of call)) 0)
  where
    go : Dec (number (verdict_of call) ≡ 0) → record_in (records_left call) v ≡ record_in call.records v
    go (yes none) = rw (left_accepted call none) (later_records (paths_of call) call.n call.records v (alone OffPaths) past)
    go (no some) = rw (left_refused call some) refl

promise : (call : RoutesCall) → RoutesPromise call (number (verdict_of call)) (records_left call)
promise call =
    record {
      refusal_is = refl;
      records_are = refl;
      lawful = routes_exact call.n (length call.records) call.count call.list;
      for_each = for_each call;
      no-paths = λ none zeros v below. for_each call none v below ∙ empty call.count call.list v zeros;
      past_n = past_n call;
      unchanged = left_refused call;
      past_unread = alike call;
    }

-- the same of any answer that is the verdict's number, and of any records that are those left
pub keeps : (call : RoutesCall) {refusal : ℕ} {records : List Route} → refusal ≡ number (verdict_of call) → records ≡ records_left call → RoutesPromise call refusal records
keeps call told left = rw (told, left) (promise call)

-- ---- the call

-- a call that is accepted is in order
pub in_order : {n records count : ℕ} {list : List ℕ} {verdict : Verdict} {u : Unit {0}} → verdict ≡ routes_verdict n records count list → verdict ≡ Ok u → Accepted n records count list
in_order {n} {records} {count} {list} judged is = accepted n records count list (ap number (sym judged ∙ is))

-- its list can be told
pub tellable : {n records count : ℕ} {list : List ℕ} → Accepted n records count list → Tellable count list
tellable {n} {records} {count} {list} good = record {
  few = good.few_paths;
  whole = good.whole;
  sound = record { S = sound.S; T = sound.T; each = all_follow (RadioList n sound.S sound.T) (RadioList most_radios sound.S sound.T) widened (paths_read count list) sound.each; two = sound.two };
}
  where
    sound : SoundLists n (paths_read count list)
    sound = (sound_tells n (paths_read count list)).0 good.sound

    widened : (path : List ℕ) → RadioList n sound.S sound.T path → RadioList most_radios sound.S sound.T path
    widened path radios =
        record { two_or_more = radios.two_or_more; different = radios.different; below = all_follow (λ v. v < n) (λ v. v < most_radios) (λ v l. omega (arith, good.few_radios)) path radios.below; first = radios.first; last = radios.last }

-- there are records for its radios
pub enough : {n records count : ℕ} {list : List ℕ} (paths : List (List ℕ)) {all : List Route} → Accepted n records count list → all ≡ records_of paths most_radios → n ≤ length all
enough paths good made = omega (arith, good.few_radios, ap length made, length_records paths most_radios)

-- what the steps of the call give keeps the promise: a list that is accepted has all radios' records made of its paths, and the first n
-- of them set; after a refusal the records are as they were
pub promised : (call : RoutesCall) (verdict : Verdict) {refusal : ℕ} (all : List Route) {after : List Route} → verdict ≡ verdict_of call → refusal ≡ number verdict
    → OnOk verdict ((all ≡ records_of (paths_of call) most_radios) × (after ≡ take call.n all ++ drop (length (take call.n all)) call.records)) → OnErr verdict (after ≡ call.records)
    → RoutesPromise call refusal after
promised call (Ok u) all judged told laid kept =
    let none : number (verdict_of call) ≡ 0 = ap number (sym judged) in
    let first : take call.n all ≡ records_of (paths_of call) call.n = ap (take call.n) laid.0 ∙ fewer_records (paths_of call) call.n most_radios (in_order judged refl).few_radios in
    keeps call (told ∙ sym none) (laid.1 ∙ rw (first, length_records (paths_of call) call.n) (sym (left_accepted call none)))
promised call (Err reason) all judged told laid kept =
    let some : number (verdict_of call) ≡ 0 → ⊥ = λ e. some_number reason (ap number judged ∙ e) in
    keeps call (told ∙ ap number judged) (kept ∙ sym (left_refused call some))

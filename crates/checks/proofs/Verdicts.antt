-- What each judge says: the map's verdict once those before it have not come, and the number of steps from the rows. Assumes nothing.
use mathlib.Core.Path.{◌≡◌, sym, ap, ◌∙◌}
use mathlib.Core.Bool.{true}
use mathlib.Core.Logic.{◌⊎◌}
use mathlib.Core.List.{List}
use Prim.Native.Nat.{ℕ, ◌+◌, ◌-◌, ◌*◌, ◌/◌, ◌≤◌, ◌<◌}
use native.Mathlib.Omega.{arith}
use lib.ListN.{length, get_or}
use borrow.Author.Tests.{eq-eqb, ne_eqb, lt-ltb, le-ltb}
use Rattle.basics.specs.Counting.{one_if, sum}
use Rattle.basics.proofs.Bools.{tells_or, tells_below, tells_not_below, tells_equal}
use Rattle.basics.proofs.Counting.{sum-ext}
use Rattle.radios.specs.Member.{member}
use Rattle.site.specs.Limits.{most_radios, most_links, most_paths}
use Rattle.site.specs.Map.{Site, links, degree, passes, A}
use Rattle.site.proofs.Formula.{Even, degrees_twice_links, steps_and_degrees, two_degrees, few_steps}
use Rattle.site.proofs.Steps.{passes-outside}
use Rattle.message_log.specs.Bytes.{message_bytes}
use Rattle.refusals.specs.Refusals.{Call, Verdict, refusal_of, finding, no_size, map_verdict, pair_verdict, room_verdict, verdict, number}
use Rattle.refusals.specs.declared.BadCell.{BadCell}
use Rattle.refusals.specs.declared.Refusal.{Refusal}
use Rattle.refusals.specs.declared.Refusal.TheVariants.{Radios, TableLength, Links, Ends, Wanted, Log, Lists}
use Rattle.std.specs.Prelude.{Result, Ok, Err, IsErrAnd}
use Rattle.refusals.proofs.Exactly.{some_number, map_exact, pair_exact, told_by_map, told_by_pair, told_by_room}
use Rattle.refusals.proofs.Accepted.{SoundMap as Sound, sound_map, GoodPair, good_pair}
use Rattle.checks.specs.Checked.{members, size, Countable, most_steps, MapJudged, Judged}
use Rattle.radios.specs.Links.{RowsOfLinks, Ordinary, Passing}
use Rattle.checks.specs.declared.SoundMap.{SoundMap}
use Rattle.checks.proofs.Scan.{sound_even}
use Rattle.checks.proofs.Sizes.{members-are, size-degree}

-- each link is in two rows
all_sizes : (table : List ℕ) (n : ℕ) (rows : List ℕ) → n ≤ most_radios → RowsOfLinks table n rows → Even table n → sum (size rows) n ≡ 2 * links table n
all_sizes table n rows most rows_are even = sum-ext (size rows) _ n (λ u l. size-degree table n rows most rows_are u) ∙ degrees_twice_links table n even

-- ---- 1 to 4: the map's verdict

-- a map that the refusals before 4 let pass, with its rows and their total
pub record Mapped (table : List ℕ) (n : ℕ) (rows : List ℕ) (total : ℕ) : Type 0 where
  pub two : 2 ≤ n
  pub most : n ≤ most_radios
  pub long : length table ≡ n * n
  pub sound : finding table n ≡ Ok tt
  pub rows_are : RowsOfLinks table n rows
  pub added : total ≡ sum (size rows) n

module _ {table : List ℕ} {n : ℕ} {rows : List ℕ} where
  pub told_radios : no_size n ≡ true → MapJudged table n rows (Err Radios)
  unfolding map_verdict
  told_radios h = record { told = sym (simp h); rows_are = tt; twice = tt; ordinary_are = tt }

  pub told_length : 2 ≤ n → n ≤ most_radios → (length table ≡ n * n → ⊥) → MapJudged table n rows (Err TableLength)
  unfolding map_verdict
  told_length two most h = record { told = sym (simp (le-ltb _ _ two, le-ltb _ _ most, ne_eqb _ _ h)); rows_are = tt; twice = tt; ordinary_are = tt }

  -- 3 and 13: the answer is the refusal that is made of the bad cell
  pub told_cell : {bad : BadCell} (answer : Result SoundMap Refusal) → 2 ≤ n → n ≤ most_radios → length table ≡ n * n → Err bad ≡ finding table n → IsErrAnd answer (λ refusal. refusal ≡ refusal_of bad) → MapJudged table n rows answer
  unfolding map_verdict
  told_cell (Ok map) two most long found made = absurd made
  told_cell {bad} (Err refusal) two most long found made =
      let some = ne_eqb _ _ (some_number (refusal_of bad)) in
      record { told = ap Err made ∙ sym (simp (le-ltb _ _ two, le-ltb _ _ most, eq-eqb _ _ long, sym found, some)); rows_are = tt; twice = tt; ordinary_are = tt }

  module _ {total : ℕ} (m : Mapped table n rows total) where
    twice : total ≡ 2 * links table n
    twice = m.added ∙ all_sizes table n rows m.most m.rows_are (sound_even table n m.sound)

    pub told_links : most_links < total / 2 → MapJudged table n rows (Err Links)
    unfolding map_verdict
    told_links many =
        let more : most_links < links table n = omega (arith, twice) in
        record { told = sym (simp (le-ltb _ _ m.two, le-ltb _ _ m.most, eq-eqb _ _ m.long, m.sound, lt-ltb _ _ more)); rows_are = tt; twice = tt; ordinary_are = tt }

    pub told_sound : {ordinary : ℕ} → Ordinary table n ordinary → total / 2 ≤ most_links → MapJudged table n rows (Ok (record { total = total; ordinary = ordinary }))
    unfolding map_verdict
    told_sound ordinary few =
        let least : links table n ≤ most_links = omega (arith, twice) in
        record { told = sym (simp (le-ltb _ _ m.two, le-ltb _ _ m.most, eq-eqb _ _ m.long, m.sound, le-ltb _ _ least)); rows_are = m.rows_are; twice = twice; ordinary_are = ordinary }

-- ---- 5 and 6: the pair's verdict

pub told_ends : (n S T k : ℕ) → ((n ≤ S) ⊎ (n ≤ T)) ⊎ (S ≡ T) → Err Ends ≡ pair_verdict n S T k
unfolding pair_verdict
told_ends n S T k h = simp ((tells_or _ _ (tells_or _ _ (tells_not_below S n) (tells_not_below T n)) (tells_equal S T)).1 h)

pub told_wanted : (n S T k : ℕ) → S < n → T < n → (S ≡ T → ⊥) → (k ≡ 0) ⊎ (most_paths < k) → Err Wanted ≡ pair_verdict n S T k
unfolding pair_verdict
told_wanted n S T k source sink differ h =
    simp (lt-ltb _ _ source, lt-ltb _ _ sink, ne_eqb _ _ differ, (tells_or _ _ (tells_equal k 0) (tells_below most_paths k)).1 h)

-- ---- 7 and 8: the room's verdict

module _ (n k steps log paths cut : ℕ) where
  pub told_log : log < message_bytes * ((2 * k + 1) * steps) → Err Log ≡ room_verdict n k steps log paths cut
  unfolding room_verdict
  told_log h = simp (lt-ltb _ _ h)

  pub told_lists : message_bytes * ((2 * k + 1) * steps) ≤ log → (paths < n - 2 + 3 * k) ⊎ (cut < k) → Err Lists ≡ room_verdict n k steps log paths cut
  unfolding room_verdict
  told_lists enough h = simp (le-ltb _ _ enough, (tells_or _ _ (tells_below paths (n - 2 + 3 * k)) (tells_below cut k)).1 h)

-- ---- the whole call

-- a call that 1 to 6 let pass, with its rows, twice its links and its radios that are no handhelds
pub record Unrefused (call : Call) (rows : List ℕ) (total ordinary : ℕ) : Type 0 where
  pub on-map : number (map_verdict call.site.table call.site.n) ≡ 0
  pub on-pair : number (pair_verdict call.site.n call.site.S call.site.T call.k) ≡ 0
  pub rows_are : RowsOfLinks call.site.table call.site.n rows
  pub twice : total ≡ 2 * links call.site.table call.site.n
  pub ordinary_are : Ordinary call.site.table call.site.n ordinary

-- a call that is refused: nothing is promised of the rows and of the radios that pass
stopped : {call : Call} {rows : List ℕ} {answer : Result ℕ Refusal} (refusal : Refusal) → answer ≡ Err refusal → Err refusal ≡ verdict call → Judged call rows answer
stopped refusal is told = rw is (record { told = told; rows_are = tt; passing_are = tt })

module _ {call : Call} {rows : List ℕ} {answer : Result ℕ Refusal} {refusal : Refusal} (is : answer ≡ Err refusal) where
  -- 1 to 4 do not let it pass
  pub stopped_by_map : MapJudged call.site.table call.site.n rows (Err refusal) → Judged call rows answer
  stopped_by_map judged = stopped refusal is (judged.told ∙ sym (told_by_map call (λ e. some_number refusal (ap number judged.told ∙ e))))

  -- 5 and 6 do not
  pub stopped_by_pair : {map : SoundMap} → MapJudged call.site.table call.site.n rows (Ok map) → Err refusal ≡ pair_verdict call.site.n call.site.S call.site.T call.k → Judged call rows answer
  stopped_by_pair judged told = stopped refusal is (told ∙ sym (told_by_pair call (sym (ap number judged.told)) (λ e. some_number refusal (ap number told ∙ e))))

pub unrefused : (call : Call) {rows : List ℕ} {map : SoundMap} → MapJudged call.site.table call.site.n rows (Ok map) → Ok tt ≡ pair_verdict call.site.n call.site.S call.site.T call.k → Unrefused call rows map.total map.ordinary
unrefused call judged fine = record { on-map = sym (ap number judged.told); on-pair = sym (ap number fine); rows_are = judged.rows_are; twice = judged.twice; ordinary_are = judged.ordinary_are }

module _ {call : Call} {rows : List ℕ} {total ordinary : ℕ} (p : Unrefused call rows total ordinary) where
  abbrev site : Site
  site = call.site

  pub the_map : Sound site.table site.n
  the_map = sound_map _ _ ((map_exact _ _).law.none.0 p.on-map)

  pub the_pair : GoodPair site.n site.S site.T call.k
  the_pair = good_pair _ _ _ _ ((pair_exact {table = site.table} _ _ _ _).law.none.0 p.on-pair)

  size_is : (u : ℕ) → size rows u ≡ degree site.table site.n u
  size_is = size-degree site.table site.n rows the_map.few_radios p.rows_are

  pub ends_few : (site.S < most_radios) × (site.T < most_radios)
  ends_few = (omega (arith, the_pair.S_below, the_map.few_radios), omega (arith, the_pair.T_below, the_map.few_radios))

  pub countable : Countable rows total site.S site.T
  countable =
      record {
        source = ends_few.0;
        sink = ends_few.1;
        held = omega (arith, size_is site.S, size_is site.T, p.twice, two_degrees site the_pair.S_below the_pair.T_below the_pair.ends_differ the_map.even);
        fits = omega (arith, p.twice, the_map.few_links);
      }

  module _ (passing : ℕ) (passing_are : Passing site passing) (a : ℕ) (counted : a + size rows site.S + size rows site.T ≡ total + one_if (member site.T (get_or rows site.S 0)) + members passing) where
    -- the count of the steps is A
    is_a : a ≡ A site
    is_a = omega (
      arith,
      counted,
      size_is site.S,
      size_is site.T,
      p.twice,
      ap one_if (p.rows_are site.S site.T),
      members-are (passes site) passing site.n the_map.few_radios passing_are (passes-outside site),
      steps_and_degrees site the_pair.S_below the_pair.T_below the_pair.ends_differ the_map.even,
    )

    pub steps_few : a ≤ most_steps
    steps_few = omega (arith, is_a, the_map.few_links, the_map.few_radios, few_steps site the_pair.S_below the_pair.T_below the_pair.ends_differ the_map.even)

    -- 7 and 8 have the last word
    room_told : {v : Verdict} → v ≡ room_verdict site.n call.k a call.log_length call.paths_length call.cut_length → v ≡ verdict call
    room_told told = (rw is_a at told) ∙ sym (told_by_room call p.on-map p.on-pair)

    pub stopped_by_room : {answer : Result ℕ Refusal} {refusal : Refusal} → answer ≡ Err refusal → Err refusal ≡ room_verdict site.n call.k a call.log_length call.paths_length call.cut_length → Judged call rows answer
    stopped_by_room {answer} {refusal} is told = stopped refusal is (room_told told)

    pub unopposed : Ok tt ≡ room_verdict site.n call.k a call.log_length call.paths_length call.cut_length → Judged call rows (Ok passing)
    unopposed told = record { told = room_told told; rows_are = p.rows_are; passing_are = passing_are }

-- Demand 1 over the refusals: each number is given exactly when its own condition holds and none before it does. Assumes nothing.
use mathlib.Core.Path.{◌≡◌, refl, sym, ap, ◌∙◌}
use mathlib.Core.Bool.{Bool, true, false, not, cond, true≢false, false≢true}
use mathlib.Core.List.{List, [], ◌∷◌, ◌++◌}
use mathlib.Core.Logic.{◌⊎◌, ◌↔◌, inl, inr}
use Prim.Native.Nat.{ℕ, ◌+◌, ◌*◌, ◌/◌, ◌%◌, ◌<◌, ◌≤◌}
use native.Mathlib.Omega.{arith}
use native.Mathlib.Decide.{dec_lt}
use lib.Dec.{eqb, ltb}
use lib.ListN.{get_or}
use Rattle.std.specs.Prelude.{Ok, Err, is_err}
use borrow.Author.Tests.{eq-eqb, ne_eqb, lt-ltb, le-ltb}
use Rattle.basics.specs.Counting.{First}
use Rattle.basics.specs.Numbered.{Conditions, Gives, NoneHolds, Lawful}
use Rattle.basics.proofs.Bools.{clash, Tells, tells_below, tells_not_below, tells_equal, tells_or, tells_not, tells_same}
use Rattle.basics.proofs.Counting.{first-from}
use Rattle.basics.proofs.Numbered.{law_none, law_first, law_one, law_after, law_each}
use Rattle.site.specs.Limits.{most_radios, most_paths}
use Rattle.site.specs.Map.{A}
use Rattle.refusals.specs.Refusals.{Call, Verdict, Finding, cell_finding, finding_at, bad_cell, first_bad, finding, refuse, refusal_of, passed, ◌or_else◌, no_size, size_verdict, map_verdict, pair_verdict, room_verdict, verdict, number, place_of}
use Rattle.refusals.specs.Conditions.{kinds, of_cell, Fault, no_bit, mirror, FirstFault, FirstIs, size_conditions, cell_conditions, map_conditions, pair_conditions, room_conditions, conditions}
use Rattle.refusals.specs.declared.BadCell.TheVariants.{Value, Mirror}
use Rattle.refusals.specs.declared.Refusal.{Refusal}
use Rattle.refusals.specs.declared.Refusal.TheVariants.{Radios, TableLength, CellValue, CellMirror, Links, Ends, Wanted, Log, Lists, Records, PathList}

-- ---- one cell

abbrev number_of : Finding → ℕ
number_of found = number (passed found)

-- each refusal has a number
pub some_number : (refusal : Refusal) → number (Err refusal) ≡ 0 → ⊥
some_number Radios zero = omega arith
some_number TableLength zero = omega arith
some_number (CellValue place) zero = omega arith
some_number (CellMirror place) zero = omega arith
some_number Links zero = omega arith
some_number Ends zero = omega arith
some_number Wanted zero = omega arith
some_number Log zero = omega arith
some_number Lists zero = omega arith
some_number Records zero = omega arith
some_number PathList zero = omega arith

-- a finding that is not bad finds nothing, and a bad one has a number
pub finds_nothing : (found : Finding) → is_err found ≡ false → found ≡ Ok tt
finds_nothing (Ok tt) e = refl
finds_nothing (Err bad) e = absurd (true≢false e)

pub bad_number : (found : Finding) → is_err found ≡ true → number_of found ≡ 0 → ⊥
bad_number (Ok sound) e z = false≢true e
bad_number (Err bad) e z = some_number (refusal_of bad) z

-- and only a bad one has
bad_told : (found : Finding) → (number_of found ≡ 0 → ⊥) → is_err found ≡ true
bad_told found some = go (is_err found) refl
  where
    go : (b : Bool) → is_err found ≡ b → b ≡ true
    go true e = refl
    go false e = absurd (some (ap number_of (finds_nothing found e)))

module _ (table : List ℕ) (n : ℕ) where
  -- the finding at a cell has the number of its first kind
  pub kind_law : (place : ℕ) → Lawful number_of (kinds table n place) (finding_at table n place)
  unfolding cell_finding finding_at
  kind_law place =
      law_first number_of (Err (Value place)) _ (λ e. omega arith) (tells_same _ (tells_below 1 (get_or table place 0)) ((λ p. (λ e. omega arith, λ e. omega arith)), (λ p. omega (arith, p.0, p.1))))
      (law_first number_of (Err (Mirror place)) _ (λ e. omega arith) (tells_not _ (tells_equal _ _))
      (law_none number_of (Ok tt) refl))

  -- and its place
  fault_place : (place : ℕ) → bad_cell table n place ≡ true → place_of (passed (finding_at table n place)) ≡ place
  unfolding cell_finding finding_at
  fault_place place = go (ltb 1 (get_or table place 0)) (not (eqb (get_or table place 0) (get_or table (place % n * n + place / n) 0)))
    where
      go : (value other : Bool) → let found = cond value (Err (Value place)) (cond other (Err (Mirror place)) (Ok tt)) in is_err found ≡ true → place_of (passed found) ≡ place
      go true other e = refl
      go false true e = refl
      go false false e = absurd (false≢true e)

  -- a cell is bad exactly if it has a fault
  pub bad-cell : (place : ℕ) → Tells (bad_cell table n place) (Fault table n place)
  bad-cell place = (λ e. of_kind ((law.given _ (bad_number (finding_at table n place) e)).0 refl), λ fault. bad_told (finding_at table n place) (λ zero. no_kind fault (law.none.0 zero)))
    where
      law : Lawful number_of (kinds table n place) (finding_at table n place)
      law = kind_law place

      of_kind : {c : ℕ} → Gives (kinds table n place) c → Fault table n place
      of_kind (inl (e, p)) = no_bit p
      of_kind (inr (p₁, inl (e, p))) = mirror p
      of_kind (inr (p₁, inr (p₂, g))) = absurd g

      no_kind : Fault table n place → NoneHolds (kinds table n place) → ⊥
      no_kind (no_bit p) none = none.0 p
      no_kind (mirror p) none = none.1.0 p

-- ---- the first of them

module _ (table : List ℕ) (n : ℕ) where
  -- what "first" says of the first bad cell
  first-bad : First (bad_cell table n) 0 (n * n) (first_bad table n)
  unfolding first_bad
  first-bad = first-from (bad_cell table n) 0 (n * n) (omega arith)

  first_fault : first_bad table n < n * n → FirstFault table n (first_bad table n)
  first_fault p =
      record {
        within = p;
        fault = (bad-cell table n (first_bad table n)).0 (first-bad.found p);
        none_before = λ earlier q fault. true≢false (sym ((bad-cell table n earlier).1 fault) ∙ first-bad.before earlier (omega arith) q);
      }

  -- there is one first cell at fault
  first_alone : (place : ℕ) → FirstFault table n place → place ≡ first_bad table n
  first_alone place first = go (dec_lt (first_bad table n) place) (dec_lt place (first_bad table n))
    where
      go : Dec (first_bad table n < place) → Dec (place < first_bad table n) → place ≡ first_bad table n
      go (yes l) r = absurd (first.none_before (first_bad table n) l (first_fault (omega (arith, first.within))).fault)
      go (no l) (yes r) = absurd (true≢false (sym ((bad-cell table n place).1 first.fault) ∙ first-bad.before place (omega arith) r))
      go (no l) (no r) = omega arith

  -- what is found is the finding there
  found_there : first_bad table n < n * n → finding table n ≡ finding_at table n (first_bad table n)
  unfolding finding
  found_there p = rw (lt-ltb _ _ p) refl

  found_nowhere : n * n ≤ first_bad table n → finding table n ≡ Ok tt
  unfolding finding
  found_nowhere p = rw (le-ltb _ _ p) refl

  -- a finding tells the first cell at fault, by its first kind
  pub first_told : is_err (finding table n) ≡ true → FirstIs table n (number_of (finding table n)) (place_of (passed (finding table n)))
  first_told bad = go (dec_lt (first_bad table n) (n * n))
    where
      go : Dec (first_bad table n < n * n) → FirstIs table n (number_of (finding table n)) (place_of (passed (finding table n)))
      go (yes p) =
          let there : bad_cell table n (first_bad table n) ≡ true = first-bad.found p in
          rw (found_there p, fault_place table n (first_bad table n) there)
          (record { first = first_fault p; kind = ((kind_law table n (first_bad table n)).given _ (bad_number (finding_at table n (first_bad table n)) there)).0 refl })
      go (no p) = absurd (false≢true (sym (ap is_err (found_nowhere (omega arith))) ∙ bad))

  -- and is the only one that does
  pub kind_exactly : (c : ℕ) → (c ≡ 0 → ⊥) → (number_of (finding table n) ≡ c) ↔ ((place : ℕ) × FirstIs table n c place)
  kind_exactly c apart = (λ told. (place_of (passed (finding table n)), rw told at (first_told (bad_told (finding table n) (λ zero. apart (sym told ∙ zero))))), λ w. back w.0 w.1)
    where
      back : (place : ℕ) → FirstIs table n c place → number_of (finding table n) ≡ c
      back place is =
          let there : place ≡ first_bad table n = first_alone place is.first in
          ap number_of (found_there (omega (arith, is.first.within)))
          ∙ ((kind_law table n (first_bad table n)).given c apart).1 (rw there at is.kind)

-- a table in which the check finds nothing has no fault
pub sound_table : (table : List ℕ) (n : ℕ) → finding table n ≡ Ok tt → (place : ℕ) → place < n * n → Fault table n place → ⊥
sound_table table n sound place p fault = go (dec_lt (first_bad table n) (n * n))
  where
    go : Dec (first_bad table n < n * n) → ⊥
    go (yes q) = false≢true (sym (ap is_err sound) ∙ ap is_err (found_there table n q) ∙ (first-bad table n).found q)
    go (no q) = true≢false (sym ((bad-cell table n place).1 fault) ∙ (first-bad table n).before place (omega arith) (omega arith))

-- ---- each part of the list, and the whole

-- a verdict follows the law of the conditions, and one on a cell tells the first at fault
pub record Exact (table : List ℕ) (n : ℕ) (list : Conditions) (v : Verdict) : Type 0 where
  pub law : Lawful number list v
  pub cell : of_cell (number v) ≡ true → FirstIs table n (number v) (place_of v)

module _ {table : List ℕ} {n : ℕ} where
  -- one refusal that is not on a cell
  pub one : (v : Refusal) (test : Bool) {P : Type 0} → of_cell (number (Err v)) ≡ false → Tells test P → Exact table n ((number (Err v), P) ∷ []) (refuse test v)
  one v test {P} other tells = record { law = law_one number (Err v) (Ok tt) test (some_number v) refl tells; cell = go test }
    where
      go : (b : Bool) → of_cell (number (refuse b v)) ≡ true → FirstIs table n (number (refuse b v)) (place_of (refuse b v))
      go true e = clash e other
      go false e = absurd (false≢true e)

  infixl 25 ◌then◌
  -- the refusals of one list, then those of another
  pub ◌then◌ : {list next : Conditions} {v w : Verdict} → Exact table n list v → Exact table n next w → Exact table n (list ++ next) (v or_else w)
  ◌then◌ {v} {w} first second = record { law = law_after number first.law second.law; cell = go (eqb (number v) 0) }
    where
      go : (b : Bool) → of_cell (number (cond b w v)) ≡ true → FirstIs table n (number (cond b w v)) (place_of (cond b w v))
      go true = second.cell
      go false = first.cell

module _ (table : List ℕ) (n : ℕ) where
  abbrev Exactly : ℕ → Type 0
  Exactly c = (number_of (finding table n) ≡ c) ↔ ((place : ℕ) × FirstIs table n c place)

  exactly_3 : Exactly 3
  exactly_3 = kind_exactly table n 3 (λ e. omega arith)

  exactly_13 : Exactly 13
  exactly_13 = kind_exactly table n 13 (λ e. omega arith)

  -- no other number is told of a table
  no_other : NoneHolds (cell_conditions table n) → (found : Finding) → number_of (finding table n) ≡ number_of found → number_of (finding table n) ≡ 0
  no_other none (Ok sound) e = e
  no_other none (Err (Value place)) e = absurd (none.0 (exactly_3.0 e))
  no_other none (Err (Mirror place)) e = absurd (none.1.0 (exactly_13.0 e))

  pub cells_exact : Exact table n (cell_conditions table n) (passed (finding table n))
  cells_exact =
      record {
        law = law_each number _ _ (λ e. omega arith, exactly_3, (λ e. omega arith, exactly_13, tt)) (λ none. no_other none (finding table n) refl);
        cell = λ e. first_told table n (bad_told (finding table n) (λ zero. clash e (ap of_cell zero)));
      }

-- 1 in words
pub size-tells : (n : ℕ) → Tells (no_size n) ((n < 2) ⊎ (most_radios < n))
size-tells n = tells_or _ _ (tells_below n 2) (tells_below most_radios n)

pub size_exact : {table : List ℕ} (n : ℕ) → Exact table n (size_conditions n) (size_verdict n)
size_exact n = one Radios _ refl (size-tells n)

pub map_exact : (table : List ℕ) (n : ℕ) → Exact table n (map_conditions table n) (map_verdict table n)
unfolding map_verdict
map_exact table n =
    size_exact n
    then one TableLength _ refl (tells_not _ (tells_equal _ _))
    then cells_exact table n
    then one Links _ refl (tells_below _ _)

pub pair_exact : {table : List ℕ} (n S T k : ℕ) → Exact table n (pair_conditions n S T k) (pair_verdict n S T k)
unfolding pair_verdict
pair_exact n S T k =
    one Ends _ refl (tells_same _ (tells_or _ _ (tells_or _ _ (tells_not_below S n) (tells_not_below T n)) (tells_equal S T)) (to, back))
    then one Wanted _ refl (tells_or _ _ (tells_equal k 0) (tells_below most_paths k))
  where
    to : ((n ≤ S) ⊎ (n ≤ T)) ⊎ (S ≡ T) → (n ≤ S) ⊎ (n ≤ T) ⊎ (S ≡ T)
    to (inl (inl p)) = inl p
    to (inl (inr p)) = inr (inl p)
    to (inr p) = inr (inr p)

    back : (n ≤ S) ⊎ (n ≤ T) ⊎ (S ≡ T) → ((n ≤ S) ⊎ (n ≤ T)) ⊎ (S ≡ T)
    back (inl p) = inl (inl p)
    back (inr (inl p)) = inl (inr p)
    back (inr (inr p)) = inr p

pub room_exact : {table : List ℕ} (n k steps log_length paths_length cut_length : ℕ)
    → Exact table n (room_conditions n k steps log_length paths_length cut_length) (room_verdict n k steps log_length paths_length cut_length)
unfolding room_verdict
room_exact n k steps log_length paths_length cut_length =
    one Log _ refl (tells_below _ _)
    then one Lists _ refl (tells_or _ _ (tells_below _ _) (tells_below _ _))

pub call_exact : (call : Call) → Exact call.site.table call.site.n (conditions call) (verdict call)
unfolding verdict
call_exact call = map_exact _ _ then pair_exact _ _ _ _ then room_exact _ _ _ _ _ _

-- which part a call's verdict is
module _ (call : Call) where
  abbrev on-map : Verdict
  on-map = map_verdict call.site.table call.site.n

  abbrev on-pair : Verdict
  on-pair = pair_verdict call.site.n call.site.S call.site.T call.k

  pub told_by_map : (number on-map ≡ 0 → ⊥) → verdict call ≡ on-map
  unfolding verdict
  told_by_map refused = simp (ne_eqb _ _ refused)

  pub told_by_pair : number on-map ≡ 0 → (number on-pair ≡ 0 → ⊥) → verdict call ≡ on-pair
  unfolding verdict
  told_by_pair accepted refused = simp (eq-eqb _ _ accepted, ne_eqb _ _ refused)

  pub told_by_room : number on-map ≡ 0 → number on-pair ≡ 0 → verdict call ≡ room_verdict call.site.n call.k (A call.site) call.log_length call.paths_length call.cut_length
  unfolding verdict
  told_by_room accepted fine = simp (eq-eqb _ _ accepted, eq-eqb _ _ fine)

-- only a cell has a place
pub no_place : (v : Verdict) → of_cell (number v) ≡ false → place_of v ≡ 0
no_place (Ok accepted) h = refl
no_place (Err Radios) h = refl
no_place (Err TableLength) h = refl
no_place (Err (CellValue place)) h = absurd (true≢false h)
no_place (Err (CellMirror place)) h = absurd (true≢false h)
no_place (Err Links) h = refl
no_place (Err Ends) h = refl
no_place (Err Wanted) h = refl
no_place (Err Log) h = refl
no_place (Err Lists) h = refl
no_place (Err Records) h = refl
no_place (Err PathList) h = refl

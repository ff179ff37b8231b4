-- What is answered for a text that is refused, and for a map that is surveyed. Assumes nothing.
use mathlib.Core.Path.{◌≡◌, refl, sym, ap, ap₂, ◌∙◌}
use mathlib.Core.Bool.{Bool, true, false, cond}
use mathlib.Core.List.{List, [], ◌∷◌}
use Prim.Native.Nat.{ℕ, ◌*◌, ◌≤◌}
use native.Mathlib.Decide.{ℕ_discrete}
use native.Mathlib.Nat.{mul-le-mul_right}
use native.Mathlib.Omega.{arith}
use lib.Dec.{eqb}
use lib.ListN.{length, replicate}
use borrow.Author.Tests.{eq-eqb, ne_eqb}
use Rattle.std.proofs.Common.{Ok, Err}
use Rattle.basics.specs.Lists.{InOrder}
use Rattle.buffers.specs.Zeros.{zeros_after}
use Rattle.site.specs.Limits.{most_radios}
use Rattle.site.specs.Paths.{Meets}
use Rattle.refusals.specs.Refusals.{Call, Verdict, call_of, number, verdict}
use Rattle.refusals.specs.Conditions.{of_cell}
use Rattle.refusals.specs.declared.Refusal.TheVariants.{Radios, TableLength, CellValue, CellMirror, Links, Ends, Wanted, Log, Lists, Records, PathList}
use Rattle.refusals.proofs.Accepted.{accepted_room}
use Rattle.outcome.specs.declared.Outcome.{Outcome}
use Rattle.outcome.specs.Leaves.{paths_found, cut_found, paths_left, cut_left, outcome}
use Rattle.path_lists.specs.Bytes.{path_bytes}
use Rattle.demands.specs.Promise.{Promise}
use Rattle.captures.specs.Text.{most_number}
use Rattle.captures.specs.declared.FirstLine.{FirstLine}
use Rattle.text_survey.specs.declared.TextFault.{TextFault}
use Rattle.text_survey.specs.declared.TextFault.TheVariants.{TooLong, WrongShape, WrongRadios, BadLine}
use Rattle.text_survey.specs.Survey.{log_lent, paths_lent, cut_lent, text_number, text_place, refused_for, call_for, survey_for}
use Rattle.text_survey.specs.Delivered.{Lent, Bounded, Delivered}

-- ---- a refused text

text_number_small : (fault : TextFault) → text_number fault ≤ most_number
text_number_small TooLong = omega arith
text_number_small (WrongShape line) = omega arith
text_number_small WrongRadios = omega arith
text_number_small (BadLine line) = omega arith

-- both lists were cleared
pub told_refused : (fault : TextFault) {number place : ℕ} {paths₀ cut₀ paths cut : List ℕ} → Lent paths₀ cut₀ → text_place fault ≤ most_number → number ≡ text_number fault → place ≡ text_place fault
    → paths ≡ replicate (length paths₀) 0 → cut ≡ replicate (length cut₀) 0
    → Delivered (refused_for fault) (record { capture = 0; wanted = 0; outcome = record { refusal = number; place = place; paths = 0; rounds = 0; messages = 0 } }) paths cut
unfolding path_bytes
told_refused fault lent small is at no_paths no_cut =
    record {
      numbers_are = ap₂ (λ (n p : ℕ). record { capture = 0; wanted = 0; outcome = record { refusal = n; place = p; paths = 0; rounds = 0; messages = 0 } }) is at;
      paths_are = no_paths ∙ ap (λ (m : ℕ). replicate m 0) lent.paths_long;
      cut_is = no_cut ∙ ap (λ (m : ℕ). replicate m 0) lent.cut_long;
      bounded =
          record {
            refusal = text_number_small fault;
            place = small;
            capture = omega arith;
            few_paths = omega arith;
            few_rounds = omega arith;
            few_messages = omega arith;
            number = refl;
            paths_fit = omega arith;
            cut_fits = omega arith;
            full = λ e. refl;
            items = λ d. refl;
          };
    }

-- ---- a map that is surveyed

-- a table has few cells
pub few_cells : (n : ℕ) → n ≤ most_radios → n * n ≤ most_radios * most_radios
few_cells n h = omega (arith, mul-le-mul_right n h)

number_small : (v : Verdict) → number v ≤ most_number
number_small (Ok accepted) = omega arith
number_small (Err Radios) = omega arith
number_small (Err TableLength) = omega arith
number_small (Err (CellValue place)) = omega arith
number_small (Err (CellMirror place)) = omega arith
number_small (Err Links) = omega arith
number_small (Err Ends) = omega arith
number_small (Err Wanted) = omega arith
number_small (Err Log) = omega arith
number_small (Err Lists) = omega arith
number_small (Err Records) = omega arith
number_small (Err PathList) = omega arith

-- two lists in order have one length
one_length : {A B : Type 0} (R : A → B → Type 0) (list : List A) (others : List B) → InOrder R list others → length list ≡ length others
one_length R [] [] h = refl
one_length R [] (y ∷ others) h = absurd h
one_length R (x ∷ list) [] h = absurd h
one_length R (x ∷ list) (y ∷ others) h = omega (arith, one_length R list others h.1)

-- the bytes of no paths
bytes_if : (b : Bool) (paths : List (List ℕ)) → cond b (path_bytes paths) [] ≡ path_bytes (cond b paths [])
unfolding path_bytes
bytes_if true paths = refl
bytes_if false paths = refl

none_fit : length (path_bytes []) ≤ paths_lent
unfolding path_bytes
none_fit = omega arith

module _ {first : FirstLine} {table : List ℕ} {found : Outcome} {log paths cut : List ℕ} (promise : Promise (call_for first table) found log paths cut) (capture : first.capture ≤ most_number) (few : first.n ≤ most_radios) where
  abbrev call : Call
  call = call_for first table

  refusal_is : (outcome call).refusal ≡ number (verdict call)
  unfolding outcome
  refusal_is = refl

  refusal_small : (outcome call).refusal ≤ most_number
  refusal_small = omega (arith, refusal_is, number_small (verdict call))

  place_small : (outcome call).place ≤ most_number
  place_small = go (of_cell (outcome call).refusal) refl
    where
      go : (b : Bool) → of_cell (outcome call).refusal ≡ b → (outcome call).place ≤ most_number
      go true e = omega (arith, (promise.demand_1.place_of_cell e).first.within, few_cells first.n few)
      go false e = omega (arith, promise.demand_1.no_place e)

  bounded : Bounded (survey_for first table)
  unfolding survey_for
  bounded = go (ℕ_discrete (number (verdict call)) 0)
    where
      go : Dec (number (verdict call) ≡ 0) → Bounded (survey_for first table)
      go (yes e) =
          let accepted : (outcome call).refusal ≡ 0 = refusal_is ∙ e in
          let room = accepted_room call e in
          let d2 = promise.demand_2 accepted in
          let d3 = promise.demand_3 accepted in
          let not_more : (outcome call).paths ≤ first.k = omega (arith, d2.largest d3.largest.0 d3.largest.1) in
          rw (eq-eqb (number (verdict call)) 0 e)
          (record {
            refusal = refusal_small;
            place = place_small;
            capture = capture;
            few_paths = omega (arith, room.few_wanted);
            few_rounds = omega (arith, d3.rounds d3.largest.0 d3.largest.1, room.few_wanted);
            few_messages = omega (arith, d3.messages, d3.log_fits);
            number = d2.number;
            paths_fit = d3.paths_fit;
            cut_fits = d3.cut_fits;
            full = d2.full;
            items = λ lacking. one_length (Meets call.site) (cut_found call) (paths_found call) (d2.in_order (omega (arith, lacking))) ∙ d2.number;
          })
      go (no e) =
          let nothing = promise.demand_1.nothing_left (λ z. e (sym refusal_is ∙ z)) in
          rw (ne_eqb (number (verdict call)) 0 e)
          (record {
            refusal = refusal_small;
            place = place_small;
            capture = capture;
            few_paths = omega (arith, nothing.paths);
            few_rounds = omega (arith, nothing.rounds);
            few_messages = omega (arith, nothing.messages);
            number = sym nothing.paths;
            paths_fit = none_fit;
            cut_fits = omega arith;
            full = λ z. refl;
            items = λ z. sym nothing.paths;
          })

  surveyed : Delivered (survey_for first table) (record { capture = first.capture; wanted = first.k; outcome = found }) paths cut
  unfolding survey_for paths_left cut_left
  surveyed =
      record {
        numbers_are = ap (λ (o : Outcome). record { capture = first.capture; wanted = first.k; outcome = o }) promise.numbers_are;
        paths_are = promise.paths_are ∙ ap (zeros_after paths_lent) (bytes_if (eqb (number (verdict call)) 0) (paths_found call));
        cut_is = promise.cut_is;
        bounded = bounded;
      }

-- with buffers of the lengths that are asked for
pub told_surveyed : (first : FirstLine) {table : List ℕ} {l p c : ℕ} {found : Outcome} {log paths cut : List ℕ}
    → Promise (call_of first.n table first.s first.t first.k l p c) found log paths cut → l ≡ log_lent → p ≡ paths_lent → c ≡ cut_lent → first.capture ≤ most_number → first.n ≤ most_radios
    → Delivered (survey_for first table) (record { capture = first.capture; wanted = first.k; outcome = found }) paths cut
told_surveyed first promise a b c capture few = surveyed {first = first} (rw (a, b, c) at promise) capture few

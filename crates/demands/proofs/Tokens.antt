-- What a log says of discovery tokens and replies, round by round. Assumes nothing.
use mathlib.Core.Path.{◌≡◌, refl, ap, ◌∙◌}
use mathlib.Core.Bool.{Bool, true, false, ◌&&◌, and-true, and-false}
use mathlib.Core.List.{List, [], ◌∷◌, ◌++◌}
use mathlib.Core.Logic.{◌⊎◌, inl, inr}
use Prim.Native.Nat.{ℕ, zero, suc, ◌+◌, ◌-◌, ◌≤◌, ◌<◌}
use native.Mathlib.Nat.{sub-zero, zero-sub, suc-sub-suc}
use native.Mathlib.Omega.{arith}
use native.Mathlib.Decide.{ℕ_discrete, dec_lt}
use lib.Dec.{eqb}
use lib.ListN.{length, take}
use borrow.Author.Tests.{eq-eqb, ne_eqb}
use Rattle.basics.specs.Counting.{one_if}
use Rattle.basics.specs.Lists.{All}
use Rattle.site.specs.Map.{Site, step}
use Rattle.tokens.specs.declared.Kind.{Kind}
use Rattle.tokens.specs.declared.Kind.TheVariants.{Pdt, PdtB, Pmt, Done}
use Rattle.tokens.specs.declared.Message.{Message}
use Rattle.tokens.specs.Run.{Entry}
use Rattle.tokens.specs.Rules.{Marks}
use Rattle.menger.proofs.Network.{Split, walkable}
use Rattle.menger.proofs.Walks.{walk_cases, one_end}
use Rattle.routes.proofs.Trails.{network_of}
use Rattle.rounds.proofs.Shows.{in_round, hit, token_to, tokens, Due, due_after, Answered}
use Rattle.demands.specs.Demand3.{is_token, is_reply, sent_in, tokens_in, replies_in}

-- ---- one log after another

sent_append : (kinds : Kind → Bool) (round a b : ℕ) (log later : List Entry) → sent_in kinds round a b (log ++ later) ≡ sent_in kinds round a b log + sent_in kinds round a b later
sent_append kinds round a b [] later = omega arith
sent_append kinds round a b (e ∷ log) later = omega (arith, sent_append kinds round a b log later)

-- ---- the messages of one round

-- how often they are of these kinds, from half a to half b
abbrev sent_of : (Kind → Bool) → ℕ → ℕ → List Message → ℕ
sent_of kinds a b [] = 0
sent_of kinds a b (m ∷ log) = one_if (kinds m.kind && (eqb a m.from && eqb b m.to)) + sent_of kinds a b log

in_its_round : (kinds : Kind → Bool) (round a b : ℕ) (log : List Message) → sent_in kinds round a b (in_round round log) ≡ sent_of kinds a b log
in_its_round kinds round a b [] = refl
in_its_round kinds round a b (m ∷ log) = omega (arith, in_its_round kinds round a b log, ap one_if same)
  where
    same : (kinds m.kind && eqb round round && (eqb a m.from && eqb b m.to)) ≡ (kinds m.kind && (eqb a m.from && eqb b m.to))
    same = rw (eq-eqb round round refl, and-true)

in_another_round : (kinds : Kind → Bool) (round other a b : ℕ) (log : List Message) → (other ≡ round → ⊥) → sent_in kinds other a b (in_round round log) ≡ 0
in_another_round kinds round other a b [] ne = refl
in_another_round kinds round other a b (m ∷ log) ne = omega (arith, in_another_round kinds round other a b log ne, ap one_if none)
  where
    none : (kinds m.kind && eqb other round && (eqb a m.from && eqb b m.to)) ≡ false
    none = rw (ne_eqb other round ne, and-false)

-- the tokens are the discovery tokens
tokens_are : (a b : ℕ) (log : List Message) → sent_of is_token a b log ≡ tokens a b log
tokens_are a b [] = refl
tokens_are a b (m ∷ log) = omega (arith, tokens_are a b log, one m.kind m.from m.to)
  where
    one : (kind : Kind) (from to : ℕ) → one_if (is_token kind && (eqb a from && eqb b to)) ≡ token_to a b kind from to
    one Pdt from to = refl
    one PdtB from to = refl
    one Pmt from to = refl
    one Done from to = refl

-- ---- replies

-- a reply that is due takes one away
taken : (a b from to : ℕ) (w : ℕ → ℕ → ℕ) → 0 < w to from → one_if (eqb b from && eqb a to) + (w a b - hit a b to from) ≡ w a b
taken a b from to w due = go (ℕ_discrete a to) (ℕ_discrete b from)
  where
    go : Dec (a ≡ to) → Dec (b ≡ from) → one_if (eqb b from && eqb a to) + (w a b - hit a b to from) ≡ w a b
    go (yes e) (yes f) = let some : 0 < w a b = rw (e, f) due in rw (eq-eqb a to e, eq-eqb b from f) (omega arith)
    go (yes e) (no f) = rw (ne_eqb b from f, and-false) (omega arith)
    go (no e) f = rw (ne_eqb a to e, and-false) (omega arith)

-- what one message does to the replies, the tokens and what is due
reply_step : (a b : ℕ) (kind : Kind) (from to : ℕ) (w : ℕ → ℕ → ℕ) → Due kind from to w
    → one_if (is_reply kind && (eqb b from && eqb a to)) + due_after kind from to w a b ≡ token_to a b kind from to + w a b
reply_step a b Pdt from to w due = omega arith
reply_step a b PdtB from to w due = omega (arith, taken a b from to w due)
reply_step a b Pmt from to w due = omega (arith, taken a b from to w due)
reply_step a b Done from to w due = absurd due

-- each token gets one reply
replies_match : (log : List Message) (w : ℕ → ℕ → ℕ) → Answered log w → (a b : ℕ) → sent_of is_reply b a log ≡ tokens a b log + w a b
replies_match [] w answered a b = omega (arith, answered a b)
replies_match (m ∷ log) w answered a b =
    omega (arith, replies_match log (due_after m.kind m.from m.to w) answered.1 a b, reply_step a b m.kind m.from m.to w answered.0)

-- and none before it came
none_early : (i : ℕ) (log : List Message) (w : ℕ → ℕ → ℕ) → Answered log w → (a b : ℕ) → sent_of is_reply b a (take i log) ≤ tokens a b (take i log) + w a b
none_early zero log w answered a b = omega arith
none_early (suc i) [] w answered a b = omega arith
none_early (suc i) (m ∷ log) w answered a b =
    omega (arith, none_early i log (due_after m.kind m.from m.to w) answered.1 a b, reply_step a b m.kind m.from m.to w answered.0)

-- ---- logs of many rounds

-- what demand 3 says of the tokens of a log whose rounds are numbered from `first` on
pub record Orderly (site : Site) (first : ℕ) (log : List Entry) : Type 0 where
  pub none_earlier : (kinds : Kind → Bool) (round a b : ℕ) → round < first → sent_in kinds round a b log ≡ 0
  pub over_steps : (round a b : ℕ) → 0 < tokens_in round a b log → (step site a b ≡ true) ⊎ (step site b a ≡ true)
  pub once : (round a b : ℕ) → tokens_in round a b log + tokens_in round b a log ≤ 1
  pub one_reply : (round a b : ℕ) → replies_in round b a log ≡ tokens_in round a b log
  pub none_before : (i round a b : ℕ) → replies_in round b a (take i log) ≤ tokens_in round a b (take i log)

-- a log of DONE messages has neither tokens nor replies
no_dones : (kinds : Kind → Bool) → kinds Done ≡ false → (round other a b : ℕ) (log : List Message) → All (λ (m : Message). m.kind ≡ Done) log → sent_in kinds other a b (in_round round log) ≡ 0
no_dones kinds e round other a b [] all = refl
no_dones kinds e round other a b (m ∷ log) all = omega (arith, no_dones kinds e round other a b log all.1, ap one_if none)
  where
    none : (kinds m.kind && eqb other round && (eqb a m.from && eqb b m.to)) ≡ false
    none = rw (all.0, e)

-- an opening part has no more of anything
opening_le : (kinds : Kind → Bool) (round a b i : ℕ) (log : List Entry) → sent_in kinds round a b (take i log) ≤ sent_in kinds round a b log
opening_le kinds round a b zero log = omega arith
opening_le kinds round a b (suc i) [] = omega arith
opening_le kinds round a b (suc i) (e ∷ log) = omega (arith, opening_le kinds round a b i log)

opening_append : (i : ℕ) (log later : List Entry) → take i (log ++ later) ≡ take i log ++ take (i - length log) later
opening_append zero [] later = refl
opening_append (suc i) [] later = rw (sub-zero (suc i))
opening_append zero (e ∷ log) later = rw zero-sub
opening_append (suc i) (e ∷ log) later = ap (λ (rest : List Entry). e ∷ rest) (opening_append i log later ∙ rw (suc-sub-suc i (length log)))

opening_of_round : (i round : ℕ) (log : List Message) → take i (in_round round log) ≡ in_round round (take i log)
opening_of_round zero round log = refl
opening_of_round (suc i) round [] = refl
opening_of_round (suc i) round (m ∷ log) = ap (λ (rest : List Entry). record { message = m; round = round } ∷ rest) (opening_of_round i round log)

-- the DONE messages of the last round, or none
pub dones_orderly : (site : Site) (first round : ℕ) (log : List Message) → first ≤ round → All (λ (m : Message). m.kind ≡ Done) log → Orderly site first (in_round round log)
dones_orderly site first round log later all =
    record {
      none_earlier = λ kinds other a b p. in_another_round kinds round other a b log (λ e. omega arith);
      over_steps = λ other a b some. absurd (omega (arith, no_dones is_token refl round other a b log all));
      once = λ other a b. omega (arith, no_dones is_token refl round other a b log all, no_dones is_token refl round other b a log all);
      one_reply = λ other a b. omega (arith, no_dones is_token refl round other a b log all, no_dones is_reply refl round other b a log all);
      none_before = λ i other a b. omega (arith, no_dones is_reply refl round other b a log all, opening_le is_reply other b a i (in_round round log));
    }

-- the messages of one round
pub round_orderly : (site : Site) → Split (network_of site) → (marks : Marks) (round : ℕ) (log : List Message) → Answered log (λ x y. 0)
    → ((x y : ℕ) → tokens x y log ≤ one_if (walkable (network_of site) marks x y)) → Orderly site round (in_round round log)
round_orderly site split marks round log answered few =
    record {
      none_earlier = λ kinds other a b p. in_another_round kinds round other a b log (λ e. omega arith);
      over_steps = λ other a b some. goes other a b some (ℕ_discrete other round);
      once = λ other a b. only other a b (ℕ_discrete other round);
      one_reply = λ other a b. replied other a b (ℕ_discrete other round);
      none_before = λ i other a b. before i other a b (ℕ_discrete other round);
    }
  where
    here : (other a b : ℕ) → other ≡ round → tokens_in other a b (in_round round log) ≡ tokens a b log
    here other a b e = rw e (in_its_round is_token round a b log ∙ tokens_are a b log)

    goes : (other a b : ℕ) → 0 < tokens_in other a b (in_round round log) → Dec (other ≡ round) → (step site a b ≡ true) ⊎ (step site b a ≡ true)
    goes other a b some (no e) = absurd (omega (arith, in_another_round is_token round other a b log e))
    goes other a b some (yes e) = cases (walkable (network_of site) marks a b) refl
      where
        steps : ((step site a b ≡ true) × (marks a b ≡ false)) ⊎ ((step site b a ≡ true) × (marks b a ≡ true)) → (step site a b ≡ true) ⊎ (step site b a ≡ true)
        steps (inl w) = inl w.0
        steps (inr w) = inr w.0

        cases : (c : Bool) → walkable (network_of site) marks a b ≡ c → (step site a b ≡ true) ⊎ (step site b a ≡ true)
        cases true w = steps (walk_cases (network_of site) marks a b w)
        cases false w = absurd (omega (arith, here other a b e, few a b, ap one_if w))

    only : (other a b : ℕ) → Dec (other ≡ round) → tokens_in other a b (in_round round log) + tokens_in other b a (in_round round log) ≤ 1
    only other a b (yes e) = omega (arith, here other a b e, here other b a e, few a b, few b a, one_end split marks a b)
    only other a b (no e) = omega (arith, in_another_round is_token round other a b log e, in_another_round is_token round other b a log e)

    replied : (other a b : ℕ) → Dec (other ≡ round) → replies_in other b a (in_round round log) ≡ tokens_in other a b (in_round round log)
    replied other a b (yes e) = omega (arith, here other a b e, ap (λ (x : ℕ). replies_in x b a (in_round round log)) e, in_its_round is_reply round b a log, replies_match log (λ x y. 0) answered a b)
    replied other a b (no e) = omega (arith, in_another_round is_token round other a b log e, in_another_round is_reply round other b a log e)

    before : (i other a b : ℕ) → Dec (other ≡ round) → replies_in other b a (take i (in_round round log)) ≤ tokens_in other a b (take i (in_round round log))
    before i other a b (yes e) = rw (opening_of_round i round log, e) (omega (arith, in_its_round is_reply round b a (take i log), in_its_round is_token round a b (take i log), tokens_are a b (take i log), none_early i log (λ x y. 0) answered a b))
    before i other a b (no e) = omega (arith, in_another_round is_reply round other b a log e, opening_le is_reply other b a i (in_round round log))

-- one log after another that has no tokens in the same round
module _ {site : Site} {first : ℕ} {log later : List Entry} (now : Orderly site first log) (then : Orderly site first later)
    (apart : (round a b : ℕ) → ((tokens_in round a b log ≡ 0) × (tokens_in round b a log ≡ 0)) ⊎ ((tokens_in round a b later ≡ 0) × (tokens_in round b a later ≡ 0))) where
  sent : (kinds : Kind → Bool) (round a b : ℕ) → sent_in kinds round a b (log ++ later) ≡ sent_in kinds round a b log + sent_in kinds round a b later
  sent kinds round a b = sent_append kinds round a b log later

  goes : (round a b : ℕ) → Dec (0 < tokens_in round a b log) → 0 < tokens_in round a b log + tokens_in round a b later → (step site a b ≡ true) ⊎ (step site b a ≡ true)
  goes round a b (yes p) some = now.over_steps round a b p
  goes round a b (no p) some = then.over_steps round a b (omega arith)

  only : (round a b : ℕ) → ((tokens_in round a b log ≡ 0) × (tokens_in round b a log ≡ 0)) ⊎ ((tokens_in round a b later ≡ 0) × (tokens_in round b a later ≡ 0)) → tokens_in round a b (log ++ later) + tokens_in round b a (log ++ later) ≤ 1
  only round a b (inl none) = omega (arith, sent is_token round a b, sent is_token round b a, then.once round a b, none.0, none.1)
  only round a b (inr none) = omega (arith, sent is_token round a b, sent is_token round b a, now.once round a b, none.0, none.1)

  pub orderly_append : Orderly site first (log ++ later)
  orderly_append =
      record {
        none_earlier = λ kinds round a b p. omega (arith, sent kinds round a b, now.none_earlier kinds round a b p, then.none_earlier kinds round a b p);
        over_steps = λ round a b some. goes round a b (dec_lt 0 (tokens_in round a b log)) (omega (arith, sent is_token round a b));
        once = λ round a b. only round a b (apart round a b);
        one_reply = λ round a b. omega (arith, sent is_reply round b a, sent is_token round a b, now.one_reply round a b, then.one_reply round a b);
        none_before = λ i round a b. rw (opening_append i log later) (omega (
          arith,
          sent_append is_reply round b a (take i log) (take (i - length log) later),
          sent_append is_token round a b (take i log) (take (i - length log) later),
          now.none_before i round a b,
          then.none_before (i - length log) round a b,
        ));
      }

-- rounds numbered from a later one on are numbered from this one on
sooner : {site : Site} {first later : ℕ} {log : List Entry} → first ≤ later → Orderly site later log → Orderly site first log
sooner p o = record {
  none_earlier = λ kinds other a b q. o.none_earlier kinds other a b (omega arith);
  over_steps = o.over_steps;
  once = o.once;
  one_reply = o.one_reply;
  none_before = o.none_before;
}

-- a round's messages before those of later rounds
pub later_rounds : (site : Site) (round : ℕ) (log : List Message) (later : List Entry) → Orderly site round (in_round round log) → Orderly site (suc round) later → Orderly site round (in_round round log ++ later)
later_rounds site round log later now then = orderly_append now (sooner (omega arith) then) (λ other a b. apart other a b (dec_lt round other))
  where
    apart : (other a b : ℕ) → Dec (round < other)
        → ((tokens_in other a b (in_round round log) ≡ 0) × (tokens_in other b a (in_round round log) ≡ 0)) ⊎ ((tokens_in other a b later ≡ 0) × (tokens_in other b a later ≡ 0))
    apart other a b (yes p) = inl (in_another_round is_token round other a b log (λ e. omega arith), in_another_round is_token round other b a log (λ e. omega arith))
    apart other a b (no p) = inr (then.none_earlier is_token other a b (omega arith), then.none_earlier is_token other b a (omega arith))

-- the DONE messages after all rounds. Where no round was played theirs is 0
pub then_dones : (site : Site) (first round : ℕ) (log : List Entry) (dones : List Message) → Orderly site first log → All (λ (m : Message). m.kind ≡ Done) dones → Orderly site 0 (log ++ in_round round dones)
then_dones site first round log dones now all =
    orderly_append (sooner (omega arith) now) (dones_orderly site 0 round dones (omega arith) all) (λ other a b. inr (no_dones is_token refl round other a b dones all, no_dones is_token refl round other b a dones all))

-- The machine leaves no choice: one log is an opening part of another, and a round is not won in its middle. Assumes nothing.
use mathlib.Core.Path.{◌≡◌, refl, sym, ap, ap₂, ◌∙◌, subst}
use mathlib.Core.Bool.{Bool, true, false, cond}
use mathlib.Core.List.{List, [], ◌∷◌, ◌++◌}
use mathlib.Core.Logic.{◌⊎◌, inl, inr}
use Prim.Native.Nat.{ℕ, suc, ◌+◌, ◌≤◌, ◌<◌}
use native.Mathlib.Omega.{arith}
use lib.Dec.{eqb, ltb}
use lib.ListN.{length}
use Rattle.basics.specs.Lists.{All}
use Rattle.site.specs.Map.{Site, in_half, out_half, is_out}
use Rattle.tokens.specs.declared.Kind.{Kind}
use Rattle.tokens.specs.declared.Kind.TheVariants.{Pdt, PdtB, Pmt, Done}
use Rattle.tokens.specs.declared.Message.{Message}
use Rattle.tokens.specs.Rules.{Plan, Notes, Waiting, nobody, waits, State, searching, declining, granting, won, carrying, Next, sends, over, message, begun, just_s, next_place, gets, next_marked, pass_on, release, carry, tries, search, grant, decline, go_on, inner_step}
use Rattle.tokens.specs.Run.{Entry, notes_of}
use Rattle.rounds.proofs.Shows.{Leads, in_round, Due, due_after, Answered}

-- ---- what a step that sends says

same-message : {m m' : Message} {s s' : State} → sends m s ≡ sends m' s' → (m ≡ m') × (s ≡ s')
same-message e = (cc, cc)

same-entry : (e f : Entry) → e.message ≡ f.message → e.round ≡ f.round → e ≡ f
same-entry e f m r = λ i. record { message = m i; round = r i }

-- ---- one log is an opening part of another

pub opens : (plan : Plan) (state : State) (opening log : List Entry) (middle end : State) → Leads plan state opening middle → Leads plan state log end → length opening ≤ length log
    → (rest : List Entry) × (log ≡ opening ++ rest) × Leads plan middle rest end
opens plan state [] log middle end first second shorter = (log, refl, rw (sym first) second)
opens plan state (e ∷ opening) [] middle end first second shorter = absurd (omega arith)
opens plan state (e ∷ opening) (f ∷ log) middle end first second shorter =
    let same = same-message (sym first.1 ∙ second.1) in
    let more = opens plan first.0 opening log middle end first.3 (rw same.1 second.3) (omega arith) in
    let entry = same-entry e f same.0 (first.2 ∙ ap (λ (s : State). (notes_of s).round) same.1 ∙ sym second.2) in
    (more.0, ap₂ (λ (x : Entry) (rest : List Entry). x ∷ rest) (sym entry) more.1, more.2)

-- ---- the round that comes after a won one

-- DONE is all that S sends there
release-done : (site : Site) (v : ℕ) (notes : Notes) (m : Message) (next : State) → release site v notes ≡ sends m next → m.kind ≡ Done
unfolding release pass_on
release-done site v notes m next e = go (ltb (next_marked site notes.marks (out_half site.S) v) site.n) e
  where
    w : ℕ
    w = next_marked site notes.marks (out_half site.S) v

    go : (b : Bool) → cond b (sends (message Done (out_half site.S) (in_half (next_marked site notes.marks (out_half site.S) v))) (carrying (next_marked site notes.marks (out_half site.S) v) (in_half (next_marked site notes.marks (out_half site.S) v)) notes)) over ≡ sends m next → m.kind ≡ Done
    go true u = ap (λ (x : Message). x.kind) (sym (same-message u).0)
    go false u = absurd (let z : ◌≡◌ {A = ℕ} 0 1 = cc in omega arith)

-- a half that gets a PDT is in the round it was in
gets-round : (goal before : Bool) (h : ℕ) (notes : Notes) (waiting : Waiting) → (notes_of (gets goal before h notes waiting)).round ≡ notes.round
unfolding gets
gets-round true before h notes waiting = refl
gets-round false true h notes waiting = refl
gets-round false false h notes waiting = refl

-- after a won round comes DONE, or a message of the next round
after_won : (plan : Plan) (notes : Notes) (m : Message) (next : State) → inner_step plan (won notes) ≡ sends m next → (m.kind ≡ Done) ⊎ ((notes_of next).round ≡ suc notes.round)
unfolding inner_step go_on search tries
after_won plan notes m next e = go (ltb notes.found plan.k) e
  where
    place : ℕ
    place = next_place plan notes.marks (out_half plan.site.S) 0

    tried : (b : Bool) → tries b plan (out_half plan.site.S) (next_place plan notes.marks (out_half plan.site.S) 0) (begun plan.site notes) nobody ≡ sends m next → (m.kind ≡ Done) ⊎ ((notes_of next).round ≡ suc notes.round)
    tried true u = inr (ap (λ (s : State). (notes_of s).round) (sym (same-message u).1) ∙ gets-round _ _ _ _ _)
    tried false u = inl (release-done plan.site 0 (begun plan.site notes) m next u)

    go : (b : Bool) → go_on b plan notes ≡ sends m next → (m.kind ≡ Done) ⊎ ((notes_of next).round ≡ suc notes.round)
    go true u = tried (ltb (next_place plan notes.marks (out_half plan.site.S) 0) (plan.site.n + 1)) u
    go false u = inl (release-done plan.site 0 notes m next u)

-- ---- the messages of one round

-- its last message tells the round of the state it leads to
last_round : (plan : Plan) (round : ℕ) (state end : State) (e : Entry) (log : List Entry) → Leads plan state (e ∷ log) end → All (λ (x : Entry). x.round ≡ round) (e ∷ log) → (notes_of end).round ≡ round
last_round plan round state end e [] leads all = ap (λ (s : State). (notes_of s).round) (sym leads.3) ∙ sym leads.2 ∙ all.0
last_round plan round state end e (f ∷ log) leads all = last_round plan round leads.0 end f log leads.3 all.1

-- a round's log is of one round and has no DONE
abbrev pub InOneRound : ℕ → Entry → Type 0
InOneRound round e = (e.round ≡ round) × (e.message.kind ≡ Done → ⊥)

pub one_round : (round : ℕ) (log : List Message) (w : ℕ → ℕ → ℕ) → Answered log w → All (InOneRound round) (in_round round log)
one_round round [] w answered = tt
one_round round (m ∷ log) w answered = ((refl, none m.kind refl answered.0), one_round round log (due_after m.kind m.from m.to w) answered.1)
  where
    none : (kind : Kind) → m.kind ≡ kind → Due kind m.from m.to w → m.kind ≡ Done → ⊥
    none Pdt e due d = let z : ◌≡◌ {A = ℕ} 0 1 = cc in omega arith
    none PdtB e due d = let z : ◌≡◌ {A = ℕ} 0 1 = cc in omega arith
    none Pmt e due d = let z : ◌≡◌ {A = ℕ} 0 1 = cc in omega arith
    none Done e due d = due

all_parts : (P : Entry → Type 0) (log later : List Entry) → All P (log ++ later) → All P log × All P later
all_parts P [] later all = (tt, all)
all_parts P (e ∷ log) later all = let rest = all_parts P log later all.1 in ((all.0, rest.0), rest.1)

rounds_of : (round : ℕ) (log : List Entry) → All (InOneRound round) log → All (λ (x : Entry). x.round ≡ round) log
rounds_of round [] all = tt
rounds_of round (e ∷ log) all = (all.0.0, rounds_of round log all.1)

-- S has its PMT at the end of a round and not before
pub won_at_the_end : (plan : Plan) (round : ℕ) (state : State) (opening rest : List Entry) (after : Notes) (end : State) → 0 < length opening → Leads plan state opening (won after)
    → Leads plan (won after) rest end → All (InOneRound round) (opening ++ rest) → won after ≡ end
won_at_the_end plan round state [] rest after end some first second all = absurd (omega arith)
won_at_the_end plan round state (e ∷ opening) [] after end some first second all = second
won_at_the_end plan round state (e ∷ opening) (f ∷ rest) after end some first second all = absurd (go (after_won plan after f.message second.0 second.1))
  where
    parts : All (InOneRound round) (e ∷ opening) × All (InOneRound round) (f ∷ rest)
    parts = all_parts (InOneRound round) (e ∷ opening) (f ∷ rest) all

    go : (f.message.kind ≡ Done) ⊎ ((notes_of second.0).round ≡ suc after.round) → ⊥
    go (inl d) = parts.1.0.1 d
    go (inr n) = omega (arith, n, second.2, parts.1.0.0, last_round plan round state (won after) e opening first (rounds_of round (e ∷ opening) parts.0))

-- ---- once DONE is under way no round is won any more

abbrev IsCarrying : State → Type 0
IsCarrying (searching notes waiting) = ⊥
IsCarrying (declining h notes waiting) = ⊥
IsCarrying (granting h notes waiting) = ⊥
IsCarrying (won notes) = ⊥
IsCarrying (carrying v h notes) = Unit

abbrev CarriesOn : Next → Type 0
CarriesOn (sends m next) = IsCarrying next
CarriesOn over = Unit

pass_carries : (site : Site) (h v w : ℕ) (notes : Notes) → CarriesOn (pass_on site h v w notes)
unfolding pass_on
pass_carries site h v w notes = go (ltb w site.n)
  where
    go : (b : Bool) → CarriesOn (cond b (sends (message Done h (in_half w)) (carrying v (in_half w) notes)) over)
    go true = tt
    go false = tt

pub release-carries : (site : Site) (v : ℕ) (notes : Notes) → CarriesOn (release site v notes)
unfolding release
release-carries site v notes = pass_carries site _ _ _ notes

carrying_stays : (plan : Plan) (state : State) → IsCarrying state → CarriesOn (inner_step plan state)
unfolding inner_step carry
carrying_stays plan (searching notes waiting) c = absurd c
carrying_stays plan (declining h notes waiting) c = absurd c
carrying_stays plan (granting h notes waiting) c = absurd c
carrying_stays plan (won notes) c = absurd c
carrying_stays plan (carrying v h notes) c = go (eqb h (in_half plan.site.T)) (is_out h)
  where
    go : (goal out : Bool) → CarriesOn (carry goal out plan.site v h notes)
    go true out = release-carries plan.site (suc v) notes
    go false true = pass_carries plan.site h v _ notes
    go false false = tt

pub no_more_won : (plan : Plan) (state : State) (log : List Entry) (end : State) → CarriesOn (inner_step plan state) → 0 < length log → Leads plan state log end → IsCarrying end
no_more_won plan state [] end c some leads = absurd (omega arith)
no_more_won plan state (e ∷ []) end c some leads = rw leads.3 at (rw leads.1 at c)
no_more_won plan state (e ∷ f ∷ log) end c some leads = no_more_won plan leads.0 (f ∷ log) end (carrying_stays plan leads.0 (rw leads.1 at c)) (omega arith) leads.3

-- ---- a state in which a round is won has found a path

abbrev WonFound : State → Type 0
WonFound (searching notes waiting) = Unit
WonFound (declining y notes waiting) = Unit
WonFound (granting y notes waiting) = Unit
WonFound (won notes) = 0 < notes.found
WonFound (carrying v h notes) = Unit

abbrev ThenFound : Next → Type 0
ThenFound (sends m next) = WonFound next
ThenFound over = Unit

pass_found : (site : Site) (h v w : ℕ) (notes : Notes) → ThenFound (pass_on site h v w notes)
unfolding pass_on
pass_found site h v w notes = go (ltb w site.n)
  where
    go : (b : Bool) → ThenFound (cond b (sends (message Done h (in_half w)) (carrying v (in_half w) notes)) over)
    go true = tt
    go false = tt

release-found : (site : Site) (v : ℕ) (notes : Notes) → ThenFound (release site v notes)
unfolding release
release-found site v notes = pass_found site _ _ _ notes

gets-found : (goal before : Bool) (y : ℕ) (notes : Notes) (waiting : Waiting) → WonFound (gets goal before y notes waiting)
unfolding gets
gets-found true before y notes waiting = tt
gets-found false true y notes waiting = tt
gets-found false false y notes waiting = tt

tries-found : (b : Bool) (plan : Plan) (h place : ℕ) (notes : Notes) (rest : Waiting) → ThenFound (tries b plan h place notes rest)
unfolding tries
tries-found true plan h place notes rest = gets-found _ _ _ notes _
tries-found false plan h place notes nobody = release-found plan.site 0 notes
tries-found false plan h place notes (waits asker j rest) = tt

search-found : (plan : Plan) (notes : Notes) (waiting : Waiting) → ThenFound (search plan notes waiting)
unfolding search
search-found plan notes nobody = tt
search-found plan notes (waits h i rest) = tries-found _ plan h _ notes rest

step-found : (plan : Plan) (state : State) → ThenFound (inner_step plan state)
unfolding inner_step decline grant go_on carry
step-found plan (searching notes waiting) = search-found plan notes waiting
step-found plan (declining y notes nobody) = tt
step-found plan (declining y notes (waits h i rest)) = tt
step-found plan (granting y notes nobody) = tt
step-found plan (granting y notes (waits h i nobody)) = omega arith
step-found plan (granting y notes (waits h i (waits asker j rest))) = tt
step-found plan (won notes) = go (ltb notes.found plan.k)
  where
    go : (b : Bool) → ThenFound (go_on b plan notes)
    go true = search-found plan (begun plan.site notes) (just_s plan.site)
    go false = release-found plan.site 0 notes
step-found plan (carrying v h notes) = go (eqb h (in_half plan.site.T)) (is_out h)
  where
    go : (arrived out : Bool) → ThenFound (carry arrived out plan.site v h notes)
    go true out = release-found plan.site (suc v) notes
    go false true = pass_found plan.site h v _ notes
    go false false = tt

-- so it is wherever messages have led to
pub led_found : (plan : Plan) (state : State) (log : List Entry) (notes : Notes) → Leads plan state log (won notes) → WonFound state → 0 < notes.found
led_found plan state [] notes leads found = subst WonFound leads found
led_found plan state (e ∷ log) notes leads found = led_found plan leads.0 log notes leads.3 (subst ThenFound leads.1 (step-found plan state))

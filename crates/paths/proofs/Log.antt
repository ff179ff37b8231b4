-- What a message says of the paths from there on. Assumes nothing.
use mathlib.Core.Path.{◌≡◌, refl, sym, ap, ◌∙◌}
use mathlib.Core.Bool.{Bool, true, false}
use mathlib.Core.List.{List, [], ◌∷◌}
use Prim.Native.Nat.{ℕ, zero, suc, ◌+◌, ◌-◌, ◌%◌, ◌≤◌, ◌<◌}
use native.Mathlib.Nat.{add-zero}
use native.Mathlib.Numerals.{add-one}
use native.Mathlib.Omega.{arith}
use lib.Dec.{eqb}
use borrow.Author.Tests.{eq-eqb, ne_eqb, eqb-true, eqb-false}
use lib.ListN.{length, get_or, drop, drop_of_length-le}
use lib.Seq.{drop-cons}
use Rattle.std.specs.Prelude.{Option, None, Some, MatchOption}
use Rattle.basics.specs.Lists.{AnyTwo}
use Rattle.site.specs.Map.{Site, out_half, radio_of, is_out}
use Rattle.tokens.specs.Rules.{message}
use Rattle.tokens.specs.Run.{Entry, Walked, reaches, heard, walked}
use Rattle.tokens.specs.declared.Kind.{Kind}
use Rattle.tokens.specs.declared.Kind.TheVariants.{Pdt, PdtB, Pmt, Done}
use Rattle.message_log.specs.declared.RawMessage.{RawMessage}
use Rattle.message_log.specs.Bytes.{kind_number, RoomFor}
use Rattle.message_log.specs.Read.{raw_at, raw_of}
use Rattle.message_log.specs.Last.{DonesLast}
use Rattle.message_log.proofs.Read.{starts_room, read_at, only_done}
use Rattle.paths.specs.Listing.{LogOf, Arrives, Arrival, NextArrival}

-- ---- what a message says of the paths

-- a message that is no DONE says nothing
other_kind : (kind : Kind) (site : Site) (a b : ℕ) (w : Walked) → (kind_number kind ≡ kind_number Done → ⊥) → heard kind site a b w ≡ w
other_kind Pdt site a b w other = refl
other_kind PdtB site a b w other = refl
other_kind Pmt site a b w other = refl
other_kind Done site a b w other = absurd (other refl)

-- a message to an out half says nothing
to_out_half : (kind : Kind) (site : Site) (a b : ℕ) (w : Walked) → is_out b ≡ true → heard kind site a b w ≡ w
to_out_half Pdt site a b w out = refl
to_out_half PdtB site a b w out = refl
to_out_half Pmt site a b w out = refl
to_out_half Done site a b w out = rw out refl

-- a DONE to an in half reaches a radio
to_in_half : (kind : Kind) (site : Site) (a b : ℕ) (w : Walked) → kind ≡ Done → is_out b ≡ false → heard kind site a b w ≡ reaches (eqb a (out_half site.S)) (radio_of a) (radio_of b) w
to_in_half kind site a b w is into = rw (is, into) refl

no_entry : Entry
no_entry = record { message = message Pdt 0 0; round = 0 }

-- ---- in the words of what is read

-- the paths are those of the message at a number and of the messages after it
module _ {log : List ℕ} {messages s : ℕ} {site : Site} {entries : List Entry} (told : LogOf log messages s site entries) where
  pub log_room : RoomFor messages log
  log_room = omega (arith, starts_room entries log told.bytes, told.number)

  module _ (at : ℕ) (below : at < messages) where
    abbrev kind : Kind
    kind = (get_or entries at no_entry).message.kind

    read : raw_at log at ≡ raw_of (get_or entries at no_entry)
    read = read_at entries log told.bytes at no_entry (omega (arith, told.number))

    kind_read : (raw_at log at).kind ≡ kind_number kind
    kind_read = ap (λ (m : RawMessage). m.kind) read

    says : walked site (drop at entries) ≡ heard kind site (raw_at log at).from (raw_at log at).to (walked site (drop (at + 1) entries))
    unfolding walked
    says =
        let from : (raw_at log at).from ≡ (get_or entries at no_entry).message.from = ap (λ (m : RawMessage). m.from) read in
        let to : (raw_at log at).to ≡ (get_or entries at no_entry).message.to = ap (λ (m : RawMessage). m.to) read in
        let inside : at < length entries = omega (arith, told.number) in
        rw (from, to, add-one, drop-cons entries at no_entry inside) refl

    pub no_done : ((raw_at log at).kind ≡ kind_number Done → ⊥) → walked site (drop at entries) ≡ walked site (drop (at + 1) entries)
    no_done other = says ∙ other_kind kind site _ _ _ (λ is. other (kind_read ∙ is))

    pub within_radio : ((raw_at log at).to % 2 ≡ 0 → ⊥) → walked site (drop at entries) ≡ walked site (drop (at + 1) entries)
    within_radio odd = says ∙ to_out_half kind site _ _ _ (eq-eqb ((raw_at log at).to % 2) 1 (omega arith))

    pub arrived : Arrives (raw_at log at) → walked site (drop at entries) ≡ reaches (eqb (raw_at log at).from (out_half s)) (radio_of (raw_at log at).from) (radio_of (raw_at log at).to) (walked site (drop (at + 1) entries))
    arrived is =
        let sent : eqb (raw_at log at).from (out_half site.S) ≡ eqb (raw_at log at).from (out_half s) = rw told.source refl in
        says ∙ to_in_half kind site _ _ _ (only_done kind (sym kind_read ∙ is.done)) (ne_eqb ((raw_at log at).to % 2) 1 (λ (odd : (raw_at log at).to % 2 ≡ 1). omega (arith, is.into)))
        ∙ ap (λ b. reaches b (radio_of (raw_at log at).from) (radio_of (raw_at log at).to) (walked site (drop (at + 1) entries))) sent

-- the sender of what was read at a number
pub from_is : (log : List ℕ) (at : ℕ) {heard : RawMessage} → heard ≡ raw_at log at → (raw_at log at).from ≡ heard.from
from_is log at read = ap (λ (m : RawMessage). m.from) (sym read)

-- ---- messages that are passed over

module _ {log : List ℕ} {messages s : ℕ} {site : Site} {entries : List Entry} (told : LogOf log messages s site entries) where
  -- none is left after the last
  none_left : drop messages entries ≡ []
  none_left = drop_of_length-le entries {i = messages} (omega (arith, told.number))

  -- a message that is no DONE, or goes to an out half, says nothing
  passed_over : (at : ℕ) → at < messages → (Arrives (raw_at log at) → ⊥) → walked site (drop at entries) ≡ walked site (drop (at + 1) entries)
  passed_over at below other = by_kind _ refl
    where
      by_kind : (done : Bool) → eqb (raw_at log at).kind (kind_number Done) ≡ done → walked site (drop at entries) ≡ walked site (drop (at + 1) entries)
      by_kind false is = no_done told at below (eqb-false _ _ is)
      by_kind true is = within_radio told at below (λ even. other (record { done = eqb-true _ _ is; into = even }))

  all_passed : (from n : ℕ) → from + n ≤ messages → ((at : ℕ) → from ≤ at → at < from + n → Arrives (raw_at log at) → ⊥) → walked site (drop from entries) ≡ walked site (drop (from + n) entries)
  all_passed from zero l none = rw add-zero refl
  all_passed from (suc n) l none =
      let next : from + n + 1 ≡ from + suc n = omega arith in
      all_passed from n (omega arith) (λ at a b. none at a (omega arith)) ∙ rw next at (passed_over (from + n) (omega arith) (none (from + n) (omega arith) (omega arith)))

  -- so do messages none of which reaches a radio
  silent : (from to : ℕ) → from ≤ to → to ≤ messages → ((at : ℕ) → from ≤ at → at < to → Arrives (raw_at log at) → ⊥) → walked site (drop from entries) ≡ walked site (drop to entries)
  silent from to l m none =
      let there : from + (to - from) ≡ to = omega arith in
      rw there at (all_passed from (to - from) (omega arith) (λ at a b. none at a (omega arith)))

-- a message from a number on stands after each lower number too
pub later_arrives : (log : List ℕ) (messages : ℕ) {from from' : ℕ} (r : Option ℕ) → from' ≤ from → Arrival log from messages r → Arrival log from' messages r
later_arrives log messages None l arrival = tt
later_arrives log messages (Some at) l arrival = (omega (arith, arrival.0), arrival.1, arrival.2)

-- the first message that reaches a radio, where it was looked for
pub found_first : {log : List ℕ} {from messages : ℕ} (r : Option ℕ) → from ≤ messages
    → MatchOption r ((at : ℕ) → from ≤ at → at < messages → Arrives (raw_at log at) → ⊥) (λ i. (from ≤ i) × (i < messages) × Arrives (raw_at log i) × ((at : ℕ) → from ≤ at → at < i → Arrives (raw_at log at) → ⊥))
    → NextArrival log from messages r
found_first {from = from} {messages = messages} None l none = record { arrives = tt; passed = λ s site entries told. silent told from messages l (omega arith) none ∙ ap (walked site) (none_left told) }
found_first {from = from} (Some at) l found = record { arrives = (found.0, found.1, found.2); passed = λ s site entries told. silent told from at found.0 (omega (arith, found.1)) found.3 }

-- ---- the DONEs that end the log

-- message number `at` is a DONE
abbrev pub DoneAt : List ℕ → ℕ → Type 0
DoneAt log at = (raw_at log at).kind ≡ kind_number Done

-- any two that stand next to each other are in the relation
next_two : {A : Type 0} (R : A → A → Type 0) (list : List A) (i : ℕ) (other : A) → AnyTwo R list → suc i < length list → R (get_or list i other) (get_or list (suc i) other)
next_two R [] i other two l = absurd (omega arith)
next_two R (x ∷ []) i other two l = absurd (omega arith)
next_two R (x ∷ y ∷ list) zero other two l = two.0.0
next_two R (x ∷ y ∷ list) (suc i) other two l = next_two R (y ∷ list) i other two.1 (omega arith)

-- a DONE is followed by DONEs
abbrev DoneGoesOn : List ℕ → ℕ → Type 0
DoneGoesOn log messages = (at : ℕ) → suc at < messages → DoneAt log at → DoneAt log (suc at)

module _ {log : List ℕ} {messages s : ℕ} {site : Site} {entries : List Entry} (told : LogOf log messages s site entries) where
  pub done_goes_on : DonesLast entries → DoneGoesOn log messages
  done_goes_on last at l is =
      let done : (get_or entries at no_entry).message.kind ≡ Done = only_done _ (sym (kind_read told at (omega arith)) ∙ is) in
      kind_read told (suc at) l ∙ ap kind_number (next_two _ entries at no_entry last (omega (arith, told.number)) done)

  -- so nothing is said of paths before a message that follows none
  pub none_before : DoneGoesOn log messages → (r : ℕ) → r ≤ messages → ((at : ℕ) → at + 1 ≡ r → DoneAt log at → ⊥) → walked site entries ≡ walked site (drop r entries)
  none_before on zero l other = refl
  none_before on (suc r) l other =
      none_before on r (omega arith) (λ at e is. other r (omega arith) (ap (λ (j : ℕ). (raw_at log j).kind) (omega arith) ∙ on at (omega arith) is))
      ∙ rw add-one at (no_done told r (omega arith) (other r (omega arith)))

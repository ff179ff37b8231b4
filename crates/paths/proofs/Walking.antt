-- One path while it is written: its radios so far, and those still to come. Assumes nothing.
use mathlib.Core.Path.{◌≡◌, refl, sym, ap, ◌∙◌}
use mathlib.Core.Bool.{true, false}
use mathlib.Core.List.{List, [], ◌∷◌, ◌++◌, append_assoc, append-nil}
use Prim.Native.Nat.{ℕ, suc, ◌+◌, ◌-◌, ◌≤◌, ◌<◌}
use native.Mathlib.Numerals.{add-one}
use native.Mathlib.Omega.{arith}
use borrow.Author.Tests.{eq-eqb, ne_eqb}
use lib.ListN.{length, get_or, set, drop, length-append, length-set}
use lib.Seq.{drop-cons, drop-set-lt, set_at}
use Rattle.std.specs.Prelude.{Option, None, Some, IfSome}
use Rattle.site.specs.Map.{Site, out_half, radio_of}
use Rattle.tokens.specs.Run.{Entry, Walked, reaches, walked}
use Rattle.message_log.specs.declared.RawMessage.{RawMessage}
use Rattle.message_log.specs.Read.{raw_at}
use Rattle.paths.specs.Listing.{LogOf, Arrives, NextArrival, entries_from, Walks, PathLeft}
use Rattle.paths.proofs.Log.{arrived}

-- ---- S and the first radio, stored at 1 and 2

abbrev pub path-begun : List ℕ → ℕ → ℕ → List ℕ
path-begun list u v = set (set list 1 u) 2 v

pub begun-length : (list : List ℕ) (u v : ℕ) → length (path-begun list u v) ≡ length list
begun-length list u v = simp length-set

begun-front : (list : List ℕ) (u v : ℕ) → 3 ≤ length list → path-begun list u v ≡ (get_or (path-begun list u v) 0 0 ∷ u ∷ v ∷ []) ++ drop 3 (path-begun list u v)
begun-front [] u v room = absurd (omega arith)
begun-front (x ∷ []) u v room = absurd (omega arith)
begun-front (x ∷ y ∷ []) u v room = absurd (omega arith)
begun-front (x ∷ y ∷ z ∷ list) u v room = refl

begun-after : (list : List ℕ) (u v n : ℕ) → 3 ≤ n → drop n (path-begun list u v) ≡ drop n list
begun-after list u v n l = drop-set-lt n (set list 1 u) 2 v (omega arith) ∙ drop-set-lt n list 1 u (omega arith)

-- ---- what a DONE that reaches a radio says

module _ {log : List ℕ} {messages s : ℕ} {site : Site} {entries : List Entry} (told : LogOf log messages s site entries) (at : ℕ) (below : at < messages) (is : Arrives (raw_at log at)) where
  -- S sends it: a path starts with S and the radio that it reaches
  pub path_starts : (raw_at log at).from ≡ out_half s → walked site (drop at entries) ≡ reaches true s (radio_of (raw_at log at).to) (walked site (drop (at + 1) entries))
  path_starts sent =
      let by : radio_of (raw_at log at).from ≡ s = omega (arith, sent) in
      arrived told at below is ∙ rw (eq-eqb _ _ sent, by) refl

  -- another half sends it: the path under way comes to one radio more
  pub path_goes_on : ((raw_at log at).from ≡ out_half s → ⊥) → walked site (drop at entries) ≡ reaches false s (radio_of (raw_at log at).to) (walked site (drop (at + 1) entries))
  path_goes_on other = arrived told at below is ∙ rw (ne_eqb _ _ other) refl

-- ---- a path under way

-- a list is written from the front: one store more
store_next : (list old written : List ℕ) (n byte : ℕ) → list ≡ written ++ drop n old → length written ≡ n → n < length old → set list n byte ≡ (written ++ (byte ∷ [])) ++ drop (n + 1) old
store_next list old written n byte e l room = rw (e, drop-cons old n 0 room, set_at written _ (drop _ old) byte n l, add-one, append_assoc) refl

-- the number of a path's radios is still to be stored, and the messages before the next that reaches a radio told so many radios of it
pub record UnderWay (before rest : List ℕ) (used : ℕ) (next : Option ℕ) (site : Site) (entries : List Entry) (path : List ℕ) (later : List (List ℕ)) : Type 0 where
  pub passed : List ℕ
  pub whole : path ≡ passed ++ (walked site (entries_from next entries)).onward
  pub after : (walked site (entries_from next entries)).paths ≡ later
  pub counted : used ≡ suc (length passed)
  pub written : rest ≡ (get_or before 0 0 ∷ passed) ++ drop used before

module _ {log : List ℕ} {at messages s : ℕ} {site : Site} {entries : List Entry} {path : List ℕ} {later : List (List ℕ)} (walks : Walks log at messages s site entries path later) where
  -- where S sends the first message
  module _ (below : at < messages) (is : Arrives (raw_at log at)) (sent : (raw_at log at).from ≡ out_half s) where
    first_two : (path ≡ s ∷ radio_of (raw_at log at).to ∷ (walked site (drop (at + 1) entries)).onward) × ((walked site (drop (at + 1) entries)).paths ≡ later)
    first_two =
        let starts : (s ∷ radio_of (raw_at log at).to ∷ (walked site (drop (at + 1) entries)).onward) ∷ (walked site (drop (at + 1) entries)).paths ≡ path ∷ later =
        sym (ap (λ (w : Walked). w.paths) (path_starts walks.told at below is sent)) ∙ walks.first in
        (cc, cc)

    pub two_fit : 2 ≤ length path
    two_fit = omega (arith, ap length first_two.0)

    pub under_begun : (list : List ℕ) (first : RawMessage) (next : Option ℕ) → 3 ≤ length list → first ≡ raw_at log at → NextArrival log (at + 1) messages next
        → UnderWay (path-begun list s (radio_of first.to)) (path-begun list s (radio_of first.to)) 3 next site entries path later
    under_begun list first next room read arrival =
        let same = arrival.passed s site entries walks.told in
        let to : radio_of first.to ≡ radio_of (raw_at log at).to = ap (λ (m : RawMessage). radio_of m.to) read in
        record {
          passed = s ∷ radio_of first.to ∷ [];
          whole = first_two.0 ∙ rw (same, to) refl;
          after = ap (λ (w : Walked). w.paths) (sym same) ∙ first_two.1;
          counted = refl;
          written = begun-front list s _ room;
        }

  module _ {before rest : List ℕ} {used : ℕ} {next : Option ℕ} (under : UnderWay before rest used next site entries path later) where
    pub so_far_fits : used ≤ suc (length path)
    so_far_fits = omega (arith, under.counted, simp length-append at (ap length under.whole))

    -- where another half sends the next one
    module _ {here : ℕ} (is_next : next ≡ Some here) (heard : RawMessage) (read : heard ≡ raw_at log here) (below : here < messages) (is : Arrives (raw_at log here)) (other : heard.from ≡ out_half s → ⊥) where
      abbrev later-on : Walked
      later-on = walked site (drop (here + 1) entries)

      says : walked site (entries_from next entries) ≡ reaches false s (radio_of heard.to) later-on
      says =
          let to : radio_of heard.to ≡ radio_of (raw_at log here).to = ap (λ (m : RawMessage). radio_of m.to) read in
          rw (is_next, to) (path_goes_on walks.told here below is (λ sent. other (ap (λ (m : RawMessage). m.from) read ∙ sent)))

      continued : path ≡ under.passed ++ radio_of heard.to ∷ later-on.onward
      continued = under.whole ∙ ap (λ (w : Walked). under.passed ++ w.onward) says

      pub one_fits : used ≤ length path
      one_fits = omega (arith, simp length-append at (ap length continued), under.counted)

      pub one_more : (next' : Option ℕ) → used < length before → NextArrival log (here + 1) messages next' → UnderWay before (set rest used (radio_of heard.to)) (used + 1) next' site entries path later
      one_more next' room arrival =
          let same = arrival.passed s site entries walks.told in
          record {
            passed = under.passed ++ (radio_of heard.to ∷ []);
            whole = continued ∙ rw (same, append_assoc) refl;
            after = ap (λ (w : Walked). w.paths) (sym same) ∙ ap (λ (w : Walked). w.paths) (sym says) ∙ under.after;
            counted = rw (under.counted, length-append) (omega arith);
            written = store_next rest before (get_or before 0 0 ∷ under.passed) used _ under.written (sym under.counted) room;
          }

  -- no radio is to come where the messages end, or S sends the next one
  pub path_ends : (next : Option ℕ) → IfSome next (λ at. (at < messages) × Arrives (raw_at log at) × ((raw_at log at).from ≡ out_half s)) → (walked site (entries_from next entries)).onward ≡ []
  unfolding walked
  path_ends None ends = refl
  path_ends (Some at) ends = ap (λ (w : Walked). w.onward) (path_starts walks.told at ends.0 ends.1 ends.2)

-- the number of radios is stored last
pub path-left : (list : List ℕ) (s v : ℕ) {rest : List ℕ} {used : ℕ} {next : Option ℕ} {site : Site} {entries : List Entry} {path : List ℕ} {later : List (List ℕ)} → 3 ≤ used → UnderWay (path-begun list s v) rest used next site entries path later
    → (walked site (entries_from next entries)).onward ≡ [] → PathLeft site entries path later list (set rest 0 (used - 1)) (record { next = next; used = used })
path-left list s v {used = used} {path = path} l under none =
    let all : path ≡ under.passed = under.whole ∙ rw none (append-nil under.passed) in
    let size : used - 1 ≡ length path = omega (arith, under.counted, ap length all) in
    record {
      used = omega (arith, under.counted, ap length all);
      written = rw (under.written, size, ← all, begun-after list s v used l) refl;
      next = under.after;
    }

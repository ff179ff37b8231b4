-- The path list while it is written: the paths listed so far, and those still to come. Assumes nothing.
use mathlib.Core.Path.{◌≡◌, refl, sym, ap, ◌∙◌}
use mathlib.Core.List.{List, [], ◌∷◌, ◌++◌, append_assoc, append-nil}
use Prim.Native.Nat.{ℕ, ◌+◌, ◌≤◌, ◌<◌}
use native.Mathlib.Omega.{arith}
use lib.ListN.{length, take, drop, length-append, length-drop}
use lib.Seq.{take_at, drop_at, drop-drop}
use Rattle.std.specs.Prelude.{Option, None, Some}
use Rattle.basics.specs.Lists.{All}
use Rattle.site.specs.Limits.{most_radios}
use Rattle.site.specs.Map.{Site, out_half, radio_of}
use Rattle.tokens.specs.Run.{Entry, Walked, walked, paths_of}
use Rattle.message_log.specs.Read.{raw_at}
use Rattle.path_lists.specs.Bytes.{path_bytes}
use Rattle.path_lists.proofs.Bytes.{path-bytes-append, one_path_bytes}
use Rattle.paths.specs.declared.Walk.{Walk}
use Rattle.paths.specs.Listing.{LogOf, Arrives, Listable, PathsLeft, FirstDone, NextArrival, entries_from, Walks, Startable, PathLeft}
use Rattle.paths.proofs.Log.{later_arrives, done_goes_on, none_before}
use Rattle.paths.proofs.Walking.{path_starts, path_goes_on}

-- what each of a list has, one in its middle has
all_middle {ℓ} : {A : Type ℓ} (P : A → Type 0) (front : List A) (x : A) (back : List A) → All P (front ++ x ∷ back) → P x
all_middle P [] x back all = all.0
all_middle P (y ∷ front) x back all = all_middle P front x back all.1

-- no message before the first DONE reaches a radio, so the first that does is found from there on
pub first_arrival : {log : List ℕ} {messages s : ℕ} {list : List ℕ} {first : ℕ} {next : Option ℕ} → Listable log messages s list → FirstDone log messages first → NextArrival log first messages next → NextArrival log 0 messages next
first_arrival {log} {messages} {first = first} {next = next} asked done arrival =
    record {
      arrives = later_arrives log messages next (omega arith) arrival.arrives;
      passed = λ s' site entries told. none_before told (done_goes_on asked.told asked.dones_last) first done.within done.other ∙ arrival.passed s' site entries told;
    }

-- so many paths are listed in so many bytes, and those from the next message on are to come
pub record Halfway (before list : List ℕ) (used count : ℕ) (next : Option ℕ) (site : Site) (entries : List Entry) : Type 0 where
  pub listed : List (List ℕ)
  pub whole : paths_of site entries ≡ listed ++ paths_of site (entries_from next entries)
  pub counted : count ≡ length listed
  pub sized : used ≡ length (path_bytes listed)
  pub written : list ≡ path_bytes listed ++ drop used before

-- the path that starts at message number `at`
abbrev path_from : List ℕ → ℕ → ℕ → Site → List Entry → List ℕ
path_from log at s site entries = s ∷ radio_of (raw_at log at).to ∷ (walked site (drop (at + 1) entries)).onward

module _ {log : List ℕ} {messages s : ℕ} {site : Site} {entries : List Entry} (told : LogOf log messages s site entries) where
  pub none_listed : (list : List ℕ) {next : Option ℕ} → NextArrival log 0 messages next → Halfway list list 0 0 next site entries
  unfolding path_bytes
  none_listed list arrival =
      record {
        listed = [];
        whole = ap (λ (w : Walked). w.paths) (arrival.passed s site entries told);
        counted = refl;
        sized = refl;
        written = refl;
      }

  pub walks_here : (at : ℕ) → at < messages → Arrives (raw_at log at) → (raw_at log at).from ≡ out_half s → Walks log at messages s site entries (path_from log at s site entries) (paths_of site (drop (at + 1) entries))
  walks_here at l is sent = record { told = told; first = ap (λ (w : Walked). w.paths) (path_starts told at l is sent) }

  pub all_listed : {before list : List ℕ} {used count : ℕ} → Halfway before list used count None site entries → PathsLeft site entries before list (record { used = used; paths = count })
  unfolding walked
  all_listed half =
      let all : paths_of site entries ≡ half.listed = half.whole ∙ append-nil half.listed in
      record { paths = rw all half.counted; used = rw all half.sized; written = rw all half.written }

  module _ {before list : List ℕ} {used count at : ℕ} (half : Halfway before list used count (Some at) site entries) where
    -- a DONE that belongs to no path is passed over
    pub none_starts : {next : Option ℕ} → at < messages → Arrives (raw_at log at) → ((raw_at log at).from ≡ out_half s → ⊥) → NextArrival log (at + 1) messages next → Halfway before list used count next site entries
    none_starts {next} l is other arrival =
        let same : paths_of site (drop at entries) ≡ paths_of site (entries_from next entries) =
        ap (λ (w : Walked). w.paths) (path_goes_on told at l is other) ∙ ap (λ (w : Walked). w.paths) (arrival.passed s site entries told) in
        record { listed = half.listed; whole = half.whole ∙ rw same refl; counted = half.counted; sized = half.sized; written = half.written }

    module _ {path : List ℕ} {later : List (List ℕ)} (walks : Walks log at messages s site entries path later) where
      paths_are : paths_of site entries ≡ half.listed ++ path ∷ later
      paths_are = half.whole ∙ rw walks.first refl

      path_room : used + 1 + length path ≤ length (path_bytes (paths_of site entries))
      unfolding path_bytes
      path_room = rw (paths_are, path-bytes-append, length-append) (simp length-append (omega (arith, half.sized)))

      path_has : (P : List ℕ → Type 0) → All P (paths_of site entries) → P path
      path_has P all = all_middle P half.listed path later (rw paths_are at all)

      pub one_more_path : {tail : List ℕ} {walk : Walk} → PathLeft site entries path later (drop used list) tail walk → Halfway before (take used list ++ tail) (used + walk.used) (count + 1) walk.next site entries
      one_more_path {walk = walk} left =
          let front : take used list ≡ path_bytes half.listed = rw half.written (take_at (path_bytes half.listed) _ used (sym half.sized)) in
          let back : drop used list ≡ drop used before = rw half.written (drop_at (path_bytes half.listed) _ used (sym half.sized)) in
          let bytes : path_bytes (half.listed ++ (path ∷ [])) ≡ path_bytes half.listed ++ (length path ∷ path) = path-bytes-append half.listed (path ∷ []) ∙ rw (one_path_bytes path) refl in
          record {
            listed = half.listed ++ (path ∷ []);
            whole = paths_are ∙ rw (left.next, append_assoc) refl;
            counted = rw (half.counted, length-append) refl;
            sized = rw (bytes, length-append) (omega (arith, half.sized, left.used));
            written = rw (front, left.written, back, bytes, drop-drop walk.used used before, append_assoc) refl;
          }

-- the path that starts at message number `at` can be written to the rest of the list
pub can_start : {log : List ℕ} {messages s : ℕ} {before list : List ℕ} {used count at : ℕ} (asked : Listable log messages s before) → Halfway before list used count (Some at) asked.site asked.entries → length list ≡ length before
    → at < messages → Arrives (raw_at log at) → (raw_at log at).from ≡ out_half s → Startable log at messages s (drop used list)
can_start {log} {s = s} {at = at} asked half same l is sent =
    let site = asked.site in
    let entries = asked.entries in
    let walks = walks_here asked.told at l is sent in
    let fits = path_room asked.told half walks in
    record {
      below = l;
      arrives = is;
      sent = sent;
      source = asked.source;
      site = site;
      entries = entries;
      path = path_from log at s site entries;
      later = paths_of site (drop (at + 1) entries);
      walks = walks;
      few = path_has asked.told half walks (λ path. length path ≤ most_radios) asked.few;
      room = rw length-drop (omega (arith, fits, asked.room));
    }

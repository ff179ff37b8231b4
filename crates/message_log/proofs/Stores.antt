-- Four bytes stored after the messages of a log are one message more. Assumes nothing.
use mathlib.Core.Path.{◌≡◌, refl}
use mathlib.Core.List.{List, [], ◌∷◌, ◌++◌, append_assoc}
use Prim.Native.Nat.{ℕ, suc, ◌+◌, ◌*◌, ◌≤◌}
use native.Mathlib.Numerals.{unary_clauses}
use native.Mathlib.Omega.{arith}
use lib.ListN.{length, set, take, drop, length-append, length-set}
use lib.Seq.{take_at, drop_at, drop-drop, sets-eq}
use Rattle.tokens.specs.Run.{Entry}
use Rattle.message_log.specs.Bytes.{kind_number, message_bytes, log_bytes, Filled}
use Rattle.message_log.specs.Put.{Appends}
use Rattle.message_log.proofs.Bytes.{log-length, log_append}

-- the log with a message's four bytes stored from this place on
abbrev pub stored : List ℕ → ℕ → Entry → List ℕ
stored log place entry = set (set (set (set log place (kind_number entry.message.kind)) (place + 1) entry.round) (place + 2) entry.message.from) (place + 3) entry.message.to

four_stores : (list : List ℕ) (i a b c d : ℕ) → i + 4 ≤ length list → set (set (set (set list i a) (i + 1) b) (i + 2) c) (i + 3) d ≡ take i list ++ a ∷ b ∷ c ∷ d ∷ drop (i + 4) list
four_stores list i a b c d room = simp unary_clauses (simp (unary_clauses, append_assoc) at (sets-eq (a ∷ b ∷ c ∷ d ∷ []) list i room))

pub stored_appends : (log : List ℕ) (at : ℕ) (entry : Entry) → message_bytes * suc at ≤ length log → Appends at entry log (stored log (message_bytes * at) entry)
unfolding log_bytes
stored_appends log at entry room = record { same_length = simp length-set; filled = grown }
  where
    grown : (entries : List Entry) (before : List ℕ) → length entries ≡ at → Filled entries before log → Filled (entries ++ (entry ∷ [])) before (stored log (message_bytes * at) entry)
    grown entries before e filled =
        let size : length (log_bytes entries) ≡ 4 * at = omega (arith, log-length entries) in
        let front : take (4 * at) log ≡ log_bytes entries = rw (filled, e) (take_at (log_bytes entries) _ (4 * at) size) in
        let back : drop (4 * at) log ≡ drop (4 * at) before = rw (filled, e) (drop_at (log_bytes entries) _ (4 * at) size) in
        let after : drop (4 * at + 4) log ≡ drop (4 * at + 4) before = rw (← drop-drop 4 (4 * at) log, back) (drop-drop 4 (4 * at) before) in
        let number : 4 * length (entries ++ (entry ∷ [])) ≡ 4 * at + 4 = omega (arith, length-append entries (entry ∷ [])) in
        rw (four_stores log (4 * at) _ _ _ _ (omega arith), front, after, number, log_append entries (entry ∷ []), append_assoc) refl

-- The bytes of a list of messages: how many they are, those of two lists, and those from a message on. Assumes nothing.
use mathlib.Core.Path.{◌≡◌, refl, ap}
use mathlib.Core.List.{List, [], ◌∷◌, ◌++◌}
use Prim.Native.Nat.{ℕ, zero, suc, ◌*◌, ◌≤◌}
use native.Mathlib.Omega.{arith}
use lib.ListN.{length, drop, length-append, length-drop}
use Rattle.tokens.specs.Run.{Entry}
use Rattle.message_log.specs.Bytes.{kind_number, message_bytes, log_bytes, Filled}

pub log-length : (entries : List Entry) → length (log_bytes entries) ≡ message_bytes * length entries
unfolding log_bytes
log-length [] = refl
log-length (e ∷ entries) = omega (arith, log-length entries)

pub log_append : (entries more : List Entry) → log_bytes (entries ++ more) ≡ log_bytes entries ++ log_bytes more
unfolding log_bytes
log_append [] more = refl
log_append (e ∷ entries) more = ap (λ (bytes : List ℕ). kind_number e.message.kind ∷ e.round ∷ e.message.from ∷ e.message.to ∷ bytes) (log_append entries more)

-- the bytes from a message on are those of the messages from there on
pub log_from : (entries : List Entry) (at : ℕ) → at ≤ length entries → drop (message_bytes * at) (log_bytes entries) ≡ log_bytes (drop at entries)
unfolding log_bytes
log_from entries zero l = refl
log_from [] (suc at) l = absurd (omega arith)
log_from (e ∷ entries) (suc at) l =
    let more : message_bytes * suc at ≡ suc (suc (suc (suc (message_bytes * at)))) = omega arith in
    rw more (log_from entries at (omega arith))

-- nothing is written yet
pub filled_none : (before : List ℕ) → Filled [] before before
unfolding log_bytes
filled_none before = refl

-- a log that holds no more than there was room for keeps its length
pub filled_length : (entries : List Entry) (before log : List ℕ) → message_bytes * length entries ≤ length before → Filled entries before log → length log ≡ length before
filled_length entries before log room filled = rw filled (omega (arith, length-append (log_bytes entries) (drop (message_bytes * length entries) before), log-length entries, length-drop (message_bytes * length entries) before))

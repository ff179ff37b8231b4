-- What is read at a place of a log that starts with known messages. Assumes nothing.
use mathlib.Core.Path.{◌≡◌, refl, sym, ap, ◌∙◌}
use mathlib.Core.List.{List, ◌∷◌}
use Prim.Native.Nat.{ℕ, suc, ◌+◌, ◌*◌, ◌<◌}
use native.Mathlib.Nat.{add-zero}
use native.Mathlib.Omega.{arith}
use lib.ListN.{length, get_or, drop, length-take}
use lib.Seq.{get_or-take, get_or-drop, drop-cons, take_at}
use Rattle.tokens.specs.declared.Kind.{Kind}
use Rattle.tokens.specs.declared.Kind.TheVariants.{Pdt, PdtB, Pmt, Done}
use Rattle.tokens.specs.Run.{Entry}
use Rattle.message_log.specs.Bytes.{kind_number, message_bytes, log_bytes, Filled, Starts, RoomFor}
use Rattle.message_log.specs.Read.{raw_at, raw_of}
use Rattle.message_log.proofs.Bytes.{log-length, log_from}

-- a log that is filled with messages starts with them
pub filled_starts : (entries : List Entry) (before log : List ℕ) → Filled entries before log → Starts entries log
filled_starts entries before log filled = rw filled (take_at (log_bytes entries) (drop (message_bytes * length entries) before) (message_bytes * length entries) (log-length entries))

module _ (entries : List Entry) (log : List ℕ) (starts : Starts entries log) where
  pub starts_room : RoomFor (length entries) log
  starts_room = omega (arith, log-length entries, simp length-take at (ap length starts))

  -- what is read at a place is the message of that number
  module _ (at : ℕ) (other : Entry) (below : at < length entries) where
    byte_at : (i : ℕ) → i < 4 → get_or log (4 * at + i) 0 ≡ get_or (log_bytes (get_or entries at other ∷ drop (suc at) entries)) i 0
    byte_at i small =
        let from : drop (4 * at) (log_bytes entries) ≡ log_bytes (get_or entries at other ∷ drop (suc at) entries) = rw (log_from entries at (omega arith), drop-cons entries at other below) refl in
        sym (get_or-take (4 * length entries) log (4 * at + i) 0 (omega arith)) ∙ rw (starts, ← from) (sym (get_or-drop (4 * at) (log_bytes entries) i 0))

    pub read_at : raw_at log at ≡ raw_of (get_or entries at other)
    unfolding log_bytes
    read_at =
        let kind : get_or log (4 * at) 0 ≡ kind_number (get_or entries at other).message.kind = ap (λ (n : ℕ). get_or log n 0) (sym (add-zero (4 * at))) ∙ byte_at 0 (omega arith) in
        rw (kind, byte_at 1 (omega arith), byte_at 2 (omega arith), byte_at 3 (omega arith)) refl

-- no other kind has the number of DONE
pub only_done : (kind : Kind) → kind_number kind ≡ kind_number Done → kind ≡ Done
only_done Pdt is = absurd (omega arith)
only_done PdtB is = absurd (omega arith)
only_done Pmt is = absurd (omega arith)
only_done Done is = refl

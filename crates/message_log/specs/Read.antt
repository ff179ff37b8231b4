-- The contract of the log's reader: the bytes of one message.
use Rattle.std.specs.Prelude.{List, ℕ, ◌+◌, ◌*◌, get_or}
use Rattle.tokens.specs.Run.{Entry}
use Rattle.message_log.specs.Bytes.{kind_number, message_bytes}
use Rattle.message_log.specs.declared.RawMessage.{RawMessage}

-- the bytes of message number `at`
abbrev pub raw_at : List ℕ → ℕ → RawMessage
raw_at log at = record { kind = get_or log (message_bytes * at) 0; round = get_or log (message_bytes * at + 1) 0; from = get_or log (message_bytes * at + 2) 0; to = get_or log (message_bytes * at + 3) 0 }

-- the bytes that tell a message of a run
abbrev pub raw_of : Entry → RawMessage
raw_of entry = record { kind = kind_number entry.message.kind; round = entry.round; from = entry.message.from; to = entry.message.to }

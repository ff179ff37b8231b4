-- The contract of the log's writer: one message more.
use Rattle.std.specs.Prelude.{◌≡◌, List, [], ◌∷◌, ◌++◌, ℕ, suc, ◌<◌, length}
use Rattle.tokens.specs.declared.Message.{Message}
use Rattle.tokens.specs.Run.{Entry}
use Rattle.message_log.specs.Bytes.{Filled, RoomFor}

-- there is room for message number `at`, and its numbers are bytes
pub record Writable (log : List ℕ) (at : ℕ) (message : Message) (round : ℕ) : Type 0 where
  pub room : RoomFor (suc at) log
  pub round_fits : round < 256
  pub from_fits : message.from < 256
  pub to_fits : message.to < 256

-- where the log held the messages before number `at`, it holds this one too
pub record Appends (at : ℕ) (entry : Entry) (log after : List ℕ) : Type 0 where
  pub same_length : length after ≡ length log
  pub filled : (entries : List Entry) (before : List ℕ) → length entries ≡ at → Filled entries before log → Filled (entries ++ (entry ∷ [])) before after

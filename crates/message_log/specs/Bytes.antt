-- The log's bytes of document 01, "What a run leaves": no other room knows how long a message is.
use Rattle.std.specs.Prelude.{◌≡◌, List, [], ◌∷◌, ◌++◌, ℕ, ◌*◌, ◌≤◌, length, take, drop}
use Rattle.tokens.specs.declared.Kind.{Kind}
use Rattle.tokens.specs.declared.Kind.TheVariants.{Pdt, PdtB, Pmt, Done}
use Rattle.tokens.specs.Run.{Entry}

-- document 01's number of each kind of message
abbrev pub kind_number : Kind → ℕ
kind_number Pdt = 1
kind_number PdtB = 2
kind_number Pmt = 3
kind_number Done = 4

-- four bytes a message: kind, round, sending half, receiving half
abbrev pub message_bytes : ℕ
message_bytes = 4

unfoldable pub log_bytes : List Entry → List ℕ
log_bytes [] = []
log_bytes (e ∷ log) = kind_number e.message.kind ∷ e.round ∷ e.message.from ∷ e.message.to ∷ log_bytes log

-- the log holds these messages at its front, and after them what it held before
abbrev pub Filled : List Entry → List ℕ → List ℕ → Type 0
Filled entries before log = log ≡ log_bytes entries ++ drop (message_bytes * length entries) before

-- the log starts with these messages
abbrev pub Starts : List Entry → List ℕ → Type 0
Starts entries log = take (message_bytes * length entries) log ≡ log_bytes entries

-- the log is long enough for so many messages
abbrev pub RoomFor : ℕ → List ℕ → Type 0
RoomFor messages log = message_bytes * messages ≤ length log

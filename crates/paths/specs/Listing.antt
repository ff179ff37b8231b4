-- What the contracts of this crate say of the log that is read and of the path list that is written.
use Rattle.std.specs.Prelude.{◌≡◌, Option, None, Some, IfSome, List, [], ◌∷◌, ◌++◌, ℕ, suc, ◌+◌, ◌%◌, ◌≤◌, ◌<◌, length, drop}
use Rattle.basics.specs.Lists.{All}
use Rattle.site.specs.Limits.{most_radios}
use Rattle.site.specs.Map.{Site, out_half}
use Rattle.tokens.specs.declared.Kind.TheVariants.{Done}
use Rattle.tokens.specs.Run.{Entry, walked, paths_of}
use Rattle.message_log.specs.declared.RawMessage.{RawMessage}
use Rattle.message_log.specs.Bytes.{kind_number, Starts}
use Rattle.message_log.specs.Read.{raw_at}
use Rattle.message_log.specs.Last.{DonesLast}
use Rattle.path_lists.specs.Bytes.{path_bytes}
use Rattle.paths.specs.declared.Walk.{Walk}
use Rattle.paths.specs.declared.Listed.{Listed}

-- ---- the path list

-- the used bytes of the log are those of these messages
pub record LogOf (log : List ℕ) (messages s : ℕ) (site : Site) (entries : List Entry) : Type 0 where
  pub source : site.S ≡ s
  pub number : length entries ≡ messages
  pub bytes : Starts entries log

-- what the writer of the path list asks: some messages whose bytes these are, DONEs last, with room for their paths, each of whose lengths fits a byte
pub record Listable (log : List ℕ) (messages s : ℕ) (list : List ℕ) : Type 0 where
  pub source : s < most_radios
  pub site : Site
  pub entries : List Entry
  pub told : LogOf log messages s site entries
  pub dones_last : DonesLast entries
  pub few : All (λ path. length path ≤ most_radios) (paths_of site entries)
  pub room : length (path_bytes (paths_of site entries)) ≤ length list

-- the paths that DONE walked stand at the front, and the bytes after them stay
pub record PathsLeft (site : Site) (entries : List Entry) (before after : List ℕ) (listed : Listed) : Type 0 where
  pub paths : listed.paths ≡ length (paths_of site entries)
  pub used : listed.used ≡ length (path_bytes (paths_of site entries))
  pub written : after ≡ path_bytes (paths_of site entries) ++ drop listed.used before

-- ---- within the crate: one path of the path list

-- r messages stand before the DONEs that end the log
pub record FirstDone (log : List ℕ) (messages r : ℕ) : Type 0 where
  pub within : r ≤ messages
  pub done : (at : ℕ) → r ≤ at → at < messages → (raw_at log at).kind ≡ kind_number Done
  pub other : (at : ℕ) → at + 1 ≡ r → (raw_at log at).kind ≡ kind_number Done → ⊥

-- a message is a DONE to an in half: it reaches a radio
pub record Arrives (heard : RawMessage) : Type 0 where
  pub done : heard.kind ≡ kind_number Done
  pub into : heard.to % 2 ≡ 0

-- the messages from this one on; none where there is none
abbrev pub entries_from : Option ℕ → List Entry → List Entry
entries_from None entries = []
entries_from (Some at) entries = drop at entries

-- r is no message, or one from a number on that reaches a radio
abbrev pub Arrival : List ℕ → ℕ → ℕ → Option ℕ → Type 0
Arrival log from messages r = IfSome r (λ at. (from ≤ at) × (at < messages) × Arrives (raw_at log at))

-- r is the first message from a number on that reaches a radio, if there is one: those passed say nothing of paths
pub record NextArrival (log : List ℕ) (from messages : ℕ) (r : Option ℕ) : Type 0 where
  pub arrives : Arrival log from messages r
  pub passed : (s : ℕ) (site : Site) (entries : List Entry) → LogOf log messages s site entries → walked site (drop from entries) ≡ walked site (entries_from r entries)

-- from message number `at` on DONE walks this path first, and then those
pub record Walks (log : List ℕ) (at messages s : ℕ) (site : Site) (entries : List Entry) (path : List ℕ) (later : List (List ℕ)) : Type 0 where
  pub told : LogOf log messages s site entries
  pub first : paths_of site (drop at entries) ≡ path ∷ later

-- what the writer of one path asks: S sends message number `at`, a DONE, and there is room for the path that starts there
pub record Startable (log : List ℕ) (at messages s : ℕ) (rest : List ℕ) : Type 0 where
  pub below : at < messages
  pub arrives : Arrives (raw_at log at)
  pub sent : (raw_at log at).from ≡ out_half s
  pub source : s < most_radios
  pub site : Site
  pub entries : List Entry
  pub path : List ℕ
  pub later : List (List ℕ)
  pub walks : Walks log at messages s site entries path later
  pub few : length path ≤ most_radios
  pub room : length path < length rest

-- the path stands at the front, and the later ones start at the message told
pub record PathLeft (site : Site) (entries : List Entry) (path : List ℕ) (later : List (List ℕ)) (before after : List ℕ) (walk : Walk) : Type 0 where
  pub used : walk.used ≡ suc (length path)
  pub written : after ≡ (length path ∷ path) ++ drop walk.used before
  pub next : paths_of site (entries_from walk.next entries) ≡ later

-- the walk ends at a later message that reaches a radio, or with the messages
pub record WalkEnded (log : List ℕ) (at messages s : ℕ) (before after : List ℕ) (walk : Walk) : Type 0 where
  pub arrives : Arrival log (at + 1) messages walk.next
  pub left : (site : Site) (entries : List Entry) (path : List ℕ) (later : List (List ℕ)) → Walks log at messages s site entries path later → PathLeft site entries path later before after walk

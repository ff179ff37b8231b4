-- What one round must show, whatever search it runs: paths, cut, maximum, rounds and bound are proved from this alone. Assumes nothing.
use mathlib.Core.Path.{◌≡◌}
use mathlib.Core.Bool.{◌&&◌}
use mathlib.Core.List.{List, [], ◌∷◌, map}
use mathlib.Core.Logic.{◌⊎◌}
use Prim.Native.Nat.{ℕ, suc, ◌+◌, ◌-◌, ◌*◌, ◌≤◌, ◌<◌}
use lib.Dec.{eqb}
use lib.ListN.{length}
use Rattle.basics.specs.Counting.{one_if}
use Rattle.site.specs.Map.{A}
use Rattle.tokens.specs.declared.Kind.{Kind}
use Rattle.tokens.specs.declared.Kind.TheVariants.{Pdt, PdtB, Pmt, Done}
use Rattle.tokens.specs.declared.Message.{Message}
use Rattle.tokens.specs.Rules.{Plan, Notes, State, won, sends, only_s, just_s, release, search, inner_step}
use Rattle.tokens.specs.Run.{Entry, notes_of}
use Rattle.menger.proofs.Network.{walkable, WayTurned, Shut}
use Rattle.routes.proofs.Trails.{network_of}

-- from one state to another by inner steps that send this log
abbrev pub Leads : Plan → State → List Entry → State → Type 0
Leads plan state [] end = state ≡ end
Leads plan state (entry ∷ log) end =
    (next : State) × (inner_step plan state ≡ sends entry.message next) × (entry.round ≡ (notes_of next).round) × Leads plan next log end

-- messages that were all sent in this round
abbrev pub in_round : ℕ → List Message → List Entry
in_round round log = map (λ (message : Message). record { message = message; round = round }) log

-- ---- what a log says of tokens

-- 1 if the two ends are these
abbrev pub hit : ℕ → ℕ → ℕ → ℕ → ℕ
hit x y a b = one_if (eqb x a && eqb y b)

abbrev pub token_to : ℕ → ℕ → Kind → ℕ → ℕ → ℕ
token_to x y Pdt a b = hit x y a b
token_to x y PdtB a b = 0
token_to x y Pmt a b = 0
token_to x y Done a b = 0

-- how often the log has a PDT from x to y
abbrev pub tokens : ℕ → ℕ → List Message → ℕ
tokens x y [] = 0
tokens x y (m ∷ log) = token_to x y m.kind m.from m.to + tokens x y log

-- w x y tokens from x to y are delivered and not answered. A reply must be due, and a round sends no DONE
abbrev pub Due : Kind → ℕ → ℕ → (ℕ → ℕ → ℕ) → Type 0
Due Pdt a b w = Unit
Due PdtB a b w = 0 < w b a
Due Pmt a b w = 0 < w b a
Due Done a b w = ⊥

-- what is due after the message
abbrev pub due_after : Kind → ℕ → ℕ → (ℕ → ℕ → ℕ) → ℕ → ℕ → ℕ
due_after Pdt a b w x y = w x y + hit x y a b
due_after PdtB a b w x y = w x y - hit x y b a
due_after Pmt a b w x y = w x y - hit x y b a
due_after Done a b w x y = w x y

-- each token is answered once, none before it came
abbrev pub Answered : List Message → (ℕ → ℕ → ℕ) → Type 0
Answered [] w = (x y : ℕ) → w x y ≡ 0
Answered (m ∷ log) w = Due m.kind m.from m.to w × Answered log (due_after m.kind m.from m.to w)

-- ---- a round

-- it was won: one path more, and the marks of a walk from S to T turned
pub record Won (plan : Plan) (notes : Notes) (end : State) : Type 0 where
  pub after : Notes
  pub is-won : end ≡ won after
  pub same-round : after.round ≡ notes.round
  pub one_more : after.found ≡ suc notes.found
  pub walked : WayTurned (network_of plan.site) notes.marks after.marks

-- it was lost: S is about to send DONE; marks and counts stand, the entered halves are closed
pub record Lost (plan : Plan) (state : State) (log : List Message) (notes : Notes) (end : State) : Type 0 where
  pub after : Notes
  pub gives_up : inner_step plan end ≡ release plan.site 0 after
  pub same-round : after.round ≡ notes.round
  pub same_found : after.found ≡ notes.found
  pub same_marks : after.marks ≡ notes.marks
  pub shut : Shut (network_of plan.site) notes.marks after.entered
  -- the state tells these notes, unless nothing was sent
  pub told : ((log ≡ []) × (end ≡ state) × (after ≡ notes)) ⊎ (notes_of end ≡ after)

-- a round that begins with these notes in this state
pub record Played (plan : Plan) (state : State) (notes : Notes) : Type 0 where
  pub log : List Message
  pub end : State
  pub leads : Leads plan state (in_round notes.round log) end
  pub few : length log ≤ 2 * A plan.site
  pub answered : Answered log (λ x y. 0)
  -- a PDT goes over walkable steps only, over each at most once; so no step carries two, in either direction
  pub once : (x y : ℕ) → tokens x y log ≤ one_if (walkable (network_of plan.site) notes.marks x y)
  pub result : Won plan notes end ⊎ Lost plan state log notes end

-- each round of the plan does, from any state in which S's out half, alone entered, is about to search
abbrev pub Plays : Plan → Type 0
Plays plan =
    (state : State) (notes : Notes) → inner_step plan state ≡ search plan notes (just_s plan.site) → notes.entered ≡ only_s plan.site → Played plan state notes

-- What the machine's numbers and its board stand for: the state of the token rules.
use Rattle.std.specs.Prelude.{Bool, true, false, List, ℕ, zero, suc, get_or}
use Rattle.site.specs.Map.{Site, radio_of}
use Rattle.tokens.specs.Rules.{Notes, Waiting, nobody, waits, State, searching, declining, granting, won, carrying, Next, sends, over}
use Rattle.tokens.specs.declared.Answer.{Answer}
use Rattle.tokens.specs.declared.Answer.TheVariants.{Sent, End}
pub use Rattle.halves.specs.Bytes.{entered_of}
pub use Rattle.openings.specs.Rows.{marks_of, place_in_order}
use Rattle.machine.specs.declared.Stage.{Stage}
use Rattle.machine.specs.declared.Stage.TheVariants.{Searching, Declining, Granting, Won, Carrying}
use Rattle.machine.specs.declared.Machine.{Machine}
use Rattle.machine.specs.declared.Board.{Board}

-- ---- the machine after a step

-- at another stage, with the same rounds and paths
abbrev pub moved_to : Machine → Stage → ℕ → ℕ → ℕ → ℕ → Machine
moved_to machine stage half other left depth = record { stage = stage; half = half; other = other; left = left; depth = depth; round = machine.round; found = machine.found }

-- the half on top has this left
abbrev pub with_left : Machine → ℕ → Machine
with_left machine left = moved_to machine machine.stage machine.half machine.other left machine.depth

-- a round begins: S's out half searches
abbrev pub beginning_at : ℕ → List ℕ → ℕ → ℕ → Machine
beginning_at source rows round found = record { stage = Searching; half = source; other = source; left = get_or rows source 0; depth = 0; round = round; found = found }

-- ---- the state that it stands for

-- the place after the one at which half h has asked half x
abbrev pub tried : Site → ℕ → ℕ → ℕ
tried site h x = suc (place_in_order site h (radio_of x))

-- so many halves that wait below half h, each for the one above it
abbrev pub waiting_of : Site → List ℕ → ℕ → ℕ → Waiting
waiting_of site halves zero h = nobody
waiting_of site halves (suc depth) h = waits (get_or halves depth 0) (tried site (get_or halves depth 0) h) (waiting_of site halves depth (get_or halves depth 0))

abbrev pub notes_in : Site → Machine → Board → Notes
notes_in site machine board = record { round = machine.round; found = machine.found; marks = marks_of site board.rows; entered = entered_of board.entered }

-- by the stage, with the half that owes a reply, or the radio that S sent DONE to and the half that it has come to
abbrev pub state_in : Stage → ℕ → ℕ → Notes → Waiting → State
state_in Searching half other notes waiting = searching notes waiting
state_in Declining half other notes waiting = declining other notes waiting
state_in Granting half other notes waiting = granting other notes waiting
state_in Won half other notes waiting = won notes
state_in Carrying half other notes waiting = carrying other half notes

abbrev pub is_won : Stage → Bool
is_won Searching = false
is_won Declining = false
is_won Granting = false
is_won Won = true
is_won Carrying = false

-- the half on top, which has tried all places before this one, and those below it
abbrev pub stack_of : Site → ℕ → Machine → List ℕ → Waiting
stack_of site place machine halves = waits machine.half place (waiting_of site halves machine.depth machine.half)

abbrev pub state_of : Site → ℕ → Machine → Board → State
state_of site place machine board = state_in machine.stage machine.half machine.other (notes_in site machine board) (stack_of site place machine board.halves)

-- the definition's word for an answer: a message and the state after it, or the end
abbrev pub next_of : Answer → State → Next
next_of (Sent message) state = sends message state
next_of End state = over

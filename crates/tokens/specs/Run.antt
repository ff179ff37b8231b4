-- A run of the token rules of document 01: its log, its rounds, the paths of rule 8, and "The cut".
use Rattle.std.specs.Prelude.{Bool, true, false, not, ◌&&◌, cond, List, [], ◌∷◌, map, ℕ, zero, suc, ◌+◌, eqb}
use Rattle.basics.specs.Counting.{one_if}
use Rattle.site.specs.Limits.{direct_link}
use Rattle.site.specs.Map.{Site, in_half, out_half, radio_of, is_out}
use Rattle.tokens.specs.declared.Kind.{Kind}
use Rattle.tokens.specs.declared.Kind.TheVariants.{Pdt, PdtB, Pmt, Done}
use Rattle.tokens.specs.declared.Message.{Message}
use Rattle.tokens.specs.Rules.{Plan, Entered, Notes, State, searching, declining, granting, won, carrying, Next, sends, over, inner_step}

abbrev pub notes_of : State → Notes
notes_of (searching notes waiting) = notes
notes_of (declining h notes waiting) = notes
notes_of (granting h notes waiting) = notes
notes_of (won notes) = notes
notes_of (carrying v h notes) = notes

-- ---- the run

-- a message of the log, with the number of rounds started when it was sent
pub record Entry : Type 0 where
  pub message : Message
  pub round : ℕ

-- the log of a run, and the state that it ends in
pub record Run : Type 0 where
  pub log : List Entry
  pub last : State

abbrev pub logged : Message → State → Run → Run
logged message state run = record { log = record { message = message; round = (notes_of state).round } ∷ run.log; last = run.last }

-- the run from a state on whose next inner step is known, until it is over or so many messages are sent
unfoldable pub run_on : Plan → ℕ → State → Next → Run
run_on plan zero state next = record { log = []; last = state }
run_on plan (suc budget) state over = record { log = []; last = state }
run_on plan (suc budget) state (sends message state') = logged message state' (run_on plan budget state' (inner_step plan state'))

abbrev pub run_from : Plan → ℕ → State → Run
run_from plan budget state = run_on plan budget state (inner_step plan state)

-- ---- rule 8: the paths are those walked by DONE, in that order

-- read from the end of the log: the radios still to come on the path under way, and the paths after it
pub record Walked : Type 0 where
  pub onward : List ℕ
  pub paths : List (List ℕ)

-- a message from half a to half b is a DONE that reaches a radio. The test: S sends it, and a path starts here
abbrev pub reaches : Bool → ℕ → ℕ → Walked → Walked
reaches true u v w = record { onward = []; paths = (u ∷ v ∷ w.onward) ∷ w.paths }
reaches false u v w = record { onward = v ∷ w.onward; paths = w.paths }

-- DONE to an out half stays within its radio
abbrev pub done_over : Bool → Site → ℕ → ℕ → Walked → Walked
done_over true site a b w = w
done_over false site a b w = reaches (eqb a (out_half site.S)) (radio_of a) (radio_of b) w

abbrev pub heard : Kind → Site → ℕ → ℕ → Walked → Walked
heard Pdt site a b w = w
heard PdtB site a b w = w
heard Pmt site a b w = w
heard Done site a b w = done_over (is_out b) site a b w

unfoldable pub walked : Site → List Entry → Walked
walked site [] = record { onward = []; paths = [] }
walked site (entry ∷ log) = heard entry.message.kind site entry.message.from entry.message.to (walked site log)

abbrev pub paths_of : Site → List Entry → List (List ℕ)
paths_of site log = (walked site log).paths

-- ---- the cut

-- a path leaves R where it goes from a half in R to one that is not
abbrev pub leaves : Entered → ℕ → ℕ → Bool
leaves R a b = R a && not (R b)

-- how often a path does so from radio u's out half on, with the radios after u: on its way to v's in half, then inside v
abbrev pub leavings : Entered → ℕ → List ℕ → ℕ
leavings R u [] = 0
leavings R u (v ∷ rest) = one_if (leaves R (out_half u) (in_half v)) + one_if (leaves R (in_half v) (out_half v)) + leavings R v rest

-- how often a path leaves R
abbrev pub times_leaving : Entered → List ℕ → ℕ
times_leaving R [] = 0
times_leaving R (u ∷ rest) = leavings R u rest

-- the path leaves R from u's out half to v's in half. The two tests: v is T; u is S
abbrev pub at_link : Bool → Bool → ℕ → ℕ → ℕ
at_link false from_s u v = v
at_link true false u v = u
at_link true true u v = direct_link

-- the item of a path whose radio u has its out half in R, with the radios after u
unfoldable pub cut_item : Site → Entered → ℕ → List ℕ → ℕ
cut_item site R u [] = u
cut_item site R u (v ∷ rest) = cond (R (in_half v)) (cond (R (out_half v)) (cut_item site R v rest) v) (at_link (eqb v site.T) (eqb u site.S) u v)

-- a path starts at S, whose out half is always in R
unfoldable pub item_of : Site → Entered → List ℕ → ℕ
item_of site R [] = 0
item_of site R (u ∷ rest) = cut_item site R u rest

-- one item for each path, in path order
abbrev pub cut_of : Site → Entered → List (List ℕ) → List ℕ
cut_of site R paths = map (item_of site R) paths

-- The contract of one inner step, and of each of its stages: what it asks of its caller, and what it leaves.
use Rattle.std.specs.Prelude.{◌≡◌, false, List, ℕ, ◌≤◌, ◌<◌, eqb}
use Rattle.site.specs.Limits.{most_paths, most_radios}
use Rattle.site.specs.Map.{Site, in_half}
use Rattle.tokens.specs.Rules.{Plan, State, Next, rising, inner_step, gets, waits}
use Rattle.openings.specs.Rows.{Open, Untried}
use Rattle.radios.specs.Links.{RowsOfLinks, Passing}
use Rattle.machine.specs.declared.Task.{Task}
use Rattle.machine.specs.declared.Stage.{Stage}
use Rattle.machine.specs.declared.Stage.TheVariants.{Searching, Declining, Granting, Won, Carrying}
use Rattle.machine.specs.declared.Machine.{Machine}
use Rattle.machine.specs.declared.Board.{Board}
use Rattle.machine.specs.declared.Stepped.{Stepped}
use Rattle.machine.specs.View.{marks_of, entered_of, tried, waiting_of, notes_in, is_won, state_of, next_of}
use Rattle.machine.specs.Sane.{Sane}

-- the numbers of a survey that the checks let through
pub record Fits (task : Task) : Type 0 where
  pub few : task.n ≤ most_radios
  pub source : task.s < task.n
  pub sink : task.t < task.n
  pub differ : task.s ≡ task.t → ⊥
  pub few_wanted : task.k ≤ most_paths

-- the numbers, the radios that pass and the rows of links are the plan's
pub record Made (plan : Plan) (task : Task) (links : List ℕ) : Type 0 where
  pub fits : Fits task
  pub radios : plan.site.n ≡ task.n
  pub source : plan.site.S ≡ task.s
  pub sink : plan.site.T ≡ task.t
  pub wanted : plan.k ≡ task.k
  pub order : plan.order ≡ rising
  pub passing : Passing plan.site task.passing
  pub linked : RowsOfLinks plan.site.table plan.site.n links

-- a half that searches, now or once it is declined, holds what it has not tried from this place on
abbrev pub WhileSeeking : Stage → Type 0 → Type 0
WhileSeeking Searching P = P
WhileSeeking Declining P = P
WhileSeeking Granting P = Unit
WhileSeeking Won P = Unit
WhileSeeking Carrying P = Unit

abbrev pub TopUntried : Site → ℕ → Machine → List ℕ → Type 0
TopUntried site place machine rows = WhileSeeking machine.stage (Untried site (marks_of site rows) machine.half place machine.left)

-- all this holds of a state that a run of the plan comes to. The rows of openings are those of the marks that they tell
pub record Ready (plan : Plan) (place : ℕ) (task : Task) (machine : Machine) (links : List ℕ) (board : Board) : Type 0 where
  pub made : Made plan task links
  pub walks : Open plan.site (marks_of plan.site board.rows) board.rows
  pub untried : TopUntried plan.site place machine board.rows
  pub sane : Sane plan (state_of plan.site place machine board)

-- so it is for some plan
abbrev pub IsReady : Task → Machine → List ℕ → Board → Type 0
IsReady task machine links board = (plan : Plan) × (place : ℕ) × Ready plan place task machine links board

-- the definition's word for what happens next is what was answered, with the half on top at some place
pub record Agrees (site : Site) (next : Next) (stepped : Stepped) (board : Board) : Type 0 where
  pub place : ℕ
  pub untried : TopUntried site place stepped.machine board.rows
  pub answers : next ≡ next_of stepped.answer (state_of site place stepped.machine board)

-- so it is of an inner step, for every plan and place that it can be
pub record Follows (plan : Plan) (before : State) (stepped : Stepped) (board : Board) : Type 0 where
  pub walks : Open plan.site (marks_of plan.site board.rows) board.rows
  pub gives : Agrees plan.site (inner_step plan before) stepped board

abbrev pub Steps : Task → Machine → List ℕ → Board → Stepped → Board → Type 0
Steps task machine links board stepped board' =
    (plan : Plan) (place : ℕ) → Ready plan place task machine links board → Follows plan (state_of plan.site place machine board) stepped board'

-- half y has got a PDT from the half on top, which has this left then; the rows are as they were
pub record Received (site : Site) (machine : Machine) (y : ℕ) (board : Board) (next : Machine) (board' : Board) : Type 0 where
  pub place : ℕ
  pub same_rows : board'.rows ≡ board.rows
  pub untried : TopUntried site place next board'.rows
  pub state :
      gets (eqb y (in_half site.T)) (entered_of board.entered y) y (notes_in site machine board) (waits machine.half (tried site machine.half y) (waiting_of site board.halves machine.depth machine.half))
      ≡ state_of site place next board'

-- the next round has begun where one was due, and the inner step from there is the same
pub record Continues (plan : Plan) (place : ℕ) (task : Task) (machine : Machine) (links : List ℕ) (board : Board) (next : Machine) (board' : Board) : Type 0 where
  pub from : ℕ
  pub ready : Ready plan from task next links board'
  pub same : inner_step plan (state_of plan.site place machine board) ≡ inner_step plan (state_of plan.site from next board')

-- a round that is still won was the last. Nothing of the board has changed but the halves entered
pub record Rounds (task : Task) (machine : Machine) (links : List ℕ) (board : Board) (next : Machine) (board' : Board) : Type 0 where
  pub continues : (plan : Plan) (place : ℕ) → Ready plan place task machine links board → Continues plan place task machine links board next board'
  pub full : next.stage ≡ Won → task.k ≤ next.found
  pub still : is_won machine.stage ≡ false → entered_of board'.entered ≡ entered_of board.entered
  pub same_rows : board'.rows ≡ board.rows
  pub same_halves : board'.halves ≡ board.halves

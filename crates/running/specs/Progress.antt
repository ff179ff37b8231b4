-- How far a run has come: what is sent so far and the run from the present state with the rest of the budget make up the whole run.
use Rattle.std.specs.Prelude.{◌≡◌, List, ◌++◌, ℕ, ◌-◌, ◌≤◌, ◌<◌, length}
use Rattle.tokens.specs.Rules.{Plan}
use Rattle.tokens.specs.Run.{Entry, Run, run_from}
use Rattle.message_log.specs.Bytes.{Filled, RoomFor}
use Rattle.machine.specs.declared.Task.{Task}
use Rattle.machine.specs.declared.Machine.{Machine}
use Rattle.machine.specs.declared.Board.{Board}
use Rattle.machine.specs.View.{state_of}
use Rattle.machine.specs.Step.{Ready}

-- what was sent so far, and then a run
abbrev pub following : List Entry → Run → Run
following log run = record { log = log ++ run.log; last = run.last }

-- for a plan: the machine is ready, and the whole run is what was sent and the run from here
pub record Standing (plan : Plan) (task : Task) (links : List ℕ) (whole : Run) (log : List Entry) (left : ℕ) (machine : Machine) (board : Board) : Type 0 where
  pub place : ℕ
  pub ready : Ready plan place task machine links board
  pub so_far : whole ≡ following log (run_from plan left (state_of plan.site place machine board))

-- where a run began: the machine, the board, and the log as it was
pub record Beginning : Type 0 where
  pub machine : Machine
  pub board : Board
  pub log : List ℕ

-- the plan is one that the machine was ready for there
abbrev pub Begun : Plan → Task → List ℕ → Beginning → Type 0
Begun plan task links begin = Ready plan 0 task begin.machine links begin.board

abbrev pub whole_run : Plan → ℕ → Beginning → Run
whole_run plan budget begin = run_from plan budget (state_of plan.site 0 begin.machine begin.board)

-- so many messages are sent, and stand at the front of the log: for every plan that the machine was ready for
pub record Partly (task : Task) (budget : ℕ) (links : List ℕ) (begin : Beginning) (bytes : List ℕ) (machine : Machine) (board : Board) (sent : ℕ) : Type 0 where
  pub log : List Entry
  pub number : length log ≡ sent
  pub within : sent ≤ budget
  pub filled : Filled log begin.log bytes
  pub way : (plan : Plan) → Begun plan task links begin → Standing plan task links (whole_run plan budget begin) log (budget - sent) machine board

-- the messages sent so far and where the machine stands, from one place of the run to a later one: whatever run came so far has come further
pub record Onward (task : Task) (budget : ℕ) (board : Board) (bytes : List ℕ) (machine : Machine) (sent : ℕ) (bytes' : List ℕ) (machine' : Machine) (sent' : ℕ) : Type 0 where
  pub within : sent' < budget
  pub rises : sent ≤ sent'
  pub same_length : length bytes' ≡ length bytes
  pub further :
      (links : List ℕ) (begin : Beginning) → RoomFor budget begin.log
      → Partly task budget links begin bytes machine board sent → Partly task budget links begin bytes' machine' board sent'

-- What the parts of the survey ask and leave: an accepted call, its numbers and its bytes.
use Rattle.std.specs.Prelude.{◌≡◌, List, ℕ, length}
use Rattle.refusals.specs.Refusals.{Call}
use Rattle.outcome.specs.declared.Outcome.{Outcome}
use Rattle.outcome.specs.Leaves.{plan_of, outcome, log_left, paths_left, cut_left}
use Rattle.machine.specs.declared.Task.{Task}
use Rattle.running.specs.Run.{Fresh}

-- an accepted call that these numbers, rows and buffers are of
pub record Given (task : Task) (links log paths cut : List ℕ) : Type 0 where
  pub call : Call
  pub accepted : (outcome call).refusal ≡ 0
  pub fresh : Fresh (plan_of call) task links
  pub log-lent : length log ≡ call.log_length
  pub paths-lent : length paths ≡ call.paths_length
  pub cut-lent : length cut ≡ call.cut_length

-- what the call leaves
pub record LeftBehind (call : Call) (numbers : Outcome) (log paths cut : List ℕ) : Type 0 where
  pub numbers_are : numbers ≡ outcome call
  pub log_is : log ≡ log_left call
  pub paths_are : paths ≡ paths_left call
  pub cut_is : cut ≡ cut_left call

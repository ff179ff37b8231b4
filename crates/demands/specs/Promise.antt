-- What the public call promises: every number and every byte of the lent buffers, and with them the three demands.
use Rattle.std.specs.Prelude.{◌≡◌, List, ℕ}
use Rattle.refusals.specs.Refusals.{Call}
use Rattle.outcome.specs.declared.Outcome.{Outcome}
use Rattle.outcome.specs.Leaves.{outcome, log_left, paths_left, cut_left}
use Rattle.demands.specs.Demand1.{Demand1}
use Rattle.demands.specs.Demand2.{Demand2}
use Rattle.demands.specs.Demand3.{Demand3}

-- the numbers returned, and the bytes that the three buffers hold at the end
pub record Promise (call : Call) (numbers : Outcome) (log paths cut : List ℕ) : Type 0 where
  pub numbers_are : numbers ≡ outcome call
  pub log_is : log ≡ log_left call
  pub paths_are : paths ≡ paths_left call
  pub cut_is : cut ≡ cut_left call
  pub demand_1 : Demand1 call
  pub demand_2 : (outcome call).refusal ≡ 0 → Demand2 call
  pub demand_3 : (outcome call).refusal ≡ 0 → Demand3 call

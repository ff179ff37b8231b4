-- Demand 1 of the survey, with names for its parts: refused by number, in a fixed order, and only then; a refused run leaves nothing.
use Rattle.std.specs.Prelude.{◌≡◌, true, false, ◌↔◌, ℕ, replicate}
use Rattle.basics.specs.Numbered.{Gives, NoneHolds}
use Rattle.refusals.specs.Refusals.{Call}
use Rattle.refusals.specs.Conditions.{of_cell, FirstIs, conditions}
use Rattle.outcome.specs.Leaves.{outcome, log_left, paths_left, cut_left}

-- zero counts, and zeros in every byte of the three buffers
pub record NothingLeft (call : Call) : Type 0 where
  pub paths : (outcome call).paths ≡ 0
  pub rounds : (outcome call).rounds ≡ 0
  pub messages : (outcome call).messages ≡ 0
  pub log : log_left call ≡ replicate call.log_length 0
  pub path_list : paths_left call ≡ replicate call.paths_length 0
  pub cut_list : cut_left call ≡ replicate call.cut_length 0

pub record Demand1 (call : Call) : Type 0 where
  -- a number is given exactly when its own condition holds and none before it does
  pub refused : (c : ℕ) → (c ≡ 0 → ⊥) → ((outcome call).refusal ≡ c) ↔ Gives (conditions call) c
  -- 0 is given exactly when none holds
  pub accepted : ((outcome call).refusal ≡ 0) ↔ NoneHolds (conditions call)
  -- for 3 and 13 the place is that of the first cell at fault, which is of that kind and of no kind before it; no other answer has a place
  pub place_of_cell : of_cell (outcome call).refusal ≡ true → FirstIs call.site.table call.site.n (outcome call).refusal (outcome call).place
  pub no_place : of_cell (outcome call).refusal ≡ false → (outcome call).place ≡ 0
  -- a refused run leaves nothing
  pub nothing_left : ((outcome call).refusal ≡ 0 → ⊥) → NothingLeft call

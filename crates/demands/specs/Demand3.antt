-- Demand 3 of the survey, with names for its parts: the rounds, what the log says of tokens and replies, and the bound on messages.
use Rattle.std.specs.Prelude.{◌≡◌, Bool, true, false, ◌&&◌, List, [], ◌∷◌, ◌⊎◌, ℕ, min, ◌+◌, ◌*◌, ◌≤◌, ◌<◌, eqb, length, take}
use Rattle.basics.specs.Counting.{one_if}
use Rattle.site.specs.Map.{step, A}
use Rattle.site.specs.Paths.{Largest}
use Rattle.refusals.specs.Refusals.{Call}
use Rattle.tokens.specs.declared.Kind.{Kind}
use Rattle.tokens.specs.declared.Kind.TheVariants.{Pdt, PdtB, Pmt, Done}
use Rattle.tokens.specs.Rules.{over, inner_step}
use Rattle.tokens.specs.Run.{Entry}
use Rattle.outcome.specs.Leaves.{plan_of, run_of, paths_found, cut_found, outcome}
use Rattle.message_log.specs.Bytes.{message_bytes, log_bytes}
use Rattle.path_lists.specs.Bytes.{path_bytes}

-- a discovery token, and the two replies to one
abbrev pub is_token : Kind → Bool
is_token Pdt = true
is_token PdtB = false
is_token Pmt = false
is_token Done = false

abbrev pub is_reply : Kind → Bool
is_reply Pdt = false
is_reply PdtB = true
is_reply Pmt = true
is_reply Done = false

-- how often the log has a message of these kinds from half a to half b in this round
abbrev pub sent_in : (Kind → Bool) → ℕ → ℕ → ℕ → List Entry → ℕ
sent_in kinds round a b [] = 0
sent_in kinds round a b (e ∷ log) =
    one_if (kinds e.message.kind && eqb round e.round && (eqb a e.message.from && eqb b e.message.to)) + sent_in kinds round a b log

abbrev pub tokens_in : ℕ → ℕ → ℕ → List Entry → ℕ
tokens_in round a b log = sent_in is_token round a b log

abbrev pub replies_in : ℕ → ℕ → ℕ → List Entry → ℕ
replies_in round a b log = sent_in is_reply round a b log

pub record Demand3 (call : Call) : Type 0 where
  -- there is a largest number of disjoint paths, and one only
  pub largest : (M : ℕ) × Largest call.site M
  pub one_largest : (M M' : ℕ) → Largest call.site M → Largest call.site M' → M ≡ M'
  -- with M that number the rounds are min(k, M+1), failed ones included
  pub rounds : (M : ℕ) → Largest call.site M → (outcome call).rounds ≡ min call.k (M + 1)
  -- messages are exactly the log's, each of as many bytes
  pub messages : length (log_bytes (run_of call).log) ≡ message_bytes * (outcome call).messages
  -- discovery tokens go over steps of the map, and no round sends one twice over a step, in either direction
  pub over_steps : (round a b : ℕ) → 0 < tokens_in round a b (run_of call).log → (step call.site a b ≡ true) ⊎ (step call.site b a ≡ true)
  pub once : (round a b : ℕ) → tokens_in round a b (run_of call).log + tokens_in round b a (run_of call).log ≤ 1
  -- each token gets one reply, in the same round, from the half it went to, and none before it came
  pub one_reply : (round a b : ℕ) → replies_in round b a (run_of call).log ≡ tokens_in round a b (run_of call).log
  pub none_before : (i round a b : ℕ) → replies_in round b a (take i (run_of call).log) ≤ tokens_in round a b (take i (run_of call).log)
  -- with r the rounds, all messages together are at most (2r+1)·A
  pub bound : (outcome call).messages ≤ (2 * (outcome call).rounds + 1) * A call.site
  -- the run ends by itself, and what it leaves fits the buffers
  pub ends : inner_step (plan_of call) (run_of call).last ≡ over
  pub log_fits : length (log_bytes (run_of call).log) ≤ call.log_length
  pub paths_fit : length (path_bytes (paths_found call)) ≤ call.paths_length
  pub cut_fits : length (cut_found call) ≤ call.cut_length

-- `checks::judge_pair` meets its contract. Assumes nothing.
use mathlib.Core.Logic.{inl, inr, ⊎_elim}
use native.Mathlib.Omega.{arith}
use Rattle.checks.proofs.Verdicts.{told_ends, told_wanted}
use Rattle.checks.proofs.judge_pair.Goals as goal

pub returns-then-s-n : goal.returns-then-s-n
returns-then-s-n c = told_ends _ _ _ _ (⊎_elim (λ w. inl (inl w)) (⊎_elim (λ w. inl (inr w.1)) (λ w. inr w.2)) c.then-s-n.either)

pub returns-then-k-eq0 : goal.returns-then-k-eq0
returns-then-k-eq0 c = told_wanted _ _ _ _ (omega arith) (omega arith) (omega arith) (⊎_elim inl (λ w. inr w.1) c.then-k-eq0.either)

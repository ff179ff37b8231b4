-- `paths::Told::first_done` meets its contract. The loop's invariant: the messages passed are DONEs. Assumes nothing.
use Prim.Native.Nat.{ℕ, ◌≤◌, ◌<◌}
use Rattle.paths.proofs.Log.{DoneAt}
use Rattle.paths.proofs.Told.first_done.Given as goal

abbrev pub invariant-loop-at : goal.invariant-loop-at
invariant-loop-at l = (i : ℕ) → l.at ≤ i → i < l.self.messages → DoneAt l.self.log.now i

-- The invariant of `path_lists::Seen::with_inner`'s loop: the radios before this one are fine, and the set has them besides.
use mathlib.Core.List.{List}
use Prim.Native.Nat.{ℕ}
use lib.ListN.{take}
use Rattle.path_lists.specs.Seen.{IsSet}
use Rattle.path_lists.proofs.Fresh.{FineSoFar}
use Rattle.path_lists.proofs.Seen.with_inner.Given as goal

abbrev pub invariant-loop-v : goal.invariant-loop-v
invariant-loop-v l = (before : List ℕ) → IsSet l.self.set before → FineSoFar l.n l.set before (take l.v-index l.inside)

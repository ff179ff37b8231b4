-- `path_lists::Seen::with_inner` meets its contract. Assumes nothing.
use mathlib.Core.Path.{refl}
use mathlib.Core.Logic.{inl, inr}
use Rattle.path_lists.proofs.Fresh.{fine_at_first, one_more, one_bad, all_fine}
use Rattle.path_lists.proofs.Seen.with_inner.Goals as goal
use Rattle.path_lists.proofs.Seen.with_inner.Goals.{then-v-n-via-then-v-n, then-v-n-via-else-v-n+then-has}

pub loop-v-init : goal.loop-v-init
loop-v-init c = fine_at_first _ _

pub returns-then-v-n : goal.returns-then-v-n
returns-then-v-n c = λ before is. one_bad _ _ before _ _ (c.loop-v.invariant before is) c.loop-v-test.true (elim c.then-v-n.branch [ then-v-n-via-then-v-n w ↦ inl w.if-v-n.true | then-v-n-via-else-v-n+then-has w ↦ inr cc ])

pub loop-v-preserved : goal.loop-v-preserved
loop-v-preserved c = λ before is. one_more _ _ before _ _ (c.loop-v.invariant before is) c.loop-v-test.true c.if-v-n.false (cc) _ c.with-set.ensures

pub returns : goal.returns
returns c = λ before is.
    let all = all_fine _ _ before _ _ (c.loop-v.invariant before is) c.loop-v-test.false in
    (all.fine, record { direct_is = refl; set_is = all.set_is })

-- `path_lists::are_sound` meets its contract. Assumes nothing.
use borrow.Author.Tests.{leb-true}
use Rattle.path_lists.proofs.Judged.{judged_at_first, judged_all, judged_short, judged_bad, judged_on}
use Rattle.path_lists.proofs.are_sound.Goals as goal

pub loop-init : goal.loop-init
loop-init c = judged_at_first _ _ _ _ _ _ _ c.none.ensures c.with.ensures c.with-2.ensures

pub returns-then-not-is_whole : goal.returns-then-not-is_whole
returns-then-not-is_whole c = judged_short _ _ _ _ _ _ _ _ c.loop.invariant c.loop-test.true (cc)

pub returns-in_default : goal.returns-in_default
returns-in_default c =
    let still = c.loop.invariant in
    judged_bad _ _ _ _ _ _ _ _ still c.loop-test.true (leb-true _ _ (cc)) c.path_at-path.ensures.radios (c.in_default.ensures still.before still.set_is)

pub loop-preserved : goal.loop-preserved
loop-preserved c =
    let still = c.loop.invariant in
    judged_on _ _ _ _ _ _ _ _ still c.loop-test.true (leb-true _ _ (cc)) c.path_at-path.ensures.radios _ c.path_at-path.ensures.next (c.in-Some.ensures still.before still.set_is)

pub returns : goal.returns
returns c = judged_all _ _ _ _ _ _ _ _ c.loop.invariant c.loop-test.false

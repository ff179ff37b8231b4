-- `path_lists::is_sound` meets its contract. Assumes nothing.
use mathlib.Core.Logic.{inl, inr}
use borrow.Author.Tests.{leb-true}
use Rattle.path_lists.proofs.FirstPath.{no-paths, first_short, first_alone, ends_are_bad, ends_are_good}
use Rattle.path_lists.proofs.is_sound.Goals as goal
use Rattle.path_lists.proofs.is_sound.Goals.{then-s-n-via-then-s-n, then-s-n-via-else-s-n+then-t-n, then-s-n-via-else-s-n+else-t-n+then-s-t}

pub returns-then-count-eq0 : goal.returns-then-count-eq0
returns-then-count-eq0 c = no-paths _ _ _ c.if-count-eq0.true

pub returns-then-not-is_whole : goal.returns-then-not-is_whole
returns-then-not-is_whole c = first_short _ _ _ c.if-count-eq0.false (cc)

pub returns-in_default : goal.returns-in_default
returns-in_default c = first_alone _ _ _ c.if-count-eq0.false (leb-true _ _ (cc)) c.path_at.ensures.radios c.in_default.len_below

pub returns-then-s-n : goal.returns-then-s-n
returns-then-s-n c =
    ends_are_bad _ _ _ c.if-count-eq0.false (leb-true _ _ (cc)) c.path_at.ensures.radios
    (elim c.then-s-n.branch [ then-s-n-via-then-s-n w ↦ inl w.if-s-n.true | then-s-n-via-else-s-n+then-t-n w ↦ inr (inl w.if-t-n.true) | then-s-n-via-else-s-n+else-t-n+then-s-t w ↦ inr (inr w.if-s-t.true) ])

pub returns : goal.returns
returns c = ends_are_good _ _ _ c.if-count-eq0.false (leb-true _ _ (cc)) c.path_at.ensures.radios c.if-s-n.false c.if-t-n.false c.if-s-t.false _ c.are_sound.ensures

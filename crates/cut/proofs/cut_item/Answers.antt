-- `cut::cut_item` meets its contract. Assumes nothing.
use mathlib.Core.Path.{sym, ◌∙◌}
use native.Mathlib.Omega.{arith}
use Rattle.cut.proofs.Cutting.{item_of_none, item_starts, item_ends, leaves_at_link, leaves_inside, stays}
use Rattle.cut.proofs.cut_item.Goals as goal

pub returns-in_default : goal.returns-in_default
returns-in_default c = λ site e. item_of_none site _ _ c.in_default.ensures.cases

pub loop-v-init : goal.loop-v-init
loop-v-init c = λ site e. item_starts site _ c.in-Some.ensures.cases.0

pub returns-then-not-is_entered : goal.returns-then-not-is_entered
returns-then-not-is_entered c =
    λ site e. leaves_at_link site _ c.in-Some.others.now c.loop-v.u c.loop-v.v-index (c.loop-v.invariant site e) _ _ c.at_link.result e c.loop-v-test.true (sym c.is_entered.ensures ∙ c.if-not-is_entered.true) c.at_link.ensures

pub returns-then-not-is_entered-2 : goal.returns-then-not-is_entered-2
returns-then-not-is_entered-2 c =
    let into = sym c.is_entered.ensures ∙ c.if-not-is_entered.false in
    let out = sym c.is_entered-in-loop-v.ensures ∙ c.if-not-is_entered-2.true in
    λ site e. leaves_inside site _ c.in-Some.others.now c.loop-v.u c.loop-v.v-index (c.loop-v.invariant site e) c.loop-v-test.true into out

pub loop-v-preserved : goal.loop-v-preserved
loop-v-preserved c =
    let into = sym c.is_entered.ensures ∙ c.if-not-is_entered.false in
    let out = sym c.is_entered-in-loop-v.ensures ∙ c.if-not-is_entered-2.false in
    λ site e. stays site _ c.in-Some.others.now c.loop-v.u c.loop-v.v-index (c.loop-v.invariant site e) c.loop-v-test.true into out

pub returns : goal.returns
returns c = λ site e. item_ends site _ c.in-Some.others.now c.loop-v.u c.loop-v.v-index (c.loop-v.invariant site e) (omega arith)

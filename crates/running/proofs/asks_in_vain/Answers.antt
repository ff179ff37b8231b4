-- `running::asks_in_vain` meets its contract. Assumes nothing.
use mathlib.Core.Path.{refl, sym, ◌∙◌}
use Prim.Native.Nat.{◌/◌}
use native.Mathlib.Omega.{arith}
use lib.Bits.{bit_or}
use Rattle.radios.proofs.Laws.{member-or}
use Rattle.running.proofs.InVain.{onward_none, onward_same, asking_more, own_not_other, own_alone, both_parts}
use Rattle.running.proofs.asks_in_vain.Goals as goal

pub loop-v-init : goal.loop-v-init
loop-v-init c =
    let at = c.args in
    let m = at.m.now in
    let u = m.half / 2 in
    let others = c.without-others in
    let own = c.and_not-own in
    record {
      onward = λ task. onward_none task at.budget at.board.now at.log.now m at.sent (bit_or others.result own.result) (both_parts u m.left others.result own.result others.ensures own.ensures) c.requires.within;
      same_length = refl;
      not_u = own_not_other u m.left others.result own.result others.ensures own.ensures;
      room = λ j e. omega arith;
      most = omega arith;
    }

pub loop-v-preserved : goal.loop-v-preserved
loop-v-preserved c =
    let at = c.args in
    let l = c.loop-v in
    let first = c.in-Some.ensures in
    asking_more at.budget at.board.now at.log.now at.m.now at.sent (at.m.now.half / 2) _ c.in-Searching.is (omega arith) (own_alone _ _ _ _ c.without-others.ensures c.and_not-own.ensures) (omega arith)
    l.log _ _ _ _ l.others l.at c.in-Some.v _ l.invariant first.is_first first.below
    (cc) c.without_first-others.ensures
    c.new.ensures c.put.ensures c.new-in-Some.ensures c.put-in-Some.ensures

pub returns : goal.returns
returns c = λ task.
    let l = c.loop-v in
    onward_same task _ _ _ _ _ l.log l.at _ _ (λ j. member-or j _ _ ∙ sym (c.both.ensures j)) (l.invariant.onward task)

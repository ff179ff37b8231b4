-- `openings::fill` meets its contract. The loop's invariant: the rows of the radios passed are filled. Assumes nothing.
use mathlib.Core.Path.{◌≡◌, refl, ap, ◌∙◌, subst}
use mathlib.Core.Bool.{Bool, ◌&&◌}
use Prim.Native.Nat.{ℕ, ◌+◌, ◌*◌}
use native.Mathlib.Omega.{arith}
use lib.Dec.{eqb}
use lib.ListN.{set, length-set}
use Rattle.std.proofs.lemmas.Grind.{get_or_default_zero}
use Rattle.openings.proofs.Start.{in_starts, out_starts, FilledTo, none_filled, one_more, all_filled}
use Rattle.openings.proofs.fill.Goals as goal

pub loop-u-init : goal.loop-u-init
loop-u-init c = λ site radios source sink passing links. none_filled site _ (c.fill.ensures.after (λ y e. e) ∙ rw (c.told-rows, c.none.ensures) refl)

pub loop-u-preserved : goal.loop-u-preserved
loop-u-preserved c = λ site radios source sink passing links.
    let loop = c.loop-u in
    let two : 2 * loop.u + 1 + 1 ≡ 2 * (loop.u + 1) = omega arith in
    subst (FilledTo site (set (set loop.rows (2 * loop.u) c.inside.result) (2 * loop.u + 1) c.outward.result)) two
    (one_more site (set loop.rows (2 * loop.u) c.inside.result) (2 * loop.u + 1) _ (simp length-set (omega arith)) (out_starts site loop.u _ (λ v. c.outward.ensures site c.args.links.now v source sink links (get_or_default_zero c.args.links.now loop.u _ (omega arith))))
    (one_more site loop.rows (2 * loop.u) _ (omega arith) (in_starts site loop.u _ (λ v. c.inside.ensures v ∙ ap (λ (b : Bool). eqb v loop.u && b) (passing loop.u))) (loop.invariant site radios source sink passing links)))

pub returns : goal.returns
returns c = λ site radios source sink passing links.
    all_filled site c.loop-u.rows (subst (λ (k : ℕ). FilledTo site c.loop-u.rows k) (omega arith) (c.loop-u.invariant site radios source sink passing links))

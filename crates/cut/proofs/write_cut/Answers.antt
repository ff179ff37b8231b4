-- `cut::write_cut` meets its contract. Assumes nothing.
use mathlib.Core.Path.{◌≡◌, refl, sym, ap, ◌∙◌}
use mathlib.Core.List.{List, [], ◌++◌}
use Prim.Native.Nat.{ℕ}
use native.Mathlib.Omega.{arith}
use lib.ListN.{take, drop, length-take}
use lib.Seq.{take_all}
use Rattle.basics.proofs.Lists.{all_at}
use Rattle.tokens.specs.Run.{item_of, cut_of}
use Rattle.path_lists.specs.Bytes.{Holds}
use Rattle.path_lists.proofs.Walking.{at_front, Stands, path_inside, path_stands}
use Rattle.halves.specs.Bytes.{entered_of}
use Rattle.cut.specs.Cut.{AreRadios}
use Rattle.cut.proofs.Cutting.{one_more_item}
use Rattle.cut.proofs.write_cut.Goals as goal
use Rattle.cut.proofs.write_cut.Goals.{After-path_at-path}

-- the path that the loop has come to
stands : (c : After-path_at-path) (ps : List (List ℕ)) → Holds c.args.paths.now c.args.count ps → Stands c.args.paths.now ps c.loop-item.item-index c.loop-item.at c.path_at-path.result.now
stands c ps held = path_stands held c.loop-item.item-index c.loop-item.at (omega (arith, length-take {A = ℕ})) (c.loop-item.invariant.placed ps held) c.path_at-path.ensures.radios

pub loop-item-init : goal.loop-item-init
loop-item-init c = record { placed = λ ps held. at_front ps; written = λ site ps e held. refl }

pub path_at-path-requires : goal.path_at-path-requires
path_at-path-requires c = path_inside c.requires.held c.loop-item.item-index c.loop-item.at (omega (arith, length-take {A = ℕ})) (c.loop-item.invariant.placed c.requires.paths c.requires.held)

pub cut_item-requires : goal.cut_item-requires
cut_item-requires c =
    let p = c.requires in
    rw (stands c p.paths p.held).radios (all_at AreRadios p.paths c.loop-item.item-index [] p.radios (omega (arith, p.held.number, length-take {A = ℕ})))

pub loop-item-preserved : goal.loop-item-preserved
loop-item-preserved c =
    let l = c.loop-item in
    let known = stands (goal.at.loop-item-preserved c).After-path_at-path in
    record {
      placed = λ ps held. omega (arith, (known ps held).next);
      written = λ site ps e held. one_more_item site _ ps l.item-items l.item-index _ (omega (arith, held.number, length-take {A = ℕ})) (omega arith) (l.invariant.written site ps e held)
          (c.cut_item.ensures site e ∙ ap (item_of site (entered_of c.args.entered.now)) (known ps held).radios);
    }

pub returns : goal.returns
returns c = λ site ps e held.
    let l = c.loop-item in
    let items : take l.item-index l.item-items ≡ l.item-items = take_all l.item-index l.item-items (omega arith) in
    let all : take l.item-index ps ≡ ps = take_all l.item-index ps (omega (arith, held.number, length-take {A = ℕ}, c.requires.room)) in
    ap (λ (front : List ℕ). front ++ drop c.args.count c.args.cut.now) (sym items ∙ l.invariant.written site ps e held ∙ ap (cut_of site (entered_of c.args.entered.now)) all)

-- `openings::next` meets its contract. Assumes nothing.
use mathlib.Core.Path.{◌≡◌, sym, ap, ◌∙◌, subst}
use mathlib.Core.Bool.{not, ◌&&◌}
use Prim.Native.Nat.{ℕ, ◌+◌, ◌*◌, ◌%◌, ◌<◌}
use native.Mathlib.Omega.{arith}
use lib.Dec.{eqb}
use Rattle.radios.specs.Member.{member}
use Rattle.site.specs.Limits.{most_radios}
use Rattle.site.specs.Map.{radio_of}
use Rattle.openings.specs.Rows.{across, NextRadio, NextHalf}
use Rattle.openings.proofs.Walks.{across-is, across-radio}
use Rattle.openings.proofs.Order.{next_other, next_own}
use Rattle.openings.proofs.next.Goals as goal

-- only its own other half is left
own : (left h others y : ℕ) → h < 2 * most_radios → (left ≡ 0 → ⊥) → ((v : ℕ) → member v others ≡ (not (eqb v (radio_of h)) && member v left)) → others ≡ 0
    → (h + y) % 2 ≡ 1 → radio_of y ≡ radio_of h → NextHalf left h y
own left h others y few some is none differ radio =
    record {
      few = omega arith;
      across_it = sym (across-is h y differ);
      next = λ plan marks place order half all. subst (NextRadio plan marks h place) (sym radio) (next_own plan marks _ place _ order half all _ is none some);
    }

pub returns-in-None : goal.returns-in-None
returns-in-None c = own _ _ c.without.result _ c.requires.0 c.requires.1 c.without.ensures c.in-None.ensures.empty (omega arith) (omega arith)

pub returns-in-None-2 : goal.returns-in-None-2
returns-in-None-2 c = own _ _ c.without.result _ c.requires.0 c.requires.1 c.without.ensures c.in-None.ensures.empty (omega arith) (omega arith)

-- the first of the others
pub returns-in-Some : goal.returns-in-Some
returns-in-Some c =
    let found = c.in-Some.ensures in
    let radio : radio_of c.half_across.result ≡ c.in-Some.v = ap radio_of c.half_across.ensures ∙ across-radio c.args.h c.in-Some.v in
    record {
      few = omega arith;
      across_it = c.half_across.ensures ∙ ap (across c.args.h) (sym radio);
      next = λ plan marks place order half left.
          subst (NextRadio plan marks c.args.h place) (sym radio) (next_other plan marks _ place _ order half left _ c.without.ensures _ found.is_first found.below);
    }

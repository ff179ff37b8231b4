-- `cut::cut_item` meets its contract. The loop's invariant: the item is that of the radios from here on, after u. Assumes nothing.
use mathlib.Core.Path.{◌≡◌}
use lib.ListN.{drop}
use Rattle.site.specs.Map.{Site}
use Rattle.tokens.specs.Run.{cut_item, item_of}
use Rattle.halves.specs.Bytes.{entered_of}
use Rattle.cut.specs.Cut.{Ends}
use Rattle.cut.proofs.cut_item.Given as goal

abbrev pub invariant-loop-v : goal.invariant-loop-v
invariant-loop-v l = (site : Site) → Ends l.s l.t site → item_of site (entered_of l.entered) l.radios ≡ cut_item site (entered_of l.entered) l.u (drop l.v-index l.others)

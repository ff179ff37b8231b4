-- `cut::write_cut` meets its contract. The loop's invariant: the next path stands at `at`, and the items of those before are written. Assumes nothing.
use mathlib.Core.Path.{◌≡◌}
use mathlib.Core.List.{List}
use Prim.Native.Nat.{ℕ}
use lib.ListN.{take}
use Rattle.site.specs.Map.{Site}
use Rattle.tokens.specs.Run.{cut_of}
use Rattle.path_lists.specs.Bytes.{Holds}
use Rattle.path_lists.specs.Reading.{path_place}
use Rattle.halves.specs.Bytes.{entered_of}
use Rattle.cut.specs.Cut.{Ends}
use Rattle.cut.proofs.write_cut.Given as goal

abbrev pub invariant-loop-item : goal.invariant-loop-item
invariant-loop-item l = record {
  placed : (ps : List (List ℕ)) → Holds l.paths l.count ps → l.at ≡ path_place ps l.item-index;
  written : (site : Site) (ps : List (List ℕ)) → Ends l.s l.t site → Holds l.paths l.count ps → take l.item-index l.item-items ≡ cut_of site (entered_of l.entered) (take l.item-index ps);
}

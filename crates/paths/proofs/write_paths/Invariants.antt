-- `paths::write_paths` meets its contract. The loop's invariant: what `Halfway` says of the list. Assumes nothing.
use mathlib.Core.Path.{◌≡◌}
use mathlib.Core.List.{List}
use Prim.Native.Nat.{◌-◌, ◌≤◌}
use lib.ListN.{length}
use Rattle.std.specs.Prelude.{unwrap_or}
use Rattle.site.specs.Map.{Site}
use Rattle.tokens.specs.Run.{Entry}
use Rattle.paths.specs.Listing.{LogOf, Arrival}
use Rattle.paths.proofs.AllPaths.{Halfway}
use Rattle.paths.proofs.write_paths.Given as goal

abbrev pub invariant-loop-next : goal.invariant-loop-next
invariant-loop-next l = record {
  few : l.count ≤ l.messages;
  same_length : length l.paths ≡ length l.initial.paths;
  arrives : Arrival l.log l.count l.messages l.next;
  halfway : (site : Site) (entries : List Entry) → LogOf l.log l.messages l.s site entries → Halfway l.initial.paths l.paths l.used l.count l.next site entries;
}

abbrev pub decreases-loop-next : goal.decreases-loop-next
decreases-loop-next l = l.messages - unwrap_or l.next l.messages

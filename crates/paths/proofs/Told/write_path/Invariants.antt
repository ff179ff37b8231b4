-- `paths::Told::write_path` meets its contract. The loop's invariant: what `UnderWay` says of the path. Assumes nothing.
use mathlib.Core.Path.{◌≡◌}
use mathlib.Core.List.{List}
use Prim.Native.Nat.{ℕ, ◌+◌, ◌-◌, ◌≤◌}
use lib.ListN.{length}
use Rattle.std.specs.Prelude.{unwrap_or}
use Rattle.site.specs.Map.{Site}
use Rattle.tokens.specs.Run.{Entry}
use Rattle.paths.specs.Listing.{Arrival, Walks}
use Rattle.paths.proofs.Walking.{UnderWay}
use Rattle.paths.proofs.Told.write_path.Given as goal

abbrev pub invariant-loop-next : goal.invariant-loop-next
invariant-loop-next l = record {
  begun : 3 ≤ l.used;
  same_length : length l.rest ≡ length l.fn.rest;
  arrives : Arrival l.self.log.now (l.at + 1) l.self.messages l.next;
  under_way : (site : Site) (entries : List Entry) (path : List ℕ) (later : List (List ℕ)) → Walks l.self.log.now l.at l.self.messages l.self.s site entries path later → UnderWay l.initial.rest l.rest l.used l.next site entries path later;
}

abbrev pub decreases-loop-next : goal.decreases-loop-next
decreases-loop-next l = l.self.messages - unwrap_or l.next l.self.messages

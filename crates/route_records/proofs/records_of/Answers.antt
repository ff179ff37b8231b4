-- `route_records::records_of` meets its contract. Assumes nothing.
use mathlib.Core.Path.{◌≡◌}
use mathlib.Core.List.{List, []}
use Prim.Native.Nat.{ℕ, ◌<◌}
use native.Mathlib.Omega.{arith}
use lib.ListN.{length}
use Rattle.basics.proofs.Lists.{all_at}
use Rattle.site.specs.Limits.{most_radios}
use Rattle.path_lists.specs.Bytes.{Holds}
use Rattle.path_lists.specs.Reading.{path_at, path_place, paths_read}
use Rattle.path_lists.specs.Judge.{RadioList}
use Rattle.path_lists.proofs.Read.{held_read}
use Rattle.path_lists.proofs.Walking.{at_front, Stands, path_inside, path_stands}
use Rattle.route_records.specs.Filling.{Tellable}
use Rattle.route_records.proofs.Laid.{no_path_laid, one_more_path}
use Rattle.route_records.proofs.Promised.{all_records}
use Rattle.route_records.proofs.records_of.Goals as goal

-- the paths of a list that can be told, and the path that the loop has come to
module _ {count : ℕ} {list : List ℕ} (told : Tellable count list) where
  held : Holds list count (paths_read count list)
  held = held_read _ _ told.whole

  below : {i : ℕ} → i < count → i < length (paths_read count list)
  below more = omega (arith, held.number)

  stands : {i at : ℕ} {path : List ℕ} → i < count → at ≡ path_place (paths_read count list) i → path ≡ path_at list at → Stands list (paths_read count list) i at path
  stands {i} {at} more here read = path_stands held i at more here read

pub loop-i-init : goal.loop-i-init
loop-i-init c = (at_front (paths_read c.args.count c.args.paths.now), no_path_laid c.alone-records.ensures)

pub path_at-path-requires : goal.path_at-path-requires
path_at-path-requires c = path_inside (held c.requires) c.loop-i.i c.loop-i.at c.loop-i-test.true c.loop-i.invariant.0

pub put_path-requires-clause-all : goal.put_path-requires-clause-all
put_path-requires-clause-all c =
    let told = c.requires in
    let path = all_at (RadioList most_radios told.sound.S told.sound.T) (paths_read c.args.count c.args.paths.now) c.loop-i.i [] told.sound.each (below told c.loop-i-test.true) in
    rw (stands told c.loop-i-test.true c.loop-i.invariant.0 c.path_at-path.ensures.radios).radios (path.below, path.different)

pub loop-i-preserved : goal.loop-i-preserved
loop-i-preserved c =
    let here = stands c.requires c.loop-i-test.true c.loop-i.invariant.0 c.path_at-path.ensures.radios in
    (here.next, one_more_path c.requires.sound (below c.requires c.loop-i-test.true) here.radios c.loop-i.invariant.1 c.put_path.ensures)

pub returns : goal.returns
returns c = all_records (omega (arith, (held c.requires).number)) c.loop-i.invariant.1

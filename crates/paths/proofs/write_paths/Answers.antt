-- `paths::write_paths` meets its contract. The loop's invariant: what `Halfway` says of the list. Assumes nothing.
use mathlib.Core.Path.{◌≡◌, refl, sym, ◌∙◌}
use mathlib.Core.List.{List, ◌++◌, append-nil}
use Prim.Native.Nat.{ℕ, ◌-◌, ◌<◌, ◌≤◌}
use native.Mathlib.Omega.{arith}
use borrow.Rule.Slice.PartMut.{put_mid, same_len_mid, Post-is}
use lib.Seq.{drop-length}
use lib.ListN.{length, take, drop, length-drop}
use Rattle.std.proofs.lemmas.List.{take_rest}
use Rattle.site.specs.Map.{out_half}
use Rattle.message_log.specs.Read.{raw_at}
use Rattle.paths.specs.Listing.{Startable}
use Rattle.paths.proofs.Log.{log_room, from_is, later_arrives}
use Rattle.paths.proofs.AllPaths.{first_arrival, none_listed, walks_here, none_starts, can_start, one_more_path, all_listed}
use Rattle.paths.proofs.write_paths.Goals as goal
use Rattle.paths.proofs.write_paths.Goals.{Else-heard-s}

pub invariant_of-told : goal.invariant_of-told
invariant_of-told c = record { room = log_room c.requires.told }

pub loop-next-init : goal.loop-next-init
loop-next-init c =
    let first = first_arrival c.requires c.first_done.ensures c.next_arrival-next.ensures in
    record {
      few = omega arith;
      same_length = refl;
      arrives = first.arrives;
      halfway = λ site entries told. none_listed told c.args.paths.now first;
    }

-- ---- a DONE that S does not send

pub loop-next-preserved-then-heard-s : goal.loop-next-preserved-then-heard-s
loop-next-preserved-then-heard-s c =
    let l = c.loop-next in
    let found = c.next_arrival-next-then-heard-s.ensures in
    let here = rw c.in-Some.is at l.invariant.arrives in
    let other = λ (sent : (raw_at c.args.log.now c.in-Some.at).from ≡ out_half c.args.s). c.if-heard-s.true (sym (from_is c.args.log.now c.in-Some.at c.message_at-heard.ensures) ∙ sent) in
    record {
      few = l.invariant.few;
      same_length = l.invariant.same_length;
      arrives = later_arrives c.args.log.now c.args.messages _ (omega (arith, here.0)) found.arrives;
      halfway = λ site entries told. none_starts told (rw c.in-Some.is at (l.invariant.halfway site entries told)) here.1 here.2 other found;
    }

-- ---- a path starts: S sends the message, and the rest of the list has room for the path

sent-here : (c : Else-heard-s) → (raw_at c.args.log.now c.in-Some.at).from ≡ out_half c.args.s
sent-here c = from_is c.args.log.now c.in-Some.at c.message_at-heard.ensures ∙ c.if-heard-s.false

ready : (c : Else-heard-s) → Startable c.args.log.now c.in-Some.at c.args.messages c.args.s (drop c.loop-next.used c.loop-next.paths)
ready c =
    let p = c.requires in
    let inv = c.loop-next.invariant in
    let here = rw c.in-Some.is at inv.arrives in
    can_start p (rw c.in-Some.is at (inv.halfway p.site p.entries p.told)) inv.same_length here.1 here.2 (sent-here c)

used-below : (c : Else-heard-s) → c.loop-next.used < length c.loop-next.paths
used-below c = omega (arith, simp length-drop at (ready c).room)

pub slice_bounds-write_path-count : goal.slice_bounds-write_path-count
slice_bounds-write_path-count c = omega (arith, used-below (goal.at.slice_bounds-write_path-count c).Else-heard-s)

pub slice_bounds-write_path-start : goal.slice_bounds-write_path-start
slice_bounds-write_path-start c = omega (arith, used-below (goal.at.slice_bounds-write_path-start c).Else-heard-s)

-- what the list holds once its lent tail is back
tail_back : (a : ℕ) (list tail : List ℕ) → a ≤ length list → put_mid a (length list - a) list tail ≡ take a list ++ tail
tail_back a list tail l = rw (Post-is a (length list) list l, drop-length list, append-nil tail) refl

pub write_path-walk-requires : goal.write_path-walk-requires
write_path-walk-requires c = rw (take_rest c.loop-next.paths c.loop-next.used) (ready (goal.at.write_path-walk-requires c).Else-heard-s)

pub overflow_add-used : goal.overflow_add-used
overflow_add-used c =
    let r = ready (goal.at.overflow_add-used c).Else-heard-s in
    omega (arith, (c.write_path-walk.ensures.left r.site r.entries r.path r.later r.walks).used, simp length-drop at r.room)

pub loop-next-preserved : goal.loop-next-preserved
loop-next-preserved c =
    let l = c.loop-next in
    let w = c.write_path-walk in
    let here = rw c.in-Some.is at l.invariant.arrives in
    let inside = used-below (goal.at.loop-next-preserved c).Else-heard-s in
    record {
      few = omega (arith, here.0, here.1);
      same_length = same_len_mid l.used (length l.paths - l.used) l.paths w.new.rest w.auto.rest ∙ l.invariant.same_length;
      arrives = later_arrives c.args.log.now c.args.messages _ (omega (arith, here.0)) w.ensures.arrives;
      halfway = λ site entries told.
          let walks = walks_here told c.in-Some.at here.1 here.2 (sent-here (goal.at.loop-next-preserved c).Else-heard-s) in
          let left = rw (take_rest l.paths l.used) at (w.ensures.left site entries _ _ walks) in
          rw (tail_back l.used l.paths w.new.rest (omega arith)) (one_more_path told (rw c.in-Some.is at (l.invariant.halfway site entries told)) walks left);
    }

pub returns : goal.returns
returns c = λ site entries told. all_listed told (rw c.in_default.is at (c.loop-next.invariant.halfway site entries told))

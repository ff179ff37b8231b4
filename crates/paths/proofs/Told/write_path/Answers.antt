-- `paths::Told::write_path` meets its contract. The loop's invariant: what `UnderWay` says of the path. Assumes nothing.
use mathlib.Core.Path.{◌≡◌, sym, ◌∙◌}
use mathlib.Core.List.{List}
use Prim.Native.Nat.{ℕ, ◌≤◌, ◌<◌}
use native.Mathlib.Omega.{arith}
use lib.ListN.{length, length-set}
use Rattle.std.specs.Prelude.{IfSome}
use Rattle.site.specs.Map.{out_half}
use Rattle.message_log.specs.Read.{raw_at}
use Rattle.paths.specs.Listing.{Arrives, Startable}
use Rattle.paths.proofs.Log.{from_is, later_arrives}
use Rattle.paths.proofs.Walking.{begun-length, two_fit, under_begun, so_far_fits, one_fits, one_more, path_ends, path-left}
use Rattle.paths.proofs.Told.write_path.Goals as goal
use Rattle.paths.proofs.Told.write_path.Goals.{Else-heard-self, in-Some+then-heard-self, in_default}

three-fit : {log : List ℕ} {at messages s : ℕ} {before : List ℕ} (asked : Startable log at messages s before) → 3 ≤ length before
three-fit asked = omega (arith, two_fit asked.walks asked.below asked.arrives asked.sent, asked.room)

-- the path that the caller found room for has one radio more than are written, where another half sends the next message
room-left : (c : Else-heard-self) → c.loop-next.used < length c.args.rest.now
room-left c =
    let p = c.requires in
    let inv = c.loop-next.invariant in
    let here = rw c.in-Some.is at inv.arrives in
    omega (arith, one_fits p.walks (inv.under_way p.site p.entries p.path p.later p.walks) c.in-Some.is _ c.message_at-heard.ensures here.1 here.2 c.if-heard-self.false, p.room)

-- ---- before the loop

pub bounds-rest-1 : goal.bounds-rest-1
bounds-rest-1 c = omega (arith, three-fit c.requires)

pub bounds-rest-2 : goal.bounds-rest-2
bounds-rest-2 c = simp length-set (omega (arith, three-fit c.requires))

pub loop-next-init : goal.loop-next-init
loop-next-init c =
    let p = c.requires in
    let found = c.next_arrival-next.ensures in
    record {
      begun = omega arith;
      same_length = begun-length c.args.rest.now _ _;
      arrives = found.arrives;
      under_way = λ site entries path later walks. under_begun walks p.below p.arrives p.sent c.args.rest.now _ _ (three-fit p) c.message_at-first.ensures found;
    }

-- ---- in the loop

pub bounds-rest-used : goal.bounds-rest-used
bounds-rest-used c = omega (arith, room-left (goal.at.bounds-rest-used c).Else-heard-self)

pub overflow_add-used : goal.overflow_add-used
overflow_add-used c = omega (arith, room-left (goal.at.overflow_add-used c).Else-heard-self)

pub loop-next-preserved : goal.loop-next-preserved
loop-next-preserved c =
    let l = c.loop-next in
    let found = c.next_arrival-next-in-Some.ensures in
    let here = rw c.in-Some.is at l.invariant.arrives in
    let room = room-left (goal.at.loop-next-preserved c).Else-heard-self in
    record {
      begun = omega arith;
      same_length = length-set l.rest l.used _ ∙ l.invariant.same_length;
      arrives = later_arrives c.args.self.log.now c.args.self.messages c.next_arrival-next-in-Some.result (omega (arith, here.0)) found.arrives;
      under_way = λ site entries path later walks. one_more walks (l.invariant.under_way site entries path later walks) c.in-Some.is _ c.message_at-heard.ensures here.1 here.2 c.if-heard-self.false _ (rw begun-length room) found;
    }

-- ---- after the loop

pub overflow_cast-rest-2 : goal.overflow_cast-rest-2
overflow_cast-rest-2 c =
    let p = c.requires in
    omega (arith, so_far_fits p.walks (c.loop-next.invariant.under_way p.site p.entries p.path p.later p.walks), p.few)

pub returns : goal.returns
returns c =
    let a = c.args in
    let l = c.loop-next in
    let same : c.match-next.next ≡ l.next = elim c.match-next.branch [ in-Some+then-heard-self w ↦ w.next-is ∙ sym w.in-Some.is | in_default w ↦ w.next-is ] in
    let ends : IfSome l.next (λ at. (at < a.self.messages) × Arrives (raw_at a.self.log.now at) × ((raw_at a.self.log.now at).from ≡ out_half a.self.s)) =
    elim c.match-next.branch [
      | in-Some+then-heard-self w ↦ let here = rw w.in-Some.is at l.invariant.arrives in rw w.in-Some.is (here.1, here.2, from_is a.self.log.now w.in-Some.at w.message_at-heard.ensures ∙ w.if-heard-self.true)
      | in_default w ↦ rw w.in_default.is tt
    ] in
    rw same (record {
      arrives = l.invariant.arrives;
      left = λ site entries path later walks. path-left a.rest.now a.self.s _ l.invariant.begun (l.invariant.under_way site entries path later walks) (path_ends walks l.next ends);
    })

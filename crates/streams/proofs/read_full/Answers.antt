use Rattle.std.proofs.Common.{rules, ◌-◌, length, sym, subst}
use Rattle.std.proofs.KnownBytes.{Consumes-trans}
use Rattle.std.specs.Io.KnownBytes.{Consumes}
use Rattle.streams.proofs.Taken.{take_past}
use Rattle.streams.proofs.read_full.Goals as goal

-- what this read brought stands behind what stood there
pub loop-done-preserved : goal.loop-done-preserved
loop-done-preserved g c =
    let l = c.loop-done in
    let read = c.in_ok-more.ensures in
    let stands = take_past l.done (length l.buffer - l.done) c.in_ok-more.more l.buffer c.read.new.buf l.invariant.1 read.bound.0 in
    (search rules, search rules, subst (Consumes _ _) (sym stands) (Consumes-trans _ _ _ _ _ l.invariant.2 read.bytes.0))

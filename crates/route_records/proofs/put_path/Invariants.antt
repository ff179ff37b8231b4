-- The invariant of `route_records::put_path`'s loop: the radios up to the middle of the last three have their records.
use lib.ListN.{length}
use Rattle.route_records.proofs.Laid.{Passed}
use Rattle.route_records.proofs.put_path.Given as goal

abbrev pub invariant-loop-near : goal.invariant-loop-near
invariant-loop-near l = Passed l.number l.path l.fn.records l.near-iterator.rest.now l.near-iterator.size (length l.yielded) l.records

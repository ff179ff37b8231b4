-- The invariant of `path_lists::are_sound`'s loop: the list is sound if the rest of its paths is, after what has been seen.
use Rattle.path_lists.proofs.Judged.{StillJudged}
use Rattle.path_lists.proofs.are_sound.Given as goal

abbrev pub invariant-loop : goal.invariant-loop
invariant-loop l = StillJudged l.ends.n l.ends.s l.ends.t l.list l.count l.seen l.rest l.counter

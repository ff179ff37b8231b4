-- What the bytes stand for: the halves that are entered.
use Rattle.std.specs.Prelude.{List, ℕ, eqb, get_or}
use Rattle.tokens.specs.Rules.{Entered}

-- a byte for each half: 1 if it is entered
abbrev pub entered_of : List ℕ → Entered
entered_of bytes h = eqb (get_or bytes h 0) 1

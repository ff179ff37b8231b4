-- What stands in a lent buffer: the used bytes at the front, and zeros after them.
use Rattle.std.specs.Prelude.{List, ◌++◌, ℕ, ◌-◌, length, replicate}

-- the used bytes at the front of a buffer, and 0 in all bytes past them
abbrev pub zeros_after : ℕ → List ℕ → List ℕ
zeros_after size used = used ++ replicate (size - length used) 0

-- What the counts of bytes promise. That the bytes are those of the input, no contract can say of the system's own; of a reader whose
-- bytes are known it is said.
use Rattle.std.specs.Prelude.{◌≡◌, ℕ, ◌≤◌, ◌<◌, List, length, take}
use Rattle.std.specs.declared.option.Option.{Option}
use Rattle.std.specs.Io.KnownBytes.{Consumes, IsAtEnd}

-- the first n bytes are there, and they are n
abbrev pub IsPrefixLen : ℕ → List ℕ → Type 0
IsPrefixLen n xs = (n ≤ length xs) × (n ≡ length (take n xs))

-- reading to the end: the bytes lie at the start of the buffer; of known bytes it took just those, and with room to spare there are
-- no more
pub record BringsAll (old new : Option (List ℕ)) (count : ℕ) (buffer : List ℕ) : Type 0 where
  pub within : IsPrefixLen count buffer
  pub taken : Consumes old new (take count buffer)
  pub to_the_end : count < length buffer → IsAtEnd new

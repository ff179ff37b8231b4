-- What the reading of the program promises of the bytes that it tells.
use Rattle.std.specs.Prelude.{ℕ, List, ◌≤◌, ◌<◌, length}
use Rattle.std.specs.declared.option.Option.{Option}
use Rattle.std.specs.Io.KnownBytes.{Consumes, IsAtEnd}

-- they lie in the room for them
abbrev pub Within : ℕ → List ℕ → Type 0
Within room text = length text ≤ room

-- they are all that there was, or fill the room: of known bytes it took just those, and with room to spare there are no more
pub record IsWhole (old new : Option (List ℕ)) (room : ℕ) (text : List ℕ) : Type 0 where
  pub taken : Consumes old new text
  pub to_the_end : length text < room → IsAtEnd new

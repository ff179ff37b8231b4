-- A set of radios as a number: the one definition that the contracts of this crate and of its callers cite.
use Rattle.std.specs.Prelude.{Bool, Option, Some, None, ℕ, ◌/◌, ◌%◌, ◌^◌, eqb}

-- is i in the set x: is x's binary digit i a 1?
unfoldable pub member : ℕ → ℕ → Bool
member i x = eqb (x / 2 ^ i % 2) 1

-- a radio's number; 64, which none has, where there is none
abbrev pub or_64 : Option ℕ → ℕ
or_64 None = 64
or_64 (Some v) = v

-- The map that 3/13 of document 02 is held against: the same one with its handhelds made ordinary.
use Rattle.std.specs.Prelude.{List, ℕ, zero, suc, ◌+◌, ◌*◌, set}
use Rattle.site.specs.Map.{Site}

-- the table with the own cell of each radio below v made 0
unfoldable pub own_cleared : ℕ → List ℕ → ℕ → List ℕ
own_cleared n table zero = table
own_cleared n table (suc v) = set (own_cleared n table v) (v * n + v) 0

abbrev pub made_ordinary : Site → Site
made_ordinary site = record { n = site.n; table = own_cleared site.n site.table site.n; S = site.S; T = site.T }

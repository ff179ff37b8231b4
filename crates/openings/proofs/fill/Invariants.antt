-- `openings::fill` meets its contract. The loop's invariant: the rows of the radios passed are filled. Assumes nothing.
use mathlib.Core.Path.{◌≡◌}
use Prim.Native.Nat.{◌*◌}
use Rattle.site.specs.Map.{Site}
use Rattle.radios.specs.Links.{RowsOfLinks, Passing}
use Rattle.openings.proofs.Start.{FilledTo}
use Rattle.openings.proofs.fill.Given as goal

abbrev pub invariant-loop-u : goal.invariant-loop-u
invariant-loop-u l = (site : Site) → site.n ≡ l.n → site.S ≡ l.s → site.T ≡ l.t → Passing site l.passing → RowsOfLinks site.table site.n l.links → FilledTo site l.rows (2 * l.u)

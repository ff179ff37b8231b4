-- What the theorems on runs ask of a map, in one record. Assumes nothing.
use mathlib.Core.Path.{◌≡◌}
use Prim.Native.Nat.{◌≤◌, ◌<◌}
use Rattle.site.specs.Limits.{most_radios}
use Rattle.site.specs.Map.{Site}
use Rattle.site.proofs.Formula.{Even}

pub record Valid (site : Site) : Type 0 where
  pub two_radios : 2 ≤ site.n
  pub few_radios : site.n ≤ most_radios
  pub even : Even site.table site.n
  pub S_below : site.S < site.n
  pub T_below : site.T < site.n
  pub ends_differ : site.S ≡ site.T → ⊥

-- What the contracts of the cut list ask of the path list that is read.
use Rattle.std.specs.Prelude.{◌≡◌, List, ℕ, ◌≤◌, ◌<◌, length}
use Rattle.basics.specs.Lists.{All}
use Rattle.site.specs.Limits.{most_radios}
use Rattle.site.specs.Map.{Site}
use Rattle.path_lists.specs.Bytes.{Holds}

-- the two ends of a site
pub record Ends (s t : ℕ) (site : Site) : Type 0 where
  pub source : site.S ≡ s
  pub sink : site.T ≡ t

-- each is the number of a radio, so it has two halves
abbrev pub AreRadios : List ℕ → Type 0
AreRadios path = All (λ v. v < most_radios) path

-- what the writer of the cut list asks: some paths of radios that the path list holds, and a byte for each
pub record Cuttable (list : List ℕ) (count : ℕ) (cut : List ℕ) : Type 0 where
  pub paths : List (List ℕ)
  pub held : Holds list count paths
  pub radios : All AreRadios paths
  pub room : count ≤ length cut

-- A map as sets of radios: the links of each radio, and the radios that pass on what they hear.
use Rattle.std.specs.Prelude.{◌≡◌, not, ◌&&◌, List, ℕ, ltb, get_or}
use Rattle.site.specs.Map.{Site, linked, handheld, passes}
use Rattle.radios.specs.Member.{member}

-- row u is the set of the radios that u is linked to
abbrev pub RowsOfLinks : List ℕ → ℕ → List ℕ → Type 0
RowsOfLinks table n rows = (u v : ℕ) → member v (get_or rows u 0) ≡ linked table n u v

-- the set holds the radios of the map that are no handhelds
abbrev pub Ordinary : List ℕ → ℕ → ℕ → Type 0
Ordinary table n set = (v : ℕ) → member v set ≡ (ltb v n && not (handheld table n v))

-- it holds those that may stand inside a path
abbrev pub Passing : Site → ℕ → Type 0
Passing site set = (v : ℕ) → member v set ≡ passes site v

-- The limits of document 01, each named once.
use Rattle.std.specs.Prelude.{ℕ}

-- a kit has at most 64 radios: a set of them is one 64-bit number
abbrev pub most_radios : ℕ
most_radios = 64

-- so many links keep the log of any run below 40,000 bytes
abbrev pub most_links : ℕ
most_links = 256

-- no sheet promises more paths than this
abbrev pub most_paths : ℕ
most_paths = 8

-- how a cut names the direct link between S and T: no radio has this number
abbrev pub direct_link : ℕ
direct_link = 255

-- The fixed words and signs of "The sheet", as bytes.
use Rattle.std.specs.Prelude.{List, [], ◌∷◌, ℕ}

abbrev pub tab : ℕ
tab = 9

abbrev pub line_feed : ℕ
line_feed = 10

abbrev pub net : List ℕ
net = 110 ∷ 101 ∷ 116 ∷ []

abbrev pub link : List ℕ
link = 108 ∷ 105 ∷ 110 ∷ 107 ∷ []

abbrev pub hand : List ℕ
hand = 104 ∷ 97 ∷ 110 ∷ 100 ∷ []

abbrev pub report : List ℕ
report = 114 ∷ 101 ∷ 112 ∷ 111 ∷ 114 ∷ 116 ∷ []

abbrev pub full : List ℕ
full = 102 ∷ 117 ∷ 108 ∷ 108 ∷ []

abbrev pub short : List ℕ
short = 115 ∷ 104 ∷ 111 ∷ 114 ∷ 116 ∷ []

abbrev pub path : List ℕ
path = 112 ∷ 97 ∷ 116 ∷ 104 ∷ []

abbrev pub cut : List ℕ
cut = 99 ∷ 117 ∷ 116 ∷ []

abbrev pub refused : List ℕ
refused = 114 ∷ 101 ∷ 102 ∷ 117 ∷ 115 ∷ 101 ∷ 100 ∷ []

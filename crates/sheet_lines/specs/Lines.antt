-- The lines of a sheet, as bytes: "The sheet" of document 01.
use Rattle.std.specs.Prelude.{Bool, cond, List, [], ◌∷◌, ◌++◌, ℕ, suc, eqb}
use Rattle.site.specs.Limits.{direct_link}
use Rattle.captures.specs.Words.{tab, line_feed, link, report, full, short, path, cut, refused}
use Rattle.captures.specs.Text.{decimal}

-- a field after a tab
abbrev pub field : List ℕ → List ℕ
field bytes = tab ∷ bytes

-- the end of a line
abbrev pub ended : List ℕ → List ℕ
ended rest = line_feed ∷ rest

unfoldable pub refused_line : ℕ → ℕ → List ℕ
refused_line number place = refused ++ (field (decimal number) ++ (field (decimal place) ++ ended []))

unfoldable pub report_line : ℕ → Bool → ℕ → ℕ → ℕ → List ℕ → List ℕ
report_line capture all paths rounds messages rest =
    report ++ (field (decimal capture) ++ (field (cond all full short) ++ (field (decimal paths) ++ (field (decimal rounds) ++ (field (decimal messages) ++ ended rest)))))

-- the radios of a path, each after a tab
unfoldable pub radio_fields : List ℕ → List ℕ → List ℕ
radio_fields [] rest = rest
radio_fields (radio ∷ radios) rest = field (decimal radio) ++ radio_fields radios rest

-- for each path its number, from this one on, and its radios
unfoldable pub path_lines : ℕ → List (List ℕ) → List ℕ → List ℕ
path_lines number [] rest = rest
path_lines number (radios ∷ paths) rest = path ++ (field (decimal number) ++ radio_fields radios (ended (path_lines (suc number) paths rest)))

-- a cut item is a radio, or the word link
abbrev pub item_word : ℕ → List ℕ
item_word item = cond (eqb item direct_link) link (decimal item)

unfoldable pub cut_lines : ℕ → List ℕ → List ℕ
cut_lines number [] = []
cut_lines number (item ∷ items) = cut ++ (field (decimal number) ++ (field (item_word item) ++ ended (cut_lines (suc number) items)))

-- The lines of a sheet one after the other. Assumes nothing.
use mathlib.Core.Path.{◌≡◌, refl, sym, ap, ◌∙◌}
use mathlib.Core.Bool.{Bool}
use mathlib.Core.List.{List, [], ◌∷◌, ◌++◌, append_assoc, append-nil}
use Prim.Native.Nat.{ℕ, suc, ◌+◌, ◌≤◌, ◌<◌}
use native.Mathlib.Numerals.{add-one}
use lib.ListN.{length, get_or, drop, drop_of_length-le}
use Rattle.std.proofs.lemmas.List.{drop_more, at_drop_more}
use Rattle.captures.specs.Words.{path}
use Rattle.captures.specs.Text.{decimal}
use Rattle.sheet_lines.proofs.Left.{Opens}
use Rattle.sheet_lines.specs.Lines.{field, ended, report_line, radio_fields, path_lines, cut_lines}

-- ---- a line, and what follows it

pub report-then : (capture : ℕ) (all : Bool) (paths rounds messages : ℕ) (rest : List ℕ) → report_line capture all paths rounds messages rest ≡ report_line capture all paths rounds messages [] ++ rest
unfolding report_line
report-then capture all paths rounds messages rest = simp append_assoc

pub radios_then : (radios rest : List ℕ) → radio_fields radios rest ≡ radio_fields radios [] ++ rest
unfolding radio_fields
radios_then [] rest = refl
radios_then (radio ∷ radios) rest = rw (radios_then radios rest) (simp append_assoc)

radios_ended : (radios rest : List ℕ) → radio_fields radios (ended rest) ≡ radio_fields radios (ended []) ++ rest
radios_ended radios rest = rw (radios_then radios (ended rest), radios_then radios (ended [])) (simp append_assoc)

-- the line of the first path, then those of the others
pub path-then : (number : ℕ) (radios : List ℕ) (paths : List (List ℕ)) (rest : List ℕ) → path_lines number (radios ∷ paths) rest ≡ path_lines number (radios ∷ []) [] ++ path_lines (suc number) paths rest
unfolding path_lines
path-then number radios paths rest = ap (λ (l : List ℕ). path ++ (field (decimal number) ++ l)) (radios_ended radios (path_lines (suc number) paths rest)) ∙ simp append_assoc

no_paths_then : (number : ℕ) (rest : List ℕ) → path_lines number [] rest ≡ rest
unfolding path_lines
no_paths_then number rest = refl

pub paths_then : (number : ℕ) (paths : List (List ℕ)) (rest : List ℕ) → path_lines number paths rest ≡ path_lines number paths [] ++ rest
paths_then number [] rest = rw (no_paths_then number rest, no_paths_then number [])
paths_then number (radios ∷ paths) rest = rw (path-then number radios paths rest, path-then number radios paths [], paths_then (suc number) paths rest) (simp append_assoc)

-- the line of the first item, then those of the others
pub item_then : (number item : ℕ) (items : List ℕ) → cut_lines number (item ∷ items) ≡ cut_lines number (item ∷ []) ++ cut_lines (suc number) items
unfolding cut_lines
item_then number item items = simp append_assoc

-- an accepted call's sheet is three writings one after the other
pub sheet-in-parts : (capture : ℕ) (all : Bool) (found rounds messages : ℕ) (paths : List (List ℕ)) (rest : List ℕ)
    → report_line capture all found rounds messages (path_lines 1 paths rest) ≡ report_line capture all found rounds messages [] ++ (path_lines 1 paths [] ++ rest)
sheet-in-parts capture all found rounds messages paths rest =
    report-then capture all found rounds messages (path_lines 1 paths rest) ∙ rw (paths_then 1 paths rest)

-- ---- the first of those that are left, and then the others

pub next_radio : (radios : List ℕ) (i : ℕ) (rest : List ℕ) → i < length radios → Opens (radio_fields (drop i radios) rest) (field (decimal (get_or radios i 0))) (radio_fields (drop (i + 1) radios) rest)
unfolding radio_fields
next_radio radios i rest h = record { parts = at_drop_more (λ l. radio_fields l rest) radios i 0 h }

pub no_radio : (radios : List ℕ) (i : ℕ) (rest : List ℕ) → length radios ≤ i → Opens (radio_fields (drop i radios) rest) rest []
unfolding radio_fields
no_radio radios i rest h = record { parts = ap (λ (l : List ℕ). radio_fields l rest) (drop_of_length-le radios h) ∙ sym (append-nil rest) }

pub next_path : (paths : List (List ℕ)) (i : ℕ) {radios : List ℕ} → i < length paths → radios ≡ get_or paths i []
    → Opens (path_lines (i + 1) (drop i paths) []) (path_lines (i + 1) (radios ∷ []) []) (path_lines (i + 1 + 1) (drop (i + 1) paths) [])
next_path paths i h is = record { parts = rw (drop_more paths i [] h, is, add-one (i + 1)) (path-then (i + 1) (get_or paths i []) (drop (i + 1) paths) []) }

pub no_path : (paths : List (List ℕ)) (i : ℕ) → length paths ≤ i → path_lines (i + 1) (drop i paths) [] ≡ []
no_path paths i h = rw (drop_of_length-le paths h) (no_paths_then (i + 1) [])

pub next_item : (items : List ℕ) (i : ℕ) → i < length items → Opens (cut_lines (i + 1) (drop i items)) (cut_lines (i + 1) (get_or items i 0 ∷ [])) (cut_lines (i + 1 + 1) (drop (i + 1) items))
next_item items i h = record { parts = rw (drop_more items i 0 h, add-one (i + 1)) (item_then (i + 1) (get_or items i 0) (drop (i + 1) items)) }

pub no_item : (items : List ℕ) (i : ℕ) → length items ≤ i → cut_lines (i + 1) (drop i items) ≡ []
unfolding cut_lines
no_item items i h = ap (cut_lines (i + 1)) (drop_of_length-le items h)

-- How long a sheet can be: a caller that lends 512 bytes always has room. Assumes nothing.
use mathlib.Core.Path.{subst}
use mathlib.Core.Bool.{Bool, true, false, cond}
use mathlib.Core.List.{List, [], ◌∷◌, ◌++◌}
use Prim.Native.Nat.{ℕ, zero, suc, ◌+◌, ◌*◌, ◌^◌, ◌≤◌, ◌<◌}
use native.Mathlib.Omega.{arith}
use mir.Syntax.{w8}
use mir.Val.{Fits}
use lib.Dec.{eqb}
use lib.ListN.{length, get_or, take, length-append}
use Rattle.basics.specs.Lists.{All}
use Rattle.site.specs.Limits.{direct_link}
use Rattle.captures.specs.Words.{full, short, link}
use Rattle.captures.specs.Text.{decimal}
use Rattle.path_lists.specs.Bytes.{path_bytes, Holds}
use Rattle.sheet_lines.specs.Lines.{field, ended, refused_line, report_line, radio_fields, path_lines, item_word, cut_lines}
use Rattle.sheet_lines.proofs.Numbers.{digits-below-100, digits-below-1000, digits-below-100000, digits_of_word}

-- each of the list has three digits at most, as every byte has
abbrev pub Small : List ℕ → Type 0
Small = All (λ (x : ℕ). x < 1000)

-- ---- each part, in front of what follows it

pub refused-fits : (number place : ℕ) → number < 100000 → place < 100000 → length (refused_line number place) ≤ 20
unfolding refused_line
refused-fits number place h k = simp length-append (omega (arith, digits-below-100000 number h, digits-below-100000 place k))

all_fits : (all : Bool) → length (cond all full short) ≤ 5
all_fits true = omega arith
all_fits false = omega arith

pub report-fits : (capture : ℕ) (all : Bool) (paths rounds messages : ℕ) (rest : List ℕ) → capture < 100000 → paths < 100000 → rounds < 100000 → messages < 100000
    → length (report_line capture all paths rounds messages rest) ≤ 37 + length rest
unfolding report_line
report-fits capture all paths rounds messages rest c p r m =
    simp length-append (omega (arith, all_fits all, digits-below-100000 capture c, digits-below-100000 paths p, digits-below-100000 rounds r, digits-below-100000 messages m))

radios_fit : (radios rest : List ℕ) → Small radios → length (radio_fields radios rest) ≤ 4 * length radios + length rest
unfolding radio_fields
radios_fit [] rest h = omega arith
radios_fit (radio ∷ radios) rest h = omega (arith, length-append (decimal radio) (radio_fields radios rest), digits-below-1000 radio h.0, radios_fit radios rest h.1)

-- with numbers below 100: four bytes for each path and four for each byte of the path list
pub paths_fit : (number : ℕ) (paths : List (List ℕ)) (rest : List ℕ) → number + length paths ≤ 100 → All Small paths
    → length (path_lines number paths rest) ≤ 4 * length paths + 4 * length (path_bytes paths) + length rest
unfolding path_lines path_bytes
paths_fit number [] rest h small = omega arith
paths_fit number (radios ∷ paths) rest h small =
    let others : List ℕ = path_lines (suc number) paths rest in
    omega (
      arith,
      length-append (decimal number) (radio_fields radios (ended others)),
      radios_fit radios (ended others) small.0,
      digits-below-100 number (omega arith),
      length-append radios (path_bytes paths),
      paths_fit (suc number) paths rest (omega arith) small.1,
    )

word_fits : (item : ℕ) → item < 1000 → length (item_word item) ≤ 4
word_fits item h = pick (eqb item direct_link)
  where
    pick : (direct : Bool) → length (cond direct link (decimal item)) ≤ 4
    pick true = omega arith
    pick false = omega (arith, digits-below-1000 item h)

-- with numbers below 100: twelve bytes for each item
pub cut_fits : (number : ℕ) (items : List ℕ) → number + length items ≤ 100 → Small items → length (cut_lines number items) ≤ 12 * length items
unfolding cut_lines
cut_fits number [] h small = omega arith
cut_fits number (item ∷ items) h small =
    let others : List ℕ = cut_lines (suc number) items in
    omega (
      arith,
      length-append (decimal number) (field (item_word item) ++ ended others),
      length-append (item_word item) (ended others),
      word_fits item small.0,
      digits-below-100 number (omega arith),
      cut_fits (suc number) items (omega arith) small.1,
    )

-- ---- one line alone, whatever numbers are on it

pub refused_alone : (number place : ℕ) → number < 2 ^ 64 → place < 2 ^ 64 → length (refused_line number place) ≤ 50
unfolding refused_line
refused_alone number place h k = simp length-append (omega (arith, digits_of_word number h, digits_of_word place k))

pub report_alone : (capture : ℕ) (all : Bool) (paths rounds messages : ℕ) → capture < 2 ^ 64 → paths < 2 ^ 64 → rounds < 2 ^ 64 → messages < 2 ^ 64
    → length (report_line capture all paths rounds messages []) ≤ 97
unfolding report_line
report_alone capture all paths rounds messages c p r m =
    simp length-append (omega (arith, all_fits all, digits_of_word capture c, digits_of_word paths p, digits_of_word rounds r, digits_of_word messages m))

-- a path of a list, whose number of radios is one byte
pub path_alone : (number : ℕ) (radios : List ℕ) → number < 2 ^ 64 → length radios ≤ 255 → Small radios → length (path_lines number (radios ∷ []) []) ≤ 1046
unfolding path_lines
path_alone number radios h few small =
    omega (arith, length-append (decimal number) (radio_fields radios (ended [])), radios_fit radios (ended []) small, digits_of_word number h)

pub item_alone : (number item : ℕ) → number < 2 ^ 64 → item < 1000 → length (cut_lines number (item ∷ [])) ≤ 30
unfolding cut_lines
item_alone number item h small =
    omega (arith, length-append (decimal number) (field (item_word item) ++ ended []), length-append (item_word item) (ended []), word_fits item small, digits_of_word number h)

-- ---- the whole sheet of an accepted call

-- what is known of such a call: numbers that a sheet can hold, 8 paths in a list of 86 bytes, 8 cut items
pub record Moderate (capture found rounds messages : ℕ) (paths : List (List ℕ)) (items : List ℕ) : Type 0 where
  pub capture_number : capture < 100000
  pub found_number : found < 100000
  pub round_number : rounds < 100000
  pub message_number : messages < 100000
  pub few_paths : length paths ≤ 8
  pub short_list : length (path_bytes paths) ≤ 86
  pub small_radios : All Small paths
  pub few_items : length items ≤ 8
  pub small_items : Small items

pub sheet-fits : (capture : ℕ) (all : Bool) (found rounds messages : ℕ) (paths : List (List ℕ)) (items : List ℕ) → Moderate capture found rounds messages paths items
    → length (report_line capture all found rounds messages (path_lines 1 paths (cut_lines 1 items))) ≤ 512
sheet-fits capture all found rounds messages paths items m =
    omega (
      arith,
      report-fits capture all found rounds messages (path_lines 1 paths (cut_lines 1 items)) m.capture_number m.found_number m.round_number m.message_number,
      paths_fit 1 paths (cut_lines 1 items) (omega (arith, m.few_paths)) m.small_radios,
      cut_fits 1 items (omega (arith, m.few_items)) m.small_items,
      m.few_paths,
      m.short_list,
      m.few_items,
    )

-- ---- what a caller knows of the lists that it lends

-- every byte is small
pub small_bytes : (list : List ℕ) → ((i : ℕ) → Fits w8 (get_or list i 0)) → Small list
small_bytes [] h = tt
small_bytes (x ∷ list) h = (omega (arith, h 0), small_bytes list (λ i. h (suc i)))

pub small_take : (n : ℕ) (list : List ℕ) → Small list → Small (take n list)
small_take zero list h = tt
small_take (suc n) [] h = tt
small_take (suc n) (x ∷ list) h = (h.0, small_take n list h.1)

small_apart : (list others : List ℕ) → Small (list ++ others) → Small list × Small others
small_apart [] others h = (tt, h)
small_apart (x ∷ list) others h = ((h.0, (small_apart list others h.1).0), (small_apart list others h.1).1)

small_radios_of : (paths : List (List ℕ)) → Small (path_bytes paths) → All Small paths
unfolding path_bytes
small_radios_of [] h = tt
small_radios_of (radios ∷ paths) h = ((small_apart radios (path_bytes paths) h.1).0, small_radios_of paths (small_apart radios (path_bytes paths) h.1).1)

pub small_paths : {list : List ℕ} {count : ℕ} {paths : List (List ℕ)} → Holds list count paths → Small list → All Small paths
small_paths {list} {count} {paths} p h = small_radios_of paths (subst Small p.bytes (small_take (length (path_bytes paths)) list h))

-- Reading is the inverse of writing: a text that was written says the numbers and the lines that it was written from. Assumes nothing.
use mathlib.Core.Path.{◌≡◌, refl, ap, ◌∙◌}
use mathlib.Core.Bool.{true, false, not}
use mathlib.Core.List.{List, [], ◌∷◌, ◌++◌, append_assoc, tail}
use Prim.Native.Nat.{ℕ, suc, ◌≤◌, ◌<◌}
use native.Mathlib.Omega.{arith}
use lib.Dec.{eqb, ltb}
use lib.ListN.{get_or}
use borrow.Author.Tests.{eq-eqb, ne_eqb, ltb-false, not-true}
use Rattle.std.specs.List.{All as EachOf}
use Rattle.std.proofs.Common.{None, Some, map}
use Rattle.std.proofs.lemmas.List.Elements.{All-nil, All-cons, All-append}
use Rattle.std.proofs.lemmas.List.Splits.{slice_split_at, slice_split_none}
use Rattle.basics.specs.Lists.{All}
use Rattle.basics.proofs.Bools.{and_left, and_right}
use Rattle.captures.specs.Words.{tab, line_feed, net, link, hand}
use Rattle.captures.specs.Text.{pieces, same, is_digit, all_digits, most_number, decimal}
use Rattle.captures.specs.Capture.{head_of, line_of, right_shape, wrong_line, lines_of}
use Rattle.captures.specs.declared.FirstLine.{FirstLine}
use Rattle.captures.specs.declared.Line.{Line}
use Rattle.captures.specs.declared.Line.TheVariants.{Link, Hand}
use Rattle.sheet_lines.specs.Lines.{field}
use Rattle.written.specs.Writing.{net_fields, line_fields, lines_text, capture_text}
use Rattle.written.specs.Reading.{Sayable, ReadBack}
use Rattle.written.proofs.Decimals.{decimal-digits, decimal-value, decimal-number}

-- ---- pieces without a separator

-- no byte is the separator
record Free (separator : ℕ) (bytes : List ℕ) : Type 0 where
  each : EachOf (λ x. eqb x separator ≡ false) bytes

none : {separator : ℕ} → Free separator []
none {separator} = record { each = All-nil (λ x. eqb x separator ≡ false) }

more : {separator : ℕ} (x : ℕ) {bytes : List ℕ} → (x ≡ separator → ⊥) → Free separator bytes → Free separator (x ∷ bytes)
more {separator} x {bytes} d f = record { each = All-cons (λ y. eqb y separator ≡ false) x bytes (ne_eqb x separator d) f.each }

free_append : {separator : ℕ} {front back : List ℕ} → Free separator front → Free separator back → Free separator (front ++ back)
free_append {separator} {front} {back} f g = record { each = All-append (λ x. eqb x separator ≡ false) front back f.each g.each }

digits-free : (separator : ℕ) → separator < 48 → (bytes : List ℕ) → all_digits bytes ≡ true → Free separator bytes
unfolding all_digits
digits-free separator low [] d = none
digits-free separator low (x ∷ bytes) d =
    let digit = and_left (is_digit x) (all_digits bytes) d in
    let high : 48 ≤ x = ltb-false x 48 (not-true (ltb x 48) (and_left (not (ltb x 48)) (ltb x 58) digit)) in
    more x (λ e. omega arith) (digits-free separator low bytes (and_right (is_digit x) (all_digits bytes) d))

free_decimal : (separator : ℕ) → separator < 48 → (x : ℕ) → Free separator (decimal x)
free_decimal separator low x = digits-free separator low (decimal x) (decimal-digits x)

piece_then : (separator : ℕ) (bytes rest : List ℕ) → Free separator bytes → pieces separator (bytes ++ (separator ∷ rest)) ≡ bytes ∷ pieces separator rest
unfolding pieces
piece_then separator bytes rest f = slice_split_at _ bytes separator rest f.each (eq-eqb separator separator refl)

piece_only : (separator : ℕ) (bytes : List ℕ) → Free separator bytes → pieces separator bytes ≡ bytes ∷ []
unfolding pieces
piece_only separator bytes f = slice_split_none _ bytes f.each

-- ---- one line

-- a number between two tabs, and the last one
number-then : (x : ℕ) (rest : List ℕ) (parts : List (List ℕ)) → pieces tab rest ≡ parts → pieces tab (decimal x ++ (tab ∷ rest)) ≡ decimal x ∷ parts
number-then x rest parts e = piece_then tab (decimal x) rest (free_decimal tab (omega arith) x) ∙ ap (λ (p : List (List ℕ)). decimal x ∷ p) e

number-only : (x : ℕ) → pieces tab (decimal x) ≡ decimal x ∷ []
number-only x = piece_only tab (decimal x) (free_decimal tab (omega arith) x)

-- a field has no line feed
field-free : (x : ℕ) → Free line_feed (field (decimal x))
field-free x = more tab (λ e. omega arith) (free_decimal line_feed (omega arith) x)

-- ---- the first line

net-free : (separator : ℕ) → separator < 48 → Free separator net
net-free separator low = more 110 (λ e. omega arith) (more 101 (λ e. omega arith) (more 116 (λ e. omega arith) none))

module _ (first : FirstLine) where
  net_parts : pieces tab (net_fields first) ≡ net ∷ decimal first.capture ∷ decimal first.n ∷ decimal first.s ∷ decimal first.t ∷ decimal first.k ∷ []
  net_parts =
      piece_then tab net _ (net-free tab (omega arith))
      ∙ ap (λ (p : List (List ℕ)). net ∷ p) (number-then first.capture _ _ (number-then first.n _ _ (number-then first.s _ _ (number-then first.t _ _ (number-only first.k)))))

  net_fields_free : Free line_feed (net_fields first)
  net_fields_free =
      free_append (net-free line_feed (omega arith))
      (free_append (field-free first.capture) (free_append (field-free first.n) (free_append (field-free first.s) (free_append (field-free first.t) (field-free first.k)))))

  head_back : first.capture ≤ most_number → first.n ≤ most_number → first.s ≤ most_number → first.t ≤ most_number → first.k ≤ most_number → head_of (net_fields first) ≡ Some first
  unfolding head_of same
  head_back a b c d e =
      rw (
        net_parts,
        decimal-number first.capture a,
        decimal-number first.n b,
        decimal-number first.s c,
        decimal-number first.t d,
        decimal-number first.k e,
        decimal-value first.capture,
        decimal-value first.n,
        decimal-value first.s,
        decimal-value first.t,
        decimal-value first.k,
      )

-- ---- the other lines

link-free : (separator : ℕ) → separator < 48 → Free separator link
link-free separator low =
    more 108 (λ e. omega arith) (more 105 (λ e. omega arith) (more 110 (λ e. omega arith) (more 107 (λ e. omega arith) none)))

hand-free : (separator : ℕ) → separator < 48 → Free separator hand
hand-free separator low =
    more 104 (λ e. omega arith) (more 97 (λ e. omega arith) (more 110 (λ e. omega arith) (more 100 (λ e. omega arith) none)))

line_fields_free : (line : Line) → Free line_feed (line_fields line)
line_fields_free (Hand v) = free_append (hand-free line_feed (omega arith)) (field-free v)
line_fields_free (Link u v) = free_append (link-free line_feed (omega arith)) (free_append (field-free u) (field-free v))

line_back : (line : Line) → Sayable line → line_of (line_fields line) ≡ Some line
unfolding line_of same
line_back (Hand v) small =
    let parts : pieces tab (line_fields (Hand v)) ≡ hand ∷ decimal v ∷ [] = piece_then tab hand _ (hand-free tab (omega arith)) ∙ ap (λ (p : List (List ℕ)). hand ∷ p) (number-only v) in
    rw (parts, decimal-number v small, decimal-value v)
line_back (Link u v) small =
    let parts : pieces tab (line_fields (Link u v)) ≡ link ∷ decimal u ∷ decimal v ∷ [] =
    piece_then tab link _ (link-free tab (omega arith)) ∙ ap (λ (p : List (List ℕ)). link ∷ p) (number-then u _ _ (number-only v))
    in
    rw (parts, decimal-number u small.0, decimal-number v small.1, decimal-value u, decimal-value v)

-- without their line feeds, and what stands after the last of them
line_pieces : List Line → List (List ℕ)
line_pieces [] = [] ∷ []
line_pieces (line ∷ lines) = line_fields line ∷ line_pieces lines

lines_parted : (lines : List Line) → pieces line_feed (lines_text lines) ≡ line_pieces lines
unfolding lines_text line_pieces pieces
lines_parted [] = refl
lines_parted (line ∷ lines) =
    ap (pieces line_feed) (append_assoc (line_fields line) (line_feed ∷ []) (lines_text lines)) ∙ piece_then line_feed (line_fields line) (lines_text lines) (line_fields_free line)
    ∙ ap (λ (p : List (List ℕ)). line_fields line ∷ p) (lines_parted lines)

-- there is a piece after each line
right_then : (number : ℕ) (first : List ℕ) (lines : List Line) → right_shape number first ≡ true → wrong_line number (first ∷ line_pieces lines) ≡ wrong_line (suc number) (line_pieces lines)
unfolding wrong_line line_pieces
right_then number first [] right = rw right
right_then number first (line ∷ lines) right = rw right

lines_right : (number : ℕ) (lines : List Line) → 1 < number → All Sayable lines → wrong_line number (line_pieces lines) ≡ None
unfolding wrong_line line_pieces
lines_right number [] p small = rw (ne_eqb number 1 (λ e. omega arith))
lines_right number (line ∷ lines) p small =
    right_then number (line_fields line) lines (rw (ne_eqb number 1 (λ e. omega arith), line_back line small.0))
    ∙ lines_right (suc number) lines (omega arith) small.1

-- a line each
said_then : (first : List ℕ) (lines : List Line) → lines_of (first ∷ line_pieces lines) ≡ line_of first ∷ lines_of (line_pieces lines)
unfolding lines_of line_pieces
said_then first [] = refl
said_then first (line ∷ lines) = refl

lines_back : (lines : List Line) → All Sayable lines → lines_of (line_pieces lines) ≡ map Some lines
unfolding lines_of line_pieces
lines_back [] small = refl
lines_back (line ∷ lines) small = said_then (line_fields line) lines ∙ rw (line_back line small.0, lines_back lines small.1)

-- ---- the whole text

pub read_back : (first : FirstLine) (lines : List Line) → first.capture ≤ most_number → first.n ≤ most_number → first.s ≤ most_number → first.t ≤ most_number → first.k ≤ most_number → All Sayable lines
    → ReadBack (capture_text first lines) first lines
read_back first lines a b c d e small =
    record {
      right-shape = ap (wrong_line 1) parted ∙ right_then 1 (net_fields first) lines (rw (head_back first a b c d e)) ∙ lines_right 2 lines (omega arith) small;
      head = ap (λ (p : List (List ℕ)). head_of (get_or p 0 [])) parted ∙ head_back first a b c d e;
      others = ap (λ (p : List (List ℕ)). lines_of (tail p)) parted ∙ lines_back lines small;
    }
  where
    parted : pieces line_feed (capture_text first lines) ≡ net_fields first ∷ line_pieces lines
    parted =
        ap (pieces line_feed) (append_assoc (net_fields first) (line_feed ∷ []) (lines_text lines))
        ∙ piece_then line_feed (net_fields first) (lines_text lines) (net_fields_free first)
        ∙ ap (λ (p : List (List ℕ)). net_fields first ∷ p) (lines_parted lines)

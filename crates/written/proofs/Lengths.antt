-- How long the text of a sound map is: one of at most 256 links always fits. Assumes nothing.
use mathlib.Core.Path.{◌≡◌, refl, ap, ◌∙◌}
use mathlib.Core.Bool.{Bool, true, false, not, ◌&&◌, cond}
use mathlib.Core.List.{List, [], ◌∷◌, ◌++◌}
use Prim.Native.Nat.{ℕ, zero, suc, ◌+◌, ◌*◌, ◌≤◌, ◌<◌}
use native.Mathlib.Decide.{dec_lt}
use native.Mathlib.Nat.{suc-mul}
use native.Mathlib.Omega.{arith}
use lib.Dec.{eqb, ltb}
use lib.ListN.{length, get_or, length-append}
use borrow.Author.Tests.{eq-eqb, ne_eqb, lt-ltb, le-ltb}
use Rattle.std.proofs.Common.{Option, None, Some, is_some}
use Rattle.std.specs.Prelude.{option_to_list}
use Rattle.basics.specs.Counting.{one_if, sum, count}
use Rattle.basics.specs.Lists.{All}
use Rattle.basics.proofs.Counting.{sum-ext, sum-add, count_most, count-only}
use Rattle.site.specs.Limits.{most_radios, most_links}
use Rattle.site.specs.Map.{linked, links, handheld}
use Rattle.captures.specs.Text.{most_number}
use Rattle.captures.specs.declared.FirstLine.{FirstLine}
use Rattle.captures.specs.declared.Line.{Line}
use Rattle.captures.specs.declared.Line.TheVariants.{Link, Hand}
use Rattle.captures.proofs.Cells.{Ordered}
use Rattle.sheet_lines.proofs.Numbers.{digits-below-100, digits-below-100000}
use Rattle.text_survey.specs.Survey.{most_bytes}
use Rattle.written.specs.Writing.{net_line, line_text, lines_text, capture_text, one_says, line_at, cell_lines, lines_in}
use Rattle.written.specs.Reading.{WritableMap}
use Rattle.basics.proofs.Places.{row_of, column_of}
use Rattle.written.proofs.MapBack.{lines_ordered}

-- ---- how many lines a table has

-- the cell at a place says something
abbrev says_at : ℕ → List ℕ → ℕ → Bool
says_at n table place = is_some (line_at n table place)

-- the lines from a place on, and those before it
lines_counted : (n : ℕ) (table : List ℕ) (place more : ℕ) → length (cell_lines n table place more) + count (says_at n table) place ≡ count (says_at n table) (place + more)
unfolding cell_lines sum
lines_counted n table place zero = let e : place ≡ place + 0 = omega arith in omega (arith, ap (count (says_at n table)) e)
lines_counted n table place (suc more) = go (line_at n table place) refl (lines_counted n table (suc place) more)
  where
    further : suc place + more ≡ place + suc more
    further = omega arith

    go : (said : Option Line) → line_at n table place ≡ said
        → length (cell_lines n table (suc place) more) + count (says_at n table) (suc place) ≡ count (says_at n table) (suc place + more)
        → length (option_to_list said ++ cell_lines n table (suc place) more) + count (says_at n table) place ≡ count (says_at n table) (place + suc more)
    go (Some line) e rest = omega (arith, rest, ap (λ (s : Option Line). one_if (is_some s)) e, ap (count (says_at n table)) further)
    go None e rest = omega (arith, rest, ap (λ (s : Option Line). one_if (is_some s)) e, ap (count (says_at n table)) further)

-- a sum over places is a sum over rows
sum-append : (f : ℕ → ℕ) (a b : ℕ) → sum f (a + b) ≡ sum (λ i. f (a + i)) b + sum f a
unfolding sum
sum-append f a zero = let e : a + 0 ≡ a = omega arith in ap (sum f) e ∙ omega arith
sum-append f a (suc b) = let e : a + suc b ≡ suc (a + b) = omega arith in ap (sum f) e ∙ omega (arith, sum-append f a b)

sum_rows : (f : ℕ → ℕ) (m n : ℕ) → sum f (m * n) ≡ sum (λ u. sum (λ v. f (u * n + v)) n) m
unfolding sum
sum_rows f zero n = let e : 0 * n ≡ 0 = omega arith in ap (sum f) e
sum_rows f (suc m) n = ap (sum f) (suc-mul m n) ∙ sum-append f (m * n) n ∙ ap (λ (x : ℕ). sum (λ v. f (m * n + v)) n + x) (sum_rows f m n)

-- the cell of row u and column v says something exactly if u is below v and they are linked, or if they are one radio and it is a handheld
says-at : (n : ℕ) (table : List ℕ) (u v : ℕ) → u < n → v < n → one_if (says_at n table (u * n + v)) ≡ one_if (ltb u v && linked table n u v) + one_if (eqb v u && handheld table n u)
unfolding linked handheld
says-at n table u v p q = rw (row_of n u v q, column_of n u v q, lt-ltb u n p, lt-ltb v n q) (go (dec_lt u v) (dec_lt v u))
  where
    a_link : (one : Bool) → one_if (is_some (cond one (Some (Link u v)) None)) ≡ one_if one + 0
    a_link true = refl
    a_link false = refl

    a_hand : (one : Bool) → one_if (is_some (cond one (Some (Hand u)) None)) ≡ 0 + one_if one
    a_hand true = refl
    a_hand false = refl

    nothing : (one : Bool) → one_if (is_some {T = Line} (cond one None None)) ≡ 0 + 0
    nothing true = refl
    nothing false = refl

    go : Dec (u < v) → Dec (v < u) → one_if (is_some (cond (eqb (get_or table (u * n + v) 0) 1) (one_says u v) None))
        ≡ one_if (ltb u v && (not (eqb u v) && eqb (get_or table (u * n + v) 0) 1)) + one_if (eqb v u && eqb (get_or table (u * n + u) 0) 1)
    go (yes l) d = rw (lt-ltb u v l, ne_eqb u v (λ e. omega arith), ne_eqb v u (λ e. omega arith)) (a_link (eqb (get_or table (u * n + v) 0) 1))
    go (no l) (yes m) = rw (le-ltb u v (omega arith), ne_eqb u v (λ e. omega arith), ne_eqb v u (λ e. omega arith)) (nothing (eqb (get_or table (u * n + v) 0) 1))
    go (no l) (no m) = let one : v ≡ u = omega arith in rw (one, le-ltb u u (omega arith), eq-eqb u u refl) (a_hand (eqb (get_or table (u * n + u) 0) 1))

-- a line for each link and one for each handheld
lines_number : (n : ℕ) (table : List ℕ) → length (lines_in n table) ≡ links table n + count (handheld table n) n
unfolding links sum
lines_number n table =
    let counted : length (lines_in n table) ≡ count (says_at n table) (0 + n * n) = omega (arith, lines_counted n table 0 (n * n)) in
    let whole : 0 + n * n ≡ n * n = omega arith in
    counted ∙ ap (count (says_at n table)) whole ∙ sum_rows (λ place. one_if (says_at n table place)) n n ∙ sum-ext _ (λ u. above u + one_if (handheld table n u)) n row
    ∙ sum-add above (λ u. one_if (handheld table n u)) n
  where
    above : ℕ → ℕ
    above u = count (λ v. ltb u v && linked table n u v) n

    row : (u : ℕ) → u < n → count (λ v. says_at n table (u * n + v)) n ≡ above u + one_if (handheld table n u)
    row u p =
        sum-ext (λ v. one_if (says_at n table (u * n + v))) (λ v. one_if (ltb u v && linked table n u v) + one_if (eqb v u && handheld table n u)) n (λ v q. says-at n table u v p q)
        ∙ sum-add (λ v. one_if (ltb u v && linked table n u v)) (λ v. one_if (eqb v u && handheld table n u)) n
        ∙ ap (λ (x : ℕ). above u + x) (count-only (handheld table n u) u n p)

-- ---- the lines are short

net-length : (first : FirstLine) → first.capture ≤ most_number → first.n ≤ most_number → first.s ≤ most_number → first.t ≤ most_number → first.k ≤ most_number → length (net_line first) ≤ 34
net-length first a b c d e =
    simp length-append
    (omega (
      arith,
      digits-below-100000 first.capture (omega arith),
      digits-below-100000 first.n (omega arith),
      digits-below-100000 first.s (omega arith),
      digits-below-100000 first.t (omega arith),
      digits-below-100000 first.k (omega arith),
    ))

-- a radio below 64 has at most two digits
line_length : (n : ℕ) (line : Line) → n ≤ most_radios → Ordered n (Some line) → length (line_text line) ≤ 11
line_length n (Hand v) few ord = simp length-append (omega (arith, digits-below-100 v (omega (arith, ord))))
line_length n (Link u v) few ord = simp length-append (omega (arith, digits-below-100 u (omega (arith, ord.0, ord.1)), digits-below-100 v (omega (arith, ord.1))))

lines_length : (n : ℕ) (lines : List Line) → n ≤ most_radios → All (λ line. Ordered n (Some line)) lines → length (lines_text lines) ≤ 11 * length lines
unfolding lines_text
lines_length n [] few ord = omega arith
lines_length n (line ∷ lines) few ord =
    omega (arith, length-append (line_text line) (lines_text lines), line_length n line few ord.0, lines_length n lines few ord.1)

-- ---- the text of a map

module _ (first : FirstLine) (table : List ℕ) (map : WritableMap first.n table) (a : first.capture ≤ most_number) (b : first.s ≤ most_number) (c : first.t ≤ most_number) (d : first.k ≤ most_number) where
  text_length : length (capture_text first (lines_in first.n table)) ≤ 34 + 11 * (links table first.n + first.n)
  text_length =
      omega (
        arith,
        length-append (net_line first) (lines_text (lines_in first.n table)),
        net-length first a (omega (arith, map.few_radios)) b c d,
        lines_length first.n (lines_in first.n table) map.few_radios (lines_ordered first.n table map),
        lines_number first.n table,
        count_most (handheld table first.n) first.n,
      )

  pub text_fits : links table first.n ≤ most_links → length (capture_text first (lines_in first.n table)) ≤ most_bytes
  text_fits few = omega (arith, text_length, map.few_radios)

-- "The map" of document 01: links, halves, steps and their number A.
use Rattle.std.specs.Prelude.{Bool, not, ◌&&◌, ◌||◌, List, ℕ, ◌+◌, ◌*◌, ◌/◌, ◌%◌, eqb, ltb, get_or}
use Rattle.basics.specs.Counting.{sum, count}

-- a map of n radios with the two ends of a survey
pub record Site : Type 0 where
  pub n : ℕ
  pub table : List ℕ
  pub S : ℕ
  pub T : ℕ

-- ---- links

-- u and v are two radios of the map, not one, whose cell u·n+v is 1
unfoldable pub linked : List ℕ → ℕ → ℕ → ℕ → Bool
linked table n u v = ltb u n && ltb v n && not (eqb u v) && eqb (get_or table (u * n + v) 0) 1

-- deg u: how many radios u is linked to
abbrev pub degree : List ℕ → ℕ → ℕ → ℕ
degree table n u = count (linked table n u) n

-- m: the number of links, each counted at its lower radio
unfoldable pub links : List ℕ → ℕ → ℕ
links table n = sum (λ u. count (λ v. ltb u v && linked table n u v) n) n

-- radio v's own cell is 1: it is a handheld, which does not pass on what it hears
unfoldable pub handheld : List ℕ → ℕ → ℕ → Bool
handheld table n v = eqb (get_or table (v * n + v) 0) 1

-- are radios u and v linked on this site?
abbrev pub linked_on : Site → ℕ → ℕ → Bool
linked_on site u v = linked site.table site.n u v

-- ---- halves

-- radio v has an in half, number 2v, and an out half, number 2v+1
abbrev pub in_half : ℕ → ℕ
in_half v = 2 * v

abbrev pub out_half : ℕ → ℕ
out_half v = 2 * v + 1

abbrev pub radio_of : ℕ → ℕ
radio_of h = h / 2

abbrev pub is_out : ℕ → Bool
is_out h = eqb (h % 2) 1

-- S has only its out half and T only its in half
unfoldable pub exists : Site → ℕ → Bool
exists site h = ltb (radio_of h) site.n && not (eqb h (in_half site.S)) && not (eqb h (out_half site.T))

-- ---- steps

-- every radio but S, T and the handhelds may stand inside a path
unfoldable pub passes : Site → ℕ → Bool
passes site v = ltb v site.n && not (eqb v site.S) && not (eqb v site.T) && not (handheld site.table site.n v)

-- from the in half to the out half of a radio that may stand inside a path
unfoldable pub inside_step : Site → ℕ → ℕ → Bool
inside_step site a b = not (is_out a) && eqb b (a + 1) && passes site (radio_of a)

-- for a link u, v from u's out half to v's in half, left out where a half does not exist
unfoldable pub link_step : Site → ℕ → ℕ → Bool
link_step site a b = is_out a && not (is_out b) && linked_on site (radio_of a) (radio_of b) && exists site a && exists site b

-- there is a step from half a to half b
unfoldable pub step : Site → ℕ → ℕ → Bool
step site a b = inside_step site a b || link_step site a b

-- A: the number of steps
unfoldable pub A : Site → ℕ
A site = sum (λ a. count (step site a) (2 * site.n)) (2 * site.n)

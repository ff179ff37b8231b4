-- A list that is read path by path holds exactly the paths that are read, and what stands after them does not matter. Assumes nothing.
use mathlib.Core.Path.{◌≡◌, refl, sym, ap, ◌∙◌, subst}
use mathlib.Core.Bool.{true, false≢true}
use mathlib.Core.List.{List, [], ◌∷◌, ◌++◌, append_assoc, nil≢cons, cons≢nil, head-eq_of_cons-eq, tail-eq_of_cons-eq}
use Prim.Native.Nat.{ℕ, zero, suc, ◌+◌, ◌≤◌}
use native.Mathlib.Omega.{arith}
use lib.Dec.{leb}
use Rattle.std.proofs.lemmas.List.{drop-take}
use lib.ListN.{length, take, drop, length-append, length-take, take-append-drop}
use lib.Seq.{length-take-le, drop-append_seam, take-append_seam, take-take, take-add}
use borrow.Author.Tests.{leb-true, le-leb}
use Rattle.basics.proofs.Bools.{and_left, and_right, both_ways}
use Rattle.path_lists.specs.Bytes.{path_bytes, Holds}
use Rattle.path_lists.specs.Reading.{readable, paths_read, list_end}

-- ---- what is held is read

-- so many paths can be read from the list, and these are they
abbrev Gives : ℕ → List ℕ → List (List ℕ) → Type 0
Gives count list paths = (readable count list ≡ true) × (paths_read count list ≡ paths)

-- paths are read from their own bytes, whatever follows
read_front : (paths : List (List ℕ)) (rest : List ℕ) → Gives (length paths) (path_bytes paths ++ rest) paths
unfolding path_bytes readable paths_read
read_front [] rest = (refl, refl)
read_front (path ∷ paths) rest =
    let room : length path ≤ length (path ++ (path_bytes paths ++ rest)) = omega (arith, length-append path (path_bytes paths ++ rest)) in
    rw (append_assoc path (path_bytes paths) rest, drop-append_seam path (path_bytes paths ++ rest), take-append_seam path (path_bytes paths ++ rest), le-leb _ _ room)
    ((read_front paths rest).0, ap (λ (later : List (List ℕ)). path ∷ later) (read_front paths rest).1)

pub read_held : (count : ℕ) (list : List ℕ) (paths : List (List ℕ)) → Holds list count paths → (readable count list ≡ true) × (paths_read count list ≡ paths)
read_held count list paths holds =
    let rest : List ℕ = drop (length (path_bytes paths)) list in
    let whole : path_bytes paths ++ rest ≡ list = ap (λ (front : List ℕ). front ++ rest) (sym holds.bytes) ∙ take-append-drop (length (path_bytes paths)) list in
    subst (λ (n : ℕ). Gives n list paths) holds.number (subst (λ (bytes : List ℕ). Gives (length paths) bytes paths) whole (read_front paths rest))

-- ---- what is read is held

pub held_read : (count : ℕ) (list : List ℕ) → readable count list ≡ true → Holds list count (paths_read count list)
unfolding path_bytes readable paths_read
held_read zero list h = record { number = refl; bytes = refl }
held_read (suc count) [] h = absurd (false≢true h)
held_read (suc count) (size ∷ list) h =
    let later : Holds (drop size list) count (paths_read count (drop size list)) = held_read count (drop size list) (and_right (leb size (length list)) _ h) in
    let bytes : List ℕ = path_bytes (paths_read count (drop size list)) in
    let size_is : length (take size list) ≡ size = length-take-le size list (leb-true _ _ (and_left _ _ h)) in
    record {
      number = ap suc later.number;
      bytes = rw (length-append (take size list) bytes, size_is, take-add size (length bytes) list, later.bytes) refl;
    }

-- ---- what stands after the last path

-- two lists with one front agree on the first part of it, and after that on the second
same_parts : (n m : ℕ) (list other : List ℕ) → take (n + m) other ≡ take (n + m) list → (take n other ≡ take n list) × (take m (drop n other) ≡ take m (drop n list))
same_parts n m list other same = (
  sym (take-take n (n + m) other (omega arith)) ∙ ap (take n) same ∙ take-take n (n + m) list (omega arith),
  sym (drop-take n m other) ∙ ap (drop n) same ∙ drop-take n m list,
)

-- a list is long enough if it has the front of one that is
has_room : (size : ℕ) (list other : List ℕ) → take size other ≡ take size list → leb size (length other) ≡ true → leb size (length list) ≡ true
has_room size list other same h = le-leb size (length list) (omega (arith, length-take-le size other (leb-true size (length other) h), ap length same, length-take size list))

-- two lists from which the same is read
abbrev SameRead : ℕ → List ℕ → List ℕ → Type 0
SameRead count list other = (readable count other ≡ readable count list) × (paths_read count other ≡ paths_read count list)

pub same-front : (count : ℕ) (list other : List ℕ) → take (list_end count list) other ≡ take (list_end count list) list
    → (readable count other ≡ readable count list) × (paths_read count other ≡ paths_read count list)
unfolding readable paths_read list_end
same-front zero list other same = (refl, refl)
same-front (suc count) [] other same = ends other same
  where
    ends : (other : List ℕ) → take 1 other ≡ [] → SameRead (suc count) [] other
    ends [] e = (refl, refl)
    ends (x ∷ other) e = absurd (cons≢nil e)
same-front (suc count) (size ∷ list) other same = goes other (subst (λ (n : ℕ). take n other ≡ take n (size ∷ list)) one_more same) (same-front count (drop size list))
  where
    later : ℕ
    later = list_end count (drop size list)

    one_more : 1 + size + later ≡ suc (size + later)
    one_more = omega arith

    goes : (other : List ℕ) → take (suc (size + later)) other ≡ size ∷ take (size + later) list
        → ((after : List ℕ) → take later after ≡ take later (drop size list) → SameRead count (drop size list) after) → SameRead (suc count) (size ∷ list) other
    goes [] e ih = absurd (nil≢cons e)
    goes (x ∷ other) e ih =
        let parts : (take size other ≡ take size list) × (take later (drop size other) ≡ take later (drop size list)) = same_parts size later list other (tail-eq_of_cons-eq e) in
        let room : leb size (length other) ≡ leb size (length list) = both_ways _ _ (has_room size list other parts.0) (has_room size other list (sym parts.0)) in
        let rest : SameRead count (drop size list) (drop size other) = ih (drop size other) parts.1 in
        rw (head-eq_of_cons-eq e, room, parts.0, rest.0, rest.1) (refl, refl)

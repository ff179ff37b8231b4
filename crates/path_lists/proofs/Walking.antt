-- A list that holds known paths, read path by path: what every loop over a path list leans on. Assumes nothing.
use mathlib.Core.Path.{◌≡◌, refl, sym, ap, ◌∙◌}
use mathlib.Core.List.{List, [], ◌∷◌, ◌++◌, append_assoc}
use Prim.Native.Nat.{ℕ, suc, ◌+◌, ◌≤◌, ◌<◌}
use native.Mathlib.Nat.{add-zero}
use native.Mathlib.Numerals.{add-one}
use native.Mathlib.Omega.{arith}
use lib.ListN.{length, get_or, take, drop, length-append, length-drop, take-append-drop}
use lib.Seq.{get_or-drop, drop-drop, take-append_seam, drop_at, drop-cons, take-suc}
use Rattle.path_lists.specs.Bytes.{path_bytes, Holds}
use Rattle.path_lists.specs.Reading.{Inside, path_at, path_place}
use Rattle.path_lists.proofs.Bytes.{path-bytes-append, one_path_bytes}

-- a list with these bytes at its front holds the paths
pub holds_front : (list : List ℕ) (paths : List (List ℕ)) (rest : List ℕ) → list ≡ path_bytes paths ++ rest → Holds list (length paths) paths
holds_front list paths rest e = record { number = refl; bytes = rw e (take-append_seam (path_bytes paths) rest) }

-- the first path stands at the front
pub at_front : (paths : List (List ℕ)) → 0 ≡ path_place paths 0
unfolding path_bytes
at_front paths = refl

-- path number i stands at this place, and the next one after it
pub record Stands (list : List ℕ) (paths : List (List ℕ)) (i at : ℕ) (path : List ℕ) : Type 0 where
  pub inside : at + 1 + length path ≤ length list
  pub radios : path ≡ get_or paths i []
  pub next : at + 1 + length path ≡ path_place paths (i + 1)

module _ {list : List ℕ} {count : ℕ} {paths : List (List ℕ)} (holds : Holds list count paths) (i at : ℕ) (below : i < count) (here : at ≡ path_place paths i) where
  abbrev path : List ℕ
  path = get_or paths i []

  abbrev after : List ℕ
  after = path_bytes (drop (suc i) paths) ++ drop (length (path_bytes paths)) list

  more : i < length paths
  more = omega (arith, holds.number)

  -- the list is cut at the path's place
  from_here : drop at list ≡ length path ∷ path ++ after
  unfolding path_bytes
  from_here =
      let parted : path_bytes paths ≡ path_bytes (take i paths) ++ path_bytes (drop i paths) = ap path_bytes (sym (take-append-drop i paths)) ∙ path-bytes-append (take i paths) (drop i paths) in
      let whole : list ≡ path_bytes (take i paths) ++ (path_bytes (drop i paths) ++ drop (length (path_bytes paths)) list) =
      sym (take-append-drop (length (path_bytes paths)) list) ∙ ap (λ (front : List ℕ). front ++ drop (length (path_bytes paths)) list) (holds.bytes ∙ parted) ∙ append_assoc (path_bytes (take i paths)) (path_bytes (drop i paths)) (drop (length (path_bytes paths)) list) in
      ap (drop at) whole ∙ drop_at (path_bytes (take i paths)) _ at (sym here) ∙ rw (drop-cons paths i [] more, append_assoc) refl

  counts : get_or list at 0 ≡ length path
  counts = ap (λ (n : ℕ). get_or list n 0) (sym (add-zero at)) ∙ sym (get_or-drop at list 0 0) ∙ ap (λ (front : List ℕ). get_or front 0 0) from_here

  past_count : drop (at + 1) list ≡ path ++ after
  past_count = sym (drop-drop 1 at list) ∙ ap (drop 1) from_here

  pub path_inside : Inside list at
  path_inside = omega (arith, counts, simp length-drop at (ap length from_here), simp length-append at (ap length past_count), length-drop (at + 1) list)

  pub path_stands : {read : List ℕ} → read ≡ path_at list at → Stands list paths i at read
  path_stands {read} is =
      let same : read ≡ path = is ∙ rw (counts, past_count) (take-append_seam path after) in
      let grown : path_place paths (i + 1) ≡ path_place paths i + suc (length path) =
      rw (add-one, take-suc paths i [] more, path-bytes-append, one_path_bytes) (length-append (path_bytes (take i paths)) (length path ∷ path)) in
      record {
        inside = omega (arith, path_inside, counts, ap length same);
        radios = same;
        next = omega (arith, grown, ap length same);
      }

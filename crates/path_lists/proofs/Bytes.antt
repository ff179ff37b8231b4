-- The bytes of a list of paths: those of two lists, and those of one path. Assumes nothing.
use mathlib.Core.Path.{◌≡◌, refl, ap}
use mathlib.Core.List.{List, [], ◌∷◌, ◌++◌, append_assoc, append-nil}
use Prim.Native.Nat.{ℕ}
use lib.ListN.{length}
use Rattle.path_lists.specs.Bytes.{path_bytes}

pub path-bytes-append : (paths others : List (List ℕ)) → path_bytes (paths ++ others) ≡ path_bytes paths ++ path_bytes others
unfolding path_bytes
path-bytes-append [] others = refl
path-bytes-append (path ∷ paths) others = rw (path-bytes-append paths others, append_assoc) refl

pub one_path_bytes : (path : List ℕ) → path_bytes (path ∷ []) ≡ length path ∷ path
unfolding path_bytes
one_path_bytes path = ap (λ (list : List ℕ). length path ∷ list) (append-nil path)

-- What stands at the start of a list after a part of it is written.
use Rattle.std.proofs.Common.{◌≡◌, ℕ, ◌+◌, ◌≤◌, List, ◌++◌, length, take, ap, sym, ◌∙◌, length-take-le}
use borrow.Rule.Slice.PartMut.{put_mid, post_of}
use lib.Seq.{take-append-add, take-append-le}

-- a bytes, and then the first n of those that the part from a on holds now
pub take_past : (a k n : ℕ) (xs ys : List ℕ) → a ≤ length xs → n ≤ length ys → take (a + n) (put_mid a k xs ys) ≡ take a xs ++ take n ys
take_past a k n xs ys within fits =
    let front = take a xs in
    ap (λ m. take (m + n) (front ++ (ys ++ post_of a k xs))) (sym (length-take-le a xs within)) ∙ take-append-add front (ys ++ post_of a k xs) n ∙ ap (λ l. front ++ l) (take-append-le n ys (post_of a k xs) fits)

-- Eight bytes, each 0 or 1, as the set of those that are 1: a product brings their digits side by side. Assumes nothing.
use mathlib.Core.Path.{◌≡◌, sym, ap, ◌∙◌}
use mathlib.Core.Bool.{Bool, ◌&&◌}
use mathlib.Core.List.{List}
use Prim.Native.Nat.{ℕ, zero, suc, ◌+◌, ◌*◌, ◌/◌, ◌%◌, ◌≤◌, ◌<◌}
use native.Mathlib.Omega.{arith}
use lib.Dec.{eqb, ltb, leb-suc-suc}
use lib.ListN.{get_or}
use borrow.Author.Tests.{lt-ltb, le-ltb}
use Rattle.radios.specs.Bytes.{Bits, is_one, spaced}
use Rattle.radios.specs.Member.{member}
use Rattle.radios.proofs.Laws.{member-empty, member-zero, member-suc}

-- the first k digits of f, the lowest first
unfoldable packed : (ℕ → ℕ) → ℕ → ℕ
packed f zero = 0
packed f (suc k) = f 0 + 2 * packed (λ i. f (suc i)) k

packed_member : (k : ℕ) (f : ℕ → ℕ) → ((i : ℕ) → f i ≤ 1) → (j : ℕ) → member j (packed f k) ≡ (ltb j k && eqb (f j) 1)
unfolding packed
packed_member zero f bits j = member-empty j ∙ sym (simp (le-ltb j 0 (omega arith)))
packed_member (suc k) f bits zero =
    let b = bits 0 in
    let low : (f 0 + 2 * packed (λ i. f (suc i)) k) % 2 ≡ f 0 = omega arith in
    member-zero (f 0 + 2 * packed (λ i. f (suc i)) k) ∙ ap (λ (x : ℕ). eqb x 1) low ∙ sym (simp (lt-ltb 0 (suc k) (omega arith)))
packed_member (suc k) f bits (suc j) =
    let b = bits 0 in
    let upper : (f 0 + 2 * packed (λ i. f (suc i)) k) / 2 ≡ packed (λ i. f (suc i)) k = omega arith in
    member-suc j (f 0 + 2 * packed (λ i. f (suc i)) k) ∙ ap (member j) upper ∙ packed_member k (λ i. f (suc i)) (λ i. bits (suc i)) j
    ∙ ap (λ (b : Bool). b && eqb (f (suc j)) 1) (sym (leb-suc-suc (suc j) k))

-- four numbers a byte apart
abbrev word : ℕ → ℕ → ℕ → ℕ → ℕ
word a b c d = a + 256 * b + 65536 * c + 16777216 * d

-- the digits from 24 to 31
middle : (high mid low : ℕ) → low < 16777216 → mid < 256 → (4294967296 * high + 16777216 * mid + low) / 16777216 % 256 ≡ mid
middle high mid low p q =
    let e : (4294967296 * high + 16777216 * mid + low) / 16777216 ≡ 256 * high + mid = omega arith in
    ap (λ (x : ℕ). x % 256) e ∙ omega arith

-- the product holds no sum of two equal powers of 2, so there is no carry
beside : (a b c d e f g h : ℕ) → a ≤ 1 → b ≤ 1 → c ≤ 1 → d ≤ 1 → e ≤ 1 → f ≤ 1 → g ≤ 1 → h ≤ 1
    → (word a b c d + 16 * word e f g h) * 16909320 / 16777216 % 256 ≡ a + 2 * (b + 2 * (c + 2 * (d + 2 * (e + 2 * (f + 2 * (g + 2 * (h + 2 * 0)))))))
beside a b c d e f g h pa pb pc pd pe pf pg ph =
    let high : ℕ = b + 258 * c + 66052 * d + 16 * f + 4128 * g + 1056832 * h in
    let mid : ℕ = a + 2 * (b + 2 * (c + 2 * (d + 2 * (e + 2 * (f + 2 * (g + 2 * (h + 2 * 0))))))) in
    let low : ℕ = 132104 * a + 264192 * b + 524288 * c + 2113664 * e + 4227072 * f + 8388608 * g in
    let whole : (word a b c d + 16 * word e f g h) * 16909320 ≡ 4294967296 * high + 16777216 * mid + low = omega arith in
    ap (λ (x : ℕ). x / 16777216 % 256) whole ∙ middle high mid low (omega arith) (omega arith)

-- so they are the eight bytes
module _ (bytes : List ℕ) (at first second : ℕ) (bits : Bits bytes) (one : first ≡ spaced bytes at) (two : second ≡ spaced bytes (at + 4)) where
  moved : (x i : ℕ) → x ≡ at + i → get_or bytes x 0 ≡ get_or bytes (at + i) 0
  moved x i e = ap (λ (y : ℕ). get_or bytes y 0) e

  words : first + 16 * second ≡ word (get_or bytes (at + 0) 0) (get_or bytes (at + 1) 0) (get_or bytes (at + 2) 0) (get_or bytes (at + 3) 0) + 16 * word (get_or bytes (at + 4) 0) (get_or bytes (at + 5) 0) (get_or bytes (at + 6) 0) (get_or bytes (at + 7) 0)
  words = omega (arith, moved at 0 (omega arith), moved (at + 4 + 1) 5 (omega arith), moved (at + 4 + 2) 6 (omega arith), moved (at + 4 + 3) 7 (omega arith))

  pub eight_members : (j : ℕ) → member j ((first + 16 * second) * 16909320 / 16777216 % 256) ≡ (ltb j 8 && is_one bytes (at + j))
  unfolding packed
  eight_members j =
      ap (λ (x : ℕ). member j (x * 16909320 / 16777216 % 256)) words
      ∙ ap (member j) (beside _ _ _ _ _ _ _ _ (bits (at + 0)) (bits (at + 1)) (bits (at + 2)) (bits (at + 3)) (bits (at + 4)) (bits (at + 5)) (bits (at + 6)) (bits (at + 7)))
      ∙ packed_member 8 (λ i. get_or bytes (at + i) 0) (λ i. bits (at + i)) j

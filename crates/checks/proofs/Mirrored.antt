-- The rows gathered one after another: what is known before each row, and what it comes to. Assumes nothing.
use mathlib.Core.Path.{◌≡◌, refl, sym, ap, ◌∙◌}
use mathlib.Core.Bool.{Bool, false}
use mathlib.Core.List.{List}
use Prim.Native.Nat.{ℕ, zero, suc, ◌+◌, ◌*◌, ◌≤◌, ◌<◌}
use native.Mathlib.Decide.{ℕ_discrete, dec_lt}
use native.Mathlib.Omega.{arith}
use lib.Dec.{eqb}
use Rattle.std.specs.Prelude.{Ok}
use lib.ListN.{length, get_or, replicate}
use Rattle.std.proofs.lemmas.List.{get_or_default, get_or-replicate, get_or_past, length-replicate}
use Rattle.site.specs.Limits.{most_radios}
use Rattle.basics.proofs.Bools.{clash}
use Rattle.radios.specs.Bytes.{Bits}
use Rattle.radios.specs.Member.{member}
use Rattle.radios.proofs.Laws.{member-empty}
use Rattle.site.specs.Map.{linked}
use Rattle.refusals.specs.Refusals.{finding}
use Rattle.checks.specs.Checked.{AgreeTo}
use Rattle.radios.specs.Links.{RowsOfLinks}
use Rattle.checks.proofs.Cells.{bad_in, not_bad, linked-apart, linked-itself, linked-outside}
use Rattle.checks.proofs.Scan.{found_none, sound_even}

-- v is in row u
abbrev pub in_rows : List ℕ → ℕ → ℕ → Bool
in_rows rows u v = member v (get_or rows u 0)

-- what is known before row i: the rows before it are the links, and a radio is in another's row where the other is in its row
pub record Mirrored (table : List ℕ) (n : ℕ) (rows : List ℕ) (i : ℕ) : Type 0 where
  pub whole : (u v : ℕ) → u < i → in_rows rows u v ≡ linked table n u v
  pub even : (u v : ℕ) → in_rows rows u v ≡ in_rows rows v u
  pub rest : (u v : ℕ) → i ≤ u → i ≤ v → in_rows rows u v ≡ false

-- before the first row, in empty rows
pub mirrored_none : (table : List ℕ) (n : ℕ) (rows : List ℕ) (none : ℕ) → none ≡ 0 → rows ≡ replicate most_radios none → Mirrored table n rows 0
mirrored_none table n rows none empty cleared =
    record {
      whole = λ u v l. absurd (omega arith);
      even = λ u v. none_in u v ∙ sym (none_in v u);
      rest = λ u v p q. none_in u v;
    }
  where
    all_empty : (u : ℕ) → Dec (u < most_radios) → get_or rows u 0 ≡ 0
    all_empty u (yes l) = rw (cleared, get_or-replicate most_radios u none 0 l) empty
    all_empty u (no l) = get_or_past rows u 0 (omega (arith, ap length cleared, length-replicate most_radios none))

    none_in : (u v : ℕ) → in_rows rows u v ≡ false
    none_in u v = ap (member v) (all_empty u (dec_lt u most_radios)) ∙ member-empty v

-- row i is gathered
module _ (table : List ℕ) (n i : ℕ) (rows : List ℕ) (row : ℕ) (inside : i < n) (m : Mirrored table n rows i)
    (row_is : (j : ℕ) → member j row ≡ linked table n i j) where
  -- in a sound table it agrees with what the rows before it said, whatever is read past the last row
  pub sound_agrees : (past : ℕ) → i < length rows → finding table n ≡ Ok tt → AgreeTo row (get_or rows i past) i
  sound_agrees past within sound j l = row_is j ∙ pick (ℕ_discrete i j) ∙ ap (member j) (get_or_default rows i 0 past within)
    where
      pick : Dec (i ≡ j) → linked table n i j ≡ member j (get_or rows i 0)
      pick (yes q) = linked-itself table n i j q ∙ sym (m.rest i j (omega arith) (omega arith))
      pick (no q) = sound_even table n sound i j ∙ sym (m.whole j i (omega arith)) ∙ m.even j i

-- ---- what it comes to

-- two bits are equal where both or neither are 1
same_bits : (x y : ℕ) → x ≤ 1 → y ≤ 1 → eqb x 1 ≡ eqb y 1 → x ≡ y
same_bits zero zero p q e = refl
same_bits zero (suc zero) p q e = clash e refl
same_bits (suc zero) zero p q e = clash refl e
same_bits (suc zero) (suc zero) p q e = refl
same_bits zero (suc (suc y)) p q e = absurd (omega arith)
same_bits (suc zero) (suc (suc y)) p q e = absurd (omega arith)
same_bits (suc (suc x)) y p q e = absurd (omega arith)

module _ (table : List ℕ) (n : ℕ) (rows : List ℕ) (bits : Bits table) (m : Mirrored table n rows n) where
  -- every cell is good
  no_bad : (a b : ℕ) → a < n → b < n → bad_in table n a b ≡ false
  no_bad a b p q =
      not_bad (a * n + b) (get_or table (a * n + b) 0) (get_or table (b * n + a) 0) (record { bit = bits (a * n + b); even = pick (ℕ_discrete a b) })
    where
      pick : Dec (a ≡ b) → get_or table (a * n + b) 0 ≡ get_or table (b * n + a) 0
      pick (yes e) = rw e refl
      pick (no d) =
          same_bits _ _ (bits (a * n + b)) (bits (b * n + a))
          (sym (linked-apart table n a b p q d) ∙ sym (m.whole a b p) ∙ m.even a b ∙ m.whole b a q ∙ linked-apart table n b a q p (λ e. d (sym e)))

  pub mirrored_sound : finding table n ≡ Ok tt
  mirrored_sound = found_none table n (λ a b p q l. no_bad a b (omega arith) q)

  pub mirrored_rows : RowsOfLinks table n rows
  mirrored_rows u v = pick (dec_lt u n) (dec_lt v n)
    where
      pick : Dec (u < n) → Dec (v < n) → in_rows rows u v ≡ linked table n u v
      pick (yes p) q = m.whole u v p
      pick (no p) (yes q) = m.even u v ∙ m.whole v u q ∙ linked-outside table n v u (λ a b. p b) ∙ sym (linked-outside table n u v (λ a b. p a))
      pick (no p) (no q) = m.rest u v (omega arith) (omega arith) ∙ sym (linked-outside table n u v (λ a b. p a))

-- The program lends enough, and makes its table itself: of the refusals of a call those that it makes meet only 4, 5 and 6. Assumes nothing.
use mathlib.Core.Path.{◌≡◌, refl, sym, ap, ◌∙◌}
use mathlib.Core.Bool.{Bool, true, false, ◌||◌, cond}
use mathlib.Core.List.{List, [], ◌∷◌, ◌++◌, Memᴰ}
use mathlib.Core.Logic.{◌⊎◌, inl, inr}
use Prim.Native.Nat.{ℕ, suc, ◌+◌, ◌*◌, ◌≤◌, ◌<◌}
use native.Mathlib.Nat.{mul-le-mul}
use native.Mathlib.Decide.{ℕ_discrete}
use native.Mathlib.Omega.{arith}
use lib.Dec.{eqb}
use lib.ListN.{get_or}
use borrow.Author.Tests.{eq-eqb, eqb-true}
use Rattle.std.proofs.Common.{Option, None, Some, is_some}
use Rattle.basics.specs.Lists.{All}
use Rattle.basics.proofs.Bools.{both_ways, or_left, or_right, or_cases}
use Rattle.basics.specs.Numbered.{Conditions, Gives, NoneHolds}
use Rattle.basics.proofs.Numbered.{gives_parts}
use Rattle.site.specs.Limits.{most_radios}
use Rattle.site.specs.Map.{A}
use Rattle.refusals.specs.Refusals.{Call, call_of, verdict, number}
use Rattle.refusals.specs.Conditions.{Fault, no_bit, mirror, FirstIs, map_conditions, pair_conditions, room_conditions, conditions}
use Rattle.site.proofs.Formula.{few_steps}
use Rattle.refusals.proofs.Exactly.{call_exact}
use Rattle.refusals.proofs.Accepted.{SoundMap, sound_map, GoodPair, good_pair}
use Rattle.outcome.specs.Leaves.{outcome}
use Rattle.captures.specs.Capture.{at_fault, fault_line, table_of}
use Rattle.captures.specs.declared.Line.{Line}
use Rattle.text_survey.specs.Survey.{log_lent, paths_lent, cut_lent}
use Rattle.captures.proofs.Cells.{is_cell, cell_of, mirror_of, Ordered, own_in, cells_are, mirror_in, mirror_back, good_ordered}
use Rattle.written.proofs.Tables.{in_cells, all_there, cell_in, cell-of, cell_record, table_of_long, table_of_cell}

-- ---- 3 and 13: the table of good lines has no bad cell

-- where no line is at fault all are in order
all_ordered : (n number : ℕ) (before lines : List (Option Line)) → fault_line n (suc number) before lines ≡ None → All (Ordered n) lines
unfolding fault_line
all_ordered n number before [] e = tt
all_ordered n number before (line ∷ lines) e = go (at_fault n before line) refl e (all_ordered n (suc number) (line ∷ before) lines)
  where
    go : (b : Bool) → at_fault n before line ≡ b → cond b (Some (suc number)) (fault_line n (suc (suc number)) (line ∷ before) lines) ≡ None
        → (fault_line n (suc (suc number)) (line ∷ before) lines ≡ None → All (Ordered n) lines) → Ordered n line × All (Ordered n) lines
    go true is z rest = absurd (cc)
    go false is z rest = (good_ordered n before line is, rest z)

-- the mirror of a line's cell is its cell too
cell_mirror : (n : ℕ) (line : Option Line) (place : ℕ) → 0 < n → Ordered n line → is_cell n place line ≡ true → is_cell n (mirror_of n place) line ≡ true
cell_mirror n line place some ord c = cells_are n line (mirror_of n place) is ord ∙ go (or_cases (eqb place own) (eqb place (mirror_of n own)) (sym (cells_are n line place is ord) ∙ c))
  where
    own : ℕ
    own = cell_of n line

    is : is_some line ≡ true
    is = cell_record n place line c

    go : (eqb place own ≡ true) ⊎ (eqb place (mirror_of n own) ≡ true) → (eqb (mirror_of n place) own || eqb (mirror_of n place) (mirror_of n own)) ≡ true
    go (inl e) = or_right (eqb (mirror_of n place) own) (eqb (mirror_of n place) (mirror_of n own)) (eq-eqb _ _ (ap (mirror_of n) (eqb-true _ _ e)))
    go (inr e) = or_left (eqb (mirror_of n place) own) (eqb (mirror_of n place) (mirror_of n own)) (eq-eqb _ _ (ap (mirror_of n) (eqb-true _ _ e) ∙ mirror_back n own (own_in n line is ord) some))

no_fault : (n : ℕ) (lines : List (Option Line)) → All (Ordered n) lines → 0 < n → (place : ℕ) → place < n * n → Fault (table_of n lines) n place → ⊥
no_fault n lines ord some place p = go (in_cells n place lines) refl
  where
    of : (line : Option Line) → Memᴰ line lines → Ordered n line
    of = all_there (Ordered n) lines ord

    mirror_too : (q : ℕ) → in_cells n q lines ≡ true → in_cells n (mirror_of n q) lines ≡ true
    mirror_too q c = let w = cell_in n q lines c in cell-of n (mirror_of n q) w.line lines w.there (cell_mirror n w.line q some (of w.line w.there) w.is)

    same : in_cells n place lines ≡ in_cells n (mirror_of n place) lines
    same = both_ways _ _ (mirror_too place) (λ c. ap (λ (x : ℕ). in_cells n x lines) (sym (mirror_back n place p some)) ∙ mirror_too (mirror_of n place) c)

    cell : (b : Bool) → in_cells n place lines ≡ b → get_or (table_of n lines) place 0 ≡ cond b 1 0
    cell b is = table_of_cell n lines place p ∙ ap (λ (x : Bool). cond x 1 0) is

    go : (b : Bool) → in_cells n place lines ≡ b → Fault (table_of n lines) n place → ⊥
    go true is (no_bit (zero, one)) = one (cell true is)
    go false is (no_bit (zero, one)) = zero (cell false is)
    go b is (mirror differ) = differ (cell b is ∙ sym (table_of_cell n lines (mirror_of n place) (mirror_in n place p some) ∙ ap (λ (x : Bool). cond x 1 0) (sym same ∙ is)))

-- ---- the refusals that are left

-- the call that `of_lines` makes, with the lent lengths
abbrev lent_call : ℕ → ℕ → ℕ → ℕ → List (Option Line) → Call
lent_call n S T k lines = call_of n (table_of n lines) S T k log_lent paths_lent cut_lent

-- `of_head` comes to it where refusals 1 and 11 are not against the text
module _ (n S T k : ℕ) (lines : List (Option Line)) (two : 2 ≤ n) (most : n ≤ most_radios) (good : fault_line n 2 [] lines ≡ None) where
  sound : (place : ℕ) → place < n * n → Fault (table_of n lines) n place → ⊥
  sound = no_fault n lines (all_ordered n 1 [] lines good) (omega arith)

  abbrev call : Call
  call = lent_call n S T k lines

  abbrev on-map : Conditions
  on-map = map_conditions (table_of n lines) n

  abbrev on-pair : Conditions
  on-pair = pair_conditions n S T k

  abbrev on_room : Conditions
  on_room = room_conditions n k (A call.site) log_lent paths_lent cut_lent

  given : (c : ℕ) → (c ≡ 0 → ⊥) → number (verdict call) ≡ c → Gives (conditions call) c
  given c some e = ((call_exact call).law.given c some).0 e

  -- no cell is the first at fault
  no_first : {c : ℕ} → (place : ℕ) × FirstIs (table_of n lines) n c place → ⊥
  no_first w = sound w.0 w.1.first.within w.1.first.fault

  -- no condition on the map holds but that it has too many links
  not_by_map : (c : ℕ) → Gives on-map c → c ≡ 4
  not_by_map c (inl (e, inl p)) = absurd (omega arith)
  not_by_map c (inl (e, inr p)) = absurd (omega arith)
  not_by_map c (inr (p₁, inl (e, p))) = absurd (p (table_of_long n lines))
  not_by_map c (inr (p₁, inr (p₂, inl (e, p)))) = absurd (no_first p)
  not_by_map c (inr (p₁, inr (p₂, inr (p₃, inl (e, p))))) = absurd (no_first p)
  not_by_map c (inr (p₁, inr (p₂, inr (p₃, inr (p₁₃, inl (e, p)))))) = e
  not_by_map c (inr (p₁, inr (p₂, inr (p₃, inr (p₁₃, inr (p₄, g)))))) = absurd g

  -- 17 · 574 messages of four bytes are the 39,032 lent
  not_by_room : (c : ℕ) → NoneHolds on-map → NoneHolds on-pair → Gives on_room c → ⊥
  not_by_room c map-sound pair-good given = go given
    where
      map : SoundMap (table_of n lines) n
      map = sound_map (table_of n lines) n map-sound

      pair : GoodPair n S T k
      pair = good_pair n S T k pair-good

      messages : (2 * k + 1) * A call.site ≤ 17 * 574
      messages =
          let steps = few_steps call.site pair.S_below pair.T_below pair.ends_differ map.even in
          mul-le-mul {n₂ = 17} {m₂ = 574} (omega (arith, pair.few_wanted)) (omega (arith, steps, map.few_links, map.few_radios))

      go : Gives on_room c → ⊥
      go (inl (e, p)) = omega (arith, messages, p)
      go (inr (p₇, inl (e, inl p))) = omega (arith, p, pair.few_wanted, map.few_radios)
      go (inr (p₇, inl (e, inr p))) = omega (arith, p, pair.few_wanted)
      go (inr (p₇, inr (p₈, g))) = g

  -- so a number that is given is 4, 5 or 6
  left : (c : ℕ) → Gives (conditions call) c → (c ≡ 4) ⊎ (c ≡ 5) ⊎ (c ≡ 6)
  left c g = go (gives_parts on-map (on-pair ++ on_room) c g)
    where
      by_pair : Gives on-pair c → (c ≡ 4) ⊎ (c ≡ 5) ⊎ (c ≡ 6)
      by_pair (inl own) = inr (inl own.0)
      by_pair (inr (p₅, inl own)) = inr (inr own.0)
      by_pair (inr (p₅, inr (p₆, none))) = absurd none

      later : NoneHolds on-map → Gives on-pair c ⊎ (NoneHolds on-pair × Gives on_room c) → (c ≡ 4) ⊎ (c ≡ 5) ⊎ (c ≡ 6)
      later map-sound (inl own) = by_pair own
      later map-sound (inr w) = absurd (not_by_room c map-sound w.0 w.1)

      go : Gives on-map c ⊎ (NoneHolds on-map × Gives (on-pair ++ on_room) c) → (c ≡ 4) ⊎ (c ≡ 5) ⊎ (c ≡ 6)
      go (inl own) = inl (not_by_map c own)
      go (inr w) = later w.0 (gives_parts on-pair on_room c w.1)

  pub lends_enough : let r = (outcome (call_of n (table_of n lines) S T k log_lent paths_lent cut_lent)).refusal in (r ≡ 0) ⊎ (r ≡ 4) ⊎ (r ≡ 5) ⊎ (r ≡ 6)
  unfolding outcome
  lends_enough = go (number (verdict call)) refl (ℕ_discrete (number (verdict call)) 0)
    where
      go : (c : ℕ) → number (verdict call) ≡ c → Dec (c ≡ 0) → (c ≡ 0) ⊎ (c ≡ 4) ⊎ (c ≡ 5) ⊎ (c ≡ 6)
      go c e (yes zero) = inl zero
      go c e (no some) = inr (left c (given c some e))

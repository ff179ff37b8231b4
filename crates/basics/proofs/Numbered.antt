-- The law of numbered conditions holds for every list that is put together of tests. Assumes nothing.
use mathlib.Core.Path.{◌≡◌, refl, sym, ◌∙◌}
use mathlib.Core.Bool.{Bool, true, false, cond, false≢true}
use mathlib.Core.List.{[], ◌∷◌, ◌++◌}
use mathlib.Core.Logic.{◌⊎◌, ◌↔◌, inl, inr}
use Prim.Native.Nat.{ℕ}
use native.Mathlib.Decide.{ℕ_discrete}
use lib.Dec.{eqb}
use borrow.Author.Tests.{eqb-true, eqb-false}
use Rattle.basics.specs.Numbered.{Conditions, Gives, NoneHolds, Lawful}
use Rattle.basics.proofs.Bools.{Tells}

-- ---- one list after another

pub none_both : (list next : Conditions) → NoneHolds list → NoneHolds next → NoneHolds (list ++ next)
none_both [] next p q = q
none_both (first ∷ rest) next p q = (p.0, none_both rest next p.1 q)

pub none_parts : (list next : Conditions) → NoneHolds (list ++ next) → NoneHolds list × NoneHolds next
none_parts [] next p = (tt, p)
none_parts (first ∷ rest) next p = let parts = none_parts rest next p.1 in ((p.0, parts.0), parts.1)

gives_first : (list next : Conditions) (c : ℕ) → Gives list c → Gives (list ++ next) c
gives_first [] next c g = absurd g
gives_first (first ∷ rest) next c (inl own) = inl own
gives_first (first ∷ rest) next c (inr later) = inr (later.0, gives_first rest next c later.1)

gives_next : (list next : Conditions) (c : ℕ) → NoneHolds list → Gives next c → Gives (list ++ next) c
gives_next [] next c none g = g
gives_next (first ∷ rest) next c none g = inr (none.0, gives_next rest next c none.1 g)

-- a number is given by the first list, or by the second where none of the first holds
pub gives_parts : (list next : Conditions) (c : ℕ) → Gives (list ++ next) c → Gives list c ⊎ (NoneHolds list × Gives next c)
gives_parts [] next c g = inr (tt, g)
gives_parts (first ∷ rest) next c (inl own) = inl (inl own)
gives_parts (first ∷ rest) next c (inr later) = go (gives_parts rest next c later.1)
  where
    go : Gives rest c ⊎ (NoneHolds rest × Gives next c) → Gives (first ∷ rest) c ⊎ (NoneHolds (first ∷ rest) × Gives next c)
    go (inl g) = inl (inr (later.0, g))
    go (inr p) = inr ((later.0, p.0), p.1)

-- ---- the law, for answers of any kind that have a number

module _ {Answer : Type 0} (number : Answer → ℕ) where
  -- no condition: an answer without a number
  pub law_none : (none : Answer) → number none ≡ 0 → Lawful number [] none
  law_none none zero = record { given = λ c apart. (λ e. absurd (apart (sym e ∙ zero)), λ g. absurd g); none = (λ e. tt, λ n. zero) }

  -- one condition more, told by a test, before the others: the answer v where it holds, else theirs
  pub law_first : (v : Answer) (b : Bool) {P : Type 0} {rest : Conditions} {w : Answer} → (number v ≡ 0 → ⊥) → Tells b P → Lawful number rest w → Lawful number ((number v, P) ∷ rest) (cond b v w)
  law_first v true {P} {rest} some tells others =
      record {
        given = λ c apart. (λ e. inl (sym e, tells.0 refl), own c);
        none = (λ e. absurd (some e), λ none-holds. absurd (none-holds.0 (tells.0 refl)));
      }
    where
      own : (c : ℕ) → Gives ((number v, P) ∷ rest) c → number v ≡ c
      own c (inl g) = sym g.0
      own c (inr g) = absurd (g.0 (tells.0 refl))
  law_first v false {P} {rest} {w} some tells others =
      record {
        given = λ c apart. (λ e. inr (not_so, (others.given c apart).0 e), theirs c apart);
        none = (λ e. (not_so, others.none.0 e), λ none-holds. others.none.1 none-holds.1);
      }
    where
      not_so : P → ⊥
      not_so p = false≢true (tells.1 p)

      theirs : (c : ℕ) → (c ≡ 0 → ⊥) → Gives ((number v, P) ∷ rest) c → number w ≡ c
      theirs c apart (inl g) = absurd (not_so g.1)
      theirs c apart (inr g) = (others.given c apart).1 g.1

  -- one condition by itself
  pub law_one : (v none : Answer) (b : Bool) {P : Type 0} → (number v ≡ 0 → ⊥) → number none ≡ 0 → Tells b P → Lawful number ((number v, P) ∷ []) (cond b v none)
  law_one v none b some zero tells = law_first v b some tells (law_none none zero)

  -- one list after another: the second's answer stands where the first's has no number
  pub law_after : {list next : Conditions} {v w : Answer} → Lawful number list v → Lawful number next w → Lawful number (list ++ next) (cond (eqb (number v) 0) w v)
  law_after {list} {next} {v} {w} first second = go (eqb (number v) 0) refl
    where
      go : (b : Bool) → eqb (number v) 0 ≡ b → Lawful number (list ++ next) (cond b w v)
      go true e =
          record {
            given = λ c apart. (λ told. gives_next list next c empty ((second.given c apart).0 told), λ g. from_next c apart (gives_parts list next c g));
            none = (λ told. none_both list next empty (second.none.0 told), λ none-holds. second.none.1 (none_parts list next none-holds).1);
          }
        where
          zero : number v ≡ 0
          zero = eqb-true (number v) 0 e

          empty : NoneHolds list
          empty = first.none.0 zero

          from_next : (c : ℕ) → (c ≡ 0 → ⊥) → Gives list c ⊎ (NoneHolds list × Gives next c) → number w ≡ c
          from_next c apart (inl g) = absurd (apart (sym ((first.given c apart).1 g) ∙ zero))
          from_next c apart (inr g) = (second.given c apart).1 g.1
      go false e =
          record {
            given = λ c apart. (λ told. gives_first list next c ((first.given c apart).0 told), λ g. from_first c apart (gives_parts list next c g));
            none = (λ told. absurd (some told), λ none-holds. absurd (some (first.none.1 (none_parts list next none-holds).0)));
          }
        where
          some : number v ≡ 0 → ⊥
          some = eqb-false (number v) 0 e

          from_first : (c : ℕ) → (c ≡ 0 → ⊥) → Gives list c ⊎ (NoneHolds list × Gives next c) → number v ≡ c
          from_first c apart (inl g) = (first.given c apart).1 g
          from_first c apart (inr g) = absurd (some (first.none.1 g.0))

  -- ---- conditions of which each holds exactly if the answer has its number

  abbrev pub Each : Answer → Conditions → Type 0
  Each v [] = Unit
  Each v (first ∷ rest) = (first.0 ≡ 0 → ⊥) × ((number v ≡ first.0) ↔ first.1) × Each v rest

  each_gives : (v : Answer) (list : Conditions) → Each v list → (NoneHolds list → number v ≡ 0) → (c : ℕ) → (c ≡ 0 → ⊥) → number v ≡ c → Gives list c
  each_gives v [] each left c apart told = absurd (apart (sym told ∙ left tt))
  each_gives v (first ∷ rest) (some, exact, each) left c apart told = go (ℕ_discrete c first.0) (λ none_here. each_gives v rest each (λ none-holds. left (none_here, none-holds)) c apart told)
    where
      go : Dec (c ≡ first.0) → ((first.1 → ⊥) → Gives rest c) → Gives (first ∷ rest) c
      go (yes e) others = inl (e, exact.0 (told ∙ e))
      go (no d) others = let none_here : first.1 → ⊥ = λ p. d (sym told ∙ exact.1 p) in inr (none_here, others none_here)

  each_given : (v : Answer) (list : Conditions) → Each v list → (c : ℕ) → Gives list c → number v ≡ c
  each_given v [] each c g = absurd g
  each_given v (first ∷ rest) (some, exact, each) c (inl g) = exact.1 g.1 ∙ sym g.0
  each_given v (first ∷ rest) (some, exact, each) c (inr g) = each_given v rest each c g.1

  each_none : (v : Answer) (list : Conditions) → Each v list → number v ≡ 0 → NoneHolds list
  each_none v [] each zero = tt
  each_none v (first ∷ rest) (some, exact, each) zero = (λ p. some (sym (exact.1 p) ∙ zero), each_none v rest each zero)

  pub law_each : (v : Answer) (list : Conditions) → Each v list → (NoneHolds list → number v ≡ 0) → Lawful number list v
  law_each v list each left = record { given = λ c apart. (each_gives v list each left c apart, each_given v list each c); none = (each_none v list each, left) }

-- The rest of a round from any of its states on, one message more before it, and the whole round. Assumes nothing.
use mathlib.Core.Path.{◌≡◌, refl, sym, ◌∙◌, fun_ext}
use mathlib.Core.List.{List, [], ◌∷◌}
use mathlib.Core.Logic.{◌⊎◌, inl, inr}
use Prim.Native.Nat.{ℕ, ◌+◌, ◌*◌, ◌≤◌, ◌<◌}
use native.Mathlib.Omega.{arith}
use lib.ListN.{length}
use Rattle.basics.specs.Counting.{one_if}
use Rattle.site.specs.Map.{A}
use Rattle.tokens.specs.declared.Message.{Message}
use Rattle.tokens.specs.Rules.{Plan, Notes, State, searching, won, sends, just_s, search, inner_step}
use Rattle.tokens.specs.Run.{notes_of}
use Rattle.menger.proofs.Network.{walkable}
use Rattle.routes.proofs.Trails.{network_of}
use Rattle.rounds.proofs.Shows.{Leads, in_round, tokens, token_to, Due, due_after, Answered, Won, Lost, Played}
use Rattle.rounds.proofs.Once.{Unsent}

module _ (plan : Plan) (notes : Notes) where
  -- the rest of a round that began with these notes, from a state in which these PDTs are left and these tokens not answered; it has at most so many messages
  pub record Rest (left : Unsent) (due : ℕ → ℕ → ℕ) (most : ℕ) (state : State) : Type 0 where
    pub log : List Message
    pub end : State
    pub leads : Leads plan state (in_round notes.round log) end
    pub few : length log ≤ most
    pub answered : Answered log due
    pub once : (x y : ℕ) → tokens x y log ≤ one_if (left x y)
    -- a lost round ends in a state that tells its notes, so that it is lost wherever it began
    pub result : Won plan notes end ⊎ ((start : State) (whole : List Message) → Lost plan start whole notes end)

  -- one message more, before the rest
  pub before :
      {left left' : Unsent} {due due' : ℕ → ℕ → ℕ} {most most' : ℕ} {state next : State} (m : Message)
      → inner_step plan state ≡ sends m next → notes.round ≡ (notes_of next).round
      → Due m.kind m.from m.to due → ((x y : ℕ) → due_after m.kind m.from m.to due x y ≡ due' x y)
      → ((x y : ℕ) → token_to x y m.kind m.from m.to + one_if (left' x y) ≤ one_if (left x y))
      → most' < most → Rest left' due' most' next → Rest left due most state
  before m step round owed due left most rest = record {
    log = m ∷ rest.log;
    end = rest.end;
    leads = (_, step, round, rest.leads);
    few = omega (arith, rest.few);
    answered = (owed, rw (fun_ext (λ x. fun_ext (due x))) rest.answered);
    once = λ x y. omega (arith, left x y, rest.once x y);
    result = rest.result;
  }

  -- ---- the whole round

  module _ (state : State) (same : inner_step plan state ≡ search plan notes (just_s plan.site)) where
    -- where nothing was sent, the round ends in the state that it began in
    at_once : Lost plan state [] notes (searching notes (just_s plan.site)) → Lost plan state [] notes state
    unfolding inner_step
    at_once lost = record {
      after = lost.after;
      gives_up = same ∙ lost.gives_up;
      same-round = lost.same-round;
      same_found = lost.same_found;
      same_marks = lost.same_marks;
      shut = lost.shut;
      told = inl (refl, refl, notes_stand lost.told);
    }
      where
        notes_stand : ((◌≡◌ {A = List Message} [] []) × (searching notes (just_s plan.site) ≡ state) × (lost.after ≡ notes)) ⊎ (notes ≡ lost.after) → lost.after ≡ notes
        notes_stand (inl t) = t.2
        notes_stand (inr t) = sym t

    begins_here :
        (log : List Message) (end : State) → Leads plan (searching notes (just_s plan.site)) (in_round notes.round log) end
        → Won plan notes end ⊎ ((start : State) (whole : List Message) → Lost plan start whole notes end)
        → (last : State) × Leads plan state (in_round notes.round log) last × (Won plan notes last ⊎ Lost plan state log notes last)
    unfolding inner_step
    begins_here [] end leads (inl w) =
        let start : searching notes (just_s plan.site) ≡ won w.after = leads ∙ w.is-won in
        let never : ◌≡◌ {A = ℕ} 0 1 = cc in
        absurd (omega arith)
    begins_here [] end leads (inr lost) = (state, refl, inr (at_once (rw leads (lost state []))))
    begins_here (m ∷ log) end leads (inl w) = (end, (leads.0, same ∙ leads.1, leads.2, leads.3), inl w)
    begins_here (m ∷ log) end leads (inr lost) = (end, (leads.0, same ∙ leads.1, leads.2, leads.3), inr (lost state (m ∷ log)))

    -- all of a round is the rest from S's search on, with every step that can be walked left and no token under way
    pub played : {most : ℕ} → most ≤ 2 * A plan.site → Rest (walkable (network_of plan.site) notes.marks) (λ x y. 0) most (searching notes (just_s plan.site)) → Played plan state notes
    played p rest =
        let from : (last : State) × Leads plan state (in_round notes.round rest.log) last × (Won plan notes last ⊎ Lost plan state rest.log notes last) = begins_here rest.log rest.end rest.leads rest.result in
        record {
          log = rest.log;
          end = from.0;
          leads = from.1;
          few = omega (arith, rest.few);
          answered = rest.answered;
          once = rest.once;
          result = from.2;
        }

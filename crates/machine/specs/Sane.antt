-- What holds of every state that a run comes to, as far as the code leans on it.
use Rattle.std.specs.Prelude.{◌≡◌, true, false, ℕ, suc, ◌+◌, ◌*◌, ◌≤◌, ◌<◌}
use Rattle.basics.specs.Counting.{count}
use Rattle.site.specs.Map.{Site, in_half, out_half, step}
pub use Rattle.openings.specs.Rows.{Joined}
use Rattle.tokens.specs.Rules.{Plan, Notes, Waiting, nobody, waits, State, searching, declining, granting, won, carrying}

-- half h was asked by the one that waits on top, and so on down to S's out half
abbrev pub DownToS : Site → ℕ → Waiting → Type 0
DownToS site h nobody = h ≡ out_half site.S
DownToS site h (waits asker place rest) = Joined site asker h × DownToS site asker rest

abbrev pub depth : Waiting → ℕ
depth nobody = 0
depth (waits h place rest) = suc (depth rest)

-- marks stand on steps only, entered halves are halves of the map, and the counts fit
pub record Kept (plan : Plan) (notes : Notes) : Type 0 where
  pub on_steps : (a b : ℕ) → notes.marks a b ≡ true → step plan.site a b ≡ true
  pub below : (h : ℕ) → notes.entered h ≡ true → h < 2 * plan.site.n
  pub few_rounds : notes.round ≤ plan.k
  pub few_found : notes.found ≤ plan.k

-- a round is under way, and no more halves wait than are entered
pub record Under (plan : Plan) (notes : Notes) (h : ℕ) (rest : Waiting) : Type 0 where
  pub kept : Kept plan notes
  pub numbered : plan.kept + notes.round ≡ suc notes.found
  pub fewer : notes.found < plan.k
  pub asked : DownToS plan.site h rest
  pub room : suc (depth rest) ≤ count notes.entered (2 * plan.site.n)

-- while a round searches T's in half has got no PDT
pub record Seeking (plan : Plan) (notes : Notes) (h : ℕ) (rest : Waiting) : Type 0 where
  pub under : Under plan notes h rest
  pub T_new : notes.entered (in_half plan.site.T) ≡ false

abbrev pub Sane : Plan → State → Type 0
Sane plan (searching notes nobody) = ⊥
Sane plan (searching notes (waits h place rest)) = Seeking plan notes h rest
Sane plan (declining y notes nobody) = ⊥
Sane plan (declining y notes (waits h place rest)) = Seeking plan notes h rest × (y < 2 * plan.site.n)
Sane plan (granting y notes nobody) = ⊥
Sane plan (granting y notes (waits h place rest)) = Under plan notes h rest × Joined plan.site h y
Sane plan (won notes) = Kept plan notes × (plan.kept + notes.round ≡ notes.found)
Sane plan (carrying v h notes) = Kept plan notes × (v < plan.site.n) × (h < 2 * plan.site.n) × (h ≡ out_half plan.site.T → ⊥)

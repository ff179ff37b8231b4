-- A text of which a part is left to be written. Assumes nothing.
use mathlib.Core.Path.{◌≡◌, sym, ap, ◌∙◌}
use mathlib.Core.List.{List, [], ◌++◌, append_assoc, append-nil}
use Prim.Native.Nat.{ℕ}
use native.Mathlib.Omega.{arith}
use lib.ListN.{length, length-append}
use Rattle.sheet_lines.specs.Room.{HasRoom}

-- with what is left, the sheet has the whole text behind what it had before
pub record Left (before text sheet left : List ℕ) : Type 0 where
  pub whole : sheet ++ left ≡ before ++ text

pub record Opens (left first rest : List ℕ) : Type 0 where
  pub parts : left ≡ first ++ rest

module _ {before text sheet left first rest : List ℕ} (l : Left before text sheet left) (o : Opens left first rest) where
  -- the first piece has room where the whole text had
  pub room_first : {size : ℕ} → HasRoom size before text → HasRoom size sheet first
  room_first room =
      omega (arith, ap length l.whole, ap length o.parts, length-append sheet left, length-append before text, length-append first rest)

  -- once it is written, the rest is left
  pub rest_left : {next : List ℕ} → next ≡ sheet ++ first → Left before text next rest
  rest_left w =
      record { whole = ap (λ (s : List ℕ). s ++ rest) w ∙ append_assoc sheet first rest ∙ ap (λ (s : List ℕ). sheet ++ s) (sym o.parts) ∙ l.whole }

pub none_left : {before text sheet left : List ℕ} → Left before text sheet left → left ≡ [] → sheet ≡ before ++ text
none_left {sheet = sheet} l e = sym (append-nil sheet) ∙ ap (λ (s : List ℕ). sheet ++ s) (sym e) ∙ l.whole

-- Writings into a lent buffer, one after the other: the room for each, and what they are together. Assumes nothing.
use mathlib.Core.Path.{◌≡◌, refl, sym, ap, ap₂, ◌∙◌, subst}
use mathlib.Core.List.{List, [], ◌++◌, append_assoc, append-nil}
use Prim.Native.Nat.{ℕ, ◌+◌, ◌-◌, ◌≤◌}
use native.Mathlib.Nat.{add-zero}
use native.Mathlib.Omega.{arith}
use borrow.Rule.Slice.PartMut.{put_mid}
use lib.ListN.{length, take, drop, length-append, length-drop, take-append-drop}
use lib.Seq.{length-take-le, take_at, drop_at, drop-drop}
use Rattle.sheet_lines.specs.Room.{HasRoom}
use Rattle.sheet_lines.specs.Written.{Written}
use Rattle.sheet_lines.proofs.Left.{Opens}

-- what stands up to the end of the bytes
front : {before after : List ℕ} {at : ℕ} {bytes : List ℕ} {next : ℕ} → Written before after at bytes next → length (take at before ++ bytes) ≡ next
front {before} {after} {at} {bytes} {next} w = length-append (take at before) bytes ∙ ap (λ (n : ℕ). n + length bytes) (length-take-le at before (omega arith)) ∙ sym w.ends

-- a buffer keeps its length
pub kept : {before after : List ℕ} {at : ℕ} {bytes : List ℕ} {next : ℕ} → Written before after at bytes next → length after ≡ length before
kept {before} {after} {at} {bytes} {next} w =
    ap length w.left ∙ length-append (take at before ++ bytes) (drop next before) ∙ omega (arith, front w, length-drop next before)

-- nothing written
pub nothing : (before : List ℕ) (at : ℕ) → at ≤ length before → Written before before at [] at
nothing before at h =
    record { ends = sym (add-zero at); room = h; left = sym (ap (λ (l : List ℕ). l ++ drop at before) (append-nil (take at before)) ∙ take-append-drop at before) }

-- bytes copied to their place
pub copied : (before : List ℕ) {part bytes : List ℕ} (at next : ℕ) → part ≡ bytes → next ≡ at + length bytes → next ≤ length before → Written before (put_mid at (next - at) before part) at bytes next
copied before {part} {bytes} at next is ends room =
    let rest : drop (next - at) (drop at before) ≡ drop next before = drop-drop (next - at) at before ∙ ap (λ (n : ℕ). drop n before) (omega arith) in
    record {
      ends = ends;
      room = room;
      left = ap₂ (λ (l r : List ℕ). take at before ++ (l ++ r)) is rest ∙ sym (append_assoc (take at before) bytes (drop next before));
    }

-- what stands before the end of the bytes, and what behind it
ahead : {before after : List ℕ} {at : ℕ} {bytes : List ℕ} {next : ℕ} → Written before after at bytes next → take next after ≡ take at before ++ bytes
ahead {before} {after} {at} {bytes} {next} w = ap (take next) w.left ∙ take_at (take at before ++ bytes) (drop next before) next (front w)

behind : {before after : List ℕ} {at : ℕ} {bytes : List ℕ} {next : ℕ} → Written before after at bytes next → (more : ℕ) → drop (next + more) after ≡ drop (next + more) before
behind {before} {after} {at} {bytes} {next} w more =
    let same : drop next after ≡ drop next before = ap (drop next) w.left ∙ drop_at (take at before ++ bytes) (drop next before) next (front w) in
    sym (drop-drop more next after) ∙ ap (drop more) same ∙ drop-drop more next before

-- two writings one after the other are a writing of the two texts together
pub join : {a b c : List ℕ} {at : ℕ} {x : List ℕ} {middle : ℕ} {y : List ℕ} {next : ℕ} → Written a b at x middle → Written b c middle y next → Written a c at (x ++ y) next
join {a} {b} {c} {at} {x} {middle} {y} {next} w v =
    let rest : drop next b ≡ drop next a = rw v.ends (behind w (length y)) in
    record {
      ends = omega (arith, length-append x y);
      room = omega (arith, kept w);
      left = v.left ∙ ap₂ (λ (l r : List ℕ). l ++ y ++ r) (ahead w) rest ∙ ap (λ (l : List ℕ). l ++ drop next a) (append_assoc (take at a) x y);
    }

-- room for two texts is room for the first
pub room_first : (at : ℕ) (x y : List ℕ) {size : ℕ} → at + length (x ++ y) ≤ size → at + length x ≤ size
room_first at x y h = omega (arith, length-append x y)

-- and once the first is written, room for the second
pub room_then : {a b : List ℕ} {at : ℕ} {x : List ℕ} {middle : ℕ} → Written a b at x middle → (y : List ℕ) → at + length (x ++ y) ≤ length a → middle + length y ≤ length b
room_then {x = x} w y h = omega (arith, length-append x y, kept w)

-- what is written from the start of a buffer is what its used bytes are
pub used : {before after bytes : List ℕ} {next : ℕ} → Written before after 0 bytes next → take next after ≡ bytes
used w = ahead w

-- ---- a text of which a part is left to be written

-- what is done stands in the buffer from `at` up to `next`
pub record PartWritten (before after : List ℕ) (at : ℕ) (whole left : List ℕ) (next : ℕ) : Type 0 where
  pub done : List ℕ
  pub written : Written before after at done next
  pub together : done ++ left ≡ whole

pub partly_none : (before : List ℕ) (at : ℕ) (whole : List ℕ) → at ≤ length before → PartWritten before before at whole whole at
partly_none before at whole h = record { done = []; written = nothing before at h; together = refl }

-- the room for what is left
pub partly_room : {before after : List ℕ} {at : ℕ} {whole left : List ℕ} {next : ℕ} → PartWritten before after at whole left next → at + length whole ≤ length before → next + length left ≤ length after
partly_room {before} {after} {at} {whole} {left} p h = room_then p.written left (rw p.together h)

pub partly_more : {before middle after : List ℕ} {at : ℕ} {whole left : List ℕ} {next : ℕ} {bytes : List ℕ} {last : ℕ} (rest : List ℕ) → PartWritten before middle at whole left next → left ≡ bytes ++ rest
    → Written middle after next bytes last → PartWritten before after at whole rest last
partly_more {bytes = bytes} rest p e w =
    record { done = p.done ++ bytes; written = join p.written w; together = append_assoc p.done bytes rest ∙ ap (λ (l : List ℕ). p.done ++ l) (sym e) ∙ p.together }

pub partly_all : {before after : List ℕ} {at : ℕ} {whole left : List ℕ} {next : ℕ} → PartWritten before after at whole left next → left ≡ [] → Written before after at whole next
partly_all {before} {after} {at} {whole} {left} {next} p e =
    subst (λ (l : List ℕ). Written before after at l next) (sym (append-nil p.done) ∙ ap (λ (l : List ℕ). p.done ++ l) (sym e) ∙ p.together) p.written

-- ---- a line on a sheet of its own, and then in the buffer

-- an empty sheet that has room for the line
pub has_room : {blank : List ℕ} {room : ℕ} → blank ≡ [] → (line : List ℕ) → length line ≤ room → HasRoom room blank line
has_room none line fits = omega (arith, ap length none)

module _ {blank sheet line : List ℕ} (none : blank ≡ []) (is : sheet ≡ blank ++ line) where
  -- nothing else stands on the sheet
  pub alone : sheet ≡ line
  alone = rw none at is

  -- so its copy is the line
  pub line_written : {before after : List ℕ} {at next : ℕ} → Written before after at sheet next → Written before after at line next
  line_written {before} {after} {at} {next} w = subst (λ (l : List ℕ). Written before after at l next) alone w

  module _ {before after : List ℕ} {at : ℕ} {whole left rest : List ℕ} {next : ℕ} (p : PartWritten before after at whole left next) (o : Opens left line rest) where
    -- where the whole text had room, the next line has
    pub line_room : at + length whole ≤ length before → next + length sheet ≤ length after
    line_room room = omega (arith, partly_room p room, ap length o.parts, length-append line rest, ap length alone)

    -- and once it is written, the rest is left
    pub line_more : {later : List ℕ} {last : ℕ} → Written after later next sheet last → PartWritten before later at whole rest last
    line_more w = partly_more rest p o.parts (line_written w)

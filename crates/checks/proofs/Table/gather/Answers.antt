-- `checks::Table::gather` meets its contract. Assumes nothing.
use mathlib.Core.Path.{◌≡◌, refl}
use mathlib.Core.Bool.{false, false≢true}
use mathlib.Core.List.{List}
use Prim.Native.Nat.{ℕ}
use native.Mathlib.Omega.{arith}
use Rattle.std.proofs.Common.{rules}
use Rattle.std.specs.Prelude.{Ok}
use Rattle.basics.proofs.Bools.{clash}
use Rattle.refusals.specs.Refusals.{finding}
use Rattle.checks.specs.Checked.{Gathered}
use Rattle.checks.proofs.Scan.{sound_bits}
use Rattle.checks.proofs.Mirrored.{mirrored_none, sound_agrees, mirrored_sound, mirrored_rows}
use Rattle.checks.proofs.Table.gather.Goals as goal

-- of a table that is not sound the rows tell nothing
not_sound : {table : List ℕ} {n : ℕ} {rows : List ℕ} → (finding table n ≡ Ok tt → ⊥) → Gathered table n rows false
not_sound faulty = record { told = (λ e. absurd (false≢true e), λ sound. absurd (faulty sound)); rows_are = λ e. absurd (false≢true e) }

pub returns-then-not-all_bits : goal.returns-then-not-all_bits
returns-then-not-all_bits c =
    not_sound (λ sound. clash (c.all_bits.ensures.1 (sound_bits c.args.self.cells.now c.args.self.n c.args.self.square.1 sound)) c.if-not-all_bits.true)

pub loop-i-init : goal.loop-i-init
loop-i-init c = (omega arith, mirrored_none _ _ _ _ c.none.ensures (search rules))

pub returns-then-not-agree_to : goal.returns-then-not-agree_to
returns-then-not-agree_to c =
    let agree = sound_agrees c.args.self.cells.now c.args.self.n c.loop-i.i c.loop-i.rows c.row_of-row.result c.loop-i-test.true c.loop-i.invariant.1 c.row_of-row.ensures _ (omega arith) in
    not_sound (λ sound. clash (c.agree_to.ensures.1 (agree sound)) c.if-not-agree_to.true)

pub returns : goal.returns
returns c =
    let end : c.loop-i.i ≡ c.args.self.n = omega arith in
    let mirrored = rw end at c.loop-i.invariant.1 in
    let bits = c.all_bits.ensures.0 c.if-not-all_bits.false in
    record { told = (λ t. mirrored_sound c.args.self.cells.now c.args.self.n c.loop-i.rows bits mirrored, λ sound. refl); rows_are = λ t. mirrored_rows c.args.self.cells.now c.args.self.n c.loop-i.rows bits mirrored }

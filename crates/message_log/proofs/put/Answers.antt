-- `message_log::put` meets its contract. Assumes nothing.
use mathlib.Core.Path.{◌≡◌, refl}
use Prim.Native.Nat.{◌+◌}
use denote.Enum.Declared.{tag_of}
use Rattle.tokens.specs.declared.Kind.{Kind}
use Rattle.tokens.specs.declared.Kind.TheVariants.{Pdt, PdtB, Pmt, Done}
use Rattle.tokens.specs.contracts.Kind.{the_type}
use Rattle.message_log.specs.Bytes.{kind_number}
use Rattle.message_log.proofs.Stores.{stored_appends}
use Rattle.message_log.proofs.put.Goals as goal

-- a kind's number is the one that its variant has in the code
numbered : (kind : Kind) → tag_of the_type kind + 1 ≡ kind_number kind
numbered Pdt = refl
numbered PdtB = refl
numbered Pmt = refl
numbered Done = refl

pub returns : goal.returns
returns c = rw (numbered c.args.message.kind) (stored_appends _ _ (record { message = c.args.message; round = c.args.round }) c.requires.room)

-- `machine::declines` meets its contract. Assumes nothing.
use mathlib.Core.Path.{refl}
use Rattle.machine.proofs.Replies.{declining_replies}
use Rattle.machine.proofs.declines.Goals as goal

pub returns : goal.returns
returns c = λ task links board plan place ready. declining_replies ready c.requires c.sent.result _ _ refl c.sent.ensures

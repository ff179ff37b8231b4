-- `openings::turn` meets its contract. Assumes nothing.
use Rattle.openings.proofs.Turns.{turned}
use Rattle.openings.proofs.turn.Goals as goal

pub returns : goal.returns
returns c = λ site marks joined. turned site _ _ joined c.args.rows.now c.toggle.new.rows c.toggle-2.new.rows c.toggle.ensures c.toggle-2.ensures marks

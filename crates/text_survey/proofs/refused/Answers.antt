-- `text_survey::refused` meets its contract. Assumes nothing.
use mathlib.Core.Path.{◌≡◌}
use lib.ListN.{length, replicate}
use Rattle.std.proofs.Common.{arith}
use Rattle.std.proofs.lemmas.Grind.{common_steps}
use Rattle.text_survey.proofs.Answers.{told_refused}
use Rattle.text_survey.proofs.refused.Goals as goal

pub returns : goal.returns
returns c =
    let no_paths : c.fill.new.self ≡ replicate (length c.args.paths.now) 0 = grind (arith, common_steps) in
    let no_cut : c.fill-2.new.self ≡ replicate (length c.args.cut.now) 0 = grind (arith, common_steps) in
    rw c.refused.ensures (told_refused c.args.fault c.requires.0 c.requires.1 c.number.ensures c.place.ensures no_paths no_cut)

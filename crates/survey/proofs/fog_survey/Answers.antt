-- `survey::fog_survey` meets its contract. Assumes nothing.
use Rattle.survey.proofs.Kept.{given, kept_accepted, kept_refused}
use Rattle.survey.proofs.fog_survey.Goals as goal

pub returns-in-Err : goal.returns-in-Err
returns-in-Err c =
    let at = c.args in
    let zeros = c.refused.ensures in
    kept_refused at.n at.table.now at.s at.t at.k at.log.now at.paths.now at.cut.now _ c.judge-judged.ensures c.in-Err.refusal c.in-Err.is zeros.value zeros.log_after zeros.paths_after zeros.cut_after

pub accepted-requires : goal.accepted-requires
accepted-requires c =
    let at = c.args in
    given at.n at.table.now at.s at.t at.k at.log.now at.paths.now at.cut.now _ c.judge-judged.ensures c.in-Ok.passing c.in-Ok.is

pub returns-in-Ok : goal.returns-in-Ok
returns-in-Ok c =
    let at = c.args in
    kept_accepted at.n at.table.now at.s at.t at.k at.log.now at.paths.now at.cut.now _ c.judge-judged.ensures c.in-Ok.passing c.in-Ok.is c.accepted.ensures

-- `survey::accepted` meets its contract. Assumes nothing.
use native.Mathlib.Omega.{arith}
use Rattle.survey.proofs.Together.{log_room, log_used, listable, cuttable, paths_used, leaves_all}
use Rattle.survey.proofs.accepted.Goals as goal

pub write_paths-listed-requires : goal.write_paths-listed-requires
write_paths-listed-requires c = listable c.requires c.run-ran.ensures

pub leave_cut-requires : goal.leave_cut-requires
leave_cut-requires c = cuttable c.requires c.run-ran.ensures c.write_paths-listed.ensures

pub overflow_mul-ran : goal.overflow_mul-ran
overflow_mul-ran c = omega (arith, log_room c.requires c.run-ran.ensures)

pub clear_from-requires : goal.clear_from-requires
clear_from-requires c = log_used c.requires c.run-ran.ensures

pub clear_from-requires-2 : goal.clear_from-requires-2
clear_from-requires-2 c = paths_used c.requires c.run-ran.ensures c.write_paths-listed.ensures

pub returns : goal.returns
returns c = λ given. leaves_all given c.run-ran.ensures c.write_paths-listed.ensures _ _ _ c.leave_cut.ensures c.clear_from.ensures c.clear_from-2.ensures

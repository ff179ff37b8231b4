-- The invariant of `route_records::records_of`'s loop: path number i stands at `at`, and those before it are laid.
use mathlib.Core.Path.{◌≡◌}
use Rattle.path_lists.specs.Reading.{path_place, paths_read}
use Rattle.route_records.proofs.Laid.{PathsLaid}
use Rattle.route_records.proofs.records_of.Given as goal

abbrev pub invariant-loop-i : goal.invariant-loop-i
invariant-loop-i l = (l.at ≡ path_place (paths_read l.count l.paths) l.i) × PathsLaid (paths_read l.count l.paths) l.i l.records

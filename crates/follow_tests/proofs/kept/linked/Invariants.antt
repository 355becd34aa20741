use Rattle.std.proofs.Common.{◌≡◌, drop, map}
use Rattle.adf_model.specs.Slots.{number_of, number_from}
use Rattle.follow_tests.specs.Kept.{file_of}
use Rattle.follow_tests.proofs.kept.linked.Given as goal

abbrev pub invariant-files : goal.invariant-files
invariant-files l = number_of (map file_of l.files) l.name ≡ number_from l.number (map file_of (drop l.number l.files)) l.name

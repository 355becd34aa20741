use Rattle.adf_tree.specs.Files.{IsWorking}
use Rattle.cg_io.specs.Memory.{device_of}
use Rattle.library_tests.proofs.files.device_with.Given as goal

abbrev pub invariant-making : goal.invariant-making
invariant-making l = IsWorking device_of l.file

use Rattle.adf_tree.specs.Files.{IsWorking}
use Rattle.cg_io.specs.Memory.{device_of}
use Rattle.library_tests.proofs.links.chain.Given as goal

abbrev pub invariant-linking : goal.invariant-linking
invariant-linking l = IsWorking device_of l.file

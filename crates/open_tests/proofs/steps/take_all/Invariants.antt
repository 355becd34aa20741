use Rattle.cg_io.specs.Memory.{device_of}
use Rattle.adf_tree.specs.Files.{IsWorking}
use Rattle.open_tests.proofs.steps.take_all.Given as goal

-- what stands between the calls
abbrev pub invariant-loop-i : goal.invariant-loop-i
invariant-loop-i g l = IsWorking device_of l.file

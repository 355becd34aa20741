use Rattle.cg_io.specs.Memory.{device_of}
use Rattle.adf_tree.specs.Files.{IsWorking}
use Rattle.open_tests.proofs.depths.make_chain.Given as goal

-- what stands between the calls
abbrev pub invariant-loop-parent : goal.invariant-loop-parent
invariant-loop-parent l = IsWorking device_of l.file

use Rattle.adf_library.specs.Library.{IsLibrary}
use Rattle.cg_io.specs.Memory.{device_of}
use Rattle.library_tests.proofs.steps.wrong_step.Given as goal

abbrev pub invariant-going : goal.invariant-going
invariant-going l = IsLibrary device_of l.library

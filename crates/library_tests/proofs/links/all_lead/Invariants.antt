use Rattle.adf_library.specs.Library.{IsLibrary}
use Rattle.cg_io.specs.Memory.{device_of}
use Rattle.library_tests.proofs.links.all_lead.Given as goal

abbrev pub invariant-leading : goal.invariant-leading
invariant-leading l = IsLibrary device_of l.library

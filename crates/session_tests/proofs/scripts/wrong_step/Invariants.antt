use Rattle.adf_library.specs.Shelf.{IsWhole, IsShelf}
use Rattle.session_tests.proofs.scripts.wrong_step.Given as goal

-- no device is taken, and each number fits its type
abbrev pub invariant-going : goal.invariant-going
invariant-going l = record { whole : IsWhole l.shelf; shelf : IsShelf l.shelf }

use Rattle.adf_library.specs.Shelf.{IsWhole, IsShelf}
use Rattle.cgns_tool.proofs.run.Given as goal

-- no device is taken yet, and each number fits its type
abbrev pub invariant-shelving : goal.invariant-shelving
invariant-shelving l = record { whole : IsWhole l.shelf; shelf : IsShelf l.shelf }

use Rattle.std.proofs.Common.{◌≡◌, drop}
use Rattle.std.specs.List.{position_from}
use Rattle.adf_library.specs.Shelf.{has_name, slot_of}
use Rattle.adf_library.proofs.shelf.place_in.Given as goal

-- none of the slots so far has the name
abbrev pub invariant-loop-i : goal.invariant-loop-i
invariant-loop-i g l = position_from (λ slot. has_name l.name (slot_of g.D.Device.state slot)) l.i (drop l.i l.slots) ≡ position_from (λ slot. has_name l.name (slot_of g.D.Device.state slot)) 0 l.slots

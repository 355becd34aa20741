use Rattle.std.proofs.Common.{◌≡◌, ◌<◌, length, map, get_or}
use Rattle.adf_library.specs.Library.{IsIdle}
use Rattle.adf_library.specs.Shelf.{slot_of}
use Rattle.adf_library.proofs.library.close_all.Given as goal

-- the slots so far are idle, and all mean what they meant
abbrev pub invariant-closing : goal.invariant-closing
invariant-closing g l = record {
  count : length l.slots.items ≡ l.number-end;
  same : map (slot_of g.D.Device.state) l.slots.items ≡ map (slot_of g.D.Device.state) l.initial.slots.items;
  idle : (k : _) (d : _) → k < l.number → IsIdle (get_or l.slots.items k d);
}

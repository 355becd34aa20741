use Rattle.std.proofs.Common.{◌≡◌, flat_map, take}
use Rattle.adf_tree.specs.Maps.{place_in}
use Rattle.adf_tree.proofs.maps.live_places.Given as goal

-- the places of the first rows
abbrev pub invariant-loop-serial : goal.invariant-loop-serial
invariant-loop-serial l = record {
  places : l.places.items ≡ flat_map place_in (take l.serial l.rows.items);
}

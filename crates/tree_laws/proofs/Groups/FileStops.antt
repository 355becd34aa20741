-- A group of edits on one file stops as its tree refuses it, or where the heap has no room.
use Rattle.std.proofs.Common.{inl, inr}
use Rattle.adf_model.specs.declared.error.AdfError.TheVariants.{Memory, ReadFault, WriteFault, Full}
use Rattle.tree_laws.specs.FileStops.{StopsAsTree, StopsFull}
use Rattle.tree_laws.proofs.Groups.GroupLoop.{group_stops, group_is_full}

pub stops_as_tree : StopsAsTree
stops_as_tree opened before now edits at Memory after h = inl tt
stops_as_tree opened before now edits at ReadFault after h = inl tt
stops_as_tree opened before now edits at WriteFault after h = inl tt
stops_as_tree opened before now edits at (Full asked end) after h = inl tt
stops_as_tree opened before now edits at error after h = inr (group_stops opened.writable edits at h.edit opened.tree h.so_far.work error h.reached h.so_far.made h.refused)

pub stops_full : StopsFull
stops_full opened before now edits at asked end after is many h =
    group_is_full opened.limit opened.writable edits at h.edit opened.tree before.placement h.so_far.work h.refused.1.0 h.so_far.placement (record { asked = asked; end = end })
    is many h.reached h.so_far.made h.so_far.placed h.refused.1.1 h.refused.1.2

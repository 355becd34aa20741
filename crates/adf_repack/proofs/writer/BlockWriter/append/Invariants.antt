use Rattle.std.proofs.Common.{◌≡◌, ◌+◌, ◌-◌, ◌≤◌, length, take}
use Rattle.adf_repack.specs.Writers.{IsWriter, appended_in, with_more, count_in, blocks_in, state_under, WritesBlocks, OnlyWrites}
use Rattle.adf_repack.proofs.writer.BlockWriter.append.Given as goal

abbrev pub invariant-loop-done : goal.invariant-loop-done
invariant-loop-done g l = record {
  inside : l.done ≤ length l.bytes;
  sound : IsWriter g.E.Device.state l.self;
  appended : appended_in g.E.Device.state l.self ≡ with_more (appended_in g.E.Device.state l.initial.self) (take l.done l.bytes);
  count : count_in l.self ≡ count_in l.initial.self + l.done;
  wrote : WritesBlocks (blocks_in l.initial.self) (blocks_in l.self) (state_under g.E.Device.state l.initial.self) (state_under g.E.Device.state l.self);
  effect : OnlyWrites (state_under g.E.Device.state l.initial.self) (state_under g.E.Device.state l.self);
  faults : (state_under g.E.Device.state l.initial.self).faults ≤ (state_under g.E.Device.state l.self).faults;
  lost : (state_under g.E.Device.state l.initial.self).lost ≤ (state_under g.E.Device.state l.self).lost;
}

abbrev pub decreases-loop-done : goal.decreases-loop-done
decreases-loop-done g l = length l.bytes - l.done

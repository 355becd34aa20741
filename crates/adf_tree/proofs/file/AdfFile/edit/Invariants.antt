use Rattle.adf_tree.specs.Files.{IsWorking, state_of}
use Rattle.adf_tree.specs.Groups.{IsUnderWay}
use Rattle.adf_tree.proofs.file.AdfFile.edit.Given as goal

-- the edits so far are done, and wait
abbrev pub invariant-loop-at : goal.invariant-loop-at
invariant-loop-at g l = record {
  sound : IsWorking g.D.Device.state l.self;
  way : IsUnderWay l.edits l.at l.created.items (state_of g.D.Device.state l.fn.self) (state_of g.D.Device.state l.self);
}

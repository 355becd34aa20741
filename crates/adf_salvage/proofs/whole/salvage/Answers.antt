use Rattle.std.proofs.Common.{◌∙◌, inl, inr}
use Rattle.adf_repack.proofs.SourceLaws.{reads_none}
use Rattle.adf_repack.proofs.VerdictLaws.{licensed_after}
use Rattle.adf_salvage.proofs.WholeLaws.{headers_near, parents_there, salvaged_so, refused_so, lost_first}
use Rattle.adf_salvage.proofs.whole.salvage.Goals as goal

-- ---- there is no sound part

pub returns-in-Err-clause-licensed : goal.returns-in-Err-clause-licensed
returns-in-Err-clause-licensed g c = (lost_first (g.B.Blocks.state c.args.blocks.now) (g.B.Blocks.state c.sound_part.new.blocks) (g.E.Device.state c.args.device) c.in-Err.error c.in-Err.ensures.cause).0

pub returns-in-Err-clause-left : goal.returns-in-Err-clause-left
returns-in-Err-clause-left g c = inl (reads_none (g.E.Device.state c.args.device))

pub returns-in-Err-clause-refused : goal.returns-in-Err-clause-refused
returns-in-Err-clause-refused g c image told =
    (lost_first (g.B.Blocks.state c.args.blocks.now) (g.B.Blocks.state c.sound_part.new.blocks) (g.E.Device.state c.args.device) c.in-Err.error c.in-Err.ensures.cause).1 image (c.in-Err.ensures.refused image told)

-- ---- the nodes that are kept

pub write_packed-requires-clause-near : goal.write_packed-requires-clause-near
write_packed-requires-clause-near g c = headers_near c.in-Ok.part c.in-Ok.ensures.shape

pub write_packed-requires-clause-parents : goal.write_packed-requires-clause-parents
write_packed-requires-clause-parents g c = parents_there c.in-Ok.part c.in-Ok.ensures.shape

-- ---- a copy of them

pub returns-in-Ok-write_packed-clause-salvaged : goal.returns-in-Ok-write_packed-clause-salvaged
returns-in-Ok-write_packed-clause-salvaged g c image told =
    salvaged_so c.in-Ok.part c.in-Ok.ensures.shape image c.sound_part_is_given.ensures (c.in-Ok.ensures.part image told) (g.E.Device.state c.in-Ok-write_packed.packed.device).held c.in-Ok-write_packed.packed.end
    (c.in-Ok-write_packed.ensures.packed image (c.sound_part.ensures.reads.held ∙ told))

pub returns-in-Err-write_packed-clause-licensed : goal.returns-in-Err-write_packed-clause-licensed
returns-in-Err-write_packed-clause-licensed g c =
    licensed_after (g.B.Blocks.state c.args.blocks.now) (g.B.Blocks.state c.sound_part.new.blocks) (g.B.Blocks.state c.write_packed.new.blocks) (g.E.Device.state c.args.device) _ _ c.sound_part.ensures.reads.faults
    c.in-Err-write_packed.ensures.licensed

pub returns-in-Err-write_packed-clause-refused : goal.returns-in-Err-write_packed-clause-refused
returns-in-Err-write_packed-clause-refused g c image told =
    inr (inr (refused_so c.in-Ok.part c.in-Ok.ensures.shape image c.sound_part_is_given.ensures (c.in-Ok.ensures.part image told) c.in-Err-write_packed.refused.0
    (c.in-Err-write_packed.ensures.refused image (c.sound_part.ensures.reads.held ∙ told))))

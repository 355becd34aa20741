use Rattle.std.proofs.Common.{ap}
use Rattle.tool_commands.proofs.CopyLaws.{licensed_named, not_begun, not_made}
use Rattle.tool_commands.proofs.copies.copy_file.Goals as goal

pub returns-in-Err-clause-copy : goal.returns-in-Err-clause-copy
returns-in-Err-clause-copy g c =
    not_begun c.args.version c.in-Err.error (g.D.Device.state c.args.source) (g.D.Device.state c.in-Err.source) (g.D.Device.state c.args.target) c.in-Err.ensures.refused.0
    (ap g.D.Device.state c.in-Err.ensures.refused.1)

pub returns-in-Err-repack-clause-copy : goal.returns-in-Err-repack-clause-copy
returns-in-Err-repack-clause-copy g c =
    not_made c.args.version c.in-Err-repack.error (g.D.Device.state c.args.source) (g.D.Device.state c.in-Ok.blocks.device) (g.D.Device.state c.repack.new.blocks.device)
    (g.D.Device.state c.into_device-in-Err-repack.result) (g.D.Device.state c.args.target) (g.D.Device.state c.in-Err-repack.target)
    (ap g.D.Device.state c.in-Ok.ensures.made.0) (ap g.D.Device.state c.into_device-in-Err-repack.ensures)
    c.in-Err-repack.ensures.licensed c.in-Err-repack.ensures.left c.in-Err-repack.ensures.refused

pub returns-in-Err-repack-clause-rule : goal.returns-in-Err-repack-clause-rule
returns-in-Err-repack-clause-rule g c = licensed_named _ _ _ _ c.in-Err-repack.error c.in-Err-repack.ensures.licensed

use Rattle.std.proofs.Common.{ap}
use Rattle.tool_commands.proofs.CopyLaws.{licensed_named}
use Rattle.tool_commands.proofs.SalvageLaws.{not_begun, not_saved}
use Rattle.tool_commands.proofs.salvages.salvage_file.Goals as goal

pub returns-in-Err-clause-salvage : goal.returns-in-Err-clause-salvage
returns-in-Err-clause-salvage g c =
    not_begun c.in-Err.error (g.D.Device.state c.args.source) (g.D.Device.state c.in-Err.source) (g.D.Device.state c.args.target) c.in-Err.ensures.refused.0
    (ap g.D.Device.state c.in-Err.ensures.refused.1)

pub returns-in-Err-salvage-clause-salvage : goal.returns-in-Err-salvage-clause-salvage
returns-in-Err-salvage-clause-salvage g c =
    not_saved c.in-Err-salvage.error (g.D.Device.state c.args.source) (g.D.Device.state c.in-Ok.blocks.device) (g.D.Device.state c.salvage.new.blocks.device)
    (g.D.Device.state c.into_device-in-Err-salvage.result) (g.D.Device.state c.args.target) (g.D.Device.state c.in-Err-salvage.target)
    (ap g.D.Device.state c.in-Ok.ensures.made.0) (ap g.D.Device.state c.into_device-in-Err-salvage.ensures)
    c.in-Err-salvage.ensures.licensed c.in-Err-salvage.ensures.left c.in-Err-salvage.ensures.refused

pub returns-in-Err-salvage-clause-rule : goal.returns-in-Err-salvage-clause-rule
returns-in-Err-salvage-clause-rule g c = licensed_named _ _ _ _ c.in-Err-salvage.error c.in-Err-salvage.ensures.licensed

use Rattle.tool_commands.proofs.SalvageLaws.{refusal_told}
use Rattle.tool_commands.proofs.salvages.tell_salvage.Goals as goal

pub returns-in-Err : goal.returns-in-Err
returns-in-Err g c = refusal_told c.args.made.now c.in-Err.error _ _ _ _ _ c.in-Err.is c.tell_copy.ensures

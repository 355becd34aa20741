use Rattle.tool_commands.proofs.commands.init_on.Goals as goal

pub returns-clause-whole : goal.returns-clause-whole
returns-clause-whole g c = c.put_back.ensures.whole (c.in-Some.ensures.others c.requires.whole)

use Rattle.std.proofs.Common.{refl}
use Rattle.std.specs.Prelude.{Ok, Err}
use Rattle.tool_commands.proofs.TreeLaws.{done_opens, refusal_named}
use Rattle.tool_commands.proofs.trees.print_file.Goals as goal

pub print_lines-requires-clause-open_file : goal.print_lines-requires-clause-open_file
print_lines-requires-clause-open_file g c = (done_opens _ _ _ _ c.args.number c.in-Ok.ensures.makes).0

pub print_lines-requires-clause-whole : goal.print_lines-requires-clause-whole
print_lines-requires-clause-whole g c = (done_opens _ _ _ _ c.args.number c.in-Ok.ensures.makes).1

pub tell_refusal-requires : goal.tell_refusal-requires
tell_refusal-requires g c = refusal_named _ _ _ _ c.args.number c.in-Err.error c.in-Err.ensures.makes

pub returns-in-Ok-clause-prints : goal.returns-in-Ok-clause-prints
returns-in-Ok-clause-prints g c = record {
  outcome = Ok tt;
  middle = g.C.TreeCalls.files c.open.new.self;
  opened = g.C.TreeCalls.devices c.open.new.self;
  opens = c.in-Ok.ensures.makes;
  prints = c.print_lines.ensures.prints;
}

pub returns-in-Err-clause-prints : goal.returns-in-Err-clause-prints
returns-in-Err-clause-prints g c = record {
  outcome = Err c.in-Err.error;
  middle = g.C.TreeCalls.files c.open.new.self;
  opened = g.C.TreeCalls.devices c.open.new.self;
  opens = c.in-Err.ensures.makes;
  prints = (refl, refl, c.tell_refusal.ensures);
}

use Rattle.tool_commands.proofs.TreeLaws.{answer_named}
use Rattle.tool_commands.proofs.trees.print_lines.Goals as goal

pub end_lines-requires : goal.end_lines-requires
end_lines-requires g c = answer_named _ _ _ _ _ c.tree-answer.result c.tree-answer.ensures.cause

pub returns-clause-prints : goal.returns-clause-prints
returns-clause-prints g c = record {
  answer = c.tree-answer.result;
  said = record { taken = g.O.Sink.taken c.tree-answer.new.sink; faults = g.O.Sink.faults c.tree-answer.new.sink };
  asks = c.tree-answer.ensures.only;
  told = c.tree-answer.ensures.lines;
  rises = c.tree-answer.ensures.sink;
  cause = c.tree-answer.ensures.cause;
  ends = c.end_lines.ensures;
}

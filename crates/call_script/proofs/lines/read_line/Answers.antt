use Rattle.std.proofs.Common.{sym, subst}
use Rattle.call_script.specs.Lines.{AreTokens}
use Rattle.call_script.proofs.CallLaws.{line_found, line_tokens}
use Rattle.call_script.proofs.lines.read_line.Goals as goal

pub returns-clause-found : goal.returns-clause-found
returns-clause-found c = line_found c.args.line.now _ c.read_tokens.result c.new.ensures c.read_tokens.ensures.found

pub returns-clause-none : goal.returns-clause-none
returns-clause-none c = λ e call h. c.read_tokens.ensures.none e call (subst (λ ts. AreTokens ts call) (sym c.new.ensures) (line_tokens c.args.line.now call h))

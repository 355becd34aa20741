use Rattle.std.proofs.lemmas.Result.{IfOk-weaker}
use Rattle.layout_lint.proofs.paths.path_of.Goals as goal

pub returns-in-Ok-clause-path : goal.returns-in-Ok-clause-path
returns-in-Ok-clause-path c = IfOk-weaker c.printed.result _ _ (λ text is. λ tree p tree_is in_order listed are. record {
  way = c.in-Ok.way.items;
  leads = (rw (c.items-2.ensures, c.deref.ensures.value) at c.in-Ok.ensures.way) tree c.args.number are ((rw c.items.ensures at c.in_ok-up.ensures.up) tree p tree_is in_order listed);
  printed = is;
}) c.printed.ensures.printed

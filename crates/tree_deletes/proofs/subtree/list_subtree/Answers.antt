use Rattle.std.proofs.lemmas.List.Sorted.{All-permutation}
use Rattle.tree_deletes.specs.Doomed.{IsSane}
use Rattle.tree_deletes.proofs.Walks.{walk_sorted}
use Rattle.tree_deletes.proofs.subtree.list_subtree.Goals as goal

pub returns-clause-subtree : goal.returns-clause-subtree
returns-clause-subtree g c =
    walk_sorted c.args.core.now (g.S.ReadBytes.image c.args.space.now) c.args.top c.in-Ok.nodes.items c.sort_by_serial.new.nodes.items c.requires.row c.in-Ok.ensures.walked c.sort_by_serial.ensures.same c.sort_by_serial.ensures.sorted

pub returns-clause-sane : goal.returns-clause-sane
returns-clause-sane g c = All-permutation (IsSane c.args.core.now) c.in-Ok.nodes.items c.sort_by_serial.new.nodes.items c.sort_by_serial.ensures.same c.in-Ok.ensures.sane

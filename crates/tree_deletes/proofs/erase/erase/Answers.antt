use Rattle.std.proofs.Common.{◌∙◌, refl, ap}
use Rattle.tree_edits.specs.Undo.{RowsState}
use Rattle.tree_deletes.proofs.Erasing.{drawn_here, erased_one, erased_all, same_length, erases_none, erases_more}
use Rattle.tree_deletes.proofs.erase.erase.Goals as goal

pub set-requires : goal.set-requires
set-requires c = drawn_here c.args.nodes.now _ _ c.loop-node.node-index _ c.requires.drawn c.loop-node-test.true c.loop-node.invariant.1

pub loop-node-init : goal.loop-node-init
loop-node-init c = (refl, refl, refl, erases_none c.args.rows.now.items)

pub loop-node-preserved : goal.loop-node-preserved
loop-node-preserved c = (
  erased_one c.loop-node.rows.items c.set.new.self.items _ c.args.nodes.now c.loop-node.node-index _ c.loop-node-test.true (ap (λ (r : RowsState). r.items) c.in_ok-set.ensures.ok) c.loop-node.invariant.0,
  same_length c.loop-node.rows.items c.set.new.self.items _ _ (ap (λ (r : RowsState). r.items) c.in_ok-set.ensures.ok) c.loop-node.invariant.1,
  ap (λ (r : RowsState). r.kept) c.in_ok-set.ensures.ok ∙ c.loop-node.invariant.2,
  erases_more c.args.rows.now.items c.loop-node.rows.items c.set.new.self.items _ (ap (λ (r : RowsState). r.items) c.in_ok-set.ensures.ok) c.loop-node.invariant.3,
)

pub returns-clause-gone : goal.returns-clause-gone
returns-clause-gone c = erased_all c.loop-node.rows.items _ c.args.nodes.now c.loop-node.node-index c.loop-node-test.false c.loop-node.invariant.0

use Rattle.std.proofs.Common.{◌≡◌, ◌+◌, true, sym, subst}
use Rattle.std.specs.Prelude.{is_some}
use Rattle.tree_asks.specs.Entries.{SaysChild, AddsChildren}
use Rattle.tree_asks.proofs.Pieces.{says_some, adds_one}
use Rattle.tree_asks.proofs.children.add_piece.Goals as goal

pub returns-in-Err-push-clause-fails : goal.returns-in-Err-push-clause-fails
returns-in-Err-push-clause-fails c = record {
  position = c.loop-i.i;
  within = c.loop-i-test.true;
  says = subst (λ s. is_some s ≡ true) c.child_in.ensures.value (says_some c.args.core.now c.args.file c.args.piece.now _ c.in-Ok.child c.in-Ok.ensures.child);
}

pub loop-i-preserved : goal.loop-i-preserved
loop-i-preserved c =
    subst (AddsChildren c.args.core.now c.args.file c.args.piece.now (c.loop-i.i + 1) c.args.children.now.items) (sym c.in-Ok-push.ensures.items)
    (adds_one c.args.core.now c.args.file c.args.piece.now c.loop-i.i c.args.children.now.items c.loop-i.children.items c.in-Ok.child c.loop-i.invariant
    (subst (λ s. SaysChild c.args.core.now c.args.file s c.in-Ok.child) c.child_in.ensures.value c.in-Ok.ensures.child))

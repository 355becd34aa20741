use Rattle.std.proofs.Common.{◌∙◌, sym, subst}
use Rattle.cg_io.proofs.ReadLaws.{only_then, refused_for}
use Rattle.tree_edits.proofs.CreateDone.{table_only}
use Rattle.tree_deletes.specs.Doomed.{IsSubtree, MeansNone}
use Rattle.tree_deletes.proofs.Done.{refused_none, refused_read_only, refused_root, refused_else, refused_unlisted, unlisted_cause, else_cause}
use Rattle.tree_deletes.proofs.deletion.find_deletion.Goals as goal

pub returns-in-None-clause-refused : goal.returns-in-None-clause-refused
returns-in-None-clause-refused g c = refused_none c.args.core.now c.args.node (g.S.ReadBytes.image c.args.space.now) (sym c.get.ensures ∙ c.in-None.is)

pub returns-then-not-core-clause-refused : goal.returns-then-not-core-clause-refused
returns-then-not-core-clause-refused g c = refused_read_only c.args.core.now c.args.node c.in-Some.row (sym c.get.ensures ∙ c.in-Some.is) (g.S.ReadBytes.image c.args.space.now) c.if-not-core.true

pub returns-in-None-parent-clause-refused : goal.returns-in-None-parent-clause-refused
returns-in-None-parent-clause-refused g c = refused_root c.args.core.now c.args.node c.in-Some.row (sym c.get.ensures ∙ c.in-Some.is) (g.S.ReadBytes.image c.args.space.now) c.if-not-core.false c.in-None-parent.is

pub returns-in-Err-clause-refused : goal.returns-in-Err-clause-refused
returns-in-Err-clause-refused g c =
    refused_unlisted c.args.core.now c.args.node c.in-Some.row (sym c.get.ensures ∙ c.in-Some.is) c.in-Some-parent.parent c.in-Some-parent.is c.if-not-core.false (g.S.ReadBytes.image c.args.space.now) _ _ c.in-Err.error c.in-Err.ensures.reads.cause

pub returns-in-Err-clause-reads : goal.returns-in-Err-clause-reads
returns-in-Err-clause-reads g c = record {
  sound = c.in-Err.ensures.reads.sound;
  bytes = c.in-Err.ensures.reads.bytes;
  waits = c.in-Err.ensures.reads.waits;
  effect = table_only _ 1 2 _ _ c.in-Err.ensures.reads.effect;
  cause = unlisted_cause c.args.core.now c.args.node c.in-Some.row (sym c.get.ensures ∙ c.in-Some.is) c.in-Some-parent.parent c.in-Some-parent.is c.if-not-core.false (g.S.ReadBytes.image c.args.space.now) _ _ c.in-Err.error c.in-Err.ensures.reads.cause;
}

pub returns-in-Err-list_subtree-clause-refused : goal.returns-in-Err-list_subtree-clause-refused
returns-in-Err-list_subtree-clause-refused g c =
    refused_else c.args.core.now c.args.node c.in-Some.row (sym c.get.ensures ∙ c.in-Some.is) (g.S.ReadBytes.image c.args.space.now) _ _ c.in-Err-list_subtree.error
    (refused_for (MeansNone c.args.core.now (g.S.ReadBytes.image c.find_listed.new.space)) (MeansNone c.args.core.now (g.S.ReadBytes.image c.args.space.now)) _ _ c.in-Err-list_subtree.error (subst (MeansNone c.args.core.now) c.in-Ok.ensures.reads.bytes)
    c.in-Err-list_subtree.ensures.reads.cause)

pub returns-in-Err-list_subtree-clause-reads : goal.returns-in-Err-list_subtree-clause-reads
returns-in-Err-list_subtree-clause-reads g c =
    let told = g.S.ReadBytes.image c.args.space.now in
    let first = table_only _ 1 2 _ _ c.in-Ok.ensures.reads.effect in
    record {
      sound = c.in-Err-list_subtree.ensures.reads.sound;
      bytes = c.in-Err-list_subtree.ensures.reads.bytes ∙ c.in-Ok.ensures.reads.bytes;
      waits = c.in-Err-list_subtree.ensures.reads.waits ∙ c.in-Ok.ensures.reads.waits;
      effect = only_then _ _ _ first c.in-Err-list_subtree.ensures.reads.effect;
      cause = else_cause c.args.core.now c.args.node c.in-Some.row (sym c.get.ensures ∙ c.in-Some.is) c.in-Some-parent.parent c.in-Some-parent.is c.if-not-core.false told _ _ _ c.in-Err-list_subtree.error first.faults
          (refused_for (MeansNone c.args.core.now (g.S.ReadBytes.image c.find_listed.new.space)) (MeansNone c.args.core.now told) _ _ c.in-Err-list_subtree.error (subst (MeansNone c.args.core.now) c.in-Ok.ensures.reads.bytes) c.in-Err-list_subtree.ensures.reads.cause);
    }

pub returns-in-Ok-list_subtree-clause-deletion : goal.returns-in-Ok-list_subtree-clause-deletion
returns-in-Ok-list_subtree-clause-deletion g c = record {
  may = record { row = c.in-Some.row; parent = c.in-Some-parent.parent; child = record { found = sym c.get.ensures ∙ c.in-Some.is; above = c.in-Some-parent.is }; allowed = c.if-not-core.false };
  found = sym c.get-2.ensures ∙ c.in-Some-get.is;
  is = c.in-Ok.ensures.listed;
  below = subst (λ x. IsSubtree c.args.core.now x c.args.node.serial c.in-Ok-list_subtree.nodes.items) c.in-Ok.ensures.reads.bytes c.in-Ok-list_subtree.ensures.subtree;
}

pub returns-in-Ok-list_subtree-clause-reads : goal.returns-in-Ok-list_subtree-clause-reads
returns-in-Ok-list_subtree-clause-reads g c = record {
  sound = c.in-Ok-list_subtree.ensures.reads.sound;
  bytes = c.in-Ok-list_subtree.ensures.reads.bytes ∙ c.in-Ok.ensures.reads.bytes;
  waits = c.in-Ok-list_subtree.ensures.reads.waits ∙ c.in-Ok.ensures.reads.waits;
  effect = only_then _ _ _ (table_only _ 1 2 _ _ c.in-Ok.ensures.reads.effect) c.in-Ok-list_subtree.ensures.reads.effect;
  cause = tt;
}

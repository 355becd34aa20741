use Rattle.std.proofs.Common.{◌∙◌, inl, sym, subst, Ok}
use Rattle.adf_model.specs.declared.tree.Query.{Query}
use Rattle.adf_model.specs.declared.tree.Reply.{Reply}
use Rattle.adf_model.specs.Answers.{field_within}
use Rattle.tree_asks.specs.Told.{Tells}
use Rattle.tree_asks.proofs.Answered.{tells_free}
use Rattle.tree_asks.proofs.Pieces.{children_told, unlisted_free, table_cause, children_cause, table_read}
use Rattle.tree_asks.proofs.children.children_of.Goals as goal

pub returns-in-Err-clause-told : goal.returns-in-Err-clause-told
returns-in-Err-clause-told g c = tells_free c.args.core.now (g.R.ReadBytes.image c.args.bytes.now) _ c.in-Err.error c.in-Err.ensures.free

pub returns-in-Err-clause-reads : goal.returns-in-Err-clause-reads
returns-in-Err-clause-reads g c = record {
  sound = c.in-Err.ensures.reads.sound;
  bytes = c.in-Err.ensures.reads.bytes;
  waits = c.in-Err.ensures.reads.waits;
  effect = inl c.in-Err.ensures.reads.effect;
  cause = table_cause c.args.core.now (g.R.ReadBytes.image c.args.bytes.now) c.args.row.place _ _ c.in-Err.error c.in-Err.ensures.reads.cause;
}

pub returns-in-Ok-listed_in-clause-told : goal.returns-in-Ok-listed_in-clause-told
returns-in-Ok-listed_in-clause-told g c =
    subst (λ xs. Tells c.args.core.now (g.R.ReadBytes.image c.args.bytes.now) (λ tree. field_within tree c.args.at (Query.ChildrenOf c.args.at)) (Ok (Reply.Children xs))) (sym c.new.ensures)
    (children_told c.args.core.now c.args.at c.args.row c.requires.row c.in-Ok.table (g.R.ReadBytes.image c.args.bytes.now) _ c.in-Ok-listed_in.children.items c.in-Ok.ensures.reads.bytes c.in-Ok.ensures.named c.in-Ok-listed_in.ensures.children)

pub returns-in-Ok-listed_in-clause-reads : goal.returns-in-Ok-listed_in-clause-reads
returns-in-Ok-listed_in-clause-reads g c = record {
  sound = c.in-Ok-listed_in.ensures.reads.sound;
  bytes = c.in-Ok-listed_in.ensures.reads.bytes ∙ c.in-Ok.ensures.reads.bytes;
  waits = c.in-Ok-listed_in.ensures.reads.waits ∙ c.in-Ok.ensures.reads.waits;
  effect = table_read c.args.core.now (g.R.ReadBytes.image c.args.bytes.now) c.args.at.serial c.args.row c.in-Ok.table _ _ _ c.requires.row c.in-Ok.ensures.named
      c.in-Ok.ensures.reads.effect c.in-Ok-listed_in.ensures.reads.effect;
  cause = tt;
}

pub returns-in-Err-listed_in-clause-told : goal.returns-in-Err-listed_in-clause-told
returns-in-Err-listed_in-clause-told g c =
    tells_free c.args.core.now (g.R.ReadBytes.image c.args.bytes.now) _ c.in-Err-listed_in.error
    (unlisted_free c.args.core.now c.args.at c.args.row c.requires.row c.in-Ok.table (g.R.ReadBytes.image c.args.bytes.now) _ _ _ c.in-Err-listed_in.error c.in-Ok.ensures.reads.bytes c.in-Ok.ensures.named c.in-Err-listed_in.ensures.reads.cause)

pub returns-in-Err-listed_in-clause-reads : goal.returns-in-Err-listed_in-clause-reads
returns-in-Err-listed_in-clause-reads g c = record {
  sound = c.in-Err-listed_in.ensures.reads.sound;
  bytes = c.in-Err-listed_in.ensures.reads.bytes ∙ c.in-Ok.ensures.reads.bytes;
  waits = c.in-Err-listed_in.ensures.reads.waits ∙ c.in-Ok.ensures.reads.waits;
  effect = table_read c.args.core.now (g.R.ReadBytes.image c.args.bytes.now) c.args.at.serial c.args.row c.in-Ok.table _ _ _ c.requires.row c.in-Ok.ensures.named
      c.in-Ok.ensures.reads.effect c.in-Err-listed_in.ensures.reads.effect;
  cause = children_cause c.args.core.now (g.R.ReadBytes.image c.args.bytes.now) c.args.row.place _ _ _ _ c.in-Ok.table c.in-Err-listed_in.error c.in-Ok.ensures.reads.bytes c.in-Ok.ensures.reads.effect.faults c.in-Ok.ensures.named c.in-Err-listed_in.ensures.reads.cause;
}

use Rattle.std.proofs.Common.{◌∙◌, ◌<◌, ℕ, sym, subst, Option, None, Some}
use Rattle.std.specs.Prelude.{IfSome}
use Rattle.adf_model.specs.declared.error.AdfError.{AdfError}
use Rattle.node_reads.specs.declared.find.Wanted.TheVariants.{Name}
use Rattle.tree_edits.specs.Listed.{FindsFirst}
use Rattle.tree_asks.proofs.Answered.{tells_free}
use Rattle.tree_asks.proofs.Named.{no_parent, no_name, none_told, one_told, unplaced, unsaid, moved_first, moved_entry, moved_fault}
use Rattle.tree_asks.proofs.children.child_at.Goals as goal

pub returns-in-None-clause-told : goal.returns-in-None-clause-told
returns-in-None-clause-told g c = no_parent c.args.core.now c.args.parent c.args.name.now (g.R.ReadBytes.image c.args.bytes.now) (sym c.get.ensures ∙ c.in-None.is)

pub returns-then-not-is_name-clause-told : goal.returns-then-not-is_name-clause-told
returns-then-not-is_name-clause-told g c =
    no_name c.args.core.now c.args.parent c.args.name.now c.in-Some.row (sym c.get.ensures ∙ c.in-Some.is) (g.R.ReadBytes.image c.args.bytes.now) (sym c.is_name.ensures ∙ c.if-not-is_name.true)

pub returns-in-Err-clause-told : goal.returns-in-Err-clause-told
returns-in-Err-clause-told g c = tells_free c.args.core.now (g.R.ReadBytes.image c.args.bytes.now) _ c.in-Err.error c.in-Err.ensures.free

pub returns-in-Ok-None-clause-told : goal.returns-in-Ok-None-clause-told
returns-in-Ok-None-clause-told g c =
    none_told c.args.core.now c.args.parent c.args.name.now c.in-Some.row (sym c.get.ensures ∙ c.in-Some.is) c.in-Ok.table (g.R.ReadBytes.image c.args.bytes.now) (sym c.is_name.ensures ∙ c.if-not-is_name.false) c.in-Ok.ensures.named
    (moved_first _ _ c.in-Ok.table c.name_field.result _ None c.in-Ok.ensures.reads.bytes c.name_field.ensures (subst (λ (o : Option ℕ). FindsFirst (g.R.ReadBytes.image c.table_of.new.bytes) c.in-Ok.table (Name c.name_field.result) o) c.in-Ok-None.field-0-is c.in-Ok-None.ensures.told))

pub returns-in-Err-entry_at-clause-told : goal.returns-in-Err-entry_at-clause-told
returns-in-Err-entry_at-clause-told g c =
    unsaid c.args.core.now c.args.parent c.args.name.now c.in-Some.row (sym c.get.ensures ∙ c.in-Some.is) c.in-Ok.table (g.R.ReadBytes.image c.args.bytes.now) c.in-Ok-Some.position _ _ c.in-Err-entry_at.error c.in-Ok.ensures.named (subst (λ (o : Option ℕ). IfSome o (λ i. i < c.in-Ok.table.count)) c.in-Ok-Some.field-0-is c.in-Ok-Some.ensures.below)
    (moved_fault _ _ _ _ _ _ c.in-Err-entry_at.error (c.in-Ok-Some.ensures.reads.bytes ∙ c.in-Ok.ensures.reads.bytes) c.in-Err-entry_at.ensures.reads.cause)

pub returns-in-Some-serial_at-clause-told : goal.returns-in-Some-serial_at-clause-told
returns-in-Some-serial_at-clause-told g c =
    one_told c.args.core.now c.args.parent c.args.name.now c.in-Some.row (sym c.get.ensures ∙ c.in-Some.is) c.in-Ok.table (g.R.ReadBytes.image c.args.bytes.now) c.in-Ok-Some.position c.in-Ok-entry_at.listed c.in-Some-serial_at.serial
    (sym c.is_name.ensures ∙ c.if-not-is_name.false) c.in-Ok.ensures.named (moved_first _ _ c.in-Ok.table c.name_field.result _ (Some c.in-Ok-Some.position) c.in-Ok.ensures.reads.bytes c.name_field.ensures (subst (λ (o : Option ℕ). FindsFirst (g.R.ReadBytes.image c.table_of.new.bytes) c.in-Ok.table (Name c.name_field.result) o) c.in-Ok-Some.field-0-is c.in-Ok-Some.ensures.told))
    (moved_entry _ _ _ _ (c.in-Ok-Some.ensures.reads.bytes ∙ c.in-Ok.ensures.reads.bytes) c.in-Ok-entry_at.ensures.child) c.in-Some-serial_at.ensures

pub returns-in-None-serial_at-clause-told : goal.returns-in-None-serial_at-clause-told
returns-in-None-serial_at-clause-told g c =
    unplaced c.args.core.now c.args.parent c.args.name.now c.in-Some.row (sym c.get.ensures ∙ c.in-Some.is) c.in-Ok.table (g.R.ReadBytes.image c.args.bytes.now) c.in-Ok-Some.position c.in-Ok-entry_at.listed (AdfError.Layout 30 c.in-Ok-entry_at.listed.place)
    c.in-Ok.ensures.named (subst (λ (o : Option ℕ). IfSome o (λ i. i < c.in-Ok.table.count)) c.in-Ok-Some.field-0-is c.in-Ok-Some.ensures.below) (moved_entry _ _ _ _ (c.in-Ok-Some.ensures.reads.bytes ∙ c.in-Ok.ensures.reads.bytes) c.in-Ok-entry_at.ensures.child) c.in-None-serial_at.ensures

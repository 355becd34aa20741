use Rattle.std.proofs.Common.{◌∙◌, refl, sym, subst, ap}
use Rattle.std.specs.Prelude.{IfOk}
use Rattle.adf_model.specs.declared.tree.Reply.{Reply}
use Rattle.adf_model.specs.Answers.{IsReplyTo}
use Rattle.tree_asks.proofs.Asked.{told_as, gone_told, find_told, target_told, next_told, parent_told, read_known, one_known, parent_known, nothing_read, gone_asked, row_asked, find_asked, parent_asked}
use Rattle.tree_asks.proofs.answers.answer_at.Goals as goal

pub returns-in-None-clause-told : goal.returns-in-None-clause-told
returns-in-None-clause-told g c =
    gone_told c.args.core.now (g.S.ReadBytes.image c.args.space.now) c.args.at c.args.query.now (sym c.get.ensures ∙ c.in-None.is)

pub returns-in-None-clause-reads : goal.returns-in-None-clause-reads
returns-in-None-clause-reads g c =
    gone_asked g.S.ReadBytes.is_sound g.S.ReadBytes.image g.S.ReadBytes.state g.S.ReadBytes.waiting c.args.core.now (g.S.ReadBytes.image c.args.space.now) c.args.at c.args.query.now c.args.space.now c.requires.sound (sym c.get.ensures ∙ c.in-None.is)

pub returns-in-Name-clause-told : goal.returns-in-Name-clause-told
returns-in-Name-clause-told g c =
    told_as c.args.core.now (g.S.ReadBytes.image c.args.space.now) c.args.at c.args.query.now _ c.name_of.result c.in-Name.is c.name_of.ensures.told

pub returns-in-Name-clause-kind : goal.returns-in-Name-clause-kind
returns-in-Name-clause-kind g c =
    subst (λ q. IfOk c.name_of.result (IsReplyTo q)) (sym c.in-Name.is) c.name_of.ensures.kind

pub returns-in-Name-clause-known : goal.returns-in-Name-clause-known
returns-in-Name-clause-known g c =
    read_known c.args.core.now c.args.at c.in-Some.row (sym c.get.ensures ∙ c.in-Some.is) c.args.query.now _ c.name_of.result c.in-Name.is (λ reply. tt)

pub returns-in-Name-clause-reads : goal.returns-in-Name-clause-reads
returns-in-Name-clause-reads g c =
    row_asked g.S.ReadBytes.is_sound g.S.ReadBytes.image g.S.ReadBytes.state g.S.ReadBytes.waiting c.args.core.now (g.S.ReadBytes.image c.args.space.now) c.args.at c.in-Some.row (sym c.get.ensures ∙ c.in-Some.is) c.args.query.now _ _ _ c.name_of.result c.in-Name.is c.name_of.ensures.reads

pub returns-in-LabelOf-clause-told : goal.returns-in-LabelOf-clause-told
returns-in-LabelOf-clause-told g c =
    told_as c.args.core.now (g.S.ReadBytes.image c.args.space.now) c.args.at c.args.query.now _ c.label_of.result c.in-LabelOf.is c.label_of.ensures.told

pub returns-in-LabelOf-clause-kind : goal.returns-in-LabelOf-clause-kind
returns-in-LabelOf-clause-kind g c =
    subst (λ q. IfOk c.label_of.result (IsReplyTo q)) (sym c.in-LabelOf.is) c.label_of.ensures.kind

pub returns-in-LabelOf-clause-known : goal.returns-in-LabelOf-clause-known
returns-in-LabelOf-clause-known g c =
    read_known c.args.core.now c.args.at c.in-Some.row (sym c.get.ensures ∙ c.in-Some.is) c.args.query.now _ c.label_of.result c.in-LabelOf.is (λ reply. tt)

pub returns-in-LabelOf-clause-reads : goal.returns-in-LabelOf-clause-reads
returns-in-LabelOf-clause-reads g c =
    row_asked g.S.ReadBytes.is_sound g.S.ReadBytes.image g.S.ReadBytes.state g.S.ReadBytes.waiting c.args.core.now (g.S.ReadBytes.image c.args.space.now) c.args.at c.in-Some.row (sym c.get.ensures ∙ c.in-Some.is) c.args.query.now _ _ _ c.label_of.result c.in-LabelOf.is c.label_of.ensures.reads

pub returns-in-ShapeOf-clause-told : goal.returns-in-ShapeOf-clause-told
returns-in-ShapeOf-clause-told g c =
    told_as c.args.core.now (g.S.ReadBytes.image c.args.space.now) c.args.at c.args.query.now _ c.shape_of.result c.in-ShapeOf.is c.shape_of.ensures.told

pub returns-in-ShapeOf-clause-kind : goal.returns-in-ShapeOf-clause-kind
returns-in-ShapeOf-clause-kind g c =
    subst (λ q. IfOk c.shape_of.result (IsReplyTo q)) (sym c.in-ShapeOf.is) c.shape_of.ensures.kind

pub returns-in-ShapeOf-clause-known : goal.returns-in-ShapeOf-clause-known
returns-in-ShapeOf-clause-known g c =
    read_known c.args.core.now c.args.at c.in-Some.row (sym c.get.ensures ∙ c.in-Some.is) c.args.query.now _ c.shape_of.result c.in-ShapeOf.is (λ reply. tt)

pub returns-in-ShapeOf-clause-reads : goal.returns-in-ShapeOf-clause-reads
returns-in-ShapeOf-clause-reads g c =
    row_asked g.S.ReadBytes.is_sound g.S.ReadBytes.image g.S.ReadBytes.state g.S.ReadBytes.waiting c.args.core.now (g.S.ReadBytes.image c.args.space.now) c.args.at c.in-Some.row (sym c.get.ensures ∙ c.in-Some.is) c.args.query.now _ _ _ c.shape_of.result c.in-ShapeOf.is c.shape_of.ensures.reads

pub returns-in-ChildrenOf-clause-told : goal.returns-in-ChildrenOf-clause-told
returns-in-ChildrenOf-clause-told g c =
    told_as c.args.core.now (g.S.ReadBytes.image c.args.space.now) c.args.at c.args.query.now _ c.children_of.result c.in-ChildrenOf.is c.children_of.ensures.told

pub returns-in-ChildrenOf-clause-kind : goal.returns-in-ChildrenOf-clause-kind
returns-in-ChildrenOf-clause-kind g c =
    subst (λ q. IfOk c.children_of.result (IsReplyTo q)) (sym c.in-ChildrenOf.is) c.children_of.ensures.kind

pub returns-in-ChildrenOf-clause-known : goal.returns-in-ChildrenOf-clause-known
returns-in-ChildrenOf-clause-known g c =
    read_known c.args.core.now c.args.at c.in-Some.row (sym c.get.ensures ∙ c.in-Some.is) c.args.query.now _ c.children_of.result c.in-ChildrenOf.is (λ reply. tt)

pub returns-in-ChildrenOf-clause-reads : goal.returns-in-ChildrenOf-clause-reads
returns-in-ChildrenOf-clause-reads g c =
    row_asked g.S.ReadBytes.is_sound g.S.ReadBytes.image g.S.ReadBytes.state g.S.ReadBytes.waiting c.args.core.now (g.S.ReadBytes.image c.args.space.now) c.args.at c.in-Some.row (sym c.get.ensures ∙ c.in-Some.is) c.args.query.now _ _ _ c.children_of.result c.in-ChildrenOf.is c.children_of.ensures.reads

pub returns-in-LinkText-clause-told : goal.returns-in-LinkText-clause-told
returns-in-LinkText-clause-told g c =
    told_as c.args.core.now (g.S.ReadBytes.image c.args.space.now) c.args.at c.args.query.now _ c.link_of.result c.in-LinkText.is c.link_of.ensures.told

pub returns-in-LinkText-clause-kind : goal.returns-in-LinkText-clause-kind
returns-in-LinkText-clause-kind g c =
    subst (λ q. IfOk c.link_of.result (IsReplyTo q)) (sym c.in-LinkText.is) c.link_of.ensures.kind

pub returns-in-LinkText-clause-known : goal.returns-in-LinkText-clause-known
returns-in-LinkText-clause-known g c =
    read_known c.args.core.now c.args.at c.in-Some.row (sym c.get.ensures ∙ c.in-Some.is) c.args.query.now _ c.link_of.result c.in-LinkText.is (λ reply. tt)

pub returns-in-LinkText-clause-reads : goal.returns-in-LinkText-clause-reads
returns-in-LinkText-clause-reads g c =
    row_asked g.S.ReadBytes.is_sound g.S.ReadBytes.image g.S.ReadBytes.state g.S.ReadBytes.waiting c.args.core.now (g.S.ReadBytes.image c.args.space.now) c.args.at c.in-Some.row (sym c.get.ensures ∙ c.in-Some.is) c.args.query.now _ _ _ c.link_of.result c.in-LinkText.is c.link_of.ensures.reads

pub returns-in-ReadAll-clause-told : goal.returns-in-ReadAll-clause-told
returns-in-ReadAll-clause-told g c =
    told_as c.args.core.now (g.S.ReadBytes.image c.args.space.now) c.args.at c.args.query.now _ c.all_of.result c.in-ReadAll.is c.all_of.ensures.told

pub returns-in-ReadAll-clause-kind : goal.returns-in-ReadAll-clause-kind
returns-in-ReadAll-clause-kind g c =
    subst (λ q. IfOk c.all_of.result (IsReplyTo q)) (sym c.in-ReadAll.is) c.all_of.ensures.kind

pub returns-in-ReadAll-clause-known : goal.returns-in-ReadAll-clause-known
returns-in-ReadAll-clause-known g c =
    read_known c.args.core.now c.args.at c.in-Some.row (sym c.get.ensures ∙ c.in-Some.is) c.args.query.now _ c.all_of.result c.in-ReadAll.is (λ reply. tt)

pub returns-in-ReadAll-clause-reads : goal.returns-in-ReadAll-clause-reads
returns-in-ReadAll-clause-reads g c =
    row_asked g.S.ReadBytes.is_sound g.S.ReadBytes.image g.S.ReadBytes.state g.S.ReadBytes.waiting c.args.core.now (g.S.ReadBytes.image c.args.space.now) c.args.at c.in-Some.row (sym c.get.ensures ∙ c.in-Some.is) c.args.query.now _ _ _ c.all_of.result c.in-ReadAll.is c.all_of.ensures.reads

pub returns-in-ReadPart-clause-told : goal.returns-in-ReadPart-clause-told
returns-in-ReadPart-clause-told g c =
    told_as c.args.core.now (g.S.ReadBytes.image c.args.space.now) c.args.at c.args.query.now _ c.part_of.result c.in-ReadPart.is c.part_of.ensures.told

pub returns-in-ReadPart-clause-kind : goal.returns-in-ReadPart-clause-kind
returns-in-ReadPart-clause-kind g c =
    subst (λ q. IfOk c.part_of.result (IsReplyTo q)) (sym c.in-ReadPart.is) c.part_of.ensures.kind

pub returns-in-ReadPart-clause-known : goal.returns-in-ReadPart-clause-known
returns-in-ReadPart-clause-known g c =
    read_known c.args.core.now c.args.at c.in-Some.row (sym c.get.ensures ∙ c.in-Some.is) c.args.query.now _ c.part_of.result c.in-ReadPart.is (λ reply. tt)

pub returns-in-ReadPart-clause-reads : goal.returns-in-ReadPart-clause-reads
returns-in-ReadPart-clause-reads g c =
    row_asked g.S.ReadBytes.is_sound g.S.ReadBytes.image g.S.ReadBytes.state g.S.ReadBytes.waiting c.args.core.now (g.S.ReadBytes.image c.args.space.now) c.args.at c.in-Some.row (sym c.get.ensures ∙ c.in-Some.is) c.args.query.now _ _ _ c.part_of.result c.in-ReadPart.is c.part_of.ensures.reads

pub returns-in-FormatOf-clause-told : goal.returns-in-FormatOf-clause-told
returns-in-FormatOf-clause-told g c =
    told_as c.args.core.now (g.S.ReadBytes.image c.args.space.now) c.args.at c.args.query.now _ c.format_of.result c.in-FormatOf.is c.format_of.ensures.told

pub returns-in-FormatOf-clause-kind : goal.returns-in-FormatOf-clause-kind
returns-in-FormatOf-clause-kind g c =
    subst (λ q. IfOk c.format_of.result (IsReplyTo q)) (sym c.in-FormatOf.is) c.format_of.ensures.kind

pub returns-in-FormatOf-clause-known : goal.returns-in-FormatOf-clause-known
returns-in-FormatOf-clause-known g c =
    read_known c.args.core.now c.args.at c.in-Some.row (sym c.get.ensures ∙ c.in-Some.is) c.args.query.now _ c.format_of.result c.in-FormatOf.is (λ reply. tt)

pub returns-in-FormatOf-clause-reads : goal.returns-in-FormatOf-clause-reads
returns-in-FormatOf-clause-reads g c =
    row_asked g.S.ReadBytes.is_sound g.S.ReadBytes.image g.S.ReadBytes.state g.S.ReadBytes.waiting c.args.core.now (g.S.ReadBytes.image c.args.space.now) c.args.at c.in-Some.row (sym c.get.ensures ∙ c.in-Some.is) c.args.query.now _ _ _ c.format_of.result c.in-FormatOf.is c.format_of.ensures.reads

pub returns-in-Find-clause-told : goal.returns-in-Find-clause-told
returns-in-Find-clause-told g c =
    find_told c.args.core.now (g.S.ReadBytes.image c.args.space.now) c.args.at c.in-Some.row (sym c.get.ensures ∙ c.in-Some.is) c.args.query.now _ _ c.in-Find.is

pub returns-in-Find-clause-reads : goal.returns-in-Find-clause-reads
returns-in-Find-clause-reads g c =
    find_asked g.S.ReadBytes.is_sound g.S.ReadBytes.image g.S.ReadBytes.state g.S.ReadBytes.waiting c.args.core.now (g.S.ReadBytes.image c.args.space.now) c.args.at c.in-Some.row (sym c.get.ensures ∙ c.in-Some.is) c.args.query.now _ _ c.args.space.now c.in-Find.is c.requires.sound

pub returns-in-Next-clause-told : goal.returns-in-Next-clause-told
returns-in-Next-clause-told g c =
    next_told c.args.core.now (g.S.ReadBytes.image c.args.space.now) c.args.at c.in-Some.row (sym c.get.ensures ∙ c.in-Some.is) c.args.query.now _ c.count.result c.in-Next.is c.count.ensures

pub returns-in-Next-clause-known : goal.returns-in-Next-clause-known
returns-in-Next-clause-known g c =
    one_known c.args.core.now c.args.at c.in-Some.row (sym c.get.ensures ∙ c.in-Some.is) c.args.query.now _ _ c.in-Next.is (ap (λ k. Reply.Node (record { file = c.args.at.file; serial = k })) c.count.ensures)

pub returns-in-Next-clause-reads : goal.returns-in-Next-clause-reads
returns-in-Next-clause-reads g c =
    nothing_read g.S.ReadBytes.is_sound g.S.ReadBytes.image g.S.ReadBytes.state g.S.ReadBytes.waiting c.args.core.now (g.S.ReadBytes.image c.args.space.now) c.args.at c.args.query.now c.args.space.now _ c.requires.sound tt

pub returns-in-Parent-clause-told : goal.returns-in-Parent-clause-told
returns-in-Parent-clause-told g c =
    parent_told c.args.core.now (g.S.ReadBytes.image c.args.space.now) c.args.at c.in-Some.row (sym c.get.ensures ∙ c.in-Some.is) c.args.query.now _ c.parent_of.result c.in-Parent.is c.parent_of.ensures

pub returns-in-Parent-clause-known : goal.returns-in-Parent-clause-known
returns-in-Parent-clause-known g c =
    parent_known c.args.core.now c.args.at c.in-Some.row (sym c.get.ensures ∙ c.in-Some.is) c.args.query.now _ c.parent_of.result c.in-Parent.is c.parent_of.ensures

pub returns-in-Parent-clause-reads : goal.returns-in-Parent-clause-reads
returns-in-Parent-clause-reads g c =
    parent_asked g.S.ReadBytes.is_sound g.S.ReadBytes.image g.S.ReadBytes.state g.S.ReadBytes.waiting c.args.core.now (g.S.ReadBytes.image c.args.space.now) c.args.at c.in-Some.row (sym c.get.ensures ∙ c.in-Some.is) c.args.query.now _ c.args.space.now c.parent_of.result c.in-Parent.is c.requires.sound c.parent_of.ensures

pub returns-in-Target-clause-told : goal.returns-in-Target-clause-told
returns-in-Target-clause-told g c =
    target_told c.args.core.now (g.S.ReadBytes.image c.args.space.now) c.args.at c.in-Some.row (sym c.get.ensures ∙ c.in-Some.is) c.args.query.now _ c.in-Target.is

pub returns-in-Target-clause-known : goal.returns-in-Target-clause-known
returns-in-Target-clause-known g c =
    one_known c.args.core.now c.args.at c.in-Some.row (sym c.get.ensures ∙ c.in-Some.is) c.args.query.now _ _ c.in-Target.is refl

pub returns-in-Target-clause-reads : goal.returns-in-Target-clause-reads
returns-in-Target-clause-reads g c =
    nothing_read g.S.ReadBytes.is_sound g.S.ReadBytes.image g.S.ReadBytes.state g.S.ReadBytes.waiting c.args.core.now (g.S.ReadBytes.image c.args.space.now) c.args.at c.args.query.now c.args.space.now _ c.requires.sound tt

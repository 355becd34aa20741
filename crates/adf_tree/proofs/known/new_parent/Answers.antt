use Rattle.std.proofs.Common.{sym}
use Rattle.adf_tree.proofs.LookedFirst.{create_parent, link_parent, no_parent}
use Rattle.adf_tree.proofs.known.new_parent.Goals as goal

pub returns-in-Create : goal.returns-in-Create
returns-in-Create c =
    create_parent c.args.edit.now c.args.there _ c.or_reached.result _ c.items.result.now c.are_texts.result c.where_named.result _ c.items-in-Create.result.now c.in-Create.is c.where_named.ensures c.are_texts.ensures c.or_reached.ensures
    c.items.ensures c.items-in-Create.ensures

pub returns-in-Link : goal.returns-in-Link
returns-in-Link c =
    link_parent c.args.edit.now c.args.there _ c.or_reached-in-Link.result _ c.items-in-Link.result.now c.is_name.result c.where_named-in-Link.result _ _ c.in-Link.is c.where_named-in-Link.ensures c.is_name.ensures
    c.or_reached-in-Link.ensures c.items-in-Link.ensures

pub returns-in_default : goal.returns-in_default
returns-in_default c = sym (no_parent c.args.edit.now c.args.there c.in_default.not-Create c.in_default.not-Link)

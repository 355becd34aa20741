use Rattle.std.proofs.Common.{ap, refl, subst}
use Rattle.adf_model.specs.declared.tree.Edit.{Edit}
use Rattle.kept_names.specs.Kept.{NamesState}
use Rattle.adf_tree.specs.KeptLists.{FollowsEdit}
use Rattle.adf_tree.specs.Reached.{with_reached}
use Rattle.adf_tree.proofs.FollowsEdits.{follows_create, follows_link, follows_move, follows_rename, follows_rest}
use Rattle.adf_tree.proofs.KeptNames.{none_are}
use Rattle.adf_tree.proofs.ReachedEdits.{reached_create, reached_link, reached_move, reached_name}
use Rattle.adf_tree.proofs.names.follow.Goals as goal

pub returns-in-Create : goal.returns-in-Create
returns-in-Create c =
    subst (λ (e : Edit). FollowsEdit e c.args.above c.args.drawn c.args.names.now c.follow_child.new.names)
    (reached_create c.args.edit.now c.args.there _ _ _ _ _ _ c.in-Create.is c.or_reached.ensures c.items.ensures refl)
    (follows_create c.or_reached.result c.items.result.now _ c.args.above c.args.drawn c.args.names.now c.follow_child.new.names c.follow_child.ensures)

pub returns-in-Link : goal.returns-in-Link
returns-in-Link c =
    subst (λ (e : Edit). FollowsEdit e c.args.above c.args.drawn c.args.names.now c.follow_child-in-Link.new.names)
    (reached_link c.args.edit.now c.args.there _ _ _ _ _ _ _ _ c.in-Link.is c.or_reached-in-Link.ensures c.items-in-Link.ensures refl refl)
    (follows_link c.or_reached-in-Link.result c.items-in-Link.result.now _ _ c.args.above c.args.drawn c.args.names.now c.follow_child-in-Link.new.names c.follow_child-in-Link.ensures)

pub returns-in-Delete : goal.returns-in-Delete
returns-in-Delete c = λ tree after was is reached made top draws are. none_are c.clear.new.self _ was (ap (λ (names : NamesState). names.lists) c.clear.ensures)

pub returns-in-Rename : goal.returns-in-Rename
returns-in-Rename c =
    subst (λ (e : Edit). FollowsEdit e c.args.above c.args.drawn c.args.names.now c.drop_list.new.names)
    (reached_name c.args.edit.now c.args.there _ _ _ c.in-Rename.is refl)
    (follows_rename _ _ c.args.above c.args.drawn c.args.names.now c.drop_list.new.names c.drop_list.ensures)

pub returns-in-Move : goal.returns-in-Move
returns-in-Move c =
    subst (λ (e : Edit). FollowsEdit e c.args.above c.args.drawn c.args.names.now c.forget.new.self)
    (reached_move c.args.edit.now c.args.there _ _ _ c.in-Move.is c.or_reached-in-Move.ensures)
    (follows_move _ c.or_reached-in-Move.result c.args.above c.args.drawn c.args.names.now c.drop_list-in-Move.new.names c.forget.new.self c.drop_list-in-Move.ensures c.forget.ensures.tied)

pub returns-in_default : goal.returns-in_default
returns-in_default c =
    follows_rest c.args.edit.now c.args.there c.args.above c.args.drawn c.args.names.now
    c.in_default.not-Create c.in_default.not-Link c.in_default.not-Delete c.in_default.not-Rename c.in_default.not-Move

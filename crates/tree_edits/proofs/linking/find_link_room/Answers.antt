use Rattle.std.proofs.Common.{sym, ap, subst}
use Rattle.std.specs.Prelude.{IfSome, Err}
use Rattle.adf_model.specs.declared.error.AdfError.{AdfError}
use Rattle.adf_model.specs.declared.tree.Edit.{Edit}
use Rattle.tree_edits.specs.Edits.{Refuses}
use Rattle.tree_edits.specs.Linkable.{IsLinkRoomCause, are_linked}
use Rattle.tree_edits.proofs.Links.{refused_room, room_cause, refused_join, same_test}
use Rattle.tree_edits.proofs.linking.find_link_room.Goals as goal

pub returns-in-Err-clause-refused : goal.returns-in-Err-clause-refused
returns-in-Err-clause-refused g c =
    let held = g.S.ReadBytes.image c.args.space.now in
    let linked = same_test c.is_linked.result (are_linked c.args.file.now c.args.path.now) c.is_linked.ensures c.join_link-joined.ensures.grammar in
    subst (λ (e : AdfError). IfSome held (Refuses (Edit.Link c.args.at c.args.name.now c.args.file.now c.args.path.now) c.args.core.now e)) (sym c.link_error.ensures)
    (refused_room c.args.core.now c.args.at c.args.name.now c.args.file.now c.args.path.now held _ _ c.in-Err.error c.is_linked.result linked c.in-Err.ensures.reads.cause c.in-Err.ensures.refused)

pub returns-in-Err-clause-reads : goal.returns-in-Err-clause-reads
returns-in-Err-clause-reads g c =
    let held = g.S.ReadBytes.image c.args.space.now in
    let linked = same_test c.is_linked.result (are_linked c.args.file.now c.args.path.now) c.is_linked.ensures c.join_link-joined.ensures.grammar in
    record {
      sound = c.in-Err.ensures.reads.sound;
      bytes = c.in-Err.ensures.reads.bytes;
      waits = c.in-Err.ensures.reads.waits;
      effect = c.in-Err.ensures.reads.effect;
      cause = subst (λ (e : AdfError). IsLinkRoomCause c.args.core.now c.args.at c.args.name.now c.args.file.now c.args.path.now held (g.S.ReadBytes.state c.args.space.now).faults (g.S.ReadBytes.state c.find_room.new.space).faults e) (sym c.link_error.ensures)
          (room_cause c.args.core.now c.args.at c.args.name.now c.args.file.now c.args.path.now held _ _ c.in-Err.error c.is_linked.result linked c.in-Err.ensures.reads.cause);
    }

pub returns-in-Err-joined-clause-refused : goal.returns-in-Err-joined-clause-refused
returns-in-Err-joined-clause-refused g c =
    refused_join c.args.core.now c.args.at c.args.name.now c.args.file.now c.args.path.now c.in-Ok.parent (g.S.ReadBytes.image c.args.space.now) c.in-Ok.ensures.room c.in-Err-joined.error c.in-Err-joined.ensures.refused
    (λ same. c.in-Err-joined.ensures.grammar.0 (ap (λ (e : AdfError). Err e) same)) (λ same. c.in-Err-joined.ensures.limit.0 (ap (λ (e : AdfError). Err e) same))

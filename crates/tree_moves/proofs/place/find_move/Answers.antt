use Rattle.std.proofs.Common.{◌∙◌, sym, refl, subst, Bool, true, false}
use Rattle.std.specs.Prelude.{◌==◌}
use Rattle.cg_io.proofs.ReadLaws.{few_only, only_then}
use Rattle.node_reads.specs.Reads.{IsUnread}
use Rattle.tree_edits.specs.declared.room.Parent.{Parent}
use Rattle.tree_edits.specs.Listed.{IsTableOf}
use Rattle.tree_edits.proofs.Causes.{row_there}
use Rattle.tree_edits.proofs.KnownNames.{known_table}
use Rattle.tree_moves.specs.Movable.{IsSource, SourceBreaks, HasMoveRoom, LacksMoveRoom, MayMove, IsMoveNear}
use Rattle.tree_moves.proofs.Found.{target_is_cause, parent_is_cause, fault_is_cause, source_is_cause, duplicate_is_cause, room_is_cause, may_move, near_is, list_is, looks_again, near_whole}
use Rattle.tree_moves.proofs.place.find_move.Goals as goal

pub returns-in-Err-clause-reads : goal.returns-in-Err-clause-reads
returns-in-Err-clause-reads g c = record {
  sound = c.in-Err.ensures.reads.sound;
  bytes = c.in-Err.ensures.reads.bytes;
  waits = c.in-Err.ensures.reads.waits;
  effect = few_only _ _ _ c.in-Err.ensures.reads.effect;
  cause = target_is_cause c.args.core.now c.args.node c.args.at (g.S.ReadBytes.image c.args.space.now) (row_there _ c.in-Some.row (sym c.get.ensures ∙ c.in-Some.is)) _ _ c.in-Err.error c.in-Err.ensures.reads.cause;
}

pub returns-in-Err-find_parent-clause-reads : goal.returns-in-Err-find_parent-clause-reads
returns-in-Err-find_parent-clause-reads g c = record {
  sound = c.in-Ok.ensures.reads.sound;
  bytes = c.in-Ok.ensures.reads.bytes;
  waits = c.in-Ok.ensures.reads.waits;
  effect = few_only _ _ _ c.in-Ok.ensures.reads.effect;
  cause = parent_is_cause c.args.core.now c.args.node c.args.at (g.S.ReadBytes.image c.args.space.now) c.in-Some.row c.in-Ok.target (record { found = sym c.get.ensures ∙ c.in-Some.is; target = c.in-Ok.ensures.target }) _ _ c.in-Err-find_parent.error c.in-Err-find_parent.ensures.lacks;
}

pub find_source-requires-clause-header : goal.find_source-requires-clause-header
find_source-requires-clause-header g c = near_whole c.args.core.now.wide c.args.core.now.rows.items c.args.node.serial c.in-Some.row c.requires.near (sym c.get.ensures ∙ c.in-Some.is)

pub returns-in-Err-find_source-clause-reads : goal.returns-in-Err-find_source-clause-reads
returns-in-Err-find_source-clause-reads g c =
    let held = g.S.ReadBytes.image c.args.space.now in
    let one = few_only _ _ _ c.in-Ok.ensures.reads.effect in
    record {
      sound = c.in-Err-find_source.ensures.reads.sound;
      bytes = c.in-Err-find_source.ensures.reads.bytes ∙ c.in-Ok.ensures.reads.bytes;
      waits = c.in-Err-find_source.ensures.reads.waits ∙ c.in-Ok.ensures.reads.waits;
      effect = only_then _ _ _ one c.in-Err-find_source.ensures.reads.effect;
      cause = source_is_cause c.args.core.now c.args.node c.args.at held c.in-Some.row c.in-Ok.target (record { found = sym c.get.ensures ∙ c.in-Some.is; target = c.in-Ok.ensures.target }) c.in-Ok-find_parent.parent c.in-Ok-find_parent.ensures.leaves
          _ (g.S.ReadBytes.state c.find_target.new.space).faults _ c.in-Err-find_source.error one.faults
          (subst (λ h. IsUnread (SourceBreaks c.args.core.now h c.in-Some.row c.in-Ok-find_parent.parent) (g.S.ReadBytes.state c.find_target.new.space).faults (g.S.ReadBytes.state c.find_source.new.space).faults c.in-Err-find_source.error) c.in-Ok.ensures.reads.bytes c.in-Err-find_source.ensures.reads.cause);
    }

pub returns-in-Err-is_taken-clause-reads : goal.returns-in-Err-is_taken-clause-reads
returns-in-Err-is_taken-clause-reads g c =
    let held = g.S.ReadBytes.image c.args.space.now in
    let two = only_then _ _ _ (few_only _ _ _ c.in-Ok.ensures.reads.effect) c.in-Ok-find_source.ensures.reads.effect in
    record {
      sound = c.in-Err-is_taken.ensures.reads.sound;
      bytes = c.in-Err-is_taken.ensures.reads.bytes ∙ c.in-Ok-find_source.ensures.reads.bytes ∙ c.in-Ok.ensures.reads.bytes;
      waits = c.in-Err-is_taken.ensures.reads.waits ∙ c.in-Ok-find_source.ensures.reads.waits ∙ c.in-Ok.ensures.reads.waits;
      effect = only_then _ _ _ two c.in-Err-is_taken.ensures.reads.effect;
      cause = fault_is_cause c.args.core.now c.args.node c.args.at held c.in-Some.row c.in-Ok.target (record { found = sym c.get.ensures ∙ c.in-Some.is; target = c.in-Ok.ensures.target }) _ (g.S.ReadBytes.state c.find_source.new.space).faults _ c.in-Err-is_taken.error two.faults c.in-Err-is_taken.ensures.reads.cause;
    }

pub returns-then-taken-clause-reads : goal.returns-then-taken-clause-reads
returns-then-taken-clause-reads g c =
    let held = g.S.ReadBytes.image c.args.space.now in
    let last : Bool = c.in-Ok-find_parent.parent == c.args.at.serial in
    record {
      sound = c.in-Ok-is_taken.ensures.reads.sound;
      bytes = c.in-Ok-is_taken.ensures.reads.bytes ∙ c.in-Ok-find_source.ensures.reads.bytes ∙ c.in-Ok.ensures.reads.bytes;
      waits = c.in-Ok-is_taken.ensures.reads.waits ∙ c.in-Ok-find_source.ensures.reads.waits ∙ c.in-Ok.ensures.reads.waits;
      effect = only_then _ _ _ (only_then _ _ _ (few_only _ _ _ c.in-Ok.ensures.reads.effect) c.in-Ok-find_source.ensures.reads.effect) c.in-Ok-is_taken.ensures.reads.effect;
      cause = duplicate_is_cause c.args.core.now c.args.node c.args.at held c.in-Some.row c.in-Ok.target (record { found = sym c.get.ensures ∙ c.in-Some.is; target = c.in-Ok.ensures.target }) c.in-Ok-find_parent.parent c.in-Ok-find_parent.ensures.leaves c.in-Ok-find_source.source
          (subst (λ h. IsSource c.args.core.now h c.in-Some.row c.in-Ok-find_parent.parent c.in-Ok-find_source.source) c.in-Ok.ensures.reads.bytes c.in-Ok-find_source.ensures.source) last refl 0 0
          (looks_again held (g.S.ReadBytes.image c.find_source.new.space) c.with_list-to.result _ c.in-Ok-find_source.source.name c.own_entry-own.result _ c.in-Ok-is_taken.taken true (c.in-Ok-find_source.ensures.reads.bytes ∙ c.in-Ok.ensures.reads.bytes) c.with_list-to.ensures c.own_entry-own.ensures c.if-taken.true c.in-Ok-is_taken.ensures.taken);
    }

pub returns-in-Ok-has_room-clause-may : goal.returns-in-Ok-has_room-clause-may
returns-in-Ok-has_room-clause-may g c =
    let held = g.S.ReadBytes.image c.args.space.now in
    let last : Bool = c.in-Ok-find_parent.parent == c.args.at.serial in
    subst (λ (to : Parent). MayMove c.args.core.now c.args.node c.args.at held (record { row = c.in-Some.row; source = c.in-Ok-find_source.source; to = to; last = last })) (sym c.with_list-to.ensures)
    (may_move c.args.core.now c.args.node c.args.at held c.in-Some.row c.in-Ok.target (record { found = sym c.get.ensures ∙ c.in-Some.is; target = c.in-Ok.ensures.target }) c.in-Ok-find_parent.parent c.in-Ok-find_parent.ensures.leaves c.in-Ok-find_source.source
    (subst (λ h. IsSource c.args.core.now h c.in-Some.row c.in-Ok-find_parent.parent c.in-Ok-find_source.source) c.in-Ok.ensures.reads.bytes c.in-Ok-find_source.ensures.source) last refl
    (looks_again held (g.S.ReadBytes.image c.find_source.new.space) c.with_list-to.result _ c.in-Ok-find_source.source.name c.own_entry-own.result _ c.in-Ok-is_taken.taken false (c.in-Ok-find_source.ensures.reads.bytes ∙ c.in-Ok.ensures.reads.bytes) c.with_list-to.ensures c.own_entry-own.ensures c.if-taken.false c.in-Ok-is_taken.ensures.taken)
    (subst (HasMoveRoom c.args.core.now c.args.node c.in-Some.row) c.with_list-to.ensures c.in-Ok-has_room.ensures.room))

pub returns-in-Ok-has_room-clause-near : goal.returns-in-Ok-has_room-clause-near
returns-in-Ok-has_room-clause-near g c =
    let held = g.S.ReadBytes.image c.args.space.now in
    let last : Bool = c.in-Ok-find_parent.parent == c.args.at.serial in
    subst (λ (to : Parent). IsMoveNear (record { row = c.in-Some.row; source = c.in-Ok-find_source.source; to = to; last = last })) (sym c.with_list-to.ensures)
    (near_is c.args.core.now c.args.node c.args.at held c.in-Some.row c.in-Ok.target (record { found = sym c.get.ensures ∙ c.in-Some.is; target = c.in-Ok.ensures.target }) c.in-Ok-find_parent.parent c.in-Ok-find_parent.ensures.leaves c.in-Ok-find_source.source
    (subst (λ h. IsSource c.args.core.now h c.in-Some.row c.in-Ok-find_parent.parent c.in-Ok-find_source.source) c.in-Ok.ensures.reads.bytes c.in-Ok-find_source.ensures.source) last refl c.in-Ok.ensures.few c.in-Ok.ensures.within c.in-Ok-find_source.ensures.within)

pub returns-in-Ok-has_room-clause-reads : goal.returns-in-Ok-has_room-clause-reads
returns-in-Ok-has_room-clause-reads g c = record {
  sound = c.in-Ok-is_taken.ensures.reads.sound;
  bytes = c.in-Ok-is_taken.ensures.reads.bytes ∙ c.in-Ok-find_source.ensures.reads.bytes ∙ c.in-Ok.ensures.reads.bytes;
  waits = c.in-Ok-is_taken.ensures.reads.waits ∙ c.in-Ok-find_source.ensures.reads.waits ∙ c.in-Ok.ensures.reads.waits;
  effect = only_then _ _ _ (only_then _ _ _ (few_only _ _ _ c.in-Ok.ensures.reads.effect) c.in-Ok-find_source.ensures.reads.effect) c.in-Ok-is_taken.ensures.reads.effect;
  cause = tt;
}

pub returns-in-Err-has_room-clause-reads : goal.returns-in-Err-has_room-clause-reads
returns-in-Err-has_room-clause-reads g c =
    let held = g.S.ReadBytes.image c.args.space.now in
    let last : Bool = c.in-Ok-find_parent.parent == c.args.at.serial in
    record {
      sound = c.in-Ok-is_taken.ensures.reads.sound;
      bytes = c.in-Ok-is_taken.ensures.reads.bytes ∙ c.in-Ok-find_source.ensures.reads.bytes ∙ c.in-Ok.ensures.reads.bytes;
      waits = c.in-Ok-is_taken.ensures.reads.waits ∙ c.in-Ok-find_source.ensures.reads.waits ∙ c.in-Ok.ensures.reads.waits;
      effect = only_then _ _ _ (only_then _ _ _ (few_only _ _ _ c.in-Ok.ensures.reads.effect) c.in-Ok-find_source.ensures.reads.effect) c.in-Ok-is_taken.ensures.reads.effect;
      cause = room_is_cause c.args.core.now c.args.node c.args.at held c.in-Some.row c.in-Ok.target (record { found = sym c.get.ensures ∙ c.in-Some.is; target = c.in-Ok.ensures.target }) c.in-Ok-find_parent.parent c.in-Ok-find_parent.ensures.leaves c.in-Ok-find_source.source
          (subst (λ h. IsSource c.args.core.now h c.in-Some.row c.in-Ok-find_parent.parent c.in-Ok-find_source.source) c.in-Ok.ensures.reads.bytes c.in-Ok-find_source.ensures.source) last refl
          (looks_again held (g.S.ReadBytes.image c.find_source.new.space) c.with_list-to.result _ c.in-Ok-find_source.source.name c.own_entry-own.result _ c.in-Ok-is_taken.taken false (c.in-Ok-find_source.ensures.reads.bytes ∙ c.in-Ok.ensures.reads.bytes) c.with_list-to.ensures c.own_entry-own.ensures c.if-taken.false c.in-Ok-is_taken.ensures.taken)
          _ _ c.in-Err-has_room.error (subst (λ (to : Parent). LacksMoveRoom c.args.core.now c.args.node c.in-Some.row to c.in-Err-has_room.error) c.with_list-to.ensures c.in-Err-has_room.ensures.lacks);
    }

pub is_taken-requires-clause-known : goal.is_taken-requires-clause-known
is_taken-requires-clause-known g c =
    let core = c.args.core.now in
    let held = g.S.ReadBytes.image c.args.space.now in
    let last : Bool = c.in-Ok-find_parent.parent == c.args.at.serial in
    known_table (λ list. list.now) core held _ c.args.at.serial c.with_list-to.result.table
    (subst (λ (to : Parent). IsTableOf core held c.args.at.serial to.table) (sym c.with_list-to.ensures)
    (list_is core c.args.at held c.in-Some.row c.in-Ok.target c.in-Ok.ensures.target c.in-Ok-find_parent.parent c.in-Ok-find_source.source
    (subst (λ h. IsSource core h c.in-Some.row c.in-Ok-find_parent.parent c.in-Ok-find_source.source) c.in-Ok.ensures.reads.bytes c.in-Ok-find_source.ensures.source) last refl))
    (c.in-Ok-find_source.ensures.reads.bytes ∙ c.in-Ok.ensures.reads.bytes) c.args.known c.requires.known

use Rattle.std.proofs.Common.{◌&&◌, pos}
use Rattle.std.specs.Ordering.{int_eq}
use Rattle.std.proofs.lemmas.Bool.Decides.{same_from_decides, Decides-and, Decides-int_eq}
use Rattle.sids_rules.specs.OffsetRules.{has_bad_piece}
use Rattle.sids_rules.proofs.OffsetsDecided.{offsets_decided, mixed_pieces_decided}
use Rattle.sids_offset_rules.proofs.pieces.has_bad_piece.Goals as goal

pub breaks_k38-requires : goal.breaks_k38-requires
breaks_k38-requires c = (offsets_decided c.args.offsets.now _).0 c.requires

pub returns : goal.returns
returns c =
    let entries = c.args.entries.now in
    let offsets = c.args.offsets.now in
    same_from_decides c.breaks_k38.result (int_eq (pos 20) (pos 20) && has_bad_piece entries offsets) c.breaks_k38.ensures
    (Decides-and (int_eq (pos 20) (pos 20)) (has_bad_piece entries offsets) (Decides-int_eq (pos 20) (pos 20)) (mixed_pieces_decided entries offsets))

use Rattle.std.proofs.Common.{◌∙◌, sym, pos, true, false}
use Rattle.std.proofs.lemmas.Bool.Decides.{same_from_decides}
use Rattle.std.proofs.lemmas.Bool.{false≢true}
use Rattle.sids_rules.specs.OffsetRules.{has_bad_node, has_bad_piece_node}
use Rattle.sids_rules.proofs.OffsetsDecided.{offsets_decided, mixed_pieces_decided, piece_nodes_decided}
use Rattle.sids_readings.proofs.TextLaws.{or_false}
use Rattle.sids_offset_rules.proofs.pieces.has_bad_node.Goals as goal

pub breaks_k39-requires-clause-offsets : goal.breaks_k39-requires-clause-offsets
breaks_k39-requires-clause-offsets c = (offsets_decided c.args.offsets.now _).0 c.requires.offsets

pub breaks_k39-requires-clause-pieces : goal.breaks_k39-requires-clause-pieces
breaks_k39-requires-clause-pieces c some = false≢true (sym c.requires.pieces ∙ (mixed_pieces_decided c.args.entries.now c.args.offsets.now).1 some.1)

pub returns : goal.returns
returns c =
    let entries = c.args.entries.now in
    let offsets = c.args.offsets.now in
    same_from_decides c.breaks_k39.result (has_bad_piece_node (pos 20) entries offsets c.args.limit) c.breaks_k39.ensures (piece_nodes_decided (pos 20) entries offsets c.args.limit)
    ∙ or_false (has_bad_node 1 entries offsets c.args.limit)

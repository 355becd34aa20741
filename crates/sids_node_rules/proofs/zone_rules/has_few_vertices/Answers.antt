use Rattle.std.proofs.lemmas.Bool.Decides.{same_from_decides}
use Rattle.sids_rules.proofs.Decided.{vertex_size_decided}
use Rattle.sids_node_rules.proofs.zone_rules.has_few_vertices.Goals as goal

pub returns : goal.returns
returns c = same_from_decides _ _ c.breaks_k09.ensures (vertex_size_decided c.args.vertex.now c.args.cell.now)

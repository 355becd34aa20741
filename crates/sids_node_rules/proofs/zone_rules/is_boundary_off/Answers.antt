use Rattle.std.proofs.lemmas.Bool.Decides.{same_from_decides}
use Rattle.sids_rules.proofs.Decided.{boundary_size_decided}
use Rattle.sids_node_rules.proofs.zone_rules.is_boundary_off.Goals as goal

pub returns : goal.returns
returns c = same_from_decides _ _ c.breaks_k11.ensures (boundary_size_decided c.args.kind c.args.vertex.now c.args.boundary.now)

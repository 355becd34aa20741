use Rattle.std.proofs.Common.{◌≡◌, map, subst, [], ◌∷◌, Ok}
use Rattle.adf_library.specs.Places.{in_work, file_of}
use Rattle.adf_library.proofs.slots.SlotsAskedFiles.enter_query.Goals as goal
use Rattle.adf_model.specs.Calls.{tests_at_entry}
use Rattle.adf_model.specs.Tests.{checked}
use Rattle.adf_model.specs.declared.tree.NodeId.{NodeId}

pub returns : goal.returns
returns g c =
    subst (λ (n : NodeId). c.enter_node.result ≡ checked (tests_at_entry (map (file_of in_work g.D.Device.state) c.args.self.now.items.items) (n ∷ [])) (Ok tt)) c.asked_node.ensures c.enter_node.ensures

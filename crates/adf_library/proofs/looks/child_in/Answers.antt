use Rattle.std.proofs.Common.{refl, sym, ◌∙◌, subst, Ok}
use Rattle.adf_format.specs.Tree.{child_named}
use Rattle.adf_library.specs.Places.{IsReadyPlace}
use Rattle.adf_library.proofs.FileLooks.{sees_open}
use Rattle.adf_library.proofs.looks.child_in.Goals as goal
use Rattle.adf_model.specs.Follow.{as_child, child_of_open}

pub returns-else-is_broken-clause-found : goal.returns-else-is_broken-clause-found
returns-else-is_broken-clause-found g c =
    sees_open g.D.Device.state c.args.slot.now c.in-Open.file c.child_at.new.self c.in-Open.is (subst (IsReadyPlace g.D.Device.state) c.in-Open.is c.requires)
    (as_child c.args.node.file) (λ tree. Ok (child_named tree c.args.node.serial c.args.name.now)) (λ o. Ok (child_of_open o c.args.node c.args.name.now)) c.child_at.result
    (sym c.is_broken.ensures ∙ c.if-is_broken.false) (λ opened. refl) c.child_at.ensures.ends

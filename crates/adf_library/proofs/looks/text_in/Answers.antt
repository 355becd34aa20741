use Rattle.std.proofs.Common.{refl, sym, ◌∙◌, subst, Ok}
use Rattle.adf_follow.specs.Looking.{as_is}
use Rattle.adf_format.specs.Tree.{node_at}
use Rattle.adf_library.specs.Places.{IsReadyPlace}
use Rattle.adf_library.proofs.FileLooks.{sees_open}
use Rattle.adf_library.proofs.looks.text_in.Goals as goal
use Rattle.adf_model.specs.Follow.{text_in, text_of_open}

pub returns-else-is_broken-clause-found : goal.returns-else-is_broken-clause-found
returns-else-is_broken-clause-found g c =
    sees_open g.D.Device.state c.args.slot.now c.in-Open.file c.text_at.new.self c.in-Open.is (subst (IsReadyPlace g.D.Device.state) c.in-Open.is c.requires)
    as_is (λ tree. Ok (text_in (node_at tree c.args.serial))) (λ o. Ok (text_of_open o c.args.serial)) c.text_at.result
    (sym c.is_broken.ensures ∙ c.if-is_broken.false) (λ opened. refl) c.text_at.ensures.ends

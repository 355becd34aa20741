use Rattle.std.proofs.Common.{◌≡◌, sym, ◌∙◌, subst, true, false, Ok, Err}
use Rattle.adf_library.specs.Calls.{entry_tests}
use Rattle.adf_library.specs.Places.{in_work, slot_in}
use Rattle.adf_library.specs.declared.places.Place.{Place}
use Rattle.adf_library.proofs.EnterLaws.{enter_sound}
use Rattle.adf_library.proofs.looks.enter.Goals as goal
use Rattle.adf_model.specs.Tests.{checked}
use Rattle.adf_model.specs.declared.error.AdfError.TheVariants.{NoSuchNode}
use Rattle.adf_tree.specs.Files.{state_of}

pub returns-then-is_live : goal.returns-then-is_live
returns-then-is_live g c =
    subst (λ (p : Place _). Ok tt ≡ checked (entry_tests (slot_in in_work g.D.Device.state p) c.args.serial) (Ok tt)) (sym c.in-Open.is)
    (enter_sound (state_of g.D.Device.state c.in-Open.file) c.args.serial true (sym c.is_broken.ensures ∙ c.if-is_broken.false) (sym c.if-is_live.true ∙ c.is_live.ensures))

pub returns-else-is_live : goal.returns-else-is_live
returns-else-is_live g c =
    subst (λ (p : Place _). Err NoSuchNode ≡ checked (entry_tests (slot_in in_work g.D.Device.state p) c.args.serial) (Ok tt)) (sym c.in-Open.is)
    (enter_sound (state_of g.D.Device.state c.in-Open.file) c.args.serial false (sym c.is_broken.ensures ∙ c.if-is_broken.false) (sym c.if-is_live.false ∙ c.is_live.ensures))

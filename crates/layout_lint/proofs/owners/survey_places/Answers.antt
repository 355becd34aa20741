use Rattle.std.proofs.Common.{sym, subst}
use Rattle.layout_lint.specs.Owners.{IsNoLayout, OwnsPlaces, AreNamesAt}
use Rattle.layout_lint.proofs.OwnerSteps.{no_layout}
use Rattle.layout_lint.proofs.owners.survey_places.Goals as goal

pub returns-in-Ok-clause-all : goal.returns-in-Ok-clause-all
returns-in-Ok-clause-all g c = λ image told tree p is. subst (OwnsPlaces tree p c.args.places.now) (sym c.new.ensures) (c.in-Ok.ensures.all image told tree p is)

pub returns-in-Ok-clause-named : goal.returns-in-Ok-clause-named
returns-in-Ok-clause-named g c = λ image told tree p is. subst (AreNamesAt tree p c.args.places.now) (sym c.new-in-Ok.ensures) (c.in-Ok.ensures.named image told tree p is)

pub returns-in-Err-clause-refused : goal.returns-in-Err-clause-refused
returns-in-Err-clause-refused g c = λ image told tree p is. subst IsNoLayout (sym c.refusal.ensures) (no_layout c.in-Err.halt (c.in-Err.ensures.sound image told tree p is))

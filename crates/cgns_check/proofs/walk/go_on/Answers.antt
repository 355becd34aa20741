use Rattle.std.proofs.Common.{◌∙◌, sym, ap, subst, List, reverse}
use Rattle.adf_model.specs.Slots.{Files}
use Rattle.cgns_check.specs.Level.{Level}
use Rattle.cgns_check.specs.Levels.{Goes}
use Rattle.cgns_check.specs.Nexts.{LastWaits}
use Rattle.cgns_check.specs.Checked.{IsNext, still_to_come}
use Rattle.cgns_check.proofs.LevelLaws.{last_waits}
use Rattle.cgns_check.proofs.WalkLaws.{AllSeen, dropped_few, drop_waits, drop_comes, refused_as}
use Rattle.cgns_check.proofs.walk.go_on.Goals as goal

pub step-requires-clause-shallow : goal.step-requires-clause-shallow
step-requires-clause-shallow g c = dropped_few c.args.frames.now.items c.drop_done.new.frames.items c.drop_done.ensures c.requires.shallow

pub step-requires-clause-waits : goal.step-requires-clause-waits
step-requires-clause-waits g c = subst LastWaits (sym c.drop_done.ensures) (last_waits (reverse c.args.frames.now.items))

pub step-requires-clause-stands : goal.step-requires-clause-stands
step-requires-clause-stands g c told =
    let files = g.C.TreeCalls.files c.args.calls.now in
    subst (AllSeen files) (sym (drop_waits files c.args.frames.now.items c.drop_done.new.frames.items c.drop_done.ensures)) (c.requires.stands told)

pub returns-clause-next : goal.returns-clause-next
returns-clause-next g c told =
    let files = g.C.TreeCalls.files c.args.calls.now in
    subst (λ before. IsNext files before c.step.result (still_to_come files (Goes (reverse c.step.new.frames.items))))
    (drop_comes files c.args.frames.now.items c.drop_done.new.frames.items c.drop_done.ensures) (c.step.ensures.next told)

pub returns-clause-refused : goal.returns-clause-refused
returns-clause-refused g c =
    refused_as _ _ (λ same (files : Files). ap (λ (frames : List Level). still_to_come files (Goes (reverse frames))) same ∙ drop_comes files c.args.frames.now.items c.drop_done.new.frames.items c.drop_done.ensures)
    c.step.result c.step.ensures.refused

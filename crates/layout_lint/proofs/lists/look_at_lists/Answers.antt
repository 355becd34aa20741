use Rattle.std.proofs.Common.{refl}
use Rattle.layout_lint.proofs.FreeTableLaws.{sweep_begins, sweep_ends}
use Rattle.layout_lint.proofs.lists.look_at_lists.Goals as goal

pub returns-in-Ok-clause-found : goal.returns-in-Ok-clause-found
returns-in-Ok-clause-found g c = λ image told nodes span says kept used.
    sweep_ends image nodes c.args.extents.items c.sweep.new.frees
    (c.in-Ok.ensures.goes_on image told nodes c.args.extents.items span (record { said = says; kept = kept }) (sweep_begins image nodes c.args.extents.items _ c.new.ensures refl used))

pub returns-in-Err-clause-stops : goal.returns-in-Err-clause-stops
returns-in-Err-clause-stops g c = λ image told nodes span says kept used.
    c.in-Err.ensures.stops image told nodes c.args.extents.items span (record { said = says; kept = kept }) (sweep_begins image nodes c.args.extents.items _ c.new.ensures refl used)

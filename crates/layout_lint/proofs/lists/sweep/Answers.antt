use Rattle.std.proofs.Common.{◌∙◌}
use Rattle.std.proofs.lemmas.Result.{on_ok_weaker, IfErr-weaker}
use Rattle.layout_lint.proofs.FreeTableLaws.{small_at, medium_at, large_at, to_small, to_medium, to_large}
use Rattle.layout_lint.proofs.ShapeLaws.{adds_then}
use Rattle.layout_lint.proofs.RowSteps.{refused}
use Rattle.layout_lint.proofs.lists.sweep.Goals as goal

pub returns-in_err-look_at_list-clause-stops : goal.returns-in_err-look_at_list-clause-stops
returns-in_err-look_at_list-clause-stops g c = refused _ _ _ c.from_residual.ensures.1 (λ image told nodes base span lists begun.
    c.in_err-look_at_list.ensures.stops image told nodes base 0 _ span (small_at image c.args.table.now lists) (to_small image c.args.table.now lists nodes base c.args.frees.now begun))

pub returns-in_err-look_at_list-2-clause-stops : goal.returns-in_err-look_at_list-2-clause-stops
returns-in_err-look_at_list-2-clause-stops g c = refused _ _ _ c.from_residual-in_err-look_at_list-2.ensures.1 (λ image told nodes base span lists begun.
    let small = c.in_ok-look_at_list.ensures.goes_on image told nodes base 0 _ span (small_at image c.args.table.now lists) (to_small image c.args.table.now lists nodes base c.args.frees.now begun) in
    c.in_err-look_at_list-2.ensures.stops image (c.in_ok-look_at_list.ensures.few.held ∙ told) nodes base 1 _ span (medium_at image c.args.table.now lists) (to_medium image c.args.table.now lists nodes base c.look_at_list.new.frees small))

pub returns-clause-goes_on : goal.returns-clause-goes_on
returns-clause-goes_on g c = on_ok_weaker c.look_at_list-3.result (λ last. λ image told nodes base span lists begun.
    let small = c.in_ok-look_at_list.ensures.goes_on image told nodes base 0 _ span (small_at image c.args.table.now lists) (to_small image c.args.table.now lists nodes base c.args.frees.now begun) in
    let told_then = c.in_ok-look_at_list.ensures.few.held ∙ told in
    let medium = c.in_ok-look_at_list-2.ensures.goes_on image told_then nodes base 1 _ span (medium_at image c.args.table.now lists) (to_medium image c.args.table.now lists nodes base c.look_at_list.new.frees small) in
    last image (c.in_ok-look_at_list-2.ensures.few.held ∙ told_then) nodes base 2 _ span (large_at image c.args.table.now lists) (to_large image c.args.table.now lists nodes base c.look_at_list-2.new.frees medium)) c.look_at_list-3.ensures.goes_on

pub returns-clause-stops : goal.returns-clause-stops
returns-clause-stops g c = IfErr-weaker c.look_at_list-3.result _ _ (λ h last. λ image told nodes base span lists begun.
    let small = c.in_ok-look_at_list.ensures.goes_on image told nodes base 0 _ span (small_at image c.args.table.now lists) (to_small image c.args.table.now lists nodes base c.args.frees.now begun) in
    let told_then = c.in_ok-look_at_list.ensures.few.held ∙ told in
    let medium = c.in_ok-look_at_list-2.ensures.goes_on image told_then nodes base 1 _ span (medium_at image c.args.table.now lists) (to_medium image c.args.table.now lists nodes base c.look_at_list.new.frees small) in
    last image (c.in_ok-look_at_list-2.ensures.few.held ∙ told_then) nodes base 2 _ span (large_at image c.args.table.now lists) (to_large image c.args.table.now lists nodes base c.look_at_list-2.new.frees medium)) c.look_at_list-3.ensures.stops

pub returns-clause-solid : goal.returns-clause-solid
returns-clause-solid g c = on_ok_weaker c.look_at_list-3.result (λ last. λ solid. last (c.in_ok-look_at_list-2.ensures.solid (c.in_ok-look_at_list.ensures.solid solid))) c.look_at_list-3.ensures.solid

pub returns-clause-adds : goal.returns-clause-adds
returns-clause-adds g c = on_ok_weaker c.look_at_list-3.result (λ last. adds_then _ _ _ (adds_then _ _ _ c.in_ok-look_at_list.ensures.adds c.in_ok-look_at_list-2.ensures.adds) last) c.look_at_list-3.ensures.adds

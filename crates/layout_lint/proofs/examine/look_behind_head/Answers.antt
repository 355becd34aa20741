use Rattle.std.proofs.Common.{◌∙◌}
use Rattle.layout_lint.proofs.VerdictLaws.{free_table_kept, node_fault, list_fault, used_found, tiling_fault, sound_verdict}
use Rattle.layout_lint.proofs.ShapeLaws.{shape_said}
use Rattle.layout_lint.proofs.RowSteps.{refused}
use Rattle.layout_lint.proofs.examine.look_behind_head.Goals as goal

pub returns-in_err-found-clause-broken : goal.returns-in_err-found-clause-broken
returns-in_err-found-clause-broken g c = refused _ _ _ c.from_residual.ensures.1 (λ image told is. node_fault image c.args.head.now is c.in_err-found.field-0.0 (c.in_err-found.ensures.stops image told is))

pub returns-in_err-all-clause-broken : goal.returns-in_err-all-clause-broken
returns-in_err-all-clause-broken g c = refused _ _ _ c.from_residual-in_err-all.ensures.1 (λ image told is.
    let f = c.in_ok-found.ensures.found image told is in
    list_fault image c.args.head.now is c.in_ok-found.found f c.in_err-all.field-0.0
    (c.in_err-all.ensures.stops image (c.in_ok-found.ensures.effect.held ∙ told) f.seen is.span is.lists (free_table_kept image c.args.head.now is) (used_found image c.args.head.now is c.in_ok-found.found f)))

pub returns-in_err-gaps-clause-broken : goal.returns-in_err-gaps-clause-broken
returns-in_err-gaps-clause-broken g c = refused _ _ _ c.from_residual-in_err-gaps.ensures.1 (λ image told is.
    let f = c.in_ok-found.ensures.found image told is in
    let told_then = c.in_ok-found.ensures.effect.held ∙ told in
    let frees = c.in_ok-all.ensures.found image told_then f.seen is.span is.lists (free_table_kept image c.args.head.now is) (used_found image c.args.head.now is c.in_ok-found.found f) in
    tiling_fault image c.args.head.now is c.in_ok-found.found f frees.0 frees.1 c.in_ok-all.all.items frees.2 c.in_err-gaps.field-0.0
    (c.in_err-gaps.ensures.bad image (c.in_ok-all.ensures.effect.held ∙ told_then) is.span.inside))

pub returns-clause-laid_out : goal.returns-clause-laid_out
returns-clause-laid_out g c = λ image told is.
    let f = c.in_ok-found.ensures.found image told is in
    let told_then = c.in_ok-found.ensures.effect.held ∙ told in
    let frees = c.in_ok-all.ensures.found image told_then f.seen is.span is.lists (free_table_kept image c.args.head.now is) (used_found image c.args.head.now is c.in_ok-found.found f) in
    rw (c.new.ensures, c.new-2.ensures)
    (sound_verdict image c.args.head.now is c.in_ok-found.found f frees.0 frees.1 c.in_ok-all.all.items frees.2 c.in_ok-gaps.gaps.items
    (c.in_ok-gaps.ensures.tiled image (c.in_ok-all.ensures.effect.held ∙ told_then) is.span.inside))

pub returns-clause-shape : goal.returns-clause-shape
returns-clause-shape g c = rw (c.new.ensures, c.new-2.ensures)
    (shape_said c.args.head.now.span.wide c.args.head.now.span.end c.in_ok-found.found c.in_ok-all.all.items c.in_ok-gaps.gaps.items c.in_ok-found.ensures.whole c.requires.end c.in_ok-all.ensures.adds c.in_ok-gaps.ensures.set)

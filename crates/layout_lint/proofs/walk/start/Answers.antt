use Rattle.std.proofs.Common.{◌∙◌, ◌++◌, ◌∷◌, [], refl, ap}
use Rattle.adf_format.specs.declared.types.ExtentKind.{ExtentKind}
use Rattle.adf_format.specs.Placement.{extent}
use Rattle.layout_lint.proofs.SearchLaws.{begins}
use Rattle.layout_lint.proofs.ShapeLaws.{steady_first}
use Rattle.layout_lint.proofs.walk.start.Goals as goal

pub returns-clause-begun : goal.returns-clause-begun
returns-clause-begun c = λ image.
    begins image _ c.new-2.ensures.items c.new-3.ensures
    (c.in_ok-add_extent-2.ensures.added ∙ ap (λ xs. xs ++ extent ExtentKind.FreeTable 186 80 ∷ []) (c.in_ok-add_extent.ensures.added ∙ ap (λ xs. xs ++ extent ExtentKind.Header 0 186 ∷ []) c.new-extents.ensures.items)) refl

pub returns-clause-steady : goal.returns-clause-steady
returns-clause-steady c = λ wide end.
    steady_first wide end _ c.new-2.ensures.items c.new.ensures.items
    (c.in_ok-add_extent-2.ensures.added ∙ ap (λ xs. xs ++ extent ExtentKind.FreeTable 186 80 ∷ []) (c.in_ok-add_extent.ensures.added ∙ ap (λ xs. xs ++ extent ExtentKind.Header 0 186 ∷ []) c.new-extents.ensures.items))

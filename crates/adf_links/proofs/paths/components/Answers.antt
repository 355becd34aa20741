use Rattle.std.proofs.Common.{◌≡◌, List, length, map, ap, ◌∙◌, subst, sym}
use Rattle.std.specs.List.{All}
use Rattle.std.proofs.lemmas.Result.{IfOk-weaker}
use Rattle.adf_format.specs.Links.{components}
use Rattle.adf_model.specs.declared.lists.PathRange.{PathRange}
use Rattle.adf_links.specs.Components.{component_ranges, text_at, IsWithin}
use Rattle.adf_links.proofs.PathLaws.{texts_of_ranges, ranges_within}
use Rattle.adf_links.proofs.paths.components.Goals as goal

pub returns-clause-texts : goal.returns-clause-texts
returns-clause-texts c =
    let path = c.args.path.now in
    IfOk-weaker c.component_ranges.result (λ found. found ≡ component_ranges path) (λ found. map (text_at path) found ≡ components path)
    (λ found e. ap (map (text_at path)) e ∙ texts_of_ranges path) c.component_ranges.ensures.ranges

pub returns-clause-within : goal.returns-clause-within
returns-clause-within c =
    let path = c.args.path.now in
    IfOk-weaker c.component_ranges.result (λ found. found ≡ component_ranges path) (λ found. All (IsWithin (length path)) found)
    (λ found e. subst (λ (ranges : List PathRange). All (IsWithin (length path)) ranges) (sym e) (ranges_within path)) c.component_ranges.ensures.ranges

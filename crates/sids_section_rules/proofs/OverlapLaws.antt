-- Earlier sections of a zone are what its children tell.
use Rattle.std.proofs.Common.{◌≡◌, ◌∙◌, ap, refl, cond, Bool, true, false, List, [], ◌∷◌}
use Rattle.std.specs.Prelude.{◌||◌, not, if◌then◌else◌, filter_map, take_while, Option, Some, None, unwrap_or}
use Rattle.std.specs.List.{list_any, cons_option}
use Rattle.std.proofs.lemmas.List.Sums.{take_while-cons}
use Rattle.adf_model.specs.declared.tree.NodeId.{NodeId}
use Rattle.adf_model.specs.Slots.{Files}
use Rattle.sids_tables.specs.declared.labels.LabelKind.TheVariants.{Elements}
use Rattle.sids_tables.specs.contracts.labels.LabelKindPartialEq.TheImpl as kind_eq
use Rattle.sids_views.specs.declared.child.SeenChild.{SeenChild}
use Rattle.sids_views.specs.Views.{is_same_node, given, children_there, of_kind}
use Rattle.sids_rules.specs.Terms.{Range, good_range}
use Rattle.sids_rules.specs.Rules.{meets, ranges_of, sections_before}
use Rattle.sids_section_rules.specs.Overlaps.{overlaps_in}

one_range : (range : Range) (o : Option Range) (others : List Range) → list_any (meets range) (cons_option o others) ≡ (given o (meets range) || list_any (meets range) others)
one_range range None others = refl
one_range range (Some other) others = refl

by_step : (b rest : Bool) → (b || rest) ≡ unwrap_or (if b then Some true else None) rest
by_step true rest = refl
by_step false rest = refl

module _ (files : Files) (node : NodeId) (range : Range) where
  abbrev met : List SeenChild → Bool
  met sections = list_any (meets range) (ranges_of files (take_while (λ child. not (is_same_node child.node node)) sections))

  first : (child : SeenChild) (children : List SeenChild) (a b : Bool) → is_same_node child.node node ≡ b → met (of_kind Elements children) ≡ overlaps_in files node range children
      → met (if a then child ∷ of_kind Elements children else of_kind Elements children)
      ≡ unwrap_or (if a then (if b then Some false else if given (good_range files child.target) (meets range) then Some true else None) else None) (overlaps_in files node range children)
  first child children true true e h = rw e refl
  first child children true false e h =
      let later : List SeenChild = take_while (λ c. not (is_same_node c.node node)) (of_kind Elements children) in
      let all : List SeenChild = of_kind Elements children in
      let one : met (child ∷ all) ≡ list_any (meets range) (cons_option (good_range files child.target) (ranges_of files later)) =
      ap (λ ss. list_any (meets range) (ranges_of files ss)) (take_while-cons (λ (c : SeenChild). not (is_same_node c.node node)) child all ∙ ap (λ b. cond (not b) (child ∷ later) []) e) in
      one ∙ one_range range (good_range files child.target) (ranges_of files later)
      ∙ ap (λ m. given (good_range files child.target) (meets range) || m) h
      ∙ by_step (given (good_range files child.target) (meets range)) (overlaps_in files node range children)
  first child children false b e h = h

  found : (children : List SeenChild) → met (of_kind Elements children) ≡ overlaps_in files node range children
  found [] = refl
  found (child ∷ children) = first child children (kind_eq.ghosts.eq child.kind Elements) (is_same_node child.node node) refl (found children)

pub overlap_is : (files : Files) (zone node : NodeId) (range : Range) → list_any (meets range) (ranges_of files (sections_before files zone node)) ≡ overlaps_in files node range (children_there files zone)
overlap_is files zone node range = found files node range (children_there files zone)

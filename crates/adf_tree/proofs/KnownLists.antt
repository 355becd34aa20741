-- Lists that are kept, as an edit is given them.
use Rattle.std.proofs.Common.{◌≡◌, ℕ, sym, ◌∙◌, ap, List, Option, None, Some}
use Rattle.std.specs.Prelude.{IfSome, option_map}
use Rattle.std.specs.Option.{option_and_then}
use Rattle.adf_format.specs.Placement.{Placement}
use Rattle.adf_format.specs.Tree.{Tree}
use Rattle.kept_asks.proofs.KnownChildren.{lists_children}
use Rattle.kept_asks.specs.Named.{HasNames}
use Rattle.kept_names.specs.Kept.{NamesState, list_at}
use Rattle.tree_edits.specs.declared.memory.Core.{Core}
use Rattle.tree_edits.specs.declared.rows.Row.{Row}
use Rattle.tree_edits.specs.Edits.{memory_of}
use Rattle.tree_edits.specs.Known.{ListsChildren, ListsSiblings}
use Rattle.tree_edits.specs.Rows.{Means, row_of}
use Rattle.adf_tree.specs.KeptLists.{parent_by, siblings_at}

module _ {X : Type 0} (now : X → List (List ℕ × ℕ)) (core : Core) (held : Option (List ℕ)) (names : NamesState) (has : HasNames core held names) (means : IfSome held (λ bytes. (tree : Tree) × (p : Placement) × Means bytes tree p (memory_of core))) (serial : ℕ) where
  pub known_children : (known : Option X) → option_map now known ≡ list_at names serial → IfSome known (λ l. ListsChildren core held serial (now l))
  known_children None is = tt
  known_children (Some l) is = lists_children core held names has means serial (now l) (sym is)

  pub known_siblings : (known : Option X) → option_map now known ≡ siblings_at core.rows.items names serial → IfSome known (λ l. ListsSiblings core held serial (now l))
  known_siblings None is = tt
  known_siblings (Some l) is = λ row parent found above.
      lists_children core held names has means parent (now l)
      (sym (is ∙ ap (λ (o : Option Row). option_and_then (λ q. list_at names q) (parent_by o)) found ∙ ap (option_and_then (λ q. list_at names q)) above))

-- The children that are kept of a node, beside the table that has them.
use Rattle.std.proofs.Common.{◌≡◌, ℕ, refl, sym, ◌∙◌, ap, arith, List, [], length, get_or, map, ◌<◌, Option, None, Some}
use Rattle.std.proofs.lemmas.List.{get_or-map, length-map}
use Rattle.std.proofs.lemmas.Option.{slice_get-get_or}
use Rattle.std.specs.Prelude.{IfSome, slice_get}
use Rattle.adf_format.specs.Placement.{Placement}
use Rattle.adf_format.specs.Tree.{Tree, children_at}
use Rattle.kept_names.specs.Kept.{NamesState, list_at}
use Rattle.kept_names.proofs.Ties.{list_kept}
use Rattle.node_reads.specs.declared.header.ChildTable.{ChildTable}
use Rattle.tree_edits.specs.declared.memory.Core.{Core}
use Rattle.tree_edits.specs.Edits.{memory_of}
use Rattle.tree_edits.specs.Known.{IsListOf, ListsChildren}
use Rattle.tree_edits.specs.Listed.{IsTableOf}
use Rattle.tree_edits.specs.Rows.{Means}
use Rattle.tree_edits.proofs.Kids.{kids, kids_are, count_is, entry_says}
use Rattle.kept_asks.specs.Named.{HasNames, children_in, entry_in}

module _ (image : List ℕ) (core : Core) (names : NamesState) (has : HasNames core (Some image) names) (tree : Tree) (p : Placement) (m : Means image tree p (memory_of core)) (serial : ℕ) (list : List (List ℕ × ℕ)) (at : list_at names serial ≡ Some list)
    (table : ChildTable) (its : IsTableOf core (Some image) serial table)
  where
    abbrev own : List ℕ
    own = kids image core serial its.above its.found tree p m table its.named

    count : table.count ≡ length own
    count = count_is image core serial its.above its.found tree p m table its.named

    kept : list ≡ map (entry_in tree) own
    kept =
        list_kept names (children_in tree) has.0 serial list (has.1 tree p m) at
        ∙ ap (map (entry_in tree)) (kids_are image core serial its.above its.found tree p m table its.named)

    is_list : IsListOf image table list
    is_list = record {
      many = ap length kept ∙ length-map own (entry_in tree) ∙ sym count;
      named = λ i lt.
          let inside : i < length own = omega (arith, lt, count) in
          (entry_says image core serial its.above its.found tree p m table its.named i (get_or own i 0) (slice_get-get_or own i 0 inside)).0
          ∙ sym (ap (λ (xs : List (List ℕ × ℕ)). (get_or xs i ([], 0)).0) kept ∙ ap (λ (e : List ℕ × ℕ). e.0) (get_or-map (entry_in tree) own i 0 ([], 0) inside));
    }

-- a list that is kept has the children of the node's table
pub lists_children : (core : Core) (held : Option (List ℕ)) (names : NamesState) → HasNames core held names → IfSome held (λ bytes. (tree : Tree) × (p : Placement) × Means bytes tree p (memory_of core)) → (serial : ℕ) (list : List (List ℕ × ℕ))
    → list_at names serial ≡ Some list → ListsChildren core held serial list
lists_children core None names has means serial list at = λ table its. tt
lists_children core (Some image) names has means serial list at = λ table its fits. is_list image core names has means.0 means.1 means.2 serial list at table its

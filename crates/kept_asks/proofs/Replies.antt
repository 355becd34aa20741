-- What is answered from lists that are kept, and lists that are kept of what was answered.
use Rattle.std.proofs.Common.{◌≡◌, ℕ, refl, sym, ◌∙◌, ap, subst, List, map, true, Option, None, Some}
use Rattle.std.specs.Prelude.{IfErr, Result, Ok, Err}
use Rattle.adf_format.specs.Fields.{text_field}
use Rattle.adf_format.specs.Names.{is_name}
use Rattle.adf_format.specs.Tree.{Node, Tree, child_named, children_at, children_of, node_at}
use Rattle.adf_model.specs.declared.error.AdfError.{AdfError}
use Rattle.adf_model.specs.declared.error.AdfError.TheVariants as error
use Rattle.adf_model.specs.declared.tree.Child.{Child}
use Rattle.adf_model.specs.declared.tree.NodeId.{NodeId}
use Rattle.adf_model.specs.declared.tree.Query.{Query}
use Rattle.adf_model.specs.declared.tree.Reply.{Reply}
use Rattle.adf_model.specs.Answers.{child_entry, field_of, field_within}
use Rattle.adf_model.specs.Tests.{if_there}
use Rattle.kept_names.specs.Kept.{AreKept, Children, NamesState, list_at}
use Rattle.kept_names.specs.Lists.{serial_of}
use Rattle.kept_names.proofs.Ties.{list_kept}
use Rattle.tree_asks.specs.Causes.{IsAskCause}
use Rattle.tree_asks.specs.Refusals.{IsAskRefusal}
use Rattle.tree_asks.specs.Told.{IsWanted, Tells}
use Rattle.tree_asks.proofs.Answered.{within_is}
use Rattle.tree_asks.proofs.AskedRules.{of_query}
use Rattle.tree_edits.specs.declared.memory.Core.{Core}
use Rattle.tree_edits.specs.declared.rows.Row.{Row}
use Rattle.tree_edits.specs.Edits.{memory_of}
use Rattle.tree_edits.specs.Rows.{row_of}
use Rattle.tree_edits.proofs.Nodes.{the_node}
use Rattle.kept_asks.specs.Named.{AreNames, HasNames, NamesStay, answered_child, children_in, entry_in, kept_child}
use Rattle.kept_asks.proofs.KeptLists.{answered_again, children_named, found_kept, kept_again}

-- ---- answers

module _ (core : Core) (held : Option (List ℕ)) (names : NamesState) (has : HasNames core held names) where
  pub child_told : (parent : ℕ) (name : List ℕ) (list : List (List ℕ × ℕ)) → is_name name ≡ true → list_at names parent ≡ Some list
      → Tells core held (λ tree. Ok (child_named tree parent name)) (Ok (serial_of (text_field 32 name) list))
  child_told parent name list good at = by_held held has.1
    where
      by_held : (h : Option (List ℕ)) → AreNames core h names has.0 → Tells core h (λ tree. Ok (child_named tree parent name)) (Ok (serial_of (text_field 32 name) list))
      by_held None are = tt
      by_held (Some image) are = λ tree p m.
          let is : list ≡ children_in tree parent = list_kept names (children_in tree) has.0 parent list (are tree p m) at in
          ap (λ (o : Option ℕ). Ok o) (sym (ap (serial_of (text_field 32 name)) is ∙ found_kept tree name good (children_at tree parent) (children_named tree m.laid_out.is_tree parent)))

  pub children_told : (at node : NodeId) (row : Row) (list : List (List ℕ × ℕ)) (children : List Child) → row_of core.rows.items at.serial ≡ Some row → list_at names at.serial ≡ Some list
      → children ≡ map (answered_child at.file) list → Tells core held (λ tree. field_within tree at (Query.ChildrenOf node)) (Ok (Reply.Children children))
  children_told at node row list children found kept are_its = by_held held has.1
    where
      by_held : (h : Option (List ℕ)) → AreNames core h names has.0 → Tells core h (λ tree. field_within tree at (Query.ChildrenOf node)) (Ok (Reply.Children children))
      by_held None are = tt
      by_held (Some image) are = λ tree p m.
          let up = the_node image (memory_of core) at.serial row found tree p m in
          let here : children_at tree at.serial ≡ up.node.children = ap children_of up.is.live in
          let is : list ≡ children_in tree at.serial = list_kept names (children_in tree) has.0 at.serial list (are tree p m) kept in
          let all : children ≡ map (child_entry tree at.file) up.node.children =
          are_its ∙ ap (map (answered_child at.file)) is ∙ answered_again tree at.file (children_at tree at.serial) (children_named tree m.laid_out.is_tree at.serial) ∙ ap (map (child_entry tree at.file)) here in
          within_is tree at (Query.ChildrenOf node) up.node up.is.live ∙ ap (λ (xs : List Child). Ok (Reply.Children xs)) (sym all)

-- ---- lists

-- the children that are answered are those of the node
answered_are : (tree : Tree) (at node : NodeId) (children : List Child) → field_within tree at (Query.ChildrenOf node) ≡ Ok (Reply.Children children) → map kept_child children ≡ children_in tree at.serial
answered_are tree at node children e = by_node (node_at tree at.serial) refl e
  where
    by_node : (o : Option Node) → node_at tree at.serial ≡ o → if_there o error.NoSuchNode (λ n. field_of tree at n (Query.ChildrenOf node)) ≡ Ok (Reply.Children children) → map kept_child children ≡ children_in tree at.serial
    by_node None live h = cc
    by_node (Some n) live h =
        let is : map (child_entry tree at.file) n.children ≡ children = cc in
        ap (map kept_child) (sym is) ∙ kept_again tree at.file n.children ∙ ap (map (entry_in tree)) (sym (ap children_of live))

pub list_stays : (core : Core) (held : Option (List ℕ)) (old new : NamesState) (at node : NodeId) (result : Result Reply AdfError)
    → ((now was : Children) → AreKept old now was → ((children : List Child) → result ≡ Ok (Reply.Children children) → map kept_child children ≡ now at.serial) → AreKept new now was)
    → Tells core held (λ tree. field_within tree at (Query.ChildrenOf node)) result → NamesStay core held old new
list_stays core None old new at node result tied told = λ was are. tt
list_stays core (Some image) old new at node result tied told = λ was are tree p m.
    tied (children_in tree) was (are tree p m) (λ children e. answered_are tree at node children (subst (IsWanted (field_within tree at (Query.ChildrenOf node))) e (told tree p m)))

-- ---- refusals

pub read_refusal : {T : Type 0} (core : Core) (held : Option (List ℕ)) (at : NodeId) (query : Query) (before now : ℕ) (result : Result T AdfError) → IfErr result (IsAskCause core held at query before now) → IfErr result (IsAskRefusal query before now)
read_refusal core held at query before now (Ok value) h = tt
read_refusal core held at query before now (Err e) h = of_query core held at query before now e h

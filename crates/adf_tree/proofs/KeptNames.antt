-- The lists of children that are kept, over the calls on a file.
use Rattle.std.proofs.Common.{◌≡◌, ℕ, refl, sym, ◌∙◌, ap, subst, List, [], length}
use Rattle.std.specs.Prelude.{Option, Some, None, IsSome, is_some, nat_eq}
use Rattle.std.specs.Map.{lookup}
use Rattle.adf_format.specs.Placement.{Placement}
use Rattle.adf_format.specs.Tree.{Tree, node_at, parent_of}
use Rattle.adf_model.proofs.Basics.{not_true}
use Rattle.adf_model.specs.declared.tree.Edit.{Edit}
use Rattle.adf_model.specs.declared.tree.Edit.TheVariants.{Create, Delete, Link, Move, PutAll, PutPart, Rename, SetDims, SetLabel}
use Rattle.adf_model.specs.declared.tree.NodeId.{NodeId}
use Rattle.cg_io.specs.Blocks.{Both}
use Rattle.kept_asks.specs.Named.{AreNames, HasNames, NamesStay, children_in}
use Rattle.kept_asks.proofs.Meanings.{one_meaning}
use Rattle.kept_names.specs.declared.names.Kept.{Kept}
use Rattle.kept_names.specs.Kept.{AreKept, Children, NamesState, kept_at}
use Rattle.tree_edits.specs.declared.memory.Core.{Core}
use Rattle.tree_edits.specs.declared.rows.Row.{Row}
use Rattle.tree_edits.specs.Edits.{Does, memory_of}
use Rattle.tree_edits.specs.Rows.{IsRowOf, Means, row_of}
use Rattle.tree_laws.proofs.Groups.GroupsGrow.{step_reaches}
use Rattle.adf_tree.specs.Commits.{committed}
use Rattle.adf_tree.specs.Files.{DoesAll, HasMeaning, KeepsNames, accepted}
use Rattle.adf_tree.specs.KeptLists.{FollowsEdit, IsAbove, above_in, parent_by}
use Rattle.adf_tree.specs.Reached.{with_reached}
use Rattle.adf_tree.specs.Steps.{drawn_by}

-- ---- no lists

pub none_are : (names : NamesState) (now was : Children) → names.lists ≡ [] → AreKept names now was
none_are names now was none = record { work = λ node kept at. absurd (no_list node kept at); undo = λ node kept at less. absurd (no_list node kept at) }
  where
    no_list : (node : ℕ) (kept : Kept) → kept_at names node ≡ Some kept → ⊥
    no_list node kept at = let e = sym (ap (λ (lists : List (ℕ × Kept)). lookup (nat_eq node) lists) none) ∙ at in cc

pub none_kept : (names : NamesState) (core : Core) (held image : Option (List ℕ)) → names.lists ≡ [] → KeepsNames names core held image
none_kept names core None image none = tt
none_kept names core (Some before) None none = λ tree p m. tt
none_kept names core (Some before) (Some image) none = λ tree p m after q n. none_are names (children_in after) (children_in tree) none

-- ---- lists over a question

module _ (core : Core) (held image : Option (List ℕ)) where
  pub has_names : (names : NamesState) (steps : List Edit) (waiting : List ℕ) → KeepsNames names core held image → HasMeaning (accepted core) held → Both (DoesAll steps waiting (accepted core) core) held image
      → HasNames core image names
  has_names names steps waiting keeps means work = by_held held image keeps means work
    where
      by_held : (h i : Option (List ℕ)) → KeepsNames names core h i → HasMeaning (accepted core) h → Both (DoesAll steps waiting (accepted core) core) h i → HasNames core i names
      by_held None None keeps means work = (λ node. [], tt)
      by_held None (Some now) keeps means work = absurd work
      by_held (Some before) i keeps means work = (children_in means.0, keeps means.0 means.1 means.2)

  pub names_stay : (old new : NamesState) → NamesStay core image old new → KeepsNames old core held image → KeepsNames new core held image
  names_stay old new stay keeps = by_held held keeps
    where
      by_held : (h : Option (List ℕ)) → KeepsNames old core h image → KeepsNames new core h image
      by_held None keeps = tt
      by_held (Some before) keeps = λ tree p m. stay (children_in tree) (keeps tree p m)

-- ---- lists over an undo and a commit

module _ (old new : NamesState) (core : Core) (steps : List Edit) (waiting : List ℕ) where
  pub undone_names : (held image : Option (List ℕ)) → ((now was : Children) → AreKept old now was → AreKept new was was) → KeepsNames old core held image → Both (DoesAll steps waiting (accepted core) core) held image
      → KeepsNames new (accepted core) held held
  undone_names None image tied keeps work = tt
  undone_names (Some before) None tied keeps work = absurd work
  undone_names (Some before) (Some image) tied keeps work = λ tree p m after q n.
      let f = work tree p m in
      subst (λ (t : Tree). AreKept new (children_in t) (children_in tree)) (one_meaning before (memory_of (accepted core)) tree after p q m n)
      (tied (children_in f.work.tree) (children_in tree) (keeps tree p m f.work.tree f.placement f.means))

  pub committed_names : (held image : Option (List ℕ)) → ((now was : Children) → AreKept old now was → AreKept new now now) → KeepsNames old core held image → HasMeaning (accepted core) held
      → Both (DoesAll steps waiting (accepted core) core) held image → KeepsNames new (committed core) image image
  committed_names held None tied keeps means work = tt
  committed_names None (Some image) tied keeps means work = absurd work
  committed_names (Some before) (Some image) tied keeps means work = λ tree p m after q n.
      subst (λ (t : Tree). AreKept new (children_in after) (children_in t)) (one_meaning image (memory_of core) after tree q p n m)
      (tied (children_in after) (children_in means.0) (keeps means.0 means.1 means.2 after q n))

-- ---- lists over an edit

pub above_same : (rows : List (Option Row)) (edit : Edit) (there : Option NodeId) → above_in rows (with_reached edit there) ≡ above_in rows edit
above_same rows edit None = refl
above_same rows (Create at wanted label) (Some node) = refl
above_same rows (Delete at) (Some node) = refl
above_same rows (Rename at wanted) (Some node) = refl
above_same rows (Move at to) (Some node) = refl
above_same rows (SetLabel at label) (Some node) = refl
above_same rows (SetDims at shape) (Some node) = refl
above_same rows (PutAll at given) (Some node) = refl
above_same rows (PutPart at selection given) (Some node) = refl
above_same rows (Link at wanted file path) (Some node) = refl

module _ (image : List ℕ) (core : Core) (tree : Tree) (p : Placement) (m : Means image tree p (memory_of core)) where
  row_above : (serial : ℕ) (o : Option Row) → IsRowOf tree p serial o → IsSome (node_at tree serial) → parent_by o ≡ parent_of tree serial
  row_above serial None gone live = absurd (not_true (sym (ap is_some gone) ∙ live))
  row_above serial (Some row) its live = its.parent

  is_above : (edit : Edit) (above : Option ℕ) → above ≡ above_in core.rows.items edit → IsAbove tree edit above
  is_above (Rename node wanted) above top = λ live. top ∙ row_above node.serial (row_of core.rows.items node.serial) (m.table.each node.serial) live
  is_above (Move node to) above top = λ live. top ∙ row_above node.serial (row_of core.rows.items node.serial) (m.table.each node.serial) live
  is_above edit above top = tt

-- the device holds what it held
pub names_over : (names : NamesState) (core : Core) (held behind image : Option (List ℕ)) → behind ≡ held → KeepsNames names core held image → KeepsNames names core behind image
names_over names core held behind image same keeps = subst (λ (h : Option (List ℕ)). KeepsNames names core h image) (sym same) keeps

module _ (old new : NamesState) (core after : Core) (edit : Edit) (above drawn : Option ℕ) (steps : List Edit) (waiting : List ℕ) where
  pub stepped_names : (held image now : Option (List ℕ)) → KeepsNames old core held image → Both (DoesAll steps waiting (accepted core) core) held image → Both (Does edit core after) image now → accepted after ≡ accepted core
      → above ≡ above_in core.rows.items edit → drawn ≡ drawn_by edit (length core.rows.items) → FollowsEdit edit above drawn old new → KeepsNames new after held now
  stepped_names None image now keeps work does same top draws follows = tt
  stepped_names (Some before) None now keeps work does same top draws follows = absurd work
  stepped_names (Some before) (Some image) None keeps work does same top draws follows = absurd does
  stepped_names (Some before) (Some image) (Some now) keeps work does same top draws follows = λ tree p m next q n.
      let m' = subst (λ (c : Core). Means before tree p (memory_of c)) same m in
      let f = work tree p m' in
      let g = does f.work.tree f.placement f.means in
      let reached = step_reaches core.writable f.work.tree g.after edit g.whole.made in
      subst (λ (t : Tree). AreKept new (children_in t) (children_in tree)) (one_meaning now (memory_of after) g.after next g.placement q g.means n)
      (follows f.work.tree g.after (children_in tree) f.means.laid_out.is_tree reached.0 reached.1 (is_above image core f.work.tree f.placement f.means edit above top)
      (draws ∙ ap (drawn_by edit) f.means.table.count) (keeps tree p m' f.work.tree f.placement f.means))

-- The node of an edit of data, over bytes that may be told: what is tested of it, and why it is refused.
use Rattle.std.proofs.Common.{◌≡◌, ℕ, refl, sym, ◌∙◌, ap, List, [], ◌∷◌, ◌++◌, Bool, true, false, not, ◌||◌, Option, None, Some}
use Rattle.std.specs.Prelude.{is_some, IfSome, Result}
use Rattle.adf_format.specs.Names.{is_lk}
use Rattle.adf_format.specs.RecordFields.{node_length}
use Rattle.adf_format.specs.Tree.{Tree, Node, node_at, is_link, is_link_in}
use Rattle.adf_format.specs.Placement.{Placement}
use Rattle.adf_model.specs.declared.error.AdfError.{AdfError}
use Rattle.adf_model.specs.declared.error.AdfError.TheVariants as error
use Rattle.adf_model.specs.declared.tree.Edit.{Edit}
use Rattle.adf_model.specs.declared.tree.NodeId.{NodeId}
use Rattle.adf_model.specs.Tests.{checked, first_refusal}
use Rattle.adf_model.specs.Edits.{file_step, apply, followed, live_tests, names_link, file_tests_at_entry}
use Rattle.adf_model.proofs.Following.StepTests.{step_tests}
use Rattle.adf_records.specs.declared.NodeHeader.{NodeHeader}
use Rattle.node_reads.specs.Reads.{ReadAt, IsUnread}
use Rattle.node_reads.specs.Headers.{IsHeader}
use Rattle.tree_edits.specs.declared.memory.Core.{Core}
use Rattle.tree_edits.specs.declared.rows.Row.{Row}
use Rattle.tree_edits.specs.Causes.{named_row, HeaderBreaks}
use Rattle.tree_edits.specs.Rows.{Means}
use Rattle.tree_edits.specs.Edits.{memory_of}
use Rattle.tree_edits.proofs.Causes.{at_row, row_there}
use Rattle.tree_edits.proofs.Nodes.{the_node, header_says, no_break, no_node}
use Rattle.data_edits.specs.Found.{ReadsNode, MayEdit, IsOfNode, RefusesEach, IsNodeCause}

-- ---- the tests

-- all tests of a node that is there or is not, before those of the edit
abbrev tested : {A : Type 0} → Bool → Option Node → Result A AdfError → Result A AdfError
tested writable o rest = checked ((not (is_some o) || false, AdfError.NoSuchNode) ∷ (is_link_in o, AdfError.LinkMissing) ∷ (not writable, AdfError.ReadOnly) ∷ []) rest

abbrev tests_of : Tree → Bool → List NodeId → Option NodeId → Tree → Edit → Result Tree AdfError
tests_of tree writable nodes to from edit = checked ((live_tests tree nodes ++ (names_link tree to, AdfError.LinkMissing) ∷ []) ++ (not writable, AdfError.ReadOnly) ∷ []) (apply from edit)

pub step_of : (tree : Tree) (writable : Bool) (edit : Edit) (node : NodeId) → IsOfNode edit node → (o : Option Node) → node_at tree node.serial ≡ o → file_step writable tree edit ≡ tested writable o (apply tree edit)
step_of tree writable edit node is o here =
    step_tests writable tree edit
    ∙ ap (λ nodes. tests_of tree writable nodes (followed edit) tree edit) is.named
    ∙ ap (λ to. tests_of tree writable (node ∷ []) to tree edit) is.reached
    ∙ ap (λ (x : Option Node). tested writable x (apply tree edit)) here

abbrev by_tests : {A : Type 0} → Bool → Bool → Result A AdfError → Result A AdfError
by_tests link writable rest = checked ((link, AdfError.LinkMissing) ∷ (not writable, AdfError.ReadOnly) ∷ []) rest

pub step_at : (tree : Tree) (writable : Bool) (edit : Edit) (at : NodeId) → IsOfNode edit at → (node : Node) (link w : Bool) → node_at tree at.serial ≡ Some node → is_link node ≡ link → writable ≡ w → file_step writable tree edit ≡ by_tests link w (apply tree edit)
step_at tree writable edit at is node link w here kind may =
    step_of tree writable edit at is (Some node) here ∙ ap (λ x. by_tests x writable (apply tree edit)) kind ∙ ap (λ x. by_tests link x (apply tree edit)) may

-- ---- of bytes that are told

module _ (image : List ℕ) (core : Core) (node : NodeId) where
  no_row : named_row core node ≡ None → RefusesEach core node AdfError.NoSuchNode image
  no_row none edit is tree p m = step_of tree core.writable edit node is None (no_node image (memory_of core) node.serial none tree p m)

  module _ (row : Row) (found : named_row core node ≡ Some row) where
    pub fault : RefusesEach core node AdfError.ReadFault image
    fault edit is tree p m =
        let n = the_node image (memory_of core) node.serial row found tree p m in
        ap (λ nodes. first_refusal (file_tests_at_entry false tree nodes)) is.named
        ∙ ap (λ (o : Option Node). first_refusal ((not (is_some o) || false, AdfError.NoSuchNode) ∷ [])) n.is.live

    unread : (before now : ℕ) (e : AdfError) → IsUnread (HeaderBreaks core.wide (Some image) row.place) before now e → RefusesEach core node e image
    unread before now error.ReadFault h = fault
    unread before now (error.Layout rule at) h = λ edit is tree p m. absurd (no_break image (memory_of core) node.serial row found tree p m rule at h)
    unread before now other h = absurd h

    module _ (header : NodeHeader) (r : ReadAt (Some image) row.place (node_length core.wide) (IsHeader core.wide row.place None header)) (link w : Bool) (kind : is_lk header.kind ≡ link) (may : core.writable ≡ w) where
      pub decided : (edit : Edit) → IsOfNode edit node → (tree : Tree) (p : Placement) → Means image tree p (memory_of core) → file_step core.writable tree edit ≡ by_tests link w (apply tree edit)
      decided edit is tree p m =
          let n = the_node image (memory_of core) node.serial row found tree p m in
          let s = header_says image (memory_of core) node.serial row found tree p m header r in
          step_at tree core.writable edit node is n.node link w n.is.live (sym (ap is_lk s.kind) ∙ kind) may

-- ---- of bytes that may be told

module _ (core : Core) (node : NodeId) where
  pub refused_none : (held : Option (List ℕ)) → named_row core node ≡ None → IfSome held (RefusesEach core node AdfError.NoSuchNode)
  refused_none None none = tt
  refused_none (Some image) none = no_row image core node none

  module _ (row : Row) (found : named_row core node ≡ Some row) where
    pub refused_unread : (held : Option (List ℕ)) (before now : ℕ) (e : AdfError) → IsUnread (HeaderBreaks core.wide held row.place) before now e → IfSome held (RefusesEach core node e)
    refused_unread None before now e h = tt
    refused_unread (Some image) before now e h = unread image core node row found before now e h

    pub unread_cause : (held : Option (List ℕ)) (before now : ℕ) (e : AdfError) → IsUnread (HeaderBreaks core.wide held row.place) before now e → IsNodeCause core node held before now e
    unread_cause held before now error.ReadFault h = (row_there (named_row core node) row found, h)
    unread_cause held before now (error.Layout rule at) h = (row_there (named_row core node) row found, at_row (named_row core node) row (λ r. HeaderBreaks core.wide held r.place rule at) found h)
    unread_cause held before now other h = absurd h

    module _ (header : NodeHeader) (held : Option (List ℕ)) (r : ReadAt held row.place (node_length core.wide) (IsHeader core.wide row.place None header)) where
      pub reads : ReadsNode core node held row header
      reads = record { found = found; read = r }

      pub may_edit : is_lk header.kind ≡ false → core.writable ≡ true → MayEdit core node held row header
      may_edit plain may = record { reads = reads; plain = plain; allowed = may }

    pub refused_link : (header : NodeHeader) (held : Option (List ℕ)) → ReadAt held row.place (node_length core.wide) (IsHeader core.wide row.place None header) → is_lk header.kind ≡ true → IfSome held (RefusesEach core node AdfError.LinkMissing)
    refused_link header None r kind = tt
    refused_link header (Some image) r kind = λ edit is tree p m. decided image core node row found header r true core.writable kind refl edit is tree p m

    pub refused_read_only : (header : NodeHeader) (held : Option (List ℕ)) → ReadAt held row.place (node_length core.wide) (IsHeader core.wide row.place None header) → is_lk header.kind ≡ false → core.writable ≡ false → IfSome held (RefusesEach core node AdfError.ReadOnly)
    refused_read_only header None r kind may = tt
    refused_read_only header (Some image) r kind may = λ edit is tree p m. decided image core node row found header r false false kind may edit is tree p m

-- ---- of a node that may be edited

-- it is refused for nothing else than the edit itself
pub passes : (image : List ℕ) (core : Core) (node : NodeId) (row : Row) (header : NodeHeader) → MayEdit core node (Some image) row header → (edit : Edit) → IsOfNode edit node → (tree : Tree) (p : Placement) → Means image tree p (memory_of core)
    → file_step core.writable tree edit ≡ apply tree edit
passes image core node row header may edit is tree p m = decided image core node row may.reads.found header may.reads.read false true may.plain may.allowed edit is tree p m

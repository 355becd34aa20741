-- A label that is written in a node's header, and the refusals of labels.
use Rattle.std.proofs.Common.{◌≡◌, ℕ, refl, sym, ◌∙◌, ap, subst, arith, List, [], ◌∷◌, length, ◌+◌, Bool, true, false, not, ◌||◌, Option, None, Some}
use Rattle.std.specs.Prelude.{is_some, IfSome, Result, Ok, OnOk, IfErr}
use Rattle.std.proofs.lemmas.Result.{on_ok_weaker, IfErr-weaker}
use Rattle.cg_io.specs.Blocks.{Both}
use Rattle.cg_io.specs.Answers.{IsRefusal}
use Rattle.adf_format.specs.declared.types.ExtentKind.{ExtentKind}
use Rattle.adf_format.specs.Changes.{Writes}
use Rattle.adf_format.specs.HeapBytes.{ChangesOnly}
use Rattle.adf_format.specs.Fields.{text_field}
use Rattle.adf_format.specs.Names.{is_label, is_lk}
use Rattle.adf_format.specs.RecordFields.{node_length}
use Rattle.adf_format.specs.Tree.{Tree, Node, node_at, is_link, is_link_in}
use Rattle.adf_format.specs.Placement.{Placement}
use Rattle.adf_model.specs.declared.error.AdfError.{AdfError}
use Rattle.adf_model.specs.declared.error.AdfError.TheVariants as error
use Rattle.adf_model.specs.declared.tree.Edit.{Edit}
use Rattle.adf_model.specs.declared.tree.NodeId.{NodeId}
use Rattle.adf_model.specs.Tests.{checked, if_there, first_refusal}
use Rattle.adf_model.specs.Edits.{file_step, with_node}
use Rattle.adf_model.proofs.Basics.{same_Some}
use Rattle.adf_model.proofs.Following.StepTests.{step_tests}
use Rattle.adf_records.specs.declared.NodeHeader.{NodeHeader}
use Rattle.field_access.specs.Fields.{range}
use Rattle.node_reads.specs.Reads.{ReadAt, Breaks, IsUnread}
use Rattle.node_reads.specs.Headers.{IsHeader, header_rows}
use Rattle.tree_laws.specs.MidEdit.{Puts}
use Rattle.tree_laws.proofs.Whole.Texts.{label_is_whole}
use Rattle.tree_edits.specs.declared.rows.Row.{Row}
use Rattle.tree_edits.specs.declared.memory.Core.{Core}
use Rattle.tree_edits.specs.Rows.{Means, row_of}
use Rattle.tree_edits.specs.Edits.{memory_of, Does, Refuses}
use Rattle.tree_edits.proofs.Tables.{table_stays}
use Rattle.tree_edits.proofs.Nodes.{the_node, header_says, no_break, no_node}
use Rattle.tree_edits.proofs.Stays.{threads_stay, header_own}

-- ---- the tests

abbrev labelled : Tree → NodeId → List ℕ → Node → Tree
labelled tree at label node = with_node tree at.serial (record node { label = label })

-- all tests at a node that is there or is not
abbrev tested : Tree → NodeId → List ℕ → Bool → Option Node → Bool → Result Tree AdfError
tested tree at label writable o ok =
    checked ((not (is_some o) || false, AdfError.NoSuchNode) ∷ (is_link_in o, AdfError.LinkMissing) ∷ (not writable, AdfError.ReadOnly) ∷ [])
    (if_there o AdfError.NoSuchNode (λ n. checked ((not ok, AdfError.BadLabel) ∷ []) (Ok (with_node tree at.serial (record n { label = label })))))

step_is : (tree : Tree) (at : NodeId) (label : List ℕ) (writable : Bool) (o : Option Node) (ok : Bool) → node_at tree at.serial ≡ o → is_label label ≡ ok → file_step writable tree (Edit.SetLabel at label) ≡ tested tree at label writable o ok
step_is tree at label writable o ok here test = step_tests writable tree (Edit.SetLabel at label) ∙ ap (λ (x : Option Node). tested tree at label writable x (is_label label)) here ∙ ap (tested tree at label writable o) test

-- ... of a node that is there, by what is known of it
abbrev at_node : Tree → NodeId → List ℕ → Node → Bool → Bool → Bool → Result Tree AdfError
at_node tree at label node link writable ok =
    checked ((link, AdfError.LinkMissing) ∷ (not writable, AdfError.ReadOnly) ∷ []) (checked ((not ok, AdfError.BadLabel) ∷ []) (Ok (labelled tree at label node)))

known : (tree : Tree) (at : NodeId) (label : List ℕ) (node : Node) (link writable ok l w k : Bool) → node_at tree at.serial ≡ Some node → is_link node ≡ link → link ≡ l → writable ≡ w → is_label label ≡ ok → ok ≡ k
    → file_step writable tree (Edit.SetLabel at label) ≡ at_node tree at label node l w k
known tree at label node link writable ok l w k here is e f test g =
    step_is tree at label writable (Some node) ok here test
    ∙ ap (λ x. at_node tree at label node x writable ok) (is ∙ e) ∙ ap (λ x. at_node tree at label node l x ok) f ∙ ap (at_node tree at label node l w) g

-- ---- of bytes that are told

module _ (image : List ℕ) (core : Core) (node : NodeId) (label : List ℕ) where
  abbrev edit : Edit
  edit = Edit.SetLabel node label

  no_row : row_of core.rows.items node.serial ≡ None → Refuses edit core AdfError.NoSuchNode image
  no_row none tree p m = step_is tree node label core.writable None (is_label label) (no_node image (memory_of core) node.serial none tree p m) refl

  module _ (row : Row) (found : row_of core.rows.items node.serial ≡ Some row) where
    fault : Refuses edit core AdfError.ReadFault image
    fault tree p m =
        let n = the_node image (memory_of core) node.serial row found tree p m in
        ap (λ (o : Option Node). first_refusal ((not (is_some o) || false, AdfError.NoSuchNode) ∷ [])) n.is.live

    unread : (before now : ℕ) (e : AdfError) → IsUnread (Breaks (Some image) row.place (node_length core.wide) (header_rows core.wide row.place None)) before now e → Refuses edit core e image
    unread before now error.ReadFault h = fault
    unread before now (error.Layout rule at) h = λ tree p m. absurd (no_break image (memory_of core) node.serial row found tree p m rule at h)
    unread before now other h = absurd h

    unwritten : (before now : ℕ) (e : AdfError) → IsRefusal ⊥ before now e → Refuses edit core e image
    unwritten before now error.Memory h = λ tree p m. tt
    unwritten before now error.ReadFault h = fault
    unwritten before now (error.Layout rule at) h = absurd h.1
    unwritten before now other h = absurd h

    module _ (header : NodeHeader) (r : ReadAt (Some image) row.place (node_length core.wide) (IsHeader core.wide row.place None header)) (link : Bool) (is : link ≡ is_lk header.kind) where
      decided : (ok l w k : Bool) → link ≡ l → core.writable ≡ w → is_label label ≡ ok → ok ≡ k → (tree : Tree) (p : Placement) (m : Means image tree p (memory_of core))
          → file_step core.writable tree edit ≡ at_node tree node label (the_node image (memory_of core) node.serial row found tree p m).node l w k
      decided ok l w k e f test g tree p m =
          let n = the_node image (memory_of core) node.serial row found tree p m in
          let s = header_says image (memory_of core) node.serial row found tree p m header r in
          known tree node label n.node link core.writable ok l w k n.is.live (sym (is ∙ ap is_lk s.kind)) e f test g

      is_a_link : link ≡ true → Refuses edit core AdfError.LinkMissing image
      is_a_link e tree p m = decided (is_label label) true core.writable (is_label label) e refl refl refl tree p m

      is_read_only : link ≡ false → core.writable ≡ false → Refuses edit core AdfError.ReadOnly image
      is_read_only e f tree p m = decided (is_label label) false false (is_label label) e f refl refl tree p m

      is_no_label : link ≡ false → core.writable ≡ true → is_label label ≡ false → Refuses edit core AdfError.BadLabel image
      is_no_label e f g tree p m = decided (is_label label) false true false e f refl g tree p m

      does : (new : List ℕ) → link ≡ false → core.writable ≡ true → is_label label ≡ true → Writes (row.place + 36) (text_field 32 label) image new → ChangesOnly (range (row.place + 36) 32 ∷ []) image new → Does edit core core image new
      does new e f g w only tree p m =
          let n = the_node image (memory_of core) node.serial row found tree p m in
          let puts : Puts ExtentKind.Node (n.parts.header + 36) 32 (text_field 32 label) image new =
          subst (λ k. Puts ExtentKind.Node (k + 36) 32 (text_field 32 label) image new) (sym n.at) (record { writes = w; only = record { longer = only.longer; others = only.others; grows = λ b low high. record { byte = (only.grows b low high).byte; own = (only.grows b low high).own; block = (only.grows b low high).block } } }) in
          let whole = label_is_whole core.heap.limit core.writable image new tree (labelled tree node label n.node) p node label n.parts m.laid_out (decided (is_label label) false true true e f refl g tree p m) n.is.stands puts in
          record {
            after = labelled tree node label n.node;
            placement = p;
            whole = whole;
            means = record {
              laid_out = whole.laid_out;
              wide = m.wide;
              table = table_stays tree p node.serial n.node (record n.node { label = label }) n.is.live refl core.rows.items m.table;
              heap = m.heap;
              threads = threads_stay image image new tree p m.laid_out (range (row.place + 36) 32 ∷ []) (header_own image tree p node.serial n.parts m.laid_out n.is.stands row.place n.at 36 32 (omega arith)) core.heap.work m.heap only m.threads;
            };
          }

-- ---- of bytes that may be told

module _ (core : Core) (node : NodeId) (label : List ℕ) where
  pub refused_none : (held : Option (List ℕ)) → row_of core.rows.items node.serial ≡ None → IfSome held (Refuses (Edit.SetLabel node label) core AdfError.NoSuchNode)
  refused_none None none = tt
  refused_none (Some image) none = no_row image core node label none

  module _ (row : Row) (found : row_of core.rows.items node.serial ≡ Some row) where
    pub refused_unread : (held : Option (List ℕ)) (before now : ℕ) (e : AdfError) → IsUnread (Breaks held row.place (node_length core.wide) (header_rows core.wide row.place None)) before now e
        → IfSome held (Refuses (Edit.SetLabel node label) core e)
    refused_unread None before now e h = tt
    refused_unread (Some image) before now e h = unread image core node label row found before now e h

    refused_for : (held : Option (List ℕ)) (before now : ℕ) (e : AdfError) → IsRefusal ⊥ before now e → IfSome held (Refuses (Edit.SetLabel node label) core e)
    refused_for None before now e h = tt
    refused_for (Some image) before now e h = unwritten image core node label row found before now e h

    pub refused_write : {T : Type 0} (r : Result T AdfError) (held : Option (List ℕ)) (before now : ℕ) → IfErr r (IsRefusal ⊥ before now) → IfErr r (λ e. IfSome held (Refuses (Edit.SetLabel node label) core e))
    refused_write r held before now h = IfErr-weaker r (IsRefusal ⊥ before now) _ (λ e c. refused_for held before now e c) h

    module _ (header : NodeHeader) (link : Bool) (is : link ≡ is_lk header.kind) where
      pub refused_link : (held : Option (List ℕ)) → ReadAt held row.place (node_length core.wide) (IsHeader core.wide row.place None header) → link ≡ true → IfSome held (Refuses (Edit.SetLabel node label) core AdfError.LinkMissing)
      refused_link None r e = tt
      refused_link (Some image) r e = is_a_link image core node label row found header r link is e

      pub refused_read_only : (held : Option (List ℕ)) → ReadAt held row.place (node_length core.wide) (IsHeader core.wide row.place None header) → link ≡ false → core.writable ≡ false
          → IfSome held (Refuses (Edit.SetLabel node label) core AdfError.ReadOnly)
      refused_read_only None r e f = tt
      refused_read_only (Some image) r e f = is_read_only image core node label row found header r link is e f

      pub refused_label : (held : Option (List ℕ)) → ReadAt held row.place (node_length core.wide) (IsHeader core.wide row.place None header) → link ≡ false → core.writable ≡ true → is_label label ≡ false
          → IfSome held (Refuses (Edit.SetLabel node label) core AdfError.BadLabel)
      refused_label None r e f g = tt
      refused_label (Some image) r e f g = is_no_label image core node label row found header r link is e f g

      pub done : {T E : Type 0} (r : Result T E) (held mid new : Option (List ℕ)) (text : List ℕ) → ReadAt held row.place (node_length core.wide) (IsHeader core.wide row.place None header) → link ≡ false → core.writable ≡ true → is_label label ≡ true
          → text ≡ text_field 32 label → length text ≡ 32 → mid ≡ held → OnOk r (Both (Writes (row.place + 36) text) mid new) → Both (ChangesOnly (range (row.place + 36) (length text) ∷ [])) mid new
          → OnOk r (Both (Does (Edit.SetLabel node label) core core) held new)
      done r held mid new text read e f g same long still wrote only = on_ok_weaker r (by_held held mid new read still only) wrote
        where
          by_held : (held mid new : Option (List ℕ)) → ReadAt held row.place (node_length core.wide) (IsHeader core.wide row.place None header) → mid ≡ held → Both (ChangesOnly (range (row.place + 36) (length text) ∷ [])) mid new
              → Both (Writes (row.place + 36) text) mid new → Both (Does (Edit.SetLabel node label) core core) held new
          by_held None None None read still only b = tt
          by_held None None (Some new) read still only b = b
          by_held None (Some mid) new read still only b = cc
          by_held (Some old) None new read still only b = cc
          by_held (Some old) (Some mid) None read still only b = b
          by_held (Some old) (Some mid) (Some new) read still only b =
              does old core node label row found header read link is new e f g
              (subst (λ (image : List ℕ). Writes (row.place + 36) (text_field 32 label) image new) (same_Some mid old still) (subst (λ t. Writes (row.place + 36) t mid new) same b))
              (subst (λ (image : List ℕ). ChangesOnly (range (row.place + 36) 32 ∷ []) image new) (same_Some mid old still) (subst (λ n. ChangesOnly (range (row.place + 36) n ∷ []) mid new) long only))

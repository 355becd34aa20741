-- A look at the header of a node.
use Rattle.std.proofs.Common.{◌≡◌, ℕ, sym, ◌∙◌, ap, subst, List, false}
use Rattle.std.specs.Prelude.{Option, Some, None, IfSome, IsSome, IfOk, IfErr, is_some, Result, Ok, Err}
use Rattle.std.specs.Map.{keys_of}
use Rattle.adf_format.specs.LaysOut.{fields_of}
use Rattle.adf_format.specs.RecordFields.{node_length}
use Rattle.adf_format.specs.Tree.{Node}
use Rattle.adf_format.specs.Placement.{NodeParts}
use Rattle.adf_model.specs.Counts.{DeviceState, OnlyReads}
use Rattle.adf_model.specs.declared.error.AdfError.{AdfError}
use Rattle.adf_model.specs.declared.error.AdfError.TheVariants as error
use Rattle.adf_model.proofs.Basics.{same_Some}
use Rattle.adf_records.specs.declared.NodeHeader.{NodeHeader}
use Rattle.block_cache.specs.Cache.{IsCache}
use Rattle.block_cache.specs.declared.cache.BlockCache.{BlockCache}
use Rattle.block_draft.specs.Draft.{blocks_below, changes_in, waiting_in}
use Rattle.block_draft.specs.declared.draft.Draft.{Draft}
use Rattle.cg_io.specs.Answers.{IsUntold}
use Rattle.cg_io.specs.Blocks.{Both}
use Rattle.node_reads.specs.Reads.{ReadAt, Breaks, IsUnread}
use Rattle.node_reads.specs.Headers.{IsHeader, SaysFields, header_rows}
use Rattle.tree_edits.specs.declared.memory.Core.{Core}
use Rattle.tree_edits.specs.declared.rows.Row.{Row}
use Rattle.tree_edits.specs.Edits.{memory_of}
use Rattle.tree_edits.specs.Rows.{row_of}
use Rattle.tree_edits.proofs.Nodes.{the_node, header_says, no_break}
use Rattle.adf_tree.specs.declared.file.AdfFile.{AdfFile}
use Rattle.adf_tree.specs.Files.{FileState, device_of, image_in, accepted, steps_in, DoesAll, HasMeaning, IsWorking, KeepsNames}
use Rattle.adf_tree.specs.Headers.{HeaderEnds, IsHeaderOf}
use Rattle.adf_tree.proofs.HeaderRules.{header_rule}
use Rattle.adf_tree.proofs.Starting.{no_keys}

-- ---- what is told

module _ (core : Core) (serial : ℕ) (row : Row) (found : row_of core.rows.items serial ≡ Some row) where
  is_header : (image : Option (List ℕ)) (header : NodeHeader) → ReadAt image row.place (node_length core.wide) (IsHeader core.wide row.place None header) → IfSome image (IsHeaderOf serial core header)
  is_header None header r = tt
  is_header (Some image) header r = λ tree p node parts m live stands.
      let own = the_node image (memory_of core) serial row found tree p m in
      subst (λ (n : Node). SaysFields header (fields_of n parts)) (same_Some own.node node (sym own.is.live ∙ live))
      (subst (λ (q : NodeParts). SaysFields header (fields_of own.node q)) (same_Some own.parts parts (sym own.is.stands ∙ stands))
      (header_says image (memory_of core) serial row found tree p m header r))

  -- a header that breaks a rule is none of bytes that are told
  untold : (image : Option (List ℕ)) (rule at : ℕ) → HasMeaning core image → Breaks image row.place (node_length core.wide) (header_rows core.wide row.place None) rule at → IsUntold image
  untold None rule at m b = tt
  untold (Some image) rule at m b = no_break image (memory_of core) serial row found m.0 m.1 m.2 rule at b

  is_there : IsSome (row_of core.rows.items serial)
  is_there = ap (λ (o : Option Row). is_some o) found

  pub header_ends : (old new : FileState) → old.core ≡ core → old.broken ≡ false → HasMeaning core old.image → (result : Result NodeHeader AdfError)
      → IfOk result (λ h. ReadAt old.image row.place (node_length core.wide) (IsHeader core.wide row.place None h))
      → IfErr result (IsUnread (Breaks old.image row.place (node_length core.wide) (header_rows core.wide row.place None)) old.device.faults new.device.faults)
      → HeaderEnds serial result old new
  header_ends old new same live means (Ok header) read cause =
      (live, subst (λ (c : Core). IsSome (row_of c.rows.items serial)) (sym same) is_there, subst (λ (c : Core). IfSome old.image (IsHeaderOf serial c header)) (sym same) (is_header old.image header read))
  header_ends old new same live means (Err error.ReadFault) read cause = (live, subst (λ (c : Core). IsSome (row_of c.rows.items serial)) (sym same) is_there, cause)
  header_ends old new same live means (Err (error.Layout rule at)) read cause = (
    live,
    subst (λ (c : Core). IsSome (row_of c.rows.items serial)) (sym same) is_there,
    header_rule core.wide old.image row.place rule at cause,
    untold old.image rule at means cause,
  )
  header_ends old new same live means (Err e) read cause = absurd cause

-- ---- what is left

module _ {D : Type 0} (state : D → DeviceState) (file : AdfFile D) (draft : Draft (BlockCache D)) (w : IsWorking state file) (cache : IsCache state (blocks_below draft))
    (shown : image_in state (record file { draft = draft }) ≡ image_in state file) (waits : waiting_in draft ≡ waiting_in file.draft)
    (reads : OnlyReads (device_of state file) (device_of state (record file { draft = draft })))
  where
    pub read_works : IsWorking state (record file { draft = draft })
    read_works = record {
      cache = cache;
      near = w.near;
      kept_near = w.kept_near;
      means = λ live. subst (HasMeaning (accepted file.core)) (sym reads.held) (w.means live);
      work = λ live.
          subst (λ (held : Option (List ℕ)). Both (DoesAll (steps_in file) (waiting_in draft) (accepted file.core) file.core) held (image_in state (record file { draft = draft }))) (sym reads.held)
          (subst (λ (image : Option (List ℕ)). Both (DoesAll (steps_in file) (waiting_in draft) (accepted file.core) file.core) (device_of state file).held image) (sym shown)
          (subst (λ (n : List ℕ). Both (DoesAll (steps_in file) n (accepted file.core) file.core) (device_of state file).held (image_in state file)) (sym waits) (w.work live)));
      names = λ live.
          subst (λ (held : Option (List ℕ)). KeepsNames file.names file.core held (image_in state (record file { draft = draft }))) (sym reads.held)
          (subst (KeepsNames file.names file.core (device_of state file).held) (sym shown) (w.names live));
      idle = λ none. record { changes = no_keys (changes_in draft) (waits ∙ ap keys_of (w.idle none).changes); core = (w.idle none).core };
      stopped = w.stopped;
    }

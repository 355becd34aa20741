-- Data that are put, over bytes that may be told: what is done, and why it is refused.
use Rattle.std.proofs.Common.{◌≡◌, ◌≢◌, inl, inr, ℕ, refl, sym, ◌∙◌, ap, subst, arith, List, [], ◌∷◌, ◌++◌, length, ◌+◌, ◌^◌, ◌<◌, ◌≤◌, true, false, Option, None, Some}
use Rattle.std.proofs.lemmas.Result.{on_ok_weaker}
use Rattle.std.specs.Prelude.{Result, Ok, Err, IfSome, OnOk, ◌↔◌, IsFalse}
use Rattle.adf_format.specs.declared.types.Extent.{Extent}
use Rattle.adf_format.specs.declared.types.ExtentKind.{ExtentKind}
use Rattle.adf_format.specs.Changes.{Writes}
use Rattle.adf_format.specs.Fields.{field}
use Rattle.adf_format.specs.Hex.{hex_text}
use Rattle.adf_format.specs.HeapRule.{Placed, data_at, place_edit}
use Rattle.adf_format.specs.LaysOut.{chunk_pointer, fields_of}
use Rattle.adf_format.specs.Names.{data_size}
use Rattle.adf_format.specs.Parts.{SpellsNode, node_length, chunk_count_at}
use Rattle.adf_format.specs.Placement.{Placement, NodeParts, extent, parts_of}
use Rattle.adf_format.specs.Pointer.{pointer_text}
use Rattle.adf_format.specs.Tiles.{cover}
use Rattle.adf_format.specs.Tree.{Tree, Node, node_at}
use Rattle.adf_format.proofs.HeapLaws.{in_range}
use Rattle.adf_model.specs.declared.error.AdfError.{AdfError}
use Rattle.adf_model.specs.declared.error.AdfError.TheVariants as error
use Rattle.adf_model.specs.declared.tree.Edit.{Edit}
use Rattle.adf_model.specs.declared.tree.NodeId.{NodeId}
use Rattle.adf_model.specs.declared.tree.Selection.{Selection}
use Rattle.adf_model.specs.declared.tree.Shape.{Shape}
use Rattle.adf_model.specs.Selection.{selection_fits}
use Rattle.adf_model.specs.Shapes.{dims_of as shape_dims}
use Rattle.strided.specs.RunLists.{IsRunsRefusal}
use Rattle.adf_model.specs.Edits.{file_step, with_node}
use Rattle.adf_model.specs.Placing.{placed_as}
use Rattle.adf_model.proofs.Basics.{not_true}
use Rattle.adf_model.proofs.Creation.PartsApart.{range_within}
use Rattle.adf_records.specs.declared.NodeHeader.{NodeHeader}
use Rattle.adf_data.specs.declared.place.DataPlace.{DataPlace}
use Rattle.cg_io.specs.Answers.{IsRefusal}
use Rattle.cg_io.specs.Blocks.{Both}
use Rattle.cg_io.proofs.ReadLaws.{rose_later}
use Rattle.disk_ptr.specs.View.{view}
use Rattle.file_heap.specs.Heap.{FreeSpace}
use Rattle.tree_laws.specs.DataSwitch.{chunks_text}
use Rattle.tree_laws.specs.MidEdit.{Puts}
use Rattle.tree_laws.specs.WholeData.{data_ranges}
use Rattle.tree_laws.proofs.Data.DataFields.{chunks_written}
use Rattle.tree_laws.proofs.Tables.TableReplaced.{few_dims}
use Rattle.tree_asks.specs.Headers.{dims_of, data_shape_of}
use Rattle.tree_asks.proofs.Dims.{few_dims as few_read}
use Rattle.tree_asks.proofs.NodeData.{shaped}
use Rattle.tree_edits.specs.declared.memory.Core.{Core}
use Rattle.tree_edits.specs.declared.rows.Row.{Row}
use Rattle.tree_edits.specs.Rows.{Means}
use Rattle.tree_edits.specs.Edits.{memory_of, Does, Refuses, Follows}
use Rattle.tree_edits.specs.Taken.{IsRoomless}
use Rattle.tree_edits.proofs.Causes.{row_there}
use Rattle.data_edit_laws.specs.Settled.{SettlesWhole}
use Rattle.data_edit_laws.proofs.Whole.{put_all_settles, put_part_settles}
use Rattle.data_edits.specs.Found.{MayEdit, IsNodeCause, RefusesEach}
use Rattle.data_edits.specs.Becomes.{Becomes, BecomeBy, Owned, NoneOwned, spot_after}
use Rattle.data_edits.specs.Puts.{Part, MayPut, Fills, IsDataRefusal, IsDataCause, IsPutCause, LacksData, RefusesPuts, edit_of, fits, part_length}
use Rattle.data_edits.proofs.Founds.{fault}
use Rattle.data_edits.proofs.Owned.{i, owned}
use Rattle.data_edits.proofs.Settling.{settles, still_threaded, header_stays, header_reaches, in_reach, only_data}
use Rattle.data_edits.proofs.Edited.{place_by, full_by, data_set, follows}
use Rattle.data_edits.proofs.PutTests.{now_of, of_node, its, live, no_data, too_large, bad_range, wrong_length, made}

law_of : (node : NodeId) (part : Part) (given : List ℕ) → SettlesWhole (edit_of node part given) node (now_of part given) data_ranges
law_of node Part.Whole given = put_all_settles node given
law_of node (Part.Chosen selection) given = put_part_settles node selection given

placed_is : (node : NodeId) (part : Part) (given : List ℕ) → placed_as (edit_of node part given) ≡ Placed.Data node.serial
placed_is node Part.Whole given = refl
placed_is node (Part.Chosen selection) given = refl

-- the node keeps all but its data
same_list : (part : Part) (given : List ℕ) (node : Node) → (now_of part given node).children ≡ node.children
same_list Part.Whole given node = refl
same_list (Part.Chosen selection) given node = refl

same_fields : (part : Part) (given : List ℕ) (node : Node) (parts : NodeParts) → fields_of (now_of part given node) parts ≡ fields_of node parts
same_fields Part.Whole given node parts = refl
same_fields (Part.Chosen selection) given node parts = refl

module _ (image : List ℕ) (core : Core) (node : NodeId) (part : Part) (given : List ℕ) (row : Row) (h : NodeHeader) (fill : Fills core node part given (Some image) row h) (change : Option (List ℕ) → Option (List ℕ)) (tree : Tree) (p : Placement) (m : Means image tree p (memory_of core))
    (wanted_is : (now_of part given (its image core node given row h fill.put.may tree p m)).bytes ≡ change (its image core node given row h fill.put.may tree p m).bytes) where
  abbrev n : Node
  n = its image core node given row h fill.put.may tree p m

  abbrev from : NodeParts
  from = (i image core node row h fill.put.may tree p m).parts

  stands : parts_of p node.serial ≡ Some from
  stands = (i image core node row h fill.put.may tree p m).is.stands

  here : node_at tree node.serial ≡ Some n
  here = live image core node given row h fill.put.may tree p m

  abbrev after : Tree
  after = with_node tree node.serial (now_of part given n)

  step : file_step core.writable tree (edit_of node part given) ≡ Ok after
  step = made image core node given row h fill.put.may tree p m fill.put.filled fill.put.small part fill.fit fill.long

  data_is : data_at after node.serial ≡ change n.bytes
  data_is = data_set tree node.serial n (now_of part given n) here ∙ wanted_is

  pub full : (asked end : ℕ) → ((parts : NodeParts) (bytes : Option (List ℕ)) → Owned h parts bytes core.heap.work.heap (Some image) → spot_after core.heap.limit (change bytes) (parts, core.heap.work.heap) ≡ Err (record { asked = asked; end = end }))
      → place_edit core.heap.limit tree after (placed_as (edit_of node part given)) p ≡ Err (record { asked = asked; end = end })
  full asked end exact =
      ap (λ e. place_edit core.heap.limit tree after e p) (placed_is node part given)
      ∙ full_by core.heap.limit tree after p node.serial from stands (change n.bytes) data_is (record { asked = asked; end = end })
      (subst (λ heap. spot_after core.heap.limit (change n.bytes) (from, heap) ≡ Err (record { asked = asked; end = end })) (sym m.heap) (exact from n.bytes (owned image core node row h fill.put.may tree p m)))

  module _ (mid new : List ℕ) (at : DataPlace) (later : FreeSpace) (become : BecomeBy core.heap.limit change h at core.heap.work.heap later image mid) (count : at.count < 16 ^ 4)
      (t : Puts ExtentKind.Node (row.place + chunk_count_at core.wide) 16 (hex_text 4 at.count ++ pointer_text (view at.pointer)) mid new) where
    b : Becomes core.heap.limit (change n.bytes) from at p.heap later image mid
    b = subst (λ heap. Becomes core.heap.limit (change n.bytes) from at heap later image mid) (sym m.heap) (become from n.bytes (owned image core node row h fill.put.may tree p m))

    abbrev ranges : List Extent
    ranges = extent ExtentKind.Node (from.header + chunk_count_at tree.wide) 16 ∷ []

    second : Puts ExtentKind.Node (from.header + chunk_count_at tree.wide) 16 (hex_text 4 at.count ++ pointer_text (view at.pointer)) mid new
    second =
        subst (λ w. Puts ExtentKind.Node (from.header + chunk_count_at w) 16 (hex_text 4 at.count ++ pointer_text (view at.pointer)) mid new) (sym m.wide)
        (subst (λ k. Puts ExtentKind.Node (k + chunk_count_at core.wide) 16 (hex_text 4 at.count ++ pointer_text (view at.pointer)) mid new) (sym (i image core node row h fill.put.may tree p m).at) t)

    text_is : hex_text 4 at.count ++ pointer_text (view at.pointer) ≡ chunks_text (length b.after.chunks) (chunk_pointer b.after.chunks b.after.chunk_table)
    text_is = ap (λ k. hex_text 4 k ++ pointer_text (view at.pointer)) b.named.count ∙ ap (λ x. hex_text 4 (length b.after.chunks) ++ pointer_text x) b.named.pointer

    in_header : (k : ℕ) → 0 < cover ranges k → 0 < in_range from.header (node_length tree.wide) k
    in_header k some = let y = range_within from.header (node_length tree.wide) (from.header + chunk_count_at tree.wide) 16 k (omega arith) (omega arith) in omega (arith, y, some)

    header_was : SpellsNode tree.wide (field mid from.header (node_length tree.wide)) (fields_of n from)
    header_was =
        subst (λ bytes. SpellsNode tree.wide bytes (fields_of n from)) (sym (header_stays image mid new tree p m.laid_out node.serial from stands core.heap.limit (change n.bytes) at later b ranges second.only in_header))
        (m.laid_out.nodes node.serial n from here stands).header

    reaches : from.header + node_length tree.wide ≤ length mid
    reaches = header_reaches image mid new tree p m.laid_out node.serial from stands core.heap.limit (change n.bytes) at later b ranges second.only in_header

    header_now : SpellsNode tree.wide (field new from.header (node_length tree.wide)) (fields_of (now_of part given n) b.after)
    header_now =
        subst (SpellsNode tree.wide (field new from.header (node_length tree.wide))) (sym (same_fields part given n b.after))
        (subst (λ (x : NodeParts). SpellsNode tree.wide (field new from.header (node_length tree.wide)) (fields_of n x)) (sym (only_data core.heap.limit (change n.bytes) (from, p.heap) (b.after, later.heap) b.placed))
        (chunks_written tree.wide mid new from.header (fields_of n from) (length b.after.chunks) (chunk_pointer b.after.chunks b.after.chunk_table)
        (subst (λ text. Writes (from.header + chunk_count_at tree.wide) text mid new) text_is second.writes) reaches (few_dims tree node.serial n m.laid_out.is_tree here)
        (let k = b.named.count in omega (arith, k, count)) (in_reach mid b.after (change n.bytes) b.holds) header_was))

    pub put : (is : Core) → is.wide ≡ core.wide → is.rows.items ≡ core.rows.items → is.heap.work ≡ later → Follows core.heap.limit core.writable (edit_of node part given) tree p (memory_of is) image new
    put is wide rows heap =
        follows core is (edit_of node part given) image new tree p node.serial n (now_of part given n) from b.after.chunks b.after.chunk_table later m here stands (same_list part given n)
        (law_of node part given core.heap.limit core.writable image new tree after p n from b.after.chunks b.after.chunk_table later.heap m.laid_out step here stands
        (place_by core.heap.limit tree after p node.serial from stands (change n.bytes) data_is b.after later.heap b.placed)
        (settles image mid new tree p m.laid_out node.serial from stands core.heap.limit (change n.bytes) at later b ranges second.only in_header
        (data_ranges tree.wide from) tree.wide (now_of part given n) (λ k. omega arith) header_now wanted_is))
        wide rows heap
        (still_threaded image mid new tree p m.laid_out node.serial from stands core.heap.limit (change n.bytes) at later b ranges second.only in_header)

-- ---- over bytes that may be told

-- what the data become is what the edit makes of them, in each tree that is meant
abbrev pub IsChange : Core → NodeId → Part → List ℕ → NodeHeader → (Option (List ℕ) → Option (List ℕ)) → Type 0
IsChange core node part given h change = (n : Node) → n.kind ≡ h.kind → n.dims ≡ dims_of h → IfSome n.bytes (λ (b : List ℕ). length b ≡ data_size h.kind (dims_of h)) → (now_of part given n).bytes ≡ change n.bytes

-- a node that may not have data
module _ (core : Core) (node : NodeId) (row : Row) (h : NodeHeader) where
  pub refused_data : (held : Option (List ℕ)) → MayEdit core node held row h → (e : AdfError) → IsDataRefusal h row.place e → IfSome held (RefusesPuts core node e)
  refused_data None may e c = tt
  refused_data (Some image) may error.NoData c = λ part given tree p m. no_data image core node given row h may tree p m part c
  refused_data (Some image) may error.TooLarge c = λ part given tree p m. too_large image core node given row h may tree p m c.0 part c.1
  refused_data (Some image) may (error.Layout rule at) c = λ part given tree p m.
      absurd (not_true (sym c.2.2 ∙ shaped image core node.serial row.place h tree p m (i image core node row h may tree p m) (few_read core.wide row.place h may.reads.read.bytes may.reads.read.says)))
  refused_data (Some image) may other c = absurd c

  pub data_cause : (held : Option (List ℕ)) → MayEdit core node held row h → (before now : ℕ) (e : AdfError) → IsDataRefusal h row.place e → IsDataCause core node held before now e
  data_cause held may before now error.NoData c = (row, h, may, c)
  data_cause held may before now error.TooLarge c = (row, h, may, c)
  data_cause held may before now (error.Layout rule at) c = inr (row, h, may, c)
  data_cause held may before now other c = absurd c

-- what was said before of the node of an edit
module _ (core : Core) (node : NodeId) where
  pub each_put : (held : Option (List ℕ)) (e : AdfError) → IfSome held (RefusesEach core node e) → IfSome held (RefusesPuts core node e)
  each_put None e r = tt
  each_put (Some image) e r = λ part given. r (edit_of node part given) (of_node node part given)

  pub node_cause : (held : Option (List ℕ)) (before now : ℕ) (e : AdfError) → IsNodeCause core node held before now e → IsDataCause core node held before now e
  node_cause held before now error.NoData c = absurd c
  node_cause held before now error.TooLarge c = absurd c
  node_cause held before now (error.Layout rule at) c = inl c
  node_cause held before now other c = c

  pub one_put : (part : Part) (given : List ℕ) (held : Option (List ℕ)) (e : AdfError) → IfSome held (RefusesPuts core node e) → IfSome held (Refuses (edit_of node part given) core e)
  one_put part given None e r = tt
  one_put part given (Some image) e r = r part given

  pub data_is_cause : (part : Part) (given : List ℕ) (held : Option (List ℕ)) (before now : ℕ) (e : AdfError) → IsDataCause core node held before now e → IsPutCause core node part given held before now e
  data_is_cause part given held before now error.Memory c = absurd c
  data_is_cause part given held before now error.BadRange c = absurd c
  data_is_cause part given held before now (error.WrongLength want got) c = absurd c
  data_is_cause part given held before now (error.Full asked end) c = absurd c
  data_is_cause part given held before now (error.Layout rule at) c = inl c
  data_is_cause part given held before now other c = c

module _ (core : Core) (node : NodeId) (part : Part) (given : List ℕ) (row : Row) (h : NodeHeader) where
  -- want of memory, whatever is asked for
  pub refused_memory : (held : Option (List ℕ)) (e : AdfError) → e ≡ AdfError.Memory → IfSome held (Refuses (edit_of node part given) core e)
  refused_memory None e is = tt
  refused_memory (Some image) e is = subst (λ x. Refuses (edit_of node part given) core x image) (sym is) (λ tree p m. tt)

  -- another length
  pub refused_length : (held : Option (List ℕ)) → MayPut core node held row h → fits part h ≡ true → (want : ℕ) → want ≡ part_length part h → (e : AdfError) → e ≡ AdfError.WrongLength want (length given) → length given ≢ want
      → IfSome held (Refuses (edit_of node part given) core e)
  refused_length None may fit want is e c differs = tt
  refused_length (Some image) may fit want is e c differs =
      subst (λ x. Refuses (edit_of node part given) core x image) (sym (c ∙ ap (λ k. AdfError.WrongLength k (length given)) is))
      (λ tree p m. wrong_length image core node given row h may.may tree p m may.filled may.small part fit (λ same. differs (same ∙ sym is)))

  pub length_cause : (held : Option (List ℕ)) → MayPut core node held row h → fits part h ≡ true → (want : ℕ) → want ≡ part_length part h → (before now : ℕ) (e : AdfError) → e ≡ AdfError.WrongLength want (length given) → length given ≢ want
      → IsPutCause core node part given held before now e
  length_cause held may fit want is before now e c differs = subst (λ x. IsPutCause core node part given held before now x) (sym c) (row, h, may, fit, is, refl, differs)

  module _ (held : Option (List ℕ)) (fill : Fills core node part given held row h) where
    pub put_cause : (before middle now : ℕ) (e : AdfError) → before ≤ middle → IsRoomless (LacksData core.heap.limit h core.heap.work.heap) (NoneOwned h core.heap.work.heap held) middle now e → IsPutCause core node part given held before now e
    put_cause before middle now error.Memory le c = (row, h, fill.put)
    put_cause before middle now error.ReadFault le c = (row_there _ row fill.put.may.reads.found, rose_later before middle now le c)
    put_cause before middle now (error.Layout rule at) le c = inr (row, h, fill, c.0, c.1)
    put_cause before middle now (error.Full asked end) le c = (row, h, fill, c)
    put_cause before middle now other le c = absurd c

    pub write_cause : (before middle now : ℕ) (e : AdfError) → before ≤ middle → IsRefusal ⊥ middle now e → IsPutCause core node part given held before now e
    write_cause before middle now error.Memory le c = (row, h, fill.put)
    write_cause before middle now error.ReadFault le c = (row_there _ row fill.put.may.reads.found, rose_later before middle now le c)
    write_cause before middle now (error.Layout rule at) le c = absurd c.1
    write_cause before middle now other le c = absurd c

  pub refused_write : (held : Option (List ℕ)) → Fills core node part given held row h → (before now : ℕ) (e : AdfError) → IsRefusal ⊥ before now e → IfSome held (Refuses (edit_of node part given) core e)
  refused_write None fill before now e c = tt
  refused_write (Some image) fill before now error.Memory c = λ tree p m. tt
  refused_write (Some image) fill before now error.ReadFault c = fault image core node row fill.put.may.reads.found (edit_of node part given) (of_node node part given)
  refused_write (Some image) fill before now (error.Layout rule at) c = absurd c.1
  refused_write (Some image) fill before now other c = absurd c

  module _ (change : Option (List ℕ) → Option (List ℕ)) (changes : IsChange core node part given h change) where
    wanted : (image : List ℕ) (fill : Fills core node part given (Some image) row h) (tree : Tree) (p : Placement) (m : Means image tree p (memory_of core))
        → (now_of part given (its image core node given row h fill.put.may tree p m)).bytes ≡ change (its image core node given row h fill.put.may tree p m).bytes
    wanted image fill tree p m =
        let x = i image core node row h fill.put.may tree p m in
        changes x.node (sym x.fields.kind) (sym x.dims) (owned image core node row h fill.put.may tree p m).long

    pub refused_put : (held : Option (List ℕ)) → Fills core node part given held row h → (before now : ℕ) (e : AdfError)
        → IsRoomless (LacksData core.heap.limit h core.heap.work.heap) (NoneOwned h core.heap.work.heap held) before now e
        → ((asked end : ℕ) → e ≡ error.Full asked end → (parts : NodeParts) (bytes : Option (List ℕ)) → Owned h parts bytes core.heap.work.heap held
        → spot_after core.heap.limit (change bytes) (parts, core.heap.work.heap) ≡ Err (record { asked = asked; end = end }))
        → IfSome held (Refuses (edit_of node part given) core e)
    refused_put None fill before now e c exact = tt
    refused_put (Some image) fill before now error.Memory c exact = λ tree p m. tt
    refused_put (Some image) fill before now error.ReadFault c exact = fault image core node row fill.put.may.reads.found (edit_of node part given) (of_node node part given)
    refused_put (Some image) fill before now (error.Layout rule at) c exact = λ tree p m.
        absurd (c.1 (i image core node row h fill.put.may tree p m).parts (i image core node row h fill.put.may tree p m).node.bytes (owned image core node row h fill.put.may tree p m))
    refused_put (Some image) fill before now (error.Full asked end) c exact = λ tree p m.
        (refl, (after image core node part given row h fill change tree p m (wanted image fill tree p m), step image core node part given row h fill change tree p m (wanted image fill tree p m), full image core node part given row h fill change tree p m (wanted image fill tree p m) asked end (exact asked end refl)))
    refused_put (Some image) fill before now other c exact = absurd c

    done_at : (is : Core) (at : DataPlace) (later : FreeSpace) (held mid new : Option (List ℕ)) → Fills core node part given held row h
        → Both (BecomeBy core.heap.limit change h at core.heap.work.heap later) held mid → at.count < 16 ^ 4
        → Both (Puts ExtentKind.Node (row.place + chunk_count_at core.wide) 16 (hex_text 4 at.count ++ pointer_text (view at.pointer))) mid new
        → is.wide ≡ core.wide → is.rows.items ≡ core.rows.items → is.heap.work ≡ later → Both (Does (edit_of node part given) core is) held new
    done_at is at later None None None fill b count t wide rows heap = tt
    done_at is at later None None (Some new) fill b count t wide rows heap = absurd t
    done_at is at later None (Some mid) new fill b count t wide rows heap = absurd b
    done_at is at later (Some image) None new fill b count t wide rows heap = absurd b
    done_at is at later (Some image) (Some mid) None fill b count t wide rows heap = absurd t
    done_at is at later (Some image) (Some mid) (Some new) fill b count t wide rows heap = λ tree p m.
        put image core node part given row h fill change tree p m (wanted image fill tree p m) mid new at later b count t is wide rows heap

    pub done : {T E : Type 0} (r : Result T E) (is : Core) (at : DataPlace) (later : FreeSpace) (held mid new : Option (List ℕ)) → Fills core node part given held row h
        → Both (BecomeBy core.heap.limit change h at core.heap.work.heap later) held mid → at.count < 16 ^ 4
        → OnOk r (Both (Puts ExtentKind.Node (row.place + chunk_count_at core.wide) 16 (hex_text 4 at.count ++ pointer_text (view at.pointer))) mid new)
        → is.wide ≡ core.wide → is.rows.items ≡ core.rows.items → is.heap.work ≡ later → OnOk r (Both (Does (edit_of node part given) core is) held new)
    done r is at later held mid new fill b count t wide rows heap = on_ok_weaker r (λ x. done_at is at later held mid new fill b count x wide rows heap) t

-- a selection that does not fit
pub refused_range : (core : Core) (node : NodeId) (selection : Selection) (given : List ℕ) (row : Row) (h : NodeHeader) (held : Option (List ℕ)) → MayPut core node held row h → fits (Part.Chosen selection) h ≡ false
    → IfSome held (Refuses (Edit.PutPart node selection given) core AdfError.BadRange)
refused_range core node selection given row h None may misfit = tt
refused_range core node selection given row h (Some image) may misfit = λ tree p m. bad_range image core node given row h may.may tree p m may.filled may.small selection misfit

-- a selection without runs
module _ (core : Core) (node : NodeId) (selection : Selection) (given : List ℕ) (row : Row) (h : NodeHeader) (shape : Shape) (shape_is : shape ≡ data_shape_of h) (held : Option (List ℕ)) (may : MayPut core node held row h) where
  unfit : {T : Type 0} (r : Result T AdfError) → r ≡ Err AdfError.BadRange → (r ≡ Err AdfError.BadRange) ↔ IsFalse (selection_fits (shape_dims shape) selection) → fits (Part.Chosen selection) h ≡ false
  unfit r is range = ap (λ (s : Shape). selection_fits (shape_dims s) selection) (sym shape_is) ∙ range.0 is

  pub refused_runs : {T : Type 0} (r : Result T AdfError) (e : AdfError) → r ≡ Err e → IsRunsRefusal e → (r ≡ Err AdfError.BadRange) ↔ IsFalse (selection_fits (shape_dims shape) selection)
      → IfSome held (Refuses (Edit.PutPart node selection given) core e)
  refused_runs r error.Memory is c range = refused_memory core node (Part.Chosen selection) given row h held AdfError.Memory refl
  refused_runs r error.BadRange is c range = refused_range core node selection given row h held may (unfit r is range)
  refused_runs r other is c range = absurd c

  pub runs_cause : {T : Type 0} (r : Result T AdfError) (e : AdfError) → r ≡ Err e → IsRunsRefusal e → (r ≡ Err AdfError.BadRange) ↔ IsFalse (selection_fits (shape_dims shape) selection)
      → (before now : ℕ) → IsPutCause core node (Part.Chosen selection) given held before now e
  runs_cause r error.Memory is c range before now = (row, h, may)
  runs_cause r error.BadRange is c range before now = (row, h, may, unfit r is range)
  runs_cause r other is c range before now = absurd c

-- ---- what is said of bytes that were read before

pub moved_put : (core : Core) (h : NodeHeader) (held mid : Option (List ℕ)) → mid ≡ held → (before now : ℕ) (e : AdfError)
    → IsRoomless (LacksData core.heap.limit h core.heap.work.heap) (NoneOwned h core.heap.work.heap mid) before now e
    → IsRoomless (LacksData core.heap.limit h core.heap.work.heap) (NoneOwned h core.heap.work.heap held) before now e
moved_put core h held mid still before now e c = subst (λ o. IsRoomless (LacksData core.heap.limit h core.heap.work.heap) (NoneOwned h core.heap.work.heap o) before now e) still c

pub moved_exact : {T : Type 0} (core : Core) (change : Option (List ℕ) → Option (List ℕ)) (h : NodeHeader) (held mid : Option (List ℕ)) → mid ≡ held → (r : Result T AdfError) (e : AdfError) → r ≡ Err e
    → ((asked end : ℕ) → r ≡ Err (error.Full asked end) → (parts : NodeParts) (bytes : Option (List ℕ)) → Owned h parts bytes core.heap.work.heap mid
    → spot_after core.heap.limit (change bytes) (parts, core.heap.work.heap) ≡ Err (record { asked = asked; end = end }))
    → (asked end : ℕ) → e ≡ error.Full asked end → (parts : NodeParts) (bytes : Option (List ℕ)) → Owned h parts bytes core.heap.work.heap held
    → spot_after core.heap.limit (change bytes) (parts, core.heap.work.heap) ≡ Err (record { asked = asked; end = end })
moved_exact core change h held mid still r e is exact asked end full parts bytes own = exact asked end (is ∙ ap Err full) parts bytes (subst (Owned h parts bytes core.heap.work.heap) (sym still) own)

-- A shape that is set, over bytes that may be told: what is done, and why it is refused.
use Rattle.std.proofs.Common.{◌≡◌, inr, ℕ, refl, sym, ◌∙◌, ap, subst, arith, List, [], ◌∷◌, ◌++◌, length, ◌+◌, ◌*◌, ◌^◌, ◌<◌, ◌≤◌, Bool, true, false, not, Option, None, Some}
use Rattle.std.proofs.lemmas.Result.{on_ok_weaker, IfErr-weaker}
use Rattle.std.specs.Prelude.{Result, Ok, Err, IfErr, IfSome, OnOk, option_map, nat_lt, ◌&&◌, ◌||◌, if◌then◌else◌}
use Rattle.adf_format.specs.declared.types.Extent.{Extent}
use Rattle.adf_format.specs.declared.types.ExtentKind.{ExtentKind}
use Rattle.adf_format.specs.Changes.{Writes}
use Rattle.adf_format.specs.Fields.{field}
use Rattle.adf_format.specs.Hex.{hex_text}
use Rattle.adf_format.specs.HeapBytes.{ChangesOnly}
use Rattle.adf_format.specs.HeapRule.{place_edit}
use Rattle.adf_format.specs.LaysOut.{chunk_pointer, fields_of}
use Rattle.adf_format.specs.Names.{is_lk}
use Rattle.adf_format.specs.Parts.{SpellsNode, node_length, chunk_count_at, dimension_digits}
use Rattle.adf_format.specs.Placement.{Placement, NodeParts, extent, parts_of}
use Rattle.adf_format.specs.Pointer.{pointer_text}
use Rattle.adf_format.specs.Tiles.{cover}
use Rattle.adf_format.specs.Tree.{Tree, Node, node_at}
use Rattle.adf_format.proofs.HeapLaws.{in_range}
use Rattle.adf_format.proofs.ReachedLaws.{more_changes, later_changes}
use Rattle.adf_model.specs.declared.error.AdfError.{AdfError}
use Rattle.adf_model.specs.declared.error.AdfError.TheVariants as error
use Rattle.adf_model.specs.declared.tree.Edit.{Edit}
use Rattle.adf_model.specs.declared.tree.NodeId.{NodeId}
use Rattle.adf_model.specs.declared.tree.Shape.{Shape}
use Rattle.adf_model.specs.Edits.{file_step, with_node, with_shape, keeps_data, resized, size_limit}
use Rattle.adf_model.specs.Placing.{placed_as}
use Rattle.adf_model.specs.Shapes.{is_shape, dims_of}
use Rattle.adf_model.specs.Tests.{checked, if_there}
use Rattle.adf_model.proofs.Creation.PartsApart.{range_within}
use Rattle.adf_records.specs.declared.NodeHeader.{NodeHeader}
use Rattle.adf_data.specs.declared.place.DataPlace.{DataPlace}
use Rattle.cg_io.specs.Answers.{IsRefusal}
use Rattle.cg_io.specs.Blocks.{Both}
use Rattle.cg_io.proofs.ReadLaws.{rose_later}
use Rattle.disk_ptr.specs.View.{view}
use Rattle.file_heap.specs.Heap.{FreeSpace}
use Rattle.tree_laws.specs.DataSwitch.{AreSpelled, shape_text, chunks_text, with_data}
use Rattle.tree_laws.specs.MidEdit.{Puts}
use Rattle.tree_laws.specs.WholeData.{shape_ranges}
use Rattle.tree_laws.proofs.Data.DataFields.{shape_written, chunks_written, fits}
use Rattle.tree_edits.specs.declared.memory.Core.{Core}
use Rattle.tree_edits.specs.declared.rows.Row.{Row}
use Rattle.tree_edits.specs.Rows.{Means}
use Rattle.tree_edits.specs.Edits.{memory_of, Does, Refuses, Follows}
use Rattle.tree_edits.specs.Taken.{IsRoomless}
use Rattle.tree_edits.proofs.Causes.{row_there}
use Rattle.data_edit_laws.proofs.Whole.{set_dims_settles}
use Rattle.data_edits.specs.Found.{MayEdit, IsOfNode}
use Rattle.data_edits.specs.Becomes.{Becomes, BecomeBy, Owned, NoneOwned, spot_after}
use Rattle.data_edits.specs.Shaped.{MayReshape, IsShapeRefusal, IsShapeCause, LacksSize, is_good, is_too_large, reshaped, size_of_shape}
use Rattle.data_edits.proofs.Founds.{passes, fault}
use Rattle.data_edits.proofs.Owned.{i, owned, keeps_is}
use Rattle.data_edits.proofs.Settling.{settles, still_threaded, header_stays, header_reaches, in_reach, only_data}
use Rattle.data_edits.proofs.Edited.{place_by, full_by, data_set, follows}

pub of_node : (node : NodeId) (shape : Shape) → IsOfNode (Edit.SetDims node shape) node
of_node node shape = record { named = refl; reached = refl }

-- ---- the tests

abbrev tested : Tree → NodeId → Shape → Node → Bool → Bool → Result Tree AdfError
tested tree at shape node bad large = checked ((bad, AdfError.BadShape) ∷ (large, AdfError.TooLarge) ∷ []) (Ok (with_node tree at.serial (with_shape node shape)))

bad_is : (a b : Bool) → (not a || b) ≡ not (a && not b)
bad_is true true = refl
bad_is true false = refl
bad_is false true = refl
bad_is false false = refl

module _ (image : List ℕ) (core : Core) (node : NodeId) (shape : Shape) (row : Row) (h : NodeHeader) (may : MayEdit core node (Some image) row h) (tree : Tree) (p : Placement) (m : Means image tree p (memory_of core)) where
  abbrev edit : Edit
  edit = Edit.SetDims node shape

  abbrev its : Node
  its = (i image core node row h may tree p m).node

  abbrev from : NodeParts
  from = (i image core node row h may tree p m).parts

  live : node_at tree node.serial ≡ Some its
  live = (i image core node row h may tree p m).is.live

  stands : parts_of p node.serial ≡ Some from
  stands = (i image core node row h may tree p m).is.stands

  step : (good large : Bool) → is_good core.wide shape ≡ good → is_too_large core.wide h shape ≡ large → file_step core.writable tree edit ≡ tested tree node shape its (not good) large
  step good large e f =
      passes image core node row h may edit (of_node node shape) tree p m
      ∙ ap (λ o. if_there o AdfError.NoSuchNode (λ (n : Node). tested tree node shape n (not (is_shape tree.wide shape) || is_lk shape.kind) (nat_lt size_limit (size_of_shape shape) && (not tree.wide || keeps_data n shape)))) live
      ∙ ap (λ w. tested tree node shape its (not (is_shape w shape) || is_lk shape.kind) (nat_lt size_limit (size_of_shape shape) && (not w || keeps_data its shape))) m.wide
      ∙ ap (λ b. tested tree node shape its b (nat_lt size_limit (size_of_shape shape) && (not core.wide || keeps_data its shape))) (bad_is (is_shape core.wide shape) (is_lk shape.kind) ∙ ap not e)
      ∙ ap (λ k. tested tree node shape its (not good) (nat_lt size_limit (size_of_shape shape) && (not core.wide || k))) (keeps_is image core node row h may tree p m shape)
      ∙ ap (tested tree node shape its (not good)) f

  abbrev after : Tree
  after = with_node tree node.serial (with_shape its shape)

  pub made : is_good core.wide shape ≡ true → is_too_large core.wide h shape ≡ false → file_step core.writable tree edit ≡ Ok after
  made e f = step true false e f

  -- the data afterwards
  pub wanted_is : (with_shape its shape).bytes ≡ reshaped h shape its.bytes
  wanted_is = ap (λ k. if k then option_map (λ b. resized b (size_of_shape shape)) its.bytes else None) (keeps_is image core node row h may tree p m shape)

  -- ---- done

  module _ (good : is_good core.wide shape ≡ true) (small : is_too_large core.wide h shape ≡ false) (few : length (dims_of shape) ≤ 12) (spelled : AreSpelled core.wide (dims_of shape))
      (mid a new : List ℕ) (at : DataPlace) (later : FreeSpace) (become : BecomeBy core.heap.limit (reshaped h shape) h at core.heap.work.heap later image mid) (count : at.count < 16 ^ 4)
      (s : Puts ExtentKind.Node (row.place + 96) (34 + length (dims_of shape) * dimension_digits core.wide) (shape_text core.wide shape.kind (dims_of shape)) mid a)
      (t : Puts ExtentKind.Node (row.place + chunk_count_at core.wide) 16 (hex_text 4 at.count ++ pointer_text (view at.pointer)) a new) where
    place_is : from.header ≡ row.place
    place_is = (i image core node row h may tree p m).at

    b : Becomes core.heap.limit (reshaped h shape its.bytes) from at p.heap later image mid
    b = subst (λ heap. Becomes core.heap.limit (reshaped h shape its.bytes) from at heap later image mid) (sym m.heap) (become from its.bytes (owned image core node row h may tree p m))

    -- the two fields of the header
    abbrev ranges : List Extent
    ranges = extent ExtentKind.Node (from.header + 96) (34 + length (dims_of shape) * dimension_digits tree.wide) ∷ extent ExtentKind.Node (from.header + chunk_count_at tree.wide) 16 ∷ []

    first : Puts ExtentKind.Node (from.header + 96) (34 + length (dims_of shape) * dimension_digits tree.wide) (shape_text tree.wide shape.kind (dims_of shape)) mid a
    first =
        subst (λ w. Puts ExtentKind.Node (from.header + 96) (34 + length (dims_of shape) * dimension_digits w) (shape_text w shape.kind (dims_of shape)) mid a) (sym m.wide)
        (subst (λ k. Puts ExtentKind.Node (k + 96) (34 + length (dims_of shape) * dimension_digits core.wide) (shape_text core.wide shape.kind (dims_of shape)) mid a) (sym place_is) s)

    second : Puts ExtentKind.Node (from.header + chunk_count_at tree.wide) 16 (hex_text 4 at.count ++ pointer_text (view at.pointer)) a new
    second =
        subst (λ w. Puts ExtentKind.Node (from.header + chunk_count_at w) 16 (hex_text 4 at.count ++ pointer_text (view at.pointer)) a new) (sym m.wide)
        (subst (λ k. Puts ExtentKind.Node (k + chunk_count_at core.wide) 16 (hex_text 4 at.count ++ pointer_text (view at.pointer)) a new) (sym place_is) t)

    text_is : hex_text 4 at.count ++ pointer_text (view at.pointer) ≡ chunks_text (length b.after.chunks) (chunk_pointer b.after.chunks b.after.chunk_table)
    text_is = ap (λ n. hex_text 4 n ++ pointer_text (view at.pointer)) b.named.count ∙ ap (λ x. hex_text 4 (length b.after.chunks) ++ pointer_text x) b.named.pointer

    written : ChangesOnly ranges mid new
    written = later_changes ranges mid a new
        (more_changes _ ranges mid a (λ k none. omega (arith, none)) first.only)
        (more_changes _ ranges a new (λ k none. omega (arith, none)) second.only)

    in_header : (k : ℕ) → 0 < cover ranges k → 0 < in_range from.header (node_length tree.wide) k
    in_header k some =
        let f = fits tree.wide (length (dims_of shape)) few in
        let x = range_within from.header (node_length tree.wide) (from.header + 96) (34 + length (dims_of shape) * dimension_digits tree.wide) k (omega arith) (omega (arith, f)) in
        let y = range_within from.header (node_length tree.wide) (from.header + chunk_count_at tree.wide) 16 k (omega arith) (omega arith) in
        omega (arith, x, y, some)

    header_was : SpellsNode tree.wide (field mid from.header (node_length tree.wide)) (fields_of its from)
    header_was =
        subst (λ bytes. SpellsNode tree.wide bytes (fields_of its from)) (sym (header_stays image mid new tree p m.laid_out node.serial from stands core.heap.limit (reshaped h shape its.bytes) at later b ranges written in_header))
        (m.laid_out.nodes node.serial its from live stands).header

    reaches : from.header + node_length tree.wide ≤ length mid
    reaches = header_reaches image mid new tree p m.laid_out node.serial from stands core.heap.limit (reshaped h shape its.bytes) at later b ranges written in_header

    header_now : SpellsNode tree.wide (field new from.header (node_length tree.wide)) (fields_of (with_shape its shape) b.after)
    header_now =
        subst (λ (x : NodeParts). SpellsNode tree.wide (field new from.header (node_length tree.wide)) (fields_of (with_shape its shape) x)) after_is
        (chunks_written tree.wide a new from.header (record (fields_of its from) { kind = shape.kind; dims = dims_of shape }) (length b.after.chunks) (chunk_pointer b.after.chunks b.after.chunk_table)
        (subst (λ text. Writes (from.header + chunk_count_at tree.wide) text a new) text_is second.writes)
        (let longer = first.writes.longer in omega (arith, reaches, longer)) few (let n = b.named.count in omega (arith, n, count)) (in_reach mid b.after (reshaped h shape its.bytes) b.holds)
        (shape_written tree.wide mid a from.header (fields_of its from) shape.kind (dims_of shape) first.writes reaches few (subst (λ w. AreSpelled w (dims_of shape)) (sym m.wide) spelled) header_was))
      where
        after_is : with_data from b.after.chunks b.after.chunk_table ≡ b.after
        after_is = sym (only_data core.heap.limit (reshaped h shape its.bytes) (from, p.heap) (b.after, later.heap) b.placed)

    pub shaped : (is : Core) → is.wide ≡ core.wide → is.rows.items ≡ core.rows.items → is.heap.work ≡ later → Follows core.heap.limit core.writable edit tree p (memory_of is) image new
    shaped is wide rows heap =
        follows core is edit image new tree p node.serial its (with_shape its shape) from b.after.chunks b.after.chunk_table later m live stands refl
        (set_dims_settles node shape core.heap.limit core.writable image new tree after p its from b.after.chunks b.after.chunk_table later.heap m.laid_out (made good small) live stands
        (place_by core.heap.limit tree after p node.serial from stands (reshaped h shape its.bytes) (data_set tree node.serial its (with_shape its shape) live ∙ wanted_is) b.after later.heap b.placed)
        (settles image mid new tree p m.laid_out node.serial from stands core.heap.limit (reshaped h shape its.bytes) at later b ranges written in_header
        (shape_ranges tree.wide from (length (dims_of shape))) tree.wide (with_shape its shape) (λ k. omega arith) header_now wanted_is))
        wide rows heap
        (still_threaded image mid new tree p m.laid_out node.serial from stands core.heap.limit (reshaped h shape its.bytes) at later b ranges written in_header)

  -- ---- refused

  no_shape : is_good core.wide shape ≡ false → file_step core.writable tree edit ≡ Err AdfError.BadShape
  no_shape e = step false (is_too_large core.wide h shape) e refl

  too_large : is_good core.wide shape ≡ true → is_too_large core.wide h shape ≡ true → file_step core.writable tree edit ≡ Err AdfError.TooLarge
  too_large e f = step true true e f

  pub full : (asked end : ℕ) → ((parts : NodeParts) (bytes : Option (List ℕ)) → Owned h parts bytes core.heap.work.heap (Some image) → spot_after core.heap.limit (reshaped h shape bytes) (parts, core.heap.work.heap) ≡ Err (record { asked = asked; end = end }))
      → place_edit core.heap.limit tree after (placed_as edit) p ≡ Err (record { asked = asked; end = end })
  full asked end exact =
      full_by core.heap.limit tree after p node.serial from stands (reshaped h shape its.bytes) (data_set tree node.serial its (with_shape its shape) live ∙ wanted_is) (record { asked = asked; end = end })
      (subst (λ heap. spot_after core.heap.limit (reshaped h shape its.bytes) (from, heap) ≡ Err (record { asked = asked; end = end })) (sym m.heap) (exact from its.bytes (owned image core node row h may tree p m)))

-- ---- over bytes that may be told

module _ (core : Core) (node : NodeId) (shape : Shape) (row : Row) (h : NodeHeader) where
  pub refused_shape : (held : Option (List ℕ)) → MayEdit core node held row h → (e : AdfError) → IsShapeRefusal core.wide h shape e → IfSome held (Refuses (Edit.SetDims node shape) core e)
  refused_shape None may e c = tt
  refused_shape (Some image) may error.BadShape c = λ tree p m. no_shape image core node shape row h may tree p m c
  refused_shape (Some image) may error.TooLarge c = λ tree p m. too_large image core node shape row h may tree p m c.0 c.1
  refused_shape (Some image) may other c = absurd c

  pub shape_cause : (held : Option (List ℕ)) → MayEdit core node held row h → (before now : ℕ) (e : AdfError) → IsShapeRefusal core.wide h shape e → IsShapeCause core node shape held before now e
  shape_cause held may before now error.BadShape c = ((row, h, may), c)
  shape_cause held may before now error.TooLarge c = (row, h, may, c.0, c.1)
  shape_cause held may before now other c = absurd c

  module _ (held : Option (List ℕ)) (may : MayReshape core node shape held row h) where
    pub reshape_cause : (before middle now : ℕ) (e : AdfError) → before ≤ middle → IsRoomless (LacksSize core.heap.limit h shape core.heap.work.heap) (NoneOwned h core.heap.work.heap held) middle now e → IsShapeCause core node shape held before now e
    reshape_cause before middle now error.Memory le c = (row, h, may)
    reshape_cause before middle now error.ReadFault le c = (row_there _ row may.may.reads.found, rose_later before middle now le c)
    reshape_cause before middle now (error.Layout rule at) le c = inr (row, h, may, c.0, c.1)
    reshape_cause before middle now (error.Full asked end) le c = (row, h, may, c)
    reshape_cause before middle now other le c = absurd c

    pub write_cause : (before middle now : ℕ) (e : AdfError) → before ≤ middle → IsRefusal ⊥ middle now e → IsShapeCause core node shape held before now e
    write_cause before middle now error.Memory le c = (row, h, may)
    write_cause before middle now error.ReadFault le c = (row_there _ row may.may.reads.found, rose_later before middle now le c)
    write_cause before middle now (error.Layout rule at) le c = absurd c.1
    write_cause before middle now other le c = absurd c

  pub refused_reshape : (held : Option (List ℕ)) → MayReshape core node shape held row h → (before now : ℕ) (e : AdfError)
      → IsRoomless (LacksSize core.heap.limit h shape core.heap.work.heap) (NoneOwned h core.heap.work.heap held) before now e
      → ((asked end : ℕ) → e ≡ error.Full asked end → (parts : NodeParts) (bytes : Option (List ℕ)) → Owned h parts bytes core.heap.work.heap held
      → spot_after core.heap.limit (reshaped h shape bytes) (parts, core.heap.work.heap) ≡ Err (record { asked = asked; end = end }))
      → IfSome held (Refuses (Edit.SetDims node shape) core e)
  refused_reshape None may before now e c exact = tt
  refused_reshape (Some image) may before now error.Memory c exact = λ tree p m. tt
  refused_reshape (Some image) may before now error.ReadFault c exact = fault image core node row may.may.reads.found (Edit.SetDims node shape) (of_node node shape)
  refused_reshape (Some image) may before now (error.Layout rule at) c exact = λ tree p m.
      absurd (c.1 (i image core node row h may.may tree p m).parts (i image core node row h may.may tree p m).node.bytes (owned image core node row h may.may tree p m))
  refused_reshape (Some image) may before now (error.Full asked end) c exact = λ tree p m.
      (refl, (after image core node shape row h may.may tree p m, made image core node shape row h may.may tree p m may.good may.small, full image core node shape row h may.may tree p m asked end (exact asked end refl)))
  refused_reshape (Some image) may before now other c exact = absurd c

  pub refused_write : (held : Option (List ℕ)) → MayReshape core node shape held row h → (before now : ℕ) (e : AdfError) → IsRefusal ⊥ before now e → IfSome held (Refuses (Edit.SetDims node shape) core e)
  refused_write None may before now e c = tt
  refused_write (Some image) may before now error.Memory c = λ tree p m. tt
  refused_write (Some image) may before now error.ReadFault c = fault image core node row may.may.reads.found (Edit.SetDims node shape) (of_node node shape)
  refused_write (Some image) may before now (error.Layout rule at) c = absurd c.1
  refused_write (Some image) may before now other c = absurd c

  pub done_at : (is : Core) (at : DataPlace) (later : FreeSpace) (held mid a new : Option (List ℕ)) → MayReshape core node shape held row h → length (dims_of shape) ≤ 12 → AreSpelled core.wide (dims_of shape)
      → Both (BecomeBy core.heap.limit (reshaped h shape) h at core.heap.work.heap later) held mid → at.count < 16 ^ 4
      → Both (Puts ExtentKind.Node (row.place + 96) (34 + length (dims_of shape) * dimension_digits core.wide) (shape_text core.wide shape.kind (dims_of shape))) mid a
      → Both (Puts ExtentKind.Node (row.place + chunk_count_at core.wide) 16 (hex_text 4 at.count ++ pointer_text (view at.pointer))) a new
      → is.wide ≡ core.wide → is.rows.items ≡ core.rows.items → is.heap.work ≡ later → Both (Does (Edit.SetDims node shape) core is) held new
  done_at is at later None None None None may few spelled b count s t wide rows heap = tt
  done_at is at later None None None (Some new) may few spelled b count s t wide rows heap = absurd t
  done_at is at later None None (Some a) new may few spelled b count s t wide rows heap = absurd s
  done_at is at later None (Some mid) a new may few spelled b count s t wide rows heap = absurd b
  done_at is at later (Some image) None a new may few spelled b count s t wide rows heap = absurd b
  done_at is at later (Some image) (Some mid) None new may few spelled b count s t wide rows heap = absurd s
  done_at is at later (Some image) (Some mid) (Some a) None may few spelled b count s t wide rows heap = absurd t
  done_at is at later (Some image) (Some mid) (Some a) (Some new) may few spelled b count s t wide rows heap = λ tree p m.
      shaped image core node shape row h may.may tree p m may.good may.small few spelled mid a new at later b count s t is wide rows heap

  pub done : {T E : Type 0} (r : Result T E) (is : Core) (at : DataPlace) (later : FreeSpace) (held mid a new : Option (List ℕ)) → MayReshape core node shape held row h → length (dims_of shape) ≤ 12 → AreSpelled core.wide (dims_of shape)
      → Both (BecomeBy core.heap.limit (reshaped h shape) h at core.heap.work.heap later) held mid → at.count < 16 ^ 4
      → Both (Puts ExtentKind.Node (row.place + 96) (34 + length (dims_of shape) * dimension_digits core.wide) (shape_text core.wide shape.kind (dims_of shape))) mid a
      → OnOk r (Both (Puts ExtentKind.Node (row.place + chunk_count_at core.wide) 16 (hex_text 4 at.count ++ pointer_text (view at.pointer))) a new)
      → is.wide ≡ core.wide → is.rows.items ≡ core.rows.items → is.heap.work ≡ later → OnOk r (Both (Does (Edit.SetDims node shape) core is) held new)
  done r is at later held mid a new may few spelled b count s t wide rows heap = on_ok_weaker r (λ t. done_at is at later held mid a new may few spelled b count s t wide rows heap) t

  pub may_reshape : (held : Option (List ℕ)) → MayEdit core node held row h → is_good core.wide shape ≡ true → is_too_large core.wide h shape ≡ false → MayReshape core node shape held row h
  may_reshape held may good small = record { may = may; good = good; small = small }

-- ---- what is said of bytes that were read before

pub moved_cause : (core : Core) (shape : Shape) (h : NodeHeader) (held mid : Option (List ℕ)) → mid ≡ held → (before now : ℕ) (e : AdfError)
    → IsRoomless (LacksSize core.heap.limit h shape core.heap.work.heap) (NoneOwned h core.heap.work.heap mid) before now e
    → IsRoomless (LacksSize core.heap.limit h shape core.heap.work.heap) (NoneOwned h core.heap.work.heap held) before now e
moved_cause core shape h held mid still before now e c = subst (λ o. IsRoomless (LacksSize core.heap.limit h shape core.heap.work.heap) (NoneOwned h core.heap.work.heap o) before now e) still c

pub moved_exact : {T : Type 0} (core : Core) (shape : Shape) (h : NodeHeader) (held mid : Option (List ℕ)) → mid ≡ held → (r : Result T AdfError) (e : AdfError) → r ≡ Err e
    → ((asked end : ℕ) → r ≡ Err (error.Full asked end) → (parts : NodeParts) (bytes : Option (List ℕ)) → Owned h parts bytes core.heap.work.heap mid
    → spot_after core.heap.limit (reshaped h shape bytes) (parts, core.heap.work.heap) ≡ Err (record { asked = asked; end = end }))
    → (asked end : ℕ) → e ≡ error.Full asked end → (parts : NodeParts) (bytes : Option (List ℕ)) → Owned h parts bytes core.heap.work.heap held
    → spot_after core.heap.limit (reshaped h shape bytes) (parts, core.heap.work.heap) ≡ Err (record { asked = asked; end = end })
moved_exact core shape h held mid still r e is exact asked end full parts bytes own = exact asked end (is ∙ ap Err full) parts bytes (subst (Owned h parts bytes core.heap.work.heap) (sym still) own)

pub moved_both : (R : List ℕ → List ℕ → Type 0) (held mid new : Option (List ℕ)) → mid ≡ held → Both R mid new → Both R held new
moved_both R held mid new still b = subst (λ o. Both R o new) still b

pub where_ok : {T E : Type 0} (r : Result T E) (P : Type 0) → P → OnOk r P
where_ok (Ok x) P h = h
where_ok (Err e) P h = tt

pub all_refused : {T : Type 0} (r : Result T AdfError) (P Q : AdfError → Type 0) → ((e : AdfError) → P e → Q e) → IfErr r P → IfErr r Q
all_refused r P Q f h = IfErr-weaker r P Q f h

-- Which blocks an edit of the data of a node makes wait: those of its header, of its chunks and of the heap's room, all of which it may write.
use Rattle.std.proofs.Common.{◌≡◌, ℕ, refl, sym, ap, subst, arith, List, [], ◌∷◌, ◌++◌, length, Bool, Option, None, Some}
use Rattle.std.proofs.lemmas.List.Elements.{Contains-append_right}
use Rattle.std.specs.Prelude.{IfSome}
use Rattle.std.specs.List.{Contains}
use Rattle.adf_format.specs.declared.types.Extent.{Extent}
use Rattle.adf_format.specs.declared.types.ExtentKind.{ExtentKind}
use Rattle.adf_format.specs.Changes.{heap_fields}
use Rattle.adf_format.specs.HeapRule.{data_extents, parts_or_none}
use Rattle.adf_format.specs.Parts.{node_length}
use Rattle.adf_format.specs.Placement.{Placement, NodeParts, Heap, chunk_table_extents, chunk_extents, live_extents}
use Rattle.adf_format.specs.Tree.{Tree, Node}
use Rattle.adf_format.proofs.HeapSteps.{cover-append}
use Rattle.adf_model.specs.declared.tree.Edit.{Edit}
use Rattle.adf_model.specs.declared.tree.NodeId.{NodeId}
use Rattle.adf_model.specs.NodeData.{grown_range}
use Rattle.adf_model.specs.Untouched.{touched_extents, data_of}
use Rattle.adf_model.proofs.Creation.PartExtents.{of_node}
use Rattle.adf_records.specs.declared.NodeHeader.{NodeHeader}
use Rattle.adf_data.specs.declared.place.DataPlace.{DataPlace}
use Rattle.adf_data.specs.Chunks.{Named}
use Rattle.adf_data.specs.Growing.{room_of, sized_ranges}
use Rattle.adf_data.specs.Runs.{payload_extents}
use Rattle.cg_io.specs.Blocks.{Both}
use Rattle.cg_io.specs.Waits.{WaitsOnly}
use Rattle.field_access.specs.Fields.{WaitsWhereTold, WaitsWithin, range}
use Rattle.field_access.proofs.WaitLaws.{waits_none, waits_wider, within_left, within_right}
use Rattle.file_heap.specs.Heap.{FreeSpace}
use Rattle.tree_laws.specs.MidEdit.{room}
use Rattle.tree_laws.specs.Reached.{CanReach, LieInTouched}
use Rattle.tree_laws.proofs.Leaving.ListsLeave.{data_in_node}
use Rattle.tree_laws.proofs.Whole.Reached.{none_lie, both_lie, one_lies}
use Rattle.tree_laws.proofs.Whole.Spares.{header_of, header_own}
use Rattle.tree_edits.specs.declared.memory.Core.{Core}
use Rattle.tree_edits.specs.declared.rows.Row.{Row}
use Rattle.tree_edits.specs.Edits.{memory_of}
use Rattle.tree_edits.specs.Rows.{Means}
use Rattle.tree_edits.specs.Waiting.{Reaches, WaitsInRoom}
use Rattle.tree_edits.proofs.Waiting.{more_own, reaches_at, then_own}
use Rattle.data_edits.specs.Becomes.{Becomes, BecomeBy, WaitBy, place_in}
use Rattle.data_edits.specs.Found.{MayEdit}
use Rattle.data_edits.proofs.NewData.{payload_in}
use Rattle.data_edits.proofs.Owned.{i, owned}
use Rattle.data_edits.proofs.Reshaping.{own_named}
use Rattle.data_edits.proofs.Settling.{rises}

-- ---- the calls on data

-- nothing waits anew where nothing is written
pub stay_wait : (h : NodeHeader) (a b : Heap) (held : Option (List ℕ)) (x : List ℕ) → WaitBy h a b held x x
stay_wait h a b held x parts named = waits_none (sized_ranges parts a b) x

-- new data wait in the heap's room
pub new_wait : (h : NodeHeader) (a b : Heap) (held : Option (List ℕ)) (x y : List ℕ) → WaitsWhereTold held (room_of a b) x y → WaitBy h a b held x y
new_wait h a b None x y w parts named = absurd named
new_wait h a b (Some image) x y w parts named = waits_wider (room_of a b) (sized_ranges parts a b) x y (λ k none.
    let s = cover-append heap_fields (grown_range a b ∷ a.gaps) k in
    let t = cover-append heap_fields (data_extents parts ++ grown_range a b ∷ a.gaps) k in
    let u = cover-append (data_extents parts) (grown_range a b ∷ a.gaps) k in omega (arith, s, t, u, none)) w

-- what is written over lies in the chunks
pub over_wait : (h : NodeHeader) (a : Heap) (held : Option (List ℕ)) (x y : List ℕ) → ((parts : NodeParts) → Named (place_in h) parts held → WaitsWithin (payload_extents parts.chunks) x y) → WaitBy h a a held x y
over_wait h a None x y w parts named = absurd named
over_wait h a (Some image) x y w parts named = waits_wider (payload_extents parts.chunks) (sized_ranges parts a a) x y (λ k none.
    let p = payload_in image parts.chunks named.chunks k in
    let s = cover-append (chunk_table_extents parts.chunk_table (length parts.chunks)) (chunk_extents parts.chunks) k in
    let t = cover-append heap_fields (data_extents parts ++ grown_range a a ∷ a.gaps) k in
    let u = cover-append (data_extents parts) (grown_range a a ∷ a.gaps) k in omega (arith, p, s, t, u, none)) (w parts named)

-- and so does what is given
pub given_wait : (h : NodeHeader) (a b : Heap) (held : Option (List ℕ)) (x y : List ℕ) → ((parts : NodeParts) → Named (place_in h) parts held → WaitsWithin (heap_fields ++ data_extents parts ++ a.gaps) x y) → WaitBy h a b held x y
given_wait h a b held x y w parts named = waits_wider (heap_fields ++ data_extents parts ++ a.gaps) (sized_ranges parts a b) x y (λ k none.
    let s = cover-append heap_fields (data_extents parts ++ a.gaps) k in
    let t = cover-append (data_extents parts) a.gaps k in
    let u = cover-append heap_fields (data_extents parts ++ grown_range a b ∷ a.gaps) k in
    let v = cover-append (data_extents parts) (grown_range a b ∷ a.gaps) k in
    let w = cover-append (heap_fields ++ data_extents parts) a.gaps k in
    let z = cover-append heap_fields (data_extents parts) k in omega (arith, s, t, u, v, w, z, none)) (w parts named)

-- ---- an edit of the data of a node

-- the room of data that become others
data_room : (limit : ℕ) (wanted : Option (List ℕ)) (from : NodeParts) (at : DataPlace) (before : Heap) (later : FreeSpace) (old new x y : List ℕ)
    → Becomes limit wanted from at before later old new → WaitsWithin (sized_ranges from before later.heap) x y → WaitsInRoom (data_extents from) before later.heap x y
data_room limit wanted from at before later old new x y b w =
    let r = rises limit wanted (from, before) (b.after, later.heap) b.placed in record {
      grows = r.0;
      gaps = λ k none.
          let share = r.1 k in
          let s = cover-append (data_extents b.after) later.heap.gaps k in
          let t = cover-append (data_extents from) before.gaps k in
          let u = cover-append before.gaps (grown_range before later.heap ∷ data_extents from) k in omega (arith, share, s, t, u, none);
      only = waits_wider (sized_ranges from before later.heap) (heap_fields ++ room (data_extents from) before later.heap) x y (λ k none.
          let s = cover-append heap_fields (data_extents from ++ grown_range before later.heap ∷ before.gaps) k in
          let t = cover-append (data_extents from) (grown_range before later.heap ∷ before.gaps) k in
          let u = cover-append heap_fields (room (data_extents from) before later.heap) k in
          let v = cover-append before.gaps (grown_range before later.heap ∷ data_extents from) k in omega (arith, s, t, u, v, none)) w;
    }

-- extents that are live and touched
all_lie : (touched : List Extent) (wide : Bool) (p : Placement) (es : List Extent) → ((e : Extent) → Contains es e → Contains (live_extents wide p) e) → ((e : Extent) → Contains es e → Contains touched e) → LieInTouched es touched wide p
all_lie touched wide p [] live open' = none_lie touched wide p
all_lie touched wide p (e ∷ es) live open' =
    both_lie touched wide p (e ∷ []) es
    (one_lies touched wide p e (live e (0, omega arith, refl)) (open' e (0, omega arith, refl)) e.kind e.place e.length (omega arith) (omega arith))
    (all_lie touched wide p es (λ f c. live f (Contains-append_right (e ∷ []) es f c)) (λ f c. open' f (Contains-append_right (e ∷ []) es f c)))

module _ (core : Core) (node : NodeId) (row : Row) (h : NodeHeader) (edit : Edit) (touched_is : (tree : Tree) (p : Placement) → touched_extents tree p edit ≡ data_of tree.wide p node.serial)
    (change : Option (List ℕ) → Option (List ℕ)) (is : Core) (at : DataPlace) (later : FreeSpace) (heap : is.heap.work ≡ later) (x y z : List ℕ)
  where
    module _ (image mid : List ℕ) (may : MayEdit core node (Some image) row h) (become : BecomeBy core.heap.limit change h at core.heap.work.heap later image mid) (w : WaitBy h core.heap.work.heap later.heap (Some image) x y)
        (header : WaitsWithin (range row.place (node_length core.wide) ∷ []) y z) (tree : Tree) (p : Placement) (m : Means image tree p (memory_of core))
      where
        abbrev from : NodeParts
        from = (i image core node row h may tree p m).parts

        abbrev own : Node
        own = (i image core node row h may tree p m).node

        abbrev touched : List Extent
        touched = touched_extents tree p edit

        abbrev ranges : List Extent
        ranges = range row.place (node_length core.wide) ∷ data_extents from

        waits : WaitsInRoom ranges core.heap.work.heap is.heap.work.heap x z
        waits = subst (λ (space : FreeSpace). WaitsInRoom ranges core.heap.work.heap space.heap x z) (sym heap)
            (then_own ranges (range row.place (node_length core.wide) ∷ []) core.heap.work.heap later.heap x y z (within_left (range row.place (node_length core.wide) ∷ []) (data_extents from))
            (more_own (data_extents from) ranges core.heap.work.heap later.heap x y (within_right (range row.place (node_length core.wide) ∷ []) (data_extents from))
            (data_room core.heap.limit (change own.bytes) from at core.heap.work.heap later image mid x y (become from own.bytes (owned image core node row h may tree p m))
            (w from (own_named h from own.bytes core.heap.work.heap image (owned image core node row h may tree p m))))) header)

        in_touched : (e : Extent) → Contains (header_of tree.wide from ∷ data_extents from) e → Contains touched e
        in_touched e c =
            subst (λ xs. Contains xs e) (sym (touched_is tree p))
            (subst (λ (o : Option NodeParts). Contains (header_of tree.wide (parts_or_none o) ∷ data_extents (parts_or_none o)) e) (sym (i image core node row h may tree p m).is.stands) c)

        live : (e : Extent) → Contains (data_extents from) e → Contains (live_extents tree.wide p) e
        live e c = of_node tree.wide p.parts node.serial from e (i image core node row h may tree p m).is.stands (data_in_node tree.wide from e c)

        lie : LieInTouched ranges touched tree.wide p
        lie = both_lie touched tree.wide p (range row.place (node_length core.wide) ∷ []) (data_extents from)
            (one_lies touched tree.wide p (header_of tree.wide from) (of_node tree.wide p.parts node.serial from (header_of tree.wide from) (i image core node row h may tree p m).is.stands (header_own tree.wide from))
            (in_touched (header_of tree.wide from) (0, omega arith, refl)) ExtentKind.FreeChunk row.place (node_length core.wide)
            (let same = (i image core node row h may tree p m).at in omega (arith, same)) (let same = (i image core node row h may tree p m).at in let long = ap node_length m.wide in omega (arith, same, long)))
            (all_lie touched tree.wide p (data_extents from) live (λ e c. in_touched e (Contains-append_right (header_of tree.wide from ∷ []) (data_extents from) e c)))

        reached : WaitsOnly (CanReach touched tree.wide p is.heap.work.heap.end) x z
        reached = reaches_at edit core is ranges x z waits image tree p m lie

    pub data_reached : (held mid : Option (List ℕ)) → MayEdit core node held row h → Both (BecomeBy core.heap.limit change h at core.heap.work.heap later) held mid → WaitBy h core.heap.work.heap later.heap held x y
        → WaitsWithin (range row.place (node_length core.wide) ∷ []) y z → IfSome held (Reaches edit core is x z)
    data_reached None mid may become w header = tt
    data_reached (Some image) None may become w header = absurd become
    data_reached (Some image) (Some mid) may become w header = λ tree p m. reached image mid may become w header tree p m

-- of bytes that were read before
pub moved_wait : (h : NodeHeader) (a b : Heap) (held mid : Option (List ℕ)) (x y z : List ℕ) → mid ≡ held → y ≡ x → WaitBy h a b mid y z → WaitBy h a b held x z
moved_wait h a b held mid x y z still same w =
    subst (λ (o : Option (List ℕ)). WaitBy h a b o x z) still (subst (λ (blocks : List ℕ). WaitBy h a b mid blocks z) same w)

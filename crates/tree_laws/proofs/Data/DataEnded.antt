-- The edits of data end where the rule of the heap puts the data.
use Rattle.std.proofs.Common.{◌≡◌, ℕ, refl, sym, ◌∙◌, ap, subst, arith, List, [], ◌∷◌, ◌++◌, length, length-append, ◌+◌, ◌*◌, ◌^◌, ◌<◌, ◌≤◌, Bool, true, false}
use Rattle.std.proofs.Math.Seq.{set-get_or}
use Rattle.std.specs.Prelude.{Option, Some, None, slice_set, Result, Ok}
use Rattle.adf_format.specs.declared.types.DataType.{DataType}
use Rattle.adf_format.specs.declared.types.Extent.{Extent}
use Rattle.adf_format.specs.declared.types.ExtentKind.{ExtentKind}
use Rattle.adf_format.specs.Tree.{Tree, Node, node_at}
use Rattle.adf_format.specs.Tiles.{cover}
use Rattle.adf_format.specs.Parts.{dimension_digits, chunk_table_length, node_length}
use Rattle.adf_format.specs.Placement.{Placement, NodeParts, ChunkPart, Heap, extent, parts_of, chunk_table_extents, chunk_extents}
use Rattle.adf_format.specs.HeapRule.{LimitReached, Taken, parts_or_none, with_parts, heap_take, chunk, chunk_length_for, data_extents, after_gives, ◌>>=◌}
use Rattle.adf_format.proofs.HeapSteps.{cover-append}
use Rattle.adf_format.proofs.HeapLaws.{in_range}
use Rattle.adf_format.proofs.BehindEnd.{AllLong, long_append, long_chunk_table, long_chunks}
use Rattle.adf_format.specs.Changes.{Writes}
use Rattle.adf_model.specs.NodeData.{HoldsData}
use Rattle.adf_model.specs.Edits.{with_node}
use Rattle.adf_model.proofs.Creation.PartsApart.{range_within}
use Rattle.tree_laws.specs.Holding.{Holds}
use Rattle.tree_laws.specs.DataSwitch.{Switches, with_data, shape_text, AreSpelled}
use Rattle.tree_laws.specs.DataEnds.{set_node, OneChunkEnds, OneMoreEnds, ReleaseEnds, ShapeInPlace}
use Rattle.tree_laws.proofs.Edits.LabelSet.{written_in}
use Rattle.tree_laws.proofs.Holding.GiftsFolded.{gifts_end}
use Rattle.tree_laws.proofs.Data.DataFields.{shape_written, shape_long}
use Rattle.tree_laws.proofs.Data.ShapeSet.{shape_is_set, header_switch, header_ends}
use Rattle.tree_laws.proofs.Data.DataSwitched.{data_switches}

-- the data of a node have bytes
pub data_long : (image : List ℕ) (tree : Tree) (p : Placement) (taken : List Extent) (s : ℕ) (node : Node) (from : NodeParts) → Holds image tree p taken → node_at tree s ≡ Some node → parts_of p s ≡ Some from → AllLong (data_extents from)
data_long image tree p taken s node from h here stands =
    long_append (chunk_table_extents from.chunk_table (length from.chunks)) (chunk_extents from.chunks) (long_chunk_table from.chunk_table (length from.chunks)) (long_chunks image from.chunks (h.nodes s node from here stands).chunks)

-- ---- one new chunk

abbrev pub one_chunk_from : ℕ → Placement → ℕ → Option NodeParts → Result (ℕ × Heap) LimitReached → Result Placement LimitReached
one_chunk_from size p s o r =
    (r >>= λ (t : ℕ × Heap). Ok (t.0, record p { heap = t.1 })) >>= λ (t : Taken).
    Ok (after_gives (with_parts t.1 s (record (parts_or_none o) { chunks = chunk t.0 (chunk_length_for size) ∷ []; chunk_table = None })) (data_extents (parts_or_none o)))

pub one_chunk_ends : OneChunkEnds
one_chunk_ends limit size old new tree p heap taken ek s place node kind dims bytes from takes h here stands near holds r is = (
  after_gives (with_parts (record p { heap = heap }) s (with_data from (chunk place (chunk_length_for size) ∷ []) None)) (data_extents from),
  ap (λ o. one_chunk_from size p s o (heap_take limit (chunk_length_for size) p.heap)) stands ∙ ap (one_chunk_from size p s (Some from)) takes,
  gifts_end (data_extents from) r.written new (with_node tree s (set_node node kind dims bytes)) (with_parts (record p { heap = heap }) s (with_data from (chunk place (chunk_length_for size) ∷ []) None)) taken
      (data_long old tree (record p { heap = heap }) (extent ek place (chunk_length_for size) ∷ taken) s node from h here stands)
      (shape_is_set old r.middle r.written tree (record p { heap = heap }) (extent ek place (chunk_length_for size) ∷ taken) (data_extents from ++ taken) s node kind dims bytes from (chunk place (chunk_length_for size) ∷ []) None
      h here stands r.few r.spelled (omega arith) near holds owners r.shape r.counted is) r.gives,
)
  where
    owners : (b : ℕ) → cover ((data_extents from ++ taken) ++ data_extents (with_data from (chunk place (chunk_length_for size) ∷ []) None)) b ≡ cover ((extent ek place (chunk_length_for size) ∷ taken) ++ data_extents from) b
    owners b =
        let a = cover-append (data_extents from ++ taken) (data_extents (with_data from (chunk place (chunk_length_for size) ∷ []) None)) b in
        let c = cover-append (data_extents from) taken b in
        let d = cover-append (extent ek place (chunk_length_for size) ∷ taken) (data_extents from) b in
        omega (arith, a, c, d)

-- ---- one more chunk

abbrev pub table_from : ℕ → ℕ → NodeParts → ℕ → Placement → Result (ℕ × Heap) LimitReached → Result Placement LimitReached
table_from added s parts place p r =
    (r >>= λ (t : ℕ × Heap). Ok (t.0, record p { heap = t.1 })) >>= λ (t : Taken).
    Ok (after_gives (with_parts t.1 s (record parts { chunks = parts.chunks ++ chunk place (chunk_length_for added) ∷ []; chunk_table = Some t.0 })) (chunk_table_extents parts.chunk_table (length parts.chunks)))

abbrev pub one_more_from : ℕ → ℕ → Placement → ℕ → Option NodeParts → Result (ℕ × Heap) LimitReached → Result Placement LimitReached
one_more_from limit added p s o r =
    (r >>= λ (t : ℕ × Heap). Ok (t.0, record p { heap = t.1 })) >>= λ (c : Taken).
    table_from added s (parts_or_none o) c.0 c.1 (heap_take limit (chunk_table_length (length (parts_or_none o).chunks + 1)) c.1.heap)

pub cover_more : (cs : List ChunkPart) (c : ChunkPart) (b : ℕ) → cover (chunk_extents (cs ++ c ∷ [])) b ≡ cover (chunk_extents cs) b + in_range c.place c.length b
cover_more [] c b = omega arith
cover_more (x ∷ cs) c b = let ih = cover_more cs c b in omega (arith, ih)

pub one_more_ends : OneMoreEnds
one_more_ends limit added old new tree p between heap taken ek et s place table node kind dims bytes from takes tables h here stands count near holds r is = (
  after_gives (with_parts (record p { heap = heap }) s (with_data from (from.chunks ++ chunk place (chunk_length_for added) ∷ []) (Some table))) (chunk_table_extents from.chunk_table (length from.chunks)),
  ap (λ o. one_more_from limit added p s o (heap_take limit (chunk_length_for added) p.heap)) stands ∙ ap (one_more_from limit added p s (Some from)) takes ∙ ap (table_from added s from place (record p { heap = between })) tables,
  gifts_end (chunk_table_extents from.chunk_table (length from.chunks)) r.written new (with_node tree s (set_node node kind dims bytes))
      (with_parts (record p { heap = heap }) s (with_data from (from.chunks ++ chunk place (chunk_length_for added) ∷ []) (Some table))) taken (long_chunk_table from.chunk_table (length from.chunks))
      (shape_is_set old r.middle r.written tree (record p { heap = heap }) (extent et table (chunk_table_length (length from.chunks + 1)) ∷ extent ek place (chunk_length_for added) ∷ taken) (chunk_table_extents from.chunk_table (length from.chunks) ++ taken)
      s node kind dims bytes from (from.chunks ++ chunk place (chunk_length_for added) ∷ []) (Some table) h here stands r.few r.spelled (subst (λ n. n < 16 ^ 4) (sym more) count) near holds owners r.shape r.counted is) r.gives,
)
  where
    more : length (from.chunks ++ chunk place (chunk_length_for added) ∷ []) ≡ length from.chunks + 1
    more = length-append from.chunks (chunk place (chunk_length_for added) ∷ [])

    owners : (b : ℕ) → cover ((chunk_table_extents from.chunk_table (length from.chunks) ++ taken) ++ data_extents (with_data from (from.chunks ++ chunk place (chunk_length_for added) ∷ []) (Some table))) b
        ≡ cover ((extent et table (chunk_table_length (length from.chunks + 1)) ∷ extent ek place (chunk_length_for added) ∷ taken) ++ data_extents from) b
    owners b =
        let a = cover-append (chunk_table_extents from.chunk_table (length from.chunks) ++ taken) (data_extents (with_data from (from.chunks ++ chunk place (chunk_length_for added) ∷ []) (Some table))) b in
        let c = cover-append (chunk_table_extents from.chunk_table (length from.chunks)) taken b in
        let d = cover-append (extent et table (chunk_table_length (length from.chunks + 1)) ∷ extent ek place (chunk_length_for added) ∷ taken) (data_extents from) b in
        let e = cover-append (chunk_table_extents from.chunk_table (length from.chunks)) (chunk_extents from.chunks) b in
        let f = cover_more from.chunks (chunk place (chunk_length_for added)) b in
        let g : in_range table (chunk_table_length (length (from.chunks ++ chunk place (chunk_length_for added) ∷ []))) b ≡ in_range table (chunk_table_length (length from.chunks + 1)) b = ap (λ n. in_range table (chunk_table_length n) b) more in
        omega (arith, a, c, d, e, f, g)

-- ---- no data

pub release_ends : ReleaseEnds
release_ends old new tree p taken s node kind dims from h here stands r is =
    subst (λ (o : Option NodeParts). Holds new (with_node tree s (set_node node kind dims None)) (after_gives (with_parts p s (record (parts_or_none o) { chunks = []; chunk_table = None })) (data_extents (parts_or_none o))) taken) (sym stands)
    (gifts_end (data_extents from) r.written new (with_node tree s (set_node node kind dims None)) (with_parts p s (with_data from [] None)) taken (data_long old tree p taken s node from h here stands)
    (shape_is_set old r.middle r.written tree p taken (data_extents from ++ taken) s node kind dims None from [] None h here stands r.few r.spelled (omega arith) tt
    (record { chunk_table = omega arith; chunks = tt; begins = refl }) owners r.shape r.counted is) r.gives)
  where
    owners : (b : ℕ) → cover ((data_extents from ++ taken) ++ data_extents (with_data from [] None)) b ≡ cover (taken ++ data_extents from) b
    owners b =
        let a = cover-append (data_extents from ++ taken) [] b in
        let c = cover-append (data_extents from) taken b in
        let d = cover-append taken (data_extents from) b in
        omega (arith, a, c, d)

-- ---- the chunks stay

fits : (w : Bool) (n : ℕ) → n ≤ 12 → 96 + (34 + dimension_digits w * n) ≤ node_length w
fits false n le = omega (arith, le)
fits true n le = omega (arith, le)

pub shape_here : (old new : List ℕ) (tree : Tree) (p : Placement) (taken : List Extent) (s : ℕ) (node : Node) (kind : DataType) (dims : List ℕ) (bytes : Option (List ℕ)) (from : NodeParts)
    → Holds old tree p taken → node_at tree s ≡ Some node → parts_of p s ≡ Some from → length dims ≤ 12 → AreSpelled tree.wide dims → HoldsData old from bytes → Writes (from.header + 96) (shape_text tree.wide kind dims) old new
    → Switches (extent ExtentKind.Node (from.header + 96) (34 + dimension_digits tree.wide * length dims) ∷ []) tree.wide (set_node node kind dims bytes) from from.chunks from.chunk_table taken taken old new
shape_here old new tree p taken s node kind dims bytes from h here stands few spelled holds w =
    header_switch old tree p taken s from h stands (extent ExtentKind.Node (from.header + 96) (34 + dimension_digits tree.wide * length dims) ∷ []) new node (set_node node kind dims bytes) taken from.chunks from.chunk_table here
    (written_in ExtentKind.Node (from.header + 96) (34 + dimension_digits tree.wide * length dims) (shape_text tree.wide kind dims) old new w (shape_long tree.wide kind dims))
    (λ b some.
    let f = fits tree.wide (length dims) few in
    let x = range_within from.header (node_length tree.wide) (from.header + 96) (34 + dimension_digits tree.wide * length dims) b (omega arith) (omega (arith, f)) in omega (arith, x, some))
    holds (λ b. refl)
    (shape_written tree.wide old new from.header _ kind dims w (header_ends old tree p taken s from h stands) few spelled (h.nodes s node from here stands).header)

pub shape_in_place : ShapeInPlace
shape_in_place old new tree p taken s node kind dims bytes from h here stands few spelled holds w is =
    subst (λ xs. Holds new (with_node tree s (set_node node kind dims bytes)) (record p { parts = xs }) taken) (ap (slice_set p.parts s) (sym stands) ∙ set-get_or p.parts s None)
    (data_switches (extent ExtentKind.Node (from.header + 96) (34 + dimension_digits tree.wide * length dims) ∷ []) old new tree p taken taken s node (set_node node kind dims bytes) from from.chunks from.chunk_table h here stands refl refl
    (shape_here old new tree p taken s node kind dims bytes from h here stands few spelled holds w) is)

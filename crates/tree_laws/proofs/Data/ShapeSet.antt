-- The edits of shape and data in the words of what they write.
use Rattle.std.proofs.Common.{◌≡◌, inl, inr, ℕ, zero, suc, refl, sym, ◌∙◌, ap, subst, arith, List, [], ◌∷◌, ◌++◌, length, ◌+◌, ◌-◌, ◌*◌, ◌^◌, ◌<◌, ◌≤◌, Bool, true, false}
use Rattle.std.proofs.Math.Seq.{set-get_or}
use Rattle.std.specs.Prelude.{Option, Some, None, slice_set}
use Rattle.adf_format.specs.declared.types.DataType.{DataType}
use Rattle.adf_format.specs.declared.types.Extent.{Extent}
use Rattle.adf_format.specs.declared.types.ExtentKind.{ExtentKind}
use Rattle.adf_format.specs.Fields.{field}
use Rattle.adf_format.specs.Tree.{Tree, Node, IsTree, node_at}
use Rattle.adf_format.specs.Tiles.{cover}
use Rattle.adf_format.specs.Parts.{SpellsNode, dimension_digits, chunk_count_at, node_length}
use Rattle.adf_format.specs.Placement.{Placement, NodeParts, ChunkPart, parts_of, extent, extents_of, node_extents, live_extents, chunk_table_extents, chunk_extents}
use Rattle.adf_format.specs.LaysOut.{fields_of, chunk_pointer}
use Rattle.adf_format.specs.Changes.{Writes, KeepsBut, AllApart}
use Rattle.adf_format.specs.HeapRule.{data_extents, with_parts}
use Rattle.adf_format.specs.Spelled.{IsInReach}
use Rattle.adf_format.proofs.HeapSteps.{cover-append}
use Rattle.adf_format.proofs.HeapLaws.{in_range}
use Rattle.adf_format.proofs.BehindEnd.{long_chunk_table, long_chunks}
use Rattle.adf_format.proofs.FrameLaws.{field_kept, chunk_table_kept, chunks_kept, data_kept}
use Rattle.adf_model.specs.NodeData.{HoldsData}
use Rattle.adf_model.specs.Edits.{with_node}
use Rattle.adf_model.proofs.Creation.CreatedNodes.{there_inside}
use Rattle.adf_model.proofs.Writes.Reaches.{less_or}
use Rattle.adf_model.proofs.Creation.PartsApart.{range_in, range_within, all_apart, cover_all, cover_part}
use Rattle.tree_laws.specs.Holding.{Holds, ChangesIn}
use Rattle.tree_laws.specs.DataSwitch.{Switches, with_data, AreSpelled, shape_text, chunks_text, ShapeIsSet, DataIsReplaced, DataIsOverwritten}
use Rattle.tree_laws.proofs.Holding.Steps.{within, keeps_but, once}
use Rattle.tree_laws.proofs.Edits.LabelSet.{written_in}
use Rattle.tree_laws.proofs.Holding.OwnRanges.{two_written}
use Rattle.tree_laws.proofs.Tables.TableReplaced.{few_dims}
use Rattle.tree_laws.proofs.Data.DataSwitched.{data_switches, data_reach, own_parts}
use Rattle.tree_laws.proofs.Data.DataFields.{shape_written, chunks_written, shape_long, chunks_long, fits}

least : (wide : Bool) → 246 ≤ node_length wide
least false = omega arith
least true = omega arith

-- ---- a node's own header

module _ (old : List ℕ) (tree : Tree) (p : Placement) (taken : List Extent) (s : ℕ) (from : NodeParts) (h : Holds old tree p taken) (stands : parts_of p s ≡ Some from) where
  pub own_live : (b : ℕ) → in_range from.header (node_length tree.wide) b + cover (data_extents from) b ≤ cover (live_extents tree.wide p) b
  own_live b =
      let c = cover_part (extents_of tree.wide) p.parts s b (there_inside p.parts s from stands) in
      let y : cover (extents_of tree.wide (parts_of p s)) b ≡ cover (node_extents tree.wide from) b = ap (λ (o : Option NodeParts). cover (extents_of tree.wide o) b) stands in
      let sp = own_parts tree.wide from b in omega (arith, c, y, sp)

  held : (b : ℕ) → 0 < cover (live_extents tree.wide p) b → b < length old
  held b some = within old tree p taken h b (let all = cover_all tree.wide p b in omega (arith, all, some))

  pub header_ends : from.header + node_length tree.wide ≤ length old
  header_ends =
      let m = least tree.wide in
      let k = range_in from.header (node_length tree.wide) (from.header + node_length tree.wide - 1) (omega (arith, m)) (omega (arith, m)) in
      let l = own_live (from.header + node_length tree.wide - 1) in
      let lt = held (from.header + node_length tree.wide - 1) (omega (arith, k, l)) in
      omega (arith, lt, m)

  -- its header alone is written
  module _ (ranges : List Extent) (new : List ℕ) (node now : Node) (kept : List Extent) (chunks : List ChunkPart) (table : Option ℕ) (here : node_at tree s ≡ Some node) (c : ChangesIn ranges old new)
      (in_header : (b : ℕ) → 0 < cover ranges b → 0 < in_range from.header (node_length tree.wide) b) (holds : HoldsData old (with_data from chunks table) now.bytes)
      (owners : (b : ℕ) → cover (kept ++ data_extents (with_data from chunks table)) b ≡ cover (taken ++ data_extents from) b) where
    keeps : KeepsBut ranges (length old - 1) old new
    keeps = keeps_but old tree p taken h ranges new c

    clear : (b : ℕ) → in_range from.header (node_length tree.wide) b ≡ 0 → cover ranges b ≡ 0
    clear b none = decide (cover ranges b) (in_header b)
      where
        decide : (n : ℕ) → (0 < n → 0 < in_range from.header (node_length tree.wide) b) → n ≡ 0
        decide zero k = refl
        decide (suc n) k = absurd (let some = k (omega arith) in omega (arith, some, none))

    far : (xs : List Extent) → ((b : ℕ) → cover xs b ≤ cover (data_extents (with_data from chunks table)) b) → (b : ℕ) → 0 < cover xs b → (b ≤ length old - 1) × (cover ranges b ≡ 0)
    far xs among b some = elim (less_or b (length old)) [
      | inl lt ↦ (
        omega (arith, lt),
        clear b (
            let a = among b in
            let o = owners b in
            let x = cover-append kept (data_extents (with_data from chunks table)) b in
            let y = cover-append taken (data_extents from) b in
            let l = own_live b in
            let one = once old tree p taken h b in
            omega (arith, a, o, x, y, l, one, some)),
      )
      | inr le ↦ absurd (let z = data_reach old (with_data from chunks table) now.bytes holds b le in let a = among b in omega (arith, z, a, some))
    ]

    data_split : (b : ℕ) → cover (data_extents (with_data from chunks table)) b ≡ cover (chunk_table_extents table (length chunks)) b + cover (chunk_extents chunks) b
    data_split b = cover-append (chunk_table_extents table (length chunks)) (chunk_extents chunks) b

    table_apart : AllApart ranges (length old - 1) (chunk_table_extents table (length chunks))
    table_apart = all_apart ranges (length old - 1) (chunk_table_extents table (length chunks)) (long_chunk_table table (length chunks)) (far (chunk_table_extents table (length chunks)) (λ b. let e = data_split b in omega (arith, e)))

    chunks_apart : AllApart ranges (length old - 1) (chunk_extents chunks)
    chunks_apart = all_apart ranges (length old - 1) (chunk_extents chunks) (long_chunks old chunks holds.chunks) (far (chunk_extents chunks) (λ b. let e = data_split b in omega (arith, e)))

    still_holds : HoldsData new (with_data from chunks table) now.bytes
    still_holds = record {
      chunk_table = chunk_table_kept ranges (length old - 1) old new keeps chunks table table_apart holds.chunk_table;
      chunks = chunks_kept ranges (length old - 1) old new keeps chunks chunks_apart holds.chunks;
      begins = data_kept ranges (length old - 1) old new keeps chunks now.bytes chunks_apart holds.begins;
    }

    pub header_switch : SpellsNode tree.wide (field new from.header (node_length tree.wide)) (fields_of now (with_data from chunks table)) → Switches ranges tree.wide now from chunks table taken kept old new
    header_switch says = record {
      changes = c;
      within = λ b some. let k = in_header b some in omega (arith, k);
      owners = owners;
      header = says;
      holds = still_holds;
    }

    pub header_switched : now.name ≡ node.name → now.children ≡ node.children → SpellsNode tree.wide (field new from.header (node_length tree.wide)) (fields_of now (with_data from chunks table)) → IsTree (with_node tree s now)
        → Holds new (with_node tree s now) (with_parts p s (with_data from chunks table)) kept
    header_switched name list says is = data_switches ranges old new tree p taken kept s node now from chunks table h here stands name list (header_switch says) is

-- the shape, and the chunks
abbrev pub shape_ranges : Bool → ℕ → ℕ → List Extent
shape_ranges wide header rank = extent ExtentKind.Node (header + 96) (34 + dimension_digits wide * rank) ∷ extent ExtentKind.Node (header + chunk_count_at wide) 16 ∷ []

pub shape_switch : (old middle new : List ℕ) (tree : Tree) (p : Placement) (taken kept : List Extent) (s : ℕ) (node : Node) (kind : DataType) (dims : List ℕ) (bytes : Option (List ℕ)) (from : NodeParts) (chunks : List ChunkPart) (table : Option ℕ)
    → Holds old tree p taken → node_at tree s ≡ Some node → parts_of p s ≡ Some from → length dims ≤ 12 → AreSpelled tree.wide dims → length chunks < 16 ^ 4 → IsInReach (chunk_pointer chunks table)
    → HoldsData old (with_data from chunks table) bytes
    → ((b : ℕ) → cover (kept ++ data_extents (with_data from chunks table)) b ≡ cover (taken ++ data_extents from) b)
    → Writes (from.header + 96) (shape_text tree.wide kind dims) old middle → Writes (from.header + chunk_count_at tree.wide) (chunks_text (length chunks) (chunk_pointer chunks table)) middle new
    → Switches (shape_ranges tree.wide from.header (length dims)) tree.wide (record node { kind = kind; dims = dims; bytes = bytes }) from chunks table taken kept old new
shape_switch old middle new tree p taken kept s node kind dims bytes from chunks table h here stands few spelled count near holds owners v w =
    header_switch old tree p taken s from h stands (shape_ranges tree.wide from.header (length dims)) new node (record node { kind = kind; dims = dims; bytes = bytes }) kept chunks table here changes in_header holds owners
    (chunks_written tree.wide middle new from.header (record (fields_of node from) { kind = kind; dims = dims }) (length chunks) (chunk_pointer chunks table) w (let e = ends in let l = v.longer in omega (arith, e, l)) few count near
    (shape_written tree.wide old middle from.header (fields_of node from) kind dims v ends few spelled (h.nodes s node from here stands).header))
  where
    ends : from.header + node_length tree.wide ≤ length old
    ends = header_ends old tree p taken s from h stands

    changes : ChangesIn (shape_ranges tree.wide from.header (length dims)) old new
    changes = two_written ExtentKind.Node ExtentKind.Node (from.header + 96) (34 + dimension_digits tree.wide * length dims) (from.header + chunk_count_at tree.wide) 16 (shape_text tree.wide kind dims) (chunks_text (length chunks) (chunk_pointer chunks table)) old middle new
        v (shape_long tree.wide kind dims) w (chunks_long (length chunks) (chunk_pointer chunks table))

    in_header : (b : ℕ) → 0 < cover (shape_ranges tree.wide from.header (length dims)) b → 0 < in_range from.header (node_length tree.wide) b
    in_header b some =
        let f = fits tree.wide (length dims) few in
        let x = range_within from.header (node_length tree.wide) (from.header + 96) (34 + dimension_digits tree.wide * length dims) b (omega arith) (omega (arith, f)) in
        let y = range_within from.header (node_length tree.wide) (from.header + chunk_count_at tree.wide) 16 b (omega arith) (omega arith) in
        omega (arith, x, y, some)

pub shape_is_set : ShapeIsSet
shape_is_set old middle new tree p taken kept s node kind dims bytes from chunks table h here stands few spelled count near holds owners v w is =
    data_switches (shape_ranges tree.wide from.header (length dims)) old new tree p taken kept s node (record node { kind = kind; dims = dims; bytes = bytes }) from chunks table h here stands refl refl
    (shape_switch old middle new tree p taken kept s node kind dims bytes from chunks table h here stands few spelled count near holds owners v w) is

pub replaced_switch : (old new : List ℕ) (tree : Tree) (p : Placement) (taken kept : List Extent) (s : ℕ) (node : Node) (bytes : Option (List ℕ)) (from : NodeParts) (chunks : List ChunkPart) (table : Option ℕ)
    → Holds old tree p taken → node_at tree s ≡ Some node → parts_of p s ≡ Some from → length chunks < 16 ^ 4 → IsInReach (chunk_pointer chunks table)
    → HoldsData old (with_data from chunks table) bytes
    → ((b : ℕ) → cover (kept ++ data_extents (with_data from chunks table)) b ≡ cover (taken ++ data_extents from) b)
    → Writes (from.header + chunk_count_at tree.wide) (chunks_text (length chunks) (chunk_pointer chunks table)) old new
    → Switches (extent ExtentKind.Node (from.header + chunk_count_at tree.wide) 16 ∷ []) tree.wide (record node { bytes = bytes }) from chunks table taken kept old new
replaced_switch old new tree p taken kept s node bytes from chunks table h here stands count near holds owners w =
    header_switch old tree p taken s from h stands (extent ExtentKind.Node (from.header + chunk_count_at tree.wide) 16 ∷ []) new node (record node { bytes = bytes }) kept chunks table here
    (written_in ExtentKind.Node (from.header + chunk_count_at tree.wide) 16 (chunks_text (length chunks) (chunk_pointer chunks table)) old new w (chunks_long (length chunks) (chunk_pointer chunks table)))
    (λ b some. let y = range_within from.header (node_length tree.wide) (from.header + chunk_count_at tree.wide) 16 b (omega arith) (omega arith) in omega (arith, y, some))
    holds owners
    (chunks_written tree.wide old new from.header (fields_of node from) (length chunks) (chunk_pointer chunks table) w (header_ends old tree p taken s from h stands) (few_dims tree s node h.is_tree here) count near (h.nodes s node from here stands).header)

pub data_is_replaced : DataIsReplaced
data_is_replaced old new tree p taken kept s node bytes from chunks table h here stands count near holds owners w is =
    data_switches (extent ExtentKind.Node (from.header + chunk_count_at tree.wide) 16 ∷ []) old new tree p taken kept s node (record node { bytes = bytes }) from chunks table h here stands refl refl
    (replaced_switch old new tree p taken kept s node bytes from chunks table h here stands count near holds owners w) is

pub overwritten_switch : (ranges : List Extent) (old new : List ℕ) (tree : Tree) (p : Placement) (taken : List Extent) (s : ℕ) (node : Node) (bytes : Option (List ℕ)) (from : NodeParts)
    → Holds old tree p taken → node_at tree s ≡ Some node → parts_of p s ≡ Some from → ChangesIn ranges old new → ((b : ℕ) → 0 < cover ranges b → 0 < cover (data_extents from) b) → HoldsData new from bytes
    → Switches ranges tree.wide (record node { bytes = bytes }) from from.chunks from.chunk_table taken taken old new
overwritten_switch ranges old new tree p taken s node bytes from h here stands c inside holds = record {
  changes = c;
  within = λ b some. let k = inside b some in let e = cover-append (data_extents from) taken b in omega (arith, k, e);
  owners = λ b. refl;
  header = subst (λ xs. SpellsNode tree.wide xs (fields_of node from)) (sym header_same) (h.nodes s node from here stands).header;
  holds = holds;
}
  where
    clear : (b : ℕ) → cover (data_extents from) b ≡ 0 → cover ranges b ≡ 0
    clear b none = decide (cover ranges b) (inside b)
      where
        decide : (n : ℕ) → (0 < n → 0 < cover (data_extents from) b) → n ≡ 0
        decide zero k = refl
        decide (suc n) k = absurd (let some = k (omega arith) in omega (arith, some, none))

    header_same : field new from.header (node_length tree.wide) ≡ field old from.header (node_length tree.wide)
    header_same = field_kept (node_length tree.wide) from.header old new (λ b low high.
        let i = range_in from.header (node_length tree.wide) b low high in
        let l = own_live old tree p taken s from h stands b in
        let one = once old tree p taken h b in
        let e = header_ends old tree p taken s from h stands in
        c.others b (omega (arith, e, high)) (clear b (omega (arith, i, l, one))))

pub data_is_overwritten : DataIsOverwritten
data_is_overwritten ranges old new tree p taken s node bytes from h here stands c inside holds is =
    subst (λ xs. Holds new (with_node tree s (record node { bytes = bytes })) (record p { parts = xs }) taken) (ap (slice_set p.parts s) (sym stands) ∙ set-get_or p.parts s None)
    (data_switches ranges old new tree p taken taken s node (record node { bytes = bytes }) from from.chunks from.chunk_table h here stands refl refl
    (overwritten_switch ranges old new tree p taken s node bytes from h here stands c inside holds) is)

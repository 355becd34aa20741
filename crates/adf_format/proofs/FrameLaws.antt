-- Bytes that stay: a node whose parts meet no range that changes is held as before.
use Rattle.std.proofs.Common.{◌≡◌, ℕ, zero, suc, refl, sym, ◌∙◌, ap, subst, arith, List, [], ◌∷◌, ◌++◌, length, take, ◌+◌, ◌-◌, ◌<◌, ◌≤◌}
use Rattle.std.specs.Prelude.{Option, Some, None, slice_get}
use Rattle.std.specs.List.{AllByRecursion}
use Rattle.adf_format.specs.declared.types.Extent.{Extent}
use Rattle.adf_format.specs.declared.types.ExtentKind.{ExtentKind}
use Rattle.adf_format.specs.Fields.{field, text_field}
use Rattle.adf_format.specs.Pointer.{To}
use Rattle.adf_format.specs.Tree.{Tree, Node}
use Rattle.adf_format.specs.Tiles.{end_of}
use Rattle.adf_format.specs.Parts.{node_length, table_length, chunk_table_length, payload, SpellsNode, SpellsTable, SpellsChunk, SpellsChunkTable, SpellsChunkEntry}
use Rattle.adf_format.specs.Placement.{Placement, NodeParts, TablePart, ChunkPart, extent, node_extents, table_extents, chunk_table_extents, chunk_extents}
use Rattle.adf_format.specs.LaysOut.{HoldsNode, HasTable, HasChunkTable, HasData, NamesChildren, payloads, fields_of}
use Rattle.adf_format.specs.Changes.{KeepsBut, IsApart, AllApart, SameChildren}

-- ---- fields

-- a byte before others, where there is one
abbrev pub put_first : Option ℕ → List ℕ → List ℕ
put_first None rest = rest
put_first (Some b) rest = b ∷ rest

take_none : (n : ℕ) → take {A = ℕ} n [] ≡ []
take_none zero = refl
take_none (suc n) = refl

-- a field is its first byte and the field behind it
pub field_step : (xs : List ℕ) (k n : ℕ) → field xs k (suc n) ≡ put_first (slice_get xs k) (field xs (suc k) n)
field_step [] zero n = sym (take_none n)
field_step [] (suc k) n = sym (take_none n)
field_step (x ∷ xs) zero n = refl
field_step (x ∷ xs) (suc k) n = field_step xs k n

-- a field whose bytes stay, stays
pub field_kept : (n place : ℕ) (old new : List ℕ) → ((b : ℕ) → place ≤ b → b < place + n → slice_get new b ≡ slice_get old b) → field new place n ≡ field old place n
field_kept zero place old new same = refl
field_kept (suc n) place old new same =
    let rest : field new (suc place) n ≡ field old (suc place) n = field_kept n (suc place) old new (λ b low high. same b (omega (arith, low)) (omega (arith, high))) in
    field_step new place n
    ∙ ap (λ o. put_first o (field new (suc place) n)) (same place (omega arith) (omega arith))
    ∙ ap (put_first (slice_get old place)) rest
    ∙ sym (field_step old place n)

pub get_taken : (xs : List ℕ) (m b : ℕ) → b < m → slice_get (take m xs) b ≡ slice_get xs b
get_taken [] zero b lt = refl
get_taken [] (suc m) b lt = refl
get_taken (x ∷ xs) zero b lt = absurd (none b lt)
  where
    none : (b : ℕ) → b < 0 → ⊥
    none b h = omega (arith, h)
get_taken (x ∷ xs) (suc m) zero lt = refl
get_taken (x ∷ xs) (suc m) (suc b) lt = get_taken xs m b (omega (arith, lt))

-- a field of the first bytes is a field of the whole
pub field_of_first : (n place m : ℕ) (bytes : List ℕ) → place + n ≤ m → field (field bytes 0 m) place n ≡ field bytes place n
field_of_first n place m bytes le = field_kept n place bytes (field bytes 0 m) (λ b low high. get_taken bytes m b (omega (arith, high, le)))

-- ---- extents

pub all-append : (ranges : List Extent) (end : ℕ) (xs ys : List Extent) → AllApart ranges end (xs ++ ys) → AllApart ranges end xs × AllApart ranges end ys
all-append ranges end [] ys h = (tt, h)
all-append ranges end (x ∷ xs) ys h = let r = all-append ranges end xs ys h.1 in ((h.0, r.0), r.1)

-- a part of such an extent stays
pub part_kept : (ranges : List Extent) (end : ℕ) (old new : List ℕ) (e : Extent) (place n : ℕ) → KeepsBut ranges end old new → IsApart ranges end e → e.place ≤ place → place + n ≤ end_of e → field new place n ≡ field old place n
part_kept ranges end old new e place n keeps apart low high =
    field_kept n place old new (λ b below above. keeps b (omega (arith, apart.1, high, above)) (apart.0 b (omega (arith, low, below)) (omega (arith, high, above))))

-- ---- the frame

module _ (ranges : List Extent) (end : ℕ) (old new : List ℕ) (keeps : KeepsBut ranges end old new) where
  pub whole : (e : Extent) → IsApart ranges end e → field new e.place e.length ≡ field old e.place e.length
  whole e apart = part_kept ranges end old new e e.place e.length keeps apart (omega arith) (omega arith)

  names_kept : (bytes : List ℕ) (tree after : Tree) (p q : Placement) (children : List ℕ) → SameChildren tree p after q children → NamesChildren bytes tree p children → NamesChildren bytes after q children
  names_kept bytes tree after p q children same named i child now at e f g =
      let s = same i child now at e f g in
      let h = named i child s.0 s.1 e s.2 s.3 in
      record { named = h.named ∙ ap (text_field 32) s.4; points = h.points ∙ ap (λ place. Some (To place)) s.5 }

  table_kept : (tree after : Tree) (p q : Placement) (node : Node) (table : Option TablePart) → AllApart ranges end (table_extents table) → SameChildren tree p after q node.children → HasTable old tree p node table → HasTable new after q node table
  table_kept tree after p q node None apart same h = h
  table_kept tree after p q node (Some t) apart same h =
      let e = whole (extent ExtentKind.SubNodes t.place (table_length t.entries)) apart.0 in
      (h.0, h.1, subst (λ bytes. SpellsTable bytes t.place t.entries) (sym e) h.2, subst (λ bytes. NamesChildren bytes after q node.children) (sym e) (names_kept (field old t.place (table_length t.entries)) tree after p q node.children same h.3))

  pub chunk_table_kept : (chunks : List ChunkPart) (table : Option ℕ) → AllApart ranges end (chunk_table_extents table (length chunks)) → HasChunkTable old chunks table → HasChunkTable new chunks table
  chunk_table_kept chunks None apart h = h
  chunk_table_kept chunks (Some place) apart h =
      let e = whole (extent ExtentKind.ChunkTable place (chunk_table_length (length chunks))) apart.0 in
      (h.0, subst (λ bytes. SpellsChunkTable bytes place (length chunks)) (sym e) h.1, λ i c f. subst (λ bytes. SpellsChunkEntry bytes i c.place c.length) (sym e) (h.2 i c f))

  pub chunks_kept : (chunks : List ChunkPart) → AllApart ranges end (chunk_extents chunks)
      → AllByRecursion (λ (c : ChunkPart). SpellsChunk (field old c.place c.length) c.place c.length) chunks → AllByRecursion (λ (c : ChunkPart). SpellsChunk (field new c.place c.length) c.place c.length) chunks
  chunks_kept [] apart h = tt
  chunks_kept (c ∷ cs) apart h =
      let e = whole (extent ExtentKind.DataChunk c.place c.length) apart.0 in
      (subst (λ bytes. SpellsChunk bytes c.place c.length) (sym e) h.0, chunks_kept cs apart.1 h.1)

  inside : (place length : ℕ) (b : ℕ) → place + 16 ≤ b → b < place + 16 + (length - 20) → b < place + length
  inside place length b low high = omega (arith, low, high)

  payload_kept : (c : ChunkPart) → IsApart ranges end (extent ExtentKind.DataChunk c.place c.length) → payload new c.place c.length ≡ payload old c.place c.length
  payload_kept c apart = field_kept (c.length - 20) (c.place + 16) old new (λ b low high.
      let in_chunk = inside c.place c.length b low high in
      let last = apart.1 in
      keeps b (omega (arith, last, in_chunk)) (apart.0 b (omega (arith, low)) in_chunk))

  payloads_kept : (chunks : List ChunkPart) → AllApart ranges end (chunk_extents chunks) → payloads new chunks ≡ payloads old chunks
  payloads_kept [] apart = refl
  payloads_kept (c ∷ cs) apart = ap (λ xs. xs ++ payloads new cs) (payload_kept c apart.0) ∙ ap (λ xs. payload old c.place c.length ++ xs) (payloads_kept cs apart.1)

  pub data_kept : (chunks : List ChunkPart) (bytes : Option (List ℕ)) → AllApart ranges end (chunk_extents chunks) → HasData old chunks bytes → HasData new chunks bytes
  data_kept chunks None apart h = h
  data_kept chunks (Some bytes) apart h = (h.0, ap (take (length bytes)) (payloads_kept chunks apart) ∙ h.1)

  -- a node is held as before, where its parts meet no range that changes and its children keep names and headers
  pub holds_kept : (tree after : Tree) (p q : Placement) (node : Node) (parts : NodeParts) → after.wide ≡ tree.wide → AllApart ranges end (node_extents tree.wide parts) → SameChildren tree p after q node.children
      → HoldsNode old tree p node parts → HoldsNode new after q node parts
  holds_kept tree after p q node parts wide apart same h =
      let last = all-append ranges end (table_extents parts.table ++ chunk_table_extents parts.chunk_table (length parts.chunks)) (chunk_extents parts.chunks) apart.1 in
      let first = all-append ranges end (table_extents parts.table) (chunk_table_extents parts.chunk_table (length parts.chunks)) last.0 in
      let e = whole (extent ExtentKind.Node parts.header (node_length tree.wide)) apart.0 in
      record {
        header = subst (λ w. SpellsNode w (field new parts.header (node_length w)) (fields_of node parts)) (sym wide) (subst (λ bytes. SpellsNode tree.wide bytes (fields_of node parts)) (sym e) h.header);
        table = table_kept tree after p q node parts.table first.0 same h.table;
        chunk_table = chunk_table_kept parts.chunks parts.chunk_table first.1 h.chunk_table;
        chunks = chunks_kept parts.chunks last.1 h.chunks;
        bytes = data_kept parts.chunks node.bytes last.1 h.bytes;
      }

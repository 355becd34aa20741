-- A node whose header says something else, and whose other parts stay.
use Rattle.std.proofs.Common.{◌≡◌, ℕ, sym, ◌∙◌, ap, subst, List, ◌++◌, length, ◌≤◌}
use Rattle.std.specs.Prelude.{Option, Some, None}
use Rattle.adf_format.specs.declared.types.Extent.{Extent}
use Rattle.adf_format.specs.declared.types.ExtentKind.{ExtentKind}
use Rattle.adf_format.specs.Fields.{field, text_field}
use Rattle.adf_format.specs.Pointer.{To}
use Rattle.adf_format.specs.Tree.{Tree, Node}
use Rattle.adf_format.specs.Parts.{node_length, table_length, SpellsNode, SpellsTable}
use Rattle.adf_format.specs.Placement.{Placement, NodeParts, TablePart, extent, table_extents, chunk_table_extents, chunk_extents}
use Rattle.adf_format.specs.LaysOut.{HoldsNode, HasTable, HasData, NamesChildren, fields_of}
use Rattle.adf_format.specs.Changes.{KeepsBut, AllApart, SameChildren}
use Rattle.adf_format.proofs.FrameLaws.{whole, chunk_table_kept, chunks_kept, data_kept, all-append}

module _ (ranges : List Extent) (end : ℕ) (old new : List ℕ) (keeps : KeepsBut ranges end old new) where
  names_kept : (bytes : List ℕ) (tree after : Tree) (p q : Placement) (children : List ℕ) → SameChildren tree p after q children → NamesChildren bytes tree p children → NamesChildren bytes after q children
  names_kept bytes tree after p q children same named i child now at e f g =
      let s = same i child now at e f g in
      let h = named i child s.0 s.1 e s.2 s.3 in
      record { named = h.named ∙ ap (text_field 32) s.4; points = h.points ∙ ap (λ place. Some (To place)) s.5 }

  table_kept : (tree after : Tree) (p q : Placement) (node now : Node) (table : Option TablePart) → now.children ≡ node.children → AllApart ranges end (table_extents table) → SameChildren tree p after q node.children → HasTable old tree p node table → HasTable new after q now table
  table_kept tree after p q node now None children apart same h = children ∙ h
  table_kept tree after p q node now (Some t) children apart same h =
      let e = whole ranges end old new keeps (extent ExtentKind.SubNodes t.place (table_length t.entries)) apart.0 in (
        h.0,
        subst (λ (xs : List ℕ). length xs ≤ t.entries) (sym children) h.1,
        subst (λ bytes. SpellsTable bytes t.place t.entries) (sym e) h.2,
        subst (λ (xs : List ℕ). NamesChildren (field new t.place (table_length t.entries)) after q xs) (sym children)
            (subst (λ bytes. NamesChildren bytes after q node.children) (sym e) (names_kept (field old t.place (table_length t.entries)) tree after p q node.children same h.3)),
      )

  -- a node whose header is written, and none of its other parts
  pub header_changed : (tree after : Tree) (p q : Placement) (node now : Node) (parts : NodeParts) → after.wide ≡ tree.wide → now.children ≡ node.children → now.bytes ≡ node.bytes
      → AllApart ranges end (table_extents parts.table ++ chunk_table_extents parts.chunk_table (length parts.chunks) ++ chunk_extents parts.chunks) → SameChildren tree p after q node.children
      → SpellsNode tree.wide (field new parts.header (node_length tree.wide)) (fields_of now parts) → HoldsNode old tree p node parts → HoldsNode new after q now parts
  header_changed tree after p q node now parts wide children bytes apart same spelled h =
      let last = all-append ranges end (table_extents parts.table ++ chunk_table_extents parts.chunk_table (length parts.chunks)) (chunk_extents parts.chunks) apart in
      let first = all-append ranges end (table_extents parts.table) (chunk_table_extents parts.chunk_table (length parts.chunks)) last.0 in
      record {
        header = subst (λ w. SpellsNode w (field new parts.header (node_length w)) (fields_of now parts)) (sym wide) spelled;
        table = table_kept tree after p q node now parts.table children first.0 same h.table;
        chunk_table = chunk_table_kept ranges end old new keeps parts.chunks parts.chunk_table first.1 h.chunk_table;
        chunks = chunks_kept ranges end old new keeps parts.chunks last.1 h.chunks;
        bytes = data_kept ranges end old new keeps parts.chunks now.bytes last.1 (subst (λ b. HasData old parts.chunks b) (sym bytes) h.bytes);
      }

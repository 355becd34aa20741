-- Where the limit leaves no room for a link: the rule of the heap says so too.
use Rattle.std.proofs.Common.{◌≡◌, ℕ, refl, sym, ◌∙◌, ap, List, [], ◌∷◌, ◌++◌, length, get_or, ◌<◌, Bool, true, false, Option, None, Some}
use Rattle.std.specs.Prelude.{slice_set, Ok, Err, Result, ◌==◌, if◌then◌else◌}
use Rattle.adf_format.specs.declared.types.Extent.{Extent}
use Rattle.adf_format.specs.RecordFields.{node_length, table_length}
use Rattle.adf_format.specs.Tree.{Tree, children_at, next_serial}
use Rattle.adf_format.specs.Placement.{Placement, NodeParts, Heap, parts_of, table_extents}
use Rattle.adf_format.specs.LaysOut.{entry_count}
use Rattle.adf_format.specs.HeapRule.{Placed, LimitReached, Taken, GrownTable, heap_take, take_bytes, grow_table, grown_entries, chunk_length_for, with_table, with_parts, with_new_parts, no_parts, parts_or_none, after_gives, hold, place_data, data_at, place_edit, ◌>>=◌}
use Rattle.adf_model.proofs.Creation.CreatedNodes.{last_of, there_inside}
use Rattle.tree_laws.specs.WholeEdits.{with_longer_table}
use Rattle.tree_laws.proofs.Data.DataEnded.{one_chunk_from}
use Rattle.tree_laws.proofs.Edits.EditsPlaced.{front_get, set_front}
use Rattle.tree_laws.proofs.Whole.Creates.{agrees, differs}
use Rattle.tree_edits.proofs.CreatesLonger.{length_set}

module _ (limit : ℕ) (tree after : Tree) (p : Placement) (s : ℕ) (text : List ℕ) (text_is : data_at after (next_serial tree) ≡ Some text) (drawn : length p.parts ≡ next_serial tree) (up : NodeParts) (stands : parts_of p s ≡ Some up) where
  abbrev kids : ℕ
  kids = length (children_at tree s)

  abbrev ends : GrownTable → Result Placement LimitReached
  ends g = place_data limit g.placed (next_serial tree) (data_at after (next_serial tree)) >>= λ (q : Placement). Ok (after_gives q g.given)

  abbrev begins : Result (ℕ × Heap) LimitReached → Result Placement LimitReached
  begins r = (r >>= λ (t : ℕ × Heap). Ok (t.0, record p { heap = t.1 })) >>= λ (h : Taken). (grow_table limit tree s (with_new_parts h.1 h.0) >>= ends)

  -- the new node gets no chunk
  fails : (w : Placement) (given : List Extent) (front : List (Option NodeParts)) (header : ℕ) (e : LimitReached) → w.parts ≡ front ++ Some (record no_parts { header = header }) ∷ [] → length front ≡ next_serial tree
      → heap_take limit (chunk_length_for (length text)) w.heap ≡ Err e → ends (record { placed = w; given = given }) ≡ Err e
  fails w given front header e parts many lacks =
      ap (λ (o : Option (List ℕ)). place_data limit w (next_serial tree) o >>= λ (q : Placement). Ok (after_gives q given)) text_is
      ∙ ap (λ (o : Option NodeParts). hold limit w (next_serial tree) (length text) (parts_or_none o).chunks >>= λ (q : Placement). Ok (after_gives q given)) new_there
      ∙ ap (λ (o : Option NodeParts). one_chunk_from (length text) w (next_serial tree) o (heap_take limit (chunk_length_for (length text)) w.heap) >>= λ (q : Placement). Ok (after_gives q given)) new_there
      ∙ ap (λ (r : Result (ℕ × Heap) LimitReached). one_chunk_from (length text) w (next_serial tree) (Some (record no_parts { header = header })) r >>= λ (q : Placement). Ok (after_gives q given)) lacks
    where
      new_there : parts_of w (next_serial tree) ≡ Some (record no_parts { header = header })
      new_there = ap (λ (xs : List (Option NodeParts)). get_or xs (next_serial tree) None) parts ∙ ap (λ (k : ℕ). get_or (front ++ Some (record no_parts { header = header }) ∷ []) k None) (sym many) ∙ last_of front (Some (record no_parts { header = header })) None

  pub no_header : (e : LimitReached) → heap_take limit (node_length tree.wide) p.heap ≡ Err e → place_edit limit tree after (Placed.Link s) p ≡ Err e
  no_header e lacks = ap begins lacks

  module _ (header : ℕ) (between : Heap) (takes : heap_take limit (node_length tree.wide) p.heap ≡ Ok (header, between)) where
    abbrev with_header : Placement
    with_header = with_new_parts (record p { heap = between }) header

    at_grown : parts_of with_header s ≡ Some up
    at_grown = front_get p.parts (Some (record no_parts { header = header })) s (there_inside p.parts s up stands) ∙ stands

    abbrev by_count : Bool → Result Placement LimitReached
    by_count b = (if b then (take_bytes limit (table_length (grown_entries kids)) with_header >>= λ (x : Taken). Ok (with_table x.1 s (grown_entries kids) x.0)) else Ok (record { placed = with_header; given = [] })) >>= ends

    counted : (b : Bool) → (entry_count up.table == kids) ≡ b → place_edit limit tree after (Placed.Link s) p ≡ by_count b
    counted b is = ap begins takes ∙ ap (λ (o : Option NodeParts). by_count (entry_count (parts_or_none o).table == kids)) at_grown ∙ ap by_count is

    pub no_chunk : (e : LimitReached) → kids < entry_count up.table → heap_take limit (chunk_length_for (length text)) between ≡ Err e → place_edit limit tree after (Placed.Link s) p ≡ Err e
    no_chunk e room lacks = counted false (differs (entry_count up.table) kids room) ∙ fails with_header [] p.parts header e refl drawn lacks

    module _ (full : entry_count up.table ≡ kids) where
      abbrev on_table : Result (ℕ × Heap) LimitReached → Result Placement LimitReached
      on_table r = ((r >>= λ (t : ℕ × Heap). Ok (t.0, record with_header { heap = t.1 })) >>= λ (x : Taken). Ok (with_table x.1 s (grown_entries kids) x.0)) >>= ends

      pub no_table : (e : LimitReached) → heap_take limit (table_length (grown_entries kids)) between ≡ Err e → place_edit limit tree after (Placed.Link s) p ≡ Err e
      no_table e lacks = counted true (agrees (entry_count up.table) kids full) ∙ ap on_table lacks

      pub no_chunk_behind : (e : LimitReached) (table : ℕ) (again : Heap) → heap_take limit (table_length (grown_entries kids)) between ≡ Ok (table, again) → heap_take limit (chunk_length_for (length text)) again ≡ Err e
          → place_edit limit tree after (Placed.Link s) p ≡ Err e
      no_chunk_behind e table again takes_table lacks =
          counted true (agrees (entry_count up.table) kids full) ∙ ap on_table takes_table
          ∙ ap (λ (o : Option NodeParts). ends (record { placed = with_parts (record with_header { heap = again }) s (with_longer_table (parts_or_none o) table (grown_entries kids)); given = table_extents (parts_or_none o).table })) at_grown
          ∙ fails (with_parts (record with_header { heap = again }) s longer) (table_extents up.table) (slice_set p.parts s (Some longer)) header e
          (set_front p.parts s (Some (record no_parts { header = header })) (Some longer) (there_inside p.parts s up stands))
          (length_set p.parts s (Some longer) ∙ drawn) lacks
        where
          longer : NodeParts
          longer = with_longer_table up table (grown_entries kids)

-- The fields of headers and the tables of both lists may be given, in bytes that are told.
use Rattle.std.proofs.Common.{◌≡◌, ◌⊎◌, inl, inr, ℕ, refl, sym, ◌∙◌, ap, subst, arith, List, [], ◌+◌, ◌-◌, ◌<◌, ◌≤◌, Option, None, Some}
use Rattle.std.specs.Prelude.{IfSome}
use Rattle.adf_format.specs.RecordFields.{table_length}
use Rattle.adf_format.specs.Tiles.{cover}
use Rattle.adf_format.specs.Tree.{Tree}
use Rattle.adf_format.specs.Placement.{Placement, TablePart, Heap, live_extents}
use Rattle.adf_format.specs.LaysOut.{entry_count}
use Rattle.adf_model.specs.declared.tree.NodeId.{NodeId}
use Rattle.adf_model.proofs.Basics.{same_Some}
use Rattle.adf_model.proofs.Creation.PartsApart.{range_in, cover_all}
use Rattle.adf_model.proofs.Writes.Reaches.{less_or}
use Rattle.file_heap.specs.Heap.{MayGive}
use Rattle.node_reads.specs.declared.header.ChildTable.{ChildTable}
use Rattle.tree_laws.proofs.Holding.Steps.{from_layout, once, up_to_end}
use Rattle.tree_edits.specs.declared.memory.Core.{Core}
use Rattle.tree_edits.specs.declared.rows.Row.{Row}
use Rattle.tree_edits.specs.Rows.{Means, row_of}
use Rattle.tree_edits.specs.Edits.{memory_of}
use Rattle.tree_edits.specs.Joined.{OwnsTable}
use Rattle.tree_edits.specs.Listed.{NamesTable}
use Rattle.tree_edits.proofs.Nodes.{TheNode}
use Rattle.tree_edits.proofs.Kids.{own, entries_are, place_is}
use Rattle.tree_edits.proofs.Stays.{header_own, table_own}
use Rattle.tree_moves.specs.declared.place.Move.{Move}
use Rattle.tree_moves.specs.Movable.{MayMove}
use Rattle.tree_moves.specs.Relisted.{OwnsLists}

-- bytes of live parts may be given
live_may : (image : List ℕ) (tree : Tree) (p : Placement) (core : Core) (m : Means image tree p (memory_of core)) (from n : ℕ) → 0 < n → ((b : ℕ) → from ≤ b → b < from + n → 0 < cover (live_extents tree.wide p) b) → MayGive from n core.heap.work.heap
live_may image tree p core m from n some live = subst (MayGive from n) m.heap (record {
  low = low (less_or from 266);
  high = let last = up_to_end image tree p [] (from_layout image tree p m.laid_out) (from + n - 1) (let l = live (from + n - 1) (omega (arith, some)) (omega (arith, some)) in let all = cover_all tree.wide p (from + n - 1) in omega (arith, l, all)) in omega (arith, last, some);
  apart = λ b here there. let l = live b here there in let one = once image tree p [] (from_layout image tree p m.laid_out) b in omega (arith, l, one);
})
  where
    low : (from < 266) ⊎ (266 ≤ from) → 266 ≤ from
    low (inr le) = le
    low (inl lt) = absurd (elim (less_or from 186) [
      | inl head ↦ let l = live from (omega arith) (omega (arith, some)) in let one = once image tree p [] (from_layout image tree p m.laid_out) from in let held = range_in 0 186 from (omega arith) (omega (arith, head)) in omega (arith, l, one, held)
      | inr table ↦ let l = live from (omega arith) (omega (arith, some)) in let one = once image tree p [] (from_layout image tree p m.laid_out) from in let held = range_in 186 80 from table (omega (arith, lt)) in omega (arith, l, one, held)
    ])

-- those of a node whose table is known
module _ (image : List ℕ) (core : Core) (serial : ℕ) (row : Row) (found : row_of core.rows.items serial ≡ Some row) (tree : Tree) (p : Placement) (m : Means image tree p (memory_of core)) (table : ChildTable) (named : NamesTable core.wide (Some image) row.place table) where
  abbrev its_node : TheNode image tree p serial row.place
  its_node = own image core serial row found tree p m table named

  table_may : 0 < table.entries → (o : Option TablePart) → its_node.parts.table ≡ o → MayGive table.place (table_length table.entries) core.heap.work.heap
  table_may some None e = absurd (let none = entries_are image core serial row found tree p m table named ∙ ap entry_count e in omega (arith, none, some))
  table_may some (Some t) e =
      subst (λ k. MayGive k (table_length table.entries) core.heap.work.heap) (sym (place_is image core serial row found tree p m table named (Some t) e))
      (subst (λ n. MayGive t.place (table_length n) core.heap.work.heap) (sym (entries_are image core serial row found tree p m table named ∙ ap entry_count e))
      (live_may image tree p core m t.place (table_length t.entries) (omega arith) (table_own image tree p serial its_node.parts m.laid_out its_node.is.stands t e)))

  pub owns_list : OwnsTable (record { row = row; table = table }) core.heap.work.heap image
  owns_list = record {
    header = live_may image tree p core m (row.place + 68) 28 (omega arith) (λ b low high.
        header_own image tree p serial its_node.parts m.laid_out its_node.is.stands row.place its_node.at 68 28 (omega arith) b (let held = range_in (row.place + 68) 28 b low high in omega (arith, held)));
    table = λ some. table_may some its_node.parts.table refl;
    within = λ some. let held = table_may some its_node.parts.table refl in let h = held.high in let e = m.laid_out.end in let f = ap (λ (x : Heap). x.end) m.heap in omega (arith, h, e, f);
  }

module _ (core : Core) (node at : NodeId) (its : Move) where
  pub owns_lists : (image : List ℕ) → MayMove core node at (Some image) its → (tree : Tree) (p : Placement) → Means image tree p (memory_of core) → OwnsLists its core.heap.work.heap image
  owns_lists image may tree p m =
      let table = may.looked.source_is.listed.table in
      let same = same_Some table.above its.source.from (sym table.found ∙ may.looked.source_is.from) in
      record {
        from = subst (λ (r : Row). OwnsTable (record { row = r; table = its.source.listed.table }) core.heap.work.heap image) same (owns_list image core may.parent table.above table.found tree p m its.source.listed.table table.named);
        to = owns_list image core at.serial its.to.row may.looked.may.may.target.node.found tree p m its.to.table may.looked.may.may.target.named_by;
      }

  pub owns_held : (held mid : Option (List ℕ)) → mid ≡ held → MayMove core node at held its → IfSome held (λ bytes. (tree : Tree) × (p : Placement) × Means bytes tree p (memory_of core)) → IfSome mid (OwnsLists its core.heap.work.heap)
  owns_held held mid same may means = subst (λ o. IfSome o (OwnsLists its core.heap.work.heap)) (sym same) (by_held held may means)
    where
      by_held : (held : Option (List ℕ)) → MayMove core node at held its → IfSome held (λ bytes. (tree : Tree) × (p : Placement) × Means bytes tree p (memory_of core)) → IfSome held (OwnsLists its core.heap.work.heap)
      by_held None may means = tt
      by_held (Some image) may means = owns_lists image may means.0 means.1 means.2

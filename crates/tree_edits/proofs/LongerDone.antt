-- A longer table takes the place of a full one: room for it is taken, and then it is written and named there.
use Rattle.std.proofs.Common.{◌≡◌, ◌⊎◌, inl, inr, ℕ, ◌∙◌, ap, arith, List, [], ◌∷◌, ◌++◌, ◌+◌, ◌*◌, ◌^◌, ◌<◌, ◌≤◌, Option, None, Some}
use Rattle.std.specs.Prelude.{IfSome, filter}
use Rattle.adf_format.specs.declared.types.ExtentKind.{ExtentKind}
use Rattle.adf_format.specs.Changes.{heap_fields}
use Rattle.adf_format.specs.Parts.{table_length}
use Rattle.adf_format.specs.Placement.{Heap, extent}
use Rattle.adf_format.specs.Tiles.{cover, is_free}
use Rattle.adf_format.proofs.FrameLaws.{field_kept}
use Rattle.adf_model.proofs.Creation.PartsApart.{range_out}
use Rattle.adf_model.proofs.Writes.Reaches.{less_or}
use Rattle.cg_io.specs.Blocks.{Both}
use Rattle.file_heap.specs.Beside.{AreBeside}
use Rattle.file_heap.specs.Heap.{FreeSpace, MayGive}
use Rattle.file_heap.proofs.Ranges.{cover_kinds}
use Rattle.tree_laws.proofs.Whole.Mid.{in_old}
use Rattle.tree_edits.specs.declared.room.Parent.{Parent}
use Rattle.tree_edits.specs.Taken.{IsReady, Takes}
use Rattle.tree_edits.specs.Joined.{OwnsTable, JoinsLonger, entries_in, longer_text}
use Rattle.tree_edits.specs.Linked.{MayReplace, ReplacesTable, longer_length}
use Rattle.tree_edits.proofs.Ready.{taken_may, may_after, own_apart}
use Rattle.tree_edits.proofs.RoomsTaken.{tables_apart}

-- what may be given lies beside the lists
pub beside_of : (from many : ℕ) (heap : Heap) → MayGive from many heap → AreBeside (extent ExtentKind.Node from many ∷ []) heap.gaps
beside_of from many heap may = record {
  table = λ b low high. let out = range_out from many b (inl (let l = may.low in omega (arith, l, high))) in omega (arith, out);
  chunks = λ b some. by_start b some (less_or b from);
}
  where
    by_end : (b : ℕ) → 0 < cover (filter is_free heap.gaps) b → from ≤ b → (b < from + many) ⊎ (from + many ≤ b) → cover (extent ExtentKind.Node from many ∷ []) b ≡ 0
    by_end b some low (inl high) = absurd (let none = may.apart b low high in let kinds = cover_kinds b heap.gaps in omega (arith, none, kinds, some))
    by_end b some low (inr past) = let out = range_out from many b (inr past) in omega (arith, out)

    by_start : (b : ℕ) → 0 < cover (filter is_free heap.gaps) b → (b < from) ⊎ (from ≤ b) → cover (extent ExtentKind.Node from many ∷ []) b ≡ 0
    by_start b some (inl before) = let out = range_out from many b (inl before) in omega (arith, out)
    by_start b some (inr low) = by_end b some low (less_or b (from + many))

module _ (limit place : ℕ) (parent : Parent) (entry : List ℕ) (was now : FreeSpace) (full : parent.table.entries ≡ parent.table.count) where
  abbrev Take : List ℕ → List ℕ → Type 0
  Take = Takes limit (longer_length parent) place was now

  module _ (a b : List ℕ) (ready : IsReady was a) (own : OwnsTable parent was.heap a) (t : Take a b) where
    may_replace : MayReplace parent place now b
    may_replace = record {
      threads = t.threads;
      own = record {
        header = may_after limit (longer_length parent) place was now a b t (parent.row.place + 68) 28 own.header;
        table = λ some. may_after limit (longer_length parent) place was now a b t parent.table.place (table_length parent.table.entries) (own.table some);
        within = λ some. let far = own.within some in let l = t.changes.longer in omega (arith, far, l);
      };
      room = taken_may limit (longer_length parent) place was now a b t ready.once;
      apart = λ some. tables_apart parent place full some (own_apart limit (longer_length parent) place was now a b t parent.table.place (table_length parent.table.entries) (own.table (omega (arith, some, full))));
    }

    -- the entries in use go on standing
    same_used : entries_in b parent.table ≡ entries_in a parent.table
    same_used =
        field_kept (44 * parent.table.count) (parent.table.place + 16) a b (λ k low high.
        let some : 0 < parent.table.entries = omega (arith, low, high, full) in
        (in_old (heap_fields ++ was.heap.gaps) a b t.changes).others k (let far = own.within some in omega (arith, far, high, full)) (none some k low high))
      where
        none : 0 < parent.table.entries → (k : ℕ) → parent.table.place + 16 ≤ k → k < parent.table.place + 16 + 44 * parent.table.count → cover (heap_fields ++ was.heap.gaps) k ≡ 0
        none some k low high =
            let may = own.table some in
            let l = may.low in
            let end = range_out 146 12 k (inr (omega (arith, l, low))) in
            let table = range_out 186 80 k (inr (omega (arith, l, low))) in
            let gaps = may.apart k (omega (arith, low)) (omega (arith, high, full)) in
            omega (arith, end, table, gaps)

    joins : (end : FreeSpace) (c : List ℕ) → place + longer_length parent ≤ 2 ^ 44 → ReplacesTable parent place entry now end b c → JoinsLonger limit parent entry was end a c
    joins end c near r = record {
      place = place;
      between = now;
      written = r.written;
      named = r.named;
      takes = (b, t, record { stands = r.fills.stands ∙ ap (λ used. longer_text place parent.table.count used entry) same_used; reaches = r.fills.reaches; only = r.fills.only });
      used = r.used ∙ same_used;
      near = near;
      names = r.names;
      gives = r.gives;
      heap = r.heap;
      threads = r.threads;
    }

  -- ---- of bytes that may be told

  pub may_replace_held : (a b : Option (List ℕ)) → IfSome a (IsReady was) → IfSome a (OwnsTable parent was.heap) → Both Take a b → IfSome b (MayReplace parent place now)
  may_replace_held a None ready own t = tt
  may_replace_held None (Some b) ready own t = absurd t
  may_replace_held (Some a) (Some b) ready own t = may_replace a b ready own t

  pub joins_held : (a b c : Option (List ℕ)) (end : FreeSpace) → IfSome a (IsReady was) → IfSome a (OwnsTable parent was.heap) → Both Take a b → place + longer_length parent ≤ 2 ^ 44 → Both (ReplacesTable parent place entry now end) b c
      → Both (JoinsLonger limit parent entry was end) a c
  joins_held None None None end ready own t near r = tt
  joins_held None None (Some c) end ready own t near r = absurd r
  joins_held None (Some b) c end ready own t near r = absurd t
  joins_held (Some a) None c end ready own t near r = absurd t
  joins_held (Some a) (Some b) None end ready own t near r = absurd r
  joins_held (Some a) (Some b) (Some c) end ready own t near r = joins a b ready own t end c near r

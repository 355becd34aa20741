-- A new child that is listed in a longer table makes the edit.
use Rattle.std.proofs.Common.{◌≡◌, inr, ℕ, zero, suc, refl, sym, ◌∙◌, ap, subst, arith, List, [], ◌∷◌, ◌++◌, length, get_or, ◌+◌, ◌-◌, ◌*◌, ◌^◌, ◌<◌, ◌≤◌, Bool, true, false, Option, None, Some}
use Rattle.std.proofs.lemmas.Bool.Decides.{nat_tests}
use Rattle.std.specs.Prelude.{Ok, slice_set, nat_lt, if◌then◌else◌}
use Rattle.adf_format.specs.declared.types.ExtentKind.{ExtentKind}
use Rattle.adf_format.specs.Changes.{heap_fields}
use Rattle.adf_format.specs.Fields.{field, text_field}
use Rattle.adf_format.specs.Hex.{hex_text}
use Rattle.adf_format.specs.Pointer.{To, pointer_text}
use Rattle.adf_format.specs.Records.{SubNodes, node_text, entry_text}
use Rattle.adf_format.specs.RecordFields.{node_length, table_length}
use Rattle.adf_format.specs.Spelled.{framed_text}
use Rattle.adf_format.specs.Tiles.{cover}
use Rattle.adf_format.specs.Tree.{Tree, next_serial, children_at}
use Rattle.adf_format.specs.Placement.{Placement, NodeParts, TablePart, extent, table_extents}
use Rattle.adf_format.specs.LaysOut.{HasTable, entry_count}
use Rattle.adf_format.specs.HeapRule.{heap_take, grown_entries, give_all, parts_at, parts_or_none, no_parts, with_new_parts, after_gives}
use Rattle.adf_format.proofs.FrameLaws.{field_kept}
use Rattle.adf_model.specs.declared.tree.NodeId.{NodeId}
use Rattle.adf_model.specs.Creation.{empty_node, used_entries, unused_entries}
use Rattle.adf_model.specs.Edits.{new_node}
use Rattle.adf_model.proofs.Creation.PartsApart.{range_out}
use Rattle.file_heap.specs.Heap.{FreeSpace, MayGive, IsThreaded}
use Rattle.tree_laws.specs.MidEdit.{IsMidEdit, Puts, GivesAll}
use Rattle.tree_laws.specs.Spared.{IsEditWhole}
use Rattle.tree_laws.specs.WholeEdits.{longer_ranges, with_longer_table}
use Rattle.tree_laws.proofs.Edits.EditsPlaced.{front_get}
use Rattle.tree_laws.proofs.Whole.Mid.{in_old}
use Rattle.tree_laws.proofs.Whole.CreatesFull.{create_is_whole_full}
use Rattle.tree_edits.specs.declared.memory.Core.{Core}
use Rattle.tree_edits.specs.declared.room.Parent.{Parent}
use Rattle.tree_edits.specs.declared.rows.Row.{Row}
use Rattle.tree_edits.specs.Rows.{Means, IsTable}
use Rattle.tree_edits.specs.Edits.{memory_of, Follows}
use Rattle.tree_edits.specs.Room.{MayCreate}
use Rattle.tree_edits.specs.Taken.{IsReady, FillsWith, TakesText}
use Rattle.tree_edits.specs.Joined.{JoinsLonger, extents_of_table, entries_in, table_fields}
use Rattle.tree_edits.proofs.Ready.{taken_may, own_apart}
use Rattle.tree_edits.proofs.Creates.{mid_text, up, count, entries, table_at, edit, after, made, joined, depth, drawn, taken, with_header}
use Rattle.tree_edits.proofs.JoinedRows.{table_joined}

-- a text that stands stays where room is taken and another is written in it
text_kept : (limit n place m at : ℕ) (text other : List ℕ) (was now : FreeSpace) (z a c : List ℕ) → 0 < n → FillsWith place n text z a → MayGive place n was.heap → TakesText limit m at other was now a c → field c place n ≡ text
text_kept limit n place m at text other was now z a c some f may t =
    field_kept n place t.0 c (λ b low high. (in_old (extent ExtentKind.Node at m ∷ []) t.0 c t.2.only).others b (let r = f.reaches some in let l = t.1.changes.longer in omega (arith, r, l, high)) (let out = own_apart limit m at was now a t.0 t.1 place n may b low high in omega (arith, out)))
    ∙ field_kept n place a t.0 (λ b low high. (in_old (heap_fields ++ was.heap.gaps) a t.0 t.1.changes).others b (let r = f.reaches some in omega (arith, r, high)) (none b low high))
    ∙ f.stands
  where
    none : (b : ℕ) → place ≤ b → b < place + n → cover (heap_fields ++ was.heap.gaps) b ≡ 0
    none b low high =
        let end = range_out 146 12 b (inr (let l = may.low in omega (arith, l, low))) in
        let table = range_out 186 80 b (inr (let l = may.low in omega (arith, l, low))) in
        let gaps = may.apart b low high in
        omega (arith, end, table, gaps)

pub some_entries : (n : ℕ) → 0 < n → nat_lt 0 n ≡ true
some_entries n lt = grind (arith, nat_tests)

-- the header of a node in a list of which one has another table
pub same_header : (xs : List (Option NodeParts)) (s k : ℕ) (from : NodeParts) (now : NodeParts) → get_or xs s None ≡ Some from → now.header ≡ from.header → (parts_or_none (get_or (slice_set xs s (Some now)) k None)).header ≡ (parts_or_none (get_or xs k None)).header
same_header [] s k from now e same = refl
same_header (x ∷ xs) zero zero from now e same = same ∙ sym (ap (λ (o : Option NodeParts). (parts_or_none o).header) e)
same_header (x ∷ xs) zero (suc k) from now e same = refl
same_header (x ∷ xs) (suc s) zero from now e same = refl
same_header (x ∷ xs) (suc s) (suc k) from now e same = same_header xs s k from now e same

pub length_set : (xs : List (Option NodeParts)) (s : ℕ) (y : Option NodeParts) → length (slice_set xs s y) ≡ length xs
length_set [] s y = refl
length_set (x ∷ xs) zero y = refl
length_set (x ∷ xs) (suc s) y = ap suc (length_set xs s y)

pub last_of : (xs : List (Option NodeParts)) (y : Option NodeParts) → get_or (xs ++ y ∷ []) (length xs) None ≡ y
last_of [] y = refl
last_of (x ∷ xs) y = last_of xs y

module _ (image : List ℕ) (core : Core) (at : NodeId) (name label : List ℕ) (parent : Parent) (may : MayCreate core at name label (Some image) parent) (tree : Tree) (p : Placement) (m : Means image tree p (memory_of core)) (place : ℕ) (between : FreeSpace) (a : List ℕ)
    (t : TakesText core.heap.limit (node_length core.wide) place (node_text (empty_node core.wide name label)) core.heap.work between image a) (ready : IsReady core.heap.work image)
    (now : FreeSpace) (new : List ℕ) (full : parent.table.entries ≡ parent.table.count) (x : JoinsLonger core.heap.limit parent (entry_text (text_field 32 name) (To place)) between now a new) (far : place < 2 ^ 44) where
  abbrev kids : List ℕ
  kids = children_at tree at.serial

  abbrev many : ℕ
  many = grown_entries (length kids)

  abbrev from : NodeParts
  from = (up image core at name label parent may tree p m).parts

  same : parent.table.count ≡ length kids
  same = count image core at name label parent may tree p m

  full_count : entry_count from.table ≡ length kids
  full_count = sym (entries image core at name label parent may tree p m) ∙ full ∙ same

  -- the table as the tree has it
  has_table : HasTable image tree p (up image core at name label parent may tree p m).node from.table
  has_table = (m.laid_out.nodes at.serial (up image core at name label parent may tree p m).node from (up image core at name label parent may tree p m).is.live (up image core at name label parent may tree p m).is.stands).table

  pub old_extents : (o : Option TablePart) → from.table ≡ o → extents_of_table parent.table ≡ table_extents o
  old_extents None e =
      let none = entries image core at name label parent may tree p m ∙ ap entry_count e in
      ap (λ n. if nat_lt 0 n then extent ExtentKind.SubNodes parent.table.place (table_length n) ∷ [] else []) none
  old_extents (Some o) e =
      let has = entries image core at name label parent may tree p m ∙ ap entry_count e in
      let some : 0 < o.entries = (subst (λ (y : Option TablePart). HasTable image tree p (up image core at name label parent may tree p m).node y) e has_table).0 in
      ap (λ n. if nat_lt 0 n then extent ExtentKind.SubNodes parent.table.place (table_length n) ∷ [] else []) has
      ∙ ap (λ b. if b then extent ExtentKind.SubNodes parent.table.place (table_length o.entries) ∷ [] else []) (some_entries o.entries some)
      ∙ ap (λ k. extent ExtentKind.SubNodes k (table_length o.entries) ∷ []) (table_at image core at name label parent may tree p m o e)

  given : extents_of_table parent.table ≡ table_extents from.table
  given = old_extents from.table refl

  old_used : (o : Option TablePart) → from.table ≡ o → entries_in x.written parent.table ≡ used_entries x.written o (length kids)
  old_used None e =
      let none : length kids ≡ 0 = sym full_count ∙ ap entry_count e in
      ap (λ n. field x.written (parent.table.place + 16) (44 * n)) (same ∙ none)
  old_used (Some o) e =
      ap (λ n. field x.written (parent.table.place + 16) (44 * n)) same
      ∙ ap (λ k. field x.written (k + 16) (44 * length kids)) (table_at image core at name label parent may tree p m o e)

  header_stays : field x.written place (node_length core.wide) ≡ node_text (empty_node core.wide name label)
  header_stays =
      text_kept core.heap.limit (node_length core.wide) place _ x.place _ _ between x.between t.0 a x.written (some_length core.wide) t.2
      (taken_may core.heap.limit (node_length core.wide) place core.heap.work between image t.0 t.1 ready.once) x.takes
    where
      some_length : (w : Bool) → 0 < node_length w
      some_length false = omega arith
      some_length true = omega arith

  mid : IsMidEdit (longer_ranges from) p image tree (record p { heap = x.between.heap }) (extent ExtentKind.Node x.place (table_length many) ∷ extent ExtentKind.Node place (node_length tree.wide) ∷ []) x.written
  mid =
      subst (λ n. IsMidEdit (longer_ranges from) p image tree (record p { heap = x.between.heap }) (extent ExtentKind.Node x.place (table_length (grown_entries n)) ∷ extent ExtentKind.Node place (node_length tree.wide) ∷ []) x.written) same
      (mid_text (longer_ranges from) p (record p { heap = between.heap }) image a x.written tree tree (extent ExtentKind.Node place (node_length tree.wide) ∷ []) core.heap.limit _ x.place _ between x.between refl
      (with_header image core at name label parent may tree p m place between a t (longer_ranges from)) x.takes)

  abbrev pub q : Placement
  q = after_gives (with_new_parts (record {
    parts = slice_set p.parts at.serial (Some (with_longer_table from x.place many));
    heap = x.between.heap;
  }) place) (table_extents from.table)

  list : field x.written x.place (table_length many) ≡ framed_text SubNodes x.place (used_entries x.written from.table (length kids) ++ entry_text (text_field 32 name) (To place) ++ unused_entries (many - suc (length kids)))
  list =
      subst (λ n. field x.written x.place (table_length (grown_entries n)) ≡ framed_text SubNodes x.place (used_entries x.written from.table (length kids) ++ entry_text (text_field 32 name) (To place) ++ unused_entries (grown_entries n - suc n))) same
      (x.takes.2.stands ∙ ap (λ used. framed_text SubNodes x.place (used ++ entry_text (text_field 32 name) (To place) ++ unused_entries (grown_entries parent.table.count - suc parent.table.count))) (sym x.used ∙ old_used from.table refl))

  names : Puts ExtentKind.Node (from.header + 68) 28 (hex_text 8 (suc (length kids)) ++ hex_text 8 many ++ pointer_text (To x.place)) x.written x.named
  names =
      subst (λ k. Puts ExtentKind.Node (k + 68) 28 (table_fields x.place (length kids)) x.written x.named) (sym (up image core at name label parent may tree p m).at)
      (subst (λ n. Puts ExtentKind.Node (parent.row.place + 68) 28 (table_fields x.place n) x.written x.named) same x.names)

  whole : IsEditWhole core.heap.limit core.writable (edit image core at name label parent may tree p m) tree p (after image core at name label parent may tree p m) q image new
  whole =
      create_is_whole_full core.heap.limit core.writable image x.written x.named new tree (after image core at name label parent may tree p m) p between.heap x.between.heap ExtentKind.Node ExtentKind.Node at name label place x.place many from m.laid_out
      (made image core at name label parent may tree p m) full_count refl (taken image core at name label parent may tree p m place between a t) far
      (subst (λ n. heap_take core.heap.limit (table_length (grown_entries n)) between.heap ≡ Ok (x.place, x.between.heap)) same x.takes.1.taken)
      (subst (λ n. x.place + table_length (grown_entries n) ≤ 2 ^ 44) same x.near) mid
      (subst (λ (w : Bool). field x.written place (node_length w) ≡ node_text (empty_node w name label)) (sym m.wide) header_stays)
      (up image core at name label parent may tree p m).is.stands list names (subst (λ es. GivesAll es x.between.heap x.named new) given x.gives)

  headers : (k : ℕ) → k < next_serial tree → (parts_at q k).header ≡ (parts_at p k).header
  headers k lt =
      ap (λ (o : Option NodeParts). (parts_or_none o).header)
      (front_get (slice_set p.parts at.serial (Some (with_longer_table from x.place many))) (Some (record no_parts { header = place })) k
      (let d = drawn image core at name label parent may tree p m in let l = length_set p.parts at.serial (Some (with_longer_table from x.place many)) in omega (arith, d, l, lt)))
      ∙ same_header p.parts at.serial k from (with_longer_table from x.place many) (up image core at name label parent may tree p m).is.stands refl

  last : (parts_at q (next_serial tree)).header ≡ place
  last =
      subst (λ k. (parts_at q k).header ≡ place) (length_set p.parts at.serial (Some (with_longer_table from x.place many)) ∙ drawn image core at name label parent may tree p m)
      (ap (λ (o : Option NodeParts). (parts_or_none o).header) (last_of (slice_set p.parts at.serial (Some (with_longer_table from x.place many))) (Some (record no_parts { header = place }))))

  pub follows_longer : (is : Core) (its : Row) → is.wide ≡ core.wide → is.heap.work ≡ now → is.rows.items ≡ core.rows.items ++ Some its ∷ []
      → its.place ≡ place → its.parent ≡ Some at.serial → its.depth ≡ suc parent.row.depth
      → Follows core.heap.limit core.writable (edit image core at name label parent may tree p m) tree p (memory_of is) image new
  follows_longer is its wide heap rows here above deep =
      let j = joined image core at name label parent may tree p m in record {
        after = after image core at name label parent may tree p m;
        placement = q;
        whole = whole;
        means = record {
          laid_out = whole.laid_out;
          wide = j.wide ∙ m.wide ∙ sym wide;
          table = subst (IsTable (after image core at name label parent may tree p m) q) (sym rows)
              (table_joined tree (after image core at name label parent may tree p m) p q at.serial (new_node name label) core.rows.items m.table j headers its (here ∙ sym last) above
              (deep ∙ ap suc (depth image core at name label parent may tree p m)));
          heap = ap (λ es. give_all es x.between.heap) (sym given) ∙ sym x.heap ∙ ap (λ (s : FreeSpace). s.heap) (sym heap);
          threads = subst (λ (s : FreeSpace). IsThreaded s new) (sym heap) x.threads;
        };
      }

-- A move makes its edit, where the table of the new parent has an unused entry, or a longer one takes its place.
use Rattle.std.proofs.Common.{◌≡◌, inl, inr, ℕ, suc, refl, sym, ◌∙◌, ap, subst, arith, List, [], ◌∷◌, ◌++◌, length, length-append, ◌+◌, ◌-◌, ◌*◌, ◌^◌, ◌<◌, ◌≤◌, Bool, true, false, Option, None, Some}
use Rattle.std.proofs.lemmas.List.{length-replicate, append_assoc}
use Rattle.std.specs.Prelude.{Ok, nat_lt, if◌then◌else◌}
use Rattle.adf_format.specs.declared.types.Extent.{Extent}
use Rattle.adf_format.specs.declared.types.ExtentKind.{ExtentKind}
use Rattle.adf_format.specs.Changes.{Writes}
use Rattle.adf_format.specs.Hex.{hex_text}
use Rattle.adf_format.specs.Fields.{field}
use Rattle.adf_format.specs.Pointer.{To, pointer_text}
use Rattle.adf_format.specs.HeapBytes.{ChangesOnly}
use Rattle.adf_format.specs.Records.{SubNodes}
use Rattle.adf_format.specs.Parts.{table_length}
use Rattle.adf_format.specs.Spelled.{framed_text}
use Rattle.adf_format.specs.Tiles.{cover}
use Rattle.adf_format.specs.Tree.{Tree, children_at}
use Rattle.adf_format.specs.Placement.{Placement, NodeParts, TablePart, Heap, extent, table_extents}
use Rattle.adf_format.specs.LaysOut.{HasTable, entry_count}
use Rattle.adf_format.specs.HeapRule.{heap_take, grown_entries, give_all, parts_at, after_gives}
use Rattle.adf_format.proofs.FrameLaws.{field_kept}
use Rattle.adf_model.specs.declared.tree.Edit.{Edit}
use Rattle.adf_model.specs.declared.tree.NodeId.{NodeId}
use Rattle.adf_model.specs.Edits.{file_step}
use Rattle.adf_model.specs.Creation.{used_entries, unused_entries}
use Rattle.adf_model.proofs.Creation.PartsApart.{range_out}
use Rattle.file_heap.specs.Heap.{FreeSpace}
use Rattle.tree_laws.specs.MidEdit.{IsMidEdit, GivesAll}
use Rattle.tree_laws.specs.Moving.{IsReplaced, with_longer}
use Rattle.tree_laws.specs.Spared.{IsEditWhole}
use Rattle.tree_laws.specs.WholeEdits.{closing_ranges, longer_ranges}
use Rattle.tree_laws.proofs.Whole.Creates.{more_entries, few_entries}
use Rattle.tree_laws.proofs.Whole.Mid.{mid_begins, in_old}
use Rattle.tree_laws.proofs.Whole.Moves.{move_is_whole, move_last_is_whole}
use Rattle.tree_laws.proofs.Whole.MovesFull.{move_is_whole_full}
use Rattle.tree_laws.proofs.Whole.MovesLastFull.{move_last_is_whole_full}
use Rattle.tree_edits.specs.declared.memory.Core.{Core}
use Rattle.tree_edits.specs.Rows.{Means}
use Rattle.tree_edits.specs.Edits.{memory_of}
use Rattle.tree_edits.specs.Taken.{Takes, FillsWith}
use Rattle.tree_edits.specs.Joined.{AreRangesApart, GivesTable, entries_in, extents_of_table, longer_text}
use Rattle.tree_edits.specs.Linked.{MayReplace, longer_length}
use Rattle.tree_edits.proofs.Creates.{mid_text}
use Rattle.tree_edits.proofs.CreatesLonger.{same_header, some_entries}
use Rattle.tree_edits.proofs.LongerDone.{may_replace_held}
use Rattle.tree_edits.proofs.Ready.{means_ready}
use Rattle.tree_moves.specs.declared.place.Move.{Move}
use Rattle.tree_moves.specs.Movable.{MayMove}
use Rattle.tree_moves.specs.Relisted.{moved_entry, longer_table, kept_fields, OpensLonger, MovesOver, MovesLast, MovesBy}
use Rattle.tree_moves.proofs.Refused.{made}
use Rattle.tree_moves.proofs.Owned.{owns_lists}
use Rattle.tree_moves.proofs.MoveFacts as facts

module _ (image : List ℕ) (core : Core) (node at : NodeId) (its : Move) (may : MayMove core node at (Some image) its) (tree : Tree) (p : Placement) (m : Means image tree p (memory_of core)) where
  abbrev kids : List ℕ
  kids = children_at tree at.serial

  abbrev after : Tree
  after = facts.after image core node at its may tree p m

  abbrev from : NodeParts
  from = (facts.up image core node at its may tree p m).parts

  abbrev other : NodeParts
  other = (facts.other image core node at its may tree p m).parts

  abbrev own : NodeParts
  own = (facts.child image core node at its may tree p m).parts

  abbrev t : TablePart
  t = (facts.tp image core node at its may tree p m).0

  abbrev IsWhole : Placement → List ℕ → Type 0
  IsWhole q new = IsEditWhole core.heap.limit core.writable (Edit.Move node at) tree p after q image new

  its_made : file_step core.writable tree (Edit.Move node at) ≡ Ok after
  its_made = made image core node at tree p m its may

  -- ---- an entry is unused

  module _ (unused : its.to.table.count < its.to.table.entries) where
    abbrev u : TablePart
    u = (facts.table_to image core node at its may tree p m unused).0

    has : other.table ≡ Some u
    has = (facts.table_to image core node at its may tree p m unused).1

    room : length kids < u.entries
    room = let c = facts.count_to image core node at its may tree p m in let e = facts.entries_to image core node at its may tree p m ∙ ap entry_count has in omega (arith, c, e, unused)

    over_unused : its.last ≡ false → (new : List ℕ) (w : MovesOver its its.to.table (moved_entry its) image new) → IsWhole p new
    over_unused last new w =
        move_is_whole core.heap.limit core.writable image w.1.0 w.0 w.2.0 new tree after p node at may.parent (facts.i image core node at its may tree p m) from own other t u m.laid_out its_made
        (facts.over image core node at its may tree p m) (facts.differ image core node at its may tree p m last) (facts.listed_at image core node at its may tree p m)
        (facts.up image core node at its may tree p m).is.stands (facts.tp image core node at its may tree p m).1 (facts.child image core node at its may tree p m).is.stands (facts.other image core node at its may tree p m).is.stands has room
        (facts.left_entries image core node at its may tree p m its.to.table u.place (facts.place_to image core node at its may tree p m u has) (facts.count_to image core node at its may tree p m) image new (omega arith) w)
        (facts.left_count image core node at its may tree p m its.to.table u.place (facts.place_to image core node at its may tree p m u has) (facts.count_to image core node at its may tree p m) image new (omega arith) w)
        (facts.joined_entry image core node at its may tree p m its.to.table u.place (facts.place_to image core node at its may tree p m u has) (facts.count_to image core node at its may tree p m) image new (omega arith) w)
        (facts.joined_count image core node at its may tree p m its.to.table u.place (facts.place_to image core node at its may tree p m u has) (facts.count_to image core node at its may tree p m) image new (omega arith) w)

    enough : u.place + 16 + 44 * length kids ≤ length image
    enough =
        let own = (owns_lists core node at its image may tree p m).to.within (omega (arith, unused)) in
        let a = facts.place_to image core node at its may tree p m u has in let c = facts.count_to image core node at its may tree p m in omega (arith, own, a, c, unused)

    last_unused : its.last ≡ true → (new : List ℕ) (w : MovesLast (record { table = its.to.table; position = its.source.listed.position }) (moved_entry its) image new) → IsWhole p new
    last_unused last new w =
        move_last_is_whole core.heap.limit core.writable image new tree after p node at (facts.i image core node at its may tree p m) other own u m.laid_out its_made
        (facts.over_last image core node at its may tree p m last) (facts.listed_last image core node at its may tree p m last)
        (facts.other image core node at its may tree p m).is.stands (facts.child image core node at its may tree p m).is.stands has room
        (facts.last_entry image core node at its may tree p m its.to.table u.place (facts.place_to image core node at its may tree p m u has) (facts.count_to image core node at its may tree p m) image new last enough w)

    pub by_unused : (last : Bool) → its.last ≡ last → (new : List ℕ) → MovesBy last its its.to.table (moved_entry its) image new → IsWhole p new
    by_unused false e new w = over_unused e new w
    by_unused true e new w = last_unused e new w

  -- ---- a longer table

  module _ (full : its.to.table.entries ≡ its.to.table.count) (place : ℕ) (near : place + longer_length its.to ≤ 2 ^ 44) (taken : FreeSpace) (start opened : List ℕ)
      (takes : Takes core.heap.limit (longer_length its.to) place core.heap.work taken image start) (opens : OpensLonger its.to place (moved_entry its) start opened) where
    same : its.to.table.count ≡ length kids
    same = facts.count_to image core node at its may tree p m

    abbrev many : ℕ
    many = grown_entries (length kids)

    full_count : entry_count other.table ≡ length kids
    full_count = sym (facts.entries_to image core node at its may tree p m) ∙ full ∙ same

    ready : MayReplace its.to place taken start
    ready = may_replace_held core.heap.limit place its.to [] core.heap.work taken full (Some image) (Some start) (means_ready image tree p (memory_of core) m) (owns_lists core node at its image may tree p m).to takes

    told : 0 < its.to.table.count → AreRangesApart its.to.table place × (its.to.table.place + 16 + 44 * its.to.table.count ≤ length start)
    told some = (ready.apart some, (let far = ready.own.within (omega (arith, some, full)) in omega (arith, far, full)))

    fills : FillsWith place (longer_length its.to) (longer_text place its.to.table.count (entries_in start its.to.table) (moved_entry its)) start opens.0
    fills = record { stands = opens.1.stands told; reaches = λ some. opens.1.reaches; only = opens.1.only }

    -- the entries in use go on standing
    used : entries_in opens.0 its.to.table ≡ entries_in start its.to.table
    used =
        field_kept (44 * its.to.table.count) (its.to.table.place + 16) start opens.0 (λ k low high.
        let some : 0 < its.to.table.count = omega (arith, low, high) in
        (in_old (extent ExtentKind.Node place (longer_length its.to) ∷ []) start opens.0 opens.1.only).others k (let far = (told some).1 in omega (arith, far, high)) (none k low high (ready.apart some)))
      where
        none : (k : ℕ) → its.to.table.place + 16 ≤ k → k < its.to.table.place + 16 + 44 * its.to.table.count → AreRangesApart its.to.table place → cover (extent ExtentKind.Node place (longer_length its.to) ∷ []) k ≡ 0
        none k low high (inl le) = let out = range_out place (longer_length its.to) k (inl (omega (arith, le, high))) in omega (arith, out)
        none k low high (inr le) = let out = range_out place (longer_length its.to) k (inr (omega (arith, le, low))) in omega (arith, out)

    old_used : (o : Option TablePart) → other.table ≡ o → entries_in opens.0 its.to.table ≡ used_entries opens.0 o (length kids)
    old_used None e =
        let none : length kids ≡ 0 = sym full_count ∙ ap entry_count e in
        ap (λ n. field opens.0 (its.to.table.place + 16) (44 * n)) (same ∙ none)
    old_used (Some o) e =
        ap (λ n. field opens.0 (its.to.table.place + 16) (44 * n)) same
        ∙ ap (λ k. field opens.0 (k + 16) (44 * length kids)) (facts.place_to image core node at its may tree p m o e)

    mid : (ranges : List Extent) → IsMidEdit ranges p image tree (record p { heap = taken.heap }) (extent ExtentKind.Node place (table_length many) ∷ []) opens.0
    mid ranges =
        subst (λ n. IsMidEdit ranges p image tree (record p { heap = taken.heap }) (extent ExtentKind.Node place (table_length (grown_entries n)) ∷ []) opens.0) same
        (mid_text ranges p p image image opens.0 tree tree [] core.heap.limit (longer_length its.to) place (longer_text place its.to.table.count (entries_in start its.to.table) (moved_entry its)) core.heap.work taken m.heap (mid_begins ranges tree p image m.laid_out) (start, takes, fills))

    taken_is : heap_take core.heap.limit (table_length many) p.heap ≡ Ok (place, taken.heap)
    taken_is = ap (λ n. heap_take core.heap.limit (table_length (grown_entries n)) p.heap) (sym same) ∙ ap (λ (h : Heap). heap_take core.heap.limit (longer_length its.to) h) m.heap ∙ takes.taken

    abbrev rest : List ℕ
    rest = moved_entry its ++ unused_entries (many - suc (length kids))

    long : length (moved_entry its) ≡ 44
    long = facts.entry_is_long image core node at its may tree p m

    replaced : IsReplaced opens.0 opened other (length kids) place many
    replaced = record {
      rest = rest;
      room = let n = more_entries (length kids) in omega (arith, n);
      few = few_entries (length kids) (let lt = may.room.few in let c = same in omega (arith, lt, c));
      near = subst (λ n. place + table_length (grown_entries n) ≤ 2 ^ 44) same near;
      long = let n = more_entries (length kids) in let l = length-append (moved_entry its) (unused_entries (many - suc (length kids))) in let r = length-replicate {A = ℕ} (44 * (many - suc (length kids))) 0 in omega (arith, n, l, r, long);
      list =
          subst (λ n. field opens.0 place (table_length (grown_entries n)) ≡ framed_text SubNodes place (used_entries opens.0 other.table (length kids) ++ moved_entry its ++ unused_entries (grown_entries n - suc n))) same
          (fills.stands ∙ ap (λ xs. framed_text SubNodes place (xs ++ moved_entry its ++ unused_entries (grown_entries its.to.table.count - suc its.to.table.count))) (sym used ∙ old_used other.table refl))
          ∙ ap (framed_text SubNodes place) (append_assoc (used_entries opens.0 other.table (length kids)) (moved_entry its) (unused_entries (many - suc (length kids))));
      switched =
          subst (λ k. Writes (k + 68) (hex_text 8 (length kids) ++ hex_text 8 many ++ pointer_text (To place)) opens.0 opened) (sym (facts.other image core node at its may tree p m).at)
          (subst (λ n. Writes (its.to.row.place + 68) (kept_fields place n) opens.0 opened) same opens.2.writes);
    }

    only : ChangesOnly (extent ExtentKind.Node (other.header + 68) 28 ∷ []) opens.0 opened
    only = subst (λ k. ChangesOnly (extent ExtentKind.Node (k + 68) 28 ∷ []) opens.0 opened) (sym (facts.other image core node at its may tree p m).at) opens.2.only

    long_enough : length image ≤ length opened
    long_enough = let a = takes.changes.longer in let b = opens.1.only.longer in let c = opens.2.only.longer in omega (arith, a, b, c)

    -- the old table
    has_table : HasTable image tree p (facts.other image core node at its may tree p m).node other.table
    has_table = (m.laid_out.nodes at.serial (facts.other image core node at its may tree p m).node other (facts.other image core node at its may tree p m).is.live (facts.other image core node at its may tree p m).is.stands).table

    pub old_extents : (o : Option TablePart) → other.table ≡ o → extents_of_table its.to.table ≡ table_extents o
    old_extents None e =
        let none = facts.entries_to image core node at its may tree p m ∙ ap entry_count e in
        ap (λ n. if nat_lt 0 n then extent ExtentKind.SubNodes its.to.table.place (table_length n) ∷ [] else []) none
    old_extents (Some o) e =
        let has = facts.entries_to image core node at its may tree p m ∙ ap entry_count e in
        let some : 0 < o.entries = (subst (λ (y : Option TablePart). HasTable image tree p (facts.other image core node at its may tree p m).node y) e has_table).0 in
        ap (λ n. if nat_lt 0 n then extent ExtentKind.SubNodes its.to.table.place (table_length n) ∷ [] else []) has
        ∙ ap (λ b. if b then extent ExtentKind.SubNodes its.to.table.place (table_length o.entries) ∷ [] else []) (some_entries o.entries some)
        ∙ ap (λ k. extent ExtentKind.SubNodes k (table_length o.entries) ∷ []) (facts.place_to image core node at its may tree p m o e)

    module _ (linked new : List ℕ) (now : FreeSpace) (gives : GivesTable its.to.table taken now linked new) where
      all_given : GivesAll (table_extents other.table) taken.heap linked new
      all_given = subst (λ es. GivesAll es taken.heap linked new) (old_extents other.table refl) gives.gives

      abbrev pub q : Placement
      q = after_gives (with_longer (record p { heap = taken.heap }) at.serial other place many) (table_extents other.table)

      over_longer : its.last ≡ false → (w : MovesOver its (longer_table its.to place) (moved_entry its) opened linked) → IsWhole q new
      over_longer last w =
          move_is_whole_full core.heap.limit core.writable image opens.0 opened w.1.0 w.0 w.2.0 linked new tree after p taken.heap ExtentKind.Node node at may.parent (facts.i image core node at its may tree p m) place from own other t m.laid_out its_made
          (facts.over image core node at its may tree p m) (facts.differ image core node at its may tree p m last) (facts.listed_at image core node at its may tree p m)
          (facts.up image core node at its may tree p m).is.stands (facts.tp image core node at its may tree p m).1 (facts.child image core node at its may tree p m).is.stands (facts.other image core node at its may tree p m).is.stands full_count taken_is
          (mid (closing_ranges from t (length (children_at tree may.parent)) (facts.i image core node at its may tree p m) ++ longer_ranges other)) replaced only
          (facts.left_entries image core node at its may tree p m (longer_table its.to place) place refl same opened linked long_enough w)
          (facts.left_count image core node at its may tree p m (longer_table its.to place) place refl same opened linked long_enough w)
          (facts.joined_entry image core node at its may tree p m (longer_table its.to place) place refl same opened linked long_enough w)
          (facts.joined_count image core node at its may tree p m (longer_table its.to place) place refl same opened linked long_enough w) all_given

      last_longer : its.last ≡ true → (w : MovesLast (record { table = longer_table its.to place; position = its.source.listed.position }) (moved_entry its) opened linked) → IsWhole q new
      last_longer last w =
          move_last_is_whole_full core.heap.limit core.writable image opens.0 opened linked new tree after p taken.heap ExtentKind.Node node at (facts.i image core node at its may tree p m) place other own m.laid_out its_made
          (facts.over_last image core node at its may tree p m last) (facts.listed_last image core node at its may tree p m last)
          (facts.other image core node at its may tree p m).is.stands (facts.child image core node at its may tree p m).is.stands full_count taken_is (mid (longer_ranges other)) replaced only
          (facts.last_entry image core node at its may tree p m (longer_table its.to place) place refl same opened linked last
          (let r = opens.1.reaches in let c = opens.2.only.longer in let n = more_entries (length kids) in let s = same in omega (arith, r, c, n, s)) w) all_given

      pub by_longer : (last : Bool) → its.last ≡ last → MovesBy last its (longer_table its.to place) (moved_entry its) opened linked → IsWhole q new
      by_longer false e w = over_longer e w
      by_longer true e w = last_longer e w

      pub heap_is : now.heap ≡ q.heap
      heap_is = gives.heap ∙ ap (λ es. give_all es taken.heap) (old_extents other.table refl)

      pub headers : (k : ℕ) → (parts_at q k).header ≡ (parts_at p k).header
      headers k = same_header p.parts at.serial k other (record other { table = Some (record { place = place; entries = many }) }) (facts.other image core node at its may tree p m).is.stands refl

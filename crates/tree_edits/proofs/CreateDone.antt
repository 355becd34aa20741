-- A new child over bytes that may be told: what is required on the way, what is done, why it is refused.
use Rattle.std.proofs.Common.{◌≡◌, ◌⊎◌, inl, inr, ℕ, suc, refl, sym, ◌∙◌, ap, subst, arith, List, [], ◌∷◌, ◌++◌, length, ◌+◌, ◌-◌, ◌^◌, ◌<◌, ◌≤◌, Bool, true, false, Option, None, Some}
use Rattle.std.specs.Prelude.{IfSome, Ok, Err, Result, ◌==◌, if◌then◌else◌}
use Rattle.adf_format.specs.Fields.{text_field}
use Rattle.adf_format.specs.Pointer.{To}
use Rattle.adf_format.specs.Records.{node_text, entry_text}
use Rattle.adf_format.specs.RecordFields.{node_length, table_length}
use Rattle.adf_format.specs.Tiles.{cover}
use Rattle.adf_format.specs.Tree.{Tree, children_at}
use Rattle.adf_format.specs.Placement.{Placement, NodeParts, TablePart, Heap, live_extents}
use Rattle.adf_format.specs.LaysOut.{entry_count}
use Rattle.adf_format.specs.HeapRule.{LimitReached, Taken, GrownTable, heap_take, take_bytes, grow_table, grown_entries, with_table, with_new_parts, no_parts, parts_or_none, place_edit, ◌>>=◌}
use Rattle.adf_model.specs.declared.error.AdfError.{AdfError}
use Rattle.adf_model.specs.declared.error.AdfError.TheVariants as error
use Rattle.adf_model.specs.declared.tree.Edit.{Edit}
use Rattle.adf_model.specs.declared.tree.NodeId.{NodeId}
use Rattle.adf_model.specs.Creation.{empty_node}
use Rattle.adf_model.specs.Placing.{placed_as}
use Rattle.adf_model.proofs.Creation.PartsApart.{range_in, cover_all}
use Rattle.adf_model.proofs.Writes.Reaches.{less_or}
use Rattle.cg_io.specs.Answers.{IsUntold, OnlyReads}
use Rattle.cg_io.specs.Blocks.{Both}
use Rattle.cg_io.specs.Device.{DeviceState}
use Rattle.cg_io.proofs.ReadLaws.{few_only, rose_later}
use Rattle.file_heap.specs.Heap.{FreeSpace, HeapState, MayGive}
use Rattle.node_reads.specs.declared.header.ChildTable.{ChildTable}
use Rattle.tree_laws.specs.Plans.{plan_new, end_of_plan}
use Rattle.tree_laws.proofs.Edits.EditsPlaced.{front_get}
use Rattle.tree_laws.proofs.Edits.PlanNew.{plans_create}
use Rattle.tree_laws.proofs.Groups.GroupsGrow.{step_reaches}
use Rattle.tree_laws.proofs.Holding.Steps.{from_layout, once, up_to_end}
use Rattle.tree_laws.proofs.Whole.Creates.{agrees}
use Rattle.tree_edits.specs.declared.memory.Core.{Core}
use Rattle.tree_edits.specs.declared.room.Parent.{Parent}
use Rattle.tree_edits.specs.declared.rows.Row.{Row}
use Rattle.tree_edits.specs.Rows.{Means}
use Rattle.tree_edits.specs.Edits.{memory_of, Does, Refuses, Follows}
use Rattle.tree_edits.specs.Listed.{IsTableOf, ReadsTable}
use Rattle.tree_edits.specs.Room.{MayCreate, IsRoomCause}
use Rattle.tree_edits.specs.Taken.{IsReady, TakesText, LacksBytes, IsRoomless}
use Rattle.tree_edits.specs.Joined.{OwnsTable, JoinsChild, JoinsLonger, LacksTable}
use Rattle.tree_edits.specs.Created.{IsCreateCause}
use Rattle.tree_edits.proofs.Causes.{row_there}
use Rattle.tree_edits.proofs.Ready.{means_ready, ready_after, may_after}
use Rattle.tree_edits.proofs.Rooms.{refused_fault}
use Rattle.tree_edits.proofs.Stays.{header_own, table_own}
use Rattle.tree_edits.proofs.Creates.{up, count, entries, table_at, after, made, drawn, inside, follows_unused}
use Rattle.tree_edits.proofs.CreatesLonger.{follows_longer}

-- ---- required on the way

-- bytes of live parts may be given
pub live_may : (image : List ℕ) (tree : Tree) (p : Placement) (core : Core) (m : Means image tree p (memory_of core)) (from n : ℕ) → 0 < n → ((b : ℕ) → from ≤ b → b < from + n → 0 < cover (live_extents tree.wide p) b) → MayGive from n core.heap.work.heap
live_may image tree p core m from n some live = subst (MayGive from n) m.heap (record {
  low = low (less_or from 266);
  high = let last = up_to_end image tree p [] (from_layout image tree p m.laid_out) (from + n - 1) (let l = live (from + n - 1) (omega (arith, some)) (omega (arith, some)) in let all = cover_all tree.wide p (from + n - 1) in omega (arith, l, all)) in omega (arith, last, some);
  apart = λ b here there. let l = live b here there in let one = once image tree p [] (from_layout image tree p m.laid_out) b in omega (arith, l, one);
})
  where
    low : (from < 266) ⊎ (266 ≤ from) → 266 ≤ from
    low (inr le) = le
    low (inl lt) = absurd (elim (less_or from 186) [
      | inl head ↦ let l = live from (omega arith) (omega (arith, some)) in let one = once image tree p [] (from_layout image tree p m.laid_out) from in let held = range_in 0 186 from (omega arith) (omega (arith, head)) in omega (arith, l, one, held)
      | inr table ↦ let l = live from (omega arith) (omega (arith, some)) in let one = once image tree p [] (from_layout image tree p m.laid_out) from in let held = range_in 186 80 from table (omega (arith, lt)) in omega (arith, l, one, held)
    ])

module _ (core : Core) (at : NodeId) (name label : List ℕ) (parent : Parent) where
  abbrev edit : Edit
  edit = Edit.Create at name label

  pub owns : (image : List ℕ) → MayCreate core at name label (Some image) parent → (tree : Tree) (p : Placement) → Means image tree p (memory_of core) → OwnsTable parent core.heap.work.heap image
  owns image may tree p m = record {
    header = live_may image tree p core m (parent.row.place + 68) 28 (omega arith) (λ b low high.
        header_own image tree p at.serial (up image core at name label parent may tree p m).parts m.laid_out (up image core at name label parent may tree p m).is.stands parent.row.place (up image core at name label parent may tree p m).at 68 28 (omega arith) b (let held = range_in (parent.row.place + 68) 28 b low high in omega (arith, held)));
    table = λ some. of_table some (up image core at name label parent may tree p m).parts.table refl;
    within = λ some. let held = of_table some (up image core at name label parent may tree p m).parts.table refl in let h = held.high in let e = m.laid_out.end in let f = ap (λ (x : Heap). x.end) m.heap in omega (arith, h, e, f);
  }
    where
      of_table : 0 < parent.table.entries → (o : Option TablePart) → (up image core at name label parent may tree p m).parts.table ≡ o → MayGive parent.table.place (table_length parent.table.entries) core.heap.work.heap
      of_table some None e = absurd (let none = entries image core at name label parent may tree p m ∙ ap entry_count e in omega (arith, none, some))
      of_table some (Some t) e =
          subst (λ k. MayGive k (table_length parent.table.entries) core.heap.work.heap) (sym (table_at image core at name label parent may tree p m t e))
          (subst (λ n. MayGive t.place (table_length n) core.heap.work.heap) (sym (entries image core at name label parent may tree p m ∙ ap entry_count e))
          (live_may image tree p core m t.place (table_length t.entries) (omega arith) (table_own image tree p at.serial (up image core at name label parent may tree p m).parts m.laid_out (up image core at name label parent may tree p m).is.stands t e)))

  module _ (limit n place : ℕ) (text : List ℕ) (now : FreeSpace) where
    pub ready_held : (held a : Option (List ℕ)) → IfSome held (IsReady core.heap.work) → Both (TakesText limit n place text core.heap.work now) held a → IfSome a (IsReady now)
    ready_held None None r t = tt
    ready_held None (Some a) r t = absurd t
    ready_held (Some image) None r t = tt
    ready_held (Some image) (Some a) r t = ready_after limit n place text core.heap.work now image a r t

    pub own_held : (held a : Option (List ℕ)) → MayCreate core at name label held parent → IfSome held (λ bytes. (tree : Tree) × (p : Placement) × Means bytes tree p (memory_of core)) → Both (TakesText limit n place text core.heap.work now) held a → IfSome a (OwnsTable parent now.heap)
    own_held None None may means t = tt
    own_held None (Some a) may means t = absurd t
    own_held (Some image) None may means t = tt
    own_held (Some image) (Some a) may means t =
        let own = owns image may means.0 means.1 means.2 in record {
          header = may_after limit n place core.heap.work now image t.0 t.1 (parent.row.place + 68) 28 own.header;
          table = λ some. may_after limit n place core.heap.work now image t.0 t.1 parent.table.place (table_length parent.table.entries) (own.table some);
          within = λ some. let w = own.within some in let l = t.1.changes.longer in let k = t.2.only.longer in omega (arith, w, l, k);
        }

  -- ---- done

  pub done : (is : Core) (its : Row) (mid end : HeapState) (place : ℕ) (held a new : Option (List ℕ)) → MayCreate core at name label held parent
      → Both (TakesText core.heap.limit (node_length core.wide) place (node_text (empty_node core.wide name label)) core.heap.work mid.work) held a
      → Both (JoinsChild mid.limit parent (entry_text (text_field 32 name) (To place)) mid.work end.work) a new
      → mid.limit ≡ core.heap.limit → place < 2 ^ 44 → is.wide ≡ core.wide → is.heap ≡ end → is.rows.items ≡ core.rows.items ++ Some its ∷ []
      → its.place ≡ place → its.parent ≡ Some at.serial → its.depth ≡ suc parent.row.depth → Both (Does edit core is) held new
  done is its mid end place None None None may t j limit far wide heap rows here above deep = tt
  done is its mid end place None None (Some new) may t j limit far wide heap rows here above deep = absurd j
  done is its mid end place None (Some a) new may t j limit far wide heap rows here above deep = absurd t
  done is its mid end place (Some image) None new may t j limit far wide heap rows here above deep = absurd t
  done is its mid end place (Some image) (Some a) None may t j limit far wide heap rows here above deep = absurd j
  done is its mid end place (Some image) (Some a) (Some new) may t j limit far wide heap rows here above deep = λ tree p m. by_table tree p m j
    where
      by_table : (tree : Tree) (p : Placement) (m : Means image tree p (memory_of core)) → JoinsChild mid.limit parent (entry_text (text_field 32 name) (To place)) mid.work end.work a new → Follows core.heap.limit core.writable edit tree p (memory_of is) image new
      by_table tree p m (inl u) =
          follows_unused image core at name label parent may tree p m place mid.work a t new u.2 far u.0 is its wide (ap (λ (h : HeapState). h.work) heap ∙ u.1) rows here above deep
          (ready_after core.heap.limit (node_length core.wide) place _ core.heap.work mid.work image a (means_ready image tree p (memory_of core) m) t).threads
      by_table tree p m (inr x) =
          follows_longer image core at name label parent may tree p m place mid.work a t (means_ready image tree p (memory_of core) m) end.work new x.0
          (subst (λ n. JoinsLonger n parent (entry_text (text_field 32 name) (To place)) mid.work end.work a new) limit x.1) far is its wide (ap (λ (h : HeapState). h.work) heap) rows here above deep

  -- ---- refused

  module _ (image : List ℕ) (may : MayCreate core at name label (Some image) parent) (tree : Tree) (p : Placement) (m : Means image tree p (memory_of core)) where
    plan : place_edit core.heap.limit tree (after image core at name label parent may tree p m) (placed_as edit) p ≡ end_of_plan (plan_new core.heap.limit tree at.serial p)
    plan =
        plans_create core.heap.limit tree (after image core at name label parent may tree p m) p at name label (drawn image core at name label parent may tree p m)
        (step_reaches core.writable tree (after image core at name label parent may tree p m) edit (made image core at name label parent may tree p m)).1

    abbrev on_header : Result (ℕ × Heap) LimitReached → Result Placement LimitReached
    on_header r =
        end_of_plan ((r >>= λ (t : ℕ × Heap). Ok (t.0, record p { heap = t.1 })) >>= λ (h : Taken).
        (grow_table core.heap.limit tree at.serial (with_new_parts h.1 h.0) >>= λ (g : GrownTable). Ok (record { placed = g.placed; given = g.given })))

    same_take : heap_take core.heap.limit (node_length tree.wide) p.heap ≡ heap_take core.heap.limit (node_length core.wide) core.heap.work.heap
    same_take = ap (λ (w : Bool). heap_take core.heap.limit (node_length w) p.heap) m.wide ∙ ap (λ (h : Heap). heap_take core.heap.limit (node_length core.wide) h) m.heap

    no_header : (asked end : ℕ) → LacksBytes core.heap.limit (node_length core.wide) core.heap.work.heap asked end
        → place_edit core.heap.limit tree (after image core at name label parent may tree p m) (placed_as edit) p ≡ Err (record { asked = asked; end = end })
    no_header asked end lacks = plan ∙ ap on_header (same_take ∙ lacks)

    module _ (place : ℕ) (between : Heap) (taken : heap_take core.heap.limit (node_length core.wide) core.heap.work.heap ≡ Ok (place, between)) where
      abbrev with_header : Placement
      with_header = with_new_parts (record p { heap = between }) place

      abbrev kids : ℕ
      kids = length (children_at tree at.serial)

      abbrev on_table : Result (ℕ × Heap) LimitReached → Result Placement LimitReached
      on_table r =
          end_of_plan (((r >>= λ (t : ℕ × Heap). Ok (t.0, record with_header { heap = t.1 })) >>= λ (t : Taken). Ok (with_table t.1 at.serial (grown_entries kids) t.0))
          >>= λ (g : GrownTable). Ok (record { placed = g.placed; given = g.given }))

      abbrev by_count : Bool → Result Placement LimitReached
      by_count b =
          end_of_plan ((if b then (take_bytes core.heap.limit (table_length (grown_entries kids)) with_header >>= λ (t : Taken). Ok (with_table t.1 at.serial (grown_entries kids) t.0)) else Ok (record { placed = with_header; given = [] }))
          >>= λ (g : GrownTable). Ok (record { placed = g.placed; given = g.given }))

      no_table : (asked end : ℕ) → LacksTable core.heap.limit parent between asked end
          → place_edit core.heap.limit tree (after image core at name label parent may tree p m) (placed_as edit) p ≡ Err (record { asked = asked; end = end })
      no_table asked end lacks =
          plan ∙ ap on_header (same_take ∙ taken)
          ∙ ap (λ (o : Option NodeParts). by_count (entry_count (parts_or_none o).table == kids))
          (front_get p.parts (Some (record no_parts { header = place })) at.serial (inside image core at name label parent may tree p m) ∙ (up image core at name label parent may tree p m).is.stands)
          ∙ ap by_count (agrees (entry_count (up image core at name label parent may tree p m).parts.table) kids
          (sym (entries image core at name label parent may tree p m) ∙ lacks.0 ∙ count image core at name label parent may tree p m))
          ∙ ap on_table (subst (λ n. heap_take core.heap.limit (table_length (grown_entries n)) between ≡ Err (record { asked = asked; end = end })) (count image core at name label parent may tree p m) lacks.1)

  abbrev RefusedIn : AdfError → Option (List ℕ) → Type 0
  RefusedIn e held = IfSome held (Refuses edit core e)

  pub refused_header : (held : Option (List ℕ)) → MayCreate core at name label held parent → (before now : ℕ) (e : AdfError)
      → IsRoomless (LacksBytes core.heap.limit (node_length core.wide) core.heap.work.heap) (IsUntold held) before now e → RefusedIn e held
  refused_header None may before now e h = tt
  refused_header (Some image) may before now error.Memory h = λ tree p m. tt
  refused_header (Some image) may before now error.ReadFault h = refused_fault core at name label parent.row may.asked.may.node.found (Some image)
  refused_header (Some image) may before now (error.Layout rule place) h = absurd h.1
  refused_header (Some image) may before now (error.Full asked end) h = λ tree p m. (refl, (after image core at name label parent may tree p m, made image core at name label parent may tree p m, no_header image may tree p m asked end h))
  refused_header (Some image) may before now other h = absurd h

  module _ (place limit : ℕ) (between : Heap) (taken : heap_take core.heap.limit (node_length core.wide) core.heap.work.heap ≡ Ok (place, between)) (same : limit ≡ core.heap.limit) where
    pub refused_join : (held a : Option (List ℕ)) → MayCreate core at name label held parent → (IsUntold a → IsUntold held) → (before now : ℕ) (e : AdfError)
        → IsRoomless (LacksTable limit parent between) (IsUntold a) before now e → RefusedIn e held
    refused_join None a may told before now e h = tt
    refused_join (Some image) a may told before now error.Memory h = λ tree p m. tt
    refused_join (Some image) a may told before now error.ReadFault h = refused_fault core at name label parent.row may.asked.may.node.found (Some image)
    refused_join (Some image) a may told before now (error.Layout rule at) h = absurd (told h.1)
    refused_join (Some image) a may told before now (error.Full asked end) h = λ tree p m. (refl, (after image core at name label parent may tree p m, made image core at name label parent may tree p m, no_table image may tree p m place between taken asked end (subst (λ n. LacksTable n parent between asked end) same h)))
    refused_join (Some image) a may told before now other h = absurd h

    pub join_cause : (held a : Option (List ℕ)) → MayCreate core at name label held parent → (IsUntold a → IsUntold held) → (before middle now : ℕ) (e : AdfError) → before ≤ middle
        → IsRoomless (LacksTable limit parent between) (IsUntold a) middle now e → IsCreateCause core at name label held before now e
    join_cause held a may told before middle now error.Memory le h = (parent, may)
    join_cause held a may told before middle now error.ReadFault le h = (row_there _ parent.row may.asked.may.node.found, rose_later before middle now le h)
    join_cause held a may told before middle now (error.Layout rule at) le h = inr ((parent, may), h.0, told h.1)
    join_cause held a may told before middle now (error.Full asked end) le h = (parent, may, inr (place, between, taken, subst (λ n. LacksTable n parent between asked end) same h))
    join_cause held a may told before middle now other le h = absurd h

  pub header_cause : (held : Option (List ℕ)) → MayCreate core at name label held parent → (before middle now : ℕ) (e : AdfError) → before ≤ middle
      → IsRoomless (LacksBytes core.heap.limit (node_length core.wide) core.heap.work.heap) (IsUntold held) middle now e → IsCreateCause core at name label held before now e
  header_cause held may before middle now error.Memory le h = (parent, may)
  header_cause held may before middle now error.ReadFault le h = (row_there _ parent.row may.asked.may.node.found, rose_later before middle now le h)
  header_cause held may before middle now (error.Layout rule at) le h = inr ((parent, may), h.0, h.1)
  header_cause held may before middle now (error.Full asked end) le h = (parent, may, inl h)
  header_cause held may before middle now other le h = absurd h

pub room_is_cause : (core : Core) (at : NodeId) (name label : List ℕ) (held : Option (List ℕ)) (before now : ℕ) (e : AdfError) → IsRoomCause core at name label held before now e → IsCreateCause core at name label held before now e
room_is_cause core at name label held before now error.Memory h = absurd h
room_is_cause core at name label held before now error.ReadFault h = h
room_is_cause core at name label held before now (error.Full asked end) h = absurd h
room_is_cause core at name label held before now (error.Layout rule place) h = inl h
room_is_cause core at name label held before now other h = h

-- bytes are told afterwards where they were before
pub told_both : (R : List ℕ → List ℕ → Type 0) (old new : Option (List ℕ)) → Both R old new → IsUntold new → IsUntold old
told_both R None None r u = tt
told_both R None (Some new) r u = absurd u
told_both R (Some old) None r u = absurd r
told_both R (Some old) (Some new) r u = u

pub table_only : (IsIts : ChildTable → Type 0) (times few : ℕ) (old new : DeviceState) → ReadsTable IsIts times few old new → OnlyReads old new
table_only IsIts times few old new (inl r) = few_only few old new r
table_only IsIts times few old new (inr r) = few_only _ old new r.2

pub means_ready_held : (core : Core) (held : Option (List ℕ)) → IfSome held (λ bytes. (tree : Tree) × (p : Placement) × Means bytes tree p (memory_of core)) → IfSome held (IsReady core.heap.work)
means_ready_held core None means = tt
means_ready_held core (Some image) means = means_ready image means.0 means.1 (memory_of core) means.2

-- what is made of bytes that were read before
pub made_in : (R : List ℕ → List ℕ → Type 0) (held mid new : Option (List ℕ)) → mid ≡ held → Both R mid new → Both R held new
made_in R held mid new same r = subst (λ o. Both R o new) same r

pub its_table : (core : Core) (at : NodeId) (name label : List ℕ) (held : Option (List ℕ)) (parent : Parent) → MayCreate core at name label held parent → IsTableOf core held at.serial parent.table
its_table core at name label held parent may = record { above = parent.row; found = may.asked.may.node.found; named = may.asked.named_by }

pub long_enough : (wide : Bool) → 0 < node_length wide
long_enough false = omega arith
long_enough true = omega arith

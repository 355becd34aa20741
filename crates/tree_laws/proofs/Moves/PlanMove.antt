-- The plan of a move, and the table that it finds.
use Rattle.std.proofs.Common.{◌≡◌, ◌≢◌, inl, inr, ℕ, refl, sym, ◌∙◌, ap, subst, arith, List, [], length, ◌<◌, ◌≤◌, Bool, true, false}
use Rattle.std.proofs.lemmas.Bool.Decides.{eqb_tells}
use Rattle.std.specs.Prelude.{Option, Some, None, Result, Ok, slice_get, ◌==◌, if◌then◌else◌}
use Rattle.adf_format.specs.Tree.{Node, node_at, children_of, children_at}
use Rattle.adf_format.specs.Parts.{table_length}
use Rattle.adf_format.specs.Placement.{Placement, NodeParts, TablePart, Heap, table_extents}
use Rattle.adf_format.specs.LaysOut.{HasTable, entry_count}
use Rattle.adf_format.specs.HeapRule.{LimitReached, Taken, GrownTable, parts_or_none, parts_at, with_table, heap_take, grown_entries, ◌>>=◌}
use Rattle.adf_model.proofs.Basics.{not_there}
use Rattle.tree_laws.specs.Plans.{Plan}
use Rattle.tree_laws.specs.Moving.{HasRoom, PlansMove, with_longer}
use Rattle.tree_laws.proofs.Tables.TableReplaced.{node_too}

pub has_room : HasRoom
has_room image tree p taken k parts h placed = (
  λ i c e. with_child i c (subst (λ (o : Option Node). slice_get (children_of o) i ≡ Some c) node.1 e) parts.table refl was,
  λ differ. unused (λ e. differ (e ∙ sym count)) parts.table refl was,
)
  where
    node : (n : Node) × (node_at tree k ≡ Some n)
    node = node_too tree p k parts h.same_nodes placed

    count : length (children_at tree k) ≡ length node.0.children
    count = ap (λ (o : Option Node). length (children_of o)) node.1

    was : HasTable image tree p node.0 parts.table
    was = (h.nodes k node.0 parts node.1 placed).table

    with_child : (i c : ℕ) → slice_get node.0.children i ≡ Some c → (o : Option TablePart) → parts.table ≡ o → HasTable image tree p node.0 o → (t : TablePart) × (parts.table ≡ Some t)
    with_child i c e None at none = absurd (not_there c (sym (ap (λ (xs : List ℕ). slice_get xs i) none) ∙ e))
    with_child i c e (Some t) at has = (t, at)

    unused : (entry_count parts.table ≢ length node.0.children) → (o : Option TablePart) → parts.table ≡ o → HasTable image tree p node.0 o → (t : TablePart) × (parts.table ≡ Some t) × (length (children_at tree k) < t.entries)
    unused differ None at none = absurd (differ (ap entry_count at ∙ sym (ap (λ (xs : List ℕ). length xs) none)))
    unused differ (Some t) at has = (t, at, less (length (children_at tree k)) t.entries (subst (λ n. n ≤ t.entries) (sym count) has.1) (λ e. differ (ap entry_count at ∙ sym e ∙ count)))
      where
        less : (m n : ℕ) → m ≤ n → m ≢ n → m < n
        less m n le differ = elim (eqb_tells m n) [ inl same ↦ absurd (differ same.1) | inr other ↦ (let d = other.1 in omega (arith, le, d)) ]

pub plans_move : PlansMove
plans_move limit tree after p to parts placed = (
  λ differ. ap (λ b. planned b (heap_take limit (table_length (grown_entries count)) p.heap)) (not_full differ),
  λ same place heap e.
      ap (λ b. planned b (heap_take limit (table_length (grown_entries count)) p.heap)) (full same) ∙ ap (λ (r : Result (ℕ × Heap) LimitReached). planned true r) e
      ∙ ap (λ (o : Option NodeParts). longer (record p { heap = heap }) place (parts_or_none o)) placed,
  λ same reached e. ap (λ b. planned b (heap_take limit (table_length (grown_entries count)) p.heap)) (full same) ∙ ap (λ (r : Result (ℕ × Heap) LimitReached). planned true r) e,
)
  where
    count : ℕ
    count = length (children_at tree to)

    longer : Placement → ℕ → NodeParts → Result Plan LimitReached
    longer q place own = Ok (record { placed = with_longer q to own place (grown_entries (length (children_at tree to))); given = table_extents own.table })

    planned : Bool → Result (ℕ × Heap) LimitReached → Result Plan LimitReached
    planned b r =
        (if b then (r >>= λ (t : ℕ × Heap). Ok (t.0, record p { heap = t.1 })) >>= (λ (t : Taken). Ok (with_table t.1 to (grown_entries (length (children_at tree to))) t.0)) else Ok (record { placed = p; given = [] }))
        >>= λ (g : GrownTable). Ok (record { placed = g.placed; given = g.given })

    entries_are : entry_count (parts_at p to).table ≡ entry_count parts.table
    entries_are = ap (λ (o : Option NodeParts). entry_count (parts_or_none o).table) placed

    full : entry_count parts.table ≡ length (children_at tree to) → (entry_count (parts_at p to).table == length (children_at tree to)) ≡ true
    full same = elim (eqb_tells (entry_count (parts_at p to).table) (length (children_at tree to))) [ inl t ↦ t.0 | inr t ↦ absurd (t.1 (entries_are ∙ same)) ]

    not_full : (entry_count parts.table ≢ length (children_at tree to)) → (entry_count (parts_at p to).table == length (children_at tree to)) ≡ false
    not_full differ = elim (eqb_tells (entry_count (parts_at p to).table) (length (children_at tree to))) [ inl t ↦ absurd (differ (sym entries_are ∙ t.1)) | inr t ↦ t.0 ]

-- A new node has no data, so that nothing is given for it but the old table.
use Rattle.std.proofs.Common.{◌≡◌, ◌⊎◌, inl, inr, ℕ, zero, suc, refl, sym, ◌∙◌, ap, Bool, true, false, List, [], ◌∷◌, ◌++◌, length, get_or}
use Rattle.std.proofs.Math.Seq.{set-get_or}
use Rattle.std.specs.Prelude.{Option, Some, None, slice_set, Result, Ok, Err, if◌then◌else◌, ◌==◌}
use Rattle.adf_format.specs.Tree.{Tree, children_at, next_serial}
use Rattle.adf_format.specs.Parts.{node_length, table_length}
use Rattle.adf_format.specs.Placement.{Placement, NodeParts, TablePart, Heap, parts_of}
use Rattle.adf_format.specs.LaysOut.{entry_count}
use Rattle.adf_format.specs.HeapRule.{LimitReached, Taken, GrownTable, no_parts, parts_or_none, parts_at, with_parts, with_new_parts, with_table, heap_take, take_bytes, grow_table, grown_entries, after_gives, data_extents, release, place_data, data_of_node, data_at, ◌>>=◌}
use Rattle.adf_model.specs.Edits.{create_tests, given_children, new_node, with_new}
use Rattle.adf_model.proofs.Basics.{passed, same_Ok}
use Rattle.adf_model.proofs.Creation.CreatedNodes.{last_of, at_new}
use Rattle.tree_laws.specs.Plans.{PlansCreate, end_of_plan}

-- parts without data are released by nothing
abbrev emptied : Placement → ℕ → NodeParts → Placement
emptied p k parts = after_gives (with_parts p k (record parts { chunks = []; chunk_table = None })) (data_extents parts)

released : (p : Placement) (k h : ℕ) (t : Option TablePart) → parts_of p k ≡ Some (record no_parts { header = h; table = t }) → release p k ≡ p
released p k h t at =
    ap (λ (o : Option NodeParts). emptied p k (parts_or_none o)) at
    ∙ ap (λ (xs : List (Option NodeParts)). record p { parts = xs }) (ap (slice_set p.parts k) (sym at) ∙ set-get_or p.parts k None)

-- the last of a list in which one is set
last_set : (xs : List (Option NodeParts)) (s : ℕ) (m y : Option NodeParts)
    → (get_or (slice_set (xs ++ m ∷ []) s y) (length xs) None ≡ m) ⊎ ((s ≡ length xs) × (get_or (slice_set (xs ++ m ∷ []) s y) (length xs) None ≡ y))
last_set [] zero m y = inr (refl, refl)
last_set [] (suc s) m y = inl refl
last_set (x ∷ xs) zero m y = inl (last_of xs m None)
last_set (x ∷ xs) (suc s) m y = elim (last_set xs s m y) [ inl h ↦ inl h | inr h ↦ inr (ap suc h.0, h.1) ]

abbrev placed_by : Placement → Result Placement LimitReached
placed_by q = Ok q

module _ (limit : ℕ) (tree after : Tree) (p : Placement) (s : ℕ) (as_many : length p.parts ≡ length tree.nodes) (no_data : data_at after (next_serial tree) ≡ None) where
  -- the new node in a placement: it has no data
  abbrev IsBare : Placement → Type 0
  IsBare q = (h : ℕ) × (t : Option TablePart) × (parts_of q (length p.parts) ≡ Some (record no_parts { header = h; table = t }))

  abbrev goes_on : GrownTable → Result Placement LimitReached
  goes_on g = place_data limit g.placed (next_serial tree) (data_at after (next_serial tree)) >>= λ (q : Placement). Ok (after_gives q g.given)

  one_end : (g : GrownTable) → IsBare g.placed → goes_on g ≡ Ok (after_gives g.placed g.given)
  one_end g bare =
      ap (λ (o : Option (List ℕ)). place_data limit g.placed (next_serial tree) o >>= λ (q : Placement). Ok (after_gives q g.given)) no_data
      ∙ ap (λ (q : Placement). placed_by (after_gives q g.given)) (released g.placed (next_serial tree) bare.0 bare.1 (ap (parts_of g.placed) (sym as_many) ∙ bare.2))

  module _ (heap : Heap) (h : ℕ) where
    abbrev q : Placement
    q = with_new_parts (record p { heap = heap }) h

    new_there : parts_of q (length p.parts) ≡ Some (record no_parts { header = h })
    new_there = last_of p.parts (Some (record no_parts { header = h })) None

    grown_bare : (free : Heap) (entries place : ℕ) → IsBare (with_table (record q { heap = free }) s entries place).placed
    grown_bare free entries place = elim (last_set p.parts s (Some (record no_parts { header = h })) (Some (record (parts_at q s) { table = Some (record { place = place; entries = entries }) }))) [
      | inl e ↦ (h, None, e)
      | inr e ↦ (
        h,
        Some (record { place = place; entries = entries }),
        e.1 ∙ ap (λ (x : NodeParts). Some (record x { table = Some (record { place = place; entries = entries }) })) (ap (parts_at q) e.0 ∙ ap parts_or_none new_there),
      )
    ]

    by_take : (n entries : ℕ) (r : Result (ℕ × Heap) LimitReached)
        → (((r >>= λ (t : ℕ × Heap). Ok (t.0, record q { heap = t.1 })) >>= λ (t : Taken). Ok (with_table t.1 s entries t.0)) >>= goes_on)
        ≡ end_of_plan (((r >>= λ (t : ℕ × Heap). Ok (t.0, record q { heap = t.1 })) >>= λ (t : Taken). Ok (with_table t.1 s entries t.0)) >>= λ (g : GrownTable). Ok (record { placed = g.placed; given = g.given }))
    by_take n entries (Ok t) = one_end (with_table (record q { heap = t.1 }) s entries t.0) (grown_bare t.1 entries t.0)
    by_take n entries (Err e) = refl

    by_room : (full : Bool) (n entries : ℕ)
        → ((if full then (take_bytes limit n q >>= λ (t : Taken). Ok (with_table t.1 s entries t.0)) else Ok (record { placed = q; given = [] })) >>= goes_on)
        ≡ end_of_plan ((if full then (take_bytes limit n q >>= λ (t : Taken). Ok (with_table t.1 s entries t.0)) else Ok (record { placed = q; given = [] })) >>= λ (g : GrownTable). Ok (record { placed = g.placed; given = g.given }))
    by_room true n entries = by_take n entries (heap_take limit n q.heap)
    by_room false n entries = one_end (record { placed = q; given = [] }) (h, None, new_there)

    grown : (grow_table limit tree s q >>= goes_on) ≡ end_of_plan (grow_table limit tree s q >>= λ (g : GrownTable). Ok (record { placed = g.placed; given = g.given }))
    grown = by_room (entry_count (parts_at q s).table == length (children_at tree s)) (table_length (grown_entries (length (children_at tree s)))) (grown_entries (length (children_at tree s)))

  by_header : (r : Result (ℕ × Heap) LimitReached)
      → ((r >>= λ (t : ℕ × Heap). Ok (t.0, record p { heap = t.1 })) >>= λ (h : Taken). (grow_table limit tree s (with_new_parts h.1 h.0) >>= goes_on))
      ≡ end_of_plan ((r >>= λ (t : ℕ × Heap). Ok (t.0, record p { heap = t.1 })) >>= λ (h : Taken). (grow_table limit tree s (with_new_parts h.1 h.0) >>= λ (g : GrownTable). Ok (record { placed = g.placed; given = g.given })))
  by_header (Ok t) = grown t.1 t.0
  by_header (Err e) = refl

pub plans_create : PlansCreate
plans_create limit tree after p at name label as_many made = by_header limit tree after p at.serial as_many no_data (heap_take limit (node_length tree.wide) p.heap)
  where
    is_grown : with_new tree at.serial (new_node name label) ≡ after
    is_grown = same_Ok (passed (create_tests tree at.serial name label) (Ok (with_new tree at.serial (new_node name label))) after made).1

    no_data : data_at after (next_serial tree) ≡ None
    no_data =
        ap (λ (t : Tree). data_at t (next_serial tree)) (sym is_grown)
        ∙ ap data_of_node (at_new tree.nodes at.serial (next_serial tree) (given_children (children_at tree at.serial ++ length tree.nodes ∷ []) (get_or tree.nodes at.serial None)) (Some (new_node name label)) None refl)

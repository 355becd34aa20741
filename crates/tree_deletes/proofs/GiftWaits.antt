-- Which blocks gifts make wait: those of what is given, of gaps and of the heap's fields; node by node.
use Rattle.std.proofs.Common.{◌≡◌, ℕ, zero, suc, sym, ap, subst, arith, List, [], ◌∷◌, ◌++◌, drop, get_or, length, Bool, Option, None, Some, ◌+◌, ◌-◌, ◌<◌, ◌≤◌}
use Rattle.std.specs.Prelude.{IfSome}
use Rattle.adf_format.specs.declared.types.Extent.{Extent}
use Rattle.adf_format.specs.declared.types.ExtentKind.{ExtentKind}
use Rattle.adf_format.specs.Changes.{heap_fields}
use Rattle.adf_format.specs.HeapRule.{heap_give, give_all, data_extents}
use Rattle.adf_format.specs.Parts.{node_length}
use Rattle.adf_format.specs.Placement.{Heap, NodeParts, extent, node_extents}
use Rattle.adf_format.specs.Tiles.{cover}
use Rattle.adf_format.proofs.HeapLaws.{in_range, cover-give_joined}
use Rattle.adf_format.proofs.HeapSteps.{cover-append}
use Rattle.adf_data.specs.Chunks.{AreNamed, Named}
use Rattle.adf_data.specs.Sizes.{MayGiveAll}
use Rattle.adf_data.proofs.ReleaseLaws.{may_first}
use Rattle.cg_io.specs.Blocks.{Both}
use Rattle.field_access.specs.Fields.{IsWithin, WaitsWithin, range}
use Rattle.field_access.proofs.WaitLaws.{within_self, within_then, within_left, within_right, waits_wider}
use Rattle.file_heap.specs.Heap.{FreeSpace}
use Rattle.tree_laws.specs.MidEdit.{room}
use Rattle.tree_edits.specs.Joined.{extents_of_table}
use Rattle.tree_edits.specs.Waiting.{WaitsInRoom, IfTold}
use Rattle.tree_edits.proofs.Waiting.{room_cover, room_begins, room_then, more_own}
use Rattle.tree_deletes.specs.declared.doomed.Doomed.{Doomed}
use Rattle.tree_deletes.specs.Doomed.{Stands}
use Rattle.tree_deletes.specs.Given.{GivesTogether, AllStand, parts_extents, NodeWaits, NodesWait}
use Rattle.tree_deletes.proofs.Giving.{front, node_is, named_then}
use Rattle.tree_deletes.proofs.GiftRounds.{Rounds, next}

-- ---- ranges, one after another

end_stays : (es : List Extent) (a : Heap) → a.end ≤ (give_all es a).end
end_stays [] a = omega arith
end_stays (e ∷ es) a = end_stays es (heap_give e.place e.length a)

gaps_among : (es : List Extent) (a : Heap) (k : ℕ) → cover es k ≡ 0 → cover a.gaps k ≡ 0 → cover (give_all es a).gaps k ≡ 0
gaps_among [] a k none gone = gone
gaps_among (e ∷ es) a k none gone = gaps_among es (heap_give e.place e.length a) k (omega (arith, none)) (let c = cover-give_joined e.place e.length a.gaps k in omega (arith, c, none, gone))

pub all_given : (es : List Extent) (a b : Heap) (x y : List ℕ) → b ≡ give_all es a → WaitsWithin (heap_fields ++ es ++ a.gaps) x y → WaitsInRoom es a b x y
all_given es a b x y gives only = subst (λ (h : Heap). WaitsInRoom es a h x y) (sym gives) (record {
  grows = end_stays es a;
  gaps = λ k none. let r = room_cover es a (give_all es a) k in gaps_among es a k (omega (arith, r, none)) (omega (arith, r, none));
  only = waits_wider (heap_fields ++ es ++ a.gaps) (heap_fields ++ room es a (give_all es a)) x y (λ k none.
      let r = room_cover es a (give_all es a) k in
      let s = cover-append heap_fields (es ++ a.gaps) k in
      let t = cover-append es a.gaps k in
      let u = cover-append heap_fields (room es a (give_all es a)) k in omega (arith, none, r, s, t, u)) only;
})

-- ---- one node

module _ (wide : Bool) (d : Doomed) (w0 w1 w2 w3 : FreeSpace) (x y z u : List ℕ) where
  module _ (parts : NodeParts) (a : List ℕ) (s : Stands a parts d) where
    split : (k : ℕ) → cover (node_extents wide parts) k ≡ cover (front wide parts) k + cover (data_extents parts) k
    split k = let e = ap (λ es. cover es k) (node_is wide parts) in let f = cover-append (front wide parts) (data_extents parts) k in omega (arith, e, f)

    in_header : IsWithin (range d.place (node_length wide) ∷ []) (node_extents wide parts)
    in_header k none = let e = split k in let h = ap (λ place. in_range place (node_length wide) k) s.header in omega (arith, none, e, h)

    in_table : IsWithin (extents_of_table d.table) (node_extents wide parts)
    in_table k none = let e = split k in let h = ap (λ es. cover es k) s.table in omega (arith, none, e, h)

    in_data : IsWithin (data_extents parts) (node_extents wide parts)
    in_data k none = let e = split k in omega (arith, none, e)

    in_turn : WaitsInRoom (range d.place (node_length wide) ∷ []) w0.heap w1.heap x y → WaitsInRoom (extents_of_table d.table) w1.heap w2.heap y z → WaitsInRoom (data_extents parts) w2.heap w3.heap z u → WaitsInRoom (node_extents wide parts) w0.heap w3.heap x u
    in_turn header table chunks =
        room_then (node_extents wide parts) w0.heap w1.heap w3.heap x y u (more_own (range d.place (node_length wide) ∷ []) (node_extents wide parts) w0.heap w1.heap x y in_header header)
        (room_then (node_extents wide parts) w1.heap w2.heap w3.heap y z u (more_own (extents_of_table d.table) (node_extents wide parts) w1.heap w2.heap y z in_table table)
        (more_own (data_extents parts) (node_extents wide parts) w2.heap w3.heap z u in_data chunks))

  pub node_waits : (held first last : Option (List ℕ)) → Both (GivesTogether (extent ExtentKind.Node d.place (node_length wide) ∷ []) w0 w1) held first → Both (GivesTogether (extents_of_table d.table) w1 w2) first last
      → IfTold held (WaitsInRoom (range d.place (node_length wide) ∷ []) w0.heap w1.heap x y) → IfTold first (WaitsInRoom (extents_of_table d.table) w1.heap w2.heap y z)
      → ((parts : NodeParts) → Named d.chunks parts last → w3.heap ≡ give_all (data_extents parts) w2.heap) → ((parts : NodeParts) → Named d.chunks parts last → WaitsWithin (heap_fields ++ data_extents parts ++ w2.heap.gaps) z u)
      → IfSome held (NodeWaits wide d w0.heap w3.heap x u)
  node_waits None first last g h header table gives waits = tt
  node_waits (Some a) None last g h header table gives waits = absurd g
  node_waits (Some a) (Some b) None g h header table gives waits = absurd h
  node_waits (Some a) (Some b) (Some c) g h header table gives waits = λ parts s may.
      let named = named_then wide d w0 w1 w2 w2 a b c c g h parts s may in
      in_turn parts a s header table (all_given (data_extents parts) w2.heap w3.heap z u (gives parts named) (waits parts named))

-- ---- many nodes

module _ (wide : Bool) where
  drop_within : (i : ℕ) (parts : List NodeParts) → IsWithin (parts_extents wide (drop i parts)) (parts_extents wide parts)
  drop_within zero parts = within_self (parts_extents wide parts)
  drop_within (suc i) [] = within_self []
  drop_within (suc i) (p ∷ parts) =
      within_then (parts_extents wide (drop i parts)) (parts_extents wide parts) (parts_extents wide (p ∷ parts)) (drop_within i parts) (within_right (node_extents wide p) (parts_extents wide parts))

  pub none_wait : (ds : List Doomed) (a : Heap) (x : List ℕ) (held : Option (List ℕ)) → IfSome held (NodesWait wide ds a a x x)
  none_wait ds a x None = tt
  none_wait ds a x (Some image) = λ parts s may. room_begins (parts_extents wide parts) a x

  module _ (ds : List Doomed) (i : ℕ) (none d : Doomed) (lt : i < length ds) (at : d ≡ get_or ds i none) (w0 wi wj : FreeSpace) (x y z : List ℕ) where
    pub more_wait : (old mid : Option (List ℕ)) → Both (Rounds wide ds i w0 wi) old mid → IfSome old (NodesWait wide ds w0.heap wi.heap x y) → IfSome mid (NodeWaits wide d wi.heap wj.heap y z) → IfSome old (NodesWait wide ds w0.heap wj.heap x z)
    more_wait None mid r w v = tt
    more_wait (Some a) None r w v = absurd r
    more_wait (Some a) (Some b) r w v = λ parts s may.
        let q = r parts s may in
        let n = next wide b i parts ds none d lt at q.left in
        let room' : MayGiveAll (node_extents wide n.own ++ parts_extents wide (drop (suc i) parts)) wi.heap = subst (λ ps. MayGiveAll (parts_extents wide ps) wi.heap) n.rest q.may in
        let one = v n.own n.stands (may_first (node_extents wide n.own) (parts_extents wide (drop (suc i) parts)) wi.heap room') in
        let all = parts_extents wide parts in
        let among : IsWithin (node_extents wide n.own ++ parts_extents wide (drop (suc i) parts)) all = subst (λ ps. IsWithin (parts_extents wide ps) all) n.rest (drop_within i parts) in
        room_then all w0.heap wi.heap wj.heap x y z (w parts s may)
        (more_own (node_extents wide n.own) all wi.heap wj.heap y z (within_then (node_extents wide n.own) (node_extents wide n.own ++ parts_extents wide (drop (suc i) parts)) all (within_left (node_extents wide n.own) (parts_extents wide (drop (suc i) parts))) among) one)

-- The parts of many nodes, given node by node; and why they are not given.
use Rattle.std.proofs.Common.{◌≡◌, inl, inr, ℕ, zero, suc, refl, sym, ◌∙◌, ap, subst, arith, List, [], ◌∷◌, ◌++◌, length, get_or, take, drop, ◌+◌, ◌*◌, ◌<◌, ◌≤◌, le_refl, append-nil, Bool, Option, None, Some}
use Rattle.std.proofs.lemmas.List.{append_assoc, take_all}
use Rattle.std.specs.Prelude.{IfSome}
use Rattle.adf_format.specs.declared.types.ExtentKind.{ExtentKind}
use Rattle.adf_format.specs.Changes.{heap_fields}
use Rattle.adf_format.specs.HeapRule.{give_all, data_extents}
use Rattle.adf_format.specs.Parts.{node_length}
use Rattle.adf_format.specs.Placement.{Heap, NodeParts, extent, table_extents, node_extents}
use Rattle.adf_format.proofs.ReachedLaws.{still_changes}
use Rattle.adf_data.specs.Chunks.{Named}
use Rattle.adf_data.specs.Sizes.{MayGiveAll, Ungivable}
use Rattle.adf_data.proofs.ReleaseLaws.{may_first, may_second}
use Rattle.cg_io.specs.Blocks.{Both}
use Rattle.file_heap.specs.Heap.{FreeSpace, IsThreaded}
use Rattle.tree_edits.specs.Joined.{extents_of_table}
use Rattle.disk_ptr.specs.declared.DiskPtr.TheVariants.{Blank as blank}
use Rattle.tree_deletes.specs.declared.doomed.Doomed.{Doomed}
use Rattle.tree_deletes.specs.Doomed.{Stands}
use Rattle.tree_deletes.specs.Given.{GivesTogether, AllStand, parts_extents, GivesNode, GivesNodes, NodeMayNot, MayNotGive, gift_cost}
use Rattle.tree_deletes.proofs.Giving.{node_is, given_then, other_byte, all_stand_stay, named_then, may_then}

-- ---- why the parts of a node are not given

module _ (wide : Bool) (d : Doomed) (w0 w1 w2 : FreeSpace) where
  pub header_not : (held : Option (List ℕ)) → Ungivable held (extent ExtentKind.Node d.place (node_length wide) ∷ []) w0.heap → NodeMayNot wide d w0.heap held
  header_not None u = tt
  header_not (Some image) (inl u) = absurd u
  header_not (Some image) (inr none) = λ parts s may. none (subst (λ k. MayGiveAll (extent ExtentKind.Node k (node_length wide) ∷ []) w0.heap) (sym s.header) (may_first (extent ExtentKind.Node parts.header (node_length wide) ∷ []) (table_extents parts.table ++ data_extents parts) w0.heap (subst (λ es. MayGiveAll es w0.heap) (node_is wide parts) may)))

  pub table_not : (held mid : Option (List ℕ)) → Both (GivesTogether (extent ExtentKind.Node d.place (node_length wide) ∷ []) w0 w1) held mid → Ungivable mid (extents_of_table d.table) w1.heap → NodeMayNot wide d w0.heap held
  table_not None mid g u = tt
  table_not (Some image) None g u = absurd g
  table_not (Some image) (Some b) g (inl u) = absurd u
  table_not (Some image) (Some b) g (inr none) = λ parts s may.
      let own = may_second (extent ExtentKind.Node parts.header (node_length wide) ∷ []) (table_extents parts.table ++ data_extents parts) w0.heap (subst (λ es. MayGiveAll es w0.heap) (node_is wide parts) may) in
      let first : MayGiveAll (table_extents parts.table) w1.heap = subst (λ (h : Heap). MayGiveAll (table_extents parts.table) h) (ap (λ k. give_all (extent ExtentKind.Node k (node_length wide) ∷ []) w0.heap) (sym s.header) ∙ sym g.heap) (may_first (table_extents parts.table) (data_extents parts) _ own) in
      none (subst (λ es. MayGiveAll es w1.heap) (sym s.table) first)

  pub data_not : (held mid last : Option (List ℕ)) → Both (GivesTogether (extent ExtentKind.Node d.place (node_length wide) ∷ []) w0 w1) held mid → Both (GivesTogether (extents_of_table d.table) w1 w2) mid last
      → ((parts : NodeParts) → Named d.chunks parts last → MayGiveAll (data_extents parts) w2.heap → ⊥) → NodeMayNot wide d w0.heap held
  data_not None mid last g h u = tt
  data_not (Some image) None last g h u = absurd g
  data_not (Some image) (Some b) None g h u = absurd h
  data_not (Some image) (Some b) (Some c) g h u = λ parts s may. u parts (named_then wide d w0 w1 w2 w2 image b c c g h parts s may) (may_then wide d w0 w1 w2 w2 image b c c g h parts s may)

-- ---- many nodes

-- what is so after some of the nodes
pub record IsRound (wide : Bool) (ds : List Doomed) (i : ℕ) (parts : List NodeParts) (was now : FreeSpace) (old new : List ℕ) : Type 0 where
  pub given : GivesTogether (parts_extents wide (take i parts)) was now old new
  pub left : AllStand new (drop i parts) (drop i ds)
  pub may : MayGiveAll (parts_extents wide (drop i parts)) now.heap

abbrev pub Rounds : Bool → List Doomed → ℕ → FreeSpace → FreeSpace → List ℕ → List ℕ → Type 0
Rounds wide ds i was now old new =
    (parts : List NodeParts) → AllStand old parts ds → MayGiveAll (parts_extents wide parts) was.heap → IsRound wide ds i parts was now old new

pub no_round : (wide : Bool) (ds : List Doomed) (was : FreeSpace) (held : Option (List ℕ)) → IfSome held (IsThreaded was) → Both (Rounds wide ds 0 was was) held held
no_round wide ds was None threads = tt
no_round wide ds was (Some image) threads = λ parts s may. record {
  given = record { heap = refl; changes = still_changes (heap_fields ++ was.heap.gaps) image; end = λ h. h; fillers = λ h. h; threads = threads };
  left = s;
  may = may;
}

module _ (wide : Bool) where
  -- the parts that are next, and the rest
  pub record Next (b : List ℕ) (i : ℕ) (parts : List NodeParts) (ds : List Doomed) (d : Doomed) : Type 0 where
    pub own : NodeParts
    pub rest : drop i parts ≡ own ∷ drop (suc i) parts
    pub more : take (suc i) parts ≡ take i parts ++ own ∷ []
    pub stands : Stands b own d
    pub others : AllStand b (drop (suc i) parts) (drop (suc i) ds)

  pub next : (b : List ℕ) (i : ℕ) (parts : List NodeParts) (ds : List Doomed) (x d : Doomed) → i < length ds → d ≡ get_or ds i x → AllStand b (drop i parts) (drop i ds) → Next b i parts ds d
  next b i [] [] x d lt e s = absurd (omega (arith, lt))
  next b zero [] (y ∷ ds) x d lt e s = absurd s
  next b (suc i) [] (y ∷ ds) x d lt e s = absurd (none (drop i ds) (left ds i (omega (arith, lt))) s)
    where
      left : (ds : List Doomed) (i : ℕ) → i < length ds → 0 < length (drop i ds)
      left [] i lt = absurd (omega (arith, lt))
      left (y ∷ ds) zero lt = omega arith
      left (y ∷ ds) (suc i) lt = left ds i (omega (arith, lt))

      none : (zs : List Doomed) → 0 < length zs → AllStand b [] zs → ⊥
      none [] some s = omega (arith, some)
      none (z ∷ zs) some s = s
  next b i (p ∷ parts) [] x d lt e s = absurd (omega (arith, lt))
  next b zero (p ∷ parts) (y ∷ ds) x d lt e s = record { own = p; rest = refl; more = refl; stands = subst (Stands b p) (sym e) s.0; others = s.1 }
  next b (suc i) (p ∷ parts) (y ∷ ds) x d lt e s =
      let n = next b i parts ds x d (omega (arith, lt)) e s in
      record { own = n.own; rest = n.rest; more = ap (λ (ys : List NodeParts). p ∷ ys) n.more; stands = n.stands; others = n.others }

  extents_append : (xs : List NodeParts) (p : NodeParts) → parts_extents wide (xs ++ p ∷ []) ≡ parts_extents wide xs ++ node_extents wide p
  extents_append [] p = append-nil (node_extents wide p)
  extents_append (x ∷ xs) p = ap (λ es. node_extents wide x ++ es) (extents_append xs p) ∙ sym (append_assoc (node_extents wide x) (parts_extents wide xs) (node_extents wide p))

  module _ (ds : List Doomed) (i : ℕ) (x d : Doomed) (lt : i < length ds) (at : d ≡ get_or ds i x) (w0 wi wj : FreeSpace) where
    one_round : (a b c : List ℕ) → Rounds wide ds i w0 wi a b → GivesNode wide d wi wj b c → Rounds wide ds (suc i) w0 wj a c
    one_round a b c r g parts s may =
        let q = r parts s may in
        let n = next b i parts ds x d lt at q.left in
        let room : MayGiveAll (node_extents wide n.own ++ parts_extents wide (drop (suc i) parts)) wi.heap = subst (λ ps. MayGiveAll (parts_extents wide ps) wi.heap) n.rest q.may in
        let one = g n.own n.stands (may_first (node_extents wide n.own) (parts_extents wide (drop (suc i) parts)) wi.heap room) in
        record {
          given = subst (λ es. GivesTogether es w0 wj a c) (sym (ap (parts_extents wide) n.more ∙ extents_append (take i parts) n.own)) (given_then (parts_extents wide (take i parts)) (node_extents wide n.own) w0 wi wj a b c q.given one);
          left = all_stand_stay (parts_extents wide (drop (suc i) parts)) b c (let k = one.changes in k.longer) (other_byte (node_extents wide n.own) (parts_extents wide (drop (suc i) parts)) wi.heap room b c one.changes) wide (drop (suc i) parts) (drop (suc i) ds) (λ k. le_refl _) n.others;
          may = subst (MayGiveAll (parts_extents wide (drop (suc i) parts))) (sym one.heap) (may_second (node_extents wide n.own) (parts_extents wide (drop (suc i) parts)) wi.heap room);
        }

    pub next_round : (old mid new : Option (List ℕ)) → Both (Rounds wide ds i w0 wi) old mid → Both (GivesNode wide d wi wj) mid new → Both (Rounds wide ds (i + 1) w0 wj) old new
    next_round None None None r g = tt
    next_round None None (Some c) r g = g
    next_round None (Some b) new r g = absurd r
    next_round (Some a) None new r g = absurd r
    next_round (Some a) (Some b) None r g = g
    next_round (Some a) (Some b) (Some c) r g = subst (λ k. Rounds wide ds k w0 wj a c) (omega arith) (one_round a b c r g)

    pub round_not : (old mid : Option (List ℕ)) → Both (Rounds wide ds i w0 wi) old mid → NodeMayNot wide d wi.heap mid → MayNotGive wide ds w0.heap old
    round_not None mid r n = tt
    round_not (Some a) None r n = absurd r
    round_not (Some a) (Some b) r n = λ parts s may.
        let q = r parts s may in
        let x' = next b i parts ds x d lt at q.left in
        n x'.own x'.stands (may_first (node_extents wide x'.own) (parts_extents wide (drop (suc i) parts)) wi.heap (subst (λ ps. MayGiveAll (parts_extents wide ps) wi.heap) x'.rest q.may))

  as_long : (b : List ℕ) (parts : List NodeParts) (ds : List Doomed) → AllStand b parts ds → length parts ≡ length ds
  as_long b [] [] s = refl
  as_long b [] (d ∷ ds) s = absurd s
  as_long b (p ∷ ps) [] s = absurd s
  as_long b (p ∷ ps) (d ∷ ds) s = ap (λ k. suc k) (as_long b ps ds s.1)

  pub last_round : (ds : List Doomed) (i : ℕ) (was now : FreeSpace) (old new : Option (List ℕ)) → length ds ≤ i → Both (Rounds wide ds i was now) old new → Both (GivesNodes wide ds was now) old new
  last_round ds i was now None None le r = tt
  last_round ds i was now None (Some b) le r = r
  last_round ds i was now (Some a) None le r = r
  last_round ds i was now (Some a) (Some b) le r = λ parts s may.
      let q = r parts s may in
      subst (λ ps. GivesTogether (parts_extents wide ps) was now a b) (take_all i parts (let l = as_long a parts ds s in omega (arith, l, le))) q.given

-- ---- the blocks that may wait

pub cost_one : (ds : List Doomed) (i : ℕ) (x : Doomed) → i < length ds → gift_cost (take (i + 1) ds) ≡ gift_cost (take i ds) + 12 * (3 + (get_or ds i x).chunks.count)
cost_one ds i x lt = let one : i + 1 ≡ suc i = omega arith in ap (λ k. gift_cost (take k ds)) one ∙ by_place ds i lt
  where
    plain : (n : ℕ) → n + 0 ≡ 0 + n
    plain n = omega arith

    shifted : (a b c d : ℕ) → b ≡ c + d → a + b ≡ (a + c) + d
    shifted a b c d e = omega (arith, e)

    by_place : (ds : List Doomed) (i : ℕ) → i < length ds → gift_cost (take (suc i) ds) ≡ gift_cost (take i ds) + 12 * (3 + (get_or ds i x).chunks.count)
    by_place [] i lt = absurd (omega (arith, lt))
    by_place (d ∷ ds) zero lt = plain (12 * (3 + d.chunks.count))
    by_place (d ∷ ds) (suc i) lt = shifted (12 * (3 + d.chunks.count)) (gift_cost (take (suc i) ds)) (gift_cost (take i ds)) (12 * (3 + (get_or ds i x).chunks.count)) (by_place ds i (omega (arith, lt)))

pub cost_part : (ds : List Doomed) (i : ℕ) → gift_cost (take i ds) ≤ gift_cost ds
cost_part ds zero = omega arith
cost_part [] (suc i) = omega arith
cost_part (d ∷ ds) (suc i) = wider (12 * (3 + d.chunks.count)) (gift_cost (take i ds)) (gift_cost ds) (cost_part ds i)
  where
    wider : (a b c : ℕ) → b ≤ c → a + b ≤ a + c
    wider a b c le = omega (arith, le)

-- what stands for a node where there is none
abbrev pub no_node : Doomed
no_node = record { serial = 0; place = 0; table = record { place = 0; entries = 0; count = 0 }; chunks = record { count = 0; pointer = blank } }

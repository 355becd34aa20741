-- The walk over an image that lays out a tree meets the nodes of the tree in tree order, and none breaks a rule.
use Rattle.std.proofs.Common.{◌≡◌, ◌≢◌, ◌⊎◌, inl, inr, ℕ, zero, suc, refl, sym, ◌∙◌, ap, subst, arith, lit≤, List, [], ◌∷◌, ◌++◌, length, map, get_or, append_assoc, append-nil, length-append, ◌+◌, ◌-◌, ◌*◌, ◌^◌, ◌<◌, ◌≤◌, Bool, true, false, not}
use Rattle.std.proofs.lemmas.Bool.Decides.{nat_tests, leb_tells, eqb_tells}
use Rattle.std.proofs.lemmas.Option.{slice_get_within, slice_get-get_or}
use Rattle.std.proofs.lemmas.Slice.Eq.{bytes_eq-Decides}
use Rattle.std.specs.Prelude.{Option, Some, None, Ok, Err, Result, IsSome, nat_lt, nat_le, slice_get, ◌&&◌, ◌||◌, ◌==◌, ⊤, bytes_eq, if◌then◌else◌}
use Rattle.std.specs.List.{range_with_len, flat_map, list_any}
use Rattle.adf_format.specs.Pointer.{To, pointer, is_place, place_of}
use Rattle.adf_format.specs.Fields.{field, text_field, trimmed}
use Rattle.adf_format.specs.Names.{is_name}
use Rattle.adf_format.specs.declared.types.Extent.{Extent}
use Rattle.adf_format.specs.declared.types.ExtentKind.{ExtentKind}
use Rattle.adf_format.specs.Tiles.{cover, holds_byte, end_of, total_length}
use Rattle.adf_format.specs.Tree.{Tree, Node, AllDiffer, IsAmong, is_among, node_at, children_at, children_of, name_at, name_of, is_live, lineage, climb, families, parent_from, descend, tree_order}
use Rattle.adf_format.specs.Parts.{node_length, table_length}
use Rattle.adf_format.specs.Placement.{Placement, NodeParts, TablePart, extent, parts_of, extents_of, node_extents, live_extents, head_extents, all_extents, table_extents, chunk_table_extents, chunk_extents}
use Rattle.adf_format.specs.LaysOut.{LaysOut, HoldsNode, HasTable}
use Rattle.adf_format.specs.Checks.{Row, Fault, first_broken, Walk, finished, stopped, passed}
use Rattle.adf_format.specs.FirstFault.{Visit, NodeWalk, root_visit, child_visits, visit_rows, visit_extents, found_extents, entry_rows, entry_name, entry_pointer, children_in, entries_in, table_in, chunk_count, is_name_field, end_in, count_up, table_extents_at, chunk_table_extents_at, chunk_in, node_rows_at}
use Rattle.adf_format.proofs.ClosureLaws.{IsIn}
use Rattle.adf_format.proofs.CountLaws.{tiles_add_up}
use Rattle.adf_format.proofs.FieldLaws.{inner_field}
use Rattle.adf_format.proofs.FrameLaws.{field_of_first}
use Rattle.adf_format.proofs.HeapSteps.{cover-append}
use Rattle.adf_format.proofs.LayoutLaws.{one_of, live_parts, nodes_apart}
use Rattle.adf_format.proofs.SameLayout.{end_recorded, wide_recorded}
use Rattle.adf_format.proofs.WalkLaws.{node_walk_ends, total_length-append}
use Rattle.adf_model.proofs.Trees.AncestorLemmas.{lineage_root}
use Rattle.adf_model.proofs.Basics.{not_true, same_Some, not_there, or_right, among_head, false_of}
use Rattle.adf_model.proofs.Trees.DifferLemmas.{none_equal, bytes_eq_same}
use Rattle.adf_model.proofs.Trees.SubtreeLemmas.{lineage_child}
use Rattle.adf_model.proofs.Trees.TreeOrder.{times, listed_times}
use Rattle.adf_model.proofs.Walks.WalkNodes.{Kept}
use Rattle.layout_laws.specs.FoundLayout.{parts_at}
use Rattle.layout_laws.proofs.Rows.{kept_none, kept-append, kept_counted, both, points_place, points_to, room_of}
use Rattle.layout_laws.proofs.HeldParts.{children_held, count_held, table_place, parts_held}
use Rattle.layout_laws.proofs.NodeRead.{name_again, not_so}
use Rattle.layout_laws.proofs.NodeRules.{header_fits, header_kept, name_kept, count_kept, table_kept, chunk_table_kept, chunks_kept, datas_kept}
use Rattle.layout_laws.proofs.OrderSums.{total, sum_of, order_sum}
use Rattle.layout_laws.proofs.VisitExtents.{visit_parts, table_here, chunk_table_here, head_holds, member_cover, first_byte, last_byte_held}

-- ---- lists

pub something : {A : Type 0} (o : Option A) → IsSome o → (a : A) × (o ≡ Some a)
something None h = absurd (not_true h)
something (Some a) h = (a, refl)

pub any_none : (test : ℕ → Bool) (a m : ℕ) → ((j : ℕ) → j < m → test (a + j) ≡ false) → list_any test (range_with_len a m) ≡ false
any_none test a zero h = refl
any_none test a (suc m) h = ap (λ b. b || list_any test (range_with_len (a + 1) m)) (ap test (plain a) ∙ h 0 (omega arith)) ∙ any_none test (a + 1) m (λ j lt. ap test (shift a j) ∙ h (suc j) (omega (arith, lt)))
  where
    plain : (a : ℕ) → a ≡ a + 0
    plain a = omega arith

    shift : (a j : ℕ) → a + 1 + j ≡ a + suc j
    shift a j = omega arith

pub among_at : (xs : List ℕ) (i c : ℕ) → slice_get xs i ≡ Some c → IsAmong xs c
among_at [] i c e = absurd (not_there c e)
among_at (x ∷ xs) zero c e = subst (λ y. IsAmong (x ∷ xs) y) (same_Some x c e) (among_head x xs)
among_at (x ∷ xs) (suc i) c e = or_right (x == c) (is_among xs c) (among_at xs i c e)

pub differ_at : (f : ℕ → List ℕ) (xs : List ℕ) (j i c d : ℕ) → AllDiffer (map f xs) → slice_get xs j ≡ Some c → slice_get xs i ≡ Some d → j < i → f c ≡ f d → ⊥
differ_at f [] j i c d h e g lt same = not_there c e
differ_at f (x ∷ xs) zero zero c d h e g lt same = omega (arith, lt)
differ_at f (x ∷ xs) (suc j) zero c d h e g lt same = omega (arith, lt)
differ_at f (x ∷ xs) zero (suc i) c d h e g lt same =
    not_true (sym (none_equal (f x) f xs (not_so (list_any (bytes_eq (f x)) (map f xs)) h.0) d (among_at xs i d g)) ∙ ap (λ y. bytes_eq y (f d)) (ap f (same_Some x c e) ∙ same) ∙ bytes_eq_same (f d))
differ_at f (x ∷ xs) (suc j) (suc i) c d h e g lt same = differ_at f xs j i c d h.1 e g (omega (arith, lt)) same

once_more : (s : ℕ) (xs rest : List ℕ) → 1 ≤ times s (xs ++ s ∷ rest)
once_more s [] rest = elim (eqb_tells s s) [ inl e ↦ rw (e.0) (omega arith) | inr e ↦ absurd (e.1 refl) ]
once_more s (x ∷ xs) rest = let r = once_more s xs rest in omega (arith, r)

twice : (s : ℕ) (xs rest : List ℕ) → IsAmong xs s → 2 ≤ times s (xs ++ s ∷ rest)
twice s [] rest h = absurd (not_true h)
twice s (x ∷ xs) rest h = by_test (x == s) refl h (twice s xs rest) (once_more s xs rest)
  where
    by_test : (t : Bool) → (x == s) ≡ t → (t || is_among xs s) ≡ true → (IsAmong xs s → 2 ≤ times s (xs ++ s ∷ rest)) → 1 ≤ times s (xs ++ s ∷ rest) → 2 ≤ times s (x ∷ xs ++ s ∷ rest)
    by_test true e h ih one = rw e (omega (arith, one))
    by_test false e h ih one = let r = ih h in rw e (omega (arith, r))

total-append : (f : ℕ → ℕ) (xs ys : List ℕ) → total f (xs ++ ys) ≡ total f xs + total f ys
total-append f [] ys = omega arith
total-append f (x ∷ xs) ys = ap (λ n. f x + n) (total-append f xs ys) ∙ assoc (f x) (total f xs) (total f ys)
  where
    assoc : (a b c : ℕ) → a + (b + c) ≡ a + b + c
    assoc a b c = omega arith

flat_same : {A : Type 0} (f g : ℕ → List A) (xs : List ℕ) → ((x : ℕ) → IsAmong xs x → f x ≡ g x) → flat_map f xs ≡ flat_map g xs
flat_same f g [] h = refl
flat_same f g (x ∷ xs) h = ap (λ ys. ys ++ flat_map f xs) (h x (among_head x xs)) ∙ ap (λ ys. g x ++ ys) (flat_same f g xs (λ y k. h y (or_right (x == y) (is_among xs y) k)))

flat-append : (f : ℕ → List ℕ) (xs ys : List ℕ) → flat_map f (xs ++ ys) ≡ flat_map f xs ++ flat_map f ys
flat-append f [] ys = refl
flat-append f (x ∷ xs) ys = ap (λ zs. f x ++ zs) (flat-append f xs ys) ∙ sym (append_assoc (f x) (flat_map f xs) (flat_map f ys))

join_rows : (a table entries chunk_table chunks datas : List Row) (count : Row) → Kept a → count.kept ≡ true → Kept table → Kept entries → Kept chunk_table → Kept chunks → Kept datas
    → Kept (a ++ (count ∷ table) ++ entries ++ chunk_table ++ chunks ++ datas)
join_rows a table entries chunk_table chunks datas count ka kc kt ke kct kch kd =
    kept-append (a ++ (count ∷ table) ++ entries ++ chunk_table ++ chunks) datas
    (kept-append (a ++ (count ∷ table) ++ entries ++ chunk_table) chunks
    (kept-append (a ++ (count ∷ table) ++ entries) chunk_table (kept-append (a ++ (count ∷ table)) entries (kept-append a (count ∷ table) ka (kc, kt)) ke) kct) kch) kd

short_climb : (m : ℕ) (fs : List (List ℕ)) (o : Option ℕ) → length (climb m fs o) ≤ m
short_climb m fs None = omega arith
short_climb zero fs (Some q) = omega arith
short_climb (suc m) fs (Some q) = let r = short_climb m fs (parent_from 0 fs q) in omega (arith, r)

module _ (image : List ℕ) (tree : Tree) (p : Placement) (l : LaysOut image tree p) where
  abbrev wide : Bool
  wide = tree.wide

  abbrev end : ℕ
  end = p.heap.end

  -- ---- extents

  pub cover_all : (b : ℕ) → cover (all_extents wide p) b ≡ cover head_extents b + cover (live_extents wide p) b + cover p.heap.gaps b
  cover_all b = cover-append (head_extents ++ live_extents wide p) p.heap.gaps b ∙ ap (λ n. n + cover p.heap.gaps b) (cover-append head_extents (live_extents wide p) b)

  pub at_most_once : (b : ℕ) → cover (all_extents wide p) b ≤ 1
  at_most_once b = elim (leb_tells b end) [
    | inl h ↦ (let one : cover (all_extents wide p) b ≡ 1 = l.tiles.once b h.1 in omega (arith, one))
    | inr h ↦ (let none : cover (all_extents wide p) b ≡ 0 = l.tiles.inside b h.1 in omega (arith, none))
  ]

  in_live : (s : ℕ) (parts : NodeParts) (e : Extent) (b : ℕ) → parts_of p s ≡ Some parts → IsIn e (node_extents wide parts) → holds_byte e b ≡ true → 1 ≤ cover (live_extents wide p) b
  in_live s parts e b has h k = let one = member_cover e (node_extents wide parts) b h k in let all = one_of wide p.parts s b parts has in omega (arith, one, all)

  pub live_fits : (s : ℕ) (parts : NodeParts) → parts_of p s ≡ Some parts → (e : Extent) → IsIn e (node_extents wide parts) → 0 < e.length → (266 ≤ e.place) × (end_of e ≤ end + 1)
  live_fits s parts has e h some = (low (leb_tells 266 e.place), high (leb_tells (end_of e) (end + 1)))
    where
      low : ((nat_le 266 e.place ≡ true) × (266 ≤ e.place)) ⊎ ((nat_le 266 e.place ≡ false) × (e.place < 266)) → 266 ≤ e.place
      low (inl k) = k.1
      low (inr k) =
          let lt = k.1 in
          let a = head_holds e.place lt in
          let b = in_live s parts e e.place has h (first_byte e some) in
          let c = cover_all e.place in
          let d = at_most_once e.place in
          absurd (omega (arith, a, b, c, d))

      at_end : (b : ℕ) → b + 1 ≡ end_of e → end < b → ⊥
      at_end b same lt =
          let one = in_live s parts e b has h (last_byte_held e some b same) in
          let none : cover (all_extents wide p) b ≡ 0 = l.tiles.inside b lt in
          let c = cover_all b in
          omega (arith, one, none, c)

      high : ((nat_le (end_of e) (end + 1) ≡ true) × (end_of e ≤ end + 1)) ⊎ ((nat_le (end_of e) (end + 1) ≡ false) × (end + 1 < end_of e)) → end_of e ≤ end + 1
      high (inl k) = k.1
      high (inr k) = let lt = k.1 in absurd (at_end (end_of e - 1) (omega (arith, lt)) (omega (arith, lt)))

  -- ---- visits of nodes

  -- a visit meets the node of a serial
  pub record Stands (v : Visit) (s : ℕ) : Type 0 where
    pub node : Node
    pub parts : NodeParts
    pub at : node_at tree s ≡ Some node
    pub has : parts_of p s ≡ Some parts
    pub place : v.place ≡ parts.header
    pub named : (v.entry ≡ None) ⊎ (v.entry ≡ Some (text_field 32 node.name))
    pub deep : length v.path + 1 ≡ length (lineage tree s)

  abbrev pub AreStanding : List Visit → List ℕ → Type 0
  AreStanding [] [] = ⊤
  AreStanding (v ∷ vs) (s ∷ ss) = Stands v s × AreStanding vs ss
  AreStanding [] (s ∷ ss) = ⊥
  AreStanding (v ∷ vs) [] = ⊥

  standing-append : (vs : List Visit) (ss : List ℕ) (ws : List Visit) (ts : List ℕ) → AreStanding vs ss → AreStanding ws ts → AreStanding (vs ++ ws) (ss ++ ts)
  standing-append [] [] ws ts h k = k
  standing-append [] (s ∷ ss) ws ts h k = absurd h
  standing-append (v ∷ vs) [] ws ts h k = absurd h
  standing-append (v ∷ vs) (s ∷ ss) ws ts h k = (h.0, standing-append vs ss ws ts h.1 k)

  held : (v : Visit) (s : ℕ) (t : Stands v s) → HoldsNode image tree p t.node t.parts
  held v s t = l.nodes s t.node t.parts t.at t.has

  pub same_parts : (v : Visit) (s : ℕ) (t : Stands v s) → parts_at image wide v.place ≡ t.parts
  same_parts v s t = ap (parts_at image wide) t.place ∙ sym (parts_held image tree p t.node t.parts (held v s t))

  same_extents : (v : Visit) (s : ℕ) → Stands v s → visit_extents image wide v ≡ extents_of wide (parts_of p s)
  same_extents v s t = visit_parts image wide v ∙ ap (node_extents wide) (same_parts v s t) ∙ ap (extents_of wide) (sym t.has)

  -- a measure of extents
  pub found_sum : (m : List Extent → ℕ) → m [] ≡ 0 → ((xs ys : List Extent) → m (xs ++ ys) ≡ m xs + m ys) → (seen : List Visit) (ss : List ℕ) → AreStanding seen ss → m (found_extents image wide seen) ≡ total (λ s. m (extents_of wide (parts_of p s))) ss
  found_sum m none add [] [] h = none
  found_sum m none add [] (s ∷ ss) h = absurd h
  found_sum m none add (v ∷ vs) [] h = absurd h
  found_sum m none add (v ∷ vs) (s ∷ ss) h =
      add (visit_extents image wide v) (found_extents image wide vs) ∙ ap (λ xs. m xs + m (found_extents image wide vs)) (same_extents v s h.0)
      ∙ ap (λ n. m (extents_of wide (parts_of p s)) + n) (found_sum m none add vs ss h.1)

  live_sum : (m : List Extent → ℕ) → m [] ≡ 0 → ((xs ys : List Extent) → m (xs ++ ys) ≡ m xs + m ys) → (parts : List (Option NodeParts)) → m (flat_map (extents_of wide) parts) ≡ sum_of (λ o. m (extents_of wide o)) parts
  live_sum m none add [] = none
  live_sum m none add (x ∷ xs) = add (extents_of wide x) (flat_map (extents_of wide) xs) ∙ ap (λ n. m (extents_of wide x) + n) (live_sum m none add xs)

  pub order_live : (m : List Extent → ℕ) → m [] ≡ 0 → ((xs ys : List Extent) → m (xs ++ ys) ≡ m xs + m ys) → total (λ s. m (extents_of wide (parts_of p s))) (tree_order tree) ≡ m (live_extents wide p)
  order_live m none add = order_sum tree l.is_tree p.parts (live_parts image tree p l) (λ o. m (extents_of wide o)) none ∙ sym (live_sum m none add p.parts)

  pub all_long : 266 + total_length (live_extents wide p) + total_length p.heap.gaps ≡ end + 1
  all_long =
      let whole = tiles_add_up (all_extents wide p) end l.tiles in
      let a = total_length-append (head_extents ++ live_extents wide p) p.heap.gaps in
      let b = total_length-append head_extents (live_extents wide p) in
      omega (arith, whole, a, b)

  -- there is room for a node behind those before it
  roomy : (seen : List Visit) (ss : List ℕ) (s : ℕ) (rest : List ℕ) → AreStanding seen ss → ss ++ s ∷ rest ≡ tree_order tree → 266 + total_length (found_extents image wide seen) + total_length (extents_of wide (parts_of p s)) ≤ end + 1
  roomy seen ss s rest h e =
      let before = found_sum total_length refl total_length-append seen ss h in
      let all = ap (total (λ s. total_length (extents_of wide (parts_of p s)))) e ∙ order_live total_length refl total_length-append in
      let split = total-append (λ s. total_length (extents_of wide (parts_of p s))) ss (s ∷ rest) in
      let long = all_long in
      plain _ _ _ _ _ _ _ _ before all split long
    where
      plain : (found before here rest all live gaps end : ℕ) → found ≡ before → all ≡ live → all ≡ before + (here + rest) → 266 + live + gaps ≡ end + 1 → 266 + found + here ≤ end + 1
      plain found before here rest all live gaps end a b c d = omega (arith, a, b, c, d)

  -- ---- no node is met twice

  pub places_differ : (i j : ℕ) (a b : NodeParts) → i ≢ j → parts_of p i ≡ Some a → parts_of p j ≡ Some b → a.header ≡ b.header → ⊥
  places_differ i j a b differ e f same =
      let once = nodes_apart image tree p l i j a.header a b differ e f in
      let one = member_cover (extent ExtentKind.Node a.header (node_length wide)) (node_extents wide a) a.header (inl refl) (first_byte (extent ExtentKind.Node a.header (node_length wide)) (some wide)) in
      let two : 1 ≤ cover (node_extents wide b) a.header = subst (λ n. 1 ≤ cover (node_extents wide b) n) (sym same) (member_cover (extent ExtentKind.Node b.header (node_length wide)) (node_extents wide b) b.header (inl refl) (first_byte (extent ExtentKind.Node b.header (node_length wide)) (some wide))) in
      omega (arith, once, one, two)
    where
      some : (w : Bool) → 0 < node_length w
      some false = omega arith
      some true = omega arith

  not_seen : (seen : List Visit) (ss : List ℕ) (v : Visit) (s : ℕ) → AreStanding seen ss → Stands v s → (IsAmong ss s → ⊥) → list_any (λ (w : Visit). w.place == v.place) seen ≡ false
  not_seen [] [] v s h t out = refl
  not_seen [] (r ∷ ss) v s h t out = absurd h
  not_seen (w ∷ seen) [] v s h t out = absurd h
  not_seen (w ∷ seen) (r ∷ ss) v s h t out =
      ap (λ b. b || list_any (λ (w : Visit). w.place == v.place) seen) (false_of (w.place == v.place) clash)
      ∙ not_seen seen ss v s h.1 t (λ k. out (or_right (r == s) (is_among ss s) k))
    where
      differ : r ≢ s
      differ e = out (subst (λ x. IsAmong (r ∷ ss) x) e (among_head r ss))

      clash : (w.place == v.place) ≡ true → ⊥
      clash e = places_differ r s h.0.parts t.parts differ h.0.has t.has (sym h.0.place ∙ same (w.place) (v.place) e ∙ t.place)
        where
          same : (m n : ℕ) → (m == n) ≡ true → m ≡ n
          same m n e = grind (arith, nat_tests)

  listed_here : (ss : List ℕ) (s : ℕ) (rest : List ℕ) → ss ++ s ∷ rest ≡ tree_order tree → IsAmong ss s → ⊥
  listed_here ss s rest e h =
      let two = twice s ss rest h in
      let one = ap (times s) e ∙ listed_times tree l.is_tree s in
      once (is_live tree s) (times s (ss ++ s ∷ rest)) one two
    where
      once : (t : Bool) (n : ℕ) → n ≡ (if t then 1 else 0) → 2 ≤ n → ⊥
      once true n e h = omega (arith, e, h)
      once false n e h = omega (arith, e, h)

  -- ---- entries

  pub record EntryRead (node : Node) (parts : NodeParts) (i : ℕ) : Type 0 where
    pub child : ℕ
    pub inner : Node
    pub below : NodeParts
    pub listed : slice_get node.children i ≡ Some child
    pub at : node_at tree child ≡ Some inner
    pub has : parts_of p child ≡ Some below
    pub name : entry_name image (table_in image parts.header) i ≡ text_field 32 inner.name
    pub points : pointer (entry_pointer image (table_in image parts.header) i) ≡ Some (To below.header)

  module _ (s : ℕ) (node : Node) (parts : NodeParts) (at : node_at tree s ≡ Some node) (has : parts_of p s ≡ Some parts) where
    here : HoldsNode image tree p node parts
    here = l.nodes s node parts at has

    children_here : children_at tree s ≡ node.children
    children_here = ap children_of at

    in_table : (t : TablePart) (i k n : ℕ) → i < t.entries → k + n ≤ 60 → 16 ≤ k → field (field image t.place (table_length t.entries)) (k + 44 * i) n ≡ field image (t.place + k + 44 * i) n
    in_table t i k n lt le low = inner_field image t.place (table_length t.entries) (k + 44 * i) n (omega (arith, lt, le)) ∙ ap (λ o. field image o n) (there t.place k i)
      where
        there : (t k i : ℕ) → t + (k + 44 * i) ≡ t + k + 44 * i
        there t k i = omega arith

    by_table : (o : Option TablePart) → parts.table ≡ o → (i : ℕ) → i < length node.children → EntryRead node parts i
    by_table None e i lt = absurd (let none : node.children ≡ [] = subst (λ o. HasTable image tree p node o) e here.table in let n : length node.children ≡ 0 = ap length none in omega (arith, n, lt))
    by_table (Some t) e i lt =
        let table = subst (λ o. HasTable image tree p node o) e here.table in
        let child = get_or node.children i 0 in
        let listed : slice_get node.children i ≡ Some (get_or node.children i 0) = slice_get-get_or node.children i 0 lt in
        let among : IsAmong (children_at tree s) (get_or node.children i 0) = subst (λ xs. IsAmong xs (get_or node.children i 0)) (sym children_here) (among_at node.children i (get_or node.children i 0) listed) in
        let live = (l.is_tree.live s (get_or node.children i 0) among).0 in
        let inner = something (node_at tree (get_or node.children i 0)) live in
        let below = something (parts_of p (get_or node.children i 0)) (live_parts image tree p l (get_or node.children i 0) ∙ live) in
        let spells = table.3 i (get_or node.children i 0) inner.0 below.0 listed inner.1 below.1 in
        let place : table_in image parts.header ≡ t.place = table_place image tree p node parts here t e in
        let few = table.1 in
        record {
          child = get_or node.children i 0;
          inner = inner.0;
          below = below.0;
          listed = listed;
          at = inner.1;
          has = below.1;
          name = ap (λ n. entry_name image n i) place ∙ sym (in_table t i 16 32 (omega (arith, few, lt)) (omega arith) (omega arith)) ∙ spells.named;
          points = ap pointer (ap (λ n. entry_pointer image n i) place ∙ sym (in_table t i 48 12 (omega (arith, few, lt)) (omega arith) (omega arith))) ∙ spells.points;
        }

    pub entry_read : (i : ℕ) → i < length node.children → EntryRead node parts i
    entry_read i lt = by_table parts.table refl i lt

    name_in : (c : ℕ) (inner : Node) → node_at tree c ≡ Some inner → name_at tree c ≡ inner.name
    name_in c inner e = ap name_of e

    entries_kept : Kept (entry_rows image (table_in image parts.header) (children_in image parts.header))
    unfolding entry_rows
    entries_kept = kept_counted _ 0 (children_in image parts.header) one
      where
        t : ℕ
        t = table_in image parts.header

        below : (i : ℕ) → i < children_in image parts.header → i < length node.children
        below i lt = let n = children_held image tree p node parts here in omega (arith, n, lt)

        apart : (i j : ℕ) → i < children_in image parts.header → j < i → entry_name image (table_in image parts.header) j ≡ entry_name image (table_in image parts.header) i → ⊥
        apart i j lt less same =
            let a = entry_read j (omega (arith, less, below i lt)) in
            let b = entry_read i (below i lt) in
            let texts : text_field 32 a.inner.name ≡ text_field 32 b.inner.name = sym a.name ∙ same ∙ b.name in
            let names : a.inner.name ≡ b.inner.name = sym (name_again a.inner.name (l.is_tree.each a.child a.inner a.at).named) ∙ ap trimmed texts ∙ name_again b.inner.name (l.is_tree.each b.child b.inner b.at).named in
            differ_at (name_at tree) node.children j i a.child b.child (subst (λ xs. AllDiffer (map (name_at tree) xs)) children_here (l.is_tree.siblings s)) a.listed b.listed less (name_in a.child a.inner a.at ∙ names ∙ sym (name_in b.child b.inner b.at))

        one : (i : ℕ) → i < children_in image parts.header
            → (is_name_field (entry_name image (table_in image parts.header) (0 + i)) && not (list_any (λ j. bytes_eq (entry_name image (table_in image parts.header) j) (entry_name image (table_in image parts.header) (0 + i))) (count_up (0 + i))) && is_place (entry_pointer image (table_in image parts.header) (0 + i))) ≡ true
        one i lt = subst (λ k. (is_name_field (entry_name image (table_in image parts.header) k) && not (list_any (λ j. bytes_eq (entry_name image (table_in image parts.header) j) (entry_name image (table_in image parts.header) k)) (count_up k)) && is_place (entry_pointer image (table_in image parts.header) k)) ≡ true) (front i)
            (let r = entry_read i (below i lt) in
            let named = (l.is_tree.each r.child r.inner r.at).named in
            both (is_name_field (entry_name image (table_in image parts.header) i) && not (list_any (λ j. bytes_eq (entry_name image (table_in image parts.header) j) (entry_name image (table_in image parts.header) i)) (count_up i))) (is_place (entry_pointer image (table_in image parts.header) i))
            (both (is_name_field (entry_name image (table_in image parts.header) i)) (not (list_any (λ j. bytes_eq (entry_name image (table_in image parts.header) j) (entry_name image (table_in image parts.header) i)) (count_up i)))
            (ap is_name_field r.name ∙ ap is_name (name_again r.inner.name named) ∙ named)
            (ap not (any_none (λ j. bytes_eq (entry_name image (table_in image parts.header) j) (entry_name image (table_in image parts.header) i)) 0 i (λ j less. subst (λ k. bytes_eq (entry_name image (table_in image parts.header) k) (entry_name image (table_in image parts.header) i) ≡ false) (front j)
            (false_of (bytes_eq (entry_name image (table_in image parts.header) j) (entry_name image (table_in image parts.header) i)) (λ e. apart i j lt less ((bytes_eq-Decides (entry_name image (table_in image parts.header) j) (entry_name image (table_in image parts.header) i)).0 e)))))))
            (points_place (entry_pointer image (table_in image parts.header) i) r.below.header r.points))
          where
            front : (k : ℕ) → k ≡ 0 + k
            front k = omega arith

  -- ---- the rules of one node

  short_lineage : (s : ℕ) → length (lineage tree s) ≤ 256
  unfolding lineage
  short_lineage s = short_climb 256 (families tree) (Some s)

  not_deep : (s : ℕ) (node : Node) (path : List ℕ) → node_at tree s ≡ Some node → length path + 1 ≡ length (lineage tree s) → 0 < length node.children → length path < 255
  not_deep s node path at deep some =
      let c = get_or node.children 0 0 in
      let listed : slice_get node.children 0 ≡ Some (get_or node.children 0 0) = slice_get-get_or node.children 0 0 some in
      let among : IsAmong (children_at tree s) (get_or node.children 0 0) = subst (λ xs. IsAmong xs (get_or node.children 0 0)) (sym (ap children_of at)) (among_at node.children 0 (get_or node.children 0 0) listed) in
      let longer : length (lineage tree (get_or node.children 0 0)) ≡ suc (length (lineage tree s)) = ap length (lineage_child tree l.is_tree s (get_or node.children 0 0) among) in
      let short = short_lineage (get_or node.children 0 0) in
      omega (arith, longer, short, deep)

  rows_kept : (seen : List Visit) (ss : List ℕ) (s : ℕ) (rest : List ℕ) (node : Node) (parts : NodeParts) (entry : Option (List ℕ)) (path : List ℕ) → AreStanding seen ss → ss ++ s ∷ rest ≡ tree_order tree → (at : node_at tree s ≡ Some node) → (has : parts_of p s ≡ Some parts)
      → (entry ≡ None) ⊎ (entry ≡ Some (text_field 32 node.name)) → length path + 1 ≡ length (lineage tree s) → list_any (λ (w : Visit). w.place == parts.header) seen ≡ false
      → Kept (visit_rows image wide end seen (record { place = parts.header; entry = entry; path = path }))
  unfolding node_rows_at
  rows_kept seen ss s rest node parts entry path h e at has named deep fresh =
      let hold = here s node parts at has in
      let is = l.is_tree.each s node at in
      let fit = live_fits s parts has in
      let tables : table_extents_at image parts.header ≡ table_extents parts.table = table_found in
      let chunk_tables : chunk_table_extents_at image wide parts.header ≡ chunk_table_extents parts.chunk_table (length parts.chunks) = chunk_table_found in
      let t1 = ap total_length tables in
      let t2 = ap total_length chunk_tables in
      let room = roomy seen ss s rest h e in
      let parts_long : total_length (extents_of wide (parts_of p s)) ≡ node_length wide + (total_length (table_extents parts.table) + total_length (chunk_table_extents parts.chunk_table (length parts.chunks)) + total_length (chunk_extents parts.chunks)) = ap (λ o. total_length (extents_of wide o)) has
      ∙ ap (λ n. node_length wide + n) (total_length-append (table_extents parts.table ++ chunk_table_extents parts.chunk_table (length parts.chunks)) (chunk_extents parts.chunks) ∙ ap (λ n. n + total_length (chunk_extents parts.chunks)) (total_length-append (table_extents parts.table) (chunk_table_extents parts.chunk_table (length parts.chunks)))) in
      let chunks = chunks_kept image tree p node parts hold is end fit (266 + total_length (found_extents image wide seen) + node_length wide + total_length (table_extents_at image parts.header) + total_length (chunk_table_extents_at image wide parts.header)) (omega (arith, room, parts_long, t1, t2)) in (
        header_fits image tree p node parts hold is end fit,
        (
          ap not fresh,
          (
            room_of end (266 + total_length (found_extents image wide seen)) (node_length wide) (omega (arith, room, parts_long)),
            join_rows _ _ _ _ _ _ _
                (header_kept image tree p node parts hold is end fit _ (name_kept image tree p node parts hold is end fit entry named))
                (count_kept image tree p node parts hold is end fit entry path (subst (λ xs. length xs ≤ 2 ^ 20) (ap children_of at) (l.is_tree.width s)) (not_deep s node path at deep))
                (table_kept image tree p node parts hold is end fit (266 + total_length (found_extents image wide seen) + node_length wide) parts.table refl (omega (arith, room, parts_long)))
                (entries_kept s node parts at has)
                (chunk_table_kept image tree p node parts hold is end fit (266 + total_length (found_extents image wide seen) + node_length wide + total_length (table_extents_at image parts.header)) parts.chunk_table refl (omega (arith, room, parts_long, t1)))
                chunks
                (datas_kept image tree p node parts hold is end fit l.end _ chunks),
          ),
        ),
      )
    where
      same : parts ≡ parts_at image wide parts.header
      same = parts_held image tree p node parts (here s node parts at has)

      table_found : table_extents_at image parts.header ≡ table_extents parts.table
      table_found = sym (ap (λ (q : NodeParts). table_extents q.table) same ∙ table_here (table_in image parts.header) (entries_in image parts.header) (entries_in image parts.header == 0))

      chunk_table_found : chunk_table_extents_at image wide parts.header ≡ chunk_table_extents parts.chunk_table (length parts.chunks)
      chunk_table_found = sym (ap (λ (q : NodeParts). chunk_table_extents q.chunk_table (length parts.chunks)) same
          ∙ chunk_table_here (chunk_in image wide parts.header) (chunk_count image wide parts.header) (length parts.chunks) (nat_lt (chunk_count image wide parts.header) 2) (sym (count_held image tree p node parts (here s node parts at has))))

  unbroken : (seen : List Visit) (ss : List ℕ) (v : Visit) (s : ℕ) (rest : List ℕ) → AreStanding seen ss → Stands v s → ss ++ s ∷ rest ≡ tree_order tree → first_broken (visit_rows image wide end seen v) ≡ None
  unbroken seen ss v s rest h t e =
      let fresh = not_seen seen ss v s h t (listed_here ss s rest e) in
      subst (λ n. first_broken (visit_rows image wide end seen (record { place = n; entry = v.entry; path = v.path })) ≡ None) (sym t.place)
      (kept_none (visit_rows image wide end seen (record { place = t.parts.header; entry = v.entry; path = v.path }))
      (rows_kept seen ss s rest t.node t.parts v.entry v.path h e t.at t.has t.named t.deep (subst (λ n. list_any (λ (w : Visit). w.place == n) seen ≡ false) t.place fresh)))

  -- ---- what a node leads to

  standing_counted : (f : ℕ → Visit) (a : ℕ) (cs : List ℕ) → ((i c : ℕ) → slice_get cs i ≡ Some c → Stands (f (a + i)) c) → AreStanding (map f (range_with_len a (length cs))) cs
  standing_counted f a [] h = tt
  standing_counted f a (c ∷ cs) h = (subst (λ k. Stands (f k) c) (plain a) (h 0 c refl), standing_counted f (a + 1) cs (λ i d e. subst (λ k. Stands (f k) d) (shift a i) (h (suc i) d e)))
    where
      plain : (a : ℕ) → a + 0 ≡ a
      plain a = omega arith

      shift : (a i : ℕ) → a + suc i ≡ a + 1 + i
      shift a i = omega arith

  kids_stand : (v : Visit) (s : ℕ) → Stands v s → AreStanding (child_visits image v) (children_at tree s)
  kids_stand v s t =
      subst (λ n. AreStanding (child_visits image (record { place = n; entry = v.entry; path = v.path })) (children_at tree s)) (sym t.place)
      (subst (λ cs. AreStanding (child_visits image (record { place = t.parts.header; entry = v.entry; path = v.path })) cs) (sym (ap children_of t.at))
      (subst (λ n. AreStanding (map kid (count_up n)) t.node.children) (sym (children_held image tree p t.node t.parts (held v s t))) (standing_counted kid 0 t.node.children one)))
    where
      kid : ℕ → Visit
      kid i = record { place = place_of (entry_pointer image (table_in image t.parts.header) i); entry = Some (entry_name image (table_in image t.parts.header) i); path = v.path ++ i ∷ [] }

      front : (i : ℕ) → i ≡ 0 + i
      front i = omega arith

      one : (i c : ℕ) → slice_get t.node.children i ≡ Some c → Stands (kid (0 + i)) c
      one i c e =
          let r = entry_read s t.node t.parts t.at t.has i (slice_get_within t.node.children i c e) in
          let same : r.child ≡ c = same_Some r.child c (sym r.listed ∙ e) in
          let among : IsAmong (children_at tree s) c = subst (λ xs. IsAmong xs c) (sym (ap children_of t.at)) (among_at t.node.children i c e) in
          let longer : length (lineage tree c) ≡ suc (length (lineage tree s)) = ap length (lineage_child tree l.is_tree s c among) in
          let deep = t.deep in
          let path = length-append v.path (i ∷ []) in
          subst (λ k. Stands (kid k) c) (front i) (record {
            node = r.inner;
            parts = r.below;
            at = ap (node_at tree) (sym same) ∙ r.at;
            has = ap (parts_of p) (sym same) ∙ r.has;
            place = points_to (entry_pointer image (table_in image t.parts.header) i) r.below.header r.points;
            named = inr (ap Some r.name);
            deep = omega (arith, longer, deep, path);
          })

  -- the node and all below it
  abbrev below_it : ℕ → List ℕ
  below_it s = descend (257 - length (lineage tree s)) tree s

  unrolled : (s : ℕ) → below_it s ≡ s ∷ flat_map below_it (children_at tree s)
  unrolled s =
      let short = short_lineage s in
      let more : 257 - length (lineage tree s) ≡ suc (256 - length (lineage tree s)) = omega (arith, short) in
      ap (λ n. descend n tree s) more
      ∙ ap (λ xs. s ∷ xs) (flat_same (λ c. descend (256 - length (lineage tree s)) tree c) below_it (children_at tree s)
      (λ c h. ap (λ n. descend n tree c) (let longer : length (lineage tree c) ≡ suc (length (lineage tree s)) = ap length (lineage_child tree l.is_tree s c h) in omega (arith, longer))))

  abbrev Done : Result (List Visit) Fault → Type 0
  Done (Ok nodes) = AreStanding nodes (tree_order tree)
  Done (Err fault) = ⊥

  walks : {todo seen : List Visit} {outcome : Result (List Visit) Fault} → Walk (visit_rows image wide end) (child_visits image) todo seen outcome → (ss ts : List ℕ) → AreStanding seen ss → AreStanding todo ts → ss ++ flat_map below_it ts ≡ tree_order tree → Done outcome
  walks (finished {seen = seen}) ss [] h k e = subst (AreStanding seen) (sym (append-nil ss) ∙ e) h
  walks finished ss (t ∷ ts) h k e = absurd k
  walks (stopped f) ss [] h k e = absurd k
  walks (stopped {item = item} {rest = rest} {seen = seen} {fault = fault} f) ss (s ∷ ts) h k e =
      none_some (first_broken (visit_rows image wide end seen item)) fault f (unbroken seen ss item s (flat_map below_it (children_at tree s) ++ flat_map below_it ts) h k.0 (ap (λ xs. ss ++ (xs ++ flat_map below_it ts)) (sym (unrolled s)) ∙ e))
    where
      none_some : (o : Option Fault) (x : Fault) → o ≡ Some x → o ≡ None → ⊥
      none_some o x p q = cc
  walks (passed f w) ss [] h k e = absurd k
  walks (passed {item = item} {rest = rest} {seen = seen} f w) ss (s ∷ ts) h k e =
      walks w (ss ++ s ∷ []) (children_at tree s ++ ts) (standing-append seen ss (item ∷ []) (s ∷ []) h (k.0, tt)) (standing-append (child_visits image item) (children_at tree s) rest ts (kids_stand item s k.0) k.1)
      (append_assoc ss (s ∷ []) (flat_map below_it (children_at tree s ++ ts))
      ∙ ap (λ xs. ss ++ (s ∷ xs)) (flat-append below_it (children_at tree s) ts)
      ∙ ap (λ xs. ss ++ (xs ++ flat_map below_it ts)) (sym (unrolled s)) ∙ e)

  -- ---- the walk from the root

  root_stands : Stands (root_visit image) 0
  root_stands =
      let node = something (node_at tree 0) l.is_tree.root in
      record {
        node = node.0;
        parts = l.header.0;
        at = node.1;
        has = l.header.1;
        place = ap place_of (sym (field_of_first 12 134 186 image (lit≤ tt))) ∙ points_to (field (field image 0 186) 134 12) l.header.0.header l.header.2.root_pointer;
        named = inl refl;
        deep = sym (ap length (lineage_root tree l.is_tree));
      }

  from_root : [] ++ flat_map below_it (0 ∷ []) ≡ tree_order tree
  unfolding tree_order
  from_root = append-nil (below_it 0) ∙ ap (λ n. descend n tree 0) levels
    where
      levels : 257 - length (lineage tree 0) ≡ 256
      levels = let one : length (lineage tree 0) ≡ 1 = ap length (lineage_root tree l.is_tree) in omega (arith, one)

  pub nodes_stand : (nodes : List Visit) × NodeWalk image (Ok nodes) × AreStanding nodes (tree_order tree)
  nodes_stand = by_outcome (node_walk_ends image).0 (node_walk_ends image).1
    where
      by_outcome : (outcome : Result (List Visit) Fault) → NodeWalk image outcome → (nodes : List Visit) × NodeWalk image (Ok nodes) × AreStanding nodes (tree_order tree)
      by_outcome outcome w =
          let w' : Walk (visit_rows image wide end) (child_visits image) (root_visit image ∷ []) [] outcome = subst (λ e. Walk (visit_rows image wide e) (child_visits image) (root_visit image ∷ []) [] outcome) (end_recorded image tree p l)
          (subst (λ t. Walk (visit_rows image t (end_in image)) (child_visits image) (root_visit image ∷ []) [] outcome) (wide_recorded image tree p l) w) in
          of_done outcome w (walks w' [] (0 ∷ []) tt (root_stands, tt) from_root)
        where
          of_done : (outcome : Result (List Visit) Fault) → NodeWalk image outcome → Done outcome → (nodes : List Visit) × NodeWalk image (Ok nodes) × AreStanding nodes (tree_order tree)
          of_done (Ok nodes) w d = (nodes, w, d)
          of_done (Err fault) w d = absurd d

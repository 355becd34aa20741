-- The rule of the heap at the data of an edit, and at a link.
use Rattle.std.proofs.Common.{◌≡◌, ℕ, zero, suc, refl, sym, ◌∙◌, ap, subst, arith, List, [], ◌∷◌, ◌++◌, length, length-append, get_or, map, ◌+◌, ◌-◌, ◌^◌, ◌<◌, ◌≤◌, Bool, true, false}
use Rattle.std.proofs.lemmas.Bool.Decides.{nat_tests}
use Rattle.std.proofs.lemmas.List.{length-map}
use Rattle.std.specs.Prelude.{Option, Some, None, is_some, slice_set, Result, Ok, nat_le, nat_lt, ◌==◌, if◌then◌else◌}
use Rattle.adf_format.specs.declared.types.Extent.{Extent}
use Rattle.adf_format.specs.Links.{link_text}
use Rattle.adf_format.specs.Tree.{Tree, Node, IsTree, children_of, children_at, next_serial}
use Rattle.adf_format.specs.Tiles.{cover}
use Rattle.adf_format.specs.Parts.{node_length, table_length}
use Rattle.adf_format.specs.Placement.{Placement, NodeParts, TablePart, ChunkPart, Heap, extent, parts_of, node_extents}
use Rattle.adf_format.specs.LaysOut.{HoldsNode, entry_count}
use Rattle.adf_format.specs.HeapRule.{Placed, LimitReached, Taken, GrownTable, no_parts, parts_or_none, parts_at, with_new_parts, with_table, heap_take, take_bytes, grow_table, grown_entries, chunk_length_for, payload_length, after_gives, in_one_chunk, in_one_more, hold, place_data, data_of_node, data_at, place_edit, ◌>>=◌}
use Rattle.adf_format.proofs.HeapSteps.{cover-append}
use Rattle.adf_model.specs.declared.tree.Edit.{Edit}
use Rattle.adf_model.specs.declared.tree.NodeId.{NodeId}
use Rattle.adf_model.specs.Edits.{IsReached, apply, with_node, with_new, new_link, link_tests, given_children}
use Rattle.adf_model.proofs.Basics.{passed, same_Ok, or_none, not_lt}
use Rattle.adf_model.proofs.Creation.CreatedNodes.{last_of, at_new, there_inside}
use Rattle.adf_model.proofs.Keeping.EditsKeep.{apply_keeps}
use Rattle.tree_laws.specs.Holding.{Holds}
use Rattle.tree_laws.specs.NodeJoin.{with_parts_of_new, link_parts}
use Rattle.tree_laws.specs.EditsPlaced.{PlacesData, LinkStands, LinkEnds}
use Rattle.tree_laws.proofs.Edits.LabelSet.{set_here}
use Rattle.tree_laws.proofs.Data.DataEnded.{one_chunk_from}
use Rattle.tree_laws.proofs.Edits.NewNode.{link_is_held}
use Rattle.tree_laws.proofs.Edits.NodeJoined.{node_joins}

-- ---- the data of an edit

abbrev placed_by : Placement → Result Placement LimitReached
placed_by q = Ok q

le_true : (a b : ℕ) → a ≤ b → nat_le a b ≡ true
le_true a b le = grind (arith, nat_tests)

le_false : (a b : ℕ) → b < a → nat_le a b ≡ false
le_false a b lt = grind (arith, nat_tests)

lt_true : (a b : ℕ) → a < b → nat_lt a b ≡ true
lt_true a b lt = grind (arith, nat_tests)

lt_false : (a b : ℕ) → b ≤ a → nat_lt a b ≡ false
lt_false a b le = grind (arith, nat_tests)

module _ (limit : ℕ) (p : Placement) (s size : ℕ) where
  hold_keeps : (cs : List ChunkPart) → 0 < length cs → size ≤ payload_length cs → hold limit p s size cs ≡ Ok p
  hold_keeps [] some le = absurd (omega (arith, some))
  hold_keeps (c ∷ cs) some le =
      ap (λ (b : Bool). if b then placed_by p else (if nat_lt (length (c ∷ cs)) 64 then in_one_more limit p s (size - payload_length (c ∷ cs)) else in_one_chunk limit p s size)) (le_true size (payload_length (c ∷ cs)) le)

  hold_adds : (cs : List ChunkPart) → 0 < length cs → payload_length cs < size → length cs < 64 → hold limit p s size cs ≡ in_one_more limit p s (size - payload_length cs)
  hold_adds [] some lt few = absurd (omega (arith, some))
  hold_adds (c ∷ cs) some lt few =
      ap (λ (b : Bool). if b then placed_by p else (if nat_lt (length (c ∷ cs)) 64 then in_one_more limit p s (size - payload_length (c ∷ cs)) else in_one_chunk limit p s size)) (le_false size (payload_length (c ∷ cs)) lt)
      ∙ ap (λ (b : Bool). if b then in_one_more limit p s (size - payload_length (c ∷ cs)) else in_one_chunk limit p s size) (lt_true (length (c ∷ cs)) 64 few)

  hold_moves : (cs : List ChunkPart) → 0 < length cs → payload_length cs < size → 64 ≤ length cs → hold limit p s size cs ≡ in_one_chunk limit p s size
  hold_moves [] some lt many = absurd (omega (arith, some))
  hold_moves (c ∷ cs) some lt many =
      ap (λ (b : Bool). if b then placed_by p else (if nat_lt (length (c ∷ cs)) 64 then in_one_more limit p s (size - payload_length (c ∷ cs)) else in_one_chunk limit p s size)) (le_false size (payload_length (c ∷ cs)) lt)
      ∙ ap (λ (b : Bool). if b then in_one_more limit p s (size - payload_length (c ∷ cs)) else in_one_chunk limit p s size) (lt_false (length (c ∷ cs)) 64 many)

pub places_data : PlacesData
places_data limit tree p s node now from here stands = (
  λ e. ap (place_data limit p s) (data_is ∙ e),
  λ bytes e none. by_bytes bytes e ∙ ap (hold limit p s (length bytes)) none,
  λ bytes e some le. by_bytes bytes e ∙ hold_keeps limit p s (length bytes) from.chunks some le,
  λ bytes e some lt few. by_bytes bytes e ∙ hold_adds limit p s (length bytes) from.chunks some lt few,
  λ bytes e some lt many. by_bytes bytes e ∙ hold_moves limit p s (length bytes) from.chunks some lt many,
)
  where
    data_is : data_at (with_node tree s now) s ≡ now.bytes
    data_is = ap data_of_node (set_here tree.nodes s (Some now) None (there_inside tree.nodes s node here))

    by_bytes : (bytes : List ℕ) → now.bytes ≡ Some bytes → place_edit limit tree (with_node tree s now) (Placed.Data s) p ≡ hold limit p s (length bytes) from.chunks
    by_bytes bytes e = ap (place_data limit p s) (data_is ∙ e) ∙ ap (λ (o : Option NodeParts). hold limit p s (length bytes) (parts_or_none o).chunks) stands

-- ---- a link

set_last : (xs : List (Option NodeParts)) (k : ℕ) (y z : Option NodeParts) → k ≡ length xs → slice_set (xs ++ y ∷ []) k z ≡ xs ++ z ∷ []
set_last [] zero y z e = refl
set_last [] (suc k) y z e = absurd (omega (arith, e))
set_last (x ∷ xs) zero y z e = absurd (omega (arith, e))
set_last (x ∷ xs) (suc k) y z e = ap (λ ys. x ∷ ys) (set_last xs k y z (omega (arith, e)))

pub front_get : (xs : List (Option NodeParts)) (y : Option NodeParts) (k : ℕ) → k < length xs → get_or (xs ++ y ∷ []) k None ≡ get_or xs k None
front_get [] y k lt = absurd (omega (arith, lt))
front_get (x ∷ xs) y zero lt = refl
front_get (x ∷ xs) y (suc k) lt = front_get xs y k (omega (arith, lt))

pub set_front : (xs : List (Option NodeParts)) (k : ℕ) (y z : Option NodeParts) → k < length xs → slice_set (xs ++ y ∷ []) k z ≡ slice_set xs k z ++ y ∷ []
set_front [] k y z lt = absurd (omega (arith, lt))
set_front (x ∷ xs) zero y z lt = refl
set_front (x ∷ xs) (suc k) y z lt = ap (λ ys. x ∷ ys) (set_front xs k y z (omega (arith, lt)))

module _ (limit : ℕ) (tree after : Tree) (at : NodeId) (name file path : List ℕ) (is : IsTree tree) (reached : IsReached tree (Edit.Link at name file path)) (e : apply tree (Edit.Link at name file path) ≡ Ok after) where
  pub is_grown : with_new tree at.serial (new_link name (link_text file path)) ≡ after
  is_grown = same_Ok (passed (link_tests tree at.serial name file path) (Ok (with_new tree at.serial (new_link name (link_text file path)))) after e).1

  is_short : length (link_text file path) ≤ 4096
  is_short =
      let none = (passed (link_tests tree at.serial name file path) (Ok (with_new tree at.serial (new_link name (link_text file path)))) after e).0 in
      let last = or_none (nat_lt 4096 (length (link_text file path))) (nat_le (2 ^ 48) (length tree.nodes)) none.1.1.1.1.1.0 in
      not_lt _ _ last.0

  is_some_text : 0 < length (link_text file path)
  is_some_text = let l = length-append file (62 ∷ path) in omega (arith, l)

  pub sound : IsTree (with_new tree at.serial (new_link name (link_text file path)))
  sound = subst IsTree (sym is_grown) (apply_keeps tree after (Edit.Link at name file path) is reached e)

  text_is : data_at after (next_serial tree) ≡ Some (link_text file path)
  text_is =
      ap (λ (t : Tree). data_at t (next_serial tree)) (sym is_grown)
      ∙ ap data_of_node (at_new tree.nodes at.serial (next_serial tree) (given_children (children_at tree at.serial ++ length tree.nodes ∷ []) (get_or tree.nodes at.serial None)) (Some (new_link name (link_text file path))) None refl)

  -- a link that stands is held
  pub held : (image : List ℕ) (p : Placement) (header place : ℕ) → length name ≤ 32 → LinkStands image tree name (link_text file path) header place
      → HoldsNode image tree p (new_link name (link_text file path)) (link_parts header place (chunk_length_for (length (link_text file path))))
  held image p header place short l =
      let fits : length (link_text file path) ≤ length l.body = (let b = l.long in omega (arith, b)) in
      let reach : place + 20 + length l.body ≤ 2 ^ 44 = (let b = l.long in let n = l.near in let m = n.1 in omega (arith, b, m)) in
      subst (λ n. HoldsNode image tree p (new_link name (link_text file path)) (link_parts header place n)) l.long
      (link_is_held image tree p name (link_text file path) l.body header place short is_some_text is_short fits l.begins reach l.spelled l.chunk)

  -- what is done once the parent's table has room
  abbrev pub goes_on : GrownTable → Result Placement LimitReached
  goes_on g = place_data limit g.placed (next_serial tree) (data_at after (next_serial tree)) >>= λ (q : Placement). Ok (after_gives q g.given)

  abbrev pub begins : Placement → Result (ℕ × Heap) LimitReached → Result Placement LimitReached
  begins p r = (r >>= λ (t : ℕ × Heap). Ok (t.0, record p { heap = t.1 })) >>= λ (h : Taken). (grow_table limit tree at.serial (with_new_parts h.1 h.0) >>= goes_on)

  -- the new node gets its one chunk
  pub put : (w : Placement) (given : List Extent) (front : List (Option NodeParts)) (header place : ℕ) (heap : Heap) → w.parts ≡ front ++ Some (record no_parts { header = header }) ∷ [] → length front ≡ length tree.nodes
      → heap_take limit (chunk_length_for (length (link_text file path))) w.heap ≡ Ok (place, heap)
      → goes_on (record { placed = w; given = given })
      ≡ Ok (after_gives (record { parts = front ++ Some (link_parts header place (chunk_length_for (length (link_text file path)))) ∷ []; heap = heap }) given)
  put w given front header place heap parts many takes =
      ap (λ (o : Option (List ℕ)). place_data limit w (length tree.nodes) o >>= λ (q : Placement). Ok (after_gives q given)) text_is
      ∙ ap (λ (o : Option NodeParts). hold limit w (length tree.nodes) (length (link_text file path)) (parts_or_none o).chunks >>= λ (q : Placement). Ok (after_gives q given)) new_there
      ∙ ap (λ (o : Option NodeParts). one_chunk_from (length (link_text file path)) w (length tree.nodes) o (heap_take limit (chunk_length_for (length (link_text file path))) w.heap) >>= λ (q : Placement). Ok (after_gives q given)) new_there
      ∙ ap (λ (r : Result (ℕ × Heap) LimitReached). one_chunk_from (length (link_text file path)) w (length tree.nodes) (Some (record no_parts { header = header })) r >>= λ (q : Placement). Ok (after_gives q given)) takes
      ∙ ap (λ (xs : List (Option NodeParts)). placed_by (after_gives (record { parts = xs; heap = heap }) given)) set_there
    where
      new_there : parts_of w (length tree.nodes) ≡ Some (record no_parts { header = header })
      new_there = ap (λ (xs : List (Option NodeParts)). get_or xs (length tree.nodes) None) parts ∙ ap (λ (k : ℕ). get_or (front ++ Some (record no_parts { header = header }) ∷ []) k None) (sym many) ∙ last_of front (Some (record no_parts { header = header })) None

      set_there : slice_set w.parts (length tree.nodes) (Some (link_parts header place (chunk_length_for (length (link_text file path))))) ≡ front ++ Some (link_parts header place (chunk_length_for (length (link_text file path)))) ∷ []
      set_there = ap (λ (xs : List (Option NodeParts)). slice_set xs (length tree.nodes) (Some (link_parts header place (chunk_length_for (length (link_text file path)))))) parts
          ∙ set_last front (length tree.nodes) (Some (record no_parts { header = header })) (Some (link_parts header place (chunk_length_for (length (link_text file path))))) (sym many)

pub as_many : (tree : Tree) (p : Placement) → map is_some p.parts ≡ map is_some tree.nodes → length p.parts ≡ length tree.nodes
as_many tree p same = sym (length-map p.parts is_some) ∙ ap length same ∙ length-map tree.nodes is_some

pub link_ends : LinkEnds
link_ends limit old middle new tree after p between heap taken hk ck at name file path header place parent from t reached e short takes takes_chunk h stands here placed has free v w = (
  with_parts_of_new (record p { heap = heap }) (link_parts header place (chunk_length_for (length (link_text file path)))),
  ap (begins limit tree after at name file path h.is_tree reached e p) takes ∙ ap (λ (b : Bool). (if b then (take_bytes limit (table_length (grown_entries (length (children_at tree at.serial)))) (with_new_parts (record p { heap = between }) header) >>= λ (x : Taken). Ok (with_table x.1 at.serial (grown_entries (length (children_at tree at.serial))) x.0)) else Ok (record { placed = (with_new_parts (record p { heap = between }) header); given = [] })) >>= goes_on limit tree after at name file path h.is_tree reached e) has_room
      ∙ put limit tree after at name file path h.is_tree reached e (with_new_parts (record p { heap = between }) header) [] p.parts header place heap refl (as_many tree (record p { heap = heap }) h.same_nodes) takes_chunk,
  subst (λ (x : Tree). Holds new x (with_parts_of_new (record p { heap = heap }) (link_parts header place (chunk_length_for (length (link_text file path))))) taken) (is_grown limit tree after at name file path h.is_tree reached e)
      (node_joins old middle new tree (record p { heap = heap }) (extent ck place (chunk_length_for (length (link_text file path))) ∷ extent hk header (node_length tree.wide) ∷ taken) taken at.serial parent (new_link name (link_text file path)) from
      (link_parts header place (chunk_length_for (length (link_text file path)))) t h here placed has free few short stands.near.0 refl (held limit tree after at name file path h.is_tree reached e old (record p { heap = heap }) header place short stands) owners v w
      (sound limit tree after at name file path h.is_tree reached e)),
)
  where
    few : suc (length parent.children) < 16 ^ 8
    few = let l = subst (λ (o : Option Node). length (children_of o) ≤ 2 ^ 20) here (h.is_tree.width at.serial) in omega (arith, l)

    differ : (a b : ℕ) → b < a → (a == b) ≡ false
    differ a b lt = grind (arith, nat_tests)

    has_room : (entry_count (parts_at (with_new_parts (record p { heap = between }) header) at.serial).table == length (children_at tree at.serial)) ≡ false
    has_room =
        ap (λ (o : Option NodeParts). entry_count (parts_or_none o).table == length (children_at tree at.serial)) (front_get p.parts (Some (record no_parts { header = header })) at.serial (there_inside p.parts at.serial from placed) ∙ placed)
        ∙ ap (λ (o : Option TablePart). entry_count o == length (children_at tree at.serial)) has
        ∙ ap (λ (o : Option Node). t.entries == length (children_of o)) here ∙ differ t.entries (length parent.children) free

    owners : (b : ℕ) → cover (taken ++ node_extents tree.wide (link_parts header place (chunk_length_for (length (link_text file path))))) b
        ≡ cover (extent ck place (chunk_length_for (length (link_text file path))) ∷ extent hk header (node_length tree.wide) ∷ taken) b
    owners b = let x = cover-append taken (node_extents tree.wide (link_parts header place (chunk_length_for (length (link_text file path))))) b in omega (arith, x)

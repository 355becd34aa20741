-- The nodes that a survey keeps make a tree.
use Rattle.std.proofs.Common.{◌≡◌, inl, inr, ℕ, zero, suc, refl, sym, ◌∙◌, ap, subst, arith, List, [], ◌∷◌, ◌++◌, length, map, min, length-append, ◌+◌, ◌-◌, ◌^◌, ◌<◌, ◌≤◌, Bool, true, false, not}
use Rattle.std.proofs.lemmas.Bool.Decides.{nat_tests}
use Rattle.std.proofs.lemmas.List.{length-map}
use Rattle.std.proofs.lemmas.Slice.Eq.{bytes_eq-Decides}
use Rattle.std.specs.Prelude.{Option, Some, None, IsSome, is_some, slice_get, option_map, nat_le, nat_lt, ◌==◌, ◌&&◌, ◌||◌}
use Rattle.std.specs.List.{list_any, filter_map, range_with_len}
use Rattle.std.specs.Str.{bytes_eq}
use Rattle.adf_format.specs.Checks.{Fault, Survey, surveyed, omits, keeps}
use Rattle.adf_format.specs.Fields.{field, trimmed, text_field}
use Rattle.adf_format.specs.FirstFault.{Visit, child_visits, visit_rows, visit_extents, found_extents, entry_rows, entry_name, entry_pointer, is_name_field, is_named, count_row, count_up, children_in, table_in, fits, row_of_length, header_rows, is_wide, end_in, count_row_at}
use Rattle.adf_format.specs.Parts.{node_length}
use Rattle.adf_format.specs.Pointer.{is_place}
use Rattle.adf_format.specs.SoundPart.{IsSoundPart, last_byte, visit_number, children_among, node_of_visit, tree_of}
use Rattle.adf_format.specs.Tiles.{total_length}
use Rattle.adf_format.specs.Tree.{Node, IsNode, IsTree, AllDiffer, IsAmong, is_among, node_at, children_of, children_at, name_of, name_at, next_serial, families, climb, lineage}
use Rattle.adf_format.proofs.FieldLaws.{length-field}
use Rattle.adf_format.proofs.PathLaws.{child_of}
use Rattle.adf_format.proofs.RowLaws.{kept_index, padded-trimmed}
use Rattle.adf_format.proofs.TreeLaws.{node_at-tree_of}
use Rattle.adf_format.proofs.WalkLaws.{total_length-append, roomy, all_kept}
use Rattle.adf_model.proofs.Basics.{not_true, not_there, same_Some, and_parts, or_none, false_of}
use Rattle.adf_model.proofs.Walks.WalkCounts.{place_small}
use Rattle.adf_model.proofs.Walks.WalkNodes.{Kept, VisitKept, visit_kept, visit_sound, visit_named}
use Rattle.salvage_laws.specs.Surveys.{Outcome}
use Rattle.salvage_laws.proofs.SurveyTree.{IsSurveyed, is_surveyed, child_there, kept_root, kept_live, kept_one_parent, climbs}

-- ---- how many there are

long : (image : List ℕ) (wide : Bool) (v : Visit) → 1 ≤ total_length (visit_extents image wide v)
unfolding visit_extents
long image wide v = omega arith

-- each is a byte long or more
each_long : (image : List ℕ) (wide : Bool) (seen : List Visit) → length seen ≤ total_length (found_extents image wide seen)
each_long image wide [] = omega arith
each_long image wide (v ∷ seen) =
    let split = total_length-append (visit_extents image wide v) (found_extents image wide seen) in
    let first = long image wide v in
    let rest = each_long image wide seen in
    omega (arith, split, first, rest)

counted : (image : List ℕ) (wide : Bool) (end : ℕ) {todo kept : List Visit} {left : List (Visit × Fault)} {outcome : Outcome} → Survey (visit_rows image wide end) (child_visits image) todo kept left outcome → length kept ≤ end + 1 → length outcome.0 ≤ end + 1
counted image wide end surveyed h = h
counted image wide end (omits e s) h = counted image wide end s h
counted image wide end (keeps {item = item} {kept = kept} e s) h =
    counted image wide end s (let room = roomy image wide end kept item e in let many = each_long image wide kept in let more = length-append kept (item ∷ []) in omega (arith, room, many, more))

-- ---- texts of which no two are equal

none_equal : (g : ℕ → Option ℕ) (name : ℕ → List ℕ) (text : List ℕ) (a m : ℕ) → ((j d : ℕ) → a ≤ j → j < a + m → g j ≡ Some d → text ≡ name d → ⊥) → list_any (bytes_eq text) (map name (filter_map g (range_with_len a m))) ≡ false
none_equal g name text a zero apart = refl
none_equal g name text a (suc m) apart = by_first (g a) refl (none_equal g name text (a + 1) m (λ j d low high e. apart j d (omega (arith, low)) (omega (arith, high)) e))
  where
    by_first : (o : Option ℕ) → g a ≡ o → list_any (bytes_eq text) (map name (filter_map g (range_with_len (a + 1) m))) ≡ false → list_any (bytes_eq text) (map name (filter_map g (range_with_len a (suc m)))) ≡ false
    by_first None e rest = rw e rest
    by_first (Some k) e rest =
        rw e (ap (λ b. b || list_any (bytes_eq text) (map name (filter_map g (range_with_len (a + 1) m)))) (false_of (bytes_eq text (name k)) (λ t. apart a k (omega arith) (omega arith) e ((bytes_eq-Decides text (name k)).0 t))) ∙ rest)

differ_given : (g : ℕ → Option ℕ) (name : ℕ → List ℕ) (a m : ℕ) → ((i j c d : ℕ) → a ≤ i → i < j → j < a + m → g i ≡ Some c → g j ≡ Some d → name c ≡ name d → ⊥) → AllDiffer (map name (filter_map g (range_with_len a m)))
differ_given g name a zero apart = tt
differ_given g name a (suc m) apart = by_first (g a) refl (differ_given g name (a + 1) m (λ i j c d low lt high. apart i j c d (omega (arith, low)) lt (omega (arith, high))))
  where
    by_first : (o : Option ℕ) → g a ≡ o → AllDiffer (map name (filter_map g (range_with_len (a + 1) m))) → AllDiffer (map name (filter_map g (range_with_len a (suc m))))
    by_first None e rest = rw e rest
    by_first (Some k) e rest = rw e (ap not (none_equal g name (name k) (a + 1) m (λ j d low high f. apart a j k d (omega arith) (omega (arith, low)) (omega (arith, high)) e f)), rest)

-- ---- the rules of entries and of counts

not_true_then : (b : Bool) → not b ≡ true → b ≡ false
not_true_then true e = absurd (not_true e)
not_true_then false e = refl

-- a test that none of the numbers passes
none_passes : (test : ℕ → Bool) (a m j : ℕ) → list_any test (range_with_len a m) ≡ false → a ≤ j → j < a + m → test j ≡ false
none_passes test a zero j e low high = absurd (omega (arith, low, high))
none_passes test a (suc m) j e low high = by_first (nat_le (a + 1) j) refl (λ h. none_passes test (a + 1) m j (or_none (test a) (list_any test (range_with_len (a + 1) m)) e).1 h (omega (arith, high)))
  where
    above : (a j : ℕ) → nat_le (a + 1) j ≡ true → a + 1 ≤ j
    above a j t = grind (arith, nat_tests)

    same : (a j : ℕ) → a ≤ j → nat_le (a + 1) j ≡ false → a ≡ j
    same a j low t = grind (arith, nat_tests)

    by_first : (t : Bool) → nat_le (a + 1) j ≡ t → (a + 1 ≤ j → test j ≡ false) → test j ≡ false
    by_first true t later = later (above a j t)
    by_first false t later = subst (λ k. test k ≡ false) (same a j low t) (or_none (test a) (list_any test (range_with_len (a + 1) m)) e).0

entry_differs : (image : List ℕ) (t children i j : ℕ) → Kept (entry_rows image t children) → j < i → i < children → entry_name image t j ≡ entry_name image t i → ⊥
unfolding entry_rows
entry_differs image t children i j kept lt high e =
    let row = kept_index _ 0 children i kept high in
    let two = and_parts (is_name_field (entry_name image t (0 + i)) && not (list_any (λ k. bytes_eq (entry_name image t k) (entry_name image t (0 + i))) (count_up (0 + i)))) (is_place (entry_pointer image t (0 + i))) row in
    let one = and_parts (is_name_field (entry_name image t (0 + i))) (not (list_any (λ k. bytes_eq (entry_name image t k) (entry_name image t (0 + i))) (count_up (0 + i)))) two.0 in
    let none = not_true_then (list_any (λ k. bytes_eq (entry_name image t k) (entry_name image t (0 + i))) (count_up (0 + i))) one.1 in
    let differ = none_passes (λ k. bytes_eq (entry_name image t k) (entry_name image t (0 + i))) 0 (0 + i) j none (omega arith) (omega (arith, lt)) in
    not_true (sym differ ∙ (bytes_eq-Decides (entry_name image t j) (entry_name image t (0 + i))).1 (e ∙ ap (entry_name image t) (front i)))
  where
    front : (i : ℕ) → i ≡ 0 + i
    front i = omega arith

counts_kept : (image : List ℕ) (v : Visit) → (count_row image v).kept ≡ true → (nat_le (children_in image v.place) (2 ^ 20) ≡ true) × ((nat_lt (length v.path) 255 || (children_in image v.place == 0)) ≡ true)
unfolding count_row_at
counts_kept image v h = let a = and_parts _ _ h in let b = and_parts _ _ a.0 in let c = and_parts _ _ b.0 in (c.1, b.1)

at_most : (m n : ℕ) → nat_le m n ≡ true → m ≤ n
at_most m n e = grind (arith, nat_tests)

shallow : (depth children i : ℕ) → (nat_lt depth 255 || (children == 0)) ≡ true → i < children → depth < 255
shallow depth children i e lt = grind (arith, nat_tests, lt)

filter_short : (g : ℕ → Option ℕ) (a m : ℕ) → length (filter_map g (range_with_len a m)) ≤ m
filter_short g a zero = omega arith
filter_short g a (suc m) = by_first (g a) refl (filter_short g (a + 1) m)
  where
    by_first : (o : Option ℕ) → g a ≡ o → length (filter_map g (range_with_len (a + 1) m)) ≤ m → length (filter_map g (range_with_len a (suc m))) ≤ suc m
    by_first None e h = rw e (omega (arith, h))
    by_first (Some k) e h = rw e (omega (arith, h))

-- a header that fits has its name whole
name_whole : (image : List ℕ) (wide : Bool) (end place : ℕ) → end < length image → fits end place (node_length wide) ≡ true → length (field image (place + 4) 32) ≡ 32
name_whole image wide end place ends e =
    let fit = at_most (place + node_length wide) (end + 1) (and_parts (nat_le 266 place) (nat_le (place + node_length wide) (end + 1)) e).1 in
    let least = least_length wide in
    let long = length-field image (place + 4) 32 in
    omega (arith, fit, least, long, ends)
  where
    least_length : (w : Bool) → 246 ≤ node_length w
    least_length false = omega arith
    least_length true = omega arith

-- ---- the tree

module _ (image : List ℕ) (nodes : List Visit) (left : List (Visit × Fault)) (part : IsSoundPart image nodes left) (some : 0 < length nodes) where
  pub kept_surveyed : IsSurveyed image nodes
  kept_surveyed = is_surveyed image nodes left part.survey some

  pub reach_inside : last_byte image < length image
  reach_inside = let head = at_most 266 (length image) (all_kept (row_of_length image ∷ header_rows (field image 0 186)) part.header).0 in omega (arith, head)

  pub kept_at : (k : ℕ) (v : Visit) → slice_get nodes k ≡ Some v → VisitKept image (is_wide image) (last_byte image) v
  kept_at k v e = visit_kept image (is_wide image) (last_byte image) v (kept_surveyed.passed k v e)

  pub named_at : (k : ℕ) (v : Visit) → slice_get nodes k ≡ Some v → is_named image v ≡ true
  named_at k v e = visit_named image (is_wide image) (last_byte image) nodes v (kept_at k v e) reach_inside

  kept_each : (serial : ℕ) (node : Node) → node_at (tree_of image nodes) serial ≡ Some node → IsNode (is_wide image) node
  kept_each serial node e = by_visit (slice_get nodes serial) refl
    where
      by_visit : (o : Option Visit) → slice_get nodes serial ≡ o → IsNode (is_wide image) node
      by_visit None f = absurd (not_there node (sym (node_at-tree_of image nodes serial ∙ ap (option_map (node_of_visit image (is_wide image) nodes)) f) ∙ e))
      by_visit (Some v) f =
          let same = same_Some (node_of_visit image (is_wide image) nodes v) node (sym (node_at-tree_of image nodes serial ∙ ap (option_map (node_of_visit image (is_wide image) nodes)) f) ∙ e) in
          subst (IsNode (is_wide image)) same (visit_sound image (is_wide image) (last_byte image) nodes v (kept_at serial v f) reach_inside)

  kept_width : (k : ℕ) → length (children_at (tree_of image nodes) k) ≤ 2 ^ 20
  kept_width k = by_visit (slice_get nodes k) refl
    where
      by_visit : (o : Option Visit) → slice_get nodes k ≡ o → length (children_at (tree_of image nodes) k) ≤ 2 ^ 20
      by_visit None e = subst (λ (o : Option Node). length (children_of o) ≤ 2 ^ 20) (sym (node_at-tree_of image nodes k ∙ ap (option_map (node_of_visit image (is_wide image) nodes)) e)) (omega arith)
      by_visit (Some v) e =
          let few = at_most (children_in image v.place) (2 ^ 20) (counts_kept image v (kept_at k v e).count).0 in
          let short = filter_short (λ i. visit_number nodes (v.path ++ i ∷ [])) 0 (children_in image v.place) in
          subst (λ (o : Option Node). length (children_of o) ≤ 2 ^ 20) (sym (node_at-tree_of image nodes k ∙ ap (option_map (node_of_visit image (is_wide image) nodes)) e)) (omega (arith, few, short))

  module _ (serial : ℕ) (v : Visit) (here : slice_get nodes serial ≡ Some v) where
    -- the name of a child's entry is that of its header
    pub own_name : (i c : ℕ) → slice_get nodes c ≡ Some (child_of image v i) → entry_name image (table_in image v.place) i ≡ field image ((child_of image v i).place + 4) 32
    own_name i c at = (bytes_eq-Decides (entry_name image (table_in image v.place) i) (field image ((child_of image v i).place + 4) 32)).0 (named_at c (child_of image v i) at)

    pub whole_name : (i c : ℕ) → slice_get nodes c ≡ Some (child_of image v i) → length (entry_name image (table_in image v.place) i) ≡ 32
    whole_name i c at = ap length (own_name i c at) ∙ name_whole image (is_wide image) (last_byte image) (child_of image v i).place reach_inside (kept_at c (child_of image v i) at).inside

    pub child_named : (i c : ℕ) → slice_get nodes c ≡ Some (child_of image v i) → name_at (tree_of image nodes) c ≡ trimmed (entry_name image (table_in image v.place) i)
    child_named i c at = ap name_of (node_at-tree_of image nodes c ∙ ap (option_map (node_of_visit image (is_wide image) nodes)) at) ∙ ap trimmed (sym (own_name i c at))

    apart : (i j c d : ℕ) → i < j → visit_number nodes (v.path ++ i ∷ []) ≡ Some c → visit_number nodes (v.path ++ j ∷ []) ≡ Some d → name_at (tree_of image nodes) c ≡ name_at (tree_of image nodes) d → ⊥
    apart i j c d lt e f same =
        let one = child_there image nodes kept_surveyed serial i c v here e in
        let other = child_there image nodes kept_surveyed serial j d v here f in
        entry_differs image (table_in image v.place) (children_in image v.place) j i (kept_at serial v here).entries lt other.0
        (sym (padded-trimmed (entry_name image (table_in image v.place) i) 32 (whole_name i c one.1)) ∙ ap (text_field 32) (sym (child_named i c one.1) ∙ same ∙ child_named j d other.1)
        ∙ padded-trimmed (entry_name image (table_in image v.place) j) 32 (whole_name j d other.1))

    differ_here : AllDiffer (map (name_at (tree_of image nodes)) (children_among image nodes v))
    differ_here = differ_given (λ i. visit_number nodes (v.path ++ i ∷ [])) (name_at (tree_of image nodes)) 0 (children_in image v.place) (λ i j c d low lt high e f. apart i j c d lt e f)

  kept_siblings : (serial : ℕ) → AllDiffer (map (name_at (tree_of image nodes)) (children_at (tree_of image nodes) serial))
  kept_siblings serial = by_visit (slice_get nodes serial) refl
    where
      by_visit : (o : Option Visit) → slice_get nodes serial ≡ o → AllDiffer (map (name_at (tree_of image nodes)) (children_at (tree_of image nodes) serial))
      by_visit None e = subst (λ (o : Option Node). AllDiffer (map (name_at (tree_of image nodes)) (children_of o))) (sym (node_at-tree_of image nodes serial ∙ ap (option_map (node_of_visit image (is_wide image) nodes)) e)) tt
      by_visit (Some v) e = subst (λ (o : Option Node). AllDiffer (map (name_at (tree_of image nodes)) (children_of o))) (sym (node_at-tree_of image nodes serial ∙ ap (option_map (node_of_visit image (is_wide image) nodes)) e)) (differ_here serial v e)

  -- no node lies deeper than 255
  near : (k : ℕ) (w : Visit) → slice_get nodes k ≡ Some w → length w.path < 256
  near k w e = elim (kept_surveyed.reached k w e) [
    | inl is ↦ (let none = ap (λ (u : Visit). length u.path) is in omega (arith, none))
    | inr r ↦ (
        let above = shallow (length r.0.path) (children_in image r.0.place) r.2 (counts_kept image r.0 (kept_at r.1 r.0 r.3).count).1 r.4 in
        let long = ap (λ (u : Visit). length u.path) r.5 ∙ length-append r.0.path (r.2 ∷ []) in
        omega (arith, above, long))
  ]

  kept_reached : (k : ℕ) → IsSome (node_at (tree_of image nodes) k) → IsAmong (lineage (tree_of image nodes) k) 0
  unfolding lineage
  kept_reached k live = by_visit (slice_get nodes k) refl
    where
      by_visit : (o : Option Visit) → slice_get nodes k ≡ o → is_among (climb 256 (families (tree_of image nodes)) (Some k)) 0 ≡ true
      by_visit None e = absurd (not_true (sym (ap is_some (node_at-tree_of image nodes k ∙ ap (option_map (node_of_visit image (is_wide image) nodes)) e)) ∙ live))
      by_visit (Some w) e = climbs image nodes kept_surveyed 256 k w e (near k w e)

  kept_drawn : next_serial (tree_of image nodes) ≤ 2 ^ 48
  kept_drawn =
      let all : length nodes ≤ last_byte image + 1 = counted image (is_wide image) (last_byte image) part.survey (omega arith) in
      let small = place_small (field image 146 12) in
      let same = length-map nodes (λ v. Some (node_of_visit image (is_wide image) nodes v)) in
      fewer (length nodes) (end_in image) (length image) _ all small same
    where
      fewer : (n end long m : ℕ) → n ≤ min end (long - 1) + 1 → end < 2 ^ 44 → m ≡ n → m ≤ 2 ^ 48
      fewer n end long m h k e = omega (arith, h, k, e)

  -- they make a tree
  pub kept_tree : IsTree (tree_of image nodes)
  kept_tree = record {
    root = kept_root image nodes kept_surveyed;
    drawn = kept_drawn;
    each = kept_each;
    live = kept_live image nodes kept_surveyed;
    one_parent = kept_one_parent image nodes kept_surveyed;
    siblings = kept_siblings;
    width = kept_width;
    reached = kept_reached;
  }

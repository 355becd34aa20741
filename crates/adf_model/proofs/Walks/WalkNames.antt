-- The children of a node that a walk finds have different names: those of the entries that lead to them.
use Rattle.std.proofs.Common.{◌≡◌, ℕ, zero, suc, refl, sym, ◌∙◌, ap, subst, arith, List, [], ◌∷◌, ◌++◌, length, map, ◌+◌, ◌<◌, ◌≤◌, Bool, true, false, not}
use Rattle.std.proofs.lemmas.Bool.Decides.{nat_tests}
use Rattle.std.proofs.lemmas.Slice.Eq.{bytes_eq-Decides}
use Rattle.std.specs.Prelude.{Option, Some, None, Ok, slice_get, option_map, nat_le, ◌&&◌, ◌||◌}
use Rattle.std.specs.List.{list_any, filter_map, range_with_len}
use Rattle.std.specs.Str.{bytes_eq}
use Rattle.adf_format.specs.Pointer.{is_place}
use Rattle.adf_format.specs.Fields.{field, trimmed}
use Rattle.adf_format.specs.Parts.{node_length}
use Rattle.adf_format.specs.Tree.{Node, AllDiffer, children_of, children_at, name_of, name_at, IsTree, IsNumbered}
use Rattle.adf_format.specs.Checks.{first_broken}
use Rattle.adf_format.specs.FirstFault.{NodeWalk, FreeVisit, HasNoFault, head_rows, fits, entry_rows, entry_name, entry_pointer, is_name_field, Visit, children_in, table_in, count_up, end_in, is_wide}
use Rattle.adf_format.specs.SoundPart.{visit_number, children_among, node_of_visit, tree_of}
use Rattle.adf_format.proofs.FieldLaws.{length-field}
use Rattle.adf_format.proofs.NumberLaws.{walk_unrolls, walk_is_numbered}
use Rattle.adf_format.proofs.PathLaws.{IsWalked, is_walked, child_of}
use Rattle.adf_format.proofs.RowLaws.{kept_index, padded-trimmed}
use Rattle.adf_format.proofs.TreeLaws.{number_of-path, number_in, at_in, node_at-tree_of}
use Rattle.adf_format.specs.Fields.{text_field}
use Rattle.adf_model.proofs.Basics.{not_true, false_of, or_none, and_parts}
use Rattle.adf_model.proofs.Walks.WalkCounts.{walk_drawn}
use Rattle.adf_model.proofs.Walks.WalkNodes.{Kept, VisitKept, visit_kept, visit_named, end_inside, walk_each}
use Rattle.adf_model.proofs.Walks.WalkRows.{walk_passes, walk_width}
use Rattle.adf_model.proofs.Walks.WalkTree.{child_in, walk_root, walk_live, walk_one_parent, walk_reached}

-- ---- lists

not_true_then : (b : Bool) → not b ≡ true → b ≡ false
not_true_then true e = absurd (not_true e)
not_true_then false e = refl

-- a test that none of the numbers passes
none_passes : (test : ℕ → Bool) (a m j : ℕ) → list_any test (range_with_len a m) ≡ false → a ≤ j → j < a + m → test j ≡ false
none_passes test a zero j e low high = absurd (empty a j low high)
  where
    empty : (a j : ℕ) → a ≤ j → j < a + 0 → ⊥
    empty a j low high = omega (arith, low, high)
none_passes test a (suc m) j e low high = by_first (nat_le (a + 1) j) refl (λ h. none_passes test (a + 1) m j (or_none (test a) (list_any test (range_with_len (a + 1) m)) e).1 h (omega (arith, high)))
  where
    above : (a j : ℕ) → nat_le (a + 1) j ≡ true → a + 1 ≤ j
    above a j t = grind (arith, nat_tests)

    same : (a j : ℕ) → a ≤ j → nat_le (a + 1) j ≡ false → a ≡ j
    same a j low t = grind (arith, nat_tests)

    by_first : (t : Bool) → nat_le (a + 1) j ≡ t → (a + 1 ≤ j → test j ≡ false) → test j ≡ false
    by_first true t later = later (above a j t)
    by_first false t later = subst (λ k. test k ≡ false) (same a j low t) (or_none (test a) (list_any test (range_with_len (a + 1) m)) e).0

-- texts of which no two are equal
all_differ : (text : ℕ → List ℕ) (a m : ℕ) → ((i j : ℕ) → a ≤ i → i < j → j < a + m → text i ≡ text j → ⊥) → AllDiffer (map text (range_with_len a m))
all_differ text a zero apart = tt
all_differ text a (suc m) apart =
    (ap not (none_equal (a + 1) m (λ j low high e. apart a j (omega arith) (omega (arith, low)) (omega (arith, high)) e)), all_differ text (a + 1) m (λ i j low lt high e. apart i j (omega (arith, low)) lt (omega (arith, high)) e))
  where
    none_equal : (b n : ℕ) → ((j : ℕ) → b ≤ j → j < b + n → text a ≡ text j → ⊥) → list_any (bytes_eq (text a)) (map text (range_with_len b n)) ≡ false
    none_equal b zero apart = refl
    none_equal b (suc n) apart =
        ap (λ t. t || list_any (bytes_eq (text a)) (map text (range_with_len (b + 1) n))) (false_of (bytes_eq (text a) (text b)) (λ e. apart b (omega arith) (omega arith) ((bytes_eq-Decides (text a) (text b)).0 e)))
        ∙ none_equal (b + 1) n (λ j low high e. apart j (omega (arith, low)) (omega (arith, high)) e)

-- the names of what a function gives, where it gives something to each number
names_given : (g : ℕ → Option ℕ) (name : ℕ → List ℕ) (text : ℕ → List ℕ) (a m : ℕ) → ((i : ℕ) → a ≤ i → i < a + m → (k : ℕ) × (g i ≡ Some k) × (name k ≡ text i)) → map name (filter_map g (range_with_len a m)) ≡ map text (range_with_len a m)
names_given g name text a zero each = refl
names_given g name text a (suc m) each =
    let first = each a (omega arith) (omega arith) in
    given (g a) first.0 first.1 first.2 (names_given g name text (a + 1) m (λ i low high. each i (omega (arith, low)) (omega (arith, high))))
  where
    given : (o : Option ℕ) (k : ℕ) → g a ≡ Some k → name k ≡ text a → map name (filter_map g (range_with_len (a + 1) m)) ≡ map text (range_with_len (a + 1) m) → map name (filter_map g (range_with_len a (suc m))) ≡ text a ∷ map text (range_with_len (a + 1) m)
    given o k e same rest = rw e (ap (λ x. x ∷ map name (filter_map g (range_with_len (a + 1) m))) same ∙ ap (λ xs. text a ∷ xs) rest)

-- ---- the entries of a node

entry_differs : (image : List ℕ) (t children i j : ℕ) → Kept (entry_rows image t children) → j < i → i < children → entry_name image t j ≡ entry_name image t i → ⊥
unfolding entry_rows
entry_differs image t children i j kept lt high e =
    let row = kept_index _ 0 children i kept high in
    let two = and_parts (is_name_field (entry_name image t (0 + i)) && not (list_any (λ k. bytes_eq (entry_name image t k) (entry_name image t (0 + i))) (count_up (0 + i)))) (is_place (entry_pointer image t (0 + i))) row in
    let one = and_parts (is_name_field (entry_name image t (0 + i))) (not (list_any (λ k. bytes_eq (entry_name image t k) (entry_name image t (0 + i))) (count_up (0 + i)))) two.0 in
    let none = not_true_then (list_any (λ k. bytes_eq (entry_name image t k) (entry_name image t (0 + i))) (count_up (0 + i))) one.1 in
    let differ = none_passes (λ k. bytes_eq (entry_name image t k) (entry_name image t (0 + i))) 0 (0 + i) j none (omega arith) (omega (arith, lt)) in
    not_true (sym differ ∙ (bytes_eq-Decides (entry_name image t j) (entry_name image t (0 + i))).1 (e ∙ ap (entry_name image t) (front i)))
  where
    front : (i : ℕ) → i ≡ 0 + i
    front i = omega arith

-- a header that fits has its name whole
name_whole : (image : List ℕ) (wide : Bool) (end place : ℕ) → end < length image → fits end place (node_length wide) ≡ true → length (field image (place + 4) 32) ≡ 32
name_whole image wide end place ends e =
    let fit = at_most (place + node_length wide) (end + 1) (and_parts (nat_le 266 place) (nat_le (place + node_length wide) (end + 1)) e).1 in
    let least = least_length wide in
    let long = length-field image (place + 4) 32 in
    omega (arith, fit, least, long, ends)
  where
    at_most : (m n : ℕ) → nat_le m n ≡ true → m ≤ n
    at_most m n e = grind (arith, nat_tests)

    least_length : (w : Bool) → 246 ≤ node_length w
    least_length false = omega arith
    least_length true = omega arith

module _ (image : List ℕ) (nodes : List Visit) (head : first_broken (head_rows image) ≡ None) (w : NodeWalk image (Ok nodes)) where
  walked : IsWalked image nodes
  walked = is_walked image nodes w

  kept_at : (k : ℕ) (v : Visit) → slice_get nodes k ≡ Some v → VisitKept image (is_wide image) (end_in image) v
  kept_at k v e = visit_kept image (is_wide image) (end_in image) v (walk_passes image nodes w v (at_in nodes k v e))

  module _ (serial : ℕ) (v : Visit) (here : slice_get nodes serial ≡ Some v) where
    abbrev entry : ℕ → List ℕ
    entry i = entry_name image (table_in image v.place) i

    abbrev child : ℕ → Visit
    child i = child_of image v i

    front : (i : ℕ) → 0 + i ≡ i
    front i = omega arith

    kid : (i : ℕ) → i < children_in image v.place → (k : ℕ) × (slice_get nodes k ≡ Some (child i))
    kid i h = number_in nodes (child i) (walked.closed v (at_in nodes serial v here) (child i) (child_in image v 0 (children_in image v.place) i (omega arith) (omega (arith, h))))

    -- the name of a child's entry is that of its header
    own_name : (i : ℕ) → i < children_in image v.place → entry i ≡ field image ((child i).place + 4) 32
    own_name i h =
        let k = kid i h in
        (bytes_eq-Decides (entry i) (field image ((child i).place + 4) 32)).0 (visit_named image (is_wide image) (end_in image) nodes (child i) (kept_at k.0 (child i) k.1) (end_inside image head))

    whole_name : (i : ℕ) → i < children_in image v.place → length (entry i) ≡ 32
    whole_name i h =
        let k = kid i h in
        ap length (own_name i h) ∙ name_whole image (is_wide image) (end_in image) (child i).place (end_inside image head) (kept_at k.0 (child i) k.1).inside

    apart : (i j : ℕ) → i < j → j < children_in image v.place → trimmed (entry i) ≡ trimmed (entry j) → ⊥
    apart i j lt high e =
        entry_differs image (table_in image v.place) (children_in image v.place) j i (kept_at serial v here).entries lt high
        (sym (padded-trimmed (entry i) 32 (whole_name i (omega (arith, lt, high)))) ∙ ap (text_field 32) e ∙ padded-trimmed (entry j) 32 (whole_name j high))

    named_so : (i : ℕ) → i < children_in image v.place → (k : ℕ) × (visit_number nodes (v.path ++ i ∷ []) ≡ Some k) × (name_at (tree_of image nodes) k ≡ trimmed (entry i))
    named_so i h =
        let k = kid i h in (
          k.0,
          number_of-path nodes k.0 (child i) walked.ordered k.1,
          ap name_of (node_at-tree_of image nodes k.0 ∙ ap (option_map (node_of_visit image (is_wide image) nodes)) k.1) ∙ ap trimmed (sym (own_name i h)),
        )

    differ_here : AllDiffer (map (name_at (tree_of image nodes)) (children_among image nodes v))
    differ_here = subst AllDiffer
        (sym (names_given (λ i. visit_number nodes (v.path ++ i ∷ [])) (name_at (tree_of image nodes)) (λ i. trimmed (entry i)) 0 (children_in image v.place) (λ i low high. named_so i (omega (arith, high)))))
        (all_differ (λ i. trimmed (entry i)) 0 (children_in image v.place) (λ i j low lt high e. apart i j lt (omega (arith, high)) e))

  pub walk_siblings : (serial : ℕ) → AllDiffer (map (name_at (tree_of image nodes)) (children_at (tree_of image nodes) serial))
  walk_siblings serial = by_visit (slice_get nodes serial) refl
    where
      by_visit : (o : Option Visit) → slice_get nodes serial ≡ o → AllDiffer (map (name_at (tree_of image nodes)) (children_at (tree_of image nodes) serial))
      by_visit None e = subst (λ (o : Option Node). AllDiffer (map (name_at (tree_of image nodes)) (children_of o))) (sym (node_at-tree_of image nodes serial ∙ ap (option_map (node_of_visit image (is_wide image) nodes)) e)) tt
      by_visit (Some v) e = subst (λ (o : Option Node). AllDiffer (map (name_at (tree_of image nodes)) (children_of o))) (sym (node_at-tree_of image nodes serial ∙ ap (option_map (node_of_visit image (is_wide image) nodes)) e)) (differ_here serial v e)

  -- what a walk finds is a tree
  pub walk_tree : IsTree (tree_of image nodes)
  walk_tree = record {
    root = walk_root image nodes walked;
    drawn = walk_drawn image nodes w;
    each = walk_each image nodes head w;
    live = walk_live image nodes walked;
    one_parent = walk_one_parent image nodes walked;
    siblings = walk_siblings;
    width = walk_width image nodes w;
    reached = walk_reached image nodes walked (walk_unrolls image nodes w);
  }

-- and its serials count its nodes in tree order
pub walk_sound : (image : List ℕ) (nodes : List Visit) (frees : List FreeVisit) → HasNoFault image nodes frees → IsTree (tree_of image nodes) × IsNumbered (tree_of image nodes)
walk_sound image nodes frees h = (walk_tree image nodes h.head h.node_walk, walk_is_numbered image nodes h.node_walk)

-- The children of a kept node are the kept nodes whose parent it is, and the entries of its table have their names.
use Rattle.std.proofs.Common.{◌≡◌, ◌⊎◌, inl, inr, ℕ, zero, suc, refl, sym, ◌∙◌, ap, subst, arith, List, [], ◌∷◌, ◌++◌, length, map, get_or, length-append, ◌+◌, ◌-◌, ◌*◌, ◌^◌, ◌<◌, ◌≤◌, true, false}
use Rattle.std.proofs.lemmas.Bool.{cases_lt}
use Rattle.std.proofs.lemmas.Bool.Decides.{eqb_tells, nat_tests}
use Rattle.std.proofs.lemmas.List.{length-map}
use Rattle.std.proofs.lemmas.Option.{slice_get-get_or, slice_get_within, slice_get-map}
use Rattle.std.specs.Prelude.{Option, Some, None, slice_get, option_map, ◌==◌}
use Rattle.std.specs.List.{Contains, filter_map, range_with_len}
use Rattle.adf_format.specs.Checks.{Fault}
use Rattle.adf_format.specs.Fields.{text_field}
use Rattle.adf_format.specs.FirstFault.{Visit, root_visit, children_in, entries_in, table_in, entry_name, table_rows, is_wide}
use Rattle.adf_format.specs.Parts.{table_length}
use Rattle.adf_format.specs.SoundPart.{IsSoundPart, visit_number, children_among, node_of_visit, tree_of, last_byte}
use Rattle.adf_format.specs.Tree.{IsAmong, children_of as kids_of, children_at, name_at}
use Rattle.adf_format.specs.Verdict.{NodePlace as Place}
use Rattle.adf_format.proofs.PathLaws.{child_of}
use Rattle.adf_format.proofs.RowLaws.{padded-trimmed}
use Rattle.adf_format.proofs.TreeLaws.{number_of-path, node_at-tree_of}
use Rattle.adf_model.proofs.Basics.{and_parts, not_true, same_Some}
use Rattle.adf_model.proofs.Trees.TreeOrder.{same_test}
use Rattle.adf_model.proofs.Walks.WalkNodes.{Kept}
use Rattle.layout_laws.specs.FoundLayout.{NamesVisit}
use Rattle.layout_laws.proofs.FoundNodes.{RowsKept, unless_kept}
use Rattle.layout_laws.proofs.NodesStand.{among_at}
use Rattle.layout_laws.proofs.Rows.{fits_tells}
use Rattle.layout_lint.specs.declared.verdict.NodePlace.{NodePlace}
use Rattle.layout_lint.specs.Walks.{node_place}
use Rattle.salvage_laws.specs.Surveys.{NameVisits}
use Rattle.salvage_laws.proofs.SurveyTree.{IsSurveyed, IsReached, child_there, child_tells, child_at, path_before, last_same}
use Rattle.salvage_laws.proofs.SurveyNodes.{child_named, whole_name}
use Rattle.adf_repack.specs.Copies.{position_in}
use Rattle.adf_repack.specs.Families.{is_under, children_of}
use Rattle.adf_repack.specs.Given.{HasName}
use Rattle.adf_repack.proofs.ChildLaws.{IsRising, kept_are, in_order_at, not_before}
use Rattle.adf_repack.proofs.WholeLaws.{at_field}
use Rattle.salvage_given.proofs.KeptRoom.{fewer}

-- numbers that a partial function gives rise, where it gives a greater one to a later number
rising_given : (g : ℕ → Option ℕ) (a m low high : ℕ) → ((i c : ℕ) → a ≤ i → g i ≡ Some c → (low ≤ c) × (c < high)) → ((i j c d : ℕ) → i < j → g i ≡ Some c → g j ≡ Some d → c < d) → IsRising low high (filter_map g (range_with_len a m))
rising_given g a zero low high each more = tt
rising_given g a (suc m) low high each more = by_first (g a) refl (λ from bounds. rising_given g (a + 1) m from high bounds more)
  where
    by_first : (o : Option ℕ) → g a ≡ o → ((from : ℕ) → ((i c : ℕ) → a + 1 ≤ i → g i ≡ Some c → (from ≤ c) × (c < high)) → IsRising from high (filter_map g (range_with_len (a + 1) m))) → IsRising low high (filter_map g (range_with_len a (suc m)))
    by_first None e later = rw e (later low (λ i c le f. each i c (omega (arith, le)) f))
    by_first (Some k) e later =
        let here = each a k (omega arith) e in
        rw e (here.0, here.1, later (k + 1) (λ i c le f. (let less = more a i k c (omega (arith, le)) e f in let bounds = each i c (omega (arith, le)) f in (omega (arith, less), bounds.1))))

-- ---- nodes and visits

module _ (image : List ℕ) (kept : List Visit) (s : IsSurveyed image kept) (nodes : List NodePlace) (named : NameVisits kept (map node_place nodes)) where
  pub count : length nodes ≡ length kept
  count = sym (length-map nodes node_place) ∙ named.count

  no_node : NodePlace
  no_node = record { place = 0; parent = 0; position = 0; depth = 0 }

  no_visit : Visit
  no_visit = record { place = 0; entry = None; path = [] }

  -- the visit of each node
  pub visit_there : (k : ℕ) → k < length nodes → (v : Visit) × (slice_get kept k ≡ Some v)
  visit_there k lt = (get_or kept k no_visit, slice_get-get_or kept k no_visit (let c = count in omega (arith, lt, c)))

  -- and the node of each visit
  pub node_there : (k : ℕ) (v : Visit) → slice_get kept k ≡ Some v → (n : NodePlace) × (slice_get nodes k ≡ Some n) × NamesVisit kept v (node_place n)
  node_there k v e =
      let lt = slice_get_within kept k v e in
      let at : slice_get nodes k ≡ Some (get_or nodes k no_node) = slice_get-get_or nodes k no_node (let c = count in omega (arith, lt, c)) in
      (get_or nodes k no_node, at, named.each k v (node_place (get_or nodes k no_node)) e (slice_get-map node_place nodes k ∙ ap (option_map node_place) at))

  -- how a place names its visit
  abbrev Links : Visit → Place → Type 0
  Links v n = ((v.path ≡ []) × (n.parent ≡ 0) × (n.position ≡ 0)) ⊎ ((u : Visit) × (slice_get kept n.parent ≡ Some u) × (v.path ≡ u.path ++ n.position ∷ []))

  -- a node whose visit is a child has the number of its parent, and the position of its entry
  linked_so : (k i c : ℕ) (v : Visit) (n : Place) → slice_get kept k ≡ Some v → NamesVisit kept (child_of image v i) n → (n.parent ≡ k) × (n.position ≡ i)
  linked_so k i c v n e h = by_link h.linked
    where
      by_link : Links (child_of image v i) n → (n.parent ≡ k) × (n.position ≡ i)
      by_link (inl root) = absurd (let none : length (v.path ++ i ∷ []) ≡ 0 = ap length root.0 in let long = length-append v.path (i ∷ []) in omega (arith, none, long))
      by_link (inr up) =
          let path : v.path ≡ up.0.path = path_before v.path up.0.path i n.position up.2 in (
            same_Some n.parent k (sym (number_of-path kept n.parent up.0 s.ordered up.1) ∙ ap (visit_number kept) (sym path) ∙ number_of-path kept k v s.ordered e),
            last_same up.0.path n.position i (sym up.2 ∙ ap (λ (q : List ℕ). q ++ i ∷ []) path),
          )

  -- ---- its children

  kids_of_visit : (k : ℕ) (v : Visit) → slice_get kept k ≡ Some v → children_at (tree_of image kept) k ≡ children_among image kept v
  kids_of_visit k v e = ap kids_of (node_at-tree_of image kept k ∙ ap (option_map (node_of_visit image (is_wide image) kept)) e)

  -- a later child has a greater number
  later_greater : (k : ℕ) (v : Visit) → slice_get kept k ≡ Some v → (i j c d : ℕ) → i < j → visit_number kept (v.path ++ i ∷ []) ≡ Some c → visit_number kept (v.path ++ j ∷ []) ≡ Some d → c < d
  later_greater k v e i j c d lt first second =
      let one = (child_there image kept s k i c v e first).1 in
      let other = (child_there image kept s k j d v e second).1 in
      elim (cases_lt c d) [
        | inl less ↦ less
        | inr le ↦ elim (cases_lt d c) [
          | inl before ↦ absurd (not_before v.path i j (omega (arith, lt)) (in_order_at kept d c (child_of image v j) (child_of image v i) s.ordered before other one))
          | inr ge ↦ (
              let same : c ≡ d = omega (arith, le, ge) in
              let both : child_of image v i ≡ child_of image v j = same_Some _ _ (sym one ∙ ap (slice_get kept) same ∙ other) in
              let no = last_same v.path i j (ap (λ (x : Visit). x.path) both) in
              absurd (omega (arith, no, lt)))
        ]
      ]

  -- none of them is the root
  not_first : (c i : ℕ) (v : Visit) → slice_get kept c ≡ Some (child_of image v i) → 1 ≤ c
  not_first zero i v at =
      let none : 0 ≡ length (child_of image v i).path = ap (λ (w : Visit). length w.path) (same_Some (root_visit image) (child_of image v i) (sym s.root ∙ at)) in
      let long = length-append v.path (i ∷ []) in
      absurd (omega (arith, none, long))
  not_first (suc c) i v at = omega arith

  rising : (k : ℕ) (v : Visit) → slice_get kept k ≡ Some v → IsRising 1 (length nodes) (children_at (tree_of image kept) k)
  rising k v e = subst (IsRising 1 (length nodes)) (sym (kids_of_visit k v e)) (rising_given (λ i. visit_number kept (v.path ++ i ∷ [])) 0 (children_in image v.place) 1 (length nodes)
      (λ i c low f. (let there = (child_there image kept s k i c v e f).1 in let within = slice_get_within kept c (child_of image v i) there in let all = count in (not_first c i v there, omega (arith, within, all))))
      (later_greater k v e))

  under : (k c : ℕ) → IsAmong (children_at (tree_of image kept) k) c → is_under k (slice_get nodes c) ≡ true
  under k c among = child_tells image kept s k c among (λ v i e inside at.
      let n = node_there c (child_of image v i) at in
      let link = linked_so k i c v (node_place n.0) e n.2 in
      ap (is_under k) n.1 ∙ ap (λ (q : ℕ). q == k) link.0 ∙ same_test k)

  under_tells : (k c : ℕ) (n : NodePlace) → slice_get nodes c ≡ Some n → is_under k (slice_get nodes c) ≡ true → n.parent ≡ k
  under_tells k c n e h = elim (eqb_tells n.parent k) [ inl t ↦ t.1 | inr t ↦ absurd (not_true (sym t.0 ∙ (sym (ap (is_under k) e) ∙ h))) ]

  is_child : (k c : ℕ) → 1 ≤ c → c < length nodes → is_under k (slice_get nodes c) ≡ true → IsAmong (children_at (tree_of image kept) k) c
  is_child k c some lt h =
      let w = visit_there c lt in
      let n = node_there c w.0 w.1 in
      by_link w.0 (node_place n.0) w.1 (under_tells k c n.0 n.1 h) n.2.linked (s.reached c w.0 w.1)
    where
      at_root : (w : Visit) → slice_get kept c ≡ Some w → w.path ≡ [] → c ≡ 0
      at_root w e path = same_Some c 0 (sym (number_of-path kept c w s.ordered e) ∙ ap (visit_number kept) path ∙ number_of-path kept 0 (root_visit image) s.ordered s.root)

      by_link : (w : Visit) (m : Place) → slice_get kept c ≡ Some w → m.parent ≡ k → Links w m → IsReached image kept w → IsAmong (children_at (tree_of image kept) k) c
      by_link w m e parent (inl root) reached = absurd (let none = at_root w e root.0 in omega (arith, none, some))
      by_link w m e parent (inr up) (inl is) = absurd (let none = at_root w e (ap (λ (u : Visit). u.path) is) in omega (arith, none, some))
      by_link w m e parent (inr up) (inr r) =
          let path : r.0.path ≡ up.0.path = path_before r.0.path up.0.path r.2 m.position (sym (ap (λ (u : Visit). u.path) r.5) ∙ up.2) in
          let same : r.1 ≡ k = same_Some r.1 m.parent (sym (number_of-path kept r.1 r.0 s.ordered r.3) ∙ ap (visit_number kept) path ∙ number_of-path kept m.parent up.0 s.ordered up.1) ∙ parent in
          subst (λ (j : ℕ). IsAmong (children_at (tree_of image kept) j) c) same (child_at image kept s r.1 c r.2 r.0 w r.3 e r.4 r.5)

  -- they are the nodes whose parent it is
  pub kids_are : (k : ℕ) (v : Visit) → slice_get kept k ≡ Some v → children_among image kept v ≡ children_of nodes k
  kids_are k v e =
      let within = slice_get_within kept k v e in
      let all = count in
      let to : 1 + (length nodes - 1) ≡ length nodes = omega (arith, within, all) in
      sym (kids_of_visit k v e)
      ∙ sym (kept_are (λ c. is_under k (slice_get nodes c)) 1 (length nodes - 1) (children_at (tree_of image kept) k) (
        subst (λ (b : ℕ). IsRising 1 b (children_at (tree_of image kept) k)) (sym to) (rising k v e),
        under k,
        (λ c low high h. is_child k c low (omega (arith, high, to)) h),
      ))

  -- the child at a number, and its place in the table
  pub child_here : {P : Type 0} (k c : ℕ) (v : Visit) → slice_get kept k ≡ Some v → Contains (children_of nodes k) c → ((i : ℕ) → i < children_in image v.place → slice_get kept c ≡ Some (child_of image v i) → position_in (slice_get nodes c) ≡ i → P) → P
  child_here k c v e has next =
      let kids = children_at (tree_of image kept) k in
      let in_kids : Contains (children_at (tree_of image kept) k) c = subst (λ (xs : List ℕ). Contains xs c) (sym (kids_of_visit k v e ∙ kids_are k v e)) has in
      let at : slice_get (children_at (tree_of image kept) k) in_kids.0 ≡ Some c = slice_get-get_or (children_at (tree_of image kept) k) in_kids.0 c in_kids.1 ∙ ap Some in_kids.2 in
      child_tells image kept s k c (among_at (children_at (tree_of image kept) k) in_kids.0 c at) (λ u i f inside there.
      let same : u ≡ v = same_Some u v (sym f ∙ e) in
      let n = node_there c (child_of image u i) there in
      let link = linked_so k i c u (node_place n.0) f n.2 in
      next i (subst (λ (x : Visit). i < children_in image x.place) same inside) (there ∙ ap (λ (x : Visit). Some (child_of image x i)) same) (ap position_in n.1 ∙ link.1))

-- ---- the names of its children

table_ends : (image : List ℕ) (end used t n : ℕ) → Kept (table_rows image end used t n) → t + table_length n ≤ end + 1
unfolding table_rows
table_ends image end used t n h = (fits_tells end t (table_length n) (and_parts _ _ h.0).0).1

module _ (image : List ℕ) (kept : List Visit) (left : List (Visit × Fault)) (part : IsSoundPart image kept left) (some : 0 < length kept) (ends : last_byte image < length image) (low : last_byte image < 2 ^ 44) where
  pub name_here : (k : ℕ) (v : Visit) → slice_get kept k ≡ Some v → RowsKept image (is_wide image) (last_byte image) v → (i c : ℕ) → i < children_in image v.place → slice_get kept c ≡ Some (child_of image v i)
      → HasName image (table_in image v.place + 16 + 44 * i) (name_at (tree_of image kept) c)
  name_here k v e rows i c inside at =
      let less = fewer image (last_byte image) v rows in
      let fit = table_ends image (last_byte image) rows.used (table_in image v.place) (entries_in image v.place)
      (unless_kept (entries_in image v.place == 0) (table_rows image (last_byte image) rows.used (table_in image v.place) (entries_in image v.place)) (not_none (entries_in image v.place) (omega (arith, less, inside))) rows.table) in
      record {
        near = omega (arith, fit, less, inside, low);
        says = at_field image (table_in image v.place + 16 + 44 * i) 32 (omega (arith, fit, less, inside, ends))
            ∙ sym (padded-trimmed (entry_name image (table_in image v.place) i) 32 (whole_name image kept left part some k v e i c at))
            ∙ ap (text_field 32) (sym (child_named image kept left part some k v e i c at));
      }
    where
      not_none : (n : ℕ) → 0 < n → (n == 0) ≡ false
      not_none n h = grind (arith, nat_tests)

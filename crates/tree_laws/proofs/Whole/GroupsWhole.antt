-- A group of edits that goes on by one more leaves what a group leaves.
use Rattle.std.proofs.Common.{◌≡◌, ◌⊎◌, inl, inr, ℕ, suc, refl, sym, ◌∙◌, ap, subst, arith, List, [], ◌∷◌, ◌++◌, length, take, ◌+◌, ◌-◌, ◌*◌, ◌<◌, ◌≤◌, le_refl}
use Rattle.std.proofs.Math.Nat.{mul-le-mul_left}
use Rattle.std.proofs.lemmas.Bool.Decides.{leb_tells}
use Rattle.std.proofs.lemmas.List.Elements.{Contains-append_left, Contains-append_right}
use Rattle.std.specs.Prelude.{Some, Ok}
use Rattle.std.specs.List.{Contains}
use Rattle.adf_format.specs.Fields.{field}
use Rattle.adf_format.specs.Tree.{Tree, node_at, children_at}
use Rattle.adf_format.specs.Parts.{dimension_digits}
use Rattle.adf_format.specs.Placement.{Placement, NodeParts, TablePart, parts_of, live_extents}
use Rattle.adf_format.specs.LaysOut.{entry_count}
use Rattle.adf_format.proofs.FieldLaws.{inner_field}
use Rattle.adf_model.specs.declared.tree.Edit.{Edit}
use Rattle.adf_model.specs.Placing.{place_group}
use Rattle.adf_model.specs.Untouched.{touched_extents, group_touched, group_shaped, most_in, most_dims, most_children, rank_of, KeepsRest, KeepsTail}
use Rattle.adf_model.proofs.Creation.CreatedNodes.{there_inside}
use Rattle.adf_model.proofs.Basics.{same_Some}
use Rattle.adf_model.specs.FileGroup.{done_by}
use Rattle.tree_laws.specs.Groups.{tree_left}
use Rattle.tree_laws.specs.Spared.{KeepsPlaces}
use Rattle.tree_laws.specs.WholeGroups.{WholeGroupBegins, WholeGroupGoesOn}
use Rattle.tree_laws.proofs.Groups.GroupsGrow.{placement_is_left, touched_grow, shaped_grow}
use Rattle.tree_laws.proofs.Groups.GroupLoop.{done_more, made_more, placed_more, left_before, wide_before}
use Rattle.tree_laws.proofs.Leaving.TailsKept.{ends_rise}
use Rattle.tree_laws.proofs.Whole.Ends.{nothing_behind}

-- ---- the most that is counted over a group

most_first : (count : Tree → ℕ) (tree : Tree) (done : List (Edit × Tree)) (e : Edit × Tree) → most_in count tree done ≤ most_in count tree (done ++ e ∷ [])
most_first count tree [] e = omega arith
most_first count tree (x ∷ done) e = let rest = most_first count x.1 done e in omega (arith, rest)

most_last : (count : Tree → ℕ) (tree : Tree) (done : List (Edit × Tree)) (e : Edit × Tree) → most_in count (tree_left tree done) (e ∷ []) ≤ most_in count tree (done ++ e ∷ [])
most_last count tree [] e = omega arith
most_last count tree (x ∷ done) e = let rest = most_last count x.1 done e in omega (arith, rest)

-- ---- a field that stays, and a field in it

empty_field : (xs : List ℕ) (o n : ℕ) → n ≡ 0 → field xs o n ≡ []
empty_field xs o n e = ap (λ k. field xs o k) e

-- what stays behind one spot stays behind a later one
behind_more : (x y : List ℕ) (place was few more all : ℕ) → few ≤ more → field x (place + few) (all - few) ≡ field y (was + few) (all - few) → field x (place + more) (all - more) ≡ field y (was + more) (all - more)
behind_more x y place was few more all le e = elim (leb_tells all more) [
  | inl none ↦ (let z : all - more ≡ 0 = (let h = none.1 in omega (arith, h)) in empty_field x (place + more) (all - more) z ∙ sym (empty_field y (was + more) (all - more) z))
  | inr some ↦ (
      let lt = some.1 in
      let inside : (more - few) + (all - more) ≤ all - few = omega (arith, le, lt) in
      ap (λ o. field x o (all - more)) (omega (arith, le))
      ∙ sym (inner_field x (place + few) (all - few) (more - few) (all - more) inside)
      ∙ ap (λ bytes. field bytes (more - few) (all - more)) e
      ∙ inner_field y (was + few) (all - few) (more - few) (all - more) inside
      ∙ ap (λ o. field y o (all - more)) (omega (arith, le)))
]

module _ (limit : ℕ) (tree : Tree) (p q r : Placement) (done : List (Edit × Tree)) (e : Edit × Tree) (a b c : List ℕ) (placed : place_group limit tree p done ≡ Ok q) (wide : (tree_left tree done).wide ≡ tree.wide)
    (x : KeepsRest limit tree p done q a b) (xp : KeepsPlaces (group_touched limit tree p done) tree.wide p q)
    (y : KeepsRest limit (tree_left tree done) q (e ∷ []) r b c) (yp : KeepsPlaces (touched_extents (tree_left tree done) q e.0) (tree_left tree done).wide q r) where
  abbrev more : List (Edit × Tree)
  more = done ++ e ∷ []

  touched_is : group_touched limit tree p more ≡ group_touched limit tree p done ++ touched_extents (tree_left tree done) q e.0
  touched_is = touched_grow limit tree p done e ∙ ap (λ (m : Placement). group_touched limit tree p done ++ touched_extents (tree_left tree done) m e.0) (placement_is_left limit tree p q done placed)

  in_first : (f : _) → Contains (group_touched limit tree p done) f → Contains (group_touched limit tree p more) f
  in_first f k = subst (λ xs. Contains xs f) (sym touched_is) (Contains-append_left (group_touched limit tree p done) (touched_extents (tree_left tree done) q e.0) f k)

  in_last : (f : _) → Contains (touched_extents (tree_left tree done) q e.0) f → Contains (group_touched limit tree p more) f
  in_last f k = subst (λ xs. Contains xs f) (sym touched_is) (Contains-append_right (group_touched limit tree p done) (touched_extents (tree_left tree done) q e.0) f k)

  yw : KeepsPlaces (touched_extents (tree_left tree done) q e.0) tree.wide q r
  yw = subst (λ w. KeepsPlaces (touched_extents (tree_left tree done) q e.0) w q r) wide yp

  -- a node that is live at the end and was at the beginning was between
  between : (k : ℕ) (from to : NodeParts) → parts_of p k ≡ Some from → parts_of r k ≡ Some to → (mid : NodeParts) × (parts_of q k ≡ Some mid)
  between k from to at last = yw.before k to (let lt = there_inside p.parts k from at in let d = xp.drawn in omega (arith, lt, d)) last

  pub places_go_on : KeepsPlaces (group_touched limit tree p more) tree.wide p r
  places_go_on = record {
    parts = λ f live free. yw.parts f (xp.parts f live (λ k. free (in_first f k))) (λ k. free (in_last f k));
    headers = λ k from to at last. let m = between k from to at last in yw.headers k m.0 to m.1 last ∙ xp.headers k from m.0 at m.1;
    drawn = (let d = xp.drawn in let f = yw.drawn in omega (arith, d, f));
    before = λ k to lt last. let m = yw.before k to (let d = xp.drawn in omega (arith, lt, d)) last in xp.before k m.0 lt m.1;
    tables = λ k from to at last. let m = between k from to at last in longer from m.0 to (xp.tables k from m.0 at m.1) (yw.tables k m.0 to m.1 last);
  }
    where
      longer : (f m t : NodeParts) → (m.table ≡ f.table) ⊎ (entry_count f.table < entry_count m.table) → (t.table ≡ m.table) ⊎ (entry_count m.table < entry_count t.table) → (t.table ≡ f.table) ⊎ (entry_count f.table < entry_count t.table)
      longer f m t (inl one) (inl two) = inl (two ∙ one)
      longer f m t (inl one) (inr two) = inr (let s = ap entry_count one in omega (arith, s, two))
      longer f m t (inr one) (inl two) = inr (let s = ap entry_count two in omega (arith, s, one))
      longer f m t (inr one) (inr two) = inr (omega (arith, one, two))

  -- a table that stands at both ends stood between
  same_between : (k : ℕ) (from mid to : NodeParts) (t : TablePart) → parts_of p k ≡ Some from → parts_of q k ≡ Some mid → parts_of r k ≡ Some to → from.table ≡ Some t → to.table ≡ Some t → mid.table ≡ Some t
  same_between k from mid to t at m last has still = by_first (xp.tables k from mid at m) (yw.tables k mid to m last)
    where
      by_first : (mid.table ≡ from.table) ⊎ (entry_count from.table < entry_count mid.table) → (to.table ≡ mid.table) ⊎ (entry_count mid.table < entry_count to.table) → mid.table ≡ Some t
      by_first (inl same) later = same ∙ has
      by_first (inr longer) (inl same) = sym same ∙ still
      by_first (inr longer) (inr more_still) = absurd (let f = ap entry_count has in let g = ap entry_count still in omega (arith, longer, more_still, f, g))

  pub rest_goes_on : KeepsRest limit tree p more r a c
  rest_goes_on = record {
    parts = λ f live free.
        let one = x.parts f live (λ k. free (in_first f k)) in
        let two = subst (λ w. (Contains (live_extents w q) f) → (Contains (group_touched limit (tree_left tree done) q (e ∷ [])) f → ⊥) → Contains (live_extents w r) f × (field c f.place f.length ≡ field b f.place f.length)) wide (y.parts f) one.0
        (λ k. free (in_last f (subst (λ xs. Contains xs f) (nothing_behind (touched_extents (tree_left tree done) q e.0)) k))) in
        (two.0, two.1 ∙ one.1);
    head = λ k le none. y.head k le none ∙ x.head k le none;
    dims = λ k from to free at last.
        let m = between k from to at last in
        subst (λ w. field c (to.header + 130) (12 * dimension_digits w) ≡ field b (m.0.header + 130) (12 * dimension_digits w)) wide
        (y.dims k m.0 to (λ s. free (subst (λ xs. Contains xs k) (sym (shaped_grow done e)) (Contains-append_right (group_shaped done) (group_shaped (e ∷ [])) k s))) m.1 last)
        ∙ x.dims k from m.0 (λ s. free (subst (λ xs. Contains xs k) (sym (shaped_grow done e)) (Contains-append_left (group_shaped done) (group_shaped (e ∷ [])) k s))) at m.1;
    past_rank = λ k from to at last.
        let m = between k from to at last in
        let d = dimension_digits tree.wide in
        behind_more c b (to.header + 130) (m.0.header + 130) (most_dims (tree_left tree done) (e ∷ []) k * dimension_digits tree.wide) (most_dims tree more k * dimension_digits tree.wide) (12 * dimension_digits tree.wide)
        (product (dimension_digits tree.wide) (most_dims (tree_left tree done) (e ∷ []) k) (most_dims tree more k) (most_last (λ (t : Tree). rank_of (node_at t k)) tree done e))
        (subst (λ w. field c (to.header + 130 + most_dims (tree_left tree done) (e ∷ []) k * dimension_digits w) (12 * dimension_digits w - most_dims (tree_left tree done) (e ∷ []) k * dimension_digits w)
        ≡ field b (m.0.header + 130 + most_dims (tree_left tree done) (e ∷ []) k * dimension_digits w) (12 * dimension_digits w - most_dims (tree_left tree done) (e ∷ []) k * dimension_digits w)) wide (y.past_rank k m.0 to m.1 last))
        ∙ behind_more b a (m.0.header + 130) (from.header + 130) (most_dims tree done k * dimension_digits tree.wide) (most_dims tree more k * dimension_digits tree.wide) (12 * dimension_digits tree.wide)
        (product (dimension_digits tree.wide) (most_dims tree done k) (most_dims tree more k) (most_first (λ (t : Tree). rank_of (node_at t k)) tree done e)) (x.past_rank k from m.0 at m.1);
    unused = λ k from to t at last has still.
        let m = between k from to at last in
        let mid = same_between k from m.0 to t at m.1 last has still in
        let two = most_last (λ (s : Tree). length (children_at s k)) tree done e in
        let one = most_first (λ (s : Tree). length (children_at s k)) tree done e in
        behind_more c b t.place t.place (16 + 44 * most_children (tree_left tree done) (e ∷ []) k) (16 + 44 * most_children tree more k) (16 + 44 * t.entries) (omega (arith, two)) (y.unused k m.0 to t m.1 last mid still)
        ∙ behind_more b a t.place t.place (16 + 44 * most_children tree done k) (16 + 44 * most_children tree more k) (16 + 44 * t.entries) (omega (arith, one)) (x.unused k from m.0 t at m.1 has mid);
  }
    where
      product : (d m n : ℕ) → m ≤ n → m * d ≤ n * d
      product d m n le = omega (arith, mul-le-mul_left d le)

-- a tail behind one end, and then behind a farther one
tail_goes_on : (end farther : ℕ) (a b c : List ℕ) → end ≤ farther → KeepsTail end a b → KeepsTail farther b c → KeepsTail farther a c
tail_goes_on end farther a b c le x y = record {
  longer = (let m = x.longer in let n = y.longer in omega (arith, m, n));
  grown = (let m = x.grown in let n = y.grown in omega (arith, m, n, le));
  tail = λ k past. y.tail k past ∙ x.tail k (omega (arith, le, past));
}

pub whole_group_begins : WholeGroupBegins
whole_group_begins limit writable tree p image l = record {
  made = refl;
  placed = refl;
  laid_out = l;
  rest = record {
    parts = λ e live free. (live, refl);
    head = λ k le none. refl;
    dims = λ k from to free at last. ap (λ (n : NodeParts). field image (n.header + 130) (12 * dimension_digits tree.wide)) (same_Some to from (sym last ∙ at));
    past_rank = λ k from to at last.
        ap (λ (n : NodeParts). field image (n.header + 130 + most_dims tree [] k * dimension_digits tree.wide) (12 * dimension_digits tree.wide - most_dims tree [] k * dimension_digits tree.wide)) (same_Some to from (sym last ∙ at));
    unused = λ k from to t at last has still. refl;
  };
  tail = record { longer = le_refl (length image); grown = omega arith; tail = λ k past. refl };
  places = record {
    parts = λ e live free. live;
    headers = λ k from to at last. ap (λ (n : NodeParts). n.header) (same_Some to from (sym last ∙ at));
    drawn = le_refl (length p.parts);
    before = λ k to lt last. (to, last);
    tables = λ k from to at last. inl (ap (λ (n : NodeParts). n.table) (same_Some to from (sym last ∙ at)));
  };
}

pub whole_group_goes_on : WholeGroupGoesOn
whole_group_goes_on limit writable edits i edit tree p work after q r a b c there g e = record {
  made = made_more writable edits i edit tree work after there g.made e.made;
  placed = placed_more writable edits i edit tree work after there g.made e.made limit p q g.placed ∙ e.placed;
  laid_out = e.laid_out;
  rest = subst (λ ds. KeepsRest limit tree p ds r a c) (sym grown) (rest_goes_on limit tree p q r (done_by writable tree (take i edits)) (edit, after) a b c g.placed wide g.rest g.places rest places);
  tail = tail_goes_on q.heap.end r.heap.end a b c (ends_rise limit work.tree after q r edit e.placed) g.tail e.tail;
  places = subst (λ ds. KeepsPlaces (group_touched limit tree p ds) tree.wide p r) (sym grown) (places_go_on limit tree p q r (done_by writable tree (take i edits)) (edit, after) a b c g.placed wide g.rest g.places rest places);
}
  where
    grown : done_by writable tree (take (suc i) edits) ≡ done_by writable tree (take i edits) ++ (edit, after) ∷ []
    grown = done_more writable edits i edit tree work after there g.made e.made

    left : tree_left tree (done_by writable tree (take i edits)) ≡ work.tree
    left = left_before writable edits i edit tree work after there g.made e.made

    wide : (tree_left tree (done_by writable tree (take i edits))).wide ≡ tree.wide
    wide = ap (λ (t : Tree). t.wide) left ∙ wide_before writable edits i edit tree work after there g.made e.made

    rest : KeepsRest limit (tree_left tree (done_by writable tree (take i edits))) q ((edit, after) ∷ []) r b c
    rest = subst (λ t. KeepsRest limit t q ((edit, after) ∷ []) r b c) (sym left) e.rest

    places : KeepsPlaces (touched_extents (tree_left tree (done_by writable tree (take i edits))) q edit) (tree_left tree (done_by writable tree (take i edits))).wide q r
    places = subst (λ t. KeepsPlaces (touched_extents t q edit) t.wide q r) (sym left) e.places

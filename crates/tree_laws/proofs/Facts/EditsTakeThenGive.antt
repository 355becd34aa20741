-- Each edit that is placed takes ranges of the heap, and then gives others.
use Rattle.std.proofs.Common.{◌≡◌, ℕ, suc, refl, sym, ◌∙◌, ap, subst, arith, Bool, true, false, not, List, [], ◌∷◌, length, cond}
use Rattle.std.proofs.lemmas.List.{length-map}
use Rattle.std.specs.Prelude.{Option, Some, None, IsSome, is_some, Result, Ok, Err}
use Rattle.std.specs.List.{flat_map}
use Rattle.adf_format.specs.declared.types.ExtentKind.{ExtentKind}
use Rattle.adf_format.specs.Tree.{Tree, Node, node_at, next_serial, is_live, erased_from}
use Rattle.adf_format.specs.Tiles.{cover}
use Rattle.adf_format.specs.Parts.{node_length}
use Rattle.adf_format.specs.Placement.{Placement, NodeParts, Heap, extent, parts_of, extents_of, live_extents}
use Rattle.adf_format.specs.LaysOut.{LaysOut}
use Rattle.adf_format.specs.HeapRule.{LimitReached, GrownTable, no_parts, with_new_parts, grow_table, after_gives, place_data, place_new, place_deleted, place_moved, data_at, ◌>>=◌}
use Rattle.adf_format.proofs.BehindEnd.{AllLong, long_node}
use Rattle.adf_format.proofs.LayoutLaws.{live_parts}
use Rattle.adf_model.specs.declared.tree.Edit.TheVariants.{Create, Delete, Rename, Move, SetLabel, SetDims, PutAll, PutPart, Link}
use Rattle.adf_model.proofs.Basics.{not_true, not_Err, same_Ok}
use Rattle.adf_model.proofs.Creation.PartsApart.{cover_last}
use Rattle.tree_laws.specs.Placed.{TakesThenGives, EditTakesThenGives}
use Rattle.tree_laws.proofs.Deletes.NodesLeft.{cover_erased}
use Rattle.tree_laws.proofs.Groups.GroupLeft.{edit_keeps_format}
use Rattle.tree_laws.proofs.Facts.TakenThenGiven.{Came, Has, begins, became, ends, takes_bytes, table_came, data_came, last_gifts, long_each, long_last, long_erased, some_node, has_last, is_last}

-- a result that is no refusal has come by a value
by_value : {A B : Type 0} (r : Result A LimitReached) (f : A → Result B LimitReached) (b : B) → (r >>= f) ≡ Ok b → (a : A) × (r ≡ Ok a) × (f a ≡ Ok b)
by_value (Ok a) f b e = (a, refl, e)
by_value (Err full) f b e = absurd (not_Err e)

module _ (limit : ℕ) (tree after : Tree) (p : Placement) (alive : AllLong (live_extents tree.wide p)) where
  abbrev wide : Bool
  wide = tree.wide

  -- ---- a new node

  new_node_came : (place : ℕ) (heap : Heap) → Came limit wide p (record p { heap = heap }) (extent ExtentKind.Filler place (node_length wide) ∷ []) [] → Came limit wide p (with_new_parts (record p { heap = heap }) place) [] []
  new_node_came place heap c =
      became limit wide p (record p { heap = heap }) (with_new_parts (record p { heap = heap }) place) (extent ExtentKind.Filler place (node_length wide) ∷ []) [] [] [] c refl
      (long_last (extents_of wide) p.parts (Some (record no_parts { header = place })) alive (some_node wide, tt)) tt
      (λ b. let last = cover_last (extents_of wide) p.parts b (Some (record no_parts { header = place })) in omega (arith, last))

  new_came : (s : ℕ) (q : Placement) → Has p s → next_serial tree ≡ length p.parts → place_new limit tree after s p ≡ Ok q → TakesThenGives limit wide p q
  new_came s q has as_many made =
      let h = takes_bytes limit wide p p [] [] (node_length wide) _ q (some_node wide) (begins limit wide p alive) made in
      let c = new_node_came h.0 h.1 h.2 in
      let g = by_value (grow_table limit tree s (with_new_parts (record p { heap = h.1 }) h.0)) _ q h.3 in
      let t = table_came limit wide p tree s (with_new_parts (record p { heap = h.1 }) h.0) g.0 c (has_last p.parts s (Some (record no_parts { header = h.0 })) has) g.1 in
      let d = by_value (place_data limit g.0.placed (next_serial tree) (data_at after (next_serial tree))) _ q g.2 in
      let b = data_came limit wide p g.0.placed (next_serial tree) (data_at after (next_serial tree)) g.0.given d.0 t.0 (t.1 (next_serial tree) (is_last p.parts (next_serial tree) (record no_parts { header = h.0 }) as_many)) d.1 in
      subst (TakesThenGives limit wide p) (same_Ok d.2) (last_gifts limit wide p d.0 g.0.given b)

  -- ---- data, and a longer table

  data_placed : (s : ℕ) (q : Placement) → Has p s → place_data limit p s (data_at after s) ≡ Ok q → TakesThenGives limit wide p q
  data_placed s q has made = last_gifts limit wide p q [] (data_came limit wide p p s (data_at after s) [] q (begins limit wide p alive) has made)

  moved_placed : (s : ℕ) (q : Placement) → Has p s → place_moved limit tree s p ≡ Ok q → TakesThenGives limit wide p q
  moved_placed s q has made =
      let g = by_value (grow_table limit tree s p) (λ (g : GrownTable). Ok (after_gives g.placed g.given)) q made in
      let t = table_came limit wide p tree s p g.0 (begins limit wide p alive) has g.1 in
      subst (TakesThenGives limit wide p) (same_Ok g.2) (ends limit wide p g.0.placed g.0.given t.0)

  -- ---- nodes that are gone

  erased_alike : (k : ℕ) (f g : ℕ → Bool) (xs : List (Option NodeParts)) → ((j : ℕ) → f j ≡ g j) → erased_from k f xs ≡ erased_from k g xs
  erased_alike k f g [] same = refl
  erased_alike k f g (x ∷ xs) same = ap (λ b. (cond b None x) ∷ erased_from (suc k) f xs) (same k) ∙ ap (λ ys. (cond (g k) None x) ∷ ys) (erased_alike (suc k) f g xs same)

  twice : (b : Bool) → not (not b) ≡ b
  twice true = refl
  twice false = refl

  deleted_placed : after.wide ≡ wide → TakesThenGives limit wide p (place_deleted after p)
  deleted_placed same =
      subst (λ w. TakesThenGives limit wide p (after_gives (record p { parts = erased_from 0 (λ serial. not (is_live after serial)) p.parts }) (flat_map (extents_of w) (erased_from 0 (is_live after) p.parts)))) (sym same)
      (ends limit wide p (record p { parts = erased_from 0 (λ serial. not (is_live after serial)) p.parts }) (flat_map (extents_of wide) (erased_from 0 (is_live after) p.parts))
      (became limit wide p p (record p { parts = erased_from 0 (λ serial. not (is_live after serial)) p.parts }) [] [] [] (flat_map (extents_of wide) (erased_from 0 (is_live after) p.parts)) (begins limit wide p alive) refl
      (long_erased (extents_of wide) refl 0 (λ serial. not (is_live after serial)) p.parts alive) (long_erased (extents_of wide) refl 0 (is_live after) p.parts alive)
      (λ b.
      let all = cover_erased wide 0 (λ serial. not (is_live after serial)) p.parts b in
      let other : cover (flat_map (extents_of wide) (erased_from 0 (λ j. not (not (is_live after j))) p.parts)) b ≡ cover (flat_map (extents_of wide) (erased_from 0 (is_live after) p.parts)) b =
      ap (λ xs. cover (flat_map (extents_of wide) xs) b) (erased_alike 0 (λ j. not (not (is_live after j))) (is_live after) p.parts (λ j. twice (is_live after j))) in
      omega (arith, all, other))))

-- ---- each edit

-- all parts of a layout have bytes
all_alive : (image : List ℕ) (tree : Tree) (p : Placement) → LaysOut image tree p → AllLong (live_extents tree.wide p)
all_alive image tree p l = long_each (extents_of tree.wide) p.parts (λ k lt. by_parts k (parts_of p k) refl (node_at tree k) refl)
  where
    by_parts : (k : ℕ) (o : Option NodeParts) → parts_of p k ≡ o → (n : Option Node) → node_at tree k ≡ n → AllLong (extents_of tree.wide o)
    by_parts k None e n f = tt
    by_parts k (Some parts) e None f = absurd (not_true (sym (ap is_some f) ∙ sym (live_parts image tree p l k) ∙ ap is_some e))
    by_parts k (Some parts) e (Some node) f = long_node image tree p node parts (l.nodes k node parts f e)

module _ (limit : ℕ) (image : List ℕ) (tree after : Tree) (p q : Placement) (l : LaysOut image tree p) where
  alive : AllLong (live_extents tree.wide p)
  alive = all_alive image tree p l

  has : (k : ℕ) → IsSome (node_at tree k) → Has p k
  has k live = live_parts image tree p l k ∙ live

  as_many : next_serial tree ≡ length p.parts
  as_many = sym (length-map tree.nodes is_some) ∙ sym (ap (λ (bs : List Bool). length bs) l.same_nodes) ∙ length-map p.parts is_some

pub edit_takes_then_gives : EditTakesThenGives
edit_takes_then_gives limit image tree after p q (Create at wanted label) l reached made placed = new_came limit tree after p (alive limit image tree after p q l) at.serial q (has limit image tree after p q l at.serial (reached.live at refl)) (as_many limit image tree after p q l) placed
edit_takes_then_gives limit image tree after p q (Link at wanted file path) l reached made placed = new_came limit tree after p (alive limit image tree after p q l) at.serial q (has limit image tree after p q l at.serial (reached.live at refl)) (as_many limit image tree after p q l) placed
edit_takes_then_gives limit image tree after p q (Delete node) l reached made placed = subst (TakesThenGives limit tree.wide p) (same_Ok placed) (deleted_placed limit tree after p (alive limit image tree after p q l) (edit_keeps_format tree after (Delete node) made).0)
edit_takes_then_gives limit image tree after p q (Move node to) l reached made placed = moved_placed limit tree after p (alive limit image tree after p q l) to.serial q (has limit image tree after p q l to.serial (reached.live to refl)) placed
edit_takes_then_gives limit image tree after p q (Rename node wanted) l reached made placed = subst (TakesThenGives limit tree.wide p) (same_Ok placed) (ends limit tree.wide p p [] (begins limit tree.wide p (alive limit image tree after p q l)))
edit_takes_then_gives limit image tree after p q (SetLabel node label) l reached made placed = subst (TakesThenGives limit tree.wide p) (same_Ok placed) (ends limit tree.wide p p [] (begins limit tree.wide p (alive limit image tree after p q l)))
edit_takes_then_gives limit image tree after p q (SetDims node shape) l reached made placed = data_placed limit tree after p (alive limit image tree after p q l) node.serial q (has limit image tree after p q l node.serial (reached.live node refl)) placed
edit_takes_then_gives limit image tree after p q (PutAll node given) l reached made placed = data_placed limit tree after p (alive limit image tree after p q l) node.serial q (has limit image tree after p q l node.serial (reached.live node refl)) placed
edit_takes_then_gives limit image tree after p q (PutPart node selection given) l reached made placed = data_placed limit tree after p (alive limit image tree after p q l) node.serial q (has limit image tree after p q l node.serial (reached.live node refl)) placed

-- What stays where a table is replaced by a longer one: all parts but the old table and the header that names it; and what stays over that and a step that follows it.
use Rattle.std.proofs.Common.{◌≡◌, ◌≢◌, ◌⊎◌, inl, inr, ℕ, sym, ◌∙◌, ap, subst, arith, List, [], ◌∷◌, length, ◌+◌, ◌*◌, ◌<◌, ◌≤◌}
use Rattle.std.proofs.lemmas.List.{length-set}
use Rattle.std.specs.Prelude.{Option, Some, None}
use Rattle.std.specs.List.{Contains}
use Rattle.adf_format.specs.declared.types.Extent.{Extent}
use Rattle.adf_format.specs.declared.types.ExtentKind.{ExtentKind}
use Rattle.adf_format.specs.Fields.{field}
use Rattle.adf_format.specs.Tree.{Tree}
use Rattle.adf_format.specs.Tiles.{cover}
use Rattle.adf_format.specs.Parts.{node_length, table_length, dimension_digits}
use Rattle.adf_format.specs.Placement.{Placement, NodeParts, parts_of, extent, extents_of, node_extents, live_extents}
use Rattle.adf_format.specs.Changes.{Writes}
use Rattle.adf_format.proofs.HeapLaws.{in_range}
use Rattle.adf_format.proofs.LayoutLaws.{one_of}
use Rattle.adf_model.proofs.Basics.{same_Some}
use Rattle.adf_model.proofs.Creation.CreatedNodes.{there_inside}
use Rattle.adf_model.proofs.Creation.PartsApart.{range_in, range_within, cover_all, cover_two}
use Rattle.tree_laws.specs.Holding.{Holds, ChangesIn}
use Rattle.tree_laws.specs.Leaving.{Leaves}
use Rattle.tree_laws.specs.Moving.{LongerLeaves, with_longer}
use Rattle.adf_format.specs.HeapRule.{parts_or_none}
use Rattle.tree_laws.proofs.Holding.Steps.{within, once}
use Rattle.tree_laws.proofs.Edits.LabelSet.{set_here, set_there, written_in}
use Rattle.tree_laws.proofs.Leaving.LeavingLaws.{contains_cover, live_kept, head_byte, header_byte, leaves_more}
use Rattle.tree_laws.proofs.Leaving.ListsLeave.{list_extents, list_or_data, list_split, data_in_node, count_or_dims}
use Rattle.tree_laws.proofs.Moves.MovedNodes.{is_or_not}
use Rattle.tree_laws.proofs.Holding.OwnRanges.{least, data_extents}
use Rattle.adf_model.proofs.Creation.PartExtents.{node_of, of_node}

module _ (old new text : List ℕ) (tree : Tree) (p : Placement) (taken : List Extent) (serial table entries : ℕ) (from : NodeParts) (h : Holds old tree p taken) (placed : parts_of p serial ≡ Some from) (w : Writes (from.header + 68) text old new) (long : length text ≡ 28) where
  abbrev q : Placement
  q = with_longer p serial from table entries

  abbrev now : NodeParts
  now = record from { table = Some (record { place = table; entries = entries }) }

  abbrev ranges : List Extent
  ranges = extent ExtentKind.Node (from.header + 68) 28 ∷ []

  changes : ChangesIn ranges old new
  changes = written_in ExtentKind.Node (from.header + 68) 28 text old new w long

  inside : serial < length p.parts
  inside = there_inside p.parts serial from placed

  own_is : (b : ℕ) → cover (extents_of tree.wide (parts_of p serial)) b ≡ cover (node_extents tree.wide from) b
  own_is b = ap (λ (o : Option NodeParts). cover (extents_of tree.wide o) b) placed

  in_header : (b : ℕ) → cover ranges b ≤ in_range from.header (node_length tree.wide) b
  in_header b = let m = least tree.wide in let x = range_within from.header (node_length tree.wide) (from.header + 68) 28 b (omega arith) (omega (arith, m)) in omega (arith, x)

  own_apart : (b : ℕ) → in_range from.header (node_length tree.wide) b + cover (data_extents from) b ≤ 1
  own_apart b = let l = one_of tree.wide p.parts serial b from placed in let s = list_split tree.wide from b in let one = once old tree p taken h b in omega (arith, l, s, one)

  apart : (k : ℕ) (ms : NodeParts) (b : ℕ) → k ≢ serial → parts_of p k ≡ Some ms → 0 < cover (node_extents tree.wide ms) b → cover ranges b ≡ 0
  apart k ms b differ at some =
      let two = cover_two (extents_of tree.wide) p.parts serial k b inside (there_inside p.parts k ms at) differ in
      let its : cover (extents_of tree.wide (parts_of p k)) b ≡ cover (node_extents tree.wide ms) b = ap (λ (o : Option NodeParts). cover (extents_of tree.wide o) b) at in
      let x = own_is b in let i = in_header b in let one = once old tree p taken h b in
      omega (arith, two, its, x, i, one, some)

  now_at : parts_of q serial ≡ Some now
  now_at = set_here p.parts serial (Some now) None inside

  part_left : (e : Extent) → Contains (live_extents tree.wide p) e → (Contains (list_extents tree.wide from) e → ⊥) → (k : ℕ) (ms : NodeParts) → parts_of p k ≡ Some ms → Contains (node_extents tree.wide ms) e
      → Contains (live_extents tree.wide q) e × (field new e.place e.length ≡ field old e.place e.length)
  part_left e live free k ms at own = elim (is_or_not k serial) [
    | inl same ↦ (
        let is : ms ≡ from = same_Some ms from (sym at ∙ ap (parts_of p) same ∙ placed) in
        elim (list_or_data tree.wide from e (subst (λ (x : NodeParts). Contains (node_extents tree.wide x) e) is own)) [
          | inl list ↦ absurd (free list)
          | inr datum ↦ (
            of_node tree.wide q.parts serial now e now_at (data_in_node tree.wide now e datum),
            live_kept ranges old new tree p taken h changes e.place e.length (λ b low high. (
              contains_cover (live_extents tree.wide p) e b live low high,
              (let some = contains_cover (data_extents from) e b datum low high in let i = in_header b in let one = own_apart b in omega (arith, some, i, one)),
            )),
          )
        ]
        )
    | inr differ ↦ (
      of_node tree.wide q.parts k ms e (set_there p.parts serial k (Some now) None differ ∙ at) own,
      live_kept ranges old new tree p taken h changes e.place e.length
          (λ b low high. (contains_cover (live_extents tree.wide p) e b live low high, apart k ms b differ at (contains_cover (node_extents tree.wide ms) e b own low high))),
    )
  ]

  dims_left : (k : ℕ) (ms to : NodeParts) → parts_of p k ≡ Some ms → parts_of q k ≡ Some to → field new (to.header + 130) (12 * dimension_digits tree.wide) ≡ field old (ms.header + 130) (12 * dimension_digits tree.wide)
  dims_left k ms to at then = ap (λ (n : ℕ). field new (n + 130) (12 * dimension_digits tree.wide)) (sym same_header) ∙ live_kept ranges old new tree p taken h changes (ms.header + 130) (12 * dimension_digits tree.wide) (λ b low high.
      let some = header_byte tree.wide ms b low high in
      let live = one_of tree.wide p.parts k b ms at in
      (omega (arith, some, live), clear b (range_in (ms.header + 130) (12 * dimension_digits tree.wide) b low high) some))
    where
      same_header : ms.header ≡ to.header
      same_header = elim (is_or_not k serial) [
        | inl same ↦ ap (λ (x : NodeParts). x.header) (same_Some ms from (sym at ∙ ap (parts_of p) same ∙ placed)) ∙ ap (λ (x : NodeParts). x.header) (same_Some now to (sym now_at ∙ ap (parts_of q) (sym same) ∙ then))
        | inr differ ↦ ap (λ (x : NodeParts). x.header) (same_Some ms to (sym at ∙ sym (set_there p.parts serial k (Some now) None differ) ∙ then))
      ]

      clear : (b : ℕ) → in_range (ms.header + 130) (12 * dimension_digits tree.wide) b ≡ 1 → 0 < cover (node_extents tree.wide ms) b → cover ranges b ≡ 0
      clear b held some = elim (is_or_not k serial) [
        | inl same ↦ (
            let is : ms.header ≡ from.header = ap (λ (x : NodeParts). x.header) (same_Some ms from (sym at ∙ ap (parts_of p) same ∙ placed)) in
            let here : in_range (from.header + 130) (12 * dimension_digits tree.wide) b ≡ 1 = subst (λ (n : ℕ). in_range (n + 130) (12 * dimension_digits tree.wide) b ≡ 1) is held in
            let d = count_or_dims tree.wide from.header 28 b (omega arith) in let one = own_apart b in
            omega (arith, here, d, one)
            )
        | inr differ ↦ apart k ms b differ at some
      ]

  pub table_leaves : Leaves (list_extents tree.wide from) [] tree.wide p q old new
  table_leaves = record {
    parts = λ e live free. let n = node_of tree.wide p.parts e live in part_left e live free n.0 n.1 n.2 n.3;
    head = λ b le none. changes.others b (within old tree p taken h b (let i = head_byte b le in let all = cover_all tree.wide p b in omega (arith, i, all)))
        (let i = head_byte b le in let r = in_header b in let l = one_of tree.wide p.parts serial b from placed in let one = once old tree p taken h b in omega (arith, i, r, l, one));
    dims = λ k ms to free at then. dims_left k ms to at then;
    drawn = (let e = length-set p.parts serial (Some now) in omega (arith, e));
    before = λ k to lt there. elim (is_or_not k serial) [ inl same ↦ (from, ap (parts_of p) same ∙ placed) | inr differ ↦ (to, sym (set_there p.parts serial k (Some now) None differ) ∙ there) ];
  }

  -- and a step from there on, which may also touch the new table
  pub longer_leaves : (third few more : List Extent) (kind : ExtentKind) (image : List ℕ) → taken ≡ extent kind table (table_length entries) ∷ third → ((e : Extent) → Contains (list_extents tree.wide from) e → Contains few e)
      → ((e : Extent) → Contains more e → Contains few e ⊎ (e ≡ extent ExtentKind.SubNodes table (table_length entries))) → Leaves more [] tree.wide q q new image → Leaves few [] tree.wide p q old image
  longer_leaves third few more kind image is in_few either y =
      let x = leaves_more (list_extents tree.wide from) few [] [] tree.wide p q old new in_few (λ k c. c) table_leaves in record {
        parts = λ e live free. let m = x.parts e live free in let n = y.parts e m.0 (λ c. not_more e live free c) in (n.0, n.1 ∙ m.1);
        head = λ b le none. y.head b le none ∙ x.head b le none;
        dims = λ k ms to free at there.
            let lt : k < length p.parts = there_inside p.parts k ms at in
            let m = y.before k to (let d = x.drawn in omega (arith, lt, d)) there in
            y.dims k m.0 to free m.1 there ∙ x.dims k ms m.0 free at m.1;
        drawn = x.drawn;
        before = x.before;
      }
    where
      not_more : (e : Extent) → Contains (live_extents tree.wide p) e → (Contains few e → ⊥) → Contains more e → ⊥
      not_more e live free c = elim (either e c) [
        | inl f ↦ free f
        | inr same ↦ (
            let here : 0 < cover (live_extents tree.wide p) table = contains_cover (live_extents tree.wide p) (extent ExtentKind.SubNodes table (table_length entries)) table (subst (λ x. Contains (live_extents tree.wide p) x) same live) (omega arith) (omega arith) in
            let held = range_in table (table_length entries) table (omega arith) (omega arith) in
            let both = once old tree p taken h table in
            let there : cover taken table ≡ in_range table (table_length entries) table + cover third table = ap (λ xs. cover xs table) is in
            omega (arith, here, held, both, there)
            )
      ]

pub longer_leave : LongerLeaves
longer_leave old grown text tree p taken serial table entries parts h placed w long =
    subst (λ xs. Leaves xs [] tree.wide p (with_longer p serial parts table entries) old grown) (sym (ap (λ (o : Option NodeParts). list_extents tree.wide (parts_or_none o)) placed))
    (table_leaves old grown text tree p taken serial table entries parts h placed w long)

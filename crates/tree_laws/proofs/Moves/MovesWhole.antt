-- A move in the words of the edit: its writes lead from the tree before to the tree after, in one step.
use Rattle.std.proofs.Common.{◌≡◌, ◌≢◌, ◌⊎◌, inl, inr, ℕ, suc, refl, sym, ◌∙◌, ap, subst, arith, List, [], ◌∷◌, ◌++◌, length, length-append, ◌+◌, ◌-◌, ◌*◌, ◌<◌, Bool, false}
use Rattle.std.proofs.lemmas.List.Elements.{Contains-append_left, Contains-append_right, Contains-append_cases}
use Rattle.std.specs.List.{Contains}
use Rattle.std.specs.Prelude.{Option, Some, None, slice_get}
use Rattle.adf_format.specs.declared.types.Extent.{Extent}
use Rattle.adf_format.specs.Hex.{hex_text}
use Rattle.adf_format.specs.declared.types.ExtentKind.{ExtentKind}
use Rattle.adf_format.specs.Parts.{node_length, table_length}
use Rattle.adf_format.proofs.HexLaws.{length-hex_text}
use Rattle.adf_format.proofs.SpelledParts.{length-pointer_text}
use Rattle.adf_format.specs.Pointer.{To, pointer_text}
use Rattle.adf_format.specs.Fields.{field, text_field}
use Rattle.adf_format.specs.Names.{is_lk}
use Rattle.adf_format.specs.declared.types.DataType.{DataType}
use Rattle.adf_format.specs.declared.types.DataType.TheVariants.{Mt, I4, I8, U4, U8, R4, R8, X4, X8, B1, C1, Lk}
use Rattle.adf_format.specs.Tree.{Tree, Node, IsTree, IsAmong, is_link_in, node_at, children_of, children_at, name_at, parent_of, is_within}
use Rattle.adf_format.specs.Placement.{Placement, NodeParts, TablePart, parts_of, extent, table_extents}
use Rattle.adf_format.specs.Changes.{Writes}
use Rattle.adf_format.specs.Records.{entry_text}
use Rattle.adf_model.specs.declared.tree.Edit.{Edit}
use Rattle.adf_model.specs.declared.tree.NodeId.{NodeId}
use Rattle.adf_model.specs.Edits.{moved}
use Rattle.adf_model.specs.Untouched.{touched_extents, of_parent, list_of}
use Rattle.adf_format.specs.HeapRule.{parts_or_none}
use Rattle.adf_model.proofs.Basics.{not_true, not_there, same_Some}
use Rattle.adf_model.proofs.Creation.CreatedNodes.{among_get, there_inside}
use Rattle.adf_model.proofs.Trees.AncestorLemmas.{live_with_child, within_itself}
use Rattle.adf_model.proofs.Keeping.MoveKeeps.{move_keeps}
use Rattle.tree_laws.specs.Holding.{Holds}
use Rattle.tree_laws.specs.Leaving.{Leaves}
use Rattle.tree_laws.specs.Moving.{SaysMove, ByLast, ByOver, ByLastLonger, ByOverLonger, LeavesMoved, MovesLast, MovesOver, MovesLastLonger, MovesOverLonger, with_longer}
use Rattle.tree_laws.proofs.Tables.TableReplaced.{node_too, table_is_replaced}
use Rattle.tree_laws.proofs.Edits.LabelSet.{set_here, set_there}
use Rattle.tree_laws.proofs.Leaving.ListsLeave.{list_extents, only_one}
use Rattle.tree_laws.proofs.Leaving.TableLeaves.{longer_leaves}
use Rattle.tree_laws.proofs.Moves.MovedNodes.{move_made}
use Rattle.tree_laws.proofs.Moves.MovedOver.{both_over}
use Rattle.tree_laws.proofs.Moves.MovedLast.{both_last}

-- what a move may touch: the lists of both parents
pub touched_is : (tree : Tree) (p : Placement) (node to : NodeId) (parent : ℕ) (from other : NodeParts) → parent_of tree node.serial ≡ Some parent → parts_of p parent ≡ Some from → parts_of p to.serial ≡ Some other
    → touched_extents tree p (Edit.Move node to) ≡ list_extents tree.wide from ++ list_extents tree.wide other
touched_is tree p node to parent from other above from_at other_at =
    ap (λ o. of_parent (list_of tree.wide p) o ++ list_of tree.wide p to.serial) above
    ∙ ap (λ (o : Option NodeParts). list_extents tree.wide (parts_or_none o) ++ list_of tree.wide p to.serial) from_at
    ∙ ap (λ (o : Option NodeParts). list_extents tree.wide from ++ list_extents tree.wide (parts_or_none o)) other_at

pub touched_first : (tree : Tree) (p : Placement) (node to : NodeId) (parent : ℕ) (from other : NodeParts) → parent_of tree node.serial ≡ Some parent → parts_of p parent ≡ Some from → parts_of p to.serial ≡ Some other
    → (e : Extent) → Contains (list_extents tree.wide from) e → Contains (touched_extents tree p (Edit.Move node to)) e
touched_first tree p node to parent from other above from_at other_at e c =
    subst (λ xs. Contains xs e) (sym (touched_is tree p node to parent from other above from_at other_at)) (Contains-append_left (list_extents tree.wide from) (list_extents tree.wide other) e c)

pub touched_second : (tree : Tree) (p : Placement) (node to : NodeId) (parent : ℕ) (from other : NodeParts) → parent_of tree node.serial ≡ Some parent → parts_of p parent ≡ Some from → parts_of p to.serial ≡ Some other
    → (e : Extent) → Contains (list_extents tree.wide other) e → Contains (touched_extents tree p (Edit.Move node to)) e
touched_second tree p node to parent from other above from_at other_at e c =
    subst (λ xs. Contains xs e) (sym (touched_is tree p node to parent from other above from_at other_at)) (Contains-append_right (list_extents tree.wide from) (list_extents tree.wide other) e c)

-- the file holds the moved tree, and all parts stay but those
abbrev Both : SaysMove
Both old new tree after p q kept node to = Holds new after q kept × Leaves (touched_extents tree p (Edit.Move node to)) [] tree.wide p q old new

over : ByOver Both
over old a b c new tree after p taken node to parent i from its other t u h e reached above differ listed from_at has its_at other_at too room closes x y =
    by_nodes (node_too tree p parent from h.same_nodes from_at) (node_too tree p to.serial other h.same_nodes other_at)
  where
    made : (from : ℕ) × (moved tree parent to.serial node.serial ≡ after)
    made = let m = move_made tree after node to e in (m.0, ap (λ q. moved tree q to.serial node.serial) (same_Some parent m.0 (sym above ∙ m.1)) ∙ m.3)

    sound : IsTree (moved tree parent to.serial node.serial)
    sound = subst IsTree (sym made.1) (move_keeps tree after node to h.is_tree (reached.live to refl) reached.no_link e)

    by_nodes : (up : Node) × (node_at tree parent ≡ Some up) → (target : Node) × (node_at tree to.serial ≡ Some target) → Both old new tree after p p taken node to
    by_nodes up target = subst (λ (r : Tree). Both old new tree r p p taken node to) made.1
        (both_over old a b c new tree p taken node.serial parent to.serial i up.0 target.0 from its other t u h up.1 target.1 from_at its_at other_at has too
        (subst (λ (o : Option Node). slice_get (children_of o) i ≡ Some node.serial) up.1 listed) differ
        (subst (λ (o : Option Node). length (children_of o) < u.entries) target.1 room)
        (subst (λ (n : ℕ). Writes (t.place + 16 + 44 * i) (field old (t.place + 16 + 44 * n) (44 * (length up.0.children - suc i))) old a) (omega arith)
        (subst (λ (o : Option Node). Writes (t.place + 16 + 44 * i) (field old (t.place + 16 + 44 * (i + 1)) (44 * (length (children_of o) - suc i))) old a) up.1 closes.entries))
        (subst (λ (o : Option Node). Writes (from.header + 68) (hex_text 8 (length (children_of o) - 1)) a b) up.1 closes.counted)
        (subst (λ (o : Option Node). Writes (u.place + 16 + 44 * length (children_of o)) (entry_text (text_field 32 (name_at tree node.serial)) (To its.header)) b c) target.1 x)
        (subst (λ (o : Option Node). Writes (other.header + 68) (hex_text 8 (suc (length (children_of o)))) c new) target.1 y) sound
        (touched_extents tree p (Edit.Move node to)) (touched_first tree p node to parent from other above from_at other_at) (touched_second tree p node to parent from other above from_at other_at))

pub moves_over : MovesOver
moves_over old a b c new tree after p taken node to parent i from its other t u h e reached above differ listed from_at has its_at other_at too room closes x y =
    (over old a b c new tree after p taken node to parent i from its other t u h e reached above differ listed from_at has its_at other_at too room closes x y).0

pub over_leave : ByOver LeavesMoved
over_leave old a b c new tree after p taken node to parent i from its other t u h e reached above differ listed from_at has its_at other_at too room closes x y =
    (over old a b c new tree after p taken node to parent i from its other t u h e reached above differ listed from_at has its_at other_at too room closes x y).1

-- a node with a child is no link
no_link_above : (tree : Tree) (k i c : ℕ) → IsTree tree → slice_get (children_at tree k) i ≡ Some c → is_link_in (node_at tree k) ≡ false
no_link_above tree k i c is e = by_node (node_at tree k) refl e
  where
    by_kind : (n : Node) → node_at tree k ≡ Some n → slice_get n.children i ≡ Some c → (kind : DataType) → n.kind ≡ kind → is_lk kind ≡ false
    by_kind n at e Mt same = refl
    by_kind n at e I4 same = refl
    by_kind n at e I8 same = refl
    by_kind n at e U4 same = refl
    by_kind n at e U8 same = refl
    by_kind n at e R4 same = refl
    by_kind n at e R8 same = refl
    by_kind n at e X4 same = refl
    by_kind n at e X8 same = refl
    by_kind n at e B1 same = refl
    by_kind n at e C1 same = refl
    by_kind n at e Lk same = absurd (not_there c (sym (ap (λ (xs : List ℕ). slice_get xs i) ((is.each k n at).link same).childless) ∙ e))

    by_node : (o : Option Node) → node_at tree k ≡ o → slice_get (children_of o) i ≡ Some c → is_link_in o ≡ false
    by_node None at e = refl
    by_node (Some n) at e = by_kind n at e n.kind refl

last : ByLast Both
last old new tree after p taken node to i from its t h e above listed from_at its_at has v = by_node (node_too tree p to.serial from h.same_nodes from_at)
  where
    made : (from : ℕ) × (moved tree to.serial to.serial node.serial ≡ after)
    made = let m = move_made tree after node to e in (m.0, ap (λ q. moved tree q to.serial node.serial) (same_Some to.serial m.0 (sym above ∙ m.1)) ∙ m.3)

    child : IsAmong (children_at tree to.serial) node.serial
    child = among_get (children_at tree to.serial) i node.serial listed

    sound : IsTree (moved tree to.serial to.serial node.serial)
    sound = subst IsTree (sym made.1) (move_keeps tree after node to h.is_tree (live_with_child tree to.serial node.serial child) (no_link_above tree to.serial i node.serial h.is_tree listed) e)

    by_node : (up : Node) × (node_at tree to.serial ≡ Some up) → Both old new tree after p p taken node to
    by_node up = subst (λ (r : Tree). Both old new tree r p p taken node to) made.1
        (both_last old new tree p taken node.serial to.serial i up.0 from its t h up.1 from_at its_at has
        (subst (λ (o : Option Node). slice_get (children_of o) i ≡ Some node.serial) up.1 listed)
        (subst (λ (n : ℕ). Writes (t.place + 16 + 44 * i) (field old (t.place + 16 + 44 * n) (44 * (length up.0.children - suc i)) ++ entry_text (text_field 32 (name_at tree node.serial)) (To its.header)) old new) (omega arith)
        (subst (λ (o : Option Node). Writes (t.place + 16 + 44 * i) (field old (t.place + 16 + 44 * (i + 1)) (44 * (length (children_of o) - suc i)) ++ entry_text (text_field 32 (name_at tree node.serial)) (To its.header)) old new) up.1 v))
        sound (touched_extents tree p (Edit.Move node to)) (touched_first tree p node to to.serial from from above from_at from_at))

pub moves_last : MovesLast
moves_last old new tree after p taken node to i from its t h e above listed from_at its_at has v = (last old new tree after p taken node to i from its t h e above listed from_at its_at has v).0

pub last_leave : ByLast LeavesMoved
last_leave old new tree after p taken node to i from its t h e above listed from_at its_at has v = (last old new tree after p taken node to i from its t h e above listed from_at its_at has v).1

-- ---- a full table is replaced first

-- the list of a node with a longer table: its header, which it had, and that table
longer_list : (wide : Bool) (parts : NodeParts) (spot : TablePart) (e : Extent) → Contains (list_extents wide (record parts { table = Some spot })) e → Contains (list_extents wide parts) e ⊎ (e ≡ extent ExtentKind.SubNodes spot.place (table_length spot.entries))
longer_list wide parts spot e c = elim (Contains-append_cases (extent ExtentKind.Node parts.header (node_length wide) ∷ []) (extent ExtentKind.SubNodes spot.place (table_length spot.entries) ∷ []) e c) [
  | inl header ↦ inl (Contains-append_left (extent ExtentKind.Node parts.header (node_length wide) ∷ []) (table_extents parts.table) e header)
  | inr table ↦ inr (sym (only_one (extent ExtentKind.SubNodes spot.place (table_length spot.entries)) e table))
]

switch_long : (n m k : ℕ) → length (hex_text 8 n ++ hex_text 8 m ++ pointer_text (To k)) ≡ 28
switch_long n m k =
    length-append (hex_text 8 n ++ hex_text 8 m) (pointer_text (To k)) ∙ ap (λ i. i + length (pointer_text (To k))) (length-append (hex_text 8 n) (hex_text 8 m))
    ∙ (let a = length-hex_text 8 n in let b = length-hex_text 8 m in let c = length-pointer_text (To k) in omega (arith, a, b, c))

-- a node that is moved is not its new parent
not_below : (tree : Tree) (s q to : ℕ) → IsTree tree → IsAmong (children_at tree q) s → is_within tree s to ≡ false → s ≢ to
not_below tree s q to is child e same = not_true (sym e ∙ sym (ap (is_within tree s) same) ∙ within_itself tree is s (is.live q s child).0)

pub moves_over_longer : MovesOverLonger
moves_over_longer kind old grown a b c new tree after p taken node to parent i table entries from its other t h e reached above differ listed from_at has its_at other_at r closes x y =
    moves_over grown a b c new tree after (with_longer p to.serial other table entries) (table_extents other.table ++ taken) node to parent i from its now t spot
    (table_is_replaced kind old grown r.rest tree p taken to.serial table entries other h other_at r.room r.few r.near r.long r.list r.switched) e reached above differ listed
    (set_there p.parts to.serial parent (Some now) None differ ∙ from_at) has
    (set_there p.parts to.serial node.serial (Some now) None (not_below tree node.serial parent to.serial h.is_tree (among_get (children_at tree parent) i node.serial listed) (move_made tree after node to e).2) ∙ its_at)
    (set_here p.parts to.serial (Some now) None (there_inside p.parts to.serial other other_at)) refl r.room closes x y
  where
    spot : TablePart
    spot = record { place = table; entries = entries }

    now : NodeParts
    now = record other { table = Some (record { place = table; entries = entries }) }

pub moves_last_longer : MovesLastLonger
moves_last_longer kind old grown new tree after p taken node to i table entries from its h e above listed from_at its_at r v =
    moves_last grown new tree after (with_longer p to.serial from table entries) (table_extents from.table ++ taken) node to i now its spot
    (table_is_replaced kind old grown r.rest tree p taken to.serial table entries from h from_at r.room r.few r.near r.long r.list r.switched) e above listed
    (set_here p.parts to.serial (Some now) None (there_inside p.parts to.serial from from_at))
    (set_there p.parts to.serial node.serial (Some now) None (not_below tree node.serial to.serial to.serial h.is_tree (among_get (children_at tree to.serial) i node.serial listed) (move_made tree after node to e).2) ∙ its_at) refl v
  where
    spot : TablePart
    spot = record { place = table; entries = entries }

    now : NodeParts
    now = record from { table = Some (record { place = table; entries = entries }) }

pub over_longer_leave : ByOverLonger LeavesMoved
over_longer_leave kind old grown a b c new tree after p taken node to parent i table entries from its other t h e reached above differ listed from_at has its_at other_at r closes x y =
    longer_leaves old grown (hex_text 8 (length (children_at tree to.serial)) ++ hex_text 8 entries ++ pointer_text (To table)) tree p (extent kind table (table_length entries) ∷ taken) to.serial table entries other h other_at r.switched
    (switch_long (length (children_at tree to.serial)) entries table) taken (touched_extents tree p (Edit.Move node to)) (touched_extents tree q (Edit.Move node to)) kind new refl
    (touched_second tree p node to parent from other above from_at other_at)
    (λ ex touched. elim (Contains-append_cases (list_extents tree.wide from) (list_extents tree.wide now) ex (subst (λ xs. Contains xs ex) (touched_is tree q node to parent from now above from_now now_at) touched)) [
      | inl first ↦ inl (touched_first tree p node to parent from other above from_at other_at ex first)
      | inr second ↦ elim (longer_list tree.wide other spot ex second) [ inl was ↦ inl (touched_second tree p node to parent from other above from_at other_at ex was) | inr new_one ↦ inr new_one ]
    ])
    (over_leave grown a b c new tree after q (table_extents other.table ++ taken) node to parent i from its now t spot
    (table_is_replaced kind old grown r.rest tree p taken to.serial table entries other h other_at r.room r.few r.near r.long r.list r.switched) e reached above differ listed from_now has
    (set_there p.parts to.serial node.serial (Some now) None (not_below tree node.serial parent to.serial h.is_tree (among_get (children_at tree parent) i node.serial listed) (move_made tree after node to e).2) ∙ its_at) now_at refl r.room closes x y)
  where
    spot : TablePart
    spot = record { place = table; entries = entries }

    now : NodeParts
    now = record other { table = Some (record { place = table; entries = entries }) }

    q : Placement
    q = with_longer p to.serial other table entries

    now_at : parts_of (with_longer p to.serial other table entries) to.serial ≡ Some (record other { table = Some (record { place = table; entries = entries }) })
    now_at = set_here p.parts to.serial (Some now) None (there_inside p.parts to.serial other other_at)

    from_now : parts_of (with_longer p to.serial other table entries) parent ≡ Some from
    from_now = set_there p.parts to.serial parent (Some now) None differ ∙ from_at

pub last_longer_leave : ByLastLonger LeavesMoved
last_longer_leave kind old grown new tree after p taken node to i table entries from its h e above listed from_at its_at r v =
    longer_leaves old grown (hex_text 8 (length (children_at tree to.serial)) ++ hex_text 8 entries ++ pointer_text (To table)) tree p (extent kind table (table_length entries) ∷ taken) to.serial table entries from h from_at r.switched
    (switch_long (length (children_at tree to.serial)) entries table) taken (touched_extents tree p (Edit.Move node to)) (touched_extents tree q (Edit.Move node to)) kind new refl
    (touched_second tree p node to to.serial from from above from_at from_at)
    (λ ex touched. elim (Contains-append_cases (list_extents tree.wide now) (list_extents tree.wide now) ex (subst (λ xs. Contains xs ex) (touched_is tree q node to to.serial now now above now_at now_at) touched)) [
      | inl first ↦ own ex first
      | inr second ↦ own ex second
    ])
    (last_leave grown new tree after q (table_extents from.table ++ taken) node to i now its spot
    (table_is_replaced kind old grown r.rest tree p taken to.serial table entries from h from_at r.room r.few r.near r.long r.list r.switched) e above listed now_at
    (set_there p.parts to.serial node.serial (Some now) None (not_below tree node.serial to.serial to.serial h.is_tree (among_get (children_at tree to.serial) i node.serial listed) (move_made tree after node to e).2) ∙ its_at) refl v)
  where
    spot : TablePart
    spot = record { place = table; entries = entries }

    now : NodeParts
    now = record from { table = Some (record { place = table; entries = entries }) }

    q : Placement
    q = with_longer p to.serial from table entries

    now_at : parts_of (with_longer p to.serial from table entries) to.serial ≡ Some (record from { table = Some (record { place = table; entries = entries }) })
    now_at = set_here p.parts to.serial (Some now) None (there_inside p.parts to.serial from from_at)

    own : (ex : Extent) → Contains (list_extents tree.wide (record from { table = Some (record { place = table; entries = entries }) })) ex
        → Contains (touched_extents tree p (Edit.Move node to)) ex ⊎ (ex ≡ extent ExtentKind.SubNodes table (table_length entries))
    own ex c = elim (longer_list tree.wide from spot ex c) [ inl was ↦ inl (touched_second tree p node to to.serial from from above from_at from_at ex was) | inr new_one ↦ inr new_one ]

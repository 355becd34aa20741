-- A file with one child: its bytes lay out the tree that the edit gives, at the placement that the heap rule gives.
use Rattle.std.proofs.Common.{lit≤, ◌≡◌, ℕ, zero, suc, refl, sym, ◌∙◌, ap, subst, arith, List, [], ◌∷◌, ◌+◌, ◌*◌, ◌<◌, false}
use Rattle.std.specs.Prelude.{Option, Some, None, Ok, codes, slice_get, IsTrue}
use Rattle.adf_format.specs.declared.types.Format.{Format}
use Rattle.adf_format.specs.declared.types.Extent.{Extent}
use Rattle.adf_format.specs.declared.types.ExtentKind.{ExtentKind}
use Rattle.adf_format.specs.Hex.{is_hex}
use Rattle.adf_format.specs.Fields.{field}
use Rattle.adf_format.specs.Tree.{Tree, Node, IsTree, node_at, lineage, tree_order, fresh_root, fresh_tree, IsNumbered, depth_of, children_at}
use Rattle.adf_format.specs.Tiles.{Tiles, cover}
use Rattle.adf_format.specs.Parts.{SpellsHeader, SpellsFreeTable, SpellsEntry, HasPointer}
use Rattle.adf_format.specs.Placement.{Placement, NodeParts, parts_of, extent, all_extents}
use Rattle.adf_format.specs.LaysOut.{LaysOut, HoldsNode, NamesChildren}
use Rattle.adf_format.specs.HeapRule.{no_parts}
use Rattle.adf_format.specs.Verdict.{NodePlace, ListsNodes, IsLaidOutAs}
use Rattle.adf_format.proofs.Images.{based}
use Rattle.adf_format.proofs.TileLaws.{TilesInOrder-Tiles}
use Rattle.adf_format.proofs.FreshLaidOut.{fresh_is_tree}
use Rattle.adf_model.specs.declared.tree.Edit.{Edit}
use Rattle.adf_model.specs.Edits.{apply, new_node}
use Rattle.adf_model.specs.Placing.{place_group}
use Rattle.adf_model.proofs.Basics.{same_Some}
use Rattle.adf_model.proofs.Keeping.CreateKeeps.{create_keeps}

abbrev pub base : Node
base = new_node (codes "Base") []

abbrev pub based_tree : Tree
based_tree = record { wide = false; format = Format.Little; nodes = Some (record fresh_root { children = 1 ∷ [] }) ∷ Some base ∷ [] }

abbrev creation : Edit
creation = Edit.Create (record { file = 0; serial = 0 }) (codes "Base") []

pub created : apply (fresh_tree false) creation ≡ Ok based_tree
unfolding lineage
created = refl

based_is_tree : IsTree based_tree
based_is_tree = create_keeps (fresh_tree false) based_tree (record { file = 0; serial = 0 }) (codes "Base") [] fresh_root (fresh_is_tree false) refl refl created

abbrev root_parts : NodeParts
root_parts = record no_parts { header = 266; table = Some (record { place = 758; entries = 8 }) }

abbrev base_parts : NodeParts
base_parts = record no_parts { header = 512 }

abbrev pub based_placement : Placement
based_placement = record { parts = Some root_parts ∷ Some base_parts ∷ []; heap = record { gaps = []; end = 1129 } }

pub placed : place_group 16 (fresh_tree false) (record { parts = Some (record no_parts { header = 266 }) ∷ []; heap = record { gaps = []; end = 511 } }) ((creation, based_tree) ∷ []) ≡ Ok based_placement
placed = refl

header : SpellsHeader (field based 0 186) false Format.Little 266 1129
header = record {
  what = refl;
  letter = refl;
  what_end = refl;
  tag_0 = refl;
  tag_1 = refl;
  tag_2 = refl;
  numbers = refl;
  tag_3 = refl;
  sizes = sizes;
  tag_4 = refl;
  root_pointer = refl;
  end_pointer = refl;
  free_table = refl;
  tag_5 = refl;
}
  where
    sizes : (k : ℕ) → k < 12 → IsTrue (is_hex (field (field based 0 186) (106 + 2 * k) 2))
    sizes zero h = refl
    sizes (suc zero) h = refl
    sizes (suc (suc zero)) h = refl
    sizes (suc (suc (suc zero))) h = refl
    sizes (suc (suc (suc (suc zero)))) h = refl
    sizes (suc (suc (suc (suc (suc zero))))) h = refl
    sizes (suc (suc (suc (suc (suc (suc zero)))))) h = refl
    sizes (suc (suc (suc (suc (suc (suc (suc zero))))))) h = refl
    sizes (suc (suc (suc (suc (suc (suc (suc (suc zero)))))))) h = refl
    sizes (suc (suc (suc (suc (suc (suc (suc (suc (suc zero))))))))) h = refl
    sizes (suc (suc (suc (suc (suc (suc (suc (suc (suc (suc zero)))))))))) h = refl
    sizes (suc (suc (suc (suc (suc (suc (suc (suc (suc (suc (suc zero))))))))))) h = refl
    sizes (suc (suc (suc (suc (suc (suc (suc (suc (suc (suc (suc (suc k)))))))))))) h = absurd (omega (arith, h))

names : NamesChildren (field based 758 372) based_tree based_placement (1 ∷ [])
names zero child node parts e f g =
    let here : 1 ≡ child = same_Some 1 child e in
    let is_base : base ≡ node = same_Some base node (subst (λ k. node_at based_tree k ≡ Some node) (sym here) f) in
    let at_base : base_parts ≡ parts = same_Some base_parts parts (subst (λ k. parts_of based_placement k ≡ Some parts) (sym here) g) in
    subst (λ (n : Node). SpellsEntry (field based 758 372) 0 n.name parts.header) is_base (subst (λ (q : NodeParts). SpellsEntry (field based 758 372) 0 base.name q.header) at_base (record { named = refl; points = refl }))
names (suc i) child node parts e f g = cc

holds_root : HoldsNode based based_tree based_placement (record fresh_root { children = 1 ∷ [] }) root_parts
holds_root = record {
  header = record { start_tag = refl; name = refl; label = refl; children = refl; entries = refl; table = refl; kind = refl; rank = refl; dims = λ i d e. cc; chunks = refl; chunk = refl; end_tag = refl };
  table = (omega arith, omega arith, record { start_tag = refl; end_pointer = refl; end_tag = refl }, names);
  chunk_table = omega arith;
  chunks = tt;
  bytes = refl;
}

holds_base : HoldsNode based based_tree based_placement base base_parts
holds_base = record {
  header = record { start_tag = refl; name = refl; label = refl; children = refl; entries = refl; table = refl; kind = refl; rank = refl; dims = λ i d e. cc; chunks = refl; chunk = refl; end_tag = refl };
  table = refl;
  chunk_table = omega arith;
  chunks = tt;
  bytes = refl;
}

holds : (serial : ℕ) (node : Node) (parts : NodeParts) → node_at based_tree serial ≡ Some node → parts_of based_placement serial ≡ Some parts → HoldsNode based based_tree based_placement node parts
holds zero node parts e f =
    subst (λ (n : Node). HoldsNode based based_tree based_placement n parts) (same_Some (record fresh_root { children = 1 ∷ [] }) node e)
    (subst (λ (q : NodeParts). HoldsNode based based_tree based_placement (record fresh_root { children = 1 ∷ [] }) q) (same_Some root_parts parts f) holds_root)
holds (suc zero) node parts e f =
    subst (λ (n : Node). HoldsNode based based_tree based_placement n parts) (same_Some base node e)
    (subst (λ (q : NodeParts). HoldsNode based based_tree based_placement base q) (same_Some base_parts parts f) holds_base)
holds (suc (suc k)) node parts e f = cc

free_table : SpellsFreeTable (field based 186 80) ((None, None) ∷ (None, None) ∷ (None, None) ∷ [])
free_table = record { start_tag = refl; three = refl; lists = lists; end_tag = refl }
  where
    lists : (k : ℕ) (e : Option ℕ × Option ℕ) → slice_get ((None, None) ∷ (None, None) ∷ (None, None) ∷ []) k ≡ Some e → HasPointer (field based 186 80) (4 + 24 * k) e.0 × HasPointer (field based 186 80) (16 + 24 * k) e.1
    lists zero e h = subst (λ (d : Option ℕ × Option ℕ). HasPointer (field based 186 80) 4 d.0 × HasPointer (field based 186 80) 16 d.1) (same_Some (None, None) e h) (refl, refl)
    lists (suc zero) e h = subst (λ (d : Option ℕ × Option ℕ). HasPointer (field based 186 80) 28 d.0 × HasPointer (field based 186 80) 40 d.1) (same_Some (None, None) e h) (refl, refl)
    lists (suc (suc zero)) e h = subst (λ (d : Option ℕ × Option ℕ). HasPointer (field based 186 80) 52 d.0 × HasPointer (field based 186 80) 64 d.1) (same_Some (None, None) e h) (refl, refl)
    lists (suc (suc (suc k))) e h = cc

-- the same extents by their places
abbrev by_place : List Extent
by_place = extent ExtentKind.Header 0 186 ∷ extent ExtentKind.FreeTable 186 80 ∷ extent ExtentKind.Node 266 246 ∷ extent ExtentKind.Node 512 246 ∷ extent ExtentKind.SubNodes 758 372 ∷ []

last_two : (a b c d e : ℕ) → a + (b + (c + (d + (e + 0)))) ≡ a + (b + (c + (e + (d + 0))))
last_two a b c d e = omega arith

same_cover : (b : ℕ) → cover (all_extents false based_placement) b ≡ cover by_place b
same_cover b = last_two _ _ _ _ _

tiles : Tiles (all_extents false based_placement) 1129
tiles = record { once = λ b le. same_cover b ∙ sorted.once b le; inside = λ b gt. same_cover b ∙ sorted.inside b gt }
  where
    sorted : Tiles by_place 1129
    sorted = TilesInOrder-Tiles _ 1129 (refl, lit≤ tt, (refl, lit≤ tt, (refl, lit≤ tt, (refl, lit≤ tt, (refl, lit≤ tt, refl)))))

pub based_laid_out : LaysOut based based_tree based_placement
based_laid_out = record {
  is_tree = based_is_tree;
  end = lit≤ tt;
  header = (root_parts, refl, header);
  same_nodes = refl;
  nodes = holds;
  tiles = tiles;
  gaps = tt;
  fillers = λ k g e f. cc;
  threads = record { small = []; medium = []; large = []; table = free_table; each = (tt, tt, tt); all = λ place length. refl };
}

-- and the verdict names its two nodes
numbered_so : IsNumbered based_tree
unfolding tree_order
numbered_so = refl

base_depth : depth_of based_tree 1 ≡ 1
unfolding lineage
base_depth = refl

abbrev two_places : List NodePlace
two_places = record { place = 266; parent = 0; position = 0; depth = 0 } ∷ record { place = 512; parent = 0; position = 0; depth = 1 } ∷ []

lists_nodes : ListsNodes based_tree based_placement two_places
lists_nodes = record {
  count = refl;
  places = places;
  root = λ n e. subst (λ (m : NodePlace). (m.parent ≡ 0) × (m.position ≡ 0) × (m.depth ≡ 0)) (same_Some (record { place = 266; parent = 0; position = 0; depth = 0 }) n e) (refl, refl, refl);
  others = others;
}
  where
    places : (k : ℕ) (n : NodePlace) (parts : NodeParts) → slice_get two_places k ≡ Some n → parts_of based_placement k ≡ Some parts → n.place ≡ parts.header
    places zero n parts e f = sym (ap (λ (m : NodePlace). m.place) (same_Some (record { place = 266; parent = 0; position = 0; depth = 0 }) n e)) ∙ ap (λ (q : NodeParts). q.header) (same_Some root_parts parts f)
    places (suc zero) n parts e f = sym (ap (λ (m : NodePlace). m.place) (same_Some (record { place = 512; parent = 0; position = 0; depth = 1 }) n e)) ∙ ap (λ (q : NodeParts). q.header) (same_Some base_parts parts f)
    places (suc (suc k)) n parts e f = cc

    others : (parent i child : ℕ) (n : NodePlace) → slice_get (children_at based_tree parent) i ≡ Some child → slice_get two_places child ≡ Some n → (n.parent ≡ parent) × (n.position ≡ i) × (n.depth ≡ depth_of based_tree child)
    others zero zero child n e f =
        let here : 1 ≡ child = same_Some 1 child e in
        let at : record { place = 512; parent = 0; position = 0; depth = 1 } ≡ n = same_Some (record { place = 512; parent = 0; position = 0; depth = 1 }) n (subst (λ k. slice_get two_places k ≡ Some n) (sym here) f) in
        (sym (ap (λ (m : NodePlace). m.parent) at), sym (ap (λ (m : NodePlace). m.position) at), sym (ap (λ (m : NodePlace). m.depth) at) ∙ sym base_depth ∙ ap (depth_of based_tree) here)
    others zero (suc i) child n e f = cc
    others (suc zero) i child n e f = cc
    others (suc (suc k)) i child n e f = cc

pub based_verdict : IsLaidOutAs based two_places [] 1129 Format.Little false
based_verdict = record {
  tree = based_tree;
  placement = based_placement;
  laid_out = based_laid_out;
  in_order = numbered_so;
  listed = lists_nodes;
  same_gaps = refl;
  same_end = refl;
  same_format = refl;
  same_width = refl;
}

-- The packed file of a tree lays it out.
use Rattle.std.proofs.Common.{◌≡◌, ℕ, zero, suc, refl, sym, ◌∙◌, ap, subst, arith, List, [], ◌∷◌, ◌++◌, length, replicate, length-append, ◌+◌, ◌-◌, ◌^◌, ◌<◌, ◌≤◌, Bool}
use Rattle.std.specs.Prelude.{Option, Some, None, IsSome, slice_get, slice_index_or}
use Rattle.adf_format.specs.Fields.{field}
use Rattle.adf_format.specs.Pointer.{Blank}
use Rattle.adf_format.specs.Tree.{Tree, Node, IsTree, node_at, children_of}
use Rattle.adf_format.specs.Parts.{SpellsHeader, SpellsFreeTable}
use Rattle.adf_format.specs.Placement.{NodeParts, parts_of}
use Rattle.adf_format.specs.LaysOut.{LaysOut, HoldsNode}
use Rattle.adf_format.specs.Packed.{packed_nodes, packed_length}
use Rattle.adf_format.specs.Records.{header_text, free_table_text}
use Rattle.adf_format.specs.Spelled.{IsInReach}
use Rattle.adf_format.proofs.FieldLaws.{field_left, field_right, field_whole}
use Rattle.adf_format.proofs.SpelledParts.{header_says, header_long, free_table_says}
use Rattle.packed_laws.specs.Laws.{PackedIsLaidOut, IsLong}
use Rattle.packed_laws.specs.PackedForm.{packed_parts, packed_from, packed_placement, packed_header, packed_nodes_text, packed_text}
use Rattle.packed_laws.proofs.NodeSays.{same_there}
use Rattle.packed_laws.proofs.PackedTexts.{AreGood, Stands, names_short, nodes_long, stands, header_says_so}
use Rattle.packed_laws.proofs.PackedTiles.{packed_tiles, same_live}
use Rattle.packed_laws.proofs.PackedNodes.{node_held}

abbrev no_lists : List (Option ℕ × Option ℕ)
no_lists = (None, None) ∷ (None, None) ∷ (None, None) ∷ []

free_says : SpellsFreeTable (free_table_text (replicate 6 Blank)) no_lists × (length (free_table_text (replicate 6 Blank)) ≡ 80)
free_says = free_table_says no_lists refl near
  where
    near : (k : ℕ) (e : Option ℕ × Option ℕ) → slice_get no_lists k ≡ Some e → IsInReach e.0 × IsInReach e.1
    near zero e at = subst (λ (d : Option ℕ × Option ℕ). IsInReach d.0 × IsInReach d.1) (same_there (None, None) e at) (tt, tt)
    near (suc zero) e at = subst (λ (d : Option ℕ × Option ℕ). IsInReach d.0 × IsInReach d.1) (same_there (None, None) e at) (tt, tt)
    near (suc (suc zero)) e at = subst (λ (d : Option ℕ × Option ℕ). IsInReach d.0 × IsInReach d.1) (same_there (None, None) e at) (tt, tt)
    near (suc (suc (suc k))) e at = cc

root_parts : (wide : Bool) (nodes : List (Option Node)) → IsSome (slice_index_or nodes 0 None) → (parts : NodeParts) × (slice_index_or (packed_from wide 266 nodes) 0 None ≡ Some parts) × (parts.header ≡ 266)
root_parts wide [] some = cc
root_parts wide (None ∷ nodes) some = cc
root_parts wide (Some node ∷ nodes) some = (packed_parts wide 266 node, refl, refl)

module _ (tree : Tree) (is : IsTree tree) (near : packed_length tree ≤ 2 ^ 44) where
  abbrev nodes_text : List ℕ
  nodes_text = packed_nodes_text tree (packed_placement tree) 266 tree.nodes

  good : AreGood tree.wide tree.nodes
  good k node live = (is.each k node live, subst (λ (o : Option Node). length (children_of o) ≤ 2 ^ 20) live (is.width k))

  nodes_are : length nodes_text ≡ packed_nodes tree.wide tree.nodes
  nodes_are = nodes_long tree (packed_placement tree) (names_short tree is) 266 tree.nodes good near

  head_are : length (header_text (packed_header tree)) ≡ 186
  head_are = header_long (packed_header tree) tree.wide tree.format 266 (packed_length tree - 1) (header_says_so tree near)

  -- its length
  pub long : length (packed_text tree) ≡ packed_length tree
  unfolding packed_text
  long = length-append (header_text (packed_header tree)) (free_table_text (replicate 6 Blank) ++ nodes_text)
      ∙ ap (λ n. n + length (free_table_text (replicate 6 Blank) ++ nodes_text)) head_are
      ∙ ap (λ n. 186 + n) (length-append (free_table_text (replicate 6 Blank)) nodes_text)
      ∙ ap (λ n. 186 + (n + length nodes_text)) free_says.1
      ∙ ap (λ n. 186 + (80 + n)) nodes_are ∙ omega arith

  module _ (behind : List ℕ) where
    head_here : field (packed_text tree ++ behind) 0 186 ≡ header_text (packed_header tree)
    unfolding packed_text
    head_here = field_left (packed_text tree) behind 0 186 (omega (arith, long)) ∙ field_left (header_text (packed_header tree)) (free_table_text (replicate 6 Blank) ++ nodes_text) 0 186 (omega (arith, head_are))
        ∙ field_whole (header_text (packed_header tree)) 186 head_are

    free_here : field (packed_text tree ++ behind) 186 80 ≡ free_table_text (replicate 6 Blank)
    unfolding packed_text
    free_here = let all = free_says.1 in field_left (packed_text tree) behind 186 80 (omega (arith, long)) ∙ field_right (header_text (packed_header tree)) (free_table_text (replicate 6 Blank) ++ nodes_text) 186 0 80 (omega (arith, head_are))
        ∙ field_left (free_table_text (replicate 6 Blank)) nodes_text 0 80 (omega (arith, all)) ∙ field_whole (free_table_text (replicate 6 Blank)) 80 all

    nodes_here : (o k n : ℕ) → o ≡ 266 + k → k + n ≤ packed_nodes tree.wide tree.nodes → field (packed_text tree ++ behind) o n ≡ field nodes_text k n
    unfolding packed_text
    nodes_here o k n e le = let all = free_says.1 in
        field_left (packed_text tree) behind o n (omega (arith, long, e, le))
        ∙ field_right (header_text (packed_header tree)) (free_table_text (replicate 6 Blank) ++ nodes_text) o (80 + k) n (omega (arith, head_are, e))
        ∙ field_right (free_table_text (replicate 6 Blank)) nodes_text (80 + k) k n (omega (arith, all))

    found : (k : ℕ) (node : Node) (parts : NodeParts) → node_at tree k ≡ Some node → parts_of (packed_placement tree) k ≡ Some parts → Stands tree (packed_placement tree) 266 tree.nodes node parts
    found k node parts live there = stands tree (packed_placement tree) (names_short tree is) 266 tree.nodes good near k node parts live there

    reach : (k : ℕ) (node : Node) (parts : NodeParts) → node_at tree k ≡ Some node → parts_of (packed_placement tree) k ≡ Some parts → parts.header < 2 ^ 44
    reach k node parts live there =
        let s = found k node parts live there in
        let at = s.at_is in
        let room = s.room in
        subst (λ (q : NodeParts). q.header < 2 ^ 44) (sym s.parts_are) (omega (arith, at, room, near))

    held : (k : ℕ) (node : Node) (parts : NodeParts) → node_at tree k ≡ Some node → parts_of (packed_placement tree) k ≡ Some parts → HoldsNode (packed_text tree ++ behind) tree (packed_placement tree) node parts
    held k node parts live there =
        let s = found k node parts live there in
        let at = s.at_is in
        let room = s.room in
        subst (λ (q : NodeParts). HoldsNode (packed_text tree ++ behind) tree (packed_placement tree) node q) (sym s.parts_are)
        (node_held (packed_text tree ++ behind) tree (packed_placement tree) (names_short tree is) reach s.at node (good k node live).0 (good k node live).1 (omega (arith, at, room, near))
        (λ o j n e le. nodes_here o (s.offset + j) n (omega (arith, e, at)) (omega (arith, room, le)) ∙ s.text (s.offset + j) j n refl le))

    pub laid_out : LaysOut (packed_text tree ++ behind) tree (packed_placement tree)
    laid_out =
        let root = root_parts tree.wide tree.nodes is.root in
        record {
          is_tree = is;
          end = (let all = length-append (packed_text tree) behind in omega (arith, all, long));
          header = (
            root.0,
            root.1,
            subst (λ n. SpellsHeader (field (packed_text tree ++ behind) 0 186) tree.wide tree.format n (packed_length tree - 1)) (sym root.2)
                (subst (λ (b : List ℕ). SpellsHeader b tree.wide tree.format 266 (packed_length tree - 1)) (sym head_here)
                (header_says (packed_header tree) tree.wide tree.format 266 (packed_length tree - 1) (header_says_so tree near))),
          );
          same_nodes = same_live tree.wide 266 tree.nodes;
          nodes = held;
          tiles = packed_tiles tree;
          gaps = tt;
          fillers = λ k g e f. cc;
          threads = record { small = []; medium = []; large = []; table = subst (λ (b : List ℕ). SpellsFreeTable b no_lists) (sym free_here) free_says.0; each = (tt, tt, tt); all = λ place length. refl };
        }

pub is_laid_out : PackedIsLaidOut
is_laid_out tree behind is near = laid_out tree is near behind

pub is_long : IsLong
is_long tree is near = long tree is near

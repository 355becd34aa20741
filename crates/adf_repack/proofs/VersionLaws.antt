-- A tree in another version.
use Rattle.std.proofs.Common.{◌≡◌, ℕ, ◌<◌, ◌^◌, List, [], ◌∷◌, length, refl, ◌∙◌, ap, arith, inl, inr, Bool, true, false}
use Rattle.std.specs.Prelude.{◌&&◌, nat_le, nat_lt}
use Rattle.std.specs.List.{Contains, list_all}
use Rattle.std.proofs.lemmas.Bool.{cases_lt}
use Rattle.std.proofs.lemmas.Bool.Decides.{nat_tests}
use Rattle.std.proofs.lemmas.List.Elements.{Contains-get_or, Contains-append_right}
use Rattle.adf_format.specs.declared.types.DataType.{DataType}
use Rattle.adf_format.specs.Names.{is_dimension, is_shape_of, is_rank_of}
use Rattle.adf_format.specs.Tree.{Tree, Node, IsTree, IsNode, lineage}
use Rattle.adf_model.proofs.Basics.{and_parts}
use Rattle.adf_repack.specs.Given.{in_version}
use Rattle.adf_repack.specs.Repacks.{HasLongDimension}

both : (a b : Bool) → a ≡ true → b ≡ true → (a && b) ≡ true
both a b e f = ap (λ (x : Bool). x && b) e ∙ f

in_narrow : (d : ℕ) → (nat_le 1 d && nat_lt d (2 ^ 32)) ≡ true → (nat_le 1 d && nat_lt d (2 ^ 64)) ≡ true
in_narrow d is = grind (arith, nat_tests)

to_narrow : (d : ℕ) → (nat_le 1 d && nat_lt d (2 ^ 64)) ≡ true → d < 2 ^ 32 → (nat_le 1 d && nat_lt d (2 ^ 32)) ≡ true
to_narrow d is short = grind (arith, nat_tests)

one_dimension : (wide to : Bool) (d : ℕ) → is_dimension wide d ≡ true → (to ≡ false → d < 2 ^ 32) → is_dimension to d ≡ true
one_dimension false false d is short = is
one_dimension true true d is short = is
one_dimension false true d is short = in_narrow d is
one_dimension true false d is short = to_narrow d is (short refl)

all_dimensions : (wide to : Bool) (dims : List ℕ) → list_all (is_dimension wide) dims ≡ true → ((d : ℕ) → Contains dims d → to ≡ false → d < 2 ^ 32) → list_all (is_dimension to) dims ≡ true
all_dimensions wide to [] all short = refl
all_dimensions wide to (d ∷ dims) all short =
    let parts = and_parts (is_dimension wide d) (list_all (is_dimension wide) dims) all in
    both (is_dimension to d) (list_all (is_dimension to) dims)
    (one_dimension wide to d parts.0 (short d (Contains-get_or (d ∷ dims) 0 0 (omega arith))))
    (all_dimensions wide to dims parts.1 (λ x has. short x (Contains-append_right (d ∷ []) dims x has)))

shape_so : (wide to : Bool) (kind : DataType) (dims : List ℕ) → is_shape_of wide kind dims ≡ true → ((d : ℕ) → Contains dims d → to ≡ false → d < 2 ^ 32) → is_shape_of to kind dims ≡ true
shape_so wide to kind dims is short =
    let parts = and_parts (is_rank_of kind (length dims) && nat_le (length dims) 12) (list_all (is_dimension wide) dims) is in
    both (is_rank_of kind (length dims) && nat_le (length dims) 12) (list_all (is_dimension to) dims) parts.0 (all_dimensions wide to dims parts.1 short)

-- a node in another version
pub node_so : (wide to : Bool) (node : Node) → IsNode wide node → ((d : ℕ) → Contains node.dims d → to ≡ false → d < 2 ^ 32) → IsNode to node
node_so wide to node is short = record {
  named = is.named;
  labelled = is.labelled;
  shaped = shape_so wide to node.kind node.dims is.shaped short;
  sized = is.sized;
  empty = is.empty;
  link = is.link;
}

-- a tree is sound in each version that has digits for its dimensions
pub tree_so : (to : Bool) (tree : Tree) → IsTree tree → (HasLongDimension to tree → ⊥) → IsTree (in_version to tree)
unfolding lineage
tree_so to tree is fits = record {
  root = is.root;
  drawn = is.drawn;
  each = λ serial node live. node_so tree.wide to node (is.each serial node live) (λ d has narrow. elim (cases_lt d (2 ^ 32)) [
    | inl less ↦ less
    | inr past ↦ absurd (fits (record { narrow = narrow; serial = serial; node = node; live = live; dim = d; has = has; long = past }))
  ]);
  live = is.live;
  one_parent = is.one_parent;
  siblings = is.siblings;
  width = is.width;
  reached = is.reached;
}

-- Nodes that make a tree break no rule, and have the shapes of the nodes of the tree.
use Rattle.std.proofs.Common.{◌≡◌, ℕ, zero, suc, ◌-◌, ◌^◌, ◌<◌, ◌≤◌, List, [], ◌∷◌, length, take, get_or, length-take, refl, sym, ◌∙◌, ap, subst, arith, inl, inr, Bool, true, false, Option, None, Some}
use Rattle.std.specs.Prelude.{◌==◌, ◌&&◌, cond, nat_le, is_some, option_map, slice_index_or}
use Rattle.std.specs.List.{Contains, list_all}
use Rattle.std.proofs.lemmas.Bool.{ne_eqb}
use Rattle.std.proofs.lemmas.Bool.Decides.{nat_tests}
use Rattle.adf_format.specs.declared.fields.TheConstants.{CHUNK_START}
use Rattle.adf_format.specs.Checks.{Fault, Row, first_broken}
use Rattle.adf_format.specs.Names.{data_size, is_dimension, is_rank_of}
use Rattle.adf_format.specs.Packed.{packed_nodes, packed_data}
use Rattle.adf_format.specs.Parts.{node_length, dimension_digits}
use Rattle.adf_format.specs.Pointer.{is_place}
use Rattle.adf_format.specs.RecordFields.{field_in}
use Rattle.adf_format.specs.Records.{NodeRecord}
use Rattle.adf_format.specs.Tree.{Tree, Node, IsNode, node_at, children_of as kids_of}
use Rattle.adf_model.specs.declared.error.AdfError.{AdfError}
use Rattle.adf_model.proofs.Basics.{and_parts}
use Rattle.adf_model.proofs.Trees.Renumbered.{live_within}
use Rattle.cg_io.specs.Device.{bytes_at}
use Rattle.node_reads.specs.Entries.{chunk_head_rows}
use Rattle.node_reads.specs.Headers.{header_rows}
use Rattle.node_reads.specs.Reads.{Breaks}
use Rattle.layout_lint.specs.declared.verdict.NodePlace.{NodePlace}
use Rattle.adf_repack.specs.declared.places.NodeShape.{NodeShape}
use Rattle.adf_repack.specs.declared.plan.Plan.{Plan}
use Rattle.adf_repack.specs.Copies.{numbers_in}
use Rattle.adf_repack.specs.Families.{children_of}
use Rattle.adf_repack.specs.Given.{HasChunk, HoldsData, IsGivenNode, IsGiven}
use Rattle.adf_repack.specs.Measures.{shape_in, AllFit, AreMeasured, AreUnmeasured}
use Rattle.adf_repack.specs.Payloads.{chunk_at, payloads_of, BreaksEntry, BreaksHead, BreaksData, BreaksContents}
use Rattle.adf_repack.specs.Places.{limited, shape_of, shapes_of}
use Rattle.adf_repack.specs.Plans.{no_shape, shape_at, record_at, old_place, HasLong, BreaksParts, BreaksNode, BreaksOne}
use Rattle.adf_repack.specs.Repacks.{HasLongDimension}
use Rattle.adf_repack.proofs.PayloadLaws.{told_of}
use Rattle.adf_repack.proofs.TextLaws.{none_some, same_some}

-- ---- rules that are kept

kept_broken : (o : Option Fault) (f : Fault) → o ≡ None → o ≡ Some f → ⊥
kept_broken o f e h = cc

-- bytes that break no rule
pub unbroken : (image : List ℕ) (place n : ℕ) (rows : List ℕ → List Row) (rule at : ℕ) → first_broken (rows (bytes_at image place n)) ≡ None → Breaks (Some image) place n rows rule at → ⊥
unbroken image place n rows rule at kept b =
    let read : b.bytes ≡ bytes_at image place n = b.given ∙ ap (bytes_at image place) b.long in
    kept_broken _ _ (ap (λ (l : List ℕ). first_broken (rows l)) read ∙ kept) b.says

true_false : (b : Bool) → b ≡ true → b ≡ false → ⊥
true_false b e h = cc

entry_kept : (image : List ℕ) (r : NodeRecord) (i rule at : ℕ) → HasChunk image r i → BreaksEntry (Some image) r i rule at → ⊥
entry_kept image r i rule at has b = elim b.why [
  | inl beyond ↦ (let near = has.entry_near b.listed in omega (arith, beyond, near))
  | inr read ↦ true_false _ (has.entry b.listed)
      (subst (λ (l : List ℕ). is_place (field_in l CHUNK_START) ≡ false) (read.given ∙ ap (bytes_at image _) read.long) read.says)
]

head_kept : (image : List ℕ) (r : NodeRecord) (i c rule at : ℕ) → HasChunk image r i → c ≡ chunk_at image r i → BreaksHead (Some image) c rule at → ⊥
head_kept image r i c rule at has is (inl beyond) = let near = has.near in let far = beyond.2 in omega (arith, near, far, is)
head_kept image r i c rule at has is (inr b) =
    unbroken image c 16 (chunk_head_rows c) rule at
    (subst (λ (k : ℕ). first_broken (chunk_head_rows k (bytes_at image k 16)) ≡ None) (sym is) has.head) b

enough : (bytes payloads : List ℕ) → take (length bytes) payloads ≡ bytes → length payloads < length bytes → ⊥
enough bytes payloads is short = let same = ap length is in let few = length-take (length bytes) payloads in omega (arith, same, few, short)

data_kept : (image : List ℕ) (wide : Bool) (r : NodeRecord) (place rule at : ℕ) (bytes : List ℕ) → ((i : ℕ) → i < r.chunks → HasChunk image r i) → HoldsData image r (Some bytes)
    → BreaksData (Some image) wide r place (length bytes) rule at → ⊥
data_kept image wide r place rule at bytes each holds (inl table) = entry_kept image r table.number rule at (each table.number table.within) table.breaks
data_kept image wide r place rule at bytes each holds (inr (inl chunk)) =
    head_kept image r chunk.one.number chunk.chunk rule at (each chunk.one.number chunk.one.within) chunk.one.stands chunk.breaks
data_kept image wide r place rule at bytes each holds (inr (inr short)) = enough bytes (payloads_of image r) holds.1 short.short

contents_kept : (image : List ℕ) (wide : Bool) (r : NodeRecord) (place rule at : ℕ) (o : Option (List ℕ)) → ((i : ℕ) → i < r.chunks → HasChunk image r i) → HoldsData image r o
    → BreaksContents (Some image) wide r place (option_map (λ (b : List ℕ). length b) o) rule at → ⊥
contents_kept image wide r place rule at None each holds b = b
contents_kept image wide r place rule at (Some bytes) each holds b = data_kept image wide r place rule at bytes each holds b

-- ---- sizes

-- one part of a sum
data_within : (wide : Bool) (ns : List (Option Node)) (k : ℕ) (node : Node) → slice_index_or ns k None ≡ Some node → packed_data node.bytes ≤ packed_nodes wide ns
data_within wide [] k node live = none_some node live
data_within wide (None ∷ ns) zero node live = none_some node live
data_within wide (None ∷ ns) (suc k) node live = data_within wide ns k node live
data_within wide (Some m ∷ ns) zero node live = let same = ap (λ (n : Node). packed_data n.bytes) (same_some m node live) in omega (arith, same)
data_within wide (Some m ∷ ns) (suc k) node live = let rest = data_within wide ns k node live in omega (arith, rest)

size_short : (o : Option (List ℕ)) (bytes : List ℕ) (n : ℕ) → o ≡ Some bytes → packed_data o ≤ n → length bytes ≤ n
size_short o bytes n is le = let same = ap packed_data is in omega (arith, same, le)

size_told : (image : List ℕ) (r : NodeRecord) (o : Option (List ℕ)) (size : ℕ) → HoldsData image r o → ((bytes : List ℕ) → o ≡ Some bytes → (length bytes ≡ size) × (length bytes < 2 ^ 64 - 1))
    → cond {A = Option ℕ} (r.chunks == 0) None (Some (limited size)) ≡ option_map (λ (b : List ℕ). length b) o
size_told image r None size holds short = ap (λ (n : ℕ). cond {A = Option ℕ} (n == 0) None (Some (limited size))) holds
size_told image r (Some bytes) size holds short =
    let s = short bytes refl in
    let same = s.0 in
    let few = s.1 in
    let is : limited size ≡ length bytes = omega (arith, same, few) in
    ap (λ (b : Bool). cond {A = Option ℕ} b None (Some (limited size))) (ne_eqb r.chunks 0 holds.0) ∙ ap Some is

shape_same : (s : NodeShape) (children : ℕ) (size : Option ℕ) → s.children ≡ children → s.size ≡ size → s ≡ record { children = children; size = size }
shape_same s children size e h = ap (λ (n : ℕ). record { children = n; size = s.size }) e ∙ ap (λ (o : Option ℕ). record { children = children; size = o }) h

all_shapes : (shapes : List NodeShape) (ns : List (Option Node)) → length shapes ≡ length ns
    → ((k : ℕ) → k < length ns → (node : Node) × (slice_index_or ns k None ≡ Some node) × (get_or shapes k no_shape ≡ shape_of node)) → shapes ≡ shapes_of ns
all_shapes [] [] long each = refl
all_shapes [] (n ∷ ns) long each = absurd (omega (arith, long))
all_shapes (s ∷ shapes) [] long each = absurd (omega (arith, long))
all_shapes (s ∷ shapes) (None ∷ ns) long each = let h = each 0 (omega arith) in none_some h.0 h.1
all_shapes (s ∷ shapes) (Some m ∷ ns) long each =
    let h = each 0 (omega arith) in
    ap (λ (x : NodeShape). x ∷ shapes) (h.2 ∙ ap shape_of (sym (same_some m h.0 h.1)))
    ∙ ap (λ (l : List NodeShape). shape_of m ∷ l) (all_shapes shapes ns (omega (arith, long)) (λ k lt. each (suc k) (omega (arith, lt))))

-- ---- dimensions

all_of : (test : ℕ → Bool) (xs : List ℕ) → list_all test xs ≡ true → (k d : ℕ) → k < length xs → test (get_or xs k d) ≡ true
all_of test [] all k d lt = absurd (omega (arith, lt))
all_of test (x ∷ xs) all zero d lt = (and_parts (test x) (list_all test xs) all).0
all_of test (x ∷ xs) all (suc k) d lt = all_of test xs (and_parts (test x) (list_all test xs) all).1 k d (omega (arith, lt))

below_all : (wide : Bool) (d : ℕ) → is_dimension wide d ≡ true → d < 2 ^ 64
below_all false d is = grind (arith, nat_tests)
below_all true d is = grind (arith, nat_tests)

dimension_low : (wide : Bool) (node : Node) (d : ℕ) → IsNode wide node → Contains node.dims d → d < 2 ^ 64
dimension_low wide node d is has =
    below_all wide d (subst (λ (x : ℕ). is_dimension wide x ≡ true) has.2
    (all_of (is_dimension wide) node.dims (and_parts (is_rank_of node.kind (length node.dims) && nat_le (length node.dims) 12) (list_all (is_dimension wide) node.dims) is.shaped).1 has.0 d has.1))

-- a dimension of a header that a version has no digits for
long_tree : (to : Bool) (tree : Tree) (k : ℕ) (node : Node) (r : NodeRecord) → node_at tree k ≡ Some node → IsNode tree.wide node → take r.rank (numbers_in r) ≡ node.dims → HasLong to r → HasLongDimension to tree
long_tree false tree k node r live is dims long = record {
  narrow = refl;
  serial = k;
  node = node;
  live = live;
  dim = long.0;
  has = subst (λ (l : List ℕ). Contains l long.0) dims long.1;
  long = (let big = long.2 in omega (arith, big));
}
long_tree true tree k node r live is dims long =
    let low = dimension_low tree.wide node long.0 is (subst (λ (l : List ℕ). Contains l long.0) dims long.1) in
    let big = long.2 in
    absurd (omega (arith, low, big))

-- ---- nodes that make a tree

module _ (image : List ℕ) (nodes : List NodePlace) (tree : Tree) (given : IsGiven image nodes tree) where
  abbrev node_of : (k : ℕ) → k < length nodes → Node
  node_of k lt = (given.each k lt).0

  here : (k : ℕ) (lt : k < length nodes) → IsGivenNode image nodes tree k (old_place nodes k) (given.each k lt).0
  here k lt = (given.each k lt).1

  few : (k : ℕ) (lt : k < length nodes) → length (children_of nodes k) ≤ 2 ^ 20
  few k lt = subst (λ (l : List ℕ). length l ≤ 2 ^ 20) (here k lt).children (subst (λ (o : Option Node). length (kids_of o) ≤ 2 ^ 20) (here k lt).live (given.is_tree.width k))

  -- they are measured
  pub measured : (to : Bool) (before now rule at : ℕ) (e : AdfError) → e ≡ AdfError.Layout rule at → AreUnmeasured (Some image) tree.wide to nodes before now e → ⊥
  measured to before now rule at e is (inl memory) = cc
  measured to before now rule at e is (inr u) = elim u.why [
    | inl unread ↦ (let same = unread.is in cc)
    | inr other ↦ elim other [
      | inl broken ↦ elim broken.so [
        | inl b ↦ unbroken image (old_place nodes u.number) (node_length tree.wide) (header_rows tree.wide (old_place nodes u.number) None) broken.rule broken.place (here u.number u.within).kept b
        | inr b ↦ (let many = b.2 in let most = few u.number u.within in omega (arith, many, most))
      ]
      | inr long ↦ (let same = long.0 in cc)
    ]
  ]

  -- a dimension that is too long is one of the tree
  pub one_long : (to : Bool) (before now : ℕ) (e : AdfError) → e ≡ AdfError.BadShape → AreUnmeasured (Some image) tree.wide to nodes before now e → HasLongDimension to tree
  one_long to before now e is (inl memory) = cc
  one_long to before now e is (inr u) = elim u.why [
    | inl unread ↦ (let same = unread.is in cc)
    | inr other ↦ elim other [
      | inl broken ↦ (let same = broken.is in cc)
      | inr long ↦ (
          let h = here u.number u.within in
          long_tree to tree u.number (node_of u.number u.within) (record_at image tree.wide (old_place nodes u.number)) h.live (given.is_tree.each u.number (node_of u.number u.within) h.live) h.says.dims
          (subst (λ (r : NodeRecord). HasLong to r) long.1.read long.1.so))
    ]
  ]

  -- where none is too long for the version, none of the tree is
  pub none_long : (to : Bool) → AllFit (Some image) tree.wide to nodes (length nodes) → HasLongDimension to tree → ⊥
  none_long to fit long =
      let within : long.serial < length nodes = subst (λ (n : ℕ). long.serial < n) given.count (live_within tree.nodes long.serial (ap is_some long.live)) in
      let h = here long.serial within in
      let same : node_of long.serial within ≡ long.node = same_some _ _ (sym h.live ∙ long.live) in
      let dims : long.node.dims ≡ take (record_at image tree.wide (old_place nodes long.serial)).rank (numbers_in (record_at image tree.wide (old_place nodes long.serial))) = ap (λ (n : Node). n.dims) (sym same) ∙ sym h.says.dims in
      let big = long.long in
      fit image refl long.serial within (long.dim, subst (λ (l : List ℕ). Contains l long.dim) dims long.has, subst (λ (w : Bool). 16 ^ dimension_digits w ≤ long.dim) (sym long.narrow) (omega (arith, big)))

  -- the shape of a node is that of the tree's
  pub shape_is : (shapes : List NodeShape) (k : ℕ) (lt : k < length nodes) → AreMeasured (Some image) tree.wide nodes (length nodes) shapes → shape_in shapes k ≡ shape_of (given.each k lt).0
  shape_is shapes k lt m =
      let h = here k lt in
      let node = node_of k lt in
      let r = record_at image tree.wide (old_place nodes k) in
      let size : data_size r.kind (take r.rank (numbers_in r)) ≡ data_size node.kind node.dims = ap (λ t. data_size t (take r.rank (numbers_in r))) h.says.kind ∙ ap (data_size node.kind) h.says.dims in
      shape_same (shape_in shapes k) (length node.children) (option_map (λ (b : List ℕ). length b) node.bytes) (m.children k lt ∙ ap length (sym h.children))
      (m.sizes image refl k lt ∙ size_told image r node.bytes (data_size r.kind (take r.rank (numbers_in r))) h.holds (λ bytes is. (
        told_of node.bytes bytes (λ b. length b ≡ data_size node.kind node.dims) is (given.is_tree.each k node h.live).sized ∙ sym size,
        (let part = size_short node.bytes bytes (packed_nodes true tree.nodes) is (data_within true tree.nodes k node h.live) in let all = given.short in omega (arith, part, all)),
      )))

  pub shapes_are : (shapes : List NodeShape) → AreMeasured (Some image) tree.wide nodes (length nodes) shapes → shapes ≡ shapes_of tree.nodes
  shapes_are shapes m = all_shapes shapes tree.nodes (m.count ∙ sym given.count) (λ k lt.
      let within : k < length nodes = subst (λ (n : ℕ). k < n) given.count lt in
      ((given.each k within).0, (here k within).live, shape_is shapes k within m))

  -- nothing of them breaks a rule
  parts_kept : (plan : Plan) (k : ℕ) (lt : k < length nodes) (rule at : ℕ) → shape_at plan k ≡ shape_of (given.each k lt).0 → (HasLong plan.wide (record_at image tree.wide (old_place nodes k)) → ⊥)
      → BreaksParts (Some image) tree.wide nodes plan k (old_place nodes k) (record_at image tree.wide (old_place nodes k)) rule at → ⊥
  parts_kept plan k lt rule at shape fit (inl long) = fit long.2
  parts_kept plan k lt rule at shape fit (inr (inl name)) = let near = ((here k lt).names name.child name.one).near in let far = name.breaks.beyond in omega (arith, near, far)
  parts_kept plan k lt rule at shape fit (inr (inr b)) =
      contents_kept image tree.wide (record_at image tree.wide (old_place nodes k)) (old_place nodes k) rule at (node_of k lt).bytes (here k lt).chunks (here k lt).holds
      (subst (λ (s : NodeShape). BreaksContents (Some image) tree.wide (record_at image tree.wide (old_place nodes k)) (old_place nodes k) s.size rule at) shape b)

  node_kept : (plan : Plan) (k : ℕ) (lt : k < length nodes) (rule at : ℕ) → shape_at plan k ≡ shape_of (given.each k lt).0 → (HasLong plan.wide (record_at image tree.wide (old_place nodes k)) → ⊥)
      → BreaksNode (Some image) tree.wide nodes plan k rule at → ⊥
  node_kept plan k lt rule at shape fit (inl b) = unbroken image (old_place nodes k) (node_length tree.wide) (header_rows tree.wide (old_place nodes k) None) rule at (here k lt).kept b
  node_kept plan k lt rule at shape fit (inr s) =
      parts_kept plan k lt rule at shape fit (subst (λ (r : NodeRecord). BreaksParts (Some image) tree.wide nodes plan k (old_place nodes k) r rule at) s.read s.so)

  pub all_kept : (plan : Plan) (rule at : ℕ) → AreMeasured (Some image) tree.wide nodes (length nodes) plan.shapes.items → AllFit (Some image) tree.wide plan.wide nodes (length nodes)
      → BreaksOne (Some image) tree.wide nodes plan rule at → ⊥
  all_kept plan rule at m fit b = node_kept plan b.number b.within rule at (shape_is plan.shapes.items b.number b.within m) (fit image refl b.number b.within) b.breaks

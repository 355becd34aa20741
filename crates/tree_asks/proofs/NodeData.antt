-- The data of a node, as its chunks hold them.
use Rattle.std.proofs.Common.{◌≡◌, ◌≢◌, ℕ, ◌*◌, ◌^◌, ◌<◌, ◌≤◌, List, [], ◌∷◌, length, refl, sym, ◌∙◌, ap, subst, arith, Bool, true, false, Option, None, Some, append-nil}
use Rattle.std.specs.Prelude.{Result, Ok, Err, nat_lt, nat_le, ◌&&◌, IfSome}
use Rattle.std.specs.List.{All, list_all, range_with_len}
use Rattle.std.proofs.lemmas.Bool.Decides.{nat_tests}
use Rattle.std.proofs.lemmas.List.{take_all}
use Rattle.std.proofs.lemmas.List.Elements.{All-cons, All-nil}
use Rattle.adf_format.specs.declared.types.DataType.{DataType}
use Rattle.adf_format.specs.Names.{data_size, is_shape_of, is_rank_of, is_dimension}
use Rattle.adf_format.specs.Tree.{Tree, Node, node_at}
use Rattle.adf_format.specs.Placement.{Placement, NodeParts, ChunkPart}
use Rattle.adf_format.specs.LaysOut.{HoldsNode, HasData}
use Rattle.adf_format.specs.Spelled.{pointer_to}
use Rattle.adf_model.specs.declared.error.AdfError.{AdfError}
use Rattle.adf_model.specs.declared.error.AdfError.TheVariants as error
use Rattle.adf_model.specs.declared.lists.Run.{Run}
use Rattle.adf_model.specs.declared.tree.NodeId.{NodeId}
use Rattle.adf_model.specs.declared.tree.Reply.{Reply}
use Rattle.adf_model.specs.Answers.{bytes_of}
use Rattle.adf_model.specs.Edits.{size_of, size_limit}
use Rattle.adf_model.specs.Selection.{element_bytes}
use Rattle.adf_model.specs.Shapes.{is_shape}
use Rattle.adf_model.specs.Tests.{and_then, if_there, checked}
use Rattle.adf_model.proofs.Basics.{and_parts, not_true}
use Rattle.disk_ptr.specs.View.{view, place_of}
use Rattle.disk_ptr.specs.declared.DiskPtr.{DiskPtr}
use Rattle.disk_ptr.specs.declared.DiskPtr.TheVariants.{Blank as blank, At}
use Rattle.adf_records.specs.declared.NodeHeader.{NodeHeader}
use Rattle.cg_io.specs.Answers.{IsRefusal}
use Rattle.strided.specs.RunLists.{spread}
use Rattle.adf_data.specs.declared.place.DataPlace.{DataPlace}
use Rattle.adf_data.specs.Runs.{EndsIn, Holds, NoRuns}
use Rattle.adf_data.proofs.RunLaws.{run_field}
use Rattle.tree_edits.specs.declared.memory.Core.{Core}
use Rattle.tree_edits.specs.Rows.{Means}
use Rattle.tree_edits.specs.Edits.{memory_of}
use Rattle.tree_asks.specs.Told.{OfEach, IsWanted, Tells}
use Rattle.tree_asks.specs.Headers.{IsItsHeader, dims_of, data_shape_of}
use Rattle.tree_asks.specs.Causes.{IsShapeRefusal, is_large}

-- ---- pointers, runs and sizes

named_is : (d : DiskPtr) (o : Option ℕ) → place_of d ≡ o → view d ≡ pointer_to o
named_is blank o e = ap pointer_to e
named_is (At block offset) o e = ap pointer_to e

-- all bytes of some data, as one run
abbrev pub whole : ℕ → List Run
whole n = record { first = 0; count = n } ∷ []

pub whole_bytes : (n : ℕ) (bytes : List ℕ) → length bytes ≡ n → element_bytes 1 (spread (whole n)) bytes ≡ bytes
whole_bytes n bytes long =
    ap (λ es. element_bytes 1 es bytes) (append-nil (range_with_len 0 n))
    ∙ run_field 1 0 n bytes
    ∙ take_all (n * 1) bytes (omega (arith, long))

pub whole_ends : (n limit : ℕ) → n ≤ limit → All (EndsIn 1 limit) (whole n)
whole_ends n limit le = All-cons (EndsIn 1 limit) _ [] (omega (arith, le)) (All-nil (EndsIn 1 limit))

-- a shape of a narrow file is one of a wide file
wider : (ds : List ℕ) → list_all (is_dimension false) ds ≡ true → list_all (is_dimension true) ds ≡ true
wider [] e = refl
wider (d ∷ ds) e =
    let both = and_parts (is_dimension false d) (list_all (is_dimension false) ds) e in
    ap (λ b. b && list_all (is_dimension true) ds) (one d both.0) ∙ wider ds both.1
  where
    one : (d : ℕ) → is_dimension false d ≡ true → is_dimension true d ≡ true
    one d h = grind (arith, nat_tests)

wide_shape : (wide : Bool) (kind : DataType) (ds : List ℕ) → is_shape_of wide kind ds ≡ true → is_shape_of true kind ds ≡ true
wide_shape true kind ds e = e
wide_shape false kind ds e =
    let both = and_parts (is_rank_of kind (length ds) && nat_le (length ds) 12) (list_all (is_dimension false) ds) e in
    ap (λ b. b && list_all (is_dimension true) ds) both.0 ∙ wider ds both.1

-- ---- the data of a node that is there

abbrev tried : Option (List ℕ) → Bool → Result (List ℕ) AdfError
tried o large = if_there o AdfError.NoData (λ bytes. checked ((large, AdfError.TooLarge) ∷ []) (Ok bytes))

bytes_are : (node : Node) (o : Option (List ℕ)) (large : Bool) → node.bytes ≡ o → nat_lt size_limit (size_of node) ≡ large → bytes_of node ≡ tried o large
bytes_are node o large e f =
    ap (λ x. if_there x AdfError.NoData (λ bytes. checked ((nat_lt size_limit (size_of node), AdfError.TooLarge) ∷ []) (Ok bytes))) e
    ∙ ap (λ b. if_there o AdfError.NoData (λ bytes. checked ((b, AdfError.TooLarge) ∷ []) (Ok bytes))) f

none_of : (o : Option (List ℕ)) (image : List ℕ) (chunks : List ChunkPart) → HasData image chunks o → length chunks ≡ 0 → o ≡ None
none_of None image chunks h e = refl
none_of (Some bytes) image [] h e = absurd (h.0 refl)
none_of (Some bytes) image (c ∷ cs) h e = absurd (omega (arith, e))

some_of : (o : Option (List ℕ)) (image : List ℕ) (chunks : List ChunkPart) → HasData image chunks o → length chunks ≢ 0 → (bytes : List ℕ) × (o ≡ Some bytes)
some_of None image chunks h e = absurd (e (ap length h))
some_of (Some bytes) image chunks h e = (bytes, refl)

abbrev pub place_in : NodeHeader → DataPlace
place_in h = record { count = h.chunks; pointer = h.chunk }

-- a node's data that are there
pub record HasBytes (image : List ℕ) (node : Node) (parts : NodeParts) (h : NodeHeader) : Type 0 where
  pub bytes : List ℕ
  pub are : node.bytes ≡ Some bytes
  pub long : length bytes ≡ data_size node.kind node.dims
  pub holds : Holds (place_in h) parts bytes (Some image)

module _ (image : List ℕ) (core : Core) (serial place : ℕ) (h : NodeHeader) (tree : Tree) (p : Placement) (m : Means image tree p (memory_of core)) (i : IsItsHeader image tree p serial place h) where
  held : HoldsNode image tree p i.node i.parts
  held = m.laid_out.nodes serial i.node i.parts i.is.live i.is.stands

  pub size_is : data_size h.kind (dims_of h) ≡ size_of i.node
  size_is = ap (λ k. data_size k (dims_of h)) i.fields.kind ∙ ap (data_size i.node.kind) i.dims

  -- with these bytes
  pub bytes_held : (bytes : List ℕ) → i.node.bytes ≡ Some bytes → HasBytes image i.node i.parts h
  bytes_held bytes are = record {
    bytes = bytes;
    are = are;
    long = subst (λ (o : Option (List ℕ)). IfSome o (λ bytes. length bytes ≡ data_size i.node.kind i.node.dims)) are (m.laid_out.is_tree.each serial i.node i.is.live).sized;
    holds = (
      record { count = i.fields.chunks; pointer = named_is h.chunk _ i.fields.chunk },
      record { chunk_table = held.chunk_table; chunks = held.chunks; begins = subst (HasData image i.parts.chunks) are held.bytes },
    );
  }

  pub bytes_there : h.chunks ≢ 0 → HasBytes image i.node i.parts h
  bytes_there some =
      let b = some_of i.node.bytes image i.parts.chunks held.bytes (λ e. some (i.fields.chunks ∙ e)) in
      bytes_held b.0 b.1

  pub no_bytes : h.chunks ≡ 0 → bytes_of i.node ≡ Err AdfError.NoData
  no_bytes none = bytes_are i.node None (nat_lt size_limit (size_of i.node)) (none_of i.node.bytes image i.parts.chunks held.bytes (sym i.fields.chunks ∙ none)) refl

  pub large_bytes : h.chunks ≢ 0 → is_large h → bytes_of i.node ≡ Err AdfError.TooLarge
  large_bytes some large =
      let b = bytes_there some in
      let s = size_is in
      bytes_are i.node (Some b.bytes) true b.are (above (size_of i.node) (omega (arith, large, s)))
    where
      above : (n : ℕ) → 2 ^ 30 < n → nat_lt (2 ^ 30) n ≡ true
      above n lt = grind (arith, nat_tests)

  pub these_bytes : (b : HasBytes image i.node i.parts h) → data_size h.kind (dims_of h) ≤ 2 ^ 30 → bytes_of i.node ≡ Ok b.bytes
  these_bytes b short =
      let s = size_is in
      bytes_are i.node (Some b.bytes) false b.are (below (size_of i.node) (omega (arith, short, s)))
    where
      below : (n : ℕ) → n ≤ 2 ^ 30 → nat_lt (2 ^ 30) n ≡ false
      below n le = grind (arith, nat_tests)

  pub shaped : h.rank ≤ 12 → is_shape true (data_shape_of h) ≡ true
  shaped few =
      ap (λ b. b && is_shape_of true h.kind (dims_of h)) (at_most h.rank few)
      ∙ ap (λ k. is_shape_of true k (dims_of h)) i.fields.kind ∙ ap (is_shape_of true i.node.kind) i.dims
      ∙ wide_shape tree.wide i.node.kind i.node.dims (m.laid_out.is_tree.each serial i.node i.is.live).shaped
    where
      at_most : (n : ℕ) → n ≤ 12 → nat_le n 12 ≡ true
      at_most n le = grind (arith, nat_tests)

-- ---- what is told of data

-- of a node that is there, by what is made of its data
abbrev pub made_of : NodeId → (Node → List ℕ → Result Reply AdfError) → Tree → Result Reply AdfError
made_of at made tree = if_there (node_at tree at.serial) AdfError.NoSuchNode (λ (node : Node). and_then (bytes_of node) (made node))

module _ (core : Core) (at : NodeId) (place : ℕ) (h : NodeHeader) (made : Node → List ℕ → Result Reply AdfError) where
  abbrev pub Its : Option (List ℕ) → Type 0
  Its held = OfEach core held (λ image tree p. IsItsHeader image tree p at.serial place h)

  pub there : (tree : Tree) (node : Node) (r : Result (List ℕ) AdfError) → node_at tree at.serial ≡ Some node → bytes_of node ≡ r → made_of at made tree ≡ and_then r (made node)
  there tree node r live e =
      ap (λ o. if_there o AdfError.NoSuchNode (λ (n : Node). and_then (bytes_of n) (made n))) live ∙ ap (λ x. and_then x (made node)) e

  pub shape_refused : (held : Option (List ℕ)) (e : AdfError) → Its held → h.rank ≤ 12 → IsShapeRefusal h place e → Tells core held (made_of at made) (Err e)
  shape_refused None e its few c = tt
  shape_refused (Some image) error.NoData its few c = λ tree p m.
      let i = its tree p m in there tree i.node (Err AdfError.NoData) i.is.live (no_bytes image core at.serial place h tree p m i c)
  shape_refused (Some image) error.TooLarge its few c = λ tree p m.
      let i = its tree p m in there tree i.node (Err AdfError.TooLarge) i.is.live (large_bytes image core at.serial place h tree p m i c.0 c.1)
  shape_refused (Some image) (error.Layout rule k) its few c = λ tree p m.
      absurd (not_true (sym c.4 ∙ shaped image core at.serial place h tree p m (its tree p m) few))
  shape_refused (Some image) other its few c = absurd c

  -- a read of runs that is refused
  module _ (element : ℕ) (runs : List Run) (some : h.chunks ≢ 0) (within : (n : ℕ) → n ≡ data_size h.kind (dims_of h) → All (EndsIn element n) runs) where
    pub read_refused : (held : Option (List ℕ)) (before now : ℕ) (e : AdfError) → Its held → IsRefusal (NoRuns (place_in h) element runs held) before now e → Tells core held (made_of at made) (Err e)
    read_refused None before now e its c = tt
    read_refused (Some image) before now error.Memory its c = λ tree p m. tt
    read_refused (Some image) before now error.ReadFault its c = λ tree p m. tt
    read_refused (Some image) before now (error.Layout rule k) its c = λ tree p m.
        let i = its tree p m in
        let b = bytes_there image core at.serial place h tree p m i some in
        absurd (c.1 i.parts b.bytes b.holds (within (length b.bytes) (b.long ∙ sym (size_is image core at.serial place h tree p m i))))
    read_refused (Some image) before now other its c = absurd c

    -- and one that is done
    pub read_told : (held : Option (List ℕ)) (text : List ℕ) (reply : Result Reply AdfError) → Its held → data_size h.kind (dims_of h) ≤ 2 ^ 30
        → ((parts : NodeParts) (data' : List ℕ) → Holds (place_in h) parts data' held → All (EndsIn element (length data')) runs → text ≡ element_bytes element (spread runs) data')
        → ((node : Node) (bytes : List ℕ) → node.kind ≡ h.kind → node.dims ≡ dims_of h → length bytes ≡ data_size h.kind (dims_of h) → text ≡ element_bytes element (spread runs) bytes → IsWanted (made node bytes) reply)
        → Tells core held (made_of at made) reply
    read_told None text reply its short read is = tt
    read_told (Some image) text reply its short read is = λ tree p m.
        let i = its tree p m in
        let b = bytes_there image core at.serial place h tree p m i some in
        let long : length b.bytes ≡ data_size h.kind (dims_of h) = b.long ∙ sym (size_is image core at.serial place h tree p m i) in
        subst (λ w. IsWanted w reply) (sym (there tree i.node (Ok b.bytes) i.is.live (these_bytes image core at.serial place h tree p m i b short)))
        (is i.node b.bytes (sym i.fields.kind) (sym i.dims) long (read i.parts b.bytes b.holds (within (length b.bytes) long)))

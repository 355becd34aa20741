-- What is told of the data of a node that are read whole or in part, and why they are not read.
use Rattle.std.proofs.Common.{◌≡◌, ◌≢◌, ℕ, ◌+◌, ◌*◌, ◌-◌, ◌^◌, ◌≤◌, min, List, length, sym, ◌∙◌, ap, subst, arith, Bool, true, false, not, Option, None, Some, inr, ◌∷◌, []}
use Rattle.std.specs.Prelude.{Result, Ok, Err, ◌↔◌, IsFalse}
use Rattle.std.specs.List.{All}
use Rattle.std.proofs.lemmas.Nat.{mul-le}
use Rattle.std.proofs.Math.Nat.{mul_comm}
use Rattle.std.proofs.lemmas.List.Elements.{All-weaker}
use Rattle.adf_format.specs.Names.{data_size, element_size, product}
use Rattle.adf_format.specs.RecordFields.{node_length}
use Rattle.adf_format.specs.Tree.{Node}
use Rattle.adf_format.specs.Placement.{NodeParts}
use Rattle.adf_model.specs.declared.error.AdfError.{AdfError}
use Rattle.adf_model.specs.declared.error.AdfError.TheVariants as error
use Rattle.adf_model.specs.declared.lists.Run.{Run}
use Rattle.adf_model.specs.declared.tree.NodeId.{NodeId}
use Rattle.adf_model.specs.declared.tree.Reply.{Reply}
use Rattle.adf_model.specs.declared.tree.Selection.{Selection}
use Rattle.adf_model.specs.declared.tree.Shape.{Shape}
use Rattle.adf_model.specs.Selection.{selection_fits, elements, element_bytes}
use Rattle.adf_model.specs.Shapes.{dims_of as shape_dims}
use Rattle.adf_model.specs.Tests.{checked}
use Rattle.adf_model.proofs.Basics.{true_of, not_Err}
use Rattle.adf_records.specs.declared.NodeHeader.{NodeHeader}
use Rattle.cg_io.specs.Answers.{IsRefusal}
use Rattle.cg_io.proofs.ReadLaws.{rose_later}
use Rattle.node_reads.specs.Reads.{ReadAt}
use Rattle.node_reads.specs.Headers.{IsHeader}
use Rattle.strided.specs.RunLists.{spread, EndsWithin, IsRunsRefusal}
use Rattle.adf_data.specs.declared.place.DataPlace.{DataPlace}
use Rattle.adf_data.specs.Runs.{EndsIn, Holds, NoRuns}
use Rattle.tree_edits.specs.declared.memory.Core.{Core}
use Rattle.tree_asks.specs.Told.{Tells}
use Rattle.tree_asks.specs.Headers.{HeaderSays, dims_of, data_shape_of}
use Rattle.tree_asks.specs.Causes.{IsDataCause, is_large}
use Rattle.tree_asks.proofs.NodeData.{Its, place_in, whole, whole_bytes, whole_ends, made_of, there, bytes_there, these_bytes, read_refused, read_told}

-- what is made of all data, and of a part
abbrev pub all_made : Node → List ℕ → Result Reply AdfError
all_made node bytes = Ok (Reply.Bytes bytes)

abbrev pub part_made : Selection → Node → List ℕ → Result Reply AdfError
part_made selection node bytes =
    checked ((not (selection_fits node.dims selection), AdfError.BadRange) ∷ []) (Ok (Reply.Bytes (element_bytes (element_size node.kind) (elements node.dims selection) bytes)))

-- a size of at most 2^30 is told as it is
pub size_told : (n size : ℕ) → n ≡ min size (2 ^ 64 - 1) → size ≤ 2 ^ 30 → n ≡ size
size_told n size e le = omega (arith, e, le)

-- runs of elements that end within a shape end within its bytes
pub runs_end : (element count limit : ℕ) (runs : List Run) → All (EndsWithin count) runs → element * count ≤ limit → All (EndsIn element limit) runs
runs_end element count limit runs all le =
    All-weaker (EndsWithin count) (EndsIn element limit) (λ run ends.
    let a : (run.first + run.count) * element ≤ count * element = mul-le (run.first + run.count) element count element ends (omega arith) in
    let b : count * element ≡ element * count = mul_comm count element in
    omega (arith, a, b, le)) runs all

-- a selection whose runs were found fits
pub found_fits : {T : Type 0} (r : Result T AdfError) (runs : T) (b : Bool) → (r ≡ Err AdfError.BadRange) ↔ IsFalse b → r ≡ Ok runs → b ≡ true
found_fits r runs b iff e = true_of b (λ no. not_Err (sym (iff.1 no) ∙ e))

-- what a read of runs tells
abbrev pub ReadsRuns : DataPlace → ℕ → List Run → List ℕ → Option (List ℕ) → Type 0
ReadsRuns d element runs text held = (parts : NodeParts) (data' : List ℕ) → Holds d parts data' held → All (EndsIn element (length data')) runs → text ≡ element_bytes element (spread runs) data'

moved_read : (d e : DataPlace) (element : ℕ) (runs : List Run) (text : List ℕ) (held mid : Option (List ℕ)) → d ≡ e → mid ≡ held → ReadsRuns d element runs text mid → ReadsRuns e element runs text held
moved_read d e element runs text held mid same still read = subst (λ x. ReadsRuns x element runs text held) same (subst (ReadsRuns d element runs text) still read)

moved_refusal : (d e : DataPlace) (element : ℕ) (runs : List Run) (held mid : Option (List ℕ)) (before now : ℕ) (er : AdfError) → d ≡ e → mid ≡ held → IsRefusal (NoRuns d element runs mid) before now er → IsRefusal (NoRuns e element runs held) before now er
moved_refusal d e element runs held mid before now er same still c = subst (λ x. IsRefusal (NoRuns x element runs held) before now er) same (subst (λ y. IsRefusal (NoRuns d element runs y) before now er) still c)

module _ (core : Core) (at : NodeId) (place : ℕ) (h : NodeHeader) (some : h.chunks ≢ 0) (short : data_size h.kind (dims_of h) ≤ 2 ^ 30) (d : DataPlace) (d_is : d ≡ place_in h) (runs : List Run) (held mid : Option (List ℕ)) (still : mid ≡ held) (its : Its core at place h all_made held) where
  -- ---- all of it
  module _ (n : ℕ) (n_is : n ≡ min (data_size h.kind (dims_of h)) (2 ^ 64 - 1)) (run : runs ≡ whole n) where
    size : n ≡ data_size h.kind (dims_of h)
    size = size_told n (data_size h.kind (dims_of h)) n_is short

    all_within : (k : ℕ) → k ≡ data_size h.kind (dims_of h) → All (EndsIn 1 k) runs
    all_within k e = subst (All (EndsIn 1 k)) (sym run) (whole_ends n k (let s = size in omega (arith, s, e)))

    pub all_small : All (EndsIn 1 (2 ^ 30)) runs
    all_small = subst (All (EndsIn 1 (2 ^ 30))) (sym run) (whole_ends n (2 ^ 30) (let s = size in omega (arith, s, short)))

    pub all_refused : (before now : ℕ) (e : AdfError) → IsRefusal (NoRuns d 1 runs mid) before now e → Tells core held (made_of at all_made) (Err e)
    all_refused before now e c = read_refused core at place h all_made 1 runs some all_within held before now e its (moved_refusal d (place_in h) 1 runs held mid before now e d_is still c)

    pub all_told : (text : List ℕ) → ReadsRuns d 1 runs text mid → Tells core held (made_of at all_made) (Ok (Reply.Bytes text))
    all_told text read =
        read_told core at place h all_made 1 runs some all_within held text (Ok (Reply.Bytes text)) its short (moved_read d (place_in h) 1 runs text held mid d_is still read) (λ node bytes kind dims long e.
        ap (λ t. Ok (Reply.Bytes t)) (sym (e ∙ ap (λ rs. element_bytes 1 (spread rs) bytes) run ∙ whole_bytes n bytes (long ∙ sym size))))

  -- ---- a part
  module _ (selection : Selection) (shape : Shape) (shape_is : shape ≡ data_shape_of h) (element : ℕ) (element_is : element ≡ element_size shape.kind) (within : All (EndsWithin (product (shape_dims shape))) runs) where
    width : element ≡ element_size h.kind
    width = element_is ∙ ap (λ (s : Shape). element_size s.kind) shape_is

    ends : (k : ℕ) → data_size h.kind (dims_of h) ≤ k → All (EndsIn element k) runs
    ends k le =
        runs_end element (product (dims_of h)) k runs (subst (λ (s : Shape). All (EndsWithin (product (shape_dims s))) runs) shape_is within)
        (let same : element * product (dims_of h) ≡ data_size h.kind (dims_of h) = ap (λ w. w * product (dims_of h)) width in omega (arith, same, le))

    pub part_small : All (EndsIn element (2 ^ 30)) runs
    part_small = ends (2 ^ 30) short

    pub part_refused : (before now : ℕ) (e : AdfError) → IsRefusal (NoRuns d element runs mid) before now e → Tells core held (made_of at (part_made selection)) (Err e)
    part_refused before now e c = read_refused core at place h (part_made selection) element runs some (λ k e. ends k (omega (arith, e))) held before now e its (moved_refusal d (place_in h) element runs held mid before now e d_is still c)

    pub part_told : (text : List ℕ) → spread runs ≡ elements (shape_dims shape) selection → selection_fits (shape_dims shape) selection ≡ true → ReadsRuns d element runs text mid → Tells core held (made_of at (part_made selection)) (Ok (Reply.Bytes text))
    part_told text chosen fits read =
        read_told core at place h (part_made selection) element runs some (λ k e. ends k (omega (arith, e))) held text (Ok (Reply.Bytes text)) its short (moved_read d (place_in h) element runs text held mid d_is still read) (λ node bytes kind dims long e.
        let good : selection_fits node.dims selection ≡ true = ap (λ ds. selection_fits ds selection) dims ∙ sym (ap (λ (s : Shape). selection_fits (shape_dims s) selection) shape_is) ∙ fits in
        let same : element_bytes (element_size node.kind) (elements node.dims selection) bytes ≡ text =
        ap (λ k. element_bytes (element_size k) (elements node.dims selection) bytes) kind
        ∙ ap (λ ds. element_bytes (element_size h.kind) (elements ds selection) bytes) dims
        ∙ ap (λ w. element_bytes w (elements (dims_of h) selection) bytes) (sym width)
        ∙ ap (λ es. element_bytes element es bytes) (sym (chosen ∙ ap (λ (s : Shape). elements (shape_dims s) selection) shape_is))
        ∙ sym e in
        ap (λ b. checked ((not b, AdfError.BadRange) ∷ []) (Ok (Reply.Bytes (element_bytes (element_size node.kind) (elements node.dims selection) bytes)))) good
        ∙ ap (λ t. Ok (Reply.Bytes t)) same)

  -- runs that are not found
  pub runs_refused : {T : Type 0} (selection : Selection) (shape : Shape) → shape ≡ data_shape_of h → (r : Result T AdfError) (e : AdfError) → r ≡ Err e → IsRunsRefusal e
      → (r ≡ Err AdfError.BadRange) ↔ IsFalse (selection_fits (shape_dims shape) selection) → Tells core held (made_of at (part_made selection)) (Err e)
  runs_refused selection shape shape_is r e is c iff = by_held held its
    where
      told : (e : AdfError) → r ≡ Err e → IsRunsRefusal e → (image : List ℕ) → Its core at place h all_made (Some image) → Tells core (Some image) (made_of at (part_made selection)) (Err e)
      told error.Memory is c image its = λ tree p m. tt
      told error.BadRange is c image its = λ tree p m.
          let i = its tree p m in
          let b = bytes_there image core at.serial place h tree p m i some in
          let bad : selection_fits i.node.dims selection ≡ false = sym (ap (λ ds. selection_fits ds selection) i.dims) ∙ sym (ap (λ (s : Shape). selection_fits (shape_dims s) selection) shape_is) ∙ iff.0 is in
          there core at place h (part_made selection) tree i.node (Ok b.bytes) i.is.live (these_bytes image core at.serial place h tree p m i b short)
          ∙ ap (λ t. checked ((not t, AdfError.BadRange) ∷ []) (Ok (Reply.Bytes (element_bytes (element_size i.node.kind) (elements i.node.dims selection) b.bytes)))) bad
      told other is c image its = absurd c

      by_held : (held : Option (List ℕ)) → Its core at place h all_made held → Tells core held (made_of at (part_made selection)) (Err e)
      by_held None its = tt
      by_held (Some image) its = told e is c image its

-- ---- causes

module _ (core : Core) (selection : Option Selection) (held : Option (List ℕ)) (place : ℕ) (h : NodeHeader) (read : ReadAt held place (node_length core.wide) (IsHeader core.wide place None h)) (some : h.chunks ≢ 0) (short : data_size h.kind (dims_of h) ≤ 2 ^ 30) where
  readable : HeaderSays core.wide held place (λ h. (h.chunks ≢ 0) × (is_large h → ⊥))
  readable = record { header = h; read = read; says = (some, λ large. omega (arith, large, short)) }

  there_are : HeaderSays core.wide held place (λ h. h.chunks ≢ 0)
  there_are = record { header = h; read = read; says = some }

  pub memory_wanting : (before now : ℕ) (e : AdfError) → e ≡ AdfError.Memory → IsDataCause core selection held place before now e
  memory_wanting before now e is = subst (λ x. IsDataCause core selection held place before now x) (sym is) readable

  pub read_cause : (unread : Type 0) (before middle now : ℕ) (e : AdfError) → before ≤ middle → IsRefusal unread middle now e → IsDataCause core selection held place before now e
  read_cause unread before middle now error.Memory le c = readable
  read_cause unread before middle now error.ReadFault le c = rose_later before middle now le c
  read_cause unread before middle now (error.Layout rule at) le c = inr (c.0, there_are)
  read_cause unread before middle now other le c = absurd c

pub runs_cause : {T : Type 0} (core : Core) (selection : Selection) (held : Option (List ℕ)) (place : ℕ) (h : NodeHeader) → ReadAt held place (node_length core.wide) (IsHeader core.wide place None h) → h.chunks ≢ 0 → data_size h.kind (dims_of h) ≤ 2 ^ 30
    → (shape : Shape) → shape ≡ data_shape_of h → (r : Result T AdfError) (before now : ℕ) (e : AdfError) → r ≡ Err e → IsRunsRefusal e → (r ≡ Err AdfError.BadRange) ↔ IsFalse (selection_fits (shape_dims shape) selection)
    → IsDataCause core (Some selection) held place before now e
runs_cause core selection held place h read some short shape shape_is r before now error.Memory is c iff = record { header = h; read = read; says = (some, λ large. omega (arith, large, short)) }
runs_cause core selection held place h read some short shape shape_is r before now error.BadRange is c iff =
    record { header = h; read = read; says = (some, (λ large. omega (arith, large, short)), sym (ap (λ (s : Shape). selection_fits (shape_dims s) selection) shape_is) ∙ iff.0 is) }
runs_cause core selection held place h read some short shape shape_is r before now other is c iff = absurd c

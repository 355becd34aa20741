-- The parts of a node in a copy.
use Rattle.std.proofs.Common.{◌≡◌, ℕ, zero, suc, ◌+◌, ◌-◌, ◌<◌, ◌≤◌, ◌^◌, ◌∙◌, refl, subst, ap, arith, List, ◌++◌, length, take, get_or, replicate, Bool, true, false, inl, inr, Option, None, Some, IfSome}
use Rattle.std.proofs.lemmas.Bool.{cases_lt}
use Rattle.std.proofs.lemmas.List.{get_or_append_left, get_or-append_right}
use Rattle.std.proofs.lemmas.List.Elements.{Contains-get_or}
use Rattle.adf_format.specs.Parts.{node_length, dimension_digits}
use Rattle.adf_format.specs.Records.{NodeRecord, node_text, node_record}
use Rattle.adf_records.specs.declared.NodeHeader.{NodeHeader}
use Rattle.adf_records.specs.View.{record_of}
use Rattle.cg_io.specs.Device.{bytes_at}
use Rattle.node_reads.specs.Reads.{ReadAt}
use Rattle.node_reads.specs.Headers.{IsHeader}
use Rattle.layout_lint.specs.declared.verdict.NodePlace.{NodePlace}
use Rattle.adf_repack.specs.declared.places.NodeShape.{NodeShape}
use Rattle.adf_repack.specs.declared.plan.Plan.{Plan}
use Rattle.adf_repack.specs.Families.{children_of}
use Rattle.adf_repack.specs.Places.{table_room}
use Rattle.adf_repack.specs.Copies.{copied_record, numbers_in}
use Rattle.adf_repack.specs.Payloads.{copied_data, BreaksContents}
use Rattle.adf_repack.specs.Plans.{shape_at, header_at, copied_children, copied_node, table_in, HasLong, BreaksParts, BreaksNode, old_place, record_at}

all_zeros : (n k : ℕ) → ◌≡◌ {A = ℕ} (get_or (replicate n 0) k 0) 0
all_zeros zero k = refl
all_zeros (suc n) zero = refl
all_zeros (suc n) (suc k) = all_zeros n k

some_digits : (wide : Bool) → 1 ≤ 16 ^ dimension_digits wide
some_digits false = omega arith
some_digits true = omega arith

-- a number that is too long is one of the dimensions, since what stands behind them is 0
pub long_dimension : (wide : Bool) (r : NodeRecord) (values : List ℕ) → values ≡ take r.rank (numbers_in r) ++ replicate (12 - r.rank) 0
    → (i : ℕ) × (i < 12) × (16 ^ dimension_digits wide ≤ get_or values i 0) → HasLong wide r
long_dimension wide r values is long =
    let xs : List ℕ = take r.rank (numbers_in r) in
    let i : ℕ = long.0 in
    let big : 16 ^ dimension_digits wide ≤ get_or values i 0 = long.2 in
    let read : get_or values i 0 ≡ get_or (xs ++ replicate (12 - r.rank) 0) i 0 = ap (λ (l : List ℕ). get_or l i 0) is in
    elim (cases_lt i (length xs)) [
      | inl less ↦
          let at = get_or_append_left xs (replicate (12 - r.rank) 0) 0 i less in
          (get_or xs i 0, Contains-get_or xs i 0 less, omega (arith, big, read, at))
      | inr past ↦
          let at = get_or-append_right xs (replicate (12 - r.rank) 0) (length xs) i 0 refl past in
          let none = all_zeros (12 - r.rank) (i - length xs) in
          let some = some_digits wide in
          absurd (omega (arith, big, read, at, none, some))
    ]

-- what is appended of a node, in the words of the plan
pub parts_are : (image : List ℕ) (nodes : List NodePlace) (plan : Plan) (k : ℕ) (r text : NodeRecord) (at header table : ℕ) (shape : NodeShape) → text ≡ copied_record plan.wide r at shape → at ≡ header_at plan k
    → shape ≡ shape_at plan k → header ≡ node_length plan.wide → table ≡ table_room shape.children
    → node_text text ++ (copied_children image (table_in r) nodes plan.headers.items (children_of nodes k) (at + header) ++ copied_data image r shape.size (at + header + table)) ≡ copied_node image nodes plan k r
parts_are image nodes plan k r text at header table shape is stands here long room = rw (is, room, long, stands, here) refl

pub contents_broken : (held again : Option (List ℕ)) (wide : Bool) (nodes : List NodePlace) (plan : Plan) (k place : ℕ) (r : NodeRecord) (shape : NodeShape) → again ≡ held → shape ≡ shape_at plan k
    → (rule at : ℕ) → BreaksContents again wide r place shape.size rule at → BreaksParts held wide nodes plan k place r rule at
contents_broken held again wide nodes plan k place r shape same here rule at b =
    inr (inr (subst (λ (s : NodeShape). BreaksContents held wide r place s.size rule at) here (subst (λ (o : Option (List ℕ)). BreaksContents o wide r place shape.size rule at) same b)))

-- what a header says that was read
pub header_said : (held : Option (List ℕ)) (wide : Bool) (place p : ℕ) (h : NodeHeader) → p ≡ place → ReadAt held p (node_length wide) (IsHeader wide p None h) → IfSome held (λ image. record_of h ≡ record_at image wide place)
header_said None wide place p h is read = tt
header_said (Some image) wide place p h is read =
    read.says.says ∙ ap (node_record wide) (read.given ∙ ap (bytes_at image p) read.long ∙ ap (λ (k : ℕ). bytes_at image k (node_length wide)) is)

pub node_broken : (held again : Option (List ℕ)) (wide w : Bool) (nodes : List NodePlace) (plan : Plan) (k p : ℕ) (r : NodeRecord) → again ≡ held → w ≡ wide → p ≡ old_place nodes k
    → IfSome held (λ image. r ≡ record_at image wide (old_place nodes k)) → (rule at : ℕ) → BreaksParts again w nodes plan k p r rule at → BreaksNode held wide nodes plan k rule at
node_broken held again wide w nodes plan k p r same is here said rule at b =
    inr (record {
      header = r;
      read = said;
      so = subst (λ (q : ℕ). BreaksParts held wide nodes plan k q r rule at) here
          (subst (λ (v : Bool). BreaksParts held v nodes plan k p r rule at) is (subst (λ (o : Option (List ℕ)). BreaksParts o w nodes plan k p r rule at) same b));
    })

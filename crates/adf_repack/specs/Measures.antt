-- What is known of the nodes of a copy before it is written: their children, their data, and whether the version has digits for their dimensions.
use Rattle.std.specs.Prelude.{◌≡◌, ◌≢◌, ◌⊎◌, ℕ, ◌+◌, ◌^◌, ◌<◌, ◌≤◌, ◌==◌, Bool, cond, List, [], length, take, get_or, Option, None, Some}
use Rattle.adf_format.specs.declared.fields.TheConstants.{NODE_CHILDREN}
use Rattle.adf_format.specs.Names.{data_size}
use Rattle.adf_format.specs.Parts.{node_length}
use Rattle.adf_format.specs.Records.{NodeRecord}
use Rattle.adf_model.specs.declared.error.AdfError.{AdfError}
use Rattle.adf_model.specs.declared.error.AdfError.TheVariants as error
use Rattle.node_reads.specs.Headers.{header_rows}
use Rattle.node_reads.specs.Reads.{Breaks}
use Rattle.layout_lint.specs.declared.verdict.NodePlace.{NodePlace}
use Rattle.adf_repack.specs.declared.places.NodeShape.{NodeShape}
use Rattle.adf_repack.specs.Copies.{numbers_in}
use Rattle.adf_repack.specs.Families.{children_of}
use Rattle.adf_repack.specs.Places.{limited}
use Rattle.cg_io.specs.Answers.{Told}
use Rattle.adf_repack.specs.Sources.{IsUnread, IsBroken}
use Rattle.adf_repack.specs.Plans.{no_shape, HasLong, SaysAt, old_place, record_at}

-- a device that tells its bytes holds none
abbrev pub HoldsNone : Option (List ℕ) → Type 0
HoldsNone held = Told held (λ bytes. bytes ≡ [])

-- and here some
abbrev pub HoldsSome : Option (List ℕ) → Type 0
HoldsSome held = Told held (λ bytes. bytes ≢ [])

-- ---- one node

-- how many bytes of data a header tells of: none without chunks
abbrev pub size_in : NodeRecord → Option ℕ
size_in r = cond (r.chunks == 0) None (Some (limited (data_size r.kind (take r.rank (numbers_in r)))))

-- rules 15 to 21 of the header at a place, or rule 22 for the number of its children
abbrev pub BreaksShape : Option (List ℕ) → Bool → ℕ → ℕ → ℕ → ℕ → Type 0
BreaksShape held wide place children rule at =
    Breaks held place (node_length wide) (header_rows wide place None) rule at
    ⊎ ((rule ≡ 22) × (at ≡ place + NODE_CHILDREN.offset) × (2 ^ 20 < children))

-- why a node with so many children, whose header stands at a place, is not measured: a read failed, a rule is broken, or the version of the copy has no
-- digits for a dimension
abbrev pub IsUnmeasured : Option (List ℕ) → Bool → Bool → ℕ → ℕ → ℕ → ℕ → AdfError → Type 0
IsUnmeasured held wide to place children before now e =
    IsUnread before now e ⊎ (IsBroken (BreaksShape held wide place children) e ⊎ ((e ≡ error.BadShape) × SaysAt held wide place (HasLong to)))

-- ---- all nodes

abbrev pub shape_in : List NodeShape → ℕ → NodeShape
shape_in shapes k = get_or shapes k no_shape

-- the version of the copy has digits for each dimension of the first nodes
abbrev pub AllFit : Option (List ℕ) → Bool → Bool → List NodePlace → ℕ → Type 0
AllFit held wide to nodes n = (image : List ℕ) → held ≡ Some image → (k : ℕ) → k < n → HasLong to (record_at image wide (old_place nodes k)) → ⊥

-- the shapes of the first nodes
pub record AreMeasured (held : Option (List ℕ)) (wide : Bool) (nodes : List NodePlace) (n : ℕ) (shapes : List NodeShape) : Type 0 where
  pub count : length shapes ≡ n
  pub children : (k : ℕ) → k < n → (shape_in shapes k).children ≡ length (children_of nodes k)
  pub few : (k : ℕ) → k < n → (shape_in shapes k).children ≤ 2 ^ 20
  pub sizes : (image : List ℕ) → held ≡ Some image → (k : ℕ) → k < n → (shape_in shapes k).size ≡ size_in (record_at image wide (old_place nodes k))

-- one of the nodes is not measured
pub record IsUnmeasuredAt (held : Option (List ℕ)) (wide to : Bool) (nodes : List NodePlace) (before now : ℕ) (e : AdfError) : Type 0 where
  pub number : ℕ
  pub within : number < length nodes
  pub why : IsUnmeasured held wide to (old_place nodes number) (length (children_of nodes number)) before now e

-- why the nodes are not measured
abbrev pub AreUnmeasured : Option (List ℕ) → Bool → Bool → List NodePlace → ℕ → ℕ → AdfError → Type 0
AreUnmeasured held wide to nodes before now e = (e ≡ error.Memory) ⊎ IsUnmeasuredAt held wide to nodes before now e

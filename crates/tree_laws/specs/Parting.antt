-- Which parts a step writes, and which it keeps: what it leaves follows from both.
use Rattle.std.specs.Prelude.{◌≡◌, ◌⊎◌, ℕ, ◌+◌, ◌<◌, ◌≤◌, Bool, not, List, [], ◌++◌, length, slice_set, Option, Some}
use Rattle.std.specs.List.{Contains, flat_map}
use Rattle.adf_format.specs.declared.types.Extent.{Extent}
use Rattle.adf_format.specs.declared.types.ExtentKind.{ExtentKind}
use Rattle.adf_format.specs.Tree.{erased_from}
use Rattle.adf_format.specs.Tiles.{cover, end_of}
use Rattle.adf_format.specs.Placement.{Placement, NodeParts, TablePart, Heap, parts_of, extents_of, table_extents, live_extents}
use Rattle.adf_format.specs.HeapRule.{with_new_parts}

-- each byte of some ranges was taken, or lies in a live part that is excepted, and in a header before its dimensions
abbrev pub InParts : List Extent → List Extent → Bool → Placement → List Extent → Type 0
InParts ranges except wide p taken =
    (b : ℕ) → 0 < cover ranges b
    → (0 < cover taken b) ⊎ ((f : Extent) × Contains except f × Contains (live_extents wide p) f × (f.place ≤ b) × (b < end_of f) × (f.kind ≡ ExtentKind.Node → b < f.place + 130))

-- the parts that are not excepted stay live, headers stay where they are, and who is live and was drawn was live
pub record KeepsParts (except : List Extent) (wide : Bool) (p q : Placement) : Type 0 where
  pub parts : (e : Extent) → Contains (live_extents wide p) e → (Contains except e → ⊥)
      → Contains (live_extents wide q) e
  pub headers : (serial : ℕ) (from to : NodeParts) → parts_of p serial ≡ Some from
      → parts_of q serial ≡ Some to → to.header ≡ from.header
  pub drawn : length p.parts ≤ length q.parts
  pub before : (serial : ℕ) (to : NodeParts) → serial < length p.parts → parts_of q serial ≡ Some to
      → (from : NodeParts) × (parts_of p serial ≡ Some from)

-- ---- parts

abbrev pub SameParts : Type 0
SameParts = (wide : Bool) (p : Placement) (heap : Heap) → KeepsParts [] wide p (record p { heap = heap })

-- a new node
abbrev pub NewParts : Type 0
NewParts = (wide : Bool) (p : Placement) (place : ℕ) → KeepsParts [] wide p (with_new_parts p place)

-- a node with another table
abbrev pub TableParts : Type 0
TableParts =
    (wide : Bool) (p : Placement) (s : ℕ) (from : NodeParts) (t : Option TablePart)
    → parts_of p s ≡ Some from
    → KeepsParts (table_extents from.table) wide p (record p { parts = slice_set p.parts s (Some (record from { table = t })) })

-- nodes that are gone
abbrev pub ErasedParts : Type 0
ErasedParts =
    (wide : Bool) (p : Placement) (gone : ℕ → Bool)
    → KeepsParts (flat_map (extents_of wide) (erased_from 0 (λ k. not (gone k)) p.parts)) wide p (record p { parts = erased_from 0 gone p.parts })

abbrev pub PartsGoOn : Type 0
PartsGoOn =
    (few more : List Extent) (wide : Bool) (p q r : Placement) → KeepsParts few wide p q
    → KeepsParts more wide q r → KeepsParts (few ++ more) wide p r

abbrev pub MorePart : Type 0
MorePart =
    (few more ranges : List Extent) (wide : Bool) (p q : Placement) (taken : List Extent)
    → ((e : Extent) → Contains few e → Contains more e)
    → (KeepsParts few wide p q → KeepsParts more wide p q)
    × (InParts ranges few wide p taken → InParts ranges more wide p taken)

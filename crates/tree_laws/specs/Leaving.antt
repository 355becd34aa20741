-- What stays of a file over a step of an edit: parts with all their bytes, the head, and dimensions.
use Rattle.std.specs.Prelude.{◌≡◌, ℕ, ◌<◌, ◌≤◌, Bool, List, length, Some}
use Rattle.adf_format.specs.declared.types.Extent.{Extent}
use Rattle.adf_format.specs.Placement.{Placement, NodeParts, parts_of}
use Rattle.adf_model.specs.Untouched.{StaysBut, KeepsHead, KeepsDims}

-- Parts that are not excepted stay with their bytes, and so do the head but for the heap's fields, and the
-- dimensions of headers whose shapes are not set; who is live and was drawn before was live before.
pub record Leaves (except : List Extent) (shaped : List ℕ) (wide : Bool) (p q : Placement)
    (old new : List ℕ) : Type 0 where
  pub parts : StaysBut except wide p q old new
  pub head : KeepsHead old new
  pub dims : KeepsDims shaped wide p q old new
  pub drawn : length p.parts ≤ length q.parts
  pub before : (serial : ℕ) (to : NodeParts) → serial < length p.parts → parts_of q serial ≡ Some to
      → (from : NodeParts) × (parts_of p serial ≡ Some from)

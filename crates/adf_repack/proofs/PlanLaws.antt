-- Places of a plan.
use Rattle.std.proofs.Common.{◌≡◌, ℕ, ◌+◌, ◌*◌, ◌<◌, ◌≤◌, ◌^◌, ap, arith, List, length, get_or, Bool, true, false, [], ◌∷◌, refl}
use Rattle.std.proofs.lemmas.List.Sums.{sum_by-take-le}
use Rattle.adf_format.specs.Parts.{node_length, table_length}
use Rattle.std.specs.Prelude.{cond}
use Rattle.layout_lint.specs.declared.verdict.NodePlace.{NodePlace}
use Rattle.adf_repack.specs.declared.plan.Plan.{Plan}
use Rattle.adf_repack.specs.Places.{length_of, room_of, table_room}
use Rattle.adf_repack.specs.Plans.{IsPlan, shape_at, header_at, no_shape, copied_table, copied_children}
use Rattle.adf_repack.proofs.PlaceLaws.{place_more, no_zero}

pub node_some : (wide : Bool) → 246 ≤ node_length wide
node_some false = omega arith
node_some true = omega arith

module _ (nodes : List NodePlace) (plan : Plan) (k : ℕ) (is : IsPlan nodes plan) (lt : k < length nodes) where
  -- the parts of a node end within the copy
  pub ends_within : header_at plan k + room_of plan.wide (shape_at plan k) ≤ length_of plan.wide plan.shapes.items
  ends_within =
      let more = place_more plan.wide plan.shapes.items k no_shape (omega (arith, lt, is.shapes)) in
      let part = sum_by-take-le (room_of plan.wide) plan.shapes.items (k + 1) in
      omega (arith, more, part)

  pub fits : header_at plan k + room_of plan.wide (shape_at plan k) ≤ 2 ^ 44
  fits = let h = ends_within in let near = is.near in omega (arith, h, near)

  pub header_near : get_or plan.headers.items k 0 < 2 ^ 44
  header_near = let h = fits in let at = is.places k lt in let some = node_some plan.wide in omega (arith, h, at, some)

-- ---- tables

pub no_room : (n : ℕ) → n ≡ 0 → table_room n ≡ 0
no_room n none = ap table_room none

pub some_room : (n : ℕ) → 0 < n → table_room n ≡ 20 + 44 * n
some_room n some = ap (λ (b : Bool). cond b 0 (table_length n)) (no_zero n some)

module _ (image : List ℕ) (table : ℕ) (nodes : List NodePlace) (headers : List ℕ) (place : ℕ) where
  pub no_children : (kids : List ℕ) → length kids ≡ 0 → copied_children image table nodes headers kids place ≡ []
  no_children [] none = refl
  no_children (k ∷ ks) none = absurd (omega (arith, none))

  pub some_children : (kids : List ℕ) → 0 < length kids → copied_table image table nodes headers kids place ≡ copied_children image table nodes headers kids place
  some_children [] some = absurd (omega (arith, some))
  some_children (k ∷ ks) some = refl

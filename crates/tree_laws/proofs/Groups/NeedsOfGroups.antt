-- A group that is placed makes a file grow by the sum of its needs at most.
use Rattle.std.proofs.Common.{◌≡◌, ℕ, refl, arith, [], ◌∷◌, length, ◌+◌, subst}
use Rattle.std.specs.Prelude.{Result, Ok, Err}
use Rattle.adf_format.specs.Placement.{Placement}
use Rattle.adf_format.specs.HeapRule.{LimitReached, place_edit, ◌>>=◌}
use Rattle.adf_model.specs.Need.{need}
use Rattle.adf_model.specs.Placing.{placed_as, place_group}
use Rattle.adf_model.proofs.Basics.{same_Ok}
use Rattle.adf_model.proofs.Keeping.EditsKeep.{apply_keeps}
use Rattle.tree_laws.specs.Groups.{group_need}
use Rattle.tree_laws.specs.Needs.{Grows, GroupNeedsBound, GroupStaysTree}
use Rattle.tree_laws.proofs.Groups.GroupsGrow.{placed_first}
use Rattle.tree_laws.proofs.Groups.NeedsOfEdits.{needs_bound}
use Rattle.tree_laws.proofs.Groups.PartsMany.{parts_are_many}

grows_on : (limit end m n : ℕ) (r : Result Placement LimitReached) (f : Placement → Result Placement LimitReached) → Grows limit end m r → ((q : Placement) → r ≡ Ok q → Grows limit q.heap.end n (f q)) → Grows limit end (m + n) (r >>= f)
grows_on limit end m n (Ok q) f h next = by (f q) (next q refl)
  where
    by : (s : Result Placement LimitReached) → Grows limit q.heap.end n s → Grows limit end (m + n) s
    by (Ok b) k = (let x = h.0 in let y = k.0 in omega (arith, x, y), let x = h.1 in let y = k.1 in omega (arith, x, y))
    by (Err full) k = (let x = h.1 in omega (arith, x, k))
grows_on limit end m n (Err full) f h next = omega (arith, h)

pub group_needs_bound : GroupNeedsBound
group_needs_bound limit tree p [] is many all = (omega arith, omega arith)
group_needs_bound limit tree p (e ∷ done) is many all =
    grows_on limit p.heap.end (need tree e.0) (group_need e.1 done) (place_edit limit tree e.1 (placed_as e.0) p) (λ (q : Placement). place_group limit e.1 q done) (needs_bound limit tree e.1 p e.0 is all.0 many all.1)
    (λ q at. group_needs_bound limit e.1 q done (apply_keeps tree e.1 e.0 is all.0 all.1) (parts_are_many limit tree e.1 p q e.0 many all.1 at) all.2)

pub group_stays_tree : GroupStaysTree
group_stays_tree limit tree p q [] is many all e = (is, subst (λ (r : Placement). length r.parts ≡ length tree.nodes) (same_Ok e) many)
group_stays_tree limit tree p q (e ∷ done) is many all placed =
    let m = placed_first (place_edit limit tree e.1 (placed_as e.0) p) (λ (q : Placement). place_group limit e.1 q done) q placed in
    group_stays_tree limit e.1 m.0 q done (apply_keeps tree e.1 e.0 is all.0 all.1) (parts_are_many limit tree e.1 p m.0 e.0 many all.1 m.1) all.2 m.2

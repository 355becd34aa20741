-- The placement of an edit as a plan and its gifts.
use Rattle.std.proofs.Common.{◌≡◌, ℕ, refl, List, ◌∷◌}
use Rattle.std.specs.Prelude.{Option, Some, None, slice_get, Result, Ok, Err}
use Rattle.adf_format.specs.Tree.{parent_of, lineage, climb, families}
use Rattle.adf_format.specs.HeapRule.{LimitReached, GrownTable, grow_table, after_gives, ◌>>=◌}
use Rattle.tree_laws.specs.Plans.{PlansOthers, ParentsByLineage, end_of_plan}

one_end : (r : Result GrownTable LimitReached) → (r >>= λ (g : GrownTable). Ok (after_gives g.placed g.given)) ≡ end_of_plan (r >>= λ (g : GrownTable). Ok (record { placed = g.placed; given = g.given }))
one_end (Ok g) = refl
one_end (Err e) = refl

pub plans_others : PlansOthers
plans_others limit tree after p = (refl, refl, λ parent. one_end (grow_table limit tree parent p))

above : (fs : List (List ℕ)) (k : ℕ) (o : Option ℕ) → o ≡ slice_get (k ∷ climb 255 fs o) 1
above fs k None = refl
above fs k (Some q) = refl

pub parents_by_lineage : ParentsByLineage
unfolding lineage
parents_by_lineage tree k = above (families tree) k (parent_of tree k)

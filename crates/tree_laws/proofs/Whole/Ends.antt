-- An edit on its way at whose end nothing is taken is done.
use Rattle.std.proofs.Common.{◌≡◌, refl, sym, ap, subst, List, [], ◌∷◌, ◌++◌}
use Rattle.adf_format.specs.declared.types.Extent.{Extent}
use Rattle.adf_model.specs.Untouched.{touched_extents}
use Rattle.tree_laws.specs.Spared.{AreSpared, KeepsPlaces, MidEnds}
use Rattle.tree_laws.proofs.Holding.Steps.{to_layout}
use Rattle.tree_laws.proofs.Whole.Rest.{rest_is_left}

pub nothing_behind : (xs : List Extent) → xs ++ [] ≡ xs
nothing_behind [] = refl
nothing_behind (x ∷ xs) = ap (λ ys. x ∷ ys) (nothing_behind xs)

pub mid_ends : MidEnds
mid_ends limit writable edit tree after p q ranges old new l made placed u own keeps =
    let left = rest_is_left limit tree p q ((edit, after) ∷ []) ranges old new l u.grows u.changes
    (subst (λ xs. AreSpared ranges xs tree ((edit, after) ∷ []) p q) (sym (nothing_behind (touched_extents tree p edit))) own)
    (subst (λ xs. KeepsPlaces xs tree.wide p q) (sym (nothing_behind (touched_extents tree p edit))) keeps) in record {
      made = made;
      placed = placed;
      laid_out = to_layout new after q u.holds;
      rest = left.0;
      tail = left.1;
      places = keeps;
    }

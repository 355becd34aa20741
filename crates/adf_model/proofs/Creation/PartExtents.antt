-- The extents of a file are those of its nodes.
use Rattle.std.proofs.Common.{◌≡◌, ◌⊎◌, inl, inr, ℕ, zero, suc, refl, sym, subst, arith, List, [], ◌∷◌, get_or, ◌<◌, Bool, true}
use Rattle.std.proofs.lemmas.List.Elements.{Contains-append_left, Contains-append_right, Contains-append_cases}
use Rattle.std.specs.Prelude.{Option, Some, None, is_some}
use Rattle.std.specs.List.{flat_map, Contains}
use Rattle.adf_format.specs.declared.types.Extent.{Extent}
use Rattle.adf_format.specs.Tree.{Node}
use Rattle.adf_format.specs.Placement.{NodeParts, extent, extents_of, node_extents}
use Rattle.adf_model.proofs.Basics.{not_there, not_true}

pub none_in : {A : Type 0} (a : A) → Contains [] a → ⊥
none_in a h = none h.0 h.1
  where
    none : (k : ℕ) → k < 0 → ⊥
    none k lt = omega (arith, lt)

-- an extent of the parts is one of some node's
pub node_of : (wide : Bool) (xs : List (Option NodeParts)) (e : Extent) → Contains (flat_map (extents_of wide) xs) e → (k : ℕ) × (ms : NodeParts) × (get_or xs k None ≡ Some ms) × Contains (node_extents wide ms) e
node_of wide [] e h = absurd (none_in e h)
node_of wide (x ∷ xs) e h = by_first x (Contains-append_cases (extents_of wide x) (flat_map (extents_of wide) xs) e h) (node_of wide xs e)
  where
    by_first : (x : Option NodeParts) → Contains (extents_of wide x) e ⊎ Contains (flat_map (extents_of wide) xs) e
        → (Contains (flat_map (extents_of wide) xs) e → (k : ℕ) × (ms : NodeParts) × (get_or xs k None ≡ Some ms) × Contains (node_extents wide ms) e)
        → (k : ℕ) × (ms : NodeParts) × (get_or (x ∷ xs) k None ≡ Some ms) × Contains (node_extents wide ms) e
    by_first None (inl c) later = absurd (none_in e c)
    by_first (Some ms) (inl c) later = (zero, ms, refl, c)
    by_first x (inr c) later = let r = later c in (suc r.0, r.1, r.2, r.3)

-- and an extent of a node is one of the parts
pub of_node : (wide : Bool) (xs : List (Option NodeParts)) (k : ℕ) (ms : NodeParts) (e : Extent) → get_or xs k None ≡ Some ms → Contains (node_extents wide ms) e → Contains (flat_map (extents_of wide) xs) e
of_node wide [] k ms e at c = absurd (not_there ms at)
of_node wide (x ∷ xs) zero ms e at c = Contains-append_left (extents_of wide x) (flat_map (extents_of wide) xs) e (subst (λ (o : Option NodeParts). Contains (extents_of wide o) e) (sym at) c)
of_node wide (x ∷ xs) (suc k) ms e at c = Contains-append_right (extents_of wide x) (flat_map (extents_of wide) xs) e (of_node wide xs k ms e at c)

pub there : (o : Option Node) → is_some o ≡ true → (node : Node) × (o ≡ Some node)
there None h = absurd (not_true h)
there (Some node) h = (node, refl)

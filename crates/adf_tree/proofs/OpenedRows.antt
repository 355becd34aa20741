-- The table of an opening, row by row.
use Rattle.std.proofs.Common.{◌≡◌, ℕ, zero, suc, refl, sym, ◌∙◌, ap, arith, append_assoc, List, [], ◌∷◌, ◌++◌, length, map, drop, get_or, ◌+◌, ◌<◌, ◌≤◌}
use Rattle.std.proofs.lemmas.List.{append-nil}
use Rattle.std.specs.Prelude.{Option, Some}
use Rattle.adf_format.specs.Verdict.{NodePlace}
use Rattle.tree_edits.specs.declared.rows.Row.{Row}
use Rattle.adf_tree.specs.Opening.{opened_row, opened_from}

module _ {N : Type 0} (f : N → NodePlace) where
  next : (k i : ℕ) (nodes : List N) (d : N) → i < length nodes → opened_from k (map f (drop i nodes)) ≡ Some (opened_row k (f (get_or nodes i d))) ∷ opened_from (suc k) (map f (drop (suc i) nodes))
  next k i [] d lt = absurd (omega (arith, lt))
  next k zero (n ∷ nodes) d lt = refl
  next k (suc i) (n ∷ nodes) d lt = next k i nodes d (omega (arith, lt))

  -- one more row, and the rest
  pub one_more : (rows all : List (Option Row)) (i j : ℕ) (nodes : List N) (d : N) (row : Row) → i < length nodes → j ≡ i + 1 → row ≡ opened_row i (f (get_or nodes i d)) → rows ++ opened_from i (map f (drop i nodes)) ≡ all
      → (rows ++ Some row ∷ []) ++ opened_from j (map f (drop j nodes)) ≡ all
  one_more rows all i j nodes d row lt e r h =
      let at : j ≡ suc i = omega (arith, e) in
      ap (λ (m : ℕ). (rows ++ Some row ∷ []) ++ opened_from m (map f (drop m nodes))) at
      ∙ ap (λ (x : Row). (rows ++ Some x ∷ []) ++ opened_from (suc i) (map f (drop (suc i) nodes))) r
      ∙ append_assoc rows (Some (opened_row i (f (get_or nodes i d))) ∷ []) (opened_from (suc i) (map f (drop (suc i) nodes)))
      ∙ ap (λ xs. rows ++ xs) (sym (next i i nodes d lt)) ∙ h

  past : (k i : ℕ) (nodes : List N) → length nodes ≤ i → opened_from k (map f (drop i nodes)) ≡ []
  past k i [] le = drop_none i
    where
      drop_none : (i : ℕ) → opened_from k (map f (drop i [])) ≡ []
      drop_none zero = refl
      drop_none (suc i) = refl
  past k zero (n ∷ nodes) le = absurd (omega (arith, le))
  past k (suc i) (n ∷ nodes) le = past k i nodes (omega (arith, le))

  pub all_rows : (rows all : List (Option Row)) (i : ℕ) (nodes : List N) → length nodes ≤ i → rows ++ opened_from i (map f (drop i nodes)) ≡ all → rows ≡ all
  all_rows rows all i nodes le h = sym (append-nil rows) ∙ ap (λ xs. rows ++ xs) (sym (past i i nodes le)) ∙ h

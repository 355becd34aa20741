-- Bytes and what is in memory mean one tree and one placement.
use Rattle.std.proofs.Common.{◌≡◌, ℕ, sym, ◌∙◌, subst, List, [], ◌∷◌, map, zero, suc, refl, get_or, Option, None, Some}
use Rattle.std.proofs.lemmas.List.{length-map}
use Rattle.std.specs.Option.{option_map}
use Rattle.adf_format.specs.Tree.{Tree}
use Rattle.adf_format.specs.Placement.{Placement}
use Rattle.tree_laws.specs.Reading.{ArePlaces, SaysPlace}
use Rattle.tree_laws.proofs.Reading.TreesRead.{one_tree, table_is_places}
use Rattle.tree_edits.specs.declared.rows.Row.{Row}
use Rattle.tree_edits.specs.Rows.{IsRowOf, Means, Memory, row_of}

-- where the headers of the rows stand
abbrev places_in : List (Option Row) → List (Option ℕ)
places_in rows = map (option_map (λ (row : Row). row.place)) rows

place_in : (rows : List (Option Row)) (k : ℕ) → get_or (places_in rows) k None ≡ option_map (λ (row : Row). row.place) (row_of rows k)
place_in [] k = refl
place_in (r ∷ rows) zero = refl
place_in (r ∷ rows) (suc k) = place_in rows k

module _ (image : List ℕ) (memory : Memory) where
  row_says : (tree : Tree) (p : Placement) (k : ℕ) (o : Option Row) → IsRowOf tree p k o → SaysPlace tree p k (option_map (λ (row : Row). row.place) o)
  row_says tree p k None gone = gone
  row_says tree p k (Some row) its = (its.live, its.place)

  placed : (tree : Tree) (p : Placement) → Means image tree p memory → ArePlaces p (places_in memory.rows)
  placed tree p m =
      table_is_places image tree p (places_in memory.rows) m.laid_out (length-map memory.rows (option_map (λ (row : Row). row.place)) ∙ m.table.count)
      (λ k. subst (SaysPlace tree p k) (sym (place_in memory.rows k)) (row_says tree p k (row_of memory.rows k) (m.table.each k)))

  pub one_meaning : (t u : Tree) (p q : Placement) → Means image t p memory → Means image u q memory → t ≡ u
  one_meaning t u p q m n = (one_tree image t u p q (places_in memory.rows) m.laid_out n.laid_out (placed t p m) (placed u q n)).0

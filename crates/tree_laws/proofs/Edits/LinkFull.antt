-- A link joins a parent whose table is full: with a longer table, and the old one is given.
use Rattle.std.proofs.Common.{◌≡◌, ℕ, suc, refl, sym, ◌∙◌, ap, subst, arith, [], ◌∷◌, ◌++◌, length, max, ◌+◌, ◌/◌, ◌^◌, ◌<◌, ◌≤◌, Bool, true}
use Rattle.std.proofs.lemmas.Bool.Decides.{nat_tests}
use Rattle.std.proofs.lemmas.List.{length-set}
use Rattle.std.specs.Prelude.{Option, Some, slice_set, Result, Ok, ◌==◌, if◌then◌else◌}
use Rattle.adf_format.specs.Links.{link_text}
use Rattle.adf_format.specs.Tree.{Tree, Node, children_of, children_at}
use Rattle.adf_format.specs.Tiles.{cover}
use Rattle.adf_format.specs.Parts.{node_length, table_length}
use Rattle.adf_format.specs.Placement.{NodeParts, Heap, extent, parts_of, node_extents, table_extents}
use Rattle.adf_format.specs.LaysOut.{entry_count}
use Rattle.adf_format.specs.HeapRule.{LimitReached, Taken, no_parts, parts_or_none, parts_at, with_parts, with_new_parts, with_table, take_bytes, grown_entries, chunk_length_for, after_gives, ◌>>=◌}
use Rattle.adf_format.proofs.HeapSteps.{cover-append}
use Rattle.adf_model.specs.Edits.{new_link}
use Rattle.adf_model.proofs.Creation.CreatedNodes.{there_inside}
use Rattle.tree_laws.specs.Holding.{Holds}
use Rattle.tree_laws.specs.NodeJoin.{with_parts_of_new, link_parts}
use Rattle.tree_laws.specs.EditsPlaced.{LinkEndsFull}
use Rattle.tree_laws.proofs.Holding.GiftsFolded.{gifts_end, taken_in_any_order}
use Rattle.tree_laws.proofs.Data.DataSwitched.{long_list}
use Rattle.tree_laws.proofs.Edits.NodeWithTable.{node_joins_table}
use Rattle.tree_laws.proofs.Edits.EditsPlaced.{front_get, set_front, as_many, is_grown, sound, held, put, goes_on, begins}

same_test : (a b : ℕ) → a ≡ b → (a == b) ≡ true
same_test a b e = grind (arith, nat_tests)

more_entries : (c : ℕ) → suc c ≤ max 8 (c + c / 2)
more_entries c = omega arith

few_entries : (c : ℕ) → c ≤ 2 ^ 20 → max 8 (c + c / 2) < 16 ^ 8
few_entries c le = omega (arith, le)

pub link_ends_full : LinkEndsFull
link_ends_full limit old written new tree after p between again heap taken hk tk ck at name file path header table place entries parent from reached e short many takes takes_table takes_chunk h stands here placed full near list w gives = (
  after_gives (with_parts_of_new (record { parts = slice_set p.parts at.serial (Some (record from { table = Some (record { place = table; entries = entries }) })); heap = heap }) (link_parts header place (chunk_length_for (length (link_text file path))))) (table_extents from.table),
  ap (begins limit tree after at name file path h.is_tree reached e p) takes
      ∙ ap (λ (b : Bool). (if b then (take_bytes limit (table_length (grown_entries (length (children_at tree at.serial)))) (with_new_parts (record p { heap = between }) header) >>= λ (x : Taken). Ok (with_table x.1 at.serial (grown_entries (length (children_at tree at.serial))) x.0)) else Ok (record { placed = (with_new_parts (record p { heap = between }) header); given = [] })) >>= goes_on limit tree after at name file path h.is_tree reached e) is_full
      ∙ ap (λ (n : ℕ). (take_bytes limit (table_length n) (with_new_parts (record p { heap = between }) header) >>= λ (x : Taken). Ok (with_table x.1 at.serial n x.0)) >>= goes_on limit tree after at name file path h.is_tree reached e) as_entries
      ∙ ap (λ (r : Result (ℕ × Heap) LimitReached). ((r >>= λ (t : ℕ × Heap). Ok (t.0, record (with_new_parts (record p { heap = between }) header) { heap = t.1 })) >>= λ (x : Taken). Ok (with_table x.1 at.serial entries x.0)) >>= goes_on limit tree after at name file path h.is_tree reached e) takes_table
      ∙ ap (λ (o : Option NodeParts). goes_on limit tree after at name file path h.is_tree reached e (record { placed = with_parts (record (with_new_parts (record p { heap = between }) header) { heap = again }) at.serial (record (parts_or_none o) { table = Some (record { place = table; entries = entries }) }); given = table_extents (parts_or_none o).table })) at_grown
      ∙ put limit tree after at name file path h.is_tree reached e (with_parts (record (with_new_parts (record p { heap = between }) header) { heap = again }) at.serial (record from { table = Some (record { place = table; entries = entries }) })) (table_extents from.table) (slice_set p.parts at.serial (Some (record from { table = Some (record { place = table; entries = entries }) }))) header place heap
      (set_front p.parts at.serial (Some (record no_parts { header = header })) (Some (record from { table = Some (record { place = table; entries = entries }) })) (there_inside p.parts at.serial from placed))
      (length-set p.parts at.serial (Some (record from { table = Some (record { place = table; entries = entries }) })) ∙ as_many tree (record p { heap = heap }) h.same_nodes) takes_chunk,
  gifts_end (table_extents from.table) written new after (with_parts_of_new (record { parts = slice_set p.parts at.serial (Some (record from { table = Some (record { place = table; entries = entries }) })); heap = heap }) (link_parts header place (chunk_length_for (length (link_text file path))))) taken (long_list from.table)
      (subst (λ (x : Tree). Holds written x (with_parts_of_new (record { parts = slice_set p.parts at.serial (Some (record from { table = Some (record { place = table; entries = entries }) })); heap = heap }) (link_parts header place (chunk_length_for (length (link_text file path))))) (table_extents from.table ++ taken)) (is_grown limit tree after at name file path h.is_tree reached e)
      (node_joins_table old written tree (record p { heap = heap }) (extent ck place (chunk_length_for (length (link_text file path))) ∷ extent hk header (node_length tree.wide) ∷ taken) taken tk at.serial table entries parent (new_link name (link_text file path)) from (link_parts header place (chunk_length_for (length (link_text file path))))
      (taken_in_any_order old tree (record p { heap = heap }) (extent ck place (chunk_length_for (length (link_text file path))) ∷ extent tk table (table_length entries) ∷ extent hk header (node_length tree.wide) ∷ taken) (extent tk table (table_length entries) ∷ extent ck place (chunk_length_for (length (link_text file path))) ∷ extent hk header (node_length tree.wide) ∷ taken) (λ b. omega arith) h)
      here placed few (subst (λ n. suc (length parent.children) ≤ n) (sym many) (more_entries (length parent.children))) (subst (λ n. n < 16 ^ 8) (sym many) (few_entries (length parent.children) width)) short stands.near.0 near refl
      (held limit tree after at name file path h.is_tree reached e old (record p { heap = heap }) header place short stands) owners list w (sound limit tree after at name file path h.is_tree reached e))) gives,
)
  where
    width : length parent.children ≤ 2 ^ 20
    width = subst (λ (o : Option Node). length (children_of o) ≤ 2 ^ 20) here (h.is_tree.width at.serial)

    few : suc (length parent.children) < 16 ^ 8
    few = let l = width in omega (arith, l)

    at_grown : parts_of (with_new_parts (record p { heap = between }) header) at.serial ≡ Some from
    at_grown = front_get p.parts (Some (record no_parts { header = header })) at.serial (there_inside p.parts at.serial from placed) ∙ placed

    as_entries : grown_entries (length (children_at tree at.serial)) ≡ entries
    as_entries = ap (λ (o : Option Node). grown_entries (length (children_of o))) here ∙ sym many

    is_full : (entry_count (parts_at (with_new_parts (record p { heap = between }) header) at.serial).table == length (children_at tree at.serial)) ≡ true
    is_full =
        ap (λ (o : Option NodeParts). entry_count (parts_or_none o).table == length (children_at tree at.serial)) at_grown
        ∙ ap (λ (o : Option Node). entry_count from.table == length (children_of o)) here ∙ same_test (entry_count from.table) (length parent.children) full

    owners : (b : ℕ) → cover (taken ++ node_extents tree.wide (link_parts header place (chunk_length_for (length (link_text file path))))) b ≡ cover (extent ck place (chunk_length_for (length (link_text file path))) ∷ extent hk header (node_length tree.wide) ∷ taken) b
    owners b = let x = cover-append taken (node_extents tree.wide (link_parts header place (chunk_length_for (length (link_text file path))))) b in omega (arith, x)

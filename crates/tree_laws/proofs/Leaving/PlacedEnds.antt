-- The end of a file does not fall where an edit is placed.
use Rattle.std.proofs.Common.{◌≡◌, ℕ, refl, subst, arith, List, length, ◌≤◌}
use Rattle.std.specs.Prelude.{Option, Result, Ok, Err}
use Rattle.std.specs.Option.{option_map}
use Rattle.std.specs.List.{flat_map}
use Rattle.adf_format.specs.Tree.{Tree, children_at, next_serial, is_live, erased_from}
use Rattle.adf_format.specs.Parts.{node_length}
use Rattle.adf_format.specs.Placement.{Placement, extents_of}
use Rattle.adf_format.specs.HeapRule.{LimitReached, Taken, GrownTable, with_new_parts, take_bytes, grow_table, after_gives, place_data, data_at, Placed, place_edit, place_new, place_deleted, ◌>>=◌}
use Rattle.adf_model.specs.Need.{grown_table_length, data_need}
use Rattle.adf_model.proofs.Basics.{same_Ok, not_Err}
use Rattle.tree_laws.proofs.Groups.TakesGrow.{Within, take_grows, given_end, table_last, table_grows, data_grow}

-- a result that ends at an end or behind it, if it is no refusal
abbrev Rises : {A : Type 0} → (A → ℕ) → ℕ → Result A LimitReached → Type 0
Rises last end (Ok a) = end ≤ last a
Rises last end (Err full) = Unit {0}

abbrev ends_at : Placement → ℕ
ends_at p = p.heap.end

of_within : {A : Type 0} (last : A → ℕ) (limit end most : ℕ) (r : Result A LimitReached) → Within last limit end most r → Rises last end r
of_within last limit end most (Ok a) h = h.0
of_within last limit end most (Err full) h = tt

rises_on : {A B : Type 0} (one : A → ℕ) (two : B → ℕ) (end : ℕ) (r : Result A LimitReached) (f : A → Result B LimitReached) → Rises one end r → ((a : A) → Rises two (one a) (f a)) → Rises two end (r >>= f)
rises_on {B = B} one two end (Ok a) f h next = by (f a) (next a)
  where
    by : (s : Result B LimitReached) → Rises two (one a) s → Rises two end s
    by (Ok b) k = omega (arith, h, k)
    by (Err full) k = tt
rises_on one two end (Err full) f h next = tt

of_ok : (end : ℕ) (r : Result Placement LimitReached) (q : Placement) → Rises ends_at end r → r ≡ Ok q → end ≤ q.heap.end
of_ok end (Ok p) q h e = subst (λ (x : Placement). end ≤ x.heap.end) (same_Ok e) h
of_ok end (Err full) q h e = absurd (not_Err e)

same_end : (end : ℕ) (p : Placement) → p.heap.end ≡ end → end ≤ p.heap.end
same_end end p e = omega (arith, e)

data_rise : (limit : ℕ) (p : Placement) (s : ℕ) (o : Option (List ℕ)) → Rises ends_at p.heap.end (place_data limit p s o)
data_rise limit p s o = of_within ends_at limit p.heap.end (data_need (option_map (λ (bytes : List ℕ). length bytes) o)) (place_data limit p s o) (data_grow limit p s o)

table_rises : (limit : ℕ) (tree : Tree) (s : ℕ) (p : Placement) → Rises table_last p.heap.end (grow_table limit tree s p)
table_rises limit tree s p = of_within table_last limit p.heap.end (grown_table_length (length (children_at tree s))) (grow_table limit tree s p) (table_grows limit tree s p)

new_rises : (limit : ℕ) (tree after : Tree) (s : ℕ) (p : Placement) → Rises ends_at p.heap.end (place_new limit tree after s p)
new_rises limit tree after s p =
    rises_on (λ (t : Taken). t.1.heap.end) ends_at p.heap.end (take_bytes limit (node_length tree.wide) p) _ (of_within (λ (t : Taken). t.1.heap.end) limit p.heap.end (node_length tree.wide) (take_bytes limit (node_length tree.wide) p) (take_grows limit (node_length tree.wide) p))
    (λ h. rises_on table_last ends_at h.1.heap.end (grow_table limit tree s (with_new_parts h.1 h.0)) _ (table_rises limit tree s (with_new_parts h.1 h.0))
    (λ g. rises_on ends_at ends_at g.placed.heap.end (place_data limit g.placed (next_serial tree) (data_at after (next_serial tree))) (λ (q : Placement). Ok (after_gives q g.given)) (data_rise limit g.placed (next_serial tree) (data_at after (next_serial tree)))
    (λ q. same_end q.heap.end (after_gives q g.given) (given_end g.given q.heap))))

edit_rises : (limit : ℕ) (tree after : Tree) (p : Placement) (edit : Placed) → Rises ends_at p.heap.end (place_edit limit tree after edit p)
edit_rises limit tree after p (Placed.Create parent) = new_rises limit tree after parent p
edit_rises limit tree after p (Placed.Link parent) = new_rises limit tree after parent p
edit_rises limit tree after p Placed.Delete = same_end p.heap.end (place_deleted after p) (given_end (flat_map (extents_of after.wide) (erased_from 0 (is_live after) p.parts)) p.heap)
edit_rises limit tree after p (Placed.Move parent) =
    rises_on table_last ends_at p.heap.end (grow_table limit tree parent p) (λ (g : GrownTable). Ok (after_gives g.placed g.given)) (table_rises limit tree parent p)
    (λ g. same_end g.placed.heap.end (after_gives g.placed g.given) (given_end g.given g.placed.heap))
edit_rises limit tree after p (Placed.Data node) = data_rise limit p node (data_at after node)
edit_rises limit tree after p Placed.InPlace = same_end p.heap.end p refl

pub end_rises : (limit : ℕ) (tree after : Tree) (p q : Placement) (edit : Placed) → place_edit limit tree after edit p ≡ Ok q → p.heap.end ≤ q.heap.end
end_rises limit tree after p q edit placed = of_ok p.heap.end (place_edit limit tree after edit p) q (edit_rises limit tree after p edit) placed

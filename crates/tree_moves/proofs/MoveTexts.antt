-- Texts that a move writes, as the laws of moves name them.
use Rattle.std.proofs.Common.{◌≡◌, ℕ, suc, sym, ap, subst, arith, List, [], ◌∷◌, ◌++◌, length, ◌+◌, ◌-◌, ◌*◌, ◌<◌, ◌≤◌}
use Rattle.adf_format.specs.declared.types.ExtentKind.{ExtentKind}
use Rattle.adf_format.specs.Changes.{Writes}
use Rattle.adf_format.specs.Fields.{field}
use Rattle.adf_format.specs.Placement.{extent}
use Rattle.adf_format.proofs.FieldLaws.{writes_joined, length-field}
use Rattle.adf_format.proofs.HeapLaws.{join_range}
use Rattle.adf_format.proofs.ReachedLaws.{more_changes, later_changes}
use Rattle.tree_laws.specs.MidEdit.{Puts}
use Rattle.tree_edits.specs.declared.listed.Listed.{Listed}
use Rattle.tree_edits.specs.Left.{MovesUp, entry_place, length_behind}
use Rattle.tree_edits.proofs.Leaves.{moves_put}
use Rattle.tree_moves.specs.Relisted.{MovesLast}

-- the same text at the same place, by other names
put_again : (kind : ExtentKind) (place here n m from at : ℕ) (old new : List ℕ) → place ≡ here → n ≡ m → from ≡ at → Puts kind place n (field old from n) old new → Puts kind here m (field old at m) old new
put_again kind place here n m from at old new a b c w =
    subst (λ k. Puts kind here m (field old k m) old new) c (subst (λ j. Puts kind here j (field old from j) old new) b (subst (λ i. Puts kind i n (field old from n) old new) a w))

-- the entries behind one move up in a table at a place that has so many
pub behind_put : (listed : Listed) (table count : ℕ) (old new : List ℕ) → listed.table.place ≡ table → listed.table.count ≡ count → entry_place listed + 44 + length_behind listed ≤ length old → MovesUp (entry_place listed + 44) (entry_place listed) (length_behind listed) old new
    → Puts ExtentKind.SubNodes (table + 16 + 44 * listed.position) (44 * (count - suc listed.position)) (field old (table + 16 + 44 * (listed.position + 1)) (44 * (count - suc listed.position))) old new
behind_put listed table count old new here many far m =
    put_again ExtentKind.SubNodes (entry_place listed) (table + 16 + 44 * listed.position) (length_behind listed) (44 * (count - suc listed.position)) (entry_place listed + 44) (table + 16 + 44 * (listed.position + 1)) old new
    (omega (arith, here)) (ap (λ k. 44 * (k - suc listed.position)) many) (omega (arith, here))
    (moves_put ExtentKind.SubNodes (entry_place listed + 44) (entry_place listed) (length_behind listed) old new far m)

-- two texts of which one stands behind the other are one
pub puts_joined : (kind : ExtentKind) (place n m : ℕ) (text more old mid new : List ℕ) → length text ≡ n → Puts kind place n text old mid → Puts kind (place + n) m more mid new → Puts kind place (n + m) (text ++ more) old new
puts_joined kind place n m text more old mid new long v w = record {
  writes = writes_joined place text more old mid new v.writes (subst (λ k. Writes (place + k) more mid new) (sym long) w.writes);
  only = later_changes (extent kind place (n + m) ∷ []) old mid new
      (more_changes (extent kind place n ∷ []) (extent kind place (n + m) ∷ []) old mid (λ k none. let j = join_range place n m k in omega (arith, none, j)) v.only)
      (more_changes (extent kind (place + n) m ∷ []) (extent kind place (n + m) ∷ []) mid new (λ k none. let j = join_range place n m k in omega (arith, none, j)) w.only);
}

-- the same, and its own entry becomes the last
pub last_put : (listed : Listed) (table count : ℕ) (entry old new : List ℕ) → listed.table.place ≡ table → listed.table.count ≡ count → listed.position < count → entry_place listed + 44 + length_behind listed ≤ length old → MovesLast listed entry old new
    → Puts ExtentKind.SubNodes (table + 16 + 44 * listed.position) (44 * (count - listed.position)) (field old (table + 16 + 44 * (listed.position + 1)) (44 * (count - suc listed.position)) ++ entry) old new
last_put listed table count entry old new here many lt far w =
    let n : ℕ = 44 * (count - suc listed.position) in
    let text : List ℕ = field old (table + 16 + 44 * (listed.position + 1)) (44 * (count - suc listed.position)) in
    let all : 44 * (count - suc listed.position) + 44 ≡ 44 * (count - listed.position) = omega (arith, lt) in
    let long : length text ≡ 44 * (count - suc listed.position) = (let l = length-field old (table + 16 + 44 * (listed.position + 1)) (44 * (count - suc listed.position)) in omega (arith, l, far, here, many)) in
    let at : entry_place listed + length_behind listed ≡ table + 16 + 44 * listed.position + 44 * (count - suc listed.position) = omega (arith, here, many) in
    subst (λ k. Puts ExtentKind.SubNodes (table + 16 + 44 * listed.position) k (field old (table + 16 + 44 * (listed.position + 1)) (44 * (count - suc listed.position)) ++ entry) old new) all
    (puts_joined ExtentKind.SubNodes (table + 16 + 44 * listed.position) (44 * (count - suc listed.position)) 44 text entry old w.0 new long (behind_put listed table count old w.0 here many far w.1)
    (subst (λ k. Puts ExtentKind.SubNodes k 44 entry w.0 new) at w.2))

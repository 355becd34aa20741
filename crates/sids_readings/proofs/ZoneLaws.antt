-- A zone has three numbers for each of its indices.
use Rattle.std.proofs.Common.{◌≡◌, ◌≢◌, ◌∙◌, sym, subst, refl, arith, ℕ, ◌*◌, Bool, true, false, List, [], ◌∷◌, length}
use Rattle.std.specs.Prelude.{◌&&◌, ◌==◌, nat_le, if◌then◌else◌}
use Rattle.std.specs.Int.{w32, w64}
use Rattle.std.proofs.lemmas.Bool.Decides.{Decides-eqb}
use Rattle.adf_format.specs.declared.types.DataType.TheVariants.{I4}
use Rattle.adf_format.specs.Names.{product}
use Rattle.adf_model.specs.declared.tree.NodeId.{NodeId}
use Rattle.adf_model.specs.Slots.{Files}
use Rattle.sids_views.specs.Views.{node_there}
use Rattle.sids_rules.specs.Values.{is_type, is_ints, ints_there}
use Rattle.sids_rules.specs.Terms.{index_in, index_of}
use Rattle.sids_readings.proofs.TextLaws.{both}
use Rattle.sids_readings.proofs.ListLaws.{either, counted}

if_three : (i n index : ℕ) (b : Bool) → (nat_le 1 i && nat_le i 3 && (n == 3)) ≡ b → (if b then i else 0) ≡ index → index ≢ 0 → i * (n * 1) ≡ 3 * index
if_three i n index true e is some =
    let three = (Decides-eqb n 3).0 (both (nat_le 1 i && nat_le i 3) (n == 3) e).1 in
    subst (λ m. i * (m * 1) ≡ 3 * index) (sym three) (omega (arith, is))
if_three i n index false e is some = absurd (some (sym is))

of_dims : (dims : List ℕ) (index : ℕ) → index_in dims ≡ index → index ≢ 0 → product dims ≡ 3 * index
of_dims [] index is some = absurd (some (sym is))
of_dims (i ∷ []) index is some = absurd (some (sym is))
of_dims (i ∷ n ∷ []) index is some = if_three i n index (nat_le 1 i && nat_le i 3 && (n == 3)) refl is some
of_dims (i ∷ n ∷ m ∷ dims) index is some = absurd (some (sym is))

if_ints : (b : Bool) (n index : ℕ) → (if b then n else 0) ≡ index → index ≢ 0 → n ≡ index
if_ints true n index is some = is
if_ints false n index is some = absurd (some (sym is))

pub zone_counted : (files : Files) (at : NodeId) (index : ℕ) → index_of (node_there files at) ≡ index → index ≢ 0 → length (ints_there files at) ≡ 3 * index
zone_counted files at index is some =
    let node = node_there files at in
    either (is_type I4 node) _ _ (product node.dims) (counted _ w32 4 (product node.dims) _) (counted _ w64 8 (product node.dims) _)
    ∙ of_dims node.dims index (if_ints (is_ints node) (index_in node.dims) index is some) some

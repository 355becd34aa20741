-- Nodes of a few numbers have few bytes.
use Rattle.std.proofs.Common.{◌≡◌, ◌≢◌, ◌∙◌, sym, ap, subst, refl, arith, ℕ, zero, suc, ◌*◌, ◌≤◌, Bool, true, false, List, [], ◌∷◌}
use Rattle.std.specs.Prelude.{◌&&◌, ◌||◌, ◌==◌, nat_le, bytes_eq, if◌then◌else◌, is_some, not}
use Rattle.std.proofs.lemmas.Bool.Decides.{Decides-eqb}
use Rattle.std.proofs.lemmas.Slice.Eq.{bytes_eq-Decides}
use Rattle.adf_format.specs.declared.types.DataType.{DataType}
use Rattle.adf_format.specs.declared.types.DataType.TheVariants.{Mt, I4, I8, U4, U8, R4, R8, X4, X8, B1, C1, Lk}
use Rattle.adf_format.specs.Names.{is_same_type, product, element_size}
use Rattle.adf_format.specs.Tree.{Node}
use Rattle.adf_model.specs.Edits.{size_of, size_limit}
use Rattle.adf_model.proofs.Basics.{not_true}
use Rattle.sids_rules.specs.Values.{is_type, is_ints, is_array_of, is_ints_of, has_dims}
use Rattle.sids_rules.specs.Terms.{index_in, index_of}
use Rattle.sids_readings.specs.Reading.{is_wide}
use Rattle.sids_readings.proofs.TextLaws.{both}

few_bytes : (kind : DataType) (n : ℕ) → n ≤ 9 → element_size kind * n ≤ size_limit
few_bytes Mt n h = omega arith
few_bytes I4 n h = omega arith
few_bytes I8 n h = omega arith
few_bytes U4 n h = omega arith
few_bytes U8 n h = omega arith
few_bytes R4 n h = omega arith
few_bytes R8 n h = omega arith
few_bytes X4 n h = omega arith
few_bytes X8 n h = omega arith
few_bytes B1 n h = omega arith
few_bytes C1 n h = omega arith
few_bytes Lk n h = omega arith

pub few_are_small : (node : Node) (dims : List ℕ) → has_dims dims node ≡ true → product dims ≤ 9 → size_of node ≤ size_limit
few_are_small node dims h few = few_bytes node.kind (product node.dims) (subst (λ ds. product ds ≤ 9) (sym ((bytes_eq-Decides node.dims dims).0 h)) few)

-- whole numbers of dimensions
pub ints_of_small : (node : Node) (dims : List ℕ) → is_ints_of dims node ≡ true → product dims ≤ 9 → size_of node ≤ size_limit
ints_of_small node dims h few = few_are_small node dims (both (is_ints node) (has_dims dims node) h).1 few

pub ints_of_ints : (node : Node) (dims : List ℕ) → is_ints_of dims node ≡ true → is_ints node ≡ true
ints_of_ints node dims h = (both (is_ints node) (has_dims dims node) h).0

-- an array of short whole numbers
of_both : (a b c d : Bool) → ((a && c) && d) ≡ true → ((a || b) && d) ≡ true
of_both true b true d h = h
of_both true b false d h = absurd (not_true h)
of_both false b c d h = absurd (not_true h)

pub array_ints : (node : Node) (dims : List ℕ) → is_array_of I4 dims node ≡ true → is_ints node ≡ true
array_ints node dims h = of_both (is_type I4 node) (is_type I8 node) (has_dims dims node) (is_some node.bytes) h

pub array_small : (node : Node) (dims : List ℕ) → is_array_of I4 dims node ≡ true → product dims ≤ 9 → size_of node ≤ size_limit
array_small node dims h few = few_are_small node dims (both (is_type I4 node) (has_dims dims node) (both _ (is_some node.bytes) h).0).1 few

pub array_narrow : (node : Node) (dims : List ℕ) → is_array_of I4 dims node ≡ true → is_wide node ≡ false
array_narrow node dims h = ap not (both (is_type I4 node) (has_dims dims node) (both _ (is_some node.bytes) h).0).0

-- the numbers of a zone
at_most : (a b : ℕ) → nat_le a b ≡ true → a ≤ b
at_most a b h = grind arith

nine_if : (i n : ℕ) (b : Bool) → ((nat_le 1 i && nat_le i 3) && (n == 3)) ≡ b → (if b then i else 0) ≢ 0 → i * (n * 1) ≤ 9
nine_if i n true e not_0 =
    let three = (Decides-eqb n 3).0 (both (nat_le 1 i && nat_le i 3) (n == 3) e).1 in
    let most : i ≤ 3 = at_most i 3 (both (nat_le 1 i) (nat_le i 3) (both _ (n == 3) e).0).1 in
    subst (λ m. i * (m * 1) ≤ 9) (sym three) (omega arith)
nine_if i n false e not_0 = absurd (not_0 refl)

nine : (i n : ℕ) → (if (nat_le 1 i && nat_le i 3) && (n == 3) then i else 0) ≢ 0 → i * (n * 1) ≤ 9
nine i n h = nine_if i n ((nat_le 1 i && nat_le i 3) && (n == 3)) refl h

of_index : (dims : List ℕ) → index_in dims ≢ 0 → product dims ≤ 9
of_index [] h = absurd (h refl)
of_index (i ∷ []) h = absurd (h refl)
of_index (i ∷ n ∷ []) h = nine i n h
of_index (i ∷ n ∷ m ∷ dims) h = absurd (h refl)

if_some : (b : Bool) (n : ℕ) → (if b then n else 0) ≢ 0 → (b ≡ true) × (n ≢ 0)
if_some true n h = (refl, h)
if_some false n h = absurd (h refl)

pub zone_ints : (node : Node) → index_of node ≢ 0 → is_ints node ≡ true
zone_ints node h = (if_some (is_ints node) (index_in node.dims) h).0

pub zone_small : (node : Node) → index_of node ≢ 0 → size_of node ≤ size_limit
zone_small node h = few_bytes node.kind (product node.dims) (of_index node.dims (if_some (is_ints node) (index_in node.dims) h).1)

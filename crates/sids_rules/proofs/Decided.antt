-- The rules over plain values, as tests that compute: each decides what the rule says.
use Rattle.std.proofs.Common.{◌≡◌, ◌≢◌, sym, subst, refl, arith, ℕ, zero, suc, ◌<◌, ℤ, pos, ◌<ℤ◌, ◌≤ℤ◌, ◌-ℤ◌, Bool, true, false, not, ◌&&◌, ◌||◌, ◌⊎◌, inl, inr, List, [], ◌∷◌, length, map, Decides}
use Rattle.std.specs.Prelude.{Option, Some, None, is_some, IsSomeAnd, Any, Contains, slice_index_or, zip, int_lt, int_le, bytes_eq, ◌==◌, ◌*◌}
use Rattle.std.specs.List.{list_any}
use Rattle.std.specs.Ordering.{int_eq}
use Rattle.std.proofs.lemmas.Int.{ints}
use Rattle.std.proofs.lemmas.Bool.{false≢true}
use Rattle.std.proofs.lemmas.Bool.Decides.{Decides-at, Decides-like, Decides-not, Decides-and, Decides-or, Decides-eqb, Decides-int_eq}
use Rattle.std.proofs.lemmas.Slice.Eq.{bytes_eq-Decides}
use Rattle.sids_tables.proofs.Tables.{listed}
use Rattle.sids_rules.specs.declared.zones.RuleKind.{RuleKind}
use Rattle.sids_rules.specs.declared.zones.RuleKind.TheVariants.{Structured, Unstructured, Other}
use Rattle.sids_rules.specs.Zones.{IsDimension, BreaksBaseDimensions, BreaksIndexDimension, BreaksVertexSize, BreaksCellSize, BreaksBoundarySize}
use Rattle.sids_rules.specs.Sections.{fixed_nodes, BreaksRangeNumbers, BreaksConnectivitySize, IsOutside, BreaksConnectivityNodes, Meets, BreaksSectionsOverlap}
use Rattle.sids_rules.specs.Values.{is_word}
use Rattle.sids_rules.specs.Terms.{Dimensions, is_dimension, are_dimensions, Range, is_range}
use Rattle.sids_rules.specs.Rules.{is_index_off, are_cells_off, is_boundary_off, is_count_off, is_no_vertex, meets}
use Rattle.sids_rules.proofs.Ranges.{Meets-decided}

lt_decides : (a b : ℤ) → Decides (int_lt a b) (a <ℤ b)
lt_decides a b = (λ e. grind (arith, ints), λ h. grind (arith, ints))

pub le_decides : (a b : ℤ) → Decides (int_le a b) (a ≤ℤ b)
le_decides a b = (λ e. grind (arith, ints), λ h. grind (arith, ints))

not_le_decides : (a b : ℤ) → Decides (not (int_le a b)) (b <ℤ a)
not_le_decides a b = Decides-like (not (int_le a b)) (λ n. under a b n) (λ h le. grind (arith, ints)) (Decides-not (int_le a b) (le_decides a b))
  where
    under : (a b : ℤ) → ¬ (a ≤ℤ b) → b <ℤ a
    under a b n = elim (int_le a b) as (λ t. int_le a b ≡ t → b <ℤ a) [ true ↦ λ e. absurd (n ((le_decides a b).0 e)) | false ↦ λ e. grind (arith, ints) ] refl

pub never : {P : Type 0} → (P → ⊥) → Decides false P
never never_so = (λ e. absurd (false≢true e), λ p. absurd (never_so p))

-- ---- some item of a list

some_of : {X : Type 0} (P : X → Type 0) (x : X) (xs : List X) → P x ⊎ Any P xs → Any P (x ∷ xs)
some_of P x xs (inl h) = (0, x, omega arith, refl, h)
some_of P x xs (inr h) = let lt = h.2 in (suc h.0, h.1, omega arith, h.3, h.4)

of_some : {X : Type 0} (P : X → Type 0) (x : X) (xs : List X) (k : ℕ) (y : X) → k < length (x ∷ xs) → slice_index_or (x ∷ xs) k y ≡ y → P y → P x ⊎ Any P xs
of_some P x xs zero y lt e h = inl (subst P (sym e) h)
of_some P x xs (suc k) y lt e h = inr (k, y, omega arith, e, h)

pub any_decides : {X : Type 0} (p : X → Bool) (P : X → Type 0) → ((x : X) → Decides (p x) (P x)) → (xs : List X) → Decides (list_any p xs) (Any P xs)
any_decides p P each [] = never (λ h. let lt = h.2 in omega arith)
any_decides p P each (x ∷ xs) =
    Decides-like (p x || list_any p xs) (some_of P x xs) (λ h. of_some P x xs h.0 h.1 h.2 h.3 h.4) (Decides-or (p x) (list_any p xs) (each x) (any_decides p P each xs))

-- ---- bases and zones

not_three : (x y z : Bool) → not (x && y && z) ≡ (not x || (not y || not z))
not_three true true z = refl
not_three true false z = refl
not_three false y z = refl

dimension_decides : (n : ℤ) → Decides (is_dimension n) (IsDimension n)
dimension_decides n = Decides-and (int_le (pos 1) n) (int_le n (pos 3)) (le_decides (pos 1) n) (le_decides n (pos 3))

pub base_dimensions_decided : (d : Dimensions) → Decides (not (are_dimensions d)) (BreaksBaseDimensions d.cell d.phys)
base_dimensions_decided d =
    Decides-at _ _ (not_three (is_dimension d.cell) (is_dimension d.phys) (int_le d.cell d.phys))
    (Decides-or (not (is_dimension d.cell)) _ (Decides-not (is_dimension d.cell) (dimension_decides d.cell))
    (Decides-or (not (is_dimension d.phys)) _ (Decides-not (is_dimension d.phys) (dimension_decides d.phys)) (not_le_decides d.cell d.phys)))

pub index_dimension_decided : (kind : RuleKind) (index : ℕ) (cell : ℤ) → Decides (is_index_off kind index cell) (BreaksIndexDimension kind index cell)
index_dimension_decided Structured index cell = Decides-not (int_eq (pos index) cell) (Decides-int_eq (pos index) cell)
index_dimension_decided Unstructured index cell = Decides-not (index == 1) (Decides-eqb index 1)
index_dimension_decided Other index cell = never (λ h. h)

pub vertex_size_decided : (vertex cell : List ℤ) → Decides (list_any (λ n. int_lt n (pos 1)) vertex || list_any (λ n. int_lt n (pos 0)) cell) (BreaksVertexSize vertex cell)
vertex_size_decided vertex cell =
    Decides-or _ _ (any_decides (λ n. int_lt n (pos 1)) (λ n. n <ℤ pos 1) (λ n. lt_decides n (pos 1)) vertex)
    (any_decides (λ n. int_lt n (pos 0)) (λ n. n <ℤ pos 0) (λ n. lt_decides n (pos 0)) cell)

pub cell_size_decided : (kind : RuleKind) (vertex cell : List ℤ) → Decides (are_cells_off kind vertex cell) (BreaksCellSize kind vertex cell)
cell_size_decided Structured vertex cell =
    any_decides (λ (p : ℤ × ℤ). not (int_eq p.1 (p.0 -ℤ pos 1))) (λ p. p.1 ≢ (p.0 -ℤ pos 1)) (λ p. Decides-not (int_eq p.1 (p.0 -ℤ pos 1)) (Decides-int_eq p.1 (p.0 -ℤ pos 1))) (zip vertex cell)
cell_size_decided Unstructured vertex cell = never (λ h. h)
cell_size_decided Other vertex cell = never (λ h. h)

pub boundary_size_decided : (kind : RuleKind) (vertex boundary : List ℤ) → Decides (is_boundary_off kind vertex boundary) (BreaksBoundarySize kind vertex boundary)
boundary_size_decided Structured vertex boundary = any_decides (λ n. not (int_eq n (pos 0))) (λ n. n ≢ pos 0) (λ n. Decides-not (int_eq n (pos 0)) (Decides-int_eq n (pos 0))) boundary
boundary_size_decided Unstructured vertex boundary =
    any_decides (λ (p : ℤ × ℤ). int_lt p.1 (pos 0) || int_lt p.0 p.1) (λ p. (p.1 <ℤ pos 0) ⊎ (p.0 <ℤ p.1))
    (λ p. Decides-or (int_lt p.1 (pos 0)) (int_lt p.0 p.1) (lt_decides p.1 (pos 0)) (lt_decides p.0 p.1)) (zip vertex boundary)
boundary_size_decided Other vertex boundary = never (λ h. h)

-- ---- sections

not_two : (x y : Bool) → not (x && y) ≡ (not x || not y)
not_two true y = refl
not_two false y = refl

pub range_numbers_decided : (range : Range) → Decides (not (is_range range)) (BreaksRangeNumbers range.start range.end)
range_numbers_decided range =
    Decides-at _ _ (not_two (int_le (pos 1) range.start) (int_le range.start range.end))
    (Decides-or (not (int_le (pos 1) range.start)) (not (int_le range.start range.end)) (not_le_decides (pos 1) range.start) (not_le_decides range.start range.end))

count_decided : (nodes : Option ℕ) (elements entries : ℕ) → Decides (is_count_off nodes elements entries) (IsSomeAnd nodes (λ n. entries ≢ n * elements))
count_decided None elements entries = never (λ h. h)
count_decided (Some nodes) elements entries = Decides-not (entries == nodes * elements) (Decides-eqb entries (nodes * elements))

pub connectivity_size_decided : (code : ℤ) (elements entries : ℕ) → Decides (is_count_off (fixed_nodes code) elements entries) (BreaksConnectivitySize code elements entries)
connectivity_size_decided code elements entries = count_decided (fixed_nodes code) elements entries

pub vertex_decides : (limit : Option ℤ) (n : ℤ) → Decides (is_no_vertex limit n) (IsOutside limit n)
vertex_decides None n = lt_decides n (pos 1)
vertex_decides (Some limit) n = Decides-or (int_lt n (pos 1)) (int_lt limit n) (lt_decides n (pos 1)) (lt_decides limit n)

pub connectivity_nodes_decided : (code : ℤ) (entries : List ℤ) (limit : Option ℤ)
    → Decides (is_some (fixed_nodes code) && list_any (is_no_vertex limit) entries) (BreaksConnectivityNodes code entries limit)
connectivity_nodes_decided code entries limit =
    Decides-and (is_some (fixed_nodes code)) (list_any (is_no_vertex limit) entries) (λ e. e, λ e. e) (any_decides (is_no_vertex limit) (IsOutside limit) (vertex_decides limit) entries)

-- a range as the code passes it
abbrev pub pair_of : Range → List ℤ
pair_of range = range.start ∷ range.end ∷ []

-- some item of a list that is mapped
mapped_at : {X Y : Type 0} (P : Y → Type 0) (f : X → Y) (xs : List X) (k : ℕ) (x : X) → k < length xs → slice_index_or xs k x ≡ x → P (f x) → Any P (map f xs)
mapped_at P f [] k x lt e h = absurd (omega arith)
mapped_at P f (y ∷ xs) zero x lt e h = (0, f y, omega arith, refl, subst (λ z. P (f z)) (sym e) h)
mapped_at P f (y ∷ xs) (suc k) x lt e h = let m = mapped_at P f xs k x (omega arith) e h in let n = m.2 in (suc m.0, m.1, omega arith, m.3, m.4)

item_of : {X Y : Type 0} (P : Y → Type 0) (f : X → Y) (xs : List X) (k : ℕ) (y : Y) → k < length (map f xs) → slice_index_or (map f xs) k y ≡ y → P y → Any (λ x. P (f x)) xs
item_of P f [] k y lt e h = absurd (omega arith)
item_of P f (x ∷ xs) zero y lt e h = (0, x, omega arith, refl, subst P (sym e) h)
item_of P f (x ∷ xs) (suc k) y lt e h = let m = item_of P f xs k y (omega arith) e h in let n = m.2 in (suc m.0, m.1, omega arith, m.3, m.4)

pub mapped_decides : {X Y : Type 0} (P : Y → Type 0) (f : X → Y) (p : X → Bool) → ((x : X) → Decides (p x) (P (f x))) → (xs : List X) → Decides (list_any p xs) (Any P (map f xs))
mapped_decides P f p each xs =
    Decides-like (list_any p xs) (λ h. mapped_at P f xs h.0 h.1 h.2 h.3 h.4) (λ h. item_of P f xs h.0 h.1 h.2 h.3 h.4) (any_decides p (λ x. P (f x)) each xs)

pub sections_overlap_decided : (range : Range) (others : List Range) → Decides (list_any (meets range) others) (BreaksSectionsOverlap range.start range.end (map pair_of others))
sections_overlap_decided range others =
    mapped_decides (λ pair. Meets range.start range.end (slice_index_or pair 0 (pos 0)) (slice_index_or pair 1 (pos 0))) pair_of (meets range)
    (λ other. Meets-decided range.start range.end other.start other.end) others

-- ---- words

pub word_decided : (words : List (List ℕ)) (text : List ℕ) → Decides (is_word words text) (Contains words text)
word_decided words text = listed (λ word. bytes_eq word text) words text (λ word. bytes_eq-Decides word text)

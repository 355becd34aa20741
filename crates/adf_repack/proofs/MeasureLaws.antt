-- Nodes that are measured one after the other.
use Rattle.std.proofs.Common.{◌≡◌, ℕ, ◌+◌, ◌-◌, ◌^◌, ◌<◌, ◌≤◌, List, [], ◌∷◌, ◌++◌, length, get_or, take, replicate, length-append, length-take, refl, sym, ◌∙◌, ap, subst, arith, inl, inr, Bool, Option, Some}
use Rattle.std.proofs.lemmas.Bool.{cases_lt}
use Rattle.std.proofs.lemmas.List.{get_or_append_left, get_or-append_right, get_or_default}
use Rattle.adf_format.specs.Parts.{dimension_digits}
use Rattle.adf_format.specs.Records.{NodeRecord}
use Rattle.adf_model.specs.declared.error.AdfError.{AdfError}
use Rattle.layout_lint.specs.declared.verdict.NodePlace.{NodePlace}
use Rattle.adf_repack.specs.declared.places.NodeShape.{NodeShape}
use Rattle.adf_repack.specs.Copies.{numbers_in}
use Rattle.adf_repack.specs.Families.{children_of}
use Rattle.adf_repack.specs.Measures.{size_in, shape_in, IsUnmeasured, AllFit, AreMeasured}
use Rattle.adf_repack.specs.Plans.{no_shape, HasLong, old_place, record_at}

at_end : (shapes : List NodeShape) (x : NodeShape) (n k : ℕ) → length shapes ≡ n → k ≡ n → shape_in (shapes ++ x ∷ []) k ≡ x
at_end shapes x n k long same =
    get_or-append_right shapes (x ∷ []) n k no_shape long (omega (arith, same)) ∙ ap (λ (i : ℕ). get_or (x ∷ []) i no_shape) (none k n same)
  where
    none : (k n : ℕ) → k ≡ n → k - n ≡ 0
    none k n same = omega (arith, same)

-- what holds of some shapes and of one more
each_more : (P : ℕ → NodeShape → Type 0) (shapes : List NodeShape) (x : NodeShape) (n : ℕ) → length shapes ≡ n → ((k : ℕ) → k < n → P k (shape_in shapes k)) → P n x
    → (k : ℕ) → k < n + 1 → P k (shape_in (shapes ++ x ∷ []) k)
each_more P shapes x n long all one k lt = elim (cases_lt k n) [
  | inl less ↦ subst (P k) (sym (get_or_append_left shapes (x ∷ []) no_shape k (omega (arith, less, long)))) (all k less)
  | inr past ↦ (
      let same : k ≡ n = omega (arith, lt, past) in
      subst (P k) (sym (at_end shapes x n k long same)) (subst (λ (i : ℕ). P i x) (sym same) one))
]

module _ (held : Option (List ℕ)) (wide to : Bool) (nodes : List NodePlace) (n : ℕ) where
  pub measured_more : (shapes : List NodeShape) (x : NodeShape) → AreMeasured held wide nodes n shapes → x.children ≡ length (children_of nodes n) → x.children ≤ 2 ^ 20
      → ((image : List ℕ) → held ≡ Some image → x.size ≡ size_in (record_at image wide (old_place nodes n))) → AreMeasured held wide nodes (n + 1) (shapes ++ x ∷ [])
  measured_more shapes x m kids few told = record {
    count = length-append shapes (x ∷ []) ∙ ap (λ (k : ℕ). k + 1) m.count;
    children = each_more (λ (k : ℕ) (s : NodeShape). s.children ≡ length (children_of nodes k)) shapes x n m.count m.children kids;
    few = each_more (λ (k : ℕ) (s : NodeShape). s.children ≤ 2 ^ 20) shapes x n m.count m.few few;
    sizes = λ image e. each_more (λ (k : ℕ) (s : NodeShape). s.size ≡ size_in (record_at image wide (old_place nodes k))) shapes x n m.count (m.sizes image e) (told image e);
  }

  pub fit_more : AllFit held wide to nodes n → ((image : List ℕ) → held ≡ Some image → HasLong to (record_at image wide (old_place nodes n)) → ⊥) → AllFit held wide to nodes (n + 1)
  fit_more all one image e k lt = elim (cases_lt k n) [
    | inl less ↦ all image e k less
    | inr past ↦ (
        let same : n ≡ k = omega (arith, lt, past) in
        subst (λ (i : ℕ). HasLong to (record_at image wide (old_place nodes i)) → ⊥) same (one image e))
  ]

-- ---- dimensions that fit

-- the version has digits for each of twelve numbers, of which the dimensions are the first
pub none_long : (to : Bool) (r : NodeRecord) (values : List ℕ) → values ≡ take r.rank (numbers_in r) ++ replicate (12 - r.rank) 0
    → ((i : ℕ) → i < 12 → get_or values i 0 < 16 ^ dimension_digits to) → HasLong to r → ⊥
none_long to r values are fit long =
    let d : ℕ = long.0 in
    let xs : List ℕ = take r.rank (numbers_in r) in
    let at = long.1 in
    let i : ℕ = at.0 in
    let within : i < length xs = at.1 in
    let few = length-take r.rank (numbers_in r) in
    let twelve : length (numbers_in r) ≡ 12 = refl in
    let read : get_or values i 0 ≡ d = ap (λ (l : List ℕ). get_or l i 0) are ∙ get_or_append_left xs (replicate (12 - r.rank) 0) 0 i within ∙ get_or_default xs i 0 d within ∙ at.2 in
    let small = fit i (omega (arith, within, few, twelve)) in
    let big = long.2 in
    omega (arith, read, small, big)

-- ---- a node that is not measured

-- by the bytes and the counts of the start
pub unmeasured_later : (held again : Option (List ℕ)) (wide to : Bool) (place p children c before middle now : ℕ) (e : AdfError) → again ≡ held → p ≡ place → c ≡ children → before ≤ middle
    → IsUnmeasured again wide to p c middle now e → IsUnmeasured held wide to place children before now e
unmeasured_later held again wide to place p children c before middle now e same at count later u =
    let all = subst (λ (n : ℕ). IsUnmeasured held wide to place n middle now e) count
    (subst (λ (q : ℕ). IsUnmeasured held wide to q c middle now e) at (subst (λ (o : Option (List ℕ)). IsUnmeasured o wide to p c middle now e) same u)) in
    elim all [
      | inl unread ↦ inl (record { is = unread.is; rose = (let rose = unread.rose in omega (arith, rose, later)) })
      | inr other ↦ inr other
    ]

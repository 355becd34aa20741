-- The parts that stay where nodes come, go, or get another table.
use Rattle.std.proofs.Common.{◌≡◌, inl, inr, ℕ, zero, suc, refl, sym, ◌∙◌, ap, subst, arith, List, [], ◌∷◌, ◌++◌, length, get_or, ◌+◌, ◌<◌, ◌≤◌, Bool, true, false, not, le_refl}
use Rattle.std.proofs.lemmas.Bool.Decides.{eqb_tells}
use Rattle.std.proofs.lemmas.List.{length-set}
use Rattle.std.proofs.lemmas.List.Elements.{Contains-append_left, Contains-append_right, Contains-append_cases}
use Rattle.std.specs.Prelude.{Option, Some, None, slice_set, if◌then◌else◌}
use Rattle.std.specs.List.{Contains, flat_map}
use Rattle.adf_format.specs.declared.types.Extent.{Extent}
use Rattle.adf_format.specs.declared.types.ExtentKind.{ExtentKind}
use Rattle.adf_format.specs.Tree.{erased_from}
use Rattle.adf_format.specs.Parts.{node_length}
use Rattle.adf_format.specs.Placement.{Placement, NodeParts, TablePart, parts_of, extent, extents_of, node_extents, table_extents, chunk_table_extents, chunk_extents}
use Rattle.adf_format.specs.HeapRule.{no_parts}
use Rattle.adf_model.proofs.Basics.{same_Some, not_there}
use Rattle.adf_model.proofs.Creation.CreatedNodes.{there_inside}
use Rattle.tree_laws.specs.Parting.{SameParts, NewParts, TableParts, ErasedParts, PartsGoOn, MorePart}
use Rattle.tree_laws.proofs.Edits.LabelSet.{set_here, set_there}
use Rattle.adf_model.proofs.Creation.PartExtents.{node_of, of_node}

pub same_header : (o : Option NodeParts) (from to : NodeParts) → o ≡ Some from → o ≡ Some to → to.header ≡ from.header
same_header o from to e f = ap (λ (parts : NodeParts). parts.header) (same_Some to from (sym f ∙ e))

pub same_parts : SameParts
same_parts wide p heap = record {
  parts = λ e live free. live;
  headers = λ serial from to at there. same_header (parts_of p serial) from to at there;
  drawn = le_refl (length p.parts);
  before = λ serial to lt there. (to, there);
}

-- ---- a new node

pub front_of : {A : Type 0} (xs : List A) (y d : A) (k : ℕ) → k < length xs → get_or (xs ++ y ∷ []) k d ≡ get_or xs k d
front_of [] y d k lt = absurd (omega (arith, lt))
front_of (x ∷ xs) y d zero lt = refl
front_of (x ∷ xs) y d (suc k) lt = front_of xs y d k (omega (arith, lt))

pub longer_by : {A : Type 0} (xs : List A) (y : A) → length xs ≤ length (xs ++ y ∷ [])
longer_by [] y = omega arith
longer_by (x ∷ xs) y = let r = longer_by xs y in omega (arith, r)

abbrev new_at : ℕ → Option NodeParts
new_at place = Some (record no_parts { header = place })

pub new_parts : NewParts
new_parts wide p place = record {
  parts = λ e live free. let n = node_of wide p.parts e live in of_node wide (p.parts ++ new_at place ∷ []) n.0 n.1 e (front_of p.parts (new_at place) None n.0 (there_inside p.parts n.0 n.1 n.2) ∙ n.2) n.3;
  headers = λ serial from to at there. same_header (parts_of p serial) from to at (sym (front_of p.parts (new_at place) None serial (there_inside p.parts serial from at)) ∙ there);
  drawn = longer_by p.parts (new_at place);
  before = λ serial to lt there. (to, sym (front_of p.parts (new_at place) None serial lt) ∙ there);
}

-- ---- another table

module _ (wide : Bool) (from : NodeParts) (t : Option TablePart) (e : Extent) (free : Contains (table_extents from.table) e → ⊥) where
  abbrev its_header : List Extent
  its_header = extent ExtentKind.Node from.header (node_length wide) ∷ []

  abbrev chunk_tables : List Extent
  chunk_tables = chunk_table_extents from.chunk_table (length from.chunks)

  abbrev its_chunks : List Extent
  its_chunks = chunk_extents from.chunks

  in_tables : Contains (table_extents from.table ++ chunk_tables) e → Contains (table_extents t ++ chunk_tables) e
  in_tables h = elim (Contains-append_cases (table_extents from.table) chunk_tables e h) [ inl a ↦ absurd (free a) | inr c ↦ Contains-append_right (table_extents t) chunk_tables e c ]

  in_rest : Contains ((table_extents from.table ++ chunk_tables) ++ its_chunks) e → Contains ((table_extents t ++ chunk_tables) ++ its_chunks) e
  in_rest h = elim (Contains-append_cases (table_extents from.table ++ chunk_tables) its_chunks e h) [
    | inl a ↦ Contains-append_left (table_extents t ++ chunk_tables) its_chunks e (in_tables a)
    | inr c ↦ Contains-append_right (table_extents t ++ chunk_tables) its_chunks e c
  ]

  in_node : Contains (node_extents wide from) e → Contains (node_extents wide (record from { table = t })) e
  in_node h = elim (Contains-append_cases its_header ((table_extents from.table ++ chunk_tables) ++ its_chunks) e h) [
    | inl a ↦ Contains-append_left its_header ((table_extents t ++ chunk_tables) ++ its_chunks) e a
    | inr c ↦ Contains-append_right its_header ((table_extents t ++ chunk_tables) ++ its_chunks) e (in_rest c)
  ]

module _ (wide : Bool) (p : Placement) (s : ℕ) (from : NodeParts) (t : Option TablePart) (stands : parts_of p s ≡ Some from) where
  abbrev now : NodeParts
  now = record from { table = t }

  abbrev after : List (Option NodeParts)
  after = slice_set p.parts s (Some now)

  here : get_or after s None ≡ Some now
  here = set_here p.parts s (Some now) None (there_inside p.parts s from stands)

  live_on : (e : Extent) → (Contains (table_extents from.table) e → ⊥) → (k : ℕ) (ms : NodeParts) → parts_of p k ≡ Some ms → Contains (node_extents wide ms) e → Contains (flat_map (extents_of wide) after) e
  live_on e free k ms at own = elim (eqb_tells k s) [
    | inl same ↦ (
        let is : ms ≡ from = same_Some ms from (sym at ∙ ap (parts_of p) same.1 ∙ stands) in
        of_node wide after s now e here (in_node wide from t e free (subst (λ (x : NodeParts). Contains (node_extents wide x) e) is own)))
    | inr other ↦ of_node wide after k ms e (set_there p.parts s k (Some now) None other.1 ∙ at) own
  ]

  headers_on : (k : ℕ) (a b : NodeParts) → parts_of p k ≡ Some a → get_or after k None ≡ Some b → b.header ≡ a.header
  headers_on k a b at there = elim (eqb_tells k s) [
    | inl same ↦ (
        let is : a ≡ from = same_Some a from (sym at ∙ ap (parts_of p) same.1 ∙ stands) in
        let then_is : now ≡ b = same_Some now b (sym here ∙ sym (ap (λ (j : ℕ). get_or after j None) same.1) ∙ there) in
        sym (ap (λ (x : NodeParts). x.header) then_is) ∙ sym (ap (λ (x : NodeParts). x.header) is))
    | inr other ↦ same_header (parts_of p k) a b at (sym (set_there p.parts s k (Some now) None other.1) ∙ there)
  ]

  was_on : (k : ℕ) (b : NodeParts) → get_or after k None ≡ Some b → (a : NodeParts) × (parts_of p k ≡ Some a)
  was_on k b there = elim (eqb_tells k s) [
    | inl same ↦ (from, ap (parts_of p) same.1 ∙ stands)
    | inr other ↦ (b, sym (set_there p.parts s k (Some now) None other.1) ∙ there)
  ]

pub table_parts : TableParts
table_parts wide p s from t stands = record {
  parts = λ e live free. let n = node_of wide p.parts e live in live_on wide p s from t stands e free n.0 n.1 n.2 n.3;
  headers = λ serial a b at there. headers_on wide p s from t stands serial a b at there;
  drawn = (let e = length-set p.parts s (Some (record from { table = t })) in omega (arith, e));
  before = λ serial to lt there. was_on wide p s from t stands serial to there;
}

-- ---- nodes that are gone

erased_gone : (j k : ℕ) (gone : ℕ → Bool) (xs : List (Option NodeParts)) → gone (j + k) ≡ true → get_or (erased_from j gone xs) k None ≡ None
erased_gone j k gone [] e = refl
erased_gone j zero gone (x ∷ xs) e = ap (λ (b : Bool). if b then None else x) (ap gone (plain j) ∙ e)
  where
    plain : (j : ℕ) → j ≡ j + 0
    plain j = omega arith
erased_gone j (suc k) gone (x ∷ xs) e = erased_gone (suc j) k gone xs (ap gone (shift j k) ∙ e)
  where
    shift : (j k : ℕ) → suc j + k ≡ j + suc k
    shift j k = omega arith

erased_kept : (j k : ℕ) (gone : ℕ → Bool) (xs : List (Option NodeParts)) → gone (j + k) ≡ false → get_or (erased_from j gone xs) k None ≡ get_or xs k None
erased_kept j k gone [] e = refl
erased_kept j zero gone (x ∷ xs) e = ap (λ (b : Bool). if b then None else x) (ap gone (plain j) ∙ e)
  where
    plain : (j : ℕ) → j ≡ j + 0
    plain j = omega arith
erased_kept j (suc k) gone (x ∷ xs) e = erased_kept (suc j) k gone xs (ap gone (shift j k) ∙ e)
  where
    shift : (j k : ℕ) → suc j + k ≡ j + suc k
    shift j k = omega arith

length-erased : (j : ℕ) (gone : ℕ → Bool) (xs : List (Option NodeParts)) → length (erased_from j gone xs) ≡ length xs
length-erased j gone [] = refl
length-erased j gone (x ∷ xs) = ap suc (length-erased (suc j) gone xs)

module _ (wide : Bool) (p : Placement) (gone : ℕ → Bool) where
  abbrev left : List (Option NodeParts)
  left = erased_from 0 gone p.parts

  front : (k : ℕ) → gone (0 + k) ≡ gone k
  front k = ap gone (plain k)
    where
      plain : (k : ℕ) → 0 + k ≡ k
      plain k = omega arith

  is_kept : (k : ℕ) (to : NodeParts) → get_or left k None ≡ Some to → (b : Bool) → gone k ≡ b → parts_of p k ≡ Some to
  is_kept k to there true e = absurd (not_there to (sym (erased_gone 0 k gone p.parts (front k ∙ e)) ∙ there))
  is_kept k to there false e = sym (erased_kept 0 k gone p.parts (front k ∙ e)) ∙ there

  stays_live : (e : Extent) → (Contains (flat_map (extents_of wide) (erased_from 0 (λ k. not (gone k)) p.parts)) e → ⊥) → (k : ℕ) (ms : NodeParts) → parts_of p k ≡ Some ms → Contains (node_extents wide ms) e → (b : Bool) → gone k ≡ b
      → Contains (flat_map (extents_of wide) left) e
  stays_live e free k ms at own true g =
      absurd (free (of_node wide (erased_from 0 (λ k. not (gone k)) p.parts) k ms e (erased_kept 0 k (λ k. not (gone k)) p.parts (ap not (front k ∙ g)) ∙ at) own))
  stays_live e free k ms at own false g = of_node wide left k ms e (erased_kept 0 k gone p.parts (front k ∙ g) ∙ at) own

pub erased_parts : ErasedParts
erased_parts wide p gone = record {
  parts = λ e live free. let n = node_of wide p.parts e live in stays_live wide p gone e free n.0 n.1 n.2 n.3 (gone n.0) refl;
  headers = λ serial from to at there. same_header (parts_of p serial) from to at (is_kept wide p gone serial to there (gone serial) refl);
  drawn = (let e = length-erased 0 gone p.parts in omega (arith, e));
  before = λ serial to lt there. (to, is_kept wide p gone serial to there (gone serial) refl);
}

-- ---- one after another, and more

pub parts_go_on : PartsGoOn
parts_go_on few more wide p q r x y = record {
  parts = λ e live free. y.parts e (x.parts e live (λ c. free (Contains-append_left few more e c))) (λ c. free (Contains-append_right few more e c));
  headers = λ serial from to at there.
      let lt : serial < length p.parts = there_inside p.parts serial from at in
      let m = y.before serial to (let d = x.drawn in omega (arith, lt, d)) there in
      y.headers serial m.0 to m.1 there ∙ x.headers serial from m.0 at m.1;
  drawn = (let d = x.drawn in let e = y.drawn in omega (arith, d, e));
  before = λ serial to lt there. let m = y.before serial to (let d = x.drawn in omega (arith, lt, d)) there in x.before serial m.0 lt m.1;
}

pub more_part : MorePart
more_part few more ranges wide p q taken inside = (
  λ x. record { parts = λ e live free. x.parts e live (λ c. free (inside e c)); headers = x.headers; drawn = x.drawn; before = x.before },
  λ x b some. elim (x b some) [ inl t ↦ inl t | inr f ↦ inr (f.0, inside f.0 f.1, f.2, f.3, f.4, f.5) ],
)

-- What stays over the steps of an edit.
use Rattle.std.proofs.Common.{◌≡◌, inl, inr, ℕ, zero, suc, sym, ◌∙◌, subst, arith, List, [], ◌∷◌, length, get_or, ◌+◌, ◌*◌, ◌<◌, ◌≤◌, Bool, true, false, cond}
use Rattle.std.proofs.lemmas.Bool.Decides.{leb_tells}
use Rattle.std.proofs.lemmas.List.Elements.{Contains-append_cases}
use Rattle.std.specs.List.{Contains}
use Rattle.adf_format.specs.declared.types.Extent.{Extent}
use Rattle.adf_format.specs.Fields.{field}
use Rattle.adf_format.specs.Tree.{Tree}
use Rattle.adf_format.specs.Tiles.{cover, end_of, holds_byte}
use Rattle.adf_format.specs.Parts.{node_length, dimension_digits}
use Rattle.adf_format.specs.Placement.{Placement, NodeParts, node_extents, live_extents, head_extents}
use Rattle.adf_format.proofs.FrameLaws.{field_kept}
use Rattle.adf_model.proofs.Creation.CreatedNodes.{there_inside}
use Rattle.adf_model.proofs.Creation.PartsApart.{range_in, cover_all}
use Rattle.tree_laws.specs.Holding.{Holds, ChangesIn}
use Rattle.tree_laws.specs.Leaving.{Leaves}
use Rattle.tree_laws.proofs.Holding.Steps.{within}
use Rattle.adf_model.proofs.Creation.PartExtents.{none_in}

-- the bytes of an extent are covered
pub contains_cover : (xs : List Extent) (e : Extent) (b : ℕ) → Contains xs e → e.place ≤ b → b < end_of e → 0 < cover xs b
contains_cover [] e b c low high = absurd (none_in e c)
contains_cover (x ∷ xs) e b c low high = elim (Contains-append_cases (x ∷ []) xs e c) [
  | inl first ↦ subst (λ (y : Extent). 0 < cover (y ∷ xs) b) (sym (same first.0 first.1 first.2)) (let held = range_in e.place e.length b low high in omega (arith, held))
  | inr later ↦ (let rest = contains_cover xs e b later low high in plain (cond (holds_byte x b) 1 0) (cover xs b) rest)
]
  where
    plain : (a b : ℕ) → 0 < b → 0 < a + b
    plain a b h = omega (arith, h)

    same : (k : ℕ) → k < 1 → get_or (x ∷ []) k e ≡ e → x ≡ e
    same zero lt h = h
    same (suc k) lt h = absurd (omega (arith, lt))

-- bytes of live parts that no range holds stay
pub live_kept : (ranges : List Extent) (old new : List ℕ) (tree : Tree) (p : Placement) (taken : List Extent) → Holds old tree p taken → ChangesIn ranges old new
    → (place n : ℕ) → ((b : ℕ) → place ≤ b → b < place + n → (0 < cover (live_extents tree.wide p) b) × (cover ranges b ≡ 0)) → field new place n ≡ field old place n
live_kept ranges old new tree p taken h c place n apart = field_kept n place old new (λ b low high.
    let a = apart b low high in
    let all = cover_all tree.wide p b in
    let some = a.0 in
    c.others b (within old tree p taken h b (omega (arith, some, all))) a.1)

pub head_byte : (b : ℕ) → b ≤ 265 → 0 < cover head_extents b
head_byte b le = elim (leb_tells 186 b) [
  | inl late ↦ (let held = range_in 186 80 b late.1 (omega (arith, le)) in omega (arith, held))
  | inr early ↦ (let held = range_in 0 186 b (omega arith) (let e = early.1 in omega (arith, e)) in omega (arith, held))
]

-- the dimensions lie in a header
dims_inside : (wide : Bool) → 130 + 12 * dimension_digits wide ≤ node_length wide
dims_inside false = omega arith
dims_inside true = omega arith

pub header_byte : (wide : Bool) (parts : NodeParts) (b : ℕ) → parts.header + 130 ≤ b → b < parts.header + 130 + 12 * dimension_digits wide → 0 < cover (node_extents wide parts) b
header_byte wide parts b low high =
    let m = dims_inside wide in
    let held = range_in parts.header (node_length wide) b (omega (arith, low)) (omega (arith, high, m)) in omega (arith, held)

-- steps one after another
pub steps_leave : (except : List Extent) (shaped : List ℕ) (wide : Bool) (p q r : Placement) (a b c : List ℕ) → Leaves except shaped wide p q a b → Leaves except shaped wide q r b c → Leaves except shaped wide p r a c
steps_leave except shaped wide p q r a b c x y = record {
  parts = λ e live free. let m = x.parts e live free in let n = y.parts e m.0 free in (n.0, n.1 ∙ m.1);
  head = λ k le none. y.head k le none ∙ x.head k le none;
  dims = λ serial from to free at there.
      let lt : serial < length p.parts = there_inside p.parts serial from at in
      let m = y.before serial to (let d = x.drawn in omega (arith, lt, d)) there in
      y.dims serial m.0 to free m.1 there ∙ x.dims serial from m.0 free at m.1;
  drawn = (let d = x.drawn in let e = y.drawn in omega (arith, d, e));
  before = λ serial to lt there. let m = y.before serial to (let d = x.drawn in omega (arith, lt, d)) there in x.before serial m.0 lt m.1;
}

-- more may be excepted
pub leaves_more : (few more : List Extent) (shaped also : List ℕ) (wide : Bool) (p q : Placement) (a b : List ℕ) → ((e : Extent) → Contains few e → Contains more e) → ((k : ℕ) → Contains shaped k → Contains also k) → Leaves few shaped wide p q a b → Leaves more also wide p q a b
leaves_more few more shaped also wide p q a b in_more in_also x = record {
  parts = λ e live free. x.parts e live (λ c. free (in_more e c));
  head = x.head;
  dims = λ serial from to free at there. x.dims serial from to (λ c. free (in_also serial c)) at there;
  drawn = x.drawn;
  before = x.before;
}

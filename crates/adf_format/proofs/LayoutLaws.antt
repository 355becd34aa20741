-- What a layout says of each node and of the whole: parts at each live serial alone, no byte in two nodes, and the header's words.
use Rattle.std.proofs.Common.{◌⊎◌, filter, replicate, length, ◌-◌, ◌≡◌, ◌≢◌, inl, inr, ℕ, zero, suc, refl, sym, ◌∙◌, ap, arith, List, [], ◌∷◌, ◌++◌, map, ◌+◌, ◌<◌, ◌≤◌, Bool, true, false}
use Rattle.std.proofs.lemmas.Bool.Decides.{leb_tells, nat_tests}
use Rattle.std.specs.Prelude.{Option, Some, None, is_some, slice_get, slice_index_or, codes, cond, IsTrue, if◌then◌else◌}
use Rattle.std.specs.List.{flat_map}
use Rattle.adf_format.specs.declared.types.Extent.{Extent}
use Rattle.adf_format.specs.declared.types.Format.{Format}
use Rattle.adf_format.specs.Fields.{field}
use Rattle.adf_format.specs.Tree.{Tree, is_live}
use Rattle.adf_format.specs.Tiles.{Tiles, cover, holds_byte, is_free, is_filler}
use Rattle.adf_format.specs.Parts.{IsFiller}
use Rattle.adf_format.specs.Placement.{Placement, NodeParts, parts_of, node_extents, extents_of, live_extents, head_extents, all_extents}
use Rattle.adf_format.specs.LaysOut.{LaysOut, AreGapsInOrder}
use Rattle.adf_format.specs.FirstFault.{is_wide, end_in}
use Rattle.adf_format.specs.SoundPart.{format_in}
use Rattle.adf_format.specs.Verdict.{NodePlace, IsLaidOutAs}
use Rattle.adf_format.proofs.HeapSteps.{cover-append}
use Rattle.adf_format.proofs.FrameLaws.{field_step, put_first}
use Rattle.adf_format.proofs.CountLaws.{none_holds}
use Rattle.adf_format.proofs.FieldLaws.{get_field, length-field}
use Rattle.adf_format.proofs.SameLayout.{end_recorded, format_recorded, wide_recorded}

-- ---- parts and nodes

some_at : {A : Type 0} (xs : List (Option A)) (k : ℕ) → is_some (slice_index_or xs k None) ≡ slice_index_or (map is_some xs) k false
some_at [] k = refl
some_at (x ∷ xs) zero = refl
some_at (x ∷ xs) (suc k) = some_at xs k

-- parts stand at the live serials alone
pub live_parts : (image : List ℕ) (tree : Tree) (p : Placement) → LaysOut image tree p → (serial : ℕ) → is_some (parts_of p serial) ≡ is_live tree serial
live_parts image tree p l serial = some_at p.parts serial ∙ ap (λ (bs : List Bool). slice_index_or bs serial false) l.same_nodes ∙ sym (some_at tree.nodes serial)

none_some : {P : Type 0} (a : NodeParts) → ◌≡◌ {A = Option NodeParts} None (Some a) → P
none_some a e = cc

pub one_of : (wide : Bool) (xs : List (Option NodeParts)) (i byte : ℕ) (a : NodeParts) → slice_index_or xs i None ≡ Some a → cover (node_extents wide a) byte ≤ cover (flat_map (extents_of wide) xs) byte
one_of wide [] i byte a e = none_some a e
one_of wide (x ∷ xs) zero byte a e =
    let all : cover (extents_of wide x ++ flat_map (extents_of wide) xs) byte ≡ cover (extents_of wide x) byte + cover (flat_map (extents_of wide) xs) byte = cover-append (extents_of wide x) (flat_map (extents_of wide) xs) byte in
    let here : cover (extents_of wide x) byte ≡ cover (node_extents wide a) byte = ap (λ (o : Option NodeParts). cover (extents_of wide o) byte) e in
    omega (arith, all, here)
one_of wide (x ∷ xs) (suc i) byte a e =
    let all : cover (extents_of wide x ++ flat_map (extents_of wide) xs) byte ≡ cover (extents_of wide x) byte + cover (flat_map (extents_of wide) xs) byte = cover-append (extents_of wide x) (flat_map (extents_of wide) xs) byte in
    let rest : cover (node_extents wide a) byte ≤ cover (flat_map (extents_of wide) xs) byte = one_of wide xs i byte a e in
    omega (arith, all, rest)

two_of : (wide : Bool) (xs : List (Option NodeParts)) (i j byte : ℕ) (a b : NodeParts) → i ≢ j → slice_index_or xs i None ≡ Some a → slice_index_or xs j None ≡ Some b
    → cover (node_extents wide a) byte + cover (node_extents wide b) byte ≤ cover (flat_map (extents_of wide) xs) byte
two_of wide [] i j byte a b differ e f = none_some a e
two_of wide (x ∷ xs) zero zero byte a b differ e f = absurd (differ refl)
two_of wide (x ∷ xs) zero (suc j) byte a b differ e f =
    let all : cover (extents_of wide x ++ flat_map (extents_of wide) xs) byte ≡ cover (extents_of wide x) byte + cover (flat_map (extents_of wide) xs) byte = cover-append (extents_of wide x) (flat_map (extents_of wide) xs) byte in
    let here : cover (extents_of wide x) byte ≡ cover (node_extents wide a) byte = ap (λ (o : Option NodeParts). cover (extents_of wide o) byte) e in
    let rest : cover (node_extents wide b) byte ≤ cover (flat_map (extents_of wide) xs) byte = one_of wide xs j byte b f in
    omega (arith, all, here, rest)
two_of wide (x ∷ xs) (suc i) zero byte a b differ e f =
    let all : cover (extents_of wide x ++ flat_map (extents_of wide) xs) byte ≡ cover (extents_of wide x) byte + cover (flat_map (extents_of wide) xs) byte = cover-append (extents_of wide x) (flat_map (extents_of wide) xs) byte in
    let here : cover (extents_of wide x) byte ≡ cover (node_extents wide b) byte = ap (λ (o : Option NodeParts). cover (extents_of wide o) byte) f in
    let rest : cover (node_extents wide a) byte ≤ cover (flat_map (extents_of wide) xs) byte = one_of wide xs i byte a e in
    omega (arith, all, here, rest)
two_of wide (x ∷ xs) (suc i) (suc j) byte a b differ e f =
    let all : cover (extents_of wide x ++ flat_map (extents_of wide) xs) byte ≡ cover (extents_of wide x) byte + cover (flat_map (extents_of wide) xs) byte = cover-append (extents_of wide x) (flat_map (extents_of wide) xs) byte in
    let rest : cover (node_extents wide a) byte + cover (node_extents wide b) byte ≤ cover (flat_map (extents_of wide) xs) byte = two_of wide xs i j byte a b (λ same. differ (ap suc same)) e f in
    omega (arith, all, rest)

at_most_one : (xs : List Extent) (end byte : ℕ) → Tiles xs end → cover xs byte ≤ 1
at_most_one xs end byte t = elim (leb_tells byte end) [
  | inl h ↦ (let one : cover xs byte ≡ 1 = t.once byte h.1 in omega (arith, one))
  | inr h ↦ (let none : cover xs byte ≡ 0 = t.inside byte h.1 in omega (arith, none))
]

-- no byte belongs to two nodes
pub nodes_apart : (image : List ℕ) (tree : Tree) (p : Placement) → LaysOut image tree p → (i j byte : ℕ) (a b : NodeParts) → i ≢ j → parts_of p i ≡ Some a → parts_of p j ≡ Some b
    → cover (node_extents tree.wide a) byte + cover (node_extents tree.wide b) byte ≤ 1
nodes_apart image tree p l i j byte a b differ e f =
    let two : cover (node_extents tree.wide a) byte + cover (node_extents tree.wide b) byte ≤ cover (live_extents tree.wide p) byte = two_of tree.wide p.parts i j byte a b differ e f in
    let whole : cover (all_extents tree.wide p) byte ≤ 1 = at_most_one (all_extents tree.wide p) p.heap.end byte l.tiles in
    let outer : cover (head_extents ++ live_extents tree.wide p ++ p.heap.gaps) byte ≡ cover (head_extents ++ live_extents tree.wide p) byte + cover p.heap.gaps byte = cover-append (head_extents ++ live_extents tree.wide p) p.heap.gaps byte in
    let inner : cover (head_extents ++ live_extents tree.wide p) byte ≡ cover head_extents byte + cover (live_extents tree.wide p) byte = cover-append head_extents (live_extents tree.wide p) byte in
    at_last (cover (live_extents tree.wide p) byte) (cover (all_extents tree.wide p) byte) (cover (head_extents ++ live_extents tree.wide p) byte) (cover p.heap.gaps byte) (cover head_extents byte) _ two whole outer inner
  where
    at_last : (live all front gaps head sum : ℕ) → sum ≤ live → all ≤ 1 → all ≡ front + gaps → front ≡ head + live → sum ≤ 1
    at_last live all front gaps head sum two whole outer inner = omega (arith, two, whole, outer, inner)

-- ---- bytes of no part

-- a filler that holds a byte, by its place among the gaps
abbrev FillerAt : List Extent → ℕ → Type 0
FillerAt gaps b = (k : ℕ) × (g : Extent) × (slice_get gaps k ≡ Some g) × IsTrue (is_filler g) × (holds_byte g b ≡ true)

further : (h : Extent) (gaps : List Extent) (b : ℕ) → FillerAt gaps b → FillerAt (h ∷ gaps) b
further h gaps b f = (suc f.0, f.1, f.2, f.3, f.4)

filler_at : (gaps : List Extent) (b : ℕ) → AreGapsInOrder gaps → cover gaps b ≡ 1 → cover (filter is_free gaps) b ≡ 0 → FillerAt gaps b
filler_at [] b o one none = absurd (omega (arith, one))
filler_at (g ∷ gs) b o one none = by_byte (holds_byte g b) refl (is_free g) refl one none (filler_at gs b o.2)
  where
    by_byte : (t : Bool) → holds_byte g b ≡ t → (u : Bool) → is_free g ≡ u → cond t 1 0 + cover gs b ≡ 1 → cover (if u then g ∷ filter is_free gs else filter is_free gs) b ≡ 0
        → (cover gs b ≡ 1 → cover (filter is_free gs) b ≡ 0 → FillerAt gs b) → FillerAt (g ∷ gs) b
    by_byte true held true free one none ih = absurd (let out = (none_holds g (filter is_free gs) b none).0 in clash (holds_byte g b) held out)
      where
        clash : (t : Bool) → t ≡ true → t ≡ false → ⊥
        clash t p q = cc
    by_byte true held false free one none ih = (0, g, refl, filled o.0.1, held)
      where
        filled : (IsTrue (is_free g) × (32 ≤ g.length)) ⊎ IsTrue (is_filler g) → IsTrue (is_filler g)
        filled (inl f) = absurd (clash (is_free g) f.0 free)
          where
            clash : (t : Bool) → t ≡ true → t ≡ false → ⊥
            clash t p q = cc
        filled (inr f) = f
    by_byte false held true free one none ih = further g gs b (ih (omega (arith, one)) (none_holds g (filter is_free gs) b none).1)
    by_byte false held false free one none ih = further g gs b (ih (omega (arith, one)) none)

replicated : (n i b : ℕ) → i < n → slice_get (replicate n b) i ≡ Some b
replicated zero i b lt = absurd (none i lt)
  where
    none : (i : ℕ) → i < 0 → ⊥
    none i h = omega (arith, h)
replicated (suc n) zero b lt = refl
replicated (suc n) (suc i) b lt = replicated n i b (omega (arith, lt))

filler_byte : (image : List ℕ) (g : Extent) (b : ℕ) → IsFiller (field image g.place g.length) → holds_byte g b ≡ true → b < length image → slice_get image b ≡ Some 122
filler_byte image g b filled held within =
    sym (get_field image g.place g.length (b - g.place) b inside above)
    ∙ ap (λ xs. slice_get xs (b - g.place)) filled ∙ replicated (length (field image g.place g.length)) (b - g.place) 122 (let long = length-field image g.place g.length in omega (arith, long, inside, above, within))
  where
    inside : b - g.place < g.length
    inside = grind (arith, nat_tests, held)

    above : b ≡ g.place + (b - g.place)
    above = grind (arith, nat_tests, held)

-- a byte up to the end that is in no part of a node and in no free chunk is `z`
pub unused_byte : (image : List ℕ) (tree : Tree) (p : Placement) → LaysOut image tree p → (b : ℕ) → b ≤ p.heap.end → cover (head_extents ++ live_extents tree.wide p) b ≡ 0 → cover (filter is_free p.heap.gaps) b ≡ 0 → field image b 1 ≡ codes "z"
unused_byte image tree p l b le parts frees =
    let outer : cover (head_extents ++ live_extents tree.wide p ++ p.heap.gaps) b ≡ cover (head_extents ++ live_extents tree.wide p) b + cover p.heap.gaps b = cover-append (head_extents ++ live_extents tree.wide p) p.heap.gaps b in
    let one : cover (all_extents tree.wide p) b ≡ 1 = l.tiles.once b le in
    let gap : cover p.heap.gaps b ≡ 1 = rest (cover (all_extents tree.wide p) b) (cover (head_extents ++ live_extents tree.wide p) b) (cover p.heap.gaps b) outer one parts in
    let f : FillerAt p.heap.gaps b = filler_at p.heap.gaps b l.gaps gap frees in
    let byte : slice_get image b ≡ Some 122 = filler_byte image f.1 b (l.fillers f.0 f.1 f.2 f.3) f.4 (let end = l.end in omega (arith, end, le)) in
    field_step image b 0 ∙ ap (λ (o : Option ℕ). put_first o (field image (suc b) 0)) byte
  where
    rest : (all front gaps : ℕ) → all ≡ front + gaps → all ≡ 1 → front ≡ 0 → gaps ≡ 1
    rest all front gaps e f g = omega (arith, e, f, g)

-- ---- the verdict says what the header says

pub verdict_recorded : (image : List ℕ) (nodes : List NodePlace) (gaps : List Extent) (end : ℕ) (format : Format) (wide : Bool) → IsLaidOutAs image nodes gaps end format wide → (end_in image ≡ end) × (format_in image ≡ format) × (is_wide image ≡ wide)
verdict_recorded image nodes gaps end format wide v = (
  end_recorded image v.tree v.placement v.laid_out ∙ v.same_end,
  format_recorded image v.tree v.placement v.laid_out ∙ v.same_format,
  wide_recorded image v.tree v.placement v.laid_out ∙ v.same_width,
)

-- The shape of what the linter says: the nodes of a walk, one after another, and the gaps between their headers.
use Rattle.std.proofs.Common.{◌≡◌, ◌⊎◌, inl, inr, ℕ, zero, suc, ◌+◌, ◌-◌, ◌^◌, ◌<◌, ◌≤◌, Bool, true, false, cond, List, [], ◌∷◌, ◌++◌, map, filter, length, refl, sym, ◌∙◌, ap, subst, arith}
use Rattle.std.proofs.lemmas.Bool.Decides.{nat_tests, leb_tells}
use Rattle.std.proofs.lemmas.List.{map-append, length-map}
use Rattle.std.proofs.lemmas.List.Elements.{All-weaker, All-nil, All-push, filter-append}
use Rattle.std.proofs.lemmas.Option.{same_Some, slice_get_within}
use Rattle.std.specs.Prelude.{Option, Some, slice_get, nat_le, nat_lt, ◌&&◌}
use Rattle.std.specs.List.{All, AllByRecursion}
use Rattle.adf_format.specs.declared.types.Extent.{Extent}
use Rattle.adf_format.specs.declared.types.ExtentKind.{ExtentKind}
use Rattle.adf_format.specs.Tiles.{cover, end_of, holds_byte}
use Rattle.adf_format.specs.LaysOut.{AreGapsInOrder}
use Rattle.adf_format.specs.Parts.{node_length}
use Rattle.adf_format.specs.Placement.{extent, head_extents}
use Rattle.adf_format.specs.Verdict.{NodePlace}
use Rattle.adf_format.proofs.HeapSteps.{cover-append}
use Rattle.layout_laws.specs.NodePass.{Waiting}
use Rattle.layout_lint.specs.Walks.{node_place, waiting_of}
use Rattle.layout_lint.specs.Shapes.{IsTop, IsBelow, AreLinked, AreWithin, header_of, IsShaped, Adds, AddsNode, is_used, HoldsHeaders, AreSet, IsChildIn, IsFamilyOf, met_place, MayFollow, IsRooted, IsSteady, IsWhole}
use Rattle.layout_lint.specs.declared.node.Met.{Met}
use Rattle.layout_lint.specs.declared.stack.Family.{Family}
use Rattle.layout_lint.specs.declared.verdict.NodePlace as code
use Rattle.layout_lint.specs.declared.walk.Search.{Search}
use Rattle.layout_lint.specs.declared.walk.FoundNodes.{FoundNodes}

-- ---- one more node

-- an element of a list with one more is one of the list, or that one
pub get_cases : {A : Type 0} (xs : List A) (y x : A) (k : ℕ) → slice_get (xs ++ y ∷ []) k ≡ Some x → (slice_get xs k ≡ Some x) ⊎ ((k ≡ length xs) × (y ≡ x))
get_cases [] y x zero e = inr (refl, same_Some y x e)
get_cases [] y x (suc k) e = cc
get_cases (z ∷ zs) y x zero e = inl e
get_cases (z ∷ zs) y x (suc k) e = elim (get_cases zs y x k e) [ inl h ↦ inl h | inr h ↦ inr (ap suc h.0, h.1) ]

pub get_kept : {A : Type 0} (xs ys : List A) (x : A) (k : ℕ) → slice_get xs k ≡ Some x → slice_get (xs ++ ys) k ≡ Some x
get_kept [] ys x k e = cc
get_kept (z ∷ zs) ys x zero e = e
get_kept (z ∷ zs) ys x (suc k) e = get_kept zs ys x k e

pub get_last : {A : Type 0} (xs : List A) (y : A) → slice_get (xs ++ y ∷ []) (length xs) ≡ Some y
get_last [] y = refl
get_last (x ∷ xs) y = get_last xs y

below_later : (nodes more : List NodePlace) (count later : ℕ) (n : NodePlace) → count ≤ later → IsBelow nodes count n → IsBelow (nodes ++ more) later n
below_later nodes more count later n le b = let before = b.before in record {
  parent = b.parent;
  stands = get_kept nodes more b.parent n.parent b.stands;
  before = omega (arith, before, le);
  step = b.step;
  near = b.near;
}

pub linked_then : (nodes : List NodePlace) (n : NodePlace) → AreLinked nodes → MayFollow nodes n → AreLinked (nodes ++ n ∷ [])
linked_then nodes n l may = record { root = root; others = others }
  where
    root : (m : NodePlace) → slice_get (nodes ++ n ∷ []) 0 ≡ Some m → IsTop m
    root m e = elim (get_cases nodes n m 0 e) [
      | inl h ↦ l.root m h
      | inr h ↦ elim may [
        | inl t ↦ subst IsTop h.1 t.1
        | inr t ↦ absurd (let some = t.0 in let none = h.0 in omega (arith, some, none))
      ]
    ]

    others : (k : ℕ) (m : NodePlace) → slice_get (nodes ++ n ∷ []) k ≡ Some m → 0 < k → IsBelow (nodes ++ n ∷ []) k m
    others k m e lt = elim (get_cases nodes n m k e) [
      | inl h ↦ below_later nodes (n ∷ []) k k m (omega arith) (l.others k m h lt)
      | inr h ↦ elim may [
        | inl t ↦ absurd (let none = ap length t.0 in let is = h.0 in omega (arith, none, is, lt))
        | inr t ↦ below_later nodes (n ∷ []) (length nodes) k m (let is = h.0 in omega (arith, is)) (subst (IsBelow nodes (length nodes)) h.1 t.1)
      ]
    ]

pub within_then : (wide : Bool) (end : ℕ) (nodes : List NodePlace) (n : NodePlace) → AreWithin wide end nodes → (266 ≤ n.place) × (n.place + node_length wide ≤ end + 1) → AreWithin wide end (nodes ++ n ∷ [])
within_then wide end nodes n w fits = λ k m e. elim (get_cases nodes n m k e) [
  | inl h ↦ w k m h
  | inr h ↦ subst (λ (m : NodePlace). (266 ≤ m.place) × (m.place + node_length wide ≤ end + 1)) h.1 fits
]

-- ---- the extents

used-append : (xs ys : List Extent) (b : ℕ) → cover (filter is_used (xs ++ ys)) b ≡ cover (filter is_used xs) b + cover (filter is_used ys) b
used-append xs ys b = ap (λ es. cover es b) (filter-append is_used xs ys) ∙ cover-append (filter is_used xs) (filter is_used ys) b

pub adds_none : (xs : List Extent) → Adds xs xs
adds_none xs = record { more = []; added = none xs }
  where
    none : (ys : List Extent) → ys ≡ ys ++ []
    none [] = refl
    none (y ∷ ys) = ap (λ zs. y ∷ zs) (none ys)

pub adds_then : (xs ys zs : List Extent) → Adds xs ys → Adds ys zs → Adds xs zs
adds_then xs ys zs a c = record { more = a.more ++ c.more; added = c.added ∙ ap (λ es. es ++ c.more) a.added ∙ join xs a.more c.more }
  where
    join : (us vs ws : List Extent) → (us ++ vs) ++ ws ≡ us ++ (vs ++ ws)
    join [] vs ws = refl
    join (u ∷ us) vs ws = ap (λ es. u ∷ es) (join us vs ws)

pub adds_more : (xs ys more : List Extent) → ys ≡ xs ++ more → Adds xs ys
adds_more xs ys more e = record { more = more; added = e }

adds_cover : (xs ys : List Extent) (b : ℕ) → Adds xs ys → cover (filter is_used xs) b ≤ cover (filter is_used ys) b
adds_cover xs ys b a = let e = ap (λ es. cover (filter is_used es) b) a.added ∙ used-append xs a.more b in omega (arith, e)

pub held_more : (wide : Bool) (nodes : List NodePlace) (xs ys : List Extent) → HoldsHeaders wide nodes xs → Adds xs ys → HoldsHeaders wide nodes ys
held_more wide nodes xs ys h a = λ b. let old = h b in let grows = adds_cover xs ys b a in omega (arith, old, grows)

held_then : (wide : Bool) (nodes : List NodePlace) (n : NodePlace) (xs ys : List Extent) → HoldsHeaders wide nodes xs → AddsNode wide n.place xs ys → HoldsHeaders wide (nodes ++ n ∷ []) ys
held_then wide nodes n xs ys h a = λ b.
    let old = h b in
    let grows = adds_cover (xs ++ header_of wide n ∷ []) ys b a in
    let one = used-append xs (header_of wide n ∷ []) b in
    let all = ap (λ es. cover (head_extents ++ es) b) (map-append (header_of wide) nodes (n ∷ [])) in
    let left = cover-append head_extents (map (header_of wide) nodes ++ header_of wide n ∷ []) b in
    let right = cover-append (map (header_of wide) nodes) (header_of wide n ∷ []) b in
    let before = cover-append head_extents (map (header_of wide) nodes) b in
    omega (arith, old, grows, one, all, left, right, before)

-- ---- one turn of the walk

counts : (nodes : List NodePlace) (n : NodePlace) → length nodes < length (nodes ++ n ∷ [])
counts [] n = omega arith
counts (x ∷ nodes) n = let h = counts nodes n in omega (arith, h)

rooted_then : (wide : Bool) (end : ℕ) (nodes : List NodePlace) (extents after : List Extent) (n : NodePlace) → IsRooted wide end nodes extents → MayFollow nodes n → (266 ≤ n.place) × (n.place + node_length wide ≤ end + 1)
    → AddsNode wide n.place extents after → IsRooted wide end (nodes ++ n ∷ []) after
rooted_then wide end nodes extents after n r follows fits adds = record {
  linked = linked_then nodes n r.linked follows;
  headers = within_then wide end nodes n r.headers fits;
  held = held_then wide nodes n extents after r.held adds;
}

-- the families are still those of the nodes, and so is that of the last one
pub families_then : (nodes : List NodePlace) (n : NodePlace) (old new : List Family) (f : Family) → All (IsFamilyOf nodes) old → new ≡ old ++ f ∷ [] → f.number ≡ length nodes → n.depth ≡ f.depth → All (IsFamilyOf (nodes ++ n ∷ [])) new
families_then nodes n old new f all pushed number depth = subst (All (IsFamilyOf (nodes ++ n ∷ []))) (sym pushed)
    (All-push (IsFamilyOf (nodes ++ n ∷ [])) old f (All-weaker (IsFamilyOf nodes) (IsFamilyOf (nodes ++ n ∷ [])) (λ g h. record { parent = h.parent; stands = get_kept nodes (n ∷ []) h.parent g.number h.stands; depth = h.depth }) old all)
    (record { parent = n; stands = subst (λ k. slice_get (nodes ++ n ∷ []) k ≡ Some n) (sym number) (get_last nodes n); depth = depth }))

-- a child of a family may be the next
pub child_follows : (nodes : List NodePlace) (f : Family) (m : Met) → 0 < length nodes → IsFamilyOf nodes f → IsChildIn f m → MayFollow nodes (met_place m)
child_follows nodes f m some is child =
    let parent = child.parent in
    let step = child.step in
    let depth = is.depth in
    inr (
      some,
      record {
        parent = is.parent;
        stands = subst (λ k. slice_get nodes k ≡ Some is.parent) (sym parent) is.stands;
        before = (let within = slice_get_within nodes f.number is.parent is.stands in omega (arith, parent, within));
        step = omega (arith, step, depth);
        near = child.near;
      },
    )

pub child_is : (family : Family) (m : Met) (place position : ℕ) (entry : Option (List ℕ)) → waiting_of m ≡ record { place = place; entry = entry; parent = family.number; position = position; depth = family.depth + 1 } → family.depth < 255 → IsChildIn family m
child_is family m place position entry is shallow = let step = ap (λ (w : Waiting). w.depth) is in record { parent = ap (λ (w : Waiting). w.parent) is; step = step; near = omega (arith, step, shallow) }

-- no node lies deeper than 255
pub near_enough : (nodes : List NodePlace) (n : NodePlace) → MayFollow nodes n → n.depth ≤ 255
near_enough nodes n may = elim may [ inl t ↦ (let top = t.1.depth in omega (arith, top)) | inr t ↦ t.1.near ]

-- ---- the extents of a node

pub node_added : (wide : Bool) (place length : ℕ) (old mid new : List Extent) → length ≡ node_length wide → mid ≡ old ++ record { place = place; length = length; kind = ExtentKind.Node } ∷ [] → Adds mid new → AddsNode wide place old new
node_added wide place length old mid new is e a = subst (λ xs. Adds xs new) (e ∙ ap (λ n. old ++ extent ExtentKind.Node place n ∷ []) is) a

-- ---- the start

pub rooted_first : (wide : Bool) (end : ℕ) (nodes : List NodePlace) (extents : List Extent) → nodes ≡ [] → extents ≡ head_extents → IsRooted wide end nodes extents
rooted_first wide end nodes extents none head = subst (λ (es : List Extent). IsRooted wide end nodes es) (sym head) (subst (λ (ns : List NodePlace). IsRooted wide end ns head_extents) (sym none) (record {
  linked = record { root = λ n e. cc; others = λ k n e. cc };
  headers = λ k n e. cc;
  held = λ b. omega arith;
}))

pub steady_first : (wide : Bool) (end : ℕ) (s : Search) → s.nodes.items ≡ [] → s.families.items ≡ [] → s.extents.items ≡ head_extents → IsSteady wide end s
steady_first wide end s nodes families head = record {
  rooted = rooted_first wide end (map node_place s.nodes.items) s.extents.items (ap (map node_place) nodes) head;
  families = subst (All (IsFamilyOf (map node_place s.nodes.items))) (sym families) (All-nil (IsFamilyOf (map node_place s.nodes.items)));
}

-- ---- the whole

-- gaps that hold a byte of none of these bytes lie behind them, and end by the last one
gaps_within : (low end : ℕ) (gaps : List Extent) → AreGapsInOrder gaps → ((b : ℕ) → b < low → cover gaps b ≡ 0) → ((b : ℕ) → end < b → cover gaps b ≡ 0) → AllByRecursion (λ (g : Extent). (low ≤ g.place) × (end_of g ≤ end + 1)) gaps
gaps_within low end [] o none beyond = tt
gaps_within low end (g ∷ gs) o none beyond = ((from, to), gaps_within low end gs o.2 (λ b lt. in_others b (none b lt)) (λ b lt. in_others b (beyond b lt)))
  where
    in_others : (b : ℕ) → cover (g ∷ gs) b ≡ 0 → cover gs b ≡ 0
    in_others b h = omega (arith, h)

    holds : (b : ℕ) → g.place ≤ b → b < end_of g → holds_byte g b ≡ true
    holds b le lt = grind (arith, nat_tests)

    counted : (b : ℕ) → g.place ≤ b → b < end_of g → 0 < cover (g ∷ gs) b
    counted b le lt = let h = ap {B = ℕ} (λ t. cond t 1 0) (holds b le lt) in omega (arith, h)

    some : 0 < g.length
    some = o.0.0

    from : low ≤ g.place
    from = elim (leb_tells low g.place) [
      | inl h ↦ h.1
      | inr h ↦ absurd (let c = counted g.place (omega arith) (omega (arith, some)) in let n = none g.place h.1 in omega (arith, c, n))
    ]

    to : end_of g ≤ end + 1
    to = elim (leb_tells (end_of g) (end + 1)) [
      | inl h ↦ h.1
      | inr h ↦ (let lt = h.1 in absurd (let c = counted (end_of g - 1) (omega (arith, some)) (omega (arith, some)) in let n = beyond (end_of g - 1) (omega (arith, lt, some)) in omega (arith, c, n)))
    ]

pub shaped : (wide : Bool) (end : ℕ) (nodes : List NodePlace) (found extents gaps : List Extent) → 0 < length nodes → end < 2 ^ 44 → IsRooted wide end nodes found → Adds found extents → AreSet extents end gaps → IsShaped nodes gaps end wide
shaped wide end nodes found extents gaps some high r adds s = record {
  some = some;
  linked = r.linked;
  headers = r.headers;
  apart = λ b. apart b (leb_tells b end);
  order = s.order;
  within = gaps_within 266 end gaps s.order behind_head s.beyond;
  low = low nodes some r.headers;
  high = high;
}
  where
    held : (b : ℕ) → cover (head_extents ++ map (header_of wide) nodes) b ≤ cover (filter is_used extents) b
    held = held_more wide nodes found extents r.held adds

    low : (ns : List NodePlace) → 0 < length ns → AreWithin wide end ns → 265 + node_length wide ≤ end
    low [] h w = absurd (omega (arith, h))
    low (n ∷ ns) h w = let f = w 0 n refl in let from = f.0 in let to = f.1 in omega (arith, from, to)

    head_holds : (b : ℕ) → b < 266 → 1 ≤ cover head_extents b
    head_holds b lt = grind (arith, nat_tests)

    behind_head : (b : ℕ) → b < 266 → cover gaps b ≡ 0
    behind_head b lt =
        let one = s.once b (let f = low nodes some r.headers in omega (arith, f, lt)) in
        let head = head_holds b lt in
        let all = cover-append head_extents (map (header_of wide) nodes) b in
        let h = held b in
        omega (arith, one, head, all, h)

    none_beyond : (ns : List NodePlace) (b : ℕ) → end < b → AreWithin wide end ns → cover (map (header_of wide) ns) b ≡ 0
    none_beyond [] b lt w = refl
    none_beyond (n ∷ ns) b lt w =
        let rest = none_beyond ns b lt (λ k m e. w (suc k) m e) in
        let out = ap {B = ℕ} (λ t. cond t 1 0) (outside n.place (node_length wide) (w 0 n refl).1) in
        omega (arith, rest, out)
      where
        outside : (p l : ℕ) → p + l ≤ end + 1 → (nat_le p b && nat_lt b (p + l)) ≡ false
        outside p l le = grind (arith, nat_tests, lt)

    apart : (b : ℕ) → ((nat_le b end ≡ true) × (b ≤ end)) ⊎ ((nat_le b end ≡ false) × (end < b)) → cover (map (header_of wide) nodes ++ gaps) b ≤ 1
    apart b (inl h) =
        let one = s.once b h.1 in
        let all = cover-append head_extents (map (header_of wide) nodes) b in
        let sum = cover-append (map (header_of wide) nodes) gaps b in
        let f = held b in
        omega (arith, one, all, sum, f)
    apart b (inr h) =
        let sum = cover-append (map (header_of wide) nodes) gaps b in
        let none = none_beyond nodes b h.1 r.headers in
        let gone = s.beyond b h.1 in
        omega (arith, sum, none, gone)

-- ---- a walk as the code makes it

-- one more node was looked at, and its children wait
pub steady_then : (wide : Bool) (end : ℕ) (s t : Search) (found : List Extent) (families : List Family) (m : Met) (f : Family) → IsSteady wide end s → MayFollow (map node_place s.nodes.items) (met_place m)
    → map node_place t.nodes.items ≡ map node_place s.nodes.items ++ met_place m ∷ [] → t.extents.items ≡ found → t.families.items ≡ families → families ≡ s.families.items ++ f ∷ []
    → (266 ≤ m.place) × (m.place + node_length wide ≤ end + 1) → AddsNode wide m.place s.extents.items found → f.number ≡ length s.nodes.items → f.depth ≡ m.depth → IsSteady wide end t
steady_then wide end s t found families m f steady follows nodes extents same pushed fits adds number depth = record {
  rooted = subst (λ (es : List Extent). IsRooted wide end (map node_place t.nodes.items) es) (sym extents) (subst (λ (ns : List NodePlace). IsRooted wide end ns found) (sym nodes)
      (rooted_then wide end (map node_place s.nodes.items) s.extents.items found (met_place m) steady.rooted follows fits adds));
  families = subst (λ (fs : List Family). All (IsFamilyOf (map node_place t.nodes.items)) fs) (sym same) (subst (λ (ns : List NodePlace). All (IsFamilyOf ns) families) (sym nodes)
      (families_then (map node_place s.nodes.items) (met_place m) s.families.items families f steady.families pushed (number ∙ sym (length-map s.nodes.items node_place)) (sym depth)));
}

pub some_then : (nodes : List code.NodePlace) (old : List NodePlace) (n : NodePlace) → map node_place nodes ≡ old ++ n ∷ [] → 0 < length nodes
some_then nodes old n is = let longer = counts old n in let same = ap length is in let count = length-map nodes node_place in omega (arith, longer, same, count)

-- none waits any more
pub whole_found : (wide : Bool) (end : ℕ) (s : Search) (f : FoundNodes) → IsSteady wide end s → 0 < length s.nodes.items → f.nodes ≡ s.nodes → f.extents ≡ s.extents → IsWhole wide end f
whole_found wide end s f steady some nodes extents = record {
  rooted = subst (λ ns. IsRooted wide end (map node_place ns.items) f.extents.items) (sym nodes) (subst (λ es. IsRooted wide end (map node_place s.nodes.items) es.items) (sym extents) steady.rooted);
  some = let same = ap (λ ns. length ns.items) nodes in omega (arith, some, same);
}

-- what is said of a file with these nodes and gaps
pub shape_said : (wide : Bool) (end : ℕ) (found : FoundNodes) (extents gaps : List Extent) → IsWhole wide end found → end < 2 ^ 44 → Adds found.extents.items extents → AreSet extents end gaps → IsShaped (map node_place found.nodes.items) gaps end wide
shape_said wide end found extents gaps whole high adds set =
    shaped wide end _ found.extents.items extents gaps (let some = whole.some in let count = length-map found.nodes.items node_place in omega (arith, some, count)) high whole.rooted adds set

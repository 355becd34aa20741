-- A node that is created where there is room keeps the tree sound.
use Rattle.std.proofs.Common.{◌≡◌, ◌≢◌, ℕ, zero, suc, ◌-◌, ◌^◌, ◌<◌, ◌≤◌, Bool, true, false, not, List, [], ◌∷◌, ◌++◌, length, map, get_or, refl, sym, ◌∙◌, ap, subst, arith, ◌⊎◌, inl, inr, length-append}
use Rattle.std.specs.Prelude.{Option, Some, None, IsSome, IsTrue, is_some, slice_set, unwrap_or, ◌==◌, ◌||◌, if◌then◌else◌, bytes_eq}
use Rattle.std.specs.List.{list_any}
use Rattle.std.proofs.lemmas.List.Folds.{list_any-append}
use Rattle.std.proofs.Math.ListN.{get_or-map}
use Rattle.std.proofs.lemmas.List.{length-set, length-map, map-append, map-set}
use Rattle.std.proofs.lemmas.Bool.Decides.{eqb_tells}
use Rattle.adf_format.specs.Names.{is_lk}
use Rattle.adf_format.specs.Tree.{Node, Tree, node_at, children_of, children_at, name_of, name_at, is_link, is_among, IsAmong, families, climb, lineage, depth_of, first_named, AllDiffer, IsNode, IsTree}
use Rattle.adf_model.proofs.Trees.LineageLemmas.{grown, Unborn, climb-grown, climb-new}
use Rattle.adf_model.proofs.Basics.{among_head}

-- at a serial stands the new node, or its parent with one more child, or what stood there
data Place (nodes : List (Option Node)) (p q : ℕ) (x y now : Option Node) : Type 0 where
  fresh : q ≡ length nodes → now ≡ y → Place nodes p q x y now
  parent_here : q ≡ p → q ≢ length nodes → now ≡ x → Place nodes p q x y now
  old : q ≢ length nodes → now ≡ get_or nodes q None → Place nodes p q x y now

at_end : (nodes : List (Option Node)) (q : ℕ) (y : Option Node) → ((q ≡ length nodes) × (get_or (nodes ++ y ∷ []) q None ≡ y)) ⊎ ((q ≢ length nodes) × (get_or (nodes ++ y ∷ []) q None ≡ get_or nodes q None))
at_end [] zero y = inl (refl, refl)
at_end [] (suc q) y = inr (λ e. omega (arith, e), refl)
at_end (n ∷ nodes) zero y = inr (λ e. omega (arith, e), refl)
at_end (n ∷ nodes) (suc q) y = elim (at_end nodes q y) [ inl h ↦ inl (ap suc h.0, h.1) | inr h ↦ inr (λ e. h.0 (omega (arith, e)), h.1) ]

place : (nodes : List (Option Node)) (p q : ℕ) (x y : Option Node) → p < length nodes → Place nodes p q x y (get_or (slice_set nodes p x ++ y ∷ []) q None)
place [] p q x y inside = absurd (omega (arith, inside))
place (n ∷ nodes) zero zero x y inside = parent_here refl (λ e. omega (arith, e)) refl
place (n ∷ nodes) zero (suc q) x y inside = elim (at_end nodes q y) [ inl h ↦ fresh (ap suc h.0) h.1 | inr h ↦ old (λ e. h.0 (omega (arith, e))) h.1 ]
place (n ∷ nodes) (suc p) zero x y inside = old (λ e. omega (arith, e)) refl
place (n ∷ nodes) (suc p) (suc q) x y inside = elim (place nodes p q x y (omega (arith, inside))) [
  | fresh e v ↦ fresh (ap suc e) v
  | parent_here e f v ↦ parent_here (ap suc e) (λ h. f (omega (arith, h))) v
  | old f v ↦ old (λ h. f (omega (arith, h))) v
]

not_true : false ≡ true → ⊥
not_true e = cc

not_there : {A : Type 0} (a : A) → ◌≡◌ {A = Option A} None (Some a) → ⊥
not_there a e = cc

same_Some : {A : Type 0} (a b : A) → ◌≡◌ {A = Option A} (Some a) (Some b) → a ≡ b
same_Some a b e = ap (λ o. unwrap_or o a) e

or_parts : (a b : Bool) → (a || b) ≡ true → (a ≡ true) ⊎ (b ≡ true)
or_parts true b e = inl refl
or_parts false b e = inr e

or_right : (a b : Bool) → b ≡ true → (a || b) ≡ true
or_right true b e = refl
or_right false b e = e

-- what stands in a list with one more
pub among_split : (xs : List ℕ) (n c : ℕ) → IsAmong (xs ++ n ∷ []) c → IsAmong xs c ⊎ (c ≡ n)
among_split [] n c h = elim (eqb_tells n c) [ inl e ↦ inr (sym e.1) | inr e ↦ inl (elim (or_parts (n == c) false h) [ inl t ↦ absurd (not_true (sym e.0 ∙ t)) | inr t ↦ t ]) ]
among_split (x ∷ xs) n c h = elim (or_parts (x == c) (is_among (xs ++ n ∷ []) c) h) [
  | inl t ↦ inl (ap (λ b. b || is_among xs c) t)
  | inr t ↦ elim (among_split xs n c t) [ inl u ↦ inl (or_right (x == c) (is_among xs c) u) | inr u ↦ inr u ]
]

-- two functions that agree on a list make the same list of it
map_agree : (xs : List ℕ) (f g : ℕ → List ℕ) → ((c : ℕ) → IsAmong xs c → f c ≡ g c) → map f xs ≡ map g xs
map_agree [] f g same = refl
map_agree (x ∷ xs) f g same = ap (λ t. t ∷ map f xs) (same x (elim (eqb_tells x x) [ inl e ↦ ap (λ b. b || is_among xs x) e.0 | inr e ↦ absurd (e.1 refl) ])) ∙ ap (λ ts. g x ∷ ts) (map_agree xs f g (λ c h. same c (or_right (x == c) (is_among xs c) h)))

pub if_none : (b : Bool) (c : ℕ) (o : Option ℕ) → is_some (if b then Some c else o) ≡ false → (b ≡ false) × (is_some o ≡ false)
if_none true c o e = absurd (not_true (sym e))
if_none false c o e = (refl, e)

not_or : (a b : Bool) → IsTrue (not a) → b ≡ false → IsTrue (not (a || (b || false)))
not_or true b n e = n
not_or false true n e = absurd (not_true (sym e))
not_or false false n e = refl

-- texts that differ, and one more that none of them is
pub AllDiffer-append : (xs : List ℕ) (f : ℕ → List ℕ) (w : List ℕ) → AllDiffer (map f xs) → ((c : ℕ) → IsAmong xs c → bytes_eq (f c) w ≡ false) → AllDiffer (map f xs ++ w ∷ [])
AllDiffer-append [] f w differ new = (refl, tt)
AllDiffer-append (x ∷ xs) f w differ new = (
  subst (λ b. IsTrue (not b)) (sym (list_any-append (bytes_eq (f x)) (map f xs) (w ∷ []))) (not_or (list_any (bytes_eq (f x)) (map f xs)) (bytes_eq (f x) w) differ.0 (new x (among_head x xs))),
  AllDiffer-append xs f w differ.1 (λ c h. new c (or_right (x == c) (is_among xs c) h)),
)

-- no child of the list has the name
pub none_named : (tree : Tree) (xs : List ℕ) (w : List ℕ) → is_some (first_named tree xs w) ≡ false → (c : ℕ) → IsAmong xs c → bytes_eq (name_at tree c) w ≡ false
none_named tree [] w none c h = absurd (not_true h)
none_named tree (x ∷ xs) w none c h =
    let parts = if_none (bytes_eq (name_at tree x) w) x (first_named tree xs w) none in
    elim (or_parts (x == c) (is_among xs c) h) [
      | inl t ↦ elim (eqb_tells x c) [ inl e ↦ subst (λ d. bytes_eq (name_at tree d) w ≡ false) e.1 parts.0 | inr e ↦ absurd (not_true (sym e.0 ∙ t)) ]
      | inr t ↦ none_named tree xs w parts.1 c t
    ]

-- a number in none of the lists
unborn : (fs : List (List ℕ)) (n : ℕ) → ((q : ℕ) → is_among (get_or fs q []) n ≡ false) → Unborn fs n
unborn [] n none = tt
unborn (f ∷ fs) n none = (none 0, unborn fs n (λ q. none (suc q)))

false_of : (b : Bool) → (b ≡ true → ⊥) → b ≡ false
false_of true no_way = absurd (no_way refl)
false_of false no_way = refl

past_end : {A : Type 0} (xs : List A) (d : A) → get_or xs (length xs) d ≡ d
past_end [] d = refl
past_end (x ∷ xs) d = past_end xs d

pub inside_of : (nodes : List (Option Node)) (p : ℕ) (pn : Node) → get_or nodes p None ≡ Some pn → p < length nodes
inside_of [] p pn e = absurd (not_there pn e)
inside_of (x ∷ nodes) zero pn e = omega arith
inside_of (x ∷ nodes) (suc p) pn e = let rest : p < length nodes = inside_of nodes p pn e in omega (arith, rest)

inside_some : (nodes : List (Option Node)) (q : ℕ) → is_some (get_or nodes q None) ≡ true → q < length nodes
inside_some [] q e = absurd (not_true e)
inside_some (x ∷ nodes) zero e = omega arith
inside_some (x ∷ nodes) (suc q) e = let rest : q < length nodes = inside_some nodes q e in omega (arith, rest)

few_above : (k : ℕ) → k - 1 < 255 → k ≤ 255
few_above k h = omega (arith, h)

module _ (tree : Tree) (p : ℕ) (pn node : Node) (is : IsTree tree) (here : node_at tree p ≡ Some pn) (no_children : node.children ≡ []) (sound : IsNode tree.wide node) (no_link : is_link pn ≡ false)
    (new_name : is_some (first_named tree pn.children node.name) ≡ false) (room : length pn.children < 2 ^ 20) (high : depth_of tree p < 255) (serials_left : length tree.nodes < 2 ^ 48) where
  n : ℕ
  n = length tree.nodes

  abbrev pub parent_after : Node
  parent_after = record pn { children = pn.children ++ length tree.nodes ∷ [] }

  abbrev pub after : Tree
  after = record tree { nodes = slice_set tree.nodes p (Some parent_after) ++ Some node ∷ [] }

  inside : p < length tree.nodes
  inside = inside_of tree.nodes p pn here

  at : (q : ℕ) → Place tree.nodes p q (Some parent_after) (Some node) (node_at after q)
  at q = place tree.nodes p q (Some parent_after) (Some node) inside

  -- what was live still is
  still_live : (q : ℕ) → IsSome (node_at tree q) → IsSome (node_at after q)
  still_live q h = elim (at q) [ fresh e v ↦ ap is_some v | parent_here e f v ↦ ap is_some v | old f v ↦ ap is_some v ∙ h ]

  -- each child is an old one of the same parent, or the new one
  kids : (q c : ℕ) → IsAmong (children_at after q) c → IsAmong (children_at tree q) c ⊎ ((q ≡ p) × (c ≡ length tree.nodes))
  kids q c h = elim (at q) [
    | fresh e v ↦ absurd (not_true (subst (λ xs. IsAmong xs c) (ap children_of v ∙ no_children) h))
    | parent_here e f v ↦ elim (among_split pn.children (length tree.nodes) c (subst (λ xs. IsAmong xs c) (ap children_of v) h)) [
      | inl t ↦ inl (subst (λ r. IsAmong (children_at tree r) c) (sym e) (subst (λ o. IsAmong (children_of o) c) (sym here) t))
      | inr t ↦ inr (e, t)
    ]
    | old f v ↦ inl (subst (λ xs. IsAmong xs c) (ap children_of v) h)
  ]

  -- the new serial is no child yet
  not_yet : (q : ℕ) → IsAmong (children_at tree q) (length tree.nodes) → ⊥
  not_yet q h = let l = is.live q (length tree.nodes) h in not_true (sym (ap is_some (past_end tree.nodes None)) ∙ l.0)

  live_new : IsSome (node_at after (length tree.nodes))
  live_new = elim (at (length tree.nodes)) [ fresh e v ↦ ap is_some v | parent_here e f v ↦ absurd (f refl) | old f v ↦ absurd (f refl) ]

  live_after : (q c : ℕ) → IsAmong (children_at after q) c → IsSome (node_at after c) × (0 < c)
  live_after q c h = elim (kids q c h) [
    | inl k ↦ let l = is.live q c k in (still_live c l.0, l.1)
    | inr k ↦ (subst (λ d. IsSome (node_at after d)) (sym k.1) live_new, omega (arith, inside, k.1))
  ]

  one_after : (a b c : ℕ) → IsAmong (children_at after a) c → IsAmong (children_at after b) c → a ≡ b
  one_after a b c h k = elim (kids a c h) [
    | inl u ↦ elim (kids b c k) [ inl v ↦ is.one_parent a b c u v | inr v ↦ absurd (not_yet a (subst (λ d. IsAmong (children_at tree a) d) v.1 u)) ]
    | inr u ↦ elim (kids b c k) [ inl v ↦ absurd (not_yet b (subst (λ d. IsAmong (children_at tree b) d) u.1 v)) | inr v ↦ u.0 ∙ sym v.0 ]
  ]

  each_after : (q : ℕ) (m : Node) → node_at after q ≡ Some m → IsNode tree.wide m
  each_after q m e = elim (at q) [
    | fresh i v ↦ subst (IsNode tree.wide) (same_Some node m (sym v ∙ e)) sound
    | parent_here i f v ↦ subst (IsNode tree.wide) (same_Some parent_after m (sym v ∙ e)) (let s = is.each p pn here in record {
      named = s.named;
      labelled = s.labelled;
      shaped = s.shaped;
      sized = s.sized;
      empty = s.empty;
      link = λ k. absurd (not_true (sym no_link ∙ ap (λ d. is_lk d) k));
    })
    | old f v ↦ is.each q m (sym v ∙ e)
  ]

  -- an old node keeps its name
  name_after : (c : ℕ) → c ≢ length tree.nodes → name_at after c ≡ name_at tree c
  name_after c differ = elim (at c) [
    | fresh e v ↦ absurd (differ e)
    | parent_here e f v ↦ ap name_of v ∙ ap name_of (sym here) ∙ ap (name_at tree) (sym e)
    | old f v ↦ ap name_of v
  ]

  name_new : name_at after (length tree.nodes) ≡ node.name
  name_new = elim (at (length tree.nodes)) [ fresh e v ↦ ap name_of v | parent_here e f v ↦ absurd (f refl) | old f v ↦ absurd (f refl) ]

  same_names : (q : ℕ) → map (name_at after) (children_at tree q) ≡ map (name_at tree) (children_at tree q)
  same_names q = map_agree (children_at tree q) (name_at after) (name_at tree) (λ c h. name_after c (λ e. not_yet q (subst (λ d. IsAmong (children_at tree q) d) e h)))

  siblings_after : (q : ℕ) → AllDiffer (map (name_at after) (children_at after q))
  siblings_after q = elim (at q) [
    | fresh e v ↦ subst (λ xs. AllDiffer (map (name_at after) xs)) (sym (ap children_of v ∙ no_children)) tt
    | parent_here e f v ↦ subst (λ xs. AllDiffer (map (name_at after) xs)) (sym (ap children_of v)) at_parent
    | old f v ↦ subst (λ xs. AllDiffer (map (name_at after) xs)) (sym (ap children_of v)) (subst AllDiffer (sym (same_names q)) (is.siblings q))
  ]
    where
      of_parent : (xs : List ℕ) → children_at tree p ≡ xs → AllDiffer (map (name_at after) xs)
      of_parent xs e = subst (λ ys. AllDiffer (map (name_at after) ys)) e (subst AllDiffer (sym (same_names p)) (is.siblings p))

      at_parent : AllDiffer (map (name_at after) (pn.children ++ length tree.nodes ∷ []))
      at_parent = subst AllDiffer (sym (map-append (name_at after) pn.children (length tree.nodes ∷ [])))
          (subst (λ w. AllDiffer (map (name_at after) pn.children ++ w ∷ [])) (sym name_new)
          (AllDiffer-append pn.children (name_at after) node.name (of_parent pn.children (ap children_of here)) (λ c h.
          let old_child : IsAmong (children_at tree p) c = subst (λ o. IsAmong (children_of o) c) (sym here) h in
          subst (λ t. bytes_eq t node.name ≡ false) (sym (name_after c (λ e. not_yet p (subst (λ d. IsAmong (children_at tree p) d) e old_child)))) (none_named tree pn.children node.name new_name c h))))

  width_after : (q : ℕ) → length (children_at after q) ≤ 2 ^ 20
  width_after q = elim (at q) [
    | fresh e v ↦ subst (λ xs. length xs ≤ 2 ^ 20) (sym (ap children_of v ∙ no_children)) (omega arith)
    | parent_here e f v ↦ subst (λ xs. length xs ≤ 2 ^ 20) (sym (ap children_of v)) (let l = length-append pn.children (length tree.nodes ∷ []) in omega (arith, l, room))
    | old f v ↦ subst (λ xs. length xs ≤ 2 ^ 20) (sym (ap children_of v)) (is.width q)
  ]

  families_after : families after ≡ grown (families tree) p (length (families tree))
  families_after =
      map-append children_of (slice_set tree.nodes p (Some parent_after)) (Some node ∷ [])
      ∙ ap (λ xs. xs ++ node.children ∷ []) (map-set children_of tree.nodes p (Some parent_after))
      ∙ ap (λ ys. slice_set (families tree) p (pn.children ++ length tree.nodes ∷ []) ++ ys ∷ []) no_children
      ∙ ap (λ k. slice_set (families tree) p (pn.children ++ k ∷ []) ++ [] ∷ []) (sym (length-map tree.nodes children_of))
      ∙ ap (λ xs. slice_set (families tree) p (xs ++ length (families tree) ∷ []) ++ [] ∷ []) (sym (get_or-map children_of tree.nodes p None ∙ ap children_of here))

  is_unborn : Unborn (families tree) (length (families tree))
  is_unborn = unborn (families tree) (length (families tree)) (λ q.
      subst (λ xs. is_among xs (length (families tree)) ≡ false) (sym (get_or-map children_of tree.nodes q None))
      (subst (λ k. is_among (children_at tree q) k ≡ false) (sym (length-map tree.nodes children_of)) (false_of (is_among (children_at tree q) (length tree.nodes)) (not_yet q))))

  -- an old node has those above it that it had
  pub lineage_old : (q : ℕ) → is_some (node_at tree q) ≡ true → lineage after q ≡ lineage tree q
  unfolding lineage
  lineage_old q h =
      ap (λ fs. climb 256 fs (Some q)) families_after
      ∙ climb-grown 256 (families tree) p (Some q) (λ j e.
      let same : q ≡ j = ap (λ o. unwrap_or o q) e in
      let below : q < length tree.nodes = inside_some tree.nodes q h in
      omega (arith, same, below, length-map tree.nodes children_of))

  -- the new node stands below its parent
  pub lineage_new : lineage after (length tree.nodes) ≡ length (families tree) ∷ lineage tree p
  unfolding lineage
  lineage_new =
      ap (λ fs. climb 256 fs (Some (length tree.nodes))) families_after
      ∙ ap (λ k. climb 256 (grown (families tree) p (length (families tree))) (Some k)) (sym (length-map tree.nodes children_of))
      ∙ climb-new 255 (families tree) p (omega (arith, inside, length-map tree.nodes children_of)) is_unborn (few_above (length (climb 256 (families tree) (Some p))) high)

  reached_after : (q : ℕ) → IsSome (node_at after q) → IsAmong (lineage after q) 0
  reached_after q h = elim (at q) [
    | fresh e v ↦ subst (λ k. IsAmong (lineage after k) 0) (sym e) (subst (λ xs. IsAmong xs 0) (sym lineage_new) (or_right (length (families tree) == 0) (is_among (lineage tree p) 0) (is.reached p (ap is_some here))))
    | parent_here e f v ↦ old_reached (ap (λ k. is_some (node_at tree k)) e ∙ ap is_some here)
    | old f v ↦ old_reached (sym (ap is_some v) ∙ h)
  ]
    where
      old_reached : is_some (node_at tree q) ≡ true → IsAmong (lineage after q) 0
      old_reached live = subst (λ xs. IsAmong xs 0) (sym (lineage_old q live)) (is.reached q live)

  drawn_after : length after.nodes ≤ 2 ^ 48
  drawn_after =
      let a = length-append (slice_set tree.nodes p (Some parent_after)) (Some node ∷ []) in
      let b = length-set tree.nodes p (Some parent_after) in
      omega (arith, a, b, serials_left)

  pub IsTree-created : IsTree after
  IsTree-created = record {
    root = still_live 0 is.root;
    drawn = drawn_after;
    each = each_after;
    live = live_after;
    one_parent = one_after;
    siblings = siblings_after;
    width = width_after;
    reached = reached_after;
  }

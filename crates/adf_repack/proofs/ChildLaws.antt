-- In a file that lays out a tree, the children of a node rise with their numbers, and are those whose parent it is.
use Rattle.std.proofs.Common.{◌≡◌, inl, inr, ℕ, zero, suc, ◌+◌, ◌-◌, ◌<◌, ◌≤◌, List, [], ◌∷◌, ◌++◌, length, map, get_or, drop, refl, sym, ◌∙◌, ap, subst, arith, Bool, true, false}
use Rattle.std.specs.Prelude.{Option, Some, None, slice_get, option_map, ◌==◌, filter, cond}
use Rattle.std.specs.List.{AllByRecursion, range_with_len}
use Rattle.std.proofs.lemmas.Bool.{cases_lt}
use Rattle.std.proofs.lemmas.Bool.Decides.{eqb_tells}
use Rattle.std.proofs.lemmas.Option.{slice_get-map}
use Rattle.std.proofs.lemmas.List.{length-map}
use Rattle.adf_format.specs.FirstFault.{Visit, is_wide}
use Rattle.adf_format.specs.LaysOut.{LaysOut}
use Rattle.adf_format.specs.Placement.{Placement}
use Rattle.adf_format.specs.SoundPart.{tree_of, node_of_visit, children_among}
use Rattle.adf_format.specs.Tree.{Tree, Node, IsNumbered, IsAmong, is_among, children_at, children_of as kids_of}
use Rattle.adf_format.specs.Verdict.{ListsNodes}
use Rattle.adf_format.proofs.OrderLaws.{InOrder}
use Rattle.adf_format.proofs.PathLaws.{is_walked, child_of}
use Rattle.adf_format.proofs.Paths.{IsBefore}
use Rattle.adf_format.proofs.TreeLaws.{node_at-tree_of}
use Rattle.adf_model.proofs.Basics.{same_Some, not_there, not_true, or_parts, or_right, among_head}
use Rattle.adf_model.proofs.Trees.TreeOrder.{same_test}
use Rattle.adf_model.proofs.Trees.Renumbered.{live_within}
use Rattle.adf_model.proofs.Walks.WalkNames.{walk_sound}
use Rattle.layout_laws.proofs.FoundLayoutLaws.{laid_out}
use Rattle.layout_laws.proofs.FoundNodes.{child_found}
use Rattle.layout_laws.proofs.FreeStand.{no_fault}
use Rattle.layout_laws.proofs.GapsFound.{gaps_left, gaps_fill}
use Rattle.layout_laws.proofs.NodesStand.{among_at}
use Rattle.layout_laws.proofs.SameLayouts.{one_layout}
use Rattle.layout_lint.specs.declared.verdict.NodePlace.{NodePlace}
use Rattle.layout_lint.specs.Walks.{node_place}
use Rattle.layout_lint.proofs.PathLaws.{parent_above}
use Rattle.adf_repack.specs.Families.{is_under, children_of}

at_among : (xs : List ℕ) (s : ℕ) → IsAmong xs s → (i : ℕ) × (slice_get xs i ≡ Some s)
at_among [] s h = absurd (not_true h)
at_among (x ∷ xs) s h = elim (eqb_tells x s) [
  | inl e ↦ (0, ap Some e.1)
  | inr e ↦ (let r = at_among xs s (elim (or_parts (x == s) (is_among xs s) h) [ inl t ↦ absurd (not_true (sym e.0 ∙ t)) | inr t ↦ t ]) in (suc r.0, r.1))
]

-- ---- numbers that rise

abbrev pub IsRising : ℕ → ℕ → List ℕ → Type 0
IsRising a b [] = Unit {0}
IsRising a b (x ∷ xs) = (a ≤ x) × (x < b) × IsRising (x + 1) b xs

rising_low : (a b : ℕ) (xs : List ℕ) (x : ℕ) → IsRising a b xs → IsAmong xs x → a ≤ x
rising_low a b [] x h among = absurd (not_true among)
rising_low a b (y ∷ ys) x h among = elim (eqb_tells y x) [
  | inl e ↦ (let same = e.1 in let low = h.0 in omega (arith, same, low))
  | inr e ↦ (
      let rest = rising_low (y + 1) b ys x h.2 (elim (or_parts (y == x) (is_among ys x) among) [ inl t ↦ absurd (not_true (sym e.0 ∙ t)) | inr t ↦ t ]) in
      let low = h.0 in
      omega (arith, rest, low))
]

-- each lies in the bounds, and a later one is greater
rising_of : (xs : List ℕ) (a b : ℕ) → ((i x : ℕ) → slice_get xs i ≡ Some x → (a ≤ x) × (x < b)) → ((i j x y : ℕ) → i < j → slice_get xs i ≡ Some x → slice_get xs j ≡ Some y → x < y) → IsRising a b xs
rising_of [] a b each more = tt
rising_of (x ∷ xs) a b each more =
    let here = each 0 x refl in (
      here.0,
      here.1,
      rising_of xs (x + 1) b
          (λ i y e. (let less = more 0 (suc i) x y (omega arith) refl e in let high = each (suc i) y e in (omega (arith, less), high.1)))
          (λ i j y z lt e f. more (suc i) (suc j) y z (omega (arith, lt)) e f),
    )

none_here : (a n : ℕ) (xs : List ℕ) → n ≡ 0 → IsRising a (a + n) xs → xs ≡ []
none_here a n [] none h = refl
none_here a n (x ∷ xs) none h = let low = h.0 in let high = h.1 in absurd (omega (arith, none, low, high))

-- what holds of some numbers that rise and pass a test, as all of a range do that pass it
abbrev ArePassing : (ℕ → Bool) → ℕ → ℕ → List ℕ → Type 0
ArePassing test a b xs = IsRising a b xs × ((x : ℕ) → IsAmong xs x → test x ≡ true) × ((x : ℕ) → a ≤ x → x < b → test x ≡ true → IsAmong xs x)

module _ (test : ℕ → Bool) (a n : ℕ) (later : (xs : List ℕ) → ArePassing test (a + 1) (a + 1 + n) xs → filter test (range_with_len (a + 1) n) ≡ xs) where
  one_up : a + suc n ≡ a + 1 + n
  one_up = omega arith

  head_of : (y : ℕ) (ys : List ℕ) → IsRising a (a + suc n) (y ∷ ys) → IsAmong (y ∷ ys) a → y ≡ a
  head_of y ys h among = elim (eqb_tells y a) [
    | inl e ↦ e.1
    | inr e ↦ (
        let rest = rising_low (y + 1) (a + suc n) ys a h.2 (elim (or_parts (y == a) (is_among ys a) among) [ inl t ↦ absurd (not_true (sym e.0 ∙ t)) | inr t ↦ t ]) in
        let low = h.0 in
        absurd (omega (arith, rest, low)))
  ]

  behind : (y : ℕ) (ys : List ℕ) → y ≡ a → (x : ℕ) → IsAmong (y ∷ ys) x → a + 1 ≤ x → IsAmong ys x
  behind y ys is x among low = elim (or_parts (y == x) (is_among ys x) among) [
    | inl t ↦ elim (eqb_tells y x) [
      | inl e ↦ (let same = e.1 in absurd (omega (arith, same, is, low)))
      | inr e ↦ absurd (not_true (sym e.0 ∙ t))
    ]
    | inr t ↦ t
  ]

  one_test : (t : Bool) → test a ≡ t → (xs : List ℕ) → ArePassing test a (a + suc n) xs → filter test (range_with_len a (suc n)) ≡ xs
  one_test true e [] h = absurd (not_true (h.2 a (omega arith) (omega arith) e))
  one_test true e (y ∷ ys) h =
      let same : y ≡ a = head_of y ys h.0 (h.2 a (omega arith) (omega arith) e) in
      let rest : IsRising (a + 1) (a + 1 + n) ys = subst (λ (b : ℕ). IsRising (a + 1) b ys) one_up (subst (λ (c : ℕ). IsRising (c + 1) (a + suc n) ys) same h.0.2) in
      ap (λ (b : Bool). cond b (a ∷ filter test (range_with_len (a + 1) n)) (filter test (range_with_len (a + 1) n))) e
      ∙ ap (λ (l : List ℕ). a ∷ l) (later ys (
        rest,
        (λ x among. h.1 x (or_right (y == x) (is_among ys x) among)),
        (λ x low high t. behind y ys same x (h.2 x (omega (arith, low)) (omega (arith, high)) t) low),
      ))
      ∙ ap (λ (c : ℕ). c ∷ ys) (sym same)
  one_test false e [] h =
      ap (λ (b : Bool). cond b (a ∷ filter test (range_with_len (a + 1) n)) (filter test (range_with_len (a + 1) n))) e
      ∙ later [] (tt, h.1, (λ x low high t. h.2 x (omega (arith, low)) (omega (arith, high)) t))
  one_test false e (y ∷ ys) h =
      let head : test y ≡ true = h.1 y (among_head y ys) in
      let low = h.0.0 in
      let high = h.0.1 in
      let more : a + 1 ≤ y = elim (cases_lt a y) [
        | inl lt ↦ omega (arith, lt)
        | inr le ↦ (let same : y ≡ a = omega (arith, le, low) in absurd (not_true (sym e ∙ ap test (sym same) ∙ head)))
      ] in
      let rest : IsRising (a + 1) (a + 1 + n) (y ∷ ys) = (more, omega (arith, high), subst (λ (b : ℕ). IsRising (y + 1) b ys) one_up h.0.2) in
      ap (λ (b : Bool). cond b (a ∷ filter test (range_with_len (a + 1) n)) (filter test (range_with_len (a + 1) n))) e
      ∙ later (y ∷ ys) (rest, h.1, (λ x up down t. h.2 x (omega (arith, up)) (omega (arith, down)) t))

-- the numbers of a range that pass a test are these
pub kept_are : (test : ℕ → Bool) (a n : ℕ) (xs : List ℕ) → ArePassing test a (a + n) xs → filter test (range_with_len a n) ≡ xs
kept_are test a zero xs h = sym (none_here a 0 xs refl h.0)
kept_are test a (suc n) xs h = one_test test a n (λ ys g. kept_are test (a + 1) n ys g) (test a) refl xs h

-- ---- visits in order

in_order_to : (p : List ℕ) (vs : List Visit) (k : ℕ) (w : Visit) → AllByRecursion (λ (v : Visit). IsBefore p v.path) vs → slice_get vs k ≡ Some w → IsBefore p w.path
in_order_to p [] k w h e = absurd (not_there w e)
in_order_to p (v ∷ vs) zero w h e = subst (λ (u : Visit). IsBefore p u.path) (same_Some v w e) h.0
in_order_to p (v ∷ vs) (suc k) w h e = in_order_to p vs k w h.1 e

pub in_order_at : (vs : List Visit) (i j : ℕ) (u w : Visit) → InOrder IsBefore vs → i < j → slice_get vs i ≡ Some u → slice_get vs j ≡ Some w → IsBefore u.path w.path
in_order_at [] i j u w h lt e f = absurd (not_there u e)
in_order_at (v ∷ vs) i zero u w h lt e f = absurd (omega (arith, lt))
in_order_at (v ∷ vs) zero (suc j) u w h lt e f = subst (λ (x : Visit). IsBefore x.path w.path) (same_Some v u e) (in_order_to v.path vs j w h.0 f)
in_order_at (v ∷ vs) (suc i) (suc j) u w h lt e f = in_order_at vs i j u w h.1 (omega (arith, lt)) e f

pub not_before : (p : List ℕ) (i j : ℕ) → i ≤ j → IsBefore (p ++ j ∷ []) (p ++ i ∷ []) → ⊥
not_before [] i j le (inl lt) = omega (arith, le, lt)
not_before [] i j le (inr h) = h.1
not_before (a ∷ p) i j le (inl lt) = omega (arith, lt)
not_before (a ∷ p) i j le (inr h) = not_before p i j le h.1

last_same : (p : List ℕ) (i j : ℕ) → p ++ i ∷ [] ≡ p ++ j ∷ [] → i ≡ j
last_same [] i j e = ap (λ (l : List ℕ). get_or l 0 i) e
last_same (a ∷ p) i j e = last_same p i j (ap (λ (l : List ℕ). drop 1 l) e)

-- ---- the children of a node

module _ (image : List ℕ) (tree : Tree) (p : Placement) (l : LaysOut image tree p) (in_order : IsNumbered tree) where
  -- the tree is that of the visits
  tree_is : tree ≡ tree_of image (no_fault image tree p l).0
  tree_is =
      let n = no_fault image tree p l in
      let again = laid_out image n.0 n.1 (gaps_left image n.0 n.1 n.2) n.2 (gaps_fill image n.0 n.1 n.2) in
      sym in_order ∙ (one_layout image tree (tree_of image n.0) p _ l again).tree ∙ (walk_sound image n.0 n.1 n.2).1

  visit_there : (k i c : ℕ) → slice_get (children_at tree k) i ≡ Some c → (v : Visit) × (slice_get (no_fault image tree p l).0 k ≡ Some v)
  visit_there k i c e = by_visit (slice_get (no_fault image tree p l).0 k) refl
    where
      by_visit : (o : Option Visit) → slice_get (no_fault image tree p l).0 k ≡ o → (v : Visit) × (slice_get (no_fault image tree p l).0 k ≡ Some v)
      by_visit (Some v) g = (v, g)
      by_visit None g =
          let n = no_fault image tree p l in
          absurd (not_there c (sym (ap (λ (t : Tree). slice_get (children_at t k) i) tree_is ∙ ap (λ (o : Option Node). slice_get (kids_of o) i) (node_at-tree_of image n.0 k ∙ ap (option_map (node_of_visit image (is_wide image) n.0)) g)) ∙ e))

  kid_found : (k i c : ℕ) (v : Visit) → slice_get (no_fault image tree p l).0 k ≡ Some v → slice_get (children_at tree k) i ≡ Some c → slice_get (no_fault image tree p l).0 c ≡ Some (child_of image v i)
  kid_found k i c v g e =
      let n = no_fault image tree p l in
      let there : children_at tree k ≡ children_among image n.0 v = ap (λ (t : Tree). children_at t k) tree_is ∙ ap kids_of (node_at-tree_of image n.0 k ∙ ap (option_map (node_of_visit image (is_wide image) n.0)) g) in
      (child_found image n.0 (gaps_left image n.0 n.1 n.2) n.2.head n.2.node_walk k v g i c (ap (λ (xs : List ℕ). slice_get xs i) (sym there) ∙ e)).1

  -- a later child has a greater number
  later_greater : (k i j a b : ℕ) → i < j → slice_get (children_at tree k) i ≡ Some a → slice_get (children_at tree k) j ≡ Some b → a < b
  later_greater k i j a b lt e f =
      let n = no_fault image tree p l in
      let v = visit_there k i a e in
      let u = kid_found k i a v.0 v.1 e in
      let w = kid_found k j b v.0 v.1 f in
      let ordered = (is_walked image n.0 n.2.node_walk).ordered in
      elim (cases_lt a b) [
        | inl less ↦ less
        | inr le ↦ elim (cases_lt b a) [
          | inl before ↦ absurd (not_before v.0.path i j (omega (arith, lt)) (in_order_at n.0 b a (child_of image v.0 j) (child_of image v.0 i) ordered before w u))
          | inr ge ↦ (
              let same : a ≡ b = omega (arith, le, ge) in
              let one : child_of image v.0 i ≡ child_of image v.0 j = same_Some _ _ (sym u ∙ ap (slice_get n.0) same ∙ w) in
              let no = last_same v.0.path i j (ap (λ (x : Visit). x.path) one) in
              absurd (omega (arith, no, lt)))
        ]
      ]

  module _ (nodes : List NodePlace) (listed : ListsNodes tree p (map node_place nodes)) where
    parent_is : (k c : ℕ) → IsAmong (children_at tree k) c → c < length nodes → is_under k (slice_get nodes c) ≡ true
    parent_is k c among lt = by_node (slice_get nodes c) refl
      where
        by_node : (o : Option NodePlace) → slice_get nodes c ≡ o → is_under k o ≡ true
        by_node None e = absurd (missing c nodes e lt)
          where
            missing : (c : ℕ) (nodes : List NodePlace) → slice_get nodes c ≡ None → c < length nodes → ⊥
            missing c [] e lt = omega (arith, lt)
            missing zero (n ∷ ns) e lt = cc
            missing (suc c) (n ∷ ns) e lt = missing c ns e (omega (arith, lt))
        by_node (Some n) e =
            let at = at_among (children_at tree k) c among in
            let is : n.parent ≡ k = (listed.others k at.0 c (node_place n) at.1 (slice_get-map node_place nodes c ∙ ap (option_map node_place) e)).0 in
            ap (λ (q : ℕ). q == k) is ∙ same_test k

    count : length nodes ≡ length tree.nodes
    count = sym (length-map nodes node_place) ∙ listed.count

    parent_there : (k c : ℕ) → 1 ≤ c → is_under k (slice_get nodes c) ≡ true → IsAmong (children_at tree k) c
    parent_there k c some h = by_node (slice_get nodes c) refl
      where
        by_node : (o : Option NodePlace) → slice_get nodes c ≡ o → IsAmong (children_at tree k) c
        by_node None e = absurd (not_true (sym (ap (is_under k) e) ∙ h))
        by_node (Some n) e =
            let up = parent_above tree l.is_tree in_order p (map node_place nodes) listed c (node_place n) (slice_get-map node_place nodes c ∙ ap (option_map node_place) e) some in
            let is : n.parent ≡ k = elim (eqb_tells n.parent k) [ inl t ↦ t.1 | inr t ↦ absurd (not_true (sym t.0 ∙ (sym (ap (is_under k) e) ∙ h))) ] in
            among_at (children_at tree k) up.position c (subst (λ (q : ℕ). slice_get (children_at tree q) up.position ≡ Some c) is up.at)

    -- they are those of the list
    pub kids_are : (k : ℕ) → 0 < length nodes → children_of nodes k ≡ children_at tree k
    kids_are k some =
        let all = count in
        let to : 1 + (length nodes - 1) ≡ length nodes = omega (arith, some) in
        kept_are (λ c. is_under k (slice_get nodes c)) 1 (length nodes - 1) (children_at tree k) (
          subst (λ (b : ℕ). IsRising 1 b (children_at tree k)) (sym to) (rising_of (children_at tree k) 1 (length nodes)
              (λ i c e. (let live = l.is_tree.live k c (among_at (children_at tree k) i c e) in let inside = live_within tree.nodes c live.0 in let more = live.1 in (omega (arith, more), omega (arith, inside, all))))
              (later_greater k)),
          (λ c among. parent_is k c among (let live = l.is_tree.live k c among in let inside = live_within tree.nodes c live.0 in omega (arith, inside, all))),
          (λ c low high t. parent_there k c low t),
        )

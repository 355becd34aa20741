-- The nodes that a survey keeps stand in tree order; so the names on the way to a child are those on the way to its parent, and its own.
use Rattle.std.proofs.Common.{◌≡◌, ◌⊎◌, inl, inr, ℕ, zero, suc, refl, sym, ◌∙◌, ap, subst, arith, List, [], ◌∷◌, ◌++◌, map, ◌+◌, ◌<◌, ◌≤◌, Bool, true, false, cond, append_assoc, append-nil}
use Rattle.std.proofs.lemmas.Bool.Decides.{nat_tests, eqb_tells}
use Rattle.std.specs.Prelude.{Some, None, slice_get, ◌==◌, ◌&&◌}
use Rattle.std.specs.List.{AllByRecursion, range_with_len, flat_map}
use Rattle.adf_format.specs.Checks.{Row, Fault, Survey, surveyed, omits, keeps}
use Rattle.adf_format.specs.FirstFault.{Visit, child_visits, children_in}
use Rattle.adf_format.specs.SoundPart.{is_above, entry_names, names_to}
use Rattle.adf_format.proofs.OrderLaws.{InOrder}
use Rattle.adf_format.proofs.PathLaws.{child_of}
use Rattle.adf_format.proofs.Paths.{IsBefore}
use Rattle.adf_model.proofs.Basics.{same_Some, not_there}
use Rattle.salvage_laws.specs.Surveys.{NodeSurvey, Outcome}

-- ---- paths

-- p goes to an earlier child than q where they part
abbrev IsLeftOf : List ℕ → List ℕ → Type 0
IsLeftOf p [] = ⊥
IsLeftOf [] (j ∷ q) = ⊥
IsLeftOf (i ∷ p) (j ∷ q) = (i < j) ⊎ ((i ≡ j) × IsLeftOf p q)

left_before : (p q : List ℕ) → IsLeftOf p q → IsBefore p q
left_before p [] h = absurd h
left_before [] (j ∷ q) h = tt
left_before (i ∷ p) (j ∷ q) (inl h) = inl h
left_before (i ∷ p) (j ∷ q) (inr h) = inr (h.0, left_before p q h.1)

left_more : (p q r : List ℕ) → IsLeftOf p q → IsLeftOf (p ++ r) q
left_more p [] r h = absurd h
left_more [] (j ∷ q) r h = absurd h
left_more (i ∷ p) (j ∷ q) r (inl h) = inl h
left_more (i ∷ p) (j ∷ q) r (inr h) = inr (h.0, left_more p q r h.1)

left_children : (p : List ℕ) (i j : ℕ) → i < j → IsLeftOf (p ++ i ∷ []) (p ++ j ∷ [])
left_children [] i j h = inl h
left_children (a ∷ p) i j h = inr (refl, left_children p i j h)

before_child : (p : List ℕ) (i : ℕ) → IsBefore p (p ++ i ∷ [])
before_child [] i = tt
before_child (a ∷ p) i = inr (refl, before_child p i)

before_trans : (p q r : List ℕ) → IsBefore p q → IsBefore q r → IsBefore p r
before_trans p q [] h k = absurd k
before_trans [] q (c ∷ r) h k = tt
before_trans (a ∷ p) [] (c ∷ r) h k = absurd h
before_trans (a ∷ p) (b ∷ q) (c ∷ r) (inl h) (inl k) = inl (omega (arith, h, k))
before_trans (a ∷ p) (b ∷ q) (c ∷ r) (inl h) (inr k) = inl (let e : b ≡ c = k.0 in omega (arith, h, e))
before_trans (a ∷ p) (b ∷ q) (c ∷ r) (inr h) (inl k) = inl (let e : a ≡ b = h.0 in omega (arith, e, k))
before_trans (a ∷ p) (b ∷ q) (c ∷ r) (inr h) (inr k) = inr (h.0 ∙ k.0, before_trans p q r h.1 k.1)

-- ---- lists in order

-- R from one visit to each of a list
abbrev ToEach : (List ℕ → List ℕ → Type 0) → List ℕ → List Visit → Type 0
ToEach R p vs = AllByRecursion (λ (w : Visit). R p w.path) vs

to_each_append : (R : List ℕ → List ℕ → Type 0) (p : List ℕ) (vs ws : List Visit) → ToEach R p vs → ToEach R p ws → ToEach R p (vs ++ ws)
to_each_append R p [] ws h k = k
to_each_append R p (v ∷ vs) ws h k = (h.0, to_each_append R p vs ws h.1 k)

to_each_map : (R S : List ℕ → List ℕ → Type 0) (p q : List ℕ) (vs : List Visit) → ((r : List ℕ) → R p r → S q r) → ToEach R p vs → ToEach S q vs
to_each_map R S p q [] f h = tt
to_each_map R S p q (v ∷ vs) f h = (f v.path h.0, to_each_map R S p q vs f h.1)

-- each of vs to each of ws
abbrev Between : (List ℕ → List ℕ → Type 0) → List Visit → List Visit → Type 0
Between R vs ws = AllByRecursion (λ (v : Visit). ToEach R v.path ws) vs

in_order_append : (R : List ℕ → List ℕ → Type 0) (vs ws : List Visit) → InOrder R vs → InOrder R ws → Between R vs ws → InOrder R (vs ++ ws)
in_order_append R [] ws h k b = k
in_order_append R (v ∷ vs) ws h k b = (to_each_append R v.path vs ws h.0 b.0, in_order_append R vs ws h.1 k b.1)

between_append : (R : List ℕ → List ℕ → Type 0) (us vs ws : List Visit) → Between R us ws → Between R vs ws → Between R (us ++ vs) ws
between_append R [] vs ws h k = k
between_append R (u ∷ us) vs ws h k = (h.0, between_append R us vs ws h.1 k)

between_both : (R : List ℕ → List ℕ → Type 0) (us vs ws : List Visit) → Between R us vs → Between R us ws → Between R us (vs ++ ws)
between_both R [] vs ws h k = tt
between_both R (u ∷ us) vs ws h k = (to_each_append R u.path vs ws h.0 k.0, between_both R us vs ws h.1 k.1)

between_head : (R : List ℕ → List ℕ → Type 0) (us : List Visit) (v : Visit) (rest : List Visit) → Between R us (v ∷ rest) → Between R us (v ∷ [])
between_head R [] v rest h = tt
between_head R (u ∷ us) v rest h = ((h.0.0, tt), between_head R us v rest h.1)

between_tail : (R : List ℕ → List ℕ → Type 0) (us : List Visit) (v : Visit) (rest : List Visit) → Between R us (v ∷ rest) → Between R us rest
between_tail R [] v rest h = tt
between_tail R (u ∷ us) v rest h = (h.0.1, between_tail R us v rest h.1)

all_before : (seen : List Visit) (v : Visit) (rest : List Visit) → Between IsBefore seen (v ∷ rest) → AllByRecursion (λ (s : Visit). IsBefore s.path v.path) seen
all_before [] v rest h = tt
all_before (s ∷ seen) v rest h = (h.0.0, all_before seen v rest h.1)

-- what is kept stands in order before what is to be looked at
abbrev IsInOrder : List Visit → List Visit → Type 0
IsInOrder todo seen = InOrder IsBefore seen × Between IsBefore seen todo × InOrder IsLeftOf todo

-- ---- the children of a visit

module _ (image : List ℕ) (v : Visit) where
  abbrev kids : ℕ → ℕ → List Visit
  kids a n = map (child_of image v) (range_with_len a n)

  to_kids : (R : List ℕ → List ℕ → Type 0) (q : List ℕ) (a n : ℕ) → ((i : ℕ) → a ≤ i → R q (v.path ++ i ∷ [])) → ToEach R q (kids a n)
  to_kids R q a zero g = tt
  to_kids R q a (suc n) g = (g a (omega arith), to_kids R q (a + 1) n (λ i h. g i (omega (arith, h))))

  kids_ordered : (a n : ℕ) → InOrder IsLeftOf (kids a n)
  kids_ordered a zero = tt
  kids_ordered a (suc n) = (to_kids IsLeftOf (v.path ++ a ∷ []) (a + 1) n (λ i h. left_children v.path a i (omega (arith, h))), kids_ordered (a + 1) n)

  kids_to : (a n : ℕ) (rest : List Visit) → ToEach IsLeftOf v.path rest → Between IsLeftOf (kids a n) rest
  kids_to a zero rest h = tt
  kids_to a (suc n) rest h = (to_each_map IsLeftOf IsLeftOf v.path (v.path ++ a ∷ []) rest (λ r k. left_more v.path r (a ∷ []) k) h, kids_to (a + 1) n rest h)

  seen_to_kids : (a n : ℕ) (seen : List Visit) → AllByRecursion (λ (s : Visit). IsBefore s.path v.path) seen → Between IsBefore seen (kids a n)
  seen_to_kids a n [] h = tt
  seen_to_kids a n (s ∷ seen) h = (to_kids IsBefore s.path a n (λ i k. before_trans s.path v.path (v.path ++ i ∷ []) h.0 (before_child v.path i)), seen_to_kids a n seen h.1)

  one_more : (n : ℕ) (rest seen : List Visit) → IsInOrder (v ∷ rest) seen → IsInOrder (kids 0 n ++ rest) (seen ++ v ∷ [])
  one_more n rest seen h = (
    in_order_append IsBefore seen (v ∷ []) h.0 (tt, tt) (between_head IsBefore seen v rest h.1),
    between_append IsBefore seen (v ∷ []) (kids 0 n ++ rest)
        (between_both IsBefore seen (kids 0 n) rest (seen_to_kids 0 n seen (all_before seen v rest h.1)) (between_tail IsBefore seen v rest h.1))
        (to_each_append IsBefore v.path (kids 0 n) rest (to_kids IsBefore v.path 0 n (λ i k. before_child v.path i)) (to_each_map IsLeftOf IsBefore v.path v.path rest (λ r k. left_before v.path r k) h.2.0), tt),
    in_order_append IsLeftOf (kids 0 n) rest (kids_ordered 0 n) h.2.1 (kids_to 0 n rest h.2.0),
  )

module _ (image : List ℕ) (rules : List Visit → Visit → List Row) where
  survey_in_order : {todo kept : List Visit} {left : List (Visit × Fault)} {outcome : Outcome} → Survey rules (child_visits image) todo kept left outcome → IsInOrder todo kept → InOrder IsBefore outcome.0
  survey_in_order surveyed h = h.0
  survey_in_order (omits {item = v} {rest = rest} {kept = kept} e s) h = survey_in_order s (h.0, between_tail IsBefore kept v rest h.1, h.2.1)
  survey_in_order (keeps {item = v} {rest = rest} {kept = kept} e s) h = survey_in_order s (one_more image v (children_in image v.place) rest kept h)

-- the nodes that are kept stand in tree order
pub kept_in_order : (image : List ℕ) (kept : List Visit) (left : List (Visit × Fault)) → NodeSurvey image (kept, left) → InOrder IsBefore kept
kept_in_order image kept left s = survey_in_order image _ s (tt, tt, (tt, tt))

-- ---- paths above others

and_false : (b : Bool) → (b && false) ≡ false
and_false true = refl
and_false false = refl

same_true : (a : ℕ) → (a == a) ≡ true
same_true a = elim (eqb_tells a a) [ inl e ↦ e.0 | inr e ↦ absurd (e.1 refl) ]

less_false : (a b : ℕ) → a < b → (a == b) ≡ false
less_false a b lt = grind (arith, nat_tests, lt)

more_false : (a b : ℕ) → a < b → (b == a) ≡ false
more_false a b lt = grind (arith, nat_tests, lt)

above_child : (p : List ℕ) (i : ℕ) → is_above p (p ++ i ∷ []) ≡ true
above_child [] i = refl
above_child (a ∷ p) i = ap (λ b. b && is_above p (p ++ i ∷ [])) (same_true a) ∙ above_child p i

not_above_itself : (p : List ℕ) → is_above p p ≡ false
not_above_itself [] = refl
not_above_itself (a ∷ p) = ap (λ b. (a == a) && b) (not_above_itself p) ∙ and_false (a == a)

-- one that stands before a path is above its children exactly where it is above the path
above_before : (p q : List ℕ) (i : ℕ) → IsBefore p q → is_above p (q ++ i ∷ []) ≡ is_above p q
above_before p [] i h = absurd h
above_before [] (b ∷ q) i h = refl
above_before (a ∷ p) (b ∷ q) i (inl h) = ap (λ t. t && is_above p (q ++ i ∷ [])) (less_false a b h) ∙ ap (λ t. t && is_above p q) (sym (less_false a b h))
above_before (a ∷ p) (b ∷ q) i (inr h) = ap (λ t. (a == b) && t) (above_before p q i h.1)

-- one that stands behind it is above neither
not_above_child : (p q : List ℕ) (i : ℕ) → IsBefore q p → is_above p (q ++ i ∷ []) ≡ false
not_above_child [] q i h = absurd h
not_above_child (a ∷ p) [] i h = and_false (a == i)
not_above_child (a ∷ p) (b ∷ q) i (inl h) = ap (λ t. t && is_above p (q ++ i ∷ [])) (more_false b a h)
not_above_child (a ∷ p) (b ∷ q) i (inr h) = ap (λ t. (a == b) && t) (not_above_child p q i h.1) ∙ and_false (a == b)

not_above : (p q : List ℕ) → IsBefore q p → is_above p q ≡ false
not_above p [] h = refl
not_above [] (b ∷ q) h = absurd h
not_above (a ∷ p) (b ∷ q) (inl h) = ap (λ t. t && is_above p q) (more_false b a h)
not_above (a ∷ p) (b ∷ q) (inr h) = ap (λ t. (a == b) && t) (not_above p q h.1) ∙ and_false (a == b)

-- ---- the names on the way

-- the names of those above a path
abbrev above_names : List ℕ → List Visit → List (List ℕ)
above_names path kept = flat_map (λ (w : Visit). cond (is_above w.path path) (entry_names w.entry) []) kept

none_behind : (w : Visit) (i : ℕ) (vs : List Visit) → ToEach IsBefore w.path vs → (above_names (w.path ++ i ∷ []) vs ≡ []) × (above_names w.path vs ≡ [])
none_behind w i [] h = (refl, refl)
none_behind w i (v ∷ vs) h =
    let rest = none_behind w i vs h.1 in (
      ap (λ b. cond b (entry_names v.entry) [] ++ above_names (w.path ++ i ∷ []) vs) (not_above_child v.path w.path i h.0) ∙ rest.0,
      ap (λ b. cond b (entry_names v.entry) [] ++ above_names w.path vs) (not_above v.path w.path h.0) ∙ rest.1,
    )

before_at : (p : List ℕ) (vs : List Visit) (k : ℕ) (w : Visit) → ToEach IsBefore p vs → slice_get vs k ≡ Some w → IsBefore p w.path
before_at p [] k w h e = absurd (not_there w e)
before_at p (v ∷ vs) zero w h e = subst (λ (u : Visit). IsBefore p u.path) (same_Some v w e) h.0
before_at p (v ∷ vs) (suc k) w h e = before_at p vs k w h.1 e

names_above : (kept : List Visit) (k i : ℕ) (w : Visit) → InOrder IsBefore kept → slice_get kept k ≡ Some w → above_names (w.path ++ i ∷ []) kept ≡ above_names w.path kept ++ entry_names w.entry
names_above [] k i w h e = absurd (not_there w e)
names_above (v ∷ vs) zero i w h e =
    let same : v ≡ w = same_Some v w e in
    let rest = none_behind w i vs (subst (λ (u : Visit). ToEach IsBefore u.path vs) same h.0) in
    ap (λ (u : Visit). cond (is_above u.path (w.path ++ i ∷ [])) (entry_names u.entry) [] ++ above_names (w.path ++ i ∷ []) vs) same
    ∙ ap (λ b. cond b (entry_names w.entry) [] ++ above_names (w.path ++ i ∷ []) vs) (above_child w.path i)
    ∙ ap (λ xs. entry_names w.entry ++ xs) rest.0 ∙ append-nil (entry_names w.entry)
    ∙ sym (ap (λ (u : Visit). (cond (is_above u.path w.path) (entry_names u.entry) [] ++ above_names w.path vs) ++ entry_names w.entry) same
    ∙ ap (λ b. (cond b (entry_names w.entry) [] ++ above_names w.path vs) ++ entry_names w.entry) (not_above_itself w.path)
    ∙ ap (λ xs. xs ++ entry_names w.entry) rest.1)
names_above (v ∷ vs) (suc k) i w h e =
    ap (λ b. cond b (entry_names v.entry) [] ++ above_names (w.path ++ i ∷ []) vs) (above_before v.path w.path i (before_at v.path vs k w h.0 e))
    ∙ ap (λ xs. cond (is_above v.path w.path) (entry_names v.entry) [] ++ xs) (names_above vs k i w h.1 e)
    ∙ sym (append_assoc (cond (is_above v.path w.path) (entry_names v.entry) []) (above_names w.path vs) (entry_names w.entry))

-- the names on the way to a child are those on the way to its parent, and that of its own entry
pub names_below : (kept : List Visit) (k i : ℕ) (w v : Visit) → InOrder IsBefore kept → slice_get kept k ≡ Some w → v.path ≡ w.path ++ i ∷ [] → names_to kept v ≡ names_to kept w ++ entry_names v.entry
names_below kept k i w v h e is = ap (λ p. above_names p kept ++ entry_names v.entry) is ∙ ap (λ xs. xs ++ entry_names v.entry) (names_above kept k i w h e)

none_over : (vs : List Visit) → above_names [] vs ≡ []
none_over [] = refl
none_over (v ∷ vs) = none_over vs

-- no name leads to the root
pub names_to_root : (kept : List Visit) (v : Visit) → v.path ≡ [] → v.entry ≡ None → names_to kept v ≡ []
names_to_root kept v path entry = ap (λ p. above_names p kept ++ entry_names v.entry) path ∙ ap (λ xs. xs ++ entry_names v.entry) (none_over kept) ∙ ap entry_names entry

-- Families of which children wait: which children these are, and how many.
use Rattle.std.proofs.Common.{◌≡◌, inl, inr, ℕ, suc, ◌+◌, ◌-◌, ◌*◌, ◌<◌, ◌≤◌, List, [], ◌∷◌, ◌++◌, map, reverse, refl, sym, ◌∙◌, ap, subst, zero-add, arith, length, length-append, append_assoc, append-nil}
use Rattle.std.specs.Prelude.{Option, Some, None, slice_get}
use Rattle.std.specs.List.{All, range_with_len}
use Rattle.std.proofs.lemmas.Grind.{reverse_onto, flat_map-append}
use Rattle.std.proofs.lemmas.List.Elements.{All-nil, All-cons, All-head, All-tail, All-push}
use Rattle.std.proofs.lemmas.List.Sums.{sum_by-append}
use Rattle.adf_format.specs.Fields.{field}
use Rattle.adf_format.specs.Pointer.{place_of}
use Rattle.adf_format.proofs.FieldLaws.{inner_field}
use Rattle.layout_laws.specs.NodePass.{Waiting, waiting_child, waiting_children}
use Rattle.layout_lint.specs.declared.node.Met.{Met}
use Rattle.layout_lint.specs.declared.stack.Family.{Family}
use Rattle.layout_lint.specs.Walks.{waiting_of, IsDone, TakesFrom, TakesNext, family_waiting, waiting_in, left_of, left_in, IsOpen, AreStepped}
use Rattle.layout_lint.proofs.ShapeLaws.{get_cases, get_kept}

left_first : (f : Family) (fs : List Family) → left_in (f ∷ fs) ≡ left_of f + left_in fs
left_first f fs = sum_by-append left_of (f ∷ []) fs ∙ ap (λ n. n + left_in fs) (zero-add (left_of f))

-- one child further
abbrev pub further : Family → Family
further f = record { number = f.number; depth = f.depth; table = f.table; children = f.children; next = f.next + 1 }

-- what a taking answers
pub took_some : (old new : List Family) (o : Option Family) (family : Family) → o ≡ Some family → TakesNext old new o → TakesFrom family old new
took_some old new o family is took = subst (TakesNext old new) is took

pub took_none : (old new : List Family) (o : Option Family) → o ≡ None → TakesNext old new o → All IsDone old × (new ≡ [])
took_none old new o is took = subst (TakesNext old new) is took

-- ---- families that are done

family_done : (image : List ℕ) (f : Family) → IsDone f → family_waiting image f ≡ []
family_done image f h = let none : f.children - f.next ≡ 0 = omega (arith, h) in ap (λ n. reverse (map (waiting_child image f.table.place f.number (f.depth + 1)) (range_with_len f.next n))) none

pub none_waits : (image : List ℕ) (fs : List Family) → All IsDone fs → waiting_in image fs ≡ []
none_waits image [] h = refl
none_waits image (f ∷ fs) h = ap (λ xs. xs ++ waiting_in image fs) (family_done image f (All-head IsDone f fs h)) ∙ none_waits image fs (All-tail IsDone f fs h)

pub none_left : (fs : List Family) → All IsDone fs → left_in fs ≡ 0
none_left [] h = refl
none_left (f ∷ fs) h = let first : f.children ≤ f.next = All-head IsDone f fs h in let rest = none_left fs (All-tail IsDone f fs h) in let sum = left_first f fs in omega (arith, first, rest, sum)

-- ---- a child is taken

family_next : (image : List ℕ) (f : Family) → f.next < f.children → family_waiting image f ≡ family_waiting image (further f) ++ waiting_child image f.table.place f.number (f.depth + 1) f.next ∷ []
family_next image f lt =
    let g : ℕ → Waiting = waiting_child image f.table.place f.number (f.depth + 1) in
    let count : f.children - f.next ≡ suc (f.children - (f.next + 1)) = omega (arith, lt) in
    ap (λ n. reverse (map g (range_with_len f.next n))) count ∙ reverse_onto (map g (range_with_len (f.next + 1) (f.children - (f.next + 1)))) (g f.next) []

pub one_waits : (image : List ℕ) (family : Family) (old new : List Family) → TakesFrom family old new
    → waiting_in image old ≡ waiting_in image new ++ waiting_child image family.table.place family.number (family.depth + 1) family.next ∷ []
one_waits image family old new t =
    let child : List Waiting = waiting_child image family.table.place family.number (family.depth + 1) family.next ∷ [] in
    ap (waiting_in image) t.was ∙ flat_map-append (family_waiting image) t.base (family ∷ t.done)
    ∙ ap (λ xs. waiting_in image t.base ++ (family_waiting image family ++ xs)) (none_waits image t.done t.all_done)
    ∙ ap (λ xs. waiting_in image t.base ++ xs) (append-nil (family_waiting image family) ∙ family_next image family t.waits)
    ∙ sym (append_assoc (waiting_in image t.base) (family_waiting image (further family)) child)
    ∙ ap (λ xs. xs ++ child) (sym (ap (waiting_in image) t.now ∙ flat_map-append (family_waiting image) t.base (further family ∷ []) ∙ ap (λ xs. waiting_in image t.base ++ xs) (append-nil (family_waiting image (further family)))))

pub one_less : (family : Family) (old new : List Family) → TakesFrom family old new → left_in old ≡ left_in new + 1
one_less family old new t =
    let before = ap left_in t.was ∙ sum_by-append left_of t.base (family ∷ t.done) in
    let after = ap left_in t.now ∙ sum_by-append left_of t.base (further family ∷ []) in
    let none = none_left t.done t.all_done in
    let waits = t.waits in
    let first = left_first family t.done in
    let last = left_first (further family) [] in
    omega (arith, before, after, none, waits, first, last)

-- ---- what holds of all families

all_front : {A : Type 0} (P : A → Type 0) (xs ys : List A) → All P (xs ++ ys) → All P xs
all_front P [] ys h = All-nil P
all_front P (x ∷ xs) ys h = All-cons P x xs (All-head P x (xs ++ ys) h) (all_front P xs ys (All-tail P x (xs ++ ys) h))

all_back : {A : Type 0} (P : A → Type 0) (xs ys : List A) → All P (xs ++ ys) → All P ys
all_back P [] ys h = h
all_back P (x ∷ xs) ys h = all_back P xs ys (All-tail P x (xs ++ ys) h)

pub of_taken : (P : Family → Type 0) (family : Family) (old new : List Family) → TakesFrom family old new → All P old → P family
of_taken P family old new t h = All-head P family t.done (all_back P t.base (family ∷ t.done) (subst (All P) t.was h))

pub of_rest : (P : Family → Type 0) (family : Family) (old new : List Family) → TakesFrom family old new → (P family → P (further family)) → All P old → All P new
of_rest P family old new t keeps h =
    subst (All P) (sym t.now) (All-push P t.base (further family) (all_front P t.base (family ∷ t.done) (subst (All P) t.was h)) (keeps (of_taken P family old new t h)))

pub open_further : (end : ℕ) (f : Family) → IsOpen end f → IsOpen end (further f)
open_further end f o = record { shallow = o.shallow; within = o.within }

-- ---- a family more

pub family_waits : (image : List ℕ) (f : Family) (old new : List Family) → f.next ≡ 0 → new ≡ old ++ f ∷ [] → waiting_in image new ≡ waiting_in image old ++ reverse (waiting_children image f.table.place f.number (f.depth + 1) f.children)
family_waits image f old new start pushed =
    let g : ℕ → Waiting = waiting_child image f.table.place f.number (f.depth + 1) in
    let all : f.children - f.next ≡ f.children = omega (arith, start) in
    ap (waiting_in image) pushed ∙ flat_map-append (family_waiting image) old (f ∷ []) ∙ ap (λ xs. waiting_in image old ++ xs) (append-nil (family_waiting image f)
    ∙ ap (λ n. reverse (map g (range_with_len f.next n))) all ∙ ap (λ k. reverse (map g (range_with_len k f.children))) start)

pub so_many_more : (f : Family) (old new : List Family) → f.next ≡ 0 → new ≡ old ++ f ∷ [] → left_in new ≡ left_in old + f.children
so_many_more f old new start pushed = let sum = ap left_in pushed ∙ sum_by-append left_of old (f ∷ []) in let last = left_first f [] in omega (arith, sum, last, start)

-- ---- a family stands above as many others as its node lies deep

get_mid : {A : Type 0} (xs : List A) (y : A) (ys : List A) → slice_get (xs ++ y ∷ ys) (length xs) ≡ Some y
get_mid [] y ys = refl
get_mid (x ∷ xs) y ys = get_mid xs y ys

module _ (family : Family) (old new : List Family) (t : TakesFrom family old new) (stepped : AreStepped old) where
  height : family.depth ≡ length t.base
  height = stepped (length t.base) family (ap (λ fs. slice_get fs (length t.base)) t.was ∙ get_mid t.base family t.done)

  pub stepped_taken : AreStepped new
  stepped_taken = λ k f is. elim (get_cases t.base (further family) f k (ap (λ fs. slice_get fs k) (sym t.now) ∙ is)) [
    | inl e ↦ stepped k f (ap (λ fs. slice_get fs k) t.was ∙ get_kept t.base (family ∷ t.done) f k e)
    | inr e ↦ ap (λ (g : Family). g.depth) (sym e.1) ∙ (height ∙ sym e.0)
  ]

  pub deep_taken : family.depth + 1 ≡ length new
  deep_taken = let count = ap length t.now ∙ length-append t.base (further family ∷ []) in let deep = height in omega (arith, count, deep)

pub stepped_open : (f : Family) (old new : List Family) → AreStepped old → new ≡ old ++ f ∷ [] → f.depth ≡ length old → AreStepped new
stepped_open f old new stepped pushed deep = λ k g is. elim (get_cases old f g k (ap (λ fs. slice_get fs k) (sym pushed) ∙ is)) [
  | inl e ↦ stepped k g e
  | inr e ↦ ap (λ (h : Family). h.depth) (sym e.1) ∙ (deep ∙ sym e.0)
]

pub few_open : (f : Family) (old new : List Family) (depth : ℕ) → new ≡ old ++ f ∷ [] → depth ≡ length old → depth ≤ 255 → length new ≤ 256
few_open f old new depth pushed deep near = let count = ap length pushed ∙ length-append old (f ∷ []) in omega (arith, count, deep, near)

-- ---- its entry

-- the child that an entry names
pub child_read : (image : List ℕ) (t number depth i at : ℕ) (bytes : List ℕ) (m : Met) → at ≡ t + 16 + 44 * i → bytes ≡ field image at 44
    → waiting_of m ≡ record { place = place_of (field bytes 32 12); entry = Some (field bytes 0 32); parent = number; position = i; depth = depth } → waiting_of m ≡ waiting_child image t number depth i
child_read image t number depth i at bytes m place is said = said
    ∙ ap (λ (b : List ℕ). record { place = place_of (field b 32 12); entry = Some (field b 0 32); parent = number; position = i; depth = depth }) is
    ∙ ap (λ (p : List ℕ). record { place = place_of p; entry = Some (field (field image at 44) 0 32); parent = number; position = i; depth = depth }) pointer
    ∙ ap (λ (n : List ℕ). record { place = place_of (field image (t + 48 + 44 * i) 12); entry = Some n; parent = number; position = i; depth = depth }) name
  where
    name : field (field image at 44) 0 32 ≡ field image (t + 16 + 44 * i) 32
    name = inner_field image at 44 0 32 (omega arith) ∙ ap (λ o. field image o 32) (omega arith)

    pointer : field (field image at 44) 32 12 ≡ field image (t + 48 + 44 * i) 12
    pointer = inner_field image at 44 32 12 (omega arith) ∙ ap (λ o. field image o 12) (omega arith)

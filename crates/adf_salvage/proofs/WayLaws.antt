-- Ways to nodes that are kept, and what is told of those that are left out.
use Rattle.std.proofs.Common.{◌≡◌, inl, inr, ℕ, zero, suc, ◌+◌, ◌<◌, ◌≤◌, List, [], ◌∷◌, ◌++◌, map, length, take, refl, sym, ◌∙◌, ap, subst, arith, length-append}
use Rattle.std.specs.Prelude.{Some, slice_get}
use Rattle.std.proofs.lemmas.List.{map-append, take_all}
use Rattle.adf_format.specs.Checks.{Fault}
use Rattle.adf_format.specs.Fields.{trimmed}
use Rattle.adf_format.specs.FirstFault.{Visit}
use Rattle.adf_format.specs.SoundPart.{names_to, entry_names}
use Rattle.adf_format.proofs.OrderLaws.{InOrder}
use Rattle.adf_format.proofs.Paths.{IsBefore}
use Rattle.adf_model.proofs.Basics.{same_Some, not_there}
use Rattle.layout_laws.specs.NodePass.{Waiting, IsMet, AreMet}
use Rattle.layout_lint.specs.declared.stack.Family.{Family}
use Rattle.layout_lint.proofs.ShapeLaws.{get_cases, get_kept, get_last}
use Rattle.salvage_laws.specs.Surveys.{visits_of}
use Rattle.salvage_laws.proofs.SurveyOrder.{names_below, names_to_root}
use Rattle.adf_salvage.specs.declared.list.Left.{Left}
use Rattle.adf_salvage.specs.LeftOut.{way_text, left_of}
use Rattle.adf_salvage.specs.Surveys.{IsWayTo, to_root, to_child, AreWays, IsTold, AreTold}

-- ---- more nodes are kept

pub way_later : (kept more : List Waiting) {number : ℕ} {names : List (List ℕ)} → IsWayTo kept number names → IsWayTo (kept ++ more) number names
way_later kept more (to_root {number = number} {m = m} at none top) = to_root (get_kept kept more m number at) none top
way_later kept more (to_child {number = number} {m = m} at entry below way) = to_child (get_kept kept more m number at) entry below (way_later kept more way)

told_one : (kept more : List Waiting) (m : Waiting) (fault : Fault) (left : Left) → IsTold kept m fault left → IsTold (kept ++ more) m fault left
told_one kept more m fault left t = record { name = t.name; names = t.names; entry = t.entry; below = t.below; way = way_later kept more t.way; path = t.path; rule = t.rule; place = t.place }

pub told_later : (kept more out : List Waiting) (faults : List (Visit × Fault)) (left : List Left) → AreTold kept out faults left → AreTold (kept ++ more) out faults left
told_later kept more [] [] [] h = tt
told_later kept more [] [] (l ∷ left) h = absurd h
told_later kept more [] (o ∷ faults) left h = absurd h
told_later kept more (m ∷ out) [] left h = absurd h
told_later kept more (m ∷ out) (o ∷ faults) [] h = absurd h
told_later kept more (m ∷ out) (o ∷ faults) (l ∷ left) h = (told_one kept more m o.1 l h.0, told_later kept more out faults left h.1)

-- ---- one more is left out

pub told_then : (kept out : List Waiting) (faults : List (Visit × Fault)) (left : List Left) (m : Waiting) (v : Visit) (fault : Fault) (l : Left) → AreTold kept out faults left → IsTold kept m fault l
    → AreTold kept (out ++ m ∷ []) (faults ++ (v, fault) ∷ []) (left ++ l ∷ [])
told_then kept [] [] [] m v fault l h t = (t, tt)
told_then kept [] [] (k ∷ left) m v fault l h t = absurd h
told_then kept [] (o ∷ faults) left m v fault l h t = absurd h
told_then kept (n ∷ out) [] left m v fault l h t = absurd h
told_then kept (n ∷ out) (o ∷ faults) [] m v fault l h t = absurd h
told_then kept (n ∷ out) (o ∷ faults) (k ∷ left) m v fault l h t = (h.0, told_then kept out faults left m v fault l h.1 t)

-- ---- the names on the way

take_first : {A : Type 0} (k : ℕ) (xs ys : List A) → k ≤ length xs → take k (xs ++ ys) ≡ take k xs
take_first zero xs ys le = refl
take_first (suc k) [] ys le = absurd (omega (arith, le))
take_first (suc k) (x ∷ xs) ys le = ap (λ zs. x ∷ zs) (take_first k xs ys (omega (arith, le)))

take_taken : {A : Type 0} (k n : ℕ) (xs : List A) → k ≤ n → take k (take n xs) ≡ take k xs
take_taken zero n xs le = refl
take_taken (suc k) zero xs le = absurd (omega (arith, le))
take_taken (suc k) (suc n) [] le = refl
take_taken (suc k) (suc n) (x ∷ xs) le = ap (λ zs. x ∷ zs) (take_taken k n xs (omega (arith, le)))

-- the first ways are those of the first families
pub ways_first : (kept : List Waiting) (base rest : List Family) (f g : Family) (names : List (List ℕ)) → AreWays kept (base ++ f ∷ rest) names → g.number ≡ f.number → AreWays kept (base ++ g ∷ []) (take (length base) names)
ways_first kept base rest f g names ways number k h at = elim (get_cases base g h k at) [
  | inl e ↦ subst (λ ns. IsWayTo kept h.number (map trimmed ns)) (sym (take_taken k (length base) names (within base k h e))) (ways k h (get_kept base (f ∷ rest) h k e))
  | inr e ↦ subst (λ n. IsWayTo kept n (map trimmed (take k (take (length base) names)))) (sym number ∙ ap (λ (x : Family). x.number) e.1)
      (subst (λ ns. IsWayTo kept f.number (map trimmed ns)) (sym (take_taken k (length base) names (let same = e.0 in omega (arith, same))))
      (subst (λ j. IsWayTo kept f.number (map trimmed (take j names))) (sym e.0) (ways (length base) f (middle base))))
]
  where
    within : (xs : List Family) (k : ℕ) (h : Family) → slice_get xs k ≡ Some h → k ≤ length xs
    within [] k h e = absurd (not_there h e)
    within (x ∷ xs) zero h e = omega arith
    within (x ∷ xs) (suc k) h e = let r = within xs k h e in omega (arith, r)

    middle : (xs : List Family) → slice_get (xs ++ f ∷ rest) (length xs) ≡ Some f
    middle [] = refl
    middle (x ∷ xs) = middle xs

-- and the way to the node of the last one
pub way_last : (kept : List Waiting) (base rest : List Family) (f : Family) (names : List (List ℕ)) → AreWays kept (base ++ f ∷ rest) names → IsWayTo kept f.number (map trimmed (take (length base) names))
way_last kept base rest f names ways = ways (length base) f (middle base)
  where
    middle : (xs : List Family) → slice_get (xs ++ f ∷ rest) (length xs) ≡ Some f
    middle [] = refl
    middle (x ∷ xs) = middle xs

-- one more node is kept, and its family waits
pub ways_then : (kept : List Waiting) (families : List Family) (names : List (List ℕ)) (m : Waiting) (name : List ℕ) (f : Family) → AreWays kept families names → length families ≡ length names + 1
    → m.entry ≡ Some name → 0 < m.depth → IsWayTo kept m.parent (map trimmed names) → f.number ≡ length kept → AreWays (kept ++ m ∷ []) (families ++ f ∷ []) (names ++ name ∷ [])
ways_then kept families names m name f ways many entry below way number k g at = elim (get_cases families f g k at) [
  | inl e ↦ subst (λ ns. IsWayTo (kept ++ m ∷ []) g.number (map trimmed ns)) (sym (take_first k names (name ∷ []) (let w = within families k g e in omega (arith, w, many)))) (way_later kept (m ∷ []) (ways k g e))
  | inr e ↦ subst (λ n. IsWayTo (kept ++ m ∷ []) n (map trimmed (take k (names ++ name ∷ [])))) (sym number ∙ ap (λ (x : Family). x.number) e.1)
      (subst (λ ns. IsWayTo (kept ++ m ∷ []) (length kept) (map trimmed ns)) (sym (take_all k (names ++ name ∷ []) (let s = e.0 in let l = length-append names (name ∷ []) in omega (arith, s, l, many))))
      (subst (λ ns. IsWayTo (kept ++ m ∷ []) (length kept) ns) (sym (map-append trimmed names (name ∷ []))) (to_child (get_last kept m) entry below (way_later kept (m ∷ []) way))))
]
  where
    within : (xs : List Family) (k : ℕ) (h : Family) → slice_get xs k ≡ Some h → k < length xs
    within [] k h e = absurd (not_there h e)
    within (x ∷ xs) zero h e = omega arith
    within (x ∷ xs) (suc k) h e = let r = within xs k h e in omega (arith, r)

-- ---- the ways as the definition has them

met_at : (seen : List Visit) (kept : List Waiting) (vs : List Visit) (k : ℕ) (m : Waiting) → AreMet seen kept vs → slice_get kept k ≡ Some m → (v : Visit) × (slice_get vs k ≡ Some v) × IsMet seen m v
met_at seen [] vs k m h e = absurd (not_there m e)
met_at seen (n ∷ kept) [] k m h e = absurd h
met_at seen (n ∷ kept) (v ∷ vs) zero m h e = (v, refl, subst (λ (x : Waiting). IsMet seen x v) (same_Some n m e) h.0)
met_at seen (n ∷ kept) (v ∷ vs) (suc k) m h e = met_at seen kept vs k m h.1 e

-- a visit below the root has its parent among the nodes
parent_of : (seen : List Visit) (m : Waiting) (v : Visit) → IsMet seen m v → 0 < m.depth → (u : Visit) × (slice_get seen m.parent ≡ Some u) × (v.path ≡ u.path ++ m.position ∷ [])
parent_of seen m v met below = elim met.linked [
  | inl root ↦ absurd (let none = ap length root.0 in let deep = met.depth in omega (arith, none, deep, below))
  | inr r ↦ r
]

module _ (seen : List Visit) (kept : List Waiting) (ordered : InOrder IsBefore seen) (found : AreMet seen kept seen) where
  names_of : {number : ℕ} {names : List (List ℕ)} → IsWayTo kept number names → (w : Visit) → slice_get seen number ≡ Some w → names_to seen w ≡ names
  names_of (to_root {number = number} {m = m} at none top) w here =
      let met = met_at seen kept seen number m found at in
      let same : met.0 ≡ w = same_Some met.0 w (sym met.1 ∙ here) in
      names_to_root seen w (empty w.path (ap (λ (x : Visit). length x.path) (sym same) ∙ sym met.2.depth ∙ top)) (ap (λ (x : Visit). x.entry) (sym same) ∙ sym met.2.entry ∙ none)
    where
      empty : (p : List ℕ) → length p ≡ 0 → p ≡ []
      empty [] e = refl
      empty (x ∷ p) e = absurd (omega (arith, e))
  names_of (to_child {number = number} {m = m} {name = name} {names = names} at entry below way) w here =
      let met = met_at seen kept seen number m found at in
      let same : met.0 ≡ w = same_Some met.0 w (sym met.1 ∙ here) in
      let up = parent_of seen m met.0 met.2 below in
      let path : w.path ≡ up.0.path ++ m.position ∷ [] = ap (λ (x : Visit). x.path) (sym same) ∙ up.2 in
      let own : w.entry ≡ Some name = ap (λ (x : Visit). x.entry) (sym same) ∙ sym met.2.entry ∙ entry in
      names_below seen m.parent m.position up.0 w ordered up.1 path ∙ ap (λ xs. xs ++ entry_names w.entry) (names_of way up.0 up.1) ∙ ap (λ o. names ++ entry_names o) own

  told_so : (m : Waiting) (v : Visit) (fault : Fault) (l : Left) → IsMet seen m v → IsTold kept m fault l → l ≡ left_of seen (v, fault)
  told_so m v fault l met t =
      let up = parent_of seen m v met t.below in
      let own : v.entry ≡ Some t.name = sym met.entry ∙ t.entry in
      let names : names_to seen v ≡ t.names ++ trimmed t.name ∷ [] =
      names_below seen m.parent m.position up.0 v ordered up.1 up.2 ∙ ap (λ xs. xs ++ entry_names v.entry) (names_of t.way up.0 up.1) ∙ ap (λ o. t.names ++ entry_names o) own in
      same_left l (way_text (names_to seen v)) fault.rule fault.place (t.path ∙ ap way_text (sym names)) t.rule t.place
    where
      same_left : (l : Left) (path : List ℕ) (rule place : ℕ) → l.path ≡ path → l.rule ≡ rule → l.place ≡ place → l ≡ record { path = path; rule = rule; place = place }
      same_left l path rule place e f g = ap (λ p. record { path = p; rule = l.rule; place = l.place }) e ∙ ap (λ r. record { path = path; rule = r; place = l.place }) f ∙ ap (λ n. record { path = path; rule = rule; place = n }) g

  -- the nodes that are left out are told as the definition has them
  pub all_told : (out : List Waiting) (faults : List (Visit × Fault)) (left : List Left) → AreMet seen out (visits_of faults) → AreTold kept out faults left → left ≡ map (left_of seen) faults
  all_told [] [] [] met told = refl
  all_told [] [] (l ∷ left) met told = absurd told
  all_told [] (o ∷ faults) left met told = absurd told
  all_told (m ∷ out) [] left met told = absurd told
  all_told (m ∷ out) (o ∷ faults) [] met told = absurd told
  all_told (m ∷ out) (o ∷ faults) (l ∷ left) met told = ap (λ x. x ∷ left) (told_so m o.0 o.1 l met.0 told.0) ∙ ap (λ xs. left_of seen o ∷ xs) (all_told out faults left met.1 told.1)

-- Places that name their visits one by one list the visits of a walk.
use Rattle.std.proofs.Common.{◌≡◌, ◌⊎◌, inl, inr, ℕ, refl, sym, ◌∙◌, ap, arith, List, [], ◌∷◌, ◌++◌, length, drop, get_or, length-append}
use Rattle.std.specs.Prelude.{Some, slice_get}
use Rattle.adf_format.specs.FirstFault.{Visit, FreeVisit, HasNoFault, root_visit}
use Rattle.adf_format.specs.SoundPart.{visit_number}
use Rattle.adf_format.specs.Verdict.{NodePlace}
use Rattle.adf_format.proofs.PathLaws.{IsWalked, is_walked}
use Rattle.adf_format.proofs.TreeLaws.{number_of-path}
use Rattle.adf_model.proofs.Basics.{same_Some}
use Rattle.layout_laws.specs.FoundLayout.{ListsVisits, NamesVisit}

longer : {P : Type 0} (p : List ℕ) (i : ℕ) → [] ≡ p ++ i ∷ [] → P
longer p i e = absurd (let l : 0 ≡ length (p ++ i ∷ []) = ap length e in let m = length-append p (i ∷ []) in omega (arith, l, m))

-- a path's last position, and what is before it
last_same : (p q : List ℕ) (i j : ℕ) → p ++ i ∷ [] ≡ q ++ j ∷ [] → (p ≡ q) × (i ≡ j)
last_same [] [] i j e = (refl, ap (λ xs. get_or xs 0 i) e)
last_same [] (b ∷ q) i j e = longer q j (ap (drop 1) e)
last_same (a ∷ p) [] i j e = longer p i (sym (ap (drop 1) e))
last_same (a ∷ p) (b ∷ q) i j e =
    let rest = last_same p q i j (ap (drop 1) e) in
    (ap (λ x. x ∷ p) (ap (λ xs. get_or xs 0 a) e) ∙ ap (λ xs. b ∷ xs) rest.0, rest.1)

module _ (image : List ℕ) (visits : List Visit) (frees : List FreeVisit) (places : List NodePlace) (h : HasNoFault image visits frees) (count : length places ≡ length visits)
    (each : (k : ℕ) (v : Visit) (n : NodePlace) → slice_get visits k ≡ Some v → slice_get places k ≡ Some n → NamesVisit visits v n) where
  walked : IsWalked image visits
  walked = is_walked image visits h.node_walk

  pub visits_listed : ListsVisits visits places
  visits_listed = record {
    count = count;
    each = λ k v n e f. (let r = each k v n e f in (r.place, r.depth));
    root = λ n f. at_root n (each 0 (root_visit image) n walked.root f).linked;
    others = λ j k i u v n e f g path. below j i u v n e path (each k v n f g).linked;
  }
    where
      at_root : (n : NodePlace) → (((root_visit image).path ≡ []) × (n.parent ≡ 0) × (n.position ≡ 0)) ⊎ ((u : Visit) × (slice_get visits n.parent ≡ Some u) × ((root_visit image).path ≡ u.path ++ n.position ∷ [])) → (n.parent ≡ 0) × (n.position ≡ 0)
      at_root n (inl r) = (r.1, r.2)
      at_root n (inr r) = longer r.0.path n.position r.2

      below : (j i : ℕ) (u v : Visit) (n : NodePlace) → slice_get visits j ≡ Some u → v.path ≡ u.path ++ i ∷ [] → ((v.path ≡ []) × (n.parent ≡ 0) × (n.position ≡ 0)) ⊎ ((w : Visit) × (slice_get visits n.parent ≡ Some w) × (v.path ≡ w.path ++ n.position ∷ [])) → (n.parent ≡ j) × (n.position ≡ i)
      below j i u v n e path (inl r) = longer u.path i (sym r.0 ∙ path)
      below j i u v n e path (inr r) =
          let s = last_same r.0.path u.path n.position i (sym r.2 ∙ path) in
          (same_Some n.parent j (sym (number_of-path visits n.parent r.0 walked.ordered r.1) ∙ ap (visit_number visits) s.0 ∙ number_of-path visits j u walked.ordered e), s.1)

-- The steps of the code that collects the extents of the nodes.
use Rattle.std.proofs.Common.{◌≡◌, ℕ, suc, sym, ◌∙◌, ap, subst, arith, List, [], ◌∷◌, ◌++◌, length, map, get_or, take, drop, append_assoc, append-nil, drop-cons, ◌+◌, ◌<◌, ◌≤◌, Bool, false}
use Rattle.std.proofs.lemmas.List.{map-append, take_more, take_all}
use Rattle.std.proofs.lemmas.List.Elements.{All-append, All-map}
use Rattle.std.specs.Prelude.{Option, Some, None, IfSome}
use Rattle.std.specs.List.{All}
use Rattle.adf_format.specs.declared.types.Extent.{Extent}
use Rattle.adf_format.specs.Fields.{field}
use Rattle.adf_format.specs.Checks.{Fault, first_broken}
use Rattle.adf_format.specs.Tiles.{total_length}
use Rattle.adf_format.specs.FirstFault.{node_rows_at}
use Rattle.layout_lint.specs.declared.look.Next.{Next}
use Rattle.layout_lint.specs.declared.node.Met.{Met}
use Rattle.layout_lint.specs.declared.owners.Owned.{Owned}
use Rattle.layout_lint.specs.declared.verdict.Halt.{Halt}
use Rattle.layout_lint.specs.declared.verdict.Halt.TheVariants as halt
use Rattle.layout_lint.specs.Halts.{IsWant, IsNoFault, Breaks, fault}
use Rattle.layout_lint.specs.Nodes.{extents_at, LeadsTo}
use Rattle.layout_lint.specs.Owners.{owned_by, owned_from, IsThere, name_of, KeepRules, IsNoLayout, refusal_of}

pub want_no_fault : (h : Halt) → IsWant h → IsNoFault h
want_no_fault (halt.Broken b) w = absurd w
want_no_fault halt.Memory w = tt
want_no_fault halt.Read w = absurd w

pub no_layout : (h : Halt) → IsNoFault h → IsNoLayout (refusal_of h)
no_layout (halt.Broken b) k = absurd k
no_layout halt.Memory k = tt
no_layout halt.Read k = tt

-- extents of one owner that is there
pub there_more : (count : ℕ) (items new : List Owned) (owner : Option ℕ) (es : List Extent) → IfSome owner (λ number. number < count) → new ≡ items ++ owned_by owner es → All (IsThere count) items → All (IsThere count) new
there_more count items new owner es there added all = subst (All (IsThere count)) (sym added)
    (All-append (IsThere count) items (owned_by owner es) all (All-map (IsThere count) (λ (e : Extent). record { extent = e; owner = owner }) es (λ k d lt. there)))

module _ (image : List ℕ) (wide : Bool) (end : ℕ) (places : List ℕ) (k : ℕ) (lt : k < length places) (met : Met) (is : met ≡ record { place = get_or places k 0; entry = None; parent = 0; position = 0; depth = 0 }) where
  ahead : drop k places ≡ get_or places k 0 ∷ drop (k + 1) places
  ahead = drop-cons places k 0 lt ∙ ap (λ i. get_or places k 0 ∷ drop i places) (shift k)
    where
      shift : (k : ℕ) → suc k ≡ k + 1
      shift k = omega arith

  module _ (used : ℕ) (keep : KeepRules image wide end used (drop k places)) where
    split : KeepRules image wide end used (get_or places k 0 ∷ drop (k + 1) places)
    split = subst (KeepRules image wide end used) ahead keep

    -- the next node breaks no rule
    pub no_fault_here : (h : Halt) → Breaks (node_rows_at image wide end false used met.place met.entry met.depth) h → IsNoFault h
    no_fault_here (halt.Broken b) breaks = clash (first_broken (node_rows_at image wide end false used (get_or places k 0) None 0)) split.0
        (subst (λ (m : Met). first_broken (node_rows_at image wide end false used m.place m.entry m.depth) ≡ Some (fault b)) is breaks)
      where
        clash : (o : Option Fault) → o ≡ None → o ≡ Some (fault b) → ⊥
        clash o p q = cc
    no_fault_here halt.Memory breaks = tt
    no_fault_here halt.Read breaks = tt

    -- and those behind it keep theirs
    pub keep_behind : (next : Next) → LeadsTo image wide used met.place next → KeepRules image wide end next.used (drop (k + 1) places)
    keep_behind next leads = subst (λ n. KeepRules image wide end n (drop (k + 1) places)) (sym (leads.spent ∙ ap (λ (m : Met). used + total_length (extents_at image wide m.place)) is)) split.1

  -- its extents are added
  pub added_here : (all items new : List Owned) (es : List Extent) → all ≡ items ++ owned_from image wide k (drop k places) → es ≡ extents_at image wide met.place → new ≡ items ++ owned_by (Some k) es
      → all ≡ new ++ owned_from image wide (k + 1) (drop (k + 1) places)
  added_here all items new es before here added =
      before ∙ ap (λ ps. items ++ owned_from image wide k ps) ahead
      ∙ ap (λ xs. items ++ (owned_by (Some k) xs ++ owned_from image wide (k + 1) (drop (k + 1) places))) (sym (here ∙ ap (λ (m : Met). extents_at image wide m.place) is))
      ∙ sym (append_assoc items (owned_by (Some k) es) (owned_from image wide (k + 1) (drop (k + 1) places)))
      ∙ ap (λ xs. xs ++ owned_from image wide (k + 1) (drop (k + 1) places)) (sym added)

  -- and its name
  pub name_more : (old mid new : List (List ℕ)) (name : List ℕ) → mid ≡ old ++ map (name_of image) (take k places) → new ≡ mid ++ name ∷ [] → name ≡ field image (met.place + 4) 32 → new ≡ old ++ map (name_of image) (take (k + 1) places)
  name_more old mid new name before pushed named =
      let here : name ≡ name_of image (get_or places k 0) = named ∙ ap (λ (m : Met). field image (m.place + 4) 32) is in
      let longer : map (name_of image) (take (k + 1) places) ≡ map (name_of image) (take k places) ++ name_of image (get_or places k 0) ∷ [] = ap (map (name_of image)) (take_more places k 0 lt) ∙ map-append (name_of image) (take k places) (get_or places k 0 ∷ []) in
      pushed ∙ ap (λ ns. ns ++ name ∷ []) before ∙ append_assoc old (map (name_of image) (take k places)) (name ∷ []) ∙ ap (λ n. old ++ (map (name_of image) (take k places) ++ n ∷ [])) here ∙ ap (λ ns. old ++ ns) (sym longer)

-- ---- the names of all

pub names_none : (image : List ℕ) (places : List ℕ) (old : List (List ℕ)) → old ≡ old ++ map (name_of image) (take 0 places)
names_none image places old = sym (append-nil old)

pub names_all : (image : List ℕ) (places : List ℕ) (k : ℕ) (old new : List (List ℕ)) → length places ≤ k → new ≡ old ++ map (name_of image) (take k places) → new ≡ old ++ map (name_of image) places
names_all image places k old new all is = is ∙ ap (λ ps. old ++ map (name_of image) ps) (take_all k places all)

-- The walk over the free lists of a layout meets exactly its free chunks, and none breaks a rule.
use Rattle.std.proofs.Common.{◌≡◌, ◌⊎◌, inl, inr, ℕ, refl, sym, ◌∙◌, ap, subst, arith, List, [], ◌∷◌, ◌++◌, map, filter, get_or, drop, append_assoc, append-nil, ◌+◌, ◌-◌, ◌<◌, ◌≤◌, true, false, cond, not}
use Rattle.std.proofs.lemmas.Bool.Decides.{nat_tests, leb_tells, eqb_tells}
use Rattle.std.specs.Prelude.{Option, Some, None, Ok, Err, Result, nat_le, nat_lt, ◌&&◌, ◌||◌, ◌==◌, ⊤, codes}
use Rattle.std.specs.List.{AllByRecursion, list_any}
use Rattle.adf_format.specs.Pointer.{To, pointer, is_pointer, is_pointer_value, is_place, is_place_value, place_of}
use Rattle.adf_format.specs.Fields.{field, holds}
use Rattle.adf_format.specs.declared.types.Extent.{Extent}
use Rattle.adf_format.specs.Tiles.{cover, holds_byte, end_of, total_length, is_free}
use Rattle.adf_format.specs.Tree.{Tree, tree_order}
use Rattle.adf_format.specs.Parts.{SpellsFree, HasPointer}
use Rattle.adf_format.specs.Placement.{Placement, head_extents, live_extents, all_extents}
use Rattle.adf_format.specs.LaysOut.{LaysOut, IsThreaded, first_place, last_place}
use Rattle.adf_format.specs.Checks.{Fault, first_broken, Walk, finished, stopped, passed}
use Rattle.adf_format.specs.FirstFault.{Visit, FreeVisit, FreeWalk, free_rows, next_free, free_extent, first_frees, visits_through, chunk_length, fits, is_pointer_to, last_at, found_extents, extents_found, is_misplaced, HasNoFault, is_wide, free_rows_at}
use Rattle.adf_format.proofs.FaultLaws.{free_walk_ends}
use Rattle.adf_format.proofs.FieldLaws.{inner_field}
use Rattle.adf_format.proofs.HeapSteps.{cover-append}
use Rattle.adf_format.proofs.LayoutLaws.{unused_byte}
use Rattle.adf_format.proofs.SameLayout.{end_recorded, wide_recorded}
use Rattle.adf_format.proofs.WalkLaws.{total_length-append}
use Rattle.adf_model.proofs.Basics.{not_there, or_right, false_of}
use Rattle.adf_model.proofs.Walks.WalkNodes.{Kept}
use Rattle.layout_laws.proofs.Frames.{frame_out}
use Rattle.layout_laws.proofs.HeadRules.{head_unbroken}
use Rattle.layout_laws.proofs.NodesStand.{AreStanding, nodes_stand, found_sum, order_live, cover_all, at_most_once, all_long}
use Rattle.layout_laws.proofs.Ranges.{same_cover, same_total, cover-filter, total-filter}
use Rattle.layout_laws.proofs.Rows.{kept_none, both, of_le, holds_of, points_place, points_to, pointer_to_of, fits_of, room_of}
use Rattle.layout_laws.proofs.VisitExtents.{head_holds, first_byte, last_byte_held}

-- ---- lists that remain

abbrev pub Remaining : Type 0
Remaining = List (ℕ × List Extent)

abbrev pub heads : Remaining → List FreeVisit
heads [] = []
heads ((k, []) ∷ rest) = heads rest
heads ((k, f ∷ fs) ∷ rest) = record { place = f.place; list = k } ∷ heads rest

abbrev pub all_of : Remaining → List Extent
all_of [] = []
all_of ((k, fs) ∷ rest) = fs ++ all_of rest

-- the visits meet these free chunks
abbrev pub AreFree : List ℕ → List FreeVisit → List Extent → Type 0
AreFree image [] [] = ⊤
AreFree image (v ∷ vs) (f ∷ fs) = (v.place ≡ f.place) × (chunk_length image v.place ≡ f.length) × AreFree image vs fs
AreFree image [] (f ∷ fs) = ⊥
AreFree image (v ∷ vs) [] = ⊥

free-append : (image : List ℕ) (vs : List FreeVisit) (fs : List Extent) (v : FreeVisit) (f : Extent) → AreFree image vs fs → v.place ≡ f.place → chunk_length image v.place ≡ f.length → AreFree image (vs ++ v ∷ []) (fs ++ f ∷ [])
free-append image [] [] v f h e g = (e, g, tt)
free-append image [] (x ∷ fs) v f h e g = absurd h
free-append image (w ∷ vs) [] v f h e g = absurd h
free-append image (w ∷ vs) (x ∷ fs) v f h e g = (h.0, h.1, free-append image vs fs v f h.2 e g)

pub free_cover : (image : List ℕ) (vs : List FreeVisit) (fs : List Extent) (b : ℕ) → AreFree image vs fs → cover (map (free_extent image) vs) b ≡ cover fs b
free_cover image [] [] b h = refl
free_cover image [] (f ∷ fs) b h = absurd h
free_cover image (v ∷ vs) [] b h = absurd h
free_cover image (v ∷ vs) (f ∷ fs) b h =
    ap (λ n. (cond (nat_le n b && nat_lt b (n + chunk_length image v.place)) 1 0) + cover (map (free_extent image) vs) b) h.0
    ∙ ap (λ n. (cond (nat_le f.place b && nat_lt b (f.place + n)) 1 0) + cover (map (free_extent image) vs) b) h.1
    ∙ ap (λ n. (cond (nat_le f.place b && nat_lt b (f.place + f.length)) 1 0) + n) (free_cover image vs fs b h.2)

pub free_total : (image : List ℕ) (vs : List FreeVisit) (fs : List Extent) → AreFree image vs fs → total_length (map (free_extent image) vs) ≡ total_length fs
free_total image [] [] h = refl
free_total image [] (f ∷ fs) h = absurd h
free_total image (v ∷ vs) [] h = absurd h
free_total image (v ∷ vs) (f ∷ fs) h = ap (λ n. n + total_length (map (free_extent image) vs)) h.1 ∙ ap (λ n. f.length + n) (free_total image vs fs h.2)

-- the field names the last chunk, if there is one
abbrev pub NamesLast : List ℕ → ℕ → List Extent → Type 0
NamesLast image k fs = (n : ℕ) → last_place fs ≡ Some n → pointer (field image (last_at k) 12) ≡ Some (To n)

abbrev pub AreThreaded : List ℕ → Remaining → Type 0
AreThreaded image [] = ⊤
AreThreaded image ((k, fs) ∷ rest) = IsThreaded image fs × NamesLast image k fs × AreThreaded image rest

pub through : (image : List ℕ) (offset k : ℕ) (fs : List Extent) → HasPointer image offset (first_place fs) → visits_through (field image offset 12) k ≡ heads ((k, fs) ∷ [])
through image offset k [] h = ap (λ o. cond (is_place_value o) (record { place = place_of (field image offset 12); list = k } ∷ []) []) h
through image offset k (f ∷ fs) h =
    ap (λ b. cond b (record { place = place_of (field image offset 12); list = k } ∷ []) []) (points_place (field image offset 12) f.place h)
    ∙ ap (λ n. record { place = n; list = k } ∷ []) (points_to (field image offset 12) f.place h)

heads-append : (k : ℕ) (fs : List Extent) (rest : Remaining) → heads ((k, fs) ∷ []) ++ heads rest ≡ heads ((k, fs) ∷ rest)
heads-append k [] rest = refl
heads-append k (f ∷ fs) rest = refl

module _ (image : List ℕ) (tree : Tree) (p : Placement) (l : LaysOut image tree p) where
  abbrev end : ℕ
  end = p.heap.end

  abbrev lists : List Extent
  lists = l.threads.small ++ l.threads.medium ++ l.threads.large

  -- ---- what the lists cover

  pub lists_cover : (b : ℕ) → cover lists b ≡ cover (filter is_free p.heap.gaps) b
  lists_cover b = same_cover lists (filter is_free p.heap.gaps) b l.threads.all

  cover_gaps : (b : ℕ) → cover lists b ≤ cover p.heap.gaps b
  cover_gaps b = let same = lists_cover b in let few = cover-filter is_free p.heap.gaps b in omega (arith, same, few)

  lists_once : (b : ℕ) → cover lists b ≤ 1
  lists_once b = let a = cover_gaps b in let c = cover_all image tree p l b in let d = at_most_once image tree p l b in omega (arith, a, c, d)

  lists_long : 266 + total_length (live_extents tree.wide p) + total_length lists ≤ end + 1
  lists_long =
      let same = same_total lists (filter is_free p.heap.gaps) l.threads.all in
      let few = total-filter is_free p.heap.gaps in
      let all = all_long image tree p l in
      omega (arith, same, few, all)

  free_low : (f : Extent) → 0 < f.length → ((b : ℕ) → holds_byte f b ≡ true → 1 ≤ cover lists b) → 266 ≤ f.place
  free_low f some covers = by_place (leb_tells 266 f.place)
    where
      by_place : ((nat_le 266 f.place ≡ true) × (266 ≤ f.place)) ⊎ ((nat_le 266 f.place ≡ false) × (f.place < 266)) → 266 ≤ f.place
      by_place (inl k) = k.1
      by_place (inr k) =
          let lt = k.1 in
          let a = head_holds f.place lt in
          let b = covers f.place (first_byte f some) in
          let g = cover_gaps f.place in
          let c = cover_all image tree p l f.place in
          let d = at_most_once image tree p l f.place in
          absurd (omega (arith, a, b, g, c, d))

  free_high : (f : Extent) → 0 < f.length → ((b : ℕ) → holds_byte f b ≡ true → 1 ≤ cover lists b) → end_of f ≤ end + 1
  free_high f some covers = by_end (leb_tells (end_of f) (end + 1))
    where
      at_end : (b : ℕ) → b + 1 ≡ end_of f → end < b → ⊥
      at_end b same lt =
          let one = covers b (last_byte_held f some b same) in
          let none : cover (all_extents tree.wide p) b ≡ 0 = l.tiles.inside b lt in
          let g = cover_gaps b in
          let c = cover_all image tree p l b in
          omega (arith, one, none, g, c)

      by_end : ((nat_le (end_of f) (end + 1) ≡ true) × (end_of f ≤ end + 1)) ⊎ ((nat_le (end_of f) (end + 1) ≡ false) × (end + 1 < end_of f)) → end_of f ≤ end + 1
      by_end (inl k) = k.1
      by_end (inr k) = let lt = k.1 in absurd (at_end (end_of f - 1) (omega (arith, lt)) (omega (arith, lt)))

  -- ---- one free chunk

  not_met : (vs : List FreeVisit) (fs : List Extent) (f : Extent) (place : ℕ) → place ≡ f.place → AreFree image vs fs → AllByRecursion (λ (x : Extent). 32 ≤ x.length) fs → cover fs f.place ≡ 0 → list_any (λ (w : FreeVisit). w.place == place) vs ≡ false
  not_met [] [] f place e h long c = refl
  not_met [] (x ∷ fs) f place e h long c = absurd h
  not_met (v ∷ vs) [] f place e h long c = absurd h
  not_met (v ∷ vs) (x ∷ fs) f place e h long c =
      ap (λ b. b || list_any (λ (w : FreeVisit). w.place == place) vs) (false_of (v.place == place) clash) ∙ not_met vs fs f place e h.2 long.1 (omega (arith, c))
    where
      clash : (v.place == place) ≡ true → ⊥
      clash t =
          let same : x.place ≡ f.place = sym h.0 ∙ number (v.place) place t ∙ e in
          let some = long.0 in
          let one : holds_byte x f.place ≡ true = subst (λ n. holds_byte x n ≡ true) same (first_byte x (omega (arith, some))) in
          let two : 1 + cover fs f.place ≡ 0 = ap (λ t. cond t 1 0 + cover fs f.place) (sym one) ∙ c in
          omega (arith, two)
        where
          number : (a b : ℕ) → (a == b) ≡ true → a ≡ b
          number a b t = grind (arith, nat_tests)

  free_kept : (nodes : ℕ) (seen : List FreeVisit) (done : List Extent) (v : FreeVisit) (f : Extent) (fs : List Extent) → AreFree image seen done → AllByRecursion (λ (x : Extent). 32 ≤ x.length) done → v.place ≡ f.place
      → SpellsFree (field image f.place f.length) f.place f.length (first_place fs) → NamesLast image v.list (f ∷ fs) → 266 ≤ f.place → end_of f ≤ end + 1 → cover done f.place ≡ 0 → 266 + nodes + total_length done + f.length ≤ end + 1
      → (chunk_length image v.place ≡ f.length) × HasPointer image (v.place + 16) (first_place fs) × Kept (free_rows image end nodes seen v)
  unfolding free_rows_at
  free_kept nodes seen done v f fs met longs e s last low high apart room =
      let long = s.long in
      let frame = frame_out image f.place f.length (f.place + f.length - 4) (codes "FreE") (codes "EndC") (omega (arith, long)) refl s.framed in
      let points : pointer (field image (v.place + 4) 12) ≡ Some (To (f.place + f.length - 4)) = ap (λ n. pointer (field image (n + 4) 12)) e ∙ frame.points in
      let tail : place_of (field image (v.place + 4) 12) ≡ f.place + f.length - 4 = points_to (field image (v.place + 4) 12) (f.place + f.length - 4) points in
      let size : chunk_length image v.place ≡ f.length = size_is v.place f.place f.length (place_of (field image (v.place + 4) 12)) e long tail in
      let next : HasPointer image (v.place + 16) (first_place fs) = next_pointer (first_place fs) long s.next_pointer in
      let total = free_total image seen done met in (
        size,
        next,
        (
          both (not (list_any (λ (w : FreeVisit). w.place == v.place) seen) && fits end v.place 32) (holds image v.place (codes "FreE"))
              (both (not (list_any (λ (w : FreeVisit). w.place == v.place) seen)) (fits end v.place 32) (ap not (not_met seen done f v.place e met longs apart)) (fits_of end v.place 32 (omega (arith, low, e)) (omega (arith, high, e, long))))
              (holds_of image v.place (codes "FreE") (ap (λ n. field image n 4) e ∙ frame.starts)),
          (
            both (is_place (field image (v.place + 4) 12) && nat_le (v.place + 32) (place_of (field image (v.place + 4) 12) + 4)) (nat_le (place_of (field image (v.place + 4) 12) + 4) (end + 1))
                (both (is_place (field image (v.place + 4) 12)) (nat_le (v.place + 32) (place_of (field image (v.place + 4) 12) + 4)) (points_place (field image (v.place + 4) 12) _ points) (of_le (v.place + 32) (place_of (field image (v.place + 4) 12) + 4) (omega (arith, tail, e, long))))
                (of_le (place_of (field image (v.place + 4) 12) + 4) (end + 1) (omega (arith, tail, long, high))),
            (
              some_pointer (first_place fs) next,
              (
                holds_of image (place_of (field image (v.place + 4) 12)) (codes "EndC") (ap (λ n. field image n 4) tail ∙ frame.ends),
                (room_of end (266 + nodes + total_length (map (free_extent image) seen)) (chunk_length image v.place) (omega (arith, room, total, size)), (at_last fs next last, tt)),
              ),
            ),
          ),
        ),
      )
    where
      size_is : (a b n t : ℕ) → a ≡ b → 32 ≤ n → t ≡ b + n - 4 → t + 4 - a ≡ n
      size_is a b n t e h k = omega (arith, e, h, k)

      there : (a : ℕ) → a + 16 ≡ a + 16
      there a = refl

      next_pointer : (o : Option ℕ) → 32 ≤ f.length → HasPointer (field image f.place f.length) 16 o → HasPointer image (v.place + 16) o
      next_pointer None long h = ap (λ n. pointer (field image (n + 16) 12)) e ∙ ap pointer (sym (inner_field image f.place f.length 16 12 (omega (arith, long)))) ∙ h
      next_pointer (Some n) long h = ap (λ n. pointer (field image (n + 16) 12)) e ∙ ap pointer (sym (inner_field image f.place f.length 16 12 (omega (arith, long)))) ∙ h

      some_pointer : (o : Option ℕ) → HasPointer image (v.place + 16) o → is_pointer (field image (v.place + 16) 12) ≡ true
      some_pointer None h = ap is_pointer_value h
      some_pointer (Some n) h = ap is_pointer_value h

      at_last : (gs : List Extent) → HasPointer image (v.place + 16) (first_place gs) → NamesLast image v.list (f ∷ gs) → (is_place (field image (v.place + 16) 12) || is_pointer_to (field image (last_at v.list) 12) v.place) ≡ true
      at_last [] h k = or_right (is_place (field image (v.place + 16) 12)) (is_pointer_to (field image (last_at v.list) 12) v.place) (pointer_to_of (field image (last_at v.list) 12) v.place (k f.place refl ∙ ap (λ n. Some (To n)) (sym e)))
      at_last (g ∷ gs) h k = ap (λ b. b || is_pointer_to (field image (last_at v.list) 12) v.place) (points_place (field image (v.place + 16) 12) g.place h)

  -- ---- the walk

  abbrev Done : Result (List FreeVisit) Fault → Type 0
  Done (Ok frees) = AreFree image frees lists
  Done (Err fault) = ⊥

  -- what remains begins with a free chunk, behind empty lists
  record Next (todo : List FreeVisit) (rem : Remaining) : Type 0 where
    k : ℕ
    f : Extent
    fs : List Extent
    rest : Remaining
    all : all_of rem ≡ f ∷ (fs ++ all_of rest)
    first : todo ≡ record { place = f.place; list = k } ∷ heads rest
    spelled : SpellsFree (field image f.place f.length) f.place f.length (first_place fs)
    last : NamesLast image k (f ∷ fs)
    threaded : AreThreaded image ((k, fs) ∷ rest)

  nothing_left : (rem : Remaining) → [] ≡ heads rem → all_of rem ≡ []
  nothing_left [] e = refl
  nothing_left ((k, []) ∷ rest) e = nothing_left rest e
  nothing_left ((k, f ∷ fs) ∷ rest) e = cc

  names_rest : (k : ℕ) (f : Extent) (fs : List Extent) → NamesLast image k (f ∷ fs) → NamesLast image k fs
  names_rest k f [] h n e = absurd (not_there n e)
  names_rest k f (g ∷ gs) h n e = h n e

  next_left : (v : FreeVisit) (todo : List FreeVisit) (rem : Remaining) → v ∷ todo ≡ heads rem → AreThreaded image rem → Next (v ∷ todo) rem
  next_left v todo [] e h = cc
  next_left v todo ((k, []) ∷ rest) e h =
      let r = next_left v todo rest e h.2 in
      record { k = r.k; f = r.f; fs = r.fs; rest = r.rest; all = r.all; first = r.first; spelled = r.spelled; last = r.last; threaded = r.threaded }
  next_left v todo ((k, f ∷ fs) ∷ rest) e h =
      record { k = k; f = f; fs = fs; rest = rest; all = refl; first = e; spelled = h.0.0; last = h.1; threaded = (h.0.1, names_rest k f fs h.1, h.2) }

  abbrev AllLong : List Extent → Type 0
  AllLong xs = AllByRecursion (λ (x : Extent). 32 ≤ x.length) xs

  long-append : (xs : List Extent) (f : Extent) → AllLong xs → 32 ≤ f.length → AllLong (xs ++ f ∷ [])
  long-append [] f h k = (k, tt)
  long-append (x ∷ xs) f h k = (h.0, long-append xs f h.1 k)

  module _ (nodes : ℕ) (nodes_long : nodes ≡ total_length (live_extents tree.wide p)) where
    -- the rules of the next free chunk, and what it leads to
    record Step (seen : List FreeVisit) (v : FreeVisit) (todo : List FreeVisit) (done : List Extent) (rem : Remaining) : Type 0 where
      f : Extent
      after : Remaining
      place : v.place ≡ f.place
      size : chunk_length image v.place ≡ f.length
      long : 32 ≤ f.length
      kept : Kept (free_rows image end nodes seen v)
      leads : next_free image v ++ todo ≡ heads after
      threaded : AreThreaded image after
      all : (done ++ f ∷ []) ++ all_of after ≡ lists

    step : (seen : List FreeVisit) (v : FreeVisit) (todo : List FreeVisit) (done : List Extent) (rem : Remaining) → v ∷ todo ≡ heads rem → AreFree image seen done → AllLong done → AreThreaded image rem → done ++ all_of rem ≡ lists → Step seen v todo done rem
    step seen v todo done rem e met longs th all =
        let n = next_left v todo rem e th in
        let f = n.f in
        let item : v ≡ record { place = n.f.place; list = n.k } = ap (λ xs. get_or xs 0 v) n.first in
        let others : todo ≡ heads n.rest = ap (drop 1) n.first in
        let place : v.place ≡ n.f.place = ap (λ (w : FreeVisit). w.place) item in
        let number : v.list ≡ n.k = ap (λ (w : FreeVisit). w.list) item in
        let whole : done ++ (n.f ∷ (n.fs ++ all_of n.rest)) ≡ lists = ap (λ xs. done ++ xs) (sym n.all) ∙ all in
        let covered : (b : ℕ) → cover lists b ≡ cover done b + cover (n.f ∷ (n.fs ++ all_of n.rest)) b = λ b. ap (λ xs. cover xs b) (sym whole) ∙ cover-append done (n.f ∷ (n.fs ++ all_of n.rest)) b in
        let holds : (b : ℕ) → holds_byte n.f b ≡ true → cover lists b ≡ cover done b + (1 + cover (n.fs ++ all_of n.rest) b) = λ b h. covered b ∙ ap (λ t. cover done b + (cond t 1 0 + cover (n.fs ++ all_of n.rest) b)) h in
        let long = n.spelled.long in
        let some : 0 < n.f.length = omega (arith, long) in
        let covers : (b : ℕ) → holds_byte n.f b ≡ true → 1 ≤ cover lists b = λ b h. at_least (cover lists b) (cover done b) (cover (n.fs ++ all_of n.rest) b) (holds b h) in
        let once = lists_once n.f.place in
        let here = holds n.f.place (first_byte n.f some) in
        let apart : cover done n.f.place ≡ 0 = none_else (cover lists n.f.place) (cover done n.f.place) (cover (n.fs ++ all_of n.rest) n.f.place) here once in
        let total = ap total_length (sym whole) ∙ total_length-append done (n.f ∷ (n.fs ++ all_of n.rest)) in
        let most = lists_long in
        let room = roomy nodes (total_length (live_extents tree.wide p)) (total_length lists) (total_length done) n.f.length (total_length (n.fs ++ all_of n.rest)) end nodes_long total most in
        let k = free_kept nodes seen done v n.f n.fs met longs place n.spelled (subst (λ i. NamesLast image i (n.f ∷ n.fs)) (sym number) n.last) (free_low n.f some covers) (free_high n.f some covers) apart room in
        record {
          f = n.f;
          after = (n.k, n.fs) ∷ n.rest;
          place = place;
          size = k.0;
          long = long;
          kept = k.2;
          leads = ap (λ xs. xs ++ todo) (through image (v.place + 16) v.list n.fs k.1 ∙ ap (λ i. heads ((i, n.fs) ∷ [])) number) ∙ ap (λ xs. heads ((n.k, n.fs) ∷ []) ++ xs) others ∙ heads-append n.k n.fs n.rest;
          threaded = n.threaded;
          all = append_assoc done (n.f ∷ []) (n.fs ++ all_of n.rest) ∙ whole;
        }
      where
        at_least : (a b c : ℕ) → a ≡ b + (1 + c) → 1 ≤ a
        at_least a b c e = omega (arith, e)

        none_else : (a b c : ℕ) → a ≡ b + (1 + c) → a ≤ 1 → b ≡ 0
        none_else a b c e h = omega (arith, e, h)

        roomy : (nodes live listed done n rest last : ℕ) → nodes ≡ live → listed ≡ done + (n + rest) → 266 + live + listed ≤ last + 1 → 266 + nodes + done + n ≤ last + 1
        roomy nodes live listed done n rest last a b c = omega (arith, a, b, c)

    walks : {todo seen : List FreeVisit} {outcome : Result (List FreeVisit) Fault} → Walk (free_rows image end nodes) (next_free image) todo seen outcome → (rem : Remaining) (done : List Extent) → todo ≡ heads rem → AreFree image seen done → AllLong done → AreThreaded image rem → done ++ all_of rem ≡ lists → Done outcome
    walks (finished {seen = seen}) rem done e met longs th all = subst (AreFree image seen) (sym (append-nil done) ∙ ap (λ xs. done ++ xs) (sym (nothing_left rem e)) ∙ all) met
    walks (stopped {item = item} {rest = rest} {seen = seen} {fault = fault} x) rem done e met longs th all =
        let s = step seen item rest done rem e met longs th all in
        none_some (first_broken (free_rows image end nodes seen item)) fault x (kept_none (free_rows image end nodes seen item) s.kept)
      where
        none_some : (o : Option Fault) (x : Fault) → o ≡ Some x → o ≡ None → ⊥
        none_some o x p q = cc
    walks (passed {item = item} {rest = rest} {seen = seen} x w) rem done e met longs th all =
        let s = step seen item rest done rem e met longs th all in
        walks w s.after (done ++ s.f ∷ []) s.leads (free-append image seen done item s.f met s.place s.size) (long-append done s.f longs s.long) s.threaded s.all

  -- ---- from the first chunks

  in_free_table : (o : ℕ) (x : Option ℕ) → o + 12 ≤ 80 → HasPointer (field image 186 80) o x → HasPointer image (186 + o) x
  in_free_table o None le h = ap pointer (sym (inner_field image 186 80 o 12 le)) ∙ h
  in_free_table o (Some n) le h = ap pointer (sym (inner_field image 186 80 o 12 le)) ∙ h

  names_last : (k o : ℕ) (fs : List Extent) → 186 + o ≡ last_at k → o + 12 ≤ 80 → HasPointer (field image 186 80) o (last_place fs) → NamesLast image k fs
  names_last k o fs e le h n last = ap (λ i. pointer (field image i 12)) (sym e) ∙ in_free_table o (Some n) le (subst (λ x. HasPointer (field image 186 80) o x) last h)

  abbrev begin : Remaining
  begin = (0, l.threads.small) ∷ (1, l.threads.medium) ∷ (2, l.threads.large) ∷ []

  begin_threaded : AreThreaded image begin
  begin_threaded =
      let a = l.threads.table.lists 0 _ refl in
      let b = l.threads.table.lists 1 _ refl in
      let c = l.threads.table.lists 2 _ refl in (
        l.threads.each.0,
        names_last 0 16 l.threads.small refl (omega arith) a.1,
        (l.threads.each.1, names_last 1 40 l.threads.medium refl (omega arith) b.1, (l.threads.each.2, names_last 2 64 l.threads.large refl (omega arith) c.1, tt)),
      )

  begin_heads : first_frees image ≡ heads begin
  begin_heads =
      let a = l.threads.table.lists 0 _ refl in
      let b = l.threads.table.lists 1 _ refl in
      let c = l.threads.table.lists 2 _ refl in
      ap (λ xs. xs ++ (visits_through (field image 214 12) 1 ++ (visits_through (field image 238 12) 2 ++ []))) (through image 190 0 l.threads.small (in_free_table 4 (first_place l.threads.small) (omega arith) a.0))
      ∙ ap (λ xs. heads ((0, l.threads.small) ∷ []) ++ (xs ++ (visits_through (field image 238 12) 2 ++ []))) (through image 214 1 l.threads.medium (in_free_table 28 (first_place l.threads.medium) (omega arith) b.0))
      ∙ ap (λ xs. heads ((0, l.threads.small) ∷ []) ++ (heads ((1, l.threads.medium) ∷ []) ++ (xs ++ []))) (through image 238 2 l.threads.large (in_free_table 52 (first_place l.threads.large) (omega arith) c.0))
      ∙ ap (λ xs. heads ((0, l.threads.small) ∷ []) ++ (heads ((1, l.threads.medium) ∷ []) ++ xs)) (heads-append 2 l.threads.large [])
      ∙ ap (λ xs. heads ((0, l.threads.small) ∷ []) ++ xs) (heads-append 1 l.threads.medium ((2, l.threads.large) ∷ []))
      ∙ heads-append 0 l.threads.small ((1, l.threads.medium) ∷ (2, l.threads.large) ∷ [])

  begin_all : [] ++ all_of begin ≡ lists
  begin_all = ap (λ xs. l.threads.small ++ (l.threads.medium ++ xs)) (append-nil l.threads.large) ∙ sym (append_assoc l.threads.small l.threads.medium l.threads.large)

  pub frees_stand : (nodes : List Visit) → AreStanding image tree p l nodes (tree_order tree) → (frees : List FreeVisit) × FreeWalk image nodes (Ok frees) × AreFree image frees lists
  frees_stand nodes stand = by_outcome (free_walk_ends image nodes).0 (free_walk_ends image nodes).1
    where
      all_nodes : total_length (found_extents image (is_wide image) nodes) ≡ total_length (live_extents tree.wide p)
      all_nodes = ap (λ w. total_length (found_extents image w nodes)) (wide_recorded image tree p l) ∙ found_sum image tree p l total_length refl total_length-append nodes (tree_order tree) stand ∙ order_live image tree p l total_length refl total_length-append

      of_done : (outcome : Result (List FreeVisit) Fault) → FreeWalk image nodes outcome → Done outcome → (frees : List FreeVisit) × FreeWalk image nodes (Ok frees) × AreFree image frees lists
      of_done (Ok frees) w d = (frees, w, d)
      of_done (Err fault) w d = absurd d

      by_outcome : (outcome : Result (List FreeVisit) Fault) → FreeWalk image nodes outcome → (frees : List FreeVisit) × FreeWalk image nodes (Ok frees) × AreFree image frees lists
      by_outcome outcome w =
          let w' = subst (λ e. Walk (free_rows image e (total_length (found_extents image (is_wide image) nodes))) (next_free image) (first_frees image) [] outcome) (end_recorded image tree p l) w in
          of_done outcome w (walks (total_length (found_extents image (is_wide image) nodes)) all_nodes w' begin [] begin_heads tt tt begin_threaded begin_all)

  -- ---- no byte is misplaced

  pub none_misplaced : (nodes : List Visit) (frees : List FreeVisit) → AreStanding image tree p l nodes (tree_order tree) → AreFree image frees lists → (b : ℕ) → b ≤ end → is_misplaced image (extents_found image nodes frees) b ≡ false
  none_misplaced nodes frees stand free b le =
      by_count (cover (extents_found image nodes frees) b) refl (covered_once (cover (extents_found image nodes frees) b) _ _ _ _ _ found all most gaps)
    where
      live : cover (found_extents image (is_wide image) nodes) b ≡ cover (live_extents tree.wide p) b
      live = ap (λ w. cover (found_extents image w nodes) b) (wide_recorded image tree p l) ∙ found_sum image tree p l (λ xs. cover xs b) refl (λ xs ys. cover-append xs ys b) nodes (tree_order tree) stand ∙ order_live image tree p l (λ xs. cover xs b) refl (λ xs ys. cover-append xs ys b)

      found : cover (extents_found image nodes frees) b ≡ cover head_extents b + cover (live_extents tree.wide p) b + cover lists b
      found = cover-append (head_extents ++ found_extents image (is_wide image) nodes) (map (free_extent image) frees) b
          ∙ ap (λ n. n + cover (map (free_extent image) frees) b) (cover-append head_extents (found_extents image (is_wide image) nodes) b ∙ ap (λ n. cover head_extents b + n) live)
          ∙ ap (λ n. cover head_extents b + cover (live_extents tree.wide p) b + n) (free_cover image frees lists b free)

      all : cover (all_extents tree.wide p) b ≡ cover head_extents b + cover (live_extents tree.wide p) b + cover p.heap.gaps b
      all = cover_all image tree p l b

      most : cover (all_extents tree.wide p) b ≤ 1
      most = at_most_once image tree p l b

      gaps : cover lists b ≤ cover p.heap.gaps b
      gaps = cover_gaps b

      covered_once : (n head live listed gap whole : ℕ) → n ≡ head + live + listed → whole ≡ head + live + gap → whole ≤ 1 → listed ≤ gap → n ≤ 1
      covered_once n head live listed gap whole a c d e = omega (arith, a, c, d, e)

      no_front : cover (extents_found image nodes frees) b ≡ 0 → cover (head_extents ++ live_extents tree.wide p) b ≡ 0
      no_front none = cover-append head_extents (live_extents tree.wide p) b ∙ (let f = found in omega (arith, f, none))

      no_free : cover (extents_found image nodes frees) b ≡ 0 → cover (filter is_free p.heap.gaps) b ≡ 0
      no_free none = sym (lists_cover b) ∙ (let f = found in omega (arith, f, none))

      is_blank : cover (extents_found image nodes frees) b ≡ 0 → holds image b (codes "z") ≡ true
      is_blank none = holds_of image b (codes "z") (unused_byte image tree p l b le (no_front none) (no_free none))

      one_none : (n : ℕ) → n ≤ 1 → (n == 0) ≡ false → (nat_lt 1 n || (n == 0) && not (holds image b (codes "z"))) ≡ false
      one_none n le e = ap (λ t. t || (n == 0) && not (holds image b (codes "z"))) (few n le) ∙ ap (λ t. t && not (holds image b (codes "z"))) e
        where
          few : (n : ℕ) → n ≤ 1 → nat_lt 1 n ≡ false
          few n h = grind (arith, nat_tests)

      by_count : (n : ℕ) → cover (extents_found image nodes frees) b ≡ n → n ≤ 1 → (nat_lt 1 n || (n == 0) && not (holds image b (codes "z"))) ≡ false
      by_count n e le = elim (eqb_tells n 0) [
        | inl z ↦ subst (λ k. (nat_lt 1 k || (k == 0) && not (holds image b (codes "z"))) ≡ false) (sym z.1) (ap not (is_blank (e ∙ z.1)))
        | inr z ↦ one_none n le z.0
      ]

-- ---- a layout breaks no rule

pub no_fault : (image : List ℕ) (tree : Tree) (p : Placement) → LaysOut image tree p → (nodes : List Visit) × (frees : List FreeVisit) × HasNoFault image nodes frees
no_fault image tree p l =
    let n = nodes_stand image tree p l in
    let f = frees_stand image tree p l n.0 n.2 in (
      n.0,
      f.0,
      record {
        head = head_unbroken image tree p l;
        node_walk = n.1;
        free_walk = f.1;
        tiled = λ b le. none_misplaced image tree p l n.0 f.0 n.2 f.2 b (subst (λ e. b ≤ e) (end_recorded image tree p l) le);
      },
    )

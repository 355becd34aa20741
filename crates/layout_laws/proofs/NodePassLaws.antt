-- A walk with a stack, step by step, is the walk over the nodes.
use Rattle.std.proofs.Common.{◌≡◌, ◌⊎◌, inl, inr, ℕ, zero, suc, refl, sym, ◌∙◌, ap, subst, List, [], ◌∷◌, ◌++◌, length, map, reverse, length-append, ◌+◌, Bool}
use Rattle.std.proofs.lemmas.List.{length-map, reverse-append, reverse-reverse}
use Rattle.std.specs.Prelude.{Some, None, Result, Ok, Err, slice_get, ◌==◌, ◌||◌}
use Rattle.std.specs.List.{range_with_len, list_any}
use Rattle.adf_format.specs.Pointer.{place_of}
use Rattle.adf_format.specs.Tiles.{total_length}
use Rattle.adf_format.specs.Checks.{Row, Fault, first_broken, Walk, finished, stopped, passed}
use Rattle.adf_format.specs.FirstFault.{Visit, FreeVisit, NodeWalk, HasNoFault, root_visit, child_visits, visit_rows, visit_extents, found_extents, entry_name, entry_pointer, children_in, table_in, is_wide, end_in, node_rows_at, count_row_at}
use Rattle.adf_format.specs.Verdict.{NodePlace}
use Rattle.adf_format.proofs.PathLaws.{child_of}
use Rattle.adf_model.proofs.Basics.{same_Some, not_there}
use Rattle.layout_laws.specs.FoundLayout.{ListsVisits, NamesVisit}
use Rattle.layout_laws.specs.NodePass.{Waiting, IsMet, AreMet, IsUnderway, is_known, met_extents, named_node, waiting_child, waiting_children}
use Rattle.layout_laws.proofs.VisitsListed.{visits_listed}

-- ---- lists

at_before : {A : Type 0} (xs : List A) (k : ℕ) (x y : A) → slice_get xs k ≡ Some x → slice_get (xs ++ y ∷ []) k ≡ Some x
at_before [] k x y e = absurd (not_there x e)
at_before (z ∷ zs) zero x y e = e
at_before (z ∷ zs) (suc k) x y e = at_before zs k x y e

at_last : {A : Type 0} (xs : List A) (y : A) → slice_get (xs ++ y ∷ []) (length xs) ≡ Some y
at_last [] y = refl
at_last (x ∷ xs) y = at_last xs y

met_later : (seen : List Visit) (v : Visit) (ms : List Waiting) (vs : List Visit) → AreMet seen ms vs → AreMet (seen ++ v ∷ []) ms vs
met_later seen v [] [] h = tt
met_later seen v [] (w ∷ vs) h = absurd h
met_later seen v (m ∷ ms) [] h = absurd h
met_later seen v (m ∷ ms) (w ∷ vs) h = (record { place = h.0.place; entry = h.0.entry; depth = h.0.depth; linked = linked h.0.linked }, met_later seen v ms vs h.1)
  where
    linked : ((w.path ≡ []) × (m.parent ≡ 0) × (m.position ≡ 0)) ⊎ ((u : Visit) × (slice_get seen m.parent ≡ Some u) × (w.path ≡ u.path ++ m.position ∷ []))
        → ((w.path ≡ []) × (m.parent ≡ 0) × (m.position ≡ 0)) ⊎ ((u : Visit) × (slice_get (seen ++ v ∷ []) m.parent ≡ Some u) × (w.path ≡ u.path ++ m.position ∷ []))
    linked (inl r) = inl r
    linked (inr r) = inr (r.0, at_before seen m.parent r.0 v r.1, r.2)

met-append : (seen : List Visit) (ms ns : List Waiting) (vs ws : List Visit) → AreMet seen ms vs → AreMet seen ns ws → AreMet seen (ms ++ ns) (vs ++ ws)
met-append seen [] ns [] ws h k = k
met-append seen [] ns (v ∷ vs) ws h k = absurd h
met-append seen (m ∷ ms) ns [] ws h k = absurd h
met-append seen (m ∷ ms) ns (v ∷ vs) ws h k = (h.0, met-append seen ms ns vs ws h.1 k)

met_many : (seen : List Visit) (ms : List Waiting) (vs : List Visit) → AreMet seen ms vs → length ms ≡ length vs
met_many seen [] [] h = refl
met_many seen [] (v ∷ vs) h = absurd h
met_many seen (m ∷ ms) [] h = absurd h
met_many seen (m ∷ ms) (v ∷ vs) h = ap suc (met_many seen ms vs h.1)

met_at : (seen : List Visit) (ms : List Waiting) (vs : List Visit) (k : ℕ) (m : Waiting) (v : Visit) → AreMet seen ms vs → slice_get ms k ≡ Some m → slice_get vs k ≡ Some v → IsMet seen m v
met_at seen [] vs k m v h e f = absurd (not_there m e)
met_at seen (n ∷ ms) [] k m v h e f = absurd h
met_at seen (n ∷ ms) (w ∷ vs) zero m v h e f = subst (λ x. IsMet seen x v) (same_Some n m e) (subst (IsMet seen n) (same_Some w v f) h.0)
met_at seen (n ∷ ms) (w ∷ vs) (suc k) m v h e f = met_at seen ms vs k m v h.1 e f

-- ---- the places and the extents of those met

known_places : (seen all : List Visit) (ms : List Waiting) (place : ℕ) → AreMet seen ms all → list_any (λ (w : Visit). w.place == place) all ≡ is_known ms place
known_places seen [] [] place h = refl
known_places seen [] (m ∷ ms) place h = absurd h
known_places seen (v ∷ vs) [] place h = absurd h
known_places seen (v ∷ vs) (m ∷ ms) place h = ap (λ n. (n == place) || list_any (λ (w : Visit). w.place == place) vs) (sym h.0.place) ∙ ap (λ b. (m.place == place) || b) (known_places seen vs ms place h.1)

extents_at : (image : List ℕ) (wide : Bool) (v : Visit) → visit_extents image wide v ≡ visit_extents image wide (record { place = v.place; entry = None; path = [] })
unfolding visit_extents
extents_at image wide v = refl

pub known_extents : (image : List ℕ) (wide : Bool) (seen all : List Visit) (ms : List Waiting) → AreMet seen ms all → found_extents image wide all ≡ met_extents image wide ms
known_extents image wide seen [] [] h = refl
known_extents image wide seen [] (m ∷ ms) h = absurd h
known_extents image wide seen (v ∷ vs) [] h = absurd h
known_extents image wide seen (v ∷ vs) (m ∷ ms) h =
    ap (λ xs. xs ++ found_extents image wide vs) (extents_at image wide v ∙ ap (λ n. visit_extents image wide (record { place = n; entry = None; path = [] })) (sym h.0.place))
    ∙ ap (λ xs. visit_extents image wide (record { place = m.place; entry = None; path = [] }) ++ xs) (known_extents image wide seen vs ms h.1)

module _ (image : List ℕ) where
  abbrev pub wide : Bool
  wide = is_wide image

  abbrev rows : List Waiting → Waiting → List Row
  rows nodes m = node_rows_at image (is_wide image) (end_in image) (is_known nodes m.place) (266 + total_length (met_extents image (is_wide image) nodes)) m.place m.entry m.depth

  same_rows : (seen : List Visit) (nodes : List Waiting) (m : Waiting) (v : Visit) → AreMet seen nodes seen → IsMet seen m v → visit_rows image (is_wide image) (end_in image) seen v ≡ rows nodes m
  same_rows seen nodes m v found met =
      ap (λ b. node_rows_at image (is_wide image) (end_in image) b (266 + total_length (found_extents image (is_wide image) seen)) v.place v.entry (length v.path)) (known_places seen seen nodes v.place found)
      ∙ ap (λ xs. node_rows_at image (is_wide image) (end_in image) (is_known nodes v.place) (266 + total_length xs) v.place v.entry (length v.path)) (known_extents image (is_wide image) seen seen nodes found)
      ∙ ap (λ n. node_rows_at image (is_wide image) (end_in image) (is_known nodes n) (266 + total_length (met_extents image (is_wide image) nodes)) n v.entry (length v.path)) (sym met.place)
      ∙ ap (λ o. node_rows_at image (is_wide image) (end_in image) (is_known nodes m.place) (266 + total_length (met_extents image (is_wide image) nodes)) m.place o (length v.path)) (sym met.entry)
      ∙ ap (λ n. node_rows_at image (is_wide image) (end_in image) (is_known nodes m.place) (266 + total_length (met_extents image (is_wide image) nodes)) m.place m.entry n) (sym met.depth)

  -- ---- the steps

  -- the root waits alone
  pub start : IsUnderway image (record { place = (root_visit image).place; entry = None; parent = 0; position = 0; depth = 0 } ∷ []) []
  start = record {
    seen = [];
    next = root_visit image ∷ [];
    waits = (record { place = refl; entry = refl; depth = refl; linked = inl (refl, refl, refl) }, tt);
    found = tt;
    goes_on = λ outcome w. w;
  }

  -- the last of the stack is the next of the walk
  record IsNext (seen next : List Visit) (ms : List Waiting) (m : Waiting) : Type 0 where
    v : Visit
    rest : List Visit
    whole : next ≡ v ∷ rest
    met : IsMet seen m v
    others : AreMet seen (reverse ms) rest

  next_of : (seen next : List Visit) (ms : List Waiting) (m : Waiting) → AreMet seen (reverse (ms ++ m ∷ [])) next → IsNext seen next ms m
  next_of seen next ms m h = by_list next (subst (λ xs. AreMet seen xs next) (reverse-append ms (m ∷ [])) h)
    where
      by_list : (next : List Visit) → AreMet seen (m ∷ reverse ms) next → IsNext seen next ms m
      by_list [] h = absurd h
      by_list (v ∷ rest) h = record { v = v; rest = rest; whole = refl; met = h.0; others = h.1 }

  kids_met : (all : List Visit) (number depth : ℕ) (p v : Visit) (a n : ℕ) → slice_get all number ≡ Some v → depth ≡ length v.path + 1 → p.place ≡ v.place → AreMet all (map (waiting_child image (table_in image p.place) number depth) (range_with_len a n)) (map (child_of image v) (range_with_len a n))
  kids_met all number depth p v a zero e d s = tt
  kids_met all number depth p v a (suc n) e d s = (
    record {
      place = ap (λ k. place_of (entry_pointer image (table_in image k) a)) s;
      entry = ap (λ k. Some (entry_name image (table_in image k) a)) s;
      depth = d ∙ sym (length-append v.path (a ∷ []));
      linked = inr (v, e, refl);
    },
    kids_met all number depth p v (a + 1) n e d s,
  )

  -- a node that breaks no rule is met, and its children wait above the others, the first one last
  pub on : (ms : List Waiting) (m : Waiting) (nodes : List Waiting) → IsUnderway image (ms ++ m ∷ []) nodes → first_broken (rows nodes m) ≡ None
      → IsUnderway image (ms ++ reverse (waiting_children image (table_in image m.place) (length nodes) (m.depth + 1) (children_in image m.place))) (nodes ++ m ∷ [])
  on ms m nodes u kept =
      let n = next_of u.seen u.next ms m u.waits in
      let v = n.v in
      let many : length nodes ≡ length u.seen = met_many u.seen nodes u.seen u.found in
      let here : slice_get (u.seen ++ n.v ∷ []) (length nodes) ≡ Some n.v = ap (slice_get (u.seen ++ n.v ∷ [])) many ∙ at_last u.seen n.v in
      let children = waiting_children image (table_in image m.place) (length nodes) (m.depth + 1) (children_in image m.place) in
      let kids : AreMet (u.seen ++ n.v ∷ []) (waiting_children image (table_in image m.place) (length nodes) (m.depth + 1) (children_in image m.place)) (child_visits image n.v) =
      subst (λ k. AreMet (u.seen ++ n.v ∷ []) (map (waiting_child image (table_in image m.place) (length nodes) (m.depth + 1)) (range_with_len 0 (children_in image m.place))) (map (child_of image n.v) (range_with_len 0 k))) (ap (children_in image) n.met.place)
      (kids_met (u.seen ++ n.v ∷ []) (length nodes) (m.depth + 1) (record { place = m.place; entry = None; path = [] }) n.v 0 (children_in image m.place) here (ap (λ k. k + 1) n.met.depth) n.met.place) in
      let stack : reverse (ms ++ reverse children) ≡ children ++ reverse ms = reverse-append ms (reverse children) ∙ ap (λ xs. xs ++ reverse ms) (reverse-reverse children) in
      record {
        seen = u.seen ++ n.v ∷ [];
        next = child_visits image n.v ++ n.rest;
        waits = subst (λ xs. AreMet (u.seen ++ n.v ∷ []) xs (child_visits image n.v ++ n.rest)) (sym stack) (met-append (u.seen ++ n.v ∷ []) children (reverse ms) (child_visits image n.v) n.rest kids (met_later u.seen n.v (reverse ms) n.rest n.others));
        found = met-append (u.seen ++ n.v ∷ []) nodes (m ∷ []) u.seen (n.v ∷ []) (met_later u.seen n.v nodes u.seen u.found) (met_later u.seen n.v (m ∷ []) (n.v ∷ []) (n.met, tt));
        goes_on = λ outcome w. u.goes_on outcome (subst (λ todo. Walk (visit_rows image (is_wide image) (end_in image)) (child_visits image) todo u.seen outcome) (sym n.whole)
            (passed {outcome = outcome} (ap first_broken (same_rows u.seen nodes m n.v u.found n.met) ∙ kept) w));
      }

  -- one that breaks a rule ends the walk
  pub broken : (ms : List Waiting) (m : Waiting) (nodes : List Waiting) (fault : Fault) → IsUnderway image (ms ++ m ∷ []) nodes → first_broken (rows nodes m) ≡ Some fault → NodeWalk image (Err fault)
  broken ms m nodes fault u e =
      let n = next_of u.seen u.next ms m u.waits in
      u.goes_on (Err fault) (subst (λ todo. Walk (visit_rows image (is_wide image) (end_in image)) (child_visits image) todo u.seen (Err fault)) (sym n.whole) (stopped (ap first_broken (same_rows u.seen nodes m n.v u.found n.met) ∙ e)))

  -- where none waits the walk has ended
  pub ended : (nodes : List Waiting) → IsUnderway image [] nodes → (seen : List Visit) × NodeWalk image (Ok seen) × AreMet seen nodes seen
  ended nodes u = (u.seen, by_list u.next u.waits u.goes_on, u.found)
    where
      by_list : (next : List Visit) → AreMet u.seen [] next → ((outcome : Result (List Visit) Fault) → Walk (visit_rows image (is_wide image) (end_in image)) (child_visits image) next u.seen outcome → NodeWalk image outcome) → NodeWalk image (Ok u.seen)
      by_list [] h goes_on = goes_on (Ok u.seen) finished
      by_list (v ∷ vs) h goes_on = absurd h

  -- and the nodes that were met are listed as a verdict names them
  pub met_listed : (seen : List Visit) (frees : List FreeVisit) (nodes : List Waiting) → HasNoFault image seen frees → AreMet seen nodes seen → ListsVisits seen (map named_node nodes)
  met_listed seen frees nodes h met = visits_listed image seen frees (map named_node nodes) h (length-map nodes named_node ∙ met_many seen nodes seen met) each
    where
      at_mapped : (ms : List Waiting) (k : ℕ) (n : NodePlace) → slice_get (map named_node ms) k ≡ Some n → (m : Waiting) × (slice_get ms k ≡ Some m) × (named_node m ≡ n)
      at_mapped [] k n e = absurd (not_there n e)
      at_mapped (m ∷ ms) zero n e = (m, refl, same_Some (named_node m) n e)
      at_mapped (m ∷ ms) (suc k) n e = at_mapped ms k n e

      each : (k : ℕ) (v : Visit) (n : NodePlace) → slice_get seen k ≡ Some v → slice_get (map named_node nodes) k ≡ Some n → NamesVisit seen v n
      each k v n e f =
          let r = at_mapped nodes k n f in
          let m = met_at seen nodes seen k r.0 v met r.1 e in
          subst (NamesVisit seen v) r.2 (record { place = m.place; depth = m.depth; linked = m.linked })

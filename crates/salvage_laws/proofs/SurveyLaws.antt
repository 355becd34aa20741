-- A survey with a stack, step by step, is the survey of the nodes.
use Rattle.std.proofs.Common.{◌≡◌, ◌⊎◌, inl, inr, ℕ, zero, suc, refl, sym, ◌∙◌, ap, subst, List, [], ◌∷◌, ◌++◌, length, map, reverse, length-append, ◌+◌}
use Rattle.std.proofs.lemmas.List.{reverse-append, reverse-reverse, map-append}
use Rattle.std.specs.Prelude.{Some, None, slice_get, ◌==◌, ◌||◌}
use Rattle.std.specs.List.{range_with_len, list_any}
use Rattle.adf_format.specs.Pointer.{place_of}
use Rattle.adf_format.specs.SoundPart.{last_byte}
use Rattle.adf_format.specs.Tiles.{total_length}
use Rattle.adf_format.specs.Checks.{Fault, first_broken, Survey, surveyed, omits as omitted, keeps as kept_one}
use Rattle.adf_format.specs.FirstFault.{Visit, root_visit, child_visits, visit_rows, found_extents, entry_name, entry_pointer, children_in, table_in, is_wide, node_rows_at}
use Rattle.adf_format.proofs.PathLaws.{child_of}
use Rattle.adf_model.proofs.Basics.{not_there}
use Rattle.layout_laws.specs.NodePass.{Waiting, IsMet, AreMet, is_known, met_extents, waiting_child, waiting_children}
use Rattle.layout_laws.proofs.NodePassLaws.{known_extents}
use Rattle.salvage_laws.specs.Surveys.{IsSurveying, NodeSurvey, Outcome, rows_of, waiting_root, visits_of}

-- ---- lists

at_before : {A : Type 0} (xs : List A) (k : ℕ) (x y : A) → slice_get xs k ≡ Some x → slice_get (xs ++ y ∷ []) k ≡ Some x
at_before [] k x y e = absurd (not_there x e)
at_before (z ∷ zs) zero x y e = e
at_before (z ∷ zs) (suc k) x y e = at_before zs k x y e

at_last : {A : Type 0} (xs : List A) (y : A) → slice_get (xs ++ y ∷ []) (length xs) ≡ Some y
at_last [] y = refl
at_last (x ∷ xs) y = at_last xs y

met_later : (seen : List Visit) (v : Visit) (ms : List Waiting) (vs : List Visit) → AreMet seen ms vs → AreMet (seen ++ v ∷ []) ms vs
met_later seen v [] [] h = tt
met_later seen v [] (w ∷ vs) h = absurd h
met_later seen v (m ∷ ms) [] h = absurd h
met_later seen v (m ∷ ms) (w ∷ vs) h = (record { place = h.0.place; entry = h.0.entry; depth = h.0.depth; linked = linked h.0.linked }, met_later seen v ms vs h.1)
  where
    linked : ((w.path ≡ []) × (m.parent ≡ 0) × (m.position ≡ 0)) ⊎ ((u : Visit) × (slice_get seen m.parent ≡ Some u) × (w.path ≡ u.path ++ m.position ∷ []))
        → ((w.path ≡ []) × (m.parent ≡ 0) × (m.position ≡ 0)) ⊎ ((u : Visit) × (slice_get (seen ++ v ∷ []) m.parent ≡ Some u) × (w.path ≡ u.path ++ m.position ∷ []))
    linked (inl r) = inl r
    linked (inr r) = inr (r.0, at_before seen m.parent r.0 v r.1, r.2)

met-append : (seen : List Visit) (ms ns : List Waiting) (vs ws : List Visit) → AreMet seen ms vs → AreMet seen ns ws → AreMet seen (ms ++ ns) (vs ++ ws)
met-append seen [] ns [] ws h k = k
met-append seen [] ns (v ∷ vs) ws h k = absurd h
met-append seen (m ∷ ms) ns [] ws h k = absurd h
met-append seen (m ∷ ms) ns (v ∷ vs) ws h k = (h.0, met-append seen ms ns vs ws h.1 k)

met_many : (seen : List Visit) (ms : List Waiting) (vs : List Visit) → AreMet seen ms vs → length ms ≡ length vs
met_many seen [] [] h = refl
met_many seen [] (v ∷ vs) h = absurd h
met_many seen (m ∷ ms) [] h = absurd h
met_many seen (m ∷ ms) (v ∷ vs) h = ap suc (met_many seen ms vs h.1)

known_places : (seen all : List Visit) (ms : List Waiting) (place : ℕ) → AreMet seen ms all → list_any (λ (w : Visit). w.place == place) all ≡ is_known ms place
known_places seen [] [] place h = refl
known_places seen [] (m ∷ ms) place h = absurd h
known_places seen (v ∷ vs) [] place h = absurd h
known_places seen (v ∷ vs) (m ∷ ms) place h = ap (λ n. (n == place) || list_any (λ (w : Visit). w.place == place) vs) (sym h.0.place) ∙ ap (λ b. (m.place == place) || b) (known_places seen vs ms place h.1)

module _ (image : List ℕ) where
  same_rows : (seen : List Visit) (kept : List Waiting) (m : Waiting) (v : Visit) → AreMet seen kept seen → IsMet seen m v → visit_rows image (is_wide image) (last_byte image) seen v ≡ rows_of image kept m
  same_rows seen kept m v found met =
      ap (λ b. node_rows_at image (is_wide image) (last_byte image) b (266 + total_length (found_extents image (is_wide image) seen)) v.place v.entry (length v.path)) (known_places seen seen kept v.place found)
      ∙ ap (λ xs. node_rows_at image (is_wide image) (last_byte image) (is_known kept v.place) (266 + total_length xs) v.place v.entry (length v.path)) (known_extents image (is_wide image) seen seen kept found)
      ∙ ap (λ n. node_rows_at image (is_wide image) (last_byte image) (is_known kept n) (266 + total_length (met_extents image (is_wide image) kept)) n v.entry (length v.path)) (sym met.place)
      ∙ ap (λ o. node_rows_at image (is_wide image) (last_byte image) (is_known kept m.place) (266 + total_length (met_extents image (is_wide image) kept)) m.place o (length v.path)) (sym met.entry)
      ∙ ap (λ n. node_rows_at image (is_wide image) (last_byte image) (is_known kept m.place) (266 + total_length (met_extents image (is_wide image) kept)) m.place m.entry n) (sym met.depth)

  -- ---- the steps

  -- the root waits alone
  pub start : IsSurveying image (waiting_root image ∷ []) [] [] []
  start = record {
    seen = [];
    next = root_visit image ∷ [];
    waits = (record { place = refl; entry = refl; depth = refl; linked = inl (refl, refl, refl) }, tt);
    found = tt;
    leaves = tt;
    goes_on = λ outcome s. s;
  }

  -- the last of the stack is the next of the survey
  record IsNext (seen next : List Visit) (ms : List Waiting) (m : Waiting) : Type 0 where
    v : Visit
    rest : List Visit
    whole : next ≡ v ∷ rest
    met : IsMet seen m v
    others : AreMet seen (reverse ms) rest

  next_of : (seen next : List Visit) (ms : List Waiting) (m : Waiting) → AreMet seen (reverse (ms ++ m ∷ [])) next → IsNext seen next ms m
  next_of seen next ms m h = by_list next (subst (λ xs. AreMet seen xs next) (reverse-append ms (m ∷ [])) h)
    where
      by_list : (next : List Visit) → AreMet seen (m ∷ reverse ms) next → IsNext seen next ms m
      by_list [] h = absurd h
      by_list (v ∷ rest) h = record { v = v; rest = rest; whole = refl; met = h.0; others = h.1 }

  kids_met : (all : List Visit) (number depth : ℕ) (p v : Visit) (a n : ℕ) → slice_get all number ≡ Some v → depth ≡ length v.path + 1 → p.place ≡ v.place → AreMet all (map (waiting_child image (table_in image p.place) number depth) (range_with_len a n)) (map (child_of image v) (range_with_len a n))
  kids_met all number depth p v a zero e d s = tt
  kids_met all number depth p v a (suc n) e d s = (
    record {
      place = ap (λ k. place_of (entry_pointer image (table_in image k) a)) s;
      entry = ap (λ k. Some (entry_name image (table_in image k) a)) s;
      depth = d ∙ sym (length-append v.path (a ∷ []));
      linked = inr (v, e, refl);
    },
    kids_met all number depth p v (a + 1) n e d s,
  )

  -- a node that breaks no rule is kept, and its children wait above the others, the first one last
  pub keeps : (ms : List Waiting) (m : Waiting) (nodes out : List Waiting) (left : List (Visit × Fault)) → IsSurveying image (ms ++ m ∷ []) nodes out left → first_broken (rows_of image nodes m) ≡ None
      → IsSurveying image (ms ++ reverse (waiting_children image (table_in image m.place) (length nodes) (m.depth + 1) (children_in image m.place))) (nodes ++ m ∷ []) out left
  keeps ms m nodes out left u sound =
      let n = next_of u.seen u.next ms m u.waits in
      let many : length nodes ≡ length u.seen = met_many u.seen nodes u.seen u.found in
      let here : slice_get (u.seen ++ n.v ∷ []) (length nodes) ≡ Some n.v = ap (slice_get (u.seen ++ n.v ∷ [])) many ∙ at_last u.seen n.v in
      let children = waiting_children image (table_in image m.place) (length nodes) (m.depth + 1) (children_in image m.place) in
      let kids : AreMet (u.seen ++ n.v ∷ []) (waiting_children image (table_in image m.place) (length nodes) (m.depth + 1) (children_in image m.place)) (child_visits image n.v) =
      subst (λ k. AreMet (u.seen ++ n.v ∷ []) (map (waiting_child image (table_in image m.place) (length nodes) (m.depth + 1)) (range_with_len 0 (children_in image m.place))) (map (child_of image n.v) (range_with_len 0 k))) (ap (children_in image) n.met.place)
      (kids_met (u.seen ++ n.v ∷ []) (length nodes) (m.depth + 1) (record { place = m.place; entry = None; path = [] }) n.v 0 (children_in image m.place) here (ap (λ k. k + 1) n.met.depth) n.met.place) in
      let stack : reverse (ms ++ reverse children) ≡ children ++ reverse ms = reverse-append ms (reverse children) ∙ ap (λ xs. xs ++ reverse ms) (reverse-reverse children) in
      record {
        seen = u.seen ++ n.v ∷ [];
        next = child_visits image n.v ++ n.rest;
        waits = subst (λ xs. AreMet (u.seen ++ n.v ∷ []) xs (child_visits image n.v ++ n.rest)) (sym stack) (met-append (u.seen ++ n.v ∷ []) children (reverse ms) (child_visits image n.v) n.rest kids (met_later u.seen n.v (reverse ms) n.rest n.others));
        found = met-append (u.seen ++ n.v ∷ []) nodes (m ∷ []) u.seen (n.v ∷ []) (met_later u.seen n.v nodes u.seen u.found) (met_later u.seen n.v (m ∷ []) (n.v ∷ []) (n.met, tt));
        leaves = met_later u.seen n.v out (visits_of left) u.leaves;
        goes_on = λ outcome s. u.goes_on outcome (subst (λ todo. Survey (visit_rows image (is_wide image) (last_byte image)) (child_visits image) todo u.seen left outcome) (sym n.whole)
            (kept_one {outcome = outcome} (ap first_broken (same_rows u.seen nodes m n.v u.found n.met) ∙ sound) s));
      }

  -- one that breaks a rule is left out, with all that it leads to
  pub omits : (ms : List Waiting) (m : Waiting) (nodes out : List Waiting) (left : List (Visit × Fault)) (fault : Fault) → IsSurveying image (ms ++ m ∷ []) nodes out left → first_broken (rows_of image nodes m) ≡ Some fault
      → (v : Visit) × IsSurveying image ms nodes (out ++ m ∷ []) (left ++ (v, fault) ∷ [])
  omits ms m nodes out left fault u e =
      let n = next_of u.seen u.next ms m u.waits in (
        n.v,
        record {
          seen = u.seen;
          next = n.rest;
          waits = n.others;
          found = u.found;
          leaves = subst (λ vs. AreMet u.seen (out ++ m ∷ []) vs) (sym (map-append (λ (o : Visit × Fault). o.0) left ((n.v, fault) ∷ []))) (met-append u.seen out (m ∷ []) (visits_of left) (n.v ∷ []) u.leaves (n.met, tt));
          goes_on = λ outcome s. u.goes_on outcome (subst (λ todo. Survey (visit_rows image (is_wide image) (last_byte image)) (child_visits image) todo u.seen left outcome) (sym n.whole)
              (omitted {outcome = outcome} (ap first_broken (same_rows u.seen nodes m n.v u.found n.met) ∙ e) s));
        },
      )

  -- where none waits the survey has ended
  pub ended : (nodes out : List Waiting) (left : List (Visit × Fault)) → IsSurveying image [] nodes out left → (seen : List Visit) × NodeSurvey image (seen, left) × AreMet seen nodes seen × AreMet seen out (visits_of left)
  ended nodes out left u = (u.seen, by_list u.next u.waits u.goes_on, u.found, u.leaves)
    where
      by_list : (next : List Visit) → AreMet u.seen [] next → ((outcome : Outcome) → Survey (visit_rows image (is_wide image) (last_byte image)) (child_visits image) next u.seen left outcome → NodeSurvey image outcome) → NodeSurvey image (u.seen, left)
      by_list [] h goes_on = goes_on (u.seen, left) surveyed
      by_list (v ∷ vs) h goes_on = absurd h

-- A walk over the nodes, as the code makes it.
use Rattle.std.proofs.Common.{◌≡◌, ℕ, ◌+◌, refl, sym, ◌∙◌, ap, subst, List, [], ◌∷◌, ◌++◌, map, length, Bool, true, false, cond, append_assoc, add_assoc, append-nil}
use Rattle.std.specs.Prelude.{None, ◌==◌, ◌||◌, reverse}
use Rattle.std.specs.List.{list_any}
use Rattle.std.specs.Ordering.{nat_cmp}
use Rattle.std.specs.BTreeMap.{is_at}
use Rattle.layout_lint.specs.Keys.{contains}
use Rattle.std.proofs.lemmas.Grind.{flat_map-append}
use Rattle.std.proofs.lemmas.List.{map-append, length-map}
use Rattle.std.proofs.lemmas.List.Folds.{list_any-append}
use Rattle.adf_format.specs.Tiles.{total_length}
use Rattle.adf_format.specs.Checks.{first_broken}
use Rattle.adf_format.specs.Placement.{head_extents}
use Rattle.adf_format.specs.FirstFault.{root_visit, is_wide, end_in, table_in, children_in, node_rows_at}
use Rattle.adf_format.proofs.WalkLaws.{total_length-append}
use Rattle.layout_laws.specs.NodePass.{Waiting, IsUnderway, is_known, met_extents, named_node, waiting_children}
use Rattle.layout_laws.proofs.NodePassLaws as passes
use Rattle.layout_lint.specs.declared.node.Met.{Met}
use Rattle.layout_lint.specs.declared.look.Next.{Next}
use Rattle.layout_lint.specs.declared.verdict.Halt.{Halt}
use Rattle.layout_lint.specs.declared.verdict.Halt.TheVariants as halt
use Rattle.layout_lint.specs.declared.walk.Search.{Search}
use Rattle.layout_lint.specs.declared.walk.FoundNodes.{FoundNodes}
use Rattle.layout_lint.specs.Halts.{Breaks, fault}
use Rattle.layout_lint.specs.Nodes.{LeadsTo, extents_at}
use Rattle.layout_lint.specs.Walks.{waiting_of, waiting_in, node_place, root_waiting, IsSearch, IsFound, EndsWalk}

-- the root waits
pub begins : (image : List ℕ) (s : Search) → s.nodes.items ≡ [] → s.places ≡ [] → s.extents.items ≡ head_extents → s.used ≡ 266 → IsSearch image (root_waiting image ∷ []) s
begins image s nodes places extents used = record {
  met = [];
  underway = passes.start image;
  named = ap (map node_place) nodes;
  places = λ q. ap (list_any (is_at (nat_cmp q))) places;
  extents = extents;
  used = used;
}

-- it waits behind families of which none does
pub root_first : (image : List ℕ) (s : Search) (root : ℕ) → root ≡ (root_visit image).place → s.families.items ≡ [] → IsSearch image (root_waiting image ∷ []) s
    → IsSearch image (waiting_in image s.families.items ++ record { place = root; entry = None; parent = 0; position = 0; depth = 0 } ∷ []) s
root_first image s root is none begun =
    let waits : ℕ → List Waiting = λ p. record { place = p; entry = None; parent = 0; position = 0; depth = 0 } ∷ [] in
    subst (λ ws. IsSearch image ws s) (sym (ap (λ fs. waiting_in image fs ++ waits root) none ∙ ap waits is)) begun

-- a walk over the same nodes
pub same_search : (image : List ℕ) (ws vs : List Waiting) (s t : Search) → ws ≡ vs → t.nodes ≡ s.nodes → t.places ≡ s.places → t.extents ≡ s.extents → t.used ≡ s.used → IsSearch image ws s → IsSearch image vs t
same_search image ws vs s t is nodes places extents used u = record {
  met = u.met;
  underway = subst (λ xs. IsUnderway image xs u.met) is u.underway;
  named = ap (λ v. map node_place v.items) nodes ∙ u.named;
  places = λ q. ap (λ p. contains nat_cmp p q) places ∙ u.places q;
  extents = ap (λ v. v.items) extents ∙ u.extents;
  used = used ∙ u.used;
}

-- ---- one more node is met

either_way : (a b : Bool) → (a || (b || false)) ≡ cond b true a
either_way true true = refl
either_way true false = refl
either_way false true = refl
either_way false false = refl

known_then : (nodes : List Waiting) (m : Waiting) (q : ℕ) → is_known (nodes ++ m ∷ []) q ≡ cond (m.place == q) true (is_known nodes q)
known_then nodes m q = list_any-append (λ (w : Waiting). w.place == q) nodes (m ∷ []) ∙ either_way (is_known nodes q) (m.place == q)

extents_then : (image : List ℕ) (wide : Bool) (nodes : List Waiting) (m : Waiting) → met_extents image wide (nodes ++ m ∷ []) ≡ met_extents image wide nodes ++ extents_at image wide m.place
extents_then image wide nodes m =
    flat_map-append (λ (w : Waiting). extents_at image wide w.place) nodes (m ∷ [])
    ∙ ap (λ es. met_extents image wide nodes ++ es) (append-nil (extents_at image wide m.place))

-- its rules, as the walk has them
walk_rows : (image : List ℕ) (wide : Bool) (end : ℕ) (s : Search) (stack : List Waiting) (u : IsSearch image stack s) (m : Met) (known : Bool) → wide ≡ is_wide image → end ≡ end_in image → known ≡ contains nat_cmp s.places m.place
    → node_rows_at image (is_wide image) (end_in image) (is_known u.met m.place) (266 + total_length (met_extents image (is_wide image) u.met)) m.place m.entry m.depth ≡ node_rows_at image wide end known s.used m.place m.entry m.depth
walk_rows image wide end s stack u m known same_wide same_end is = rw (same_wide, same_end, is ∙ u.places m.place, u.used) refl

-- it broke no rule, and its children wait in its place
pub goes_on : (image : List ℕ) (wide : Bool) (end : ℕ) (s t : Search) (ws stack : List Waiting) (m : Met) (known : Bool) (next : Next) (number : ℕ) → wide ≡ is_wide image → end ≡ end_in image
    → IsSearch image (ws ++ waiting_of m ∷ []) s → known ≡ contains nat_cmp s.places m.place → first_broken (node_rows_at image wide end known s.used m.place m.entry m.depth) ≡ None
    → LeadsTo image wide s.used m.place next → number ≡ length s.nodes.items
    → stack ≡ ws ++ reverse (waiting_children image next.table.place number (m.depth + 1) next.children)
    → map node_place t.nodes.items ≡ map node_place s.nodes.items ++ record { place = m.place; parent = m.parent; position = m.position; depth = m.depth } ∷ []
    → ((q : ℕ) → contains nat_cmp t.places q ≡ cond (m.place == q) true (contains nat_cmp s.places q))
    → t.extents.items ≡ s.extents.items ++ extents_at image wide m.place → t.used ≡ next.used → IsSearch image stack t
goes_on image wide end s t ws stack m known next number same_wide same_end u is kept leads count waits nodes places extents used = record {
  met = u.met ++ waiting_of m ∷ [];
  underway = subst (λ (xs : List Waiting). IsUnderway image xs (u.met ++ waiting_of m ∷ [])) (sym children)
      (passes.on image ws (waiting_of m) u.met u.underway (ap first_broken (walk_rows image wide end s (ws ++ waiting_of m ∷ []) u m known same_wide same_end is) ∙ kept));
  named = nodes ∙ ap (λ ns. ns ++ named_node (waiting_of m) ∷ []) u.named ∙ sym (map-append named_node u.met (waiting_of m ∷ []));
  places = λ q. places q ∙ ap (cond (m.place == q) true) (u.places q) ∙ sym (known_then u.met (waiting_of m) q);
  extents = extents ∙ ap (λ es. es ++ extents_at image wide m.place) u.extents ∙ append_assoc head_extents (met_extents image (is_wide image) u.met) (extents_at image wide m.place) ∙ ap (λ es. head_extents ++ es) (sym found);
  used = used ∙ leads.spent ∙ ap (λ n. n + total_length (extents_at image wide m.place)) u.used ∙ add_assoc 266 (total_length (met_extents image (is_wide image) u.met)) (total_length (extents_at image wide m.place)) ∙ ap (λ n. 266 + n) (sym (ap total_length found ∙ total_length-append (met_extents image (is_wide image) u.met) (extents_at image wide m.place)));
}
  where
    found : met_extents image (is_wide image) (u.met ++ waiting_of m ∷ []) ≡ met_extents image (is_wide image) u.met ++ extents_at image wide m.place
    found = extents_then image (is_wide image) u.met (waiting_of m) ∙ ap (λ w. met_extents image (is_wide image) u.met ++ extents_at image w m.place) (sym same_wide)

    numbered : number ≡ length u.met
    numbered = count ∙ sym (length-map s.nodes.items node_place) ∙ ap length u.named ∙ length-map u.met named_node

    children : stack ≡ ws ++ reverse (waiting_children image (table_in image m.place) (length u.met) (m.depth + 1) (children_in image m.place))
    children = waits
        ∙ ap (λ n. ws ++ reverse (waiting_children image n number (m.depth + 1) next.children)) leads.table
        ∙ ap (λ n. ws ++ reverse (waiting_children image (table_in image m.place) n (m.depth + 1) next.children)) numbered
        ∙ ap (λ n. ws ++ reverse (waiting_children image (table_in image m.place) (length u.met) (m.depth + 1) n)) leads.children

-- it broke a rule
pub breaks : (image : List ℕ) (wide : Bool) (end : ℕ) (s : Search) (ws : List Waiting) (m : Met) (known : Bool) (h : Halt) → wide ≡ is_wide image → end ≡ end_in image → IsSearch image (ws ++ waiting_of m ∷ []) s
    → known ≡ contains nat_cmp s.places m.place → Breaks (node_rows_at image wide end known s.used m.place m.entry m.depth) h → EndsWalk image h
breaks image wide end s ws m known (halt.Broken b) same_wide same_end u is broken =
    passes.broken image ws (waiting_of m) u.met (fault b) u.underway (ap first_broken (walk_rows image wide end s (ws ++ waiting_of m ∷ []) u m known same_wide same_end is) ∙ broken)
breaks image wide end s ws m known halt.Memory same_wide same_end u is broken = tt
breaks image wide end s ws m known halt.Read same_wide same_end u is broken = tt

-- none waits any more
pub ends : (image : List ℕ) (s : Search) (f : FoundNodes) (stack : List Waiting) → IsSearch image stack s → stack ≡ [] → f.nodes ≡ s.nodes → f.extents ≡ s.extents → f.used ≡ s.used → IsFound image f
ends image s f stack u none nodes extents used =
    let end = passes.ended image u.met (subst (λ (xs : List Waiting). IsUnderway image xs u.met) none u.underway) in
    record {
      met = u.met;
      seen = end.0;
      walk = end.1;
      are = end.2;
      named = ap (λ ns. map node_place ns.items) nodes ∙ u.named;
      extents = ap (λ es. es.items) extents ∙ u.extents;
      used = used ∙ u.used;
    }

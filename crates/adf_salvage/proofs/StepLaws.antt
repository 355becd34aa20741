-- A survey of nodes, step by step, as the code makes it.
use Rattle.std.proofs.Common.{◌≡◌, inr, ℕ, zero, suc, ◌+◌, arith, refl, sym, ◌∙◌, ap, subst, List, [], ◌∷◌, ◌++◌, map, length, Bool, true, false, cond, append-nil, add_assoc}
use Rattle.std.specs.Prelude.{None, Some, ◌==◌, ◌||◌, reverse}
use Rattle.std.specs.List.{list_any}
use Rattle.std.specs.Ordering.{nat_cmp}
use Rattle.std.specs.BTreeMap.{is_at}
use Rattle.std.proofs.lemmas.Grind.{flat_map-append}
use Rattle.std.proofs.lemmas.List.{map-append, length-map}
use Rattle.std.proofs.lemmas.List.Folds.{list_any-append}
use Rattle.adf_format.specs.Checks.{first_broken}
use Rattle.adf_format.specs.Fields.{trimmed}
use Rattle.adf_format.specs.FirstFault.{Visit, root_visit, is_wide, table_in, node_rows_at}
use Rattle.adf_format.specs.SoundPart.{last_byte}
use Rattle.adf_format.specs.Tiles.{total_length}
use Rattle.adf_format.proofs.WalkLaws.{total_length-append}
use Rattle.adf_model.proofs.Basics.{same_Some, not_there}
use Rattle.layout_laws.specs.NodePass.{Waiting, IsMet, AreMet, is_known, met_extents, named_node, waiting_children}
use Rattle.layout_lint.specs.declared.look.Next.{Next}
use Rattle.layout_lint.specs.declared.node.Met.{Met}
use Rattle.layout_lint.specs.declared.stack.Family.{Family}
use Rattle.layout_lint.specs.declared.verdict.Broken.{Broken}
use Rattle.layout_lint.specs.declared.verdict.Halt.{Halt}
use Rattle.layout_lint.specs.declared.verdict.Halt.TheVariants as halt
use Rattle.layout_lint.specs.Halts.{Breaks, IsNoFault, IsWant, fault}
use Rattle.layout_lint.specs.Keys.{contains}
use Rattle.layout_lint.specs.Nodes.{LeadsTo, extents_at}
use Rattle.layout_lint.specs.Walks.{waiting_of, waiting_in, node_place}
use Rattle.layout_lint.proofs.StackLaws.{family_waits}
use Rattle.salvage_laws.specs.Surveys.{IsSurveying, NodeSurvey, rows_of, waiting_root}
use Rattle.salvage_laws.proofs.SurveyLaws as laws
use Rattle.adf_salvage.specs.declared.progress.Progress.{Progress}
use Rattle.adf_salvage.specs.declared.head.Start.{Start}
use Rattle.adf_salvage.specs.Surveys.{IsStart, IsWayTo, to_root, AreWays, AreTold, IsEmpty, Keeps, Enters, Omits, IsSurvey, IsNextIn, EndsSurvey}
use Rattle.adf_salvage.proofs.WayLaws.{told_later, told_then, ways_then}

-- ---- lists

either_way : (a b : Bool) → (a || (b || false)) ≡ cond b true a
either_way true true = refl
either_way true false = refl
either_way false true = refl
either_way false false = refl

known_then : (nodes : List Waiting) (m : Waiting) (q : ℕ) → is_known (nodes ++ m ∷ []) q ≡ cond (m.place == q) true (is_known nodes q)
known_then nodes m q = list_any-append (λ (w : Waiting). w.place == q) nodes (m ∷ []) ∙ either_way (is_known nodes q) (m.place == q)

extents_then : (image : List ℕ) (wide : Bool) (nodes : List Waiting) (m : Waiting) → met_extents image wide (nodes ++ m ∷ []) ≡ met_extents image wide nodes ++ extents_at image wide m.place
extents_then image wide nodes m =
    flat_map-append (λ (w : Waiting). extents_at image wide w.place) nodes (m ∷ [])
    ∙ ap (λ es. met_extents image wide nodes ++ es) (append-nil (extents_at image wide m.place))

spent_then : (image : List ℕ) (wide : Bool) (nodes : List Waiting) (m : Waiting) (used : ℕ) → used ≡ 266 + total_length (met_extents image wide nodes)
    → used + total_length (extents_at image wide m.place) ≡ 266 + total_length (met_extents image wide (nodes ++ m ∷ []))
spent_then image wide nodes m used is =
    ap (λ n. n + total_length (extents_at image wide m.place)) is ∙ add_assoc 266 (total_length (met_extents image wide nodes)) (total_length (extents_at image wide m.place))
    ∙ ap (λ n. 266 + n) (sym (ap total_length (extents_then image wide nodes m) ∙ total_length-append (met_extents image wide nodes) (extents_at image wide m.place)))

-- ---- a node below the root

module _ (image : List ℕ) (wide : Bool) (end : ℕ) (same_wide : wide ≡ is_wide image) (same_end : end ≡ last_byte image) where
  -- its rules, as the survey has them
  survey_rows : (s : Progress) (m : Met) (name : List ℕ) (u : IsNextIn image m name s) (known : Bool) (used : ℕ) → known ≡ contains nat_cmp s.places m.place → used ≡ s.used
      → rows_of image u.survey.kept (waiting_of m) ≡ node_rows_at image wide end known used m.place m.entry m.depth
  survey_rows s m name u known used is spent = rw (same_wide, same_end, is ∙ u.survey.places m.place, spent ∙ u.survey.used) refl

  -- it broke no rule, and its children wait in its place
  pub keeps_so : (s mid t : Progress) (m : Met) (name : List ℕ) (known : Bool) (used : ℕ) (next : Next) → IsNextIn image m name s → known ≡ contains nat_cmp s.places m.place → used ≡ s.used
      → first_broken (node_rows_at image wide end known used m.place m.entry m.depth) ≡ None → LeadsTo image wide used m.place next → length s.families.items ≡ length s.names.items + 1
      → Enters name s mid → Keeps m next mid t → IsSurvey image (waiting_in image t.families.items) t
  keeps_so s mid t m name known used next u is spent kept leads many enters keeps =
      let survey = u.survey in
      let w : Waiting = waiting_of m in
      let numbered : length mid.nodes.items ≡ length survey.kept =
      ap (λ v. length v.items) enters.nodes ∙ sym (length-map s.nodes.items node_place) ∙ ap length survey.named ∙ length-map survey.kept named_node in
      let families = keeps.families ∙ ap (λ v. v.items ++ record { number = length mid.nodes.items; depth = m.depth; table = next.table; children = next.children; next = 0 } ∷ []) enters.families in
      record {
        kept = survey.kept ++ waiting_of m ∷ [];
        out = survey.out;
        left = survey.left;
        surveying = subst (λ (xs : List Waiting). IsSurveying image xs (survey.kept ++ waiting_of m ∷ []) survey.out survey.left)
            (sym (family_waits image _ _ _ refl families
            ∙ ap (λ n. waiting_in image s.families.items ++ reverse (waiting_children image n (length mid.nodes.items) (m.depth + 1) next.children)) leads.table
            ∙ ap (λ n. waiting_in image s.families.items ++ reverse (waiting_children image (table_in image m.place) n (m.depth + 1) next.children)) numbered
            ∙ ap (λ n. waiting_in image s.families.items ++ reverse (waiting_children image (table_in image m.place) (length survey.kept) (m.depth + 1) n)) leads.children))
            (laws.keeps image (waiting_in image s.families.items) w survey.kept survey.out survey.left survey.surveying (ap first_broken (survey_rows s m name u known used is spent) ∙ kept));
        named = keeps.nodes ∙ ap (λ v. map node_place v.items ++ named_node w ∷ []) enters.nodes ∙ ap (λ ns. ns ++ named_node w ∷ []) survey.named ∙ sym (map-append named_node survey.kept (w ∷ []));
        places = λ q. keeps.places q ∙ ap (λ p. cond (m.place == q) true (contains nat_cmp p q)) enters.places ∙ ap (cond (m.place == q) true) (survey.places q) ∙ sym (known_then survey.kept w q);
        used = keeps.used ∙ leads.spent ∙ ap (λ b. used + total_length (extents_at image b m.place)) same_wide ∙ spent_then image (is_wide image) survey.kept w used (spent ∙ survey.used);
        ways = subst (λ fs. AreWays (survey.kept ++ waiting_of m ∷ []) fs t.names.items) (sym families)
            (subst (λ ns. AreWays (survey.kept ++ waiting_of m ∷ []) (s.families.items ++ record { number = length mid.nodes.items; depth = m.depth; table = next.table; children = next.children; next = 0 } ∷ []) ns)
            (sym (ap (λ v. v.items) keeps.names ∙ enters.names)) (ways_then survey.kept s.families.items s.names.items w name _ survey.ways many u.entry u.below u.way numbered));
        told = subst (λ v. AreTold (survey.kept ++ waiting_of m ∷ []) survey.out survey.left v.items) (sym (keeps.left ∙ enters.left)) (told_later survey.kept (w ∷ []) survey.out survey.left s.left.items survey.told);
      }

  -- it broke a rule, and is left out
  pub omits_so : (s t : Progress) (m : Met) (name : List ℕ) (known : Bool) (used : ℕ) (b : Broken) → IsNextIn image m name s → known ≡ contains nat_cmp s.places m.place → used ≡ s.used
      → first_broken (node_rows_at image wide end known used m.place m.entry m.depth) ≡ Some (fault b) → Omits name b s t → IsSurvey image (waiting_in image t.families.items) t
  omits_so s t m name known used b u is spent broken omits =
      let survey = u.survey in
      let o = laws.omits image (waiting_in image s.families.items) (waiting_of m) survey.kept survey.out survey.left (fault b) survey.surveying (ap first_broken (survey_rows s m name u known used is spent) ∙ broken) in
      record {
        kept = survey.kept;
        out = survey.out ++ waiting_of m ∷ [];
        left = survey.left ++ (o.0, fault b) ∷ [];
        surveying = subst (λ v. IsSurveying image (waiting_in image v.items) survey.kept (survey.out ++ waiting_of m ∷ []) (survey.left ++ (o.0, fault b) ∷ [])) (sym omits.families) o.1;
        named = ap (λ v. map node_place v.items) omits.nodes ∙ survey.named;
        places = λ q. ap (λ p. contains nat_cmp p q) omits.places ∙ survey.places q;
        used = omits.used ∙ survey.used;
        ways = subst (λ v. AreWays survey.kept v.items t.names.items) (sym omits.families) (subst (λ v. AreWays survey.kept s.families.items v.items) (sym omits.names) survey.ways);
        told = subst (λ ls. AreTold survey.kept (survey.out ++ waiting_of m ∷ []) (survey.left ++ (o.0, fault b) ∷ []) ls) (sym omits.left)
            (told_then survey.kept survey.out survey.left s.left.items (waiting_of m) o.0 (fault b) _ survey.told
            (record { name = name; names = map trimmed s.names.items; entry = u.entry; below = u.below; way = u.way; path = refl; rule = refl; place = refl }));
      }

-- ---- the root

module _ (image : List ℕ) (start : Start) (head : IsStart image start) where
  abbrev root : Met
  root = record { place = start.root; entry = None; parent = 0; position = 0; depth = 0 }

  root_waits : waiting_of root ≡ waiting_root image
  root_waits = ap (λ (p : ℕ). record { place = p; entry = None; parent = 0; position = 0; depth = 0 }) head.root

  begun : IsSurveying image (waiting_of root ∷ []) [] [] []
  begun = subst (λ (w : Waiting). IsSurveying image (w ∷ []) [] [] []) (sym root_waits) (laws.start image)

  root_rows : (known : Bool) (used : ℕ) → known ≡ false → used ≡ 266 → rows_of image [] (waiting_of root) ≡ node_rows_at image start.span.wide start.span.end known used start.root None 0
  root_rows known used is spent = rw (head.span.wide, head.span.end, is, spent) refl

  -- it broke no rule
  pub root_kept : (s t : Progress) (known : Bool) (used : ℕ) (next : Next) → IsEmpty s → known ≡ false → used ≡ 266
      → first_broken (node_rows_at image start.span.wide start.span.end known used start.root None 0) ≡ None → LeadsTo image start.span.wide used start.root next → Keeps root next s t → IsSurvey image (waiting_in image t.families.items) t
  root_kept s t known used next empty is spent kept leads keeps =
      let none : length s.nodes.items ≡ 0 = ap length empty.nodes in
      let families = keeps.families ∙ ap (λ fs. fs ++ record { number = length s.nodes.items; depth = 0; table = next.table; children = next.children; next = 0 } ∷ []) empty.families in
      record {
        kept = waiting_of root ∷ [];
        out = [];
        left = [];
        surveying = subst (λ (xs : List Waiting). IsSurveying image xs (waiting_of root ∷ []) [] [])
            (sym (family_waits image _ [] _ refl families
            ∙ ap (λ n. reverse (waiting_children image n (length s.nodes.items) 1 next.children)) leads.table
            ∙ ap (λ n. reverse (waiting_children image (table_in image start.root) n 1 next.children)) none
            ∙ ap (λ n. reverse (waiting_children image (table_in image start.root) 0 1 n)) leads.children))
            (laws.keeps image [] (waiting_of root) [] [] [] begun (ap first_broken (root_rows known used is spent) ∙ kept));
        named = keeps.nodes ∙ ap (λ ns. map node_place ns ++ named_node (waiting_of root) ∷ []) empty.nodes;
        places = λ q. keeps.places q ∙ ap (λ b. cond (start.root == q) true b) (ap (list_any (is_at (nat_cmp q))) empty.places) ∙ sym (known_then [] (waiting_of root) q);
        used = keeps.used ∙ leads.spent ∙ ap (λ b. used + total_length (extents_at image b start.root)) head.span.wide ∙ spent_then image (is_wide image) [] (waiting_of root) used spent;
        ways = subst (λ fs. AreWays (waiting_of root ∷ []) fs t.names.items) (sym families)
            (subst (λ ns. AreWays (waiting_of root ∷ []) (record { number = length s.nodes.items; depth = 0; table = next.table; children = next.children; next = 0 } ∷ []) ns)
            (sym (ap (λ v. v.items) keeps.names ∙ empty.names)) (first_way _ none));
        told = subst (λ ls. AreTold (waiting_of root ∷ []) [] [] ls) (sym (ap (λ v. v.items) keeps.left ∙ empty.left)) tt;
      }
    where
      first_way : (f : Family) → f.number ≡ 0 → AreWays (waiting_of root ∷ []) (f ∷ []) []
      first_way f number zero g at = subst (λ n. IsWayTo (waiting_of root ∷ []) n []) (sym (ap (λ (x : Family). x.number) (sym (same_Some f g at)) ∙ number)) (to_root refl refl refl)
      first_way f number (suc k) g at = absurd (not_there g at)

  -- it broke a rule, and there is no sound part
  pub root_out : (known : Bool) (used : ℕ) (h : Halt) → known ≡ false → used ≡ 266 → Breaks (node_rows_at image start.span.wide start.span.end known used start.root None 0) h → EndsSurvey image h
  root_out known used halt.Memory is spent broken = tt
  root_out known used halt.Read is spent broken = tt
  root_out known used (halt.Broken b) is spent broken =
      let o = laws.omits image [] (waiting_of root) [] [] [] (fault b) begun (ap first_broken (root_rows known used is spent) ∙ broken) in
      let end = laws.ended image [] (waiting_of root ∷ []) ((o.0, fault b) ∷ []) o.1 in
      inr (record {
        header = head.kept;
        survey = subst (λ seen. NodeSurvey image (seen, (root_visit image, fault b) ∷ [])) (none_kept end.0 end.2)
            (subst (λ (v : Visit). NodeSurvey image (end.0, (v, fault b) ∷ [])) (root_is end.0 o.0 end.3.0) end.1);
      })
    where
      none_kept : (seen : List Visit) → AreMet seen [] seen → seen ≡ []
      none_kept [] h = refl
      none_kept (v ∷ vs) h = absurd h

      no_path : (p : List ℕ) → 0 ≡ length p → p ≡ []
      no_path [] e = refl
      no_path (x ∷ p) e = absurd (omega (arith, e))

      root_is : (seen : List Visit) (v : Visit) → IsMet seen (waiting_of root) v → v ≡ root_visit image
      root_is seen v met =
          ap (λ (n : ℕ). record { place = n; entry = v.entry; path = v.path }) (sym met.place ∙ head.root) ∙ ap (λ o. record { place = (root_visit image).place; entry = o; path = v.path }) (sym met.entry)
          ∙ ap (λ p. record { place = (root_visit image).place; entry = None; path = p }) (no_path v.path met.depth)

-- ---- what ends no survey

-- want of memory is no broken rule
pub no_rule : (image : List ℕ) (h : Halt) → IsWant h → EndsSurvey image h
no_rule image (halt.Broken b) want = absurd want
no_rule image halt.Memory want = tt
no_rule image halt.Read want = absurd want

pub no_fault : (image : List ℕ) (h : Halt) → IsNoFault h → EndsSurvey image h
no_fault image (halt.Broken b) none = absurd none
no_fault image halt.Memory none = tt
no_fault image halt.Read none = tt

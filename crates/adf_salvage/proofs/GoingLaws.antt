-- What holds between two steps of a survey, whether bytes are told or not.
use Rattle.std.proofs.Common.{◌≡◌, inl, ℕ, ◌+◌, ◌*◌, ◌<◌, ◌≤◌, Bool, List, [], ◌∷◌, ◌++◌, map, length, take, refl, sym, ◌∙◌, ap, subst, arith, length-append, length-take}
use Rattle.std.specs.Prelude.{Some, unwrap_or, replicate}
use Rattle.std.specs.List.{All}
use Rattle.std.proofs.lemmas.List.{length-map}
use Rattle.std.proofs.lemmas.List.Elements.{All-nil, All-push}
use Rattle.adf_format.specs.Fields.{trimmed}
use Rattle.adf_format.specs.Parts.{node_length}
use Rattle.adf_format.specs.RuleNumbers.{IsRule}
use Rattle.layout_laws.specs.NodePass.{Waiting, waiting_child}
use Rattle.layout_lint.specs.declared.look.Next.{Next}
use Rattle.layout_lint.specs.declared.node.Met.{Met}
use Rattle.layout_lint.specs.declared.stack.Family.{Family}
use Rattle.layout_lint.specs.declared.verdict.Broken.{Broken}
use Rattle.layout_lint.specs.Nodes.{IsNext}
use Rattle.layout_lint.specs.Shapes.{AreLinked, AreWithin, IsFamilyOf, IsChildIn, IsTop, MayFollow, met_place}
use Rattle.layout_lint.specs.Walks.{node_place, waiting_of, waiting_in, left_in, IsDone, TakesFrom, IsOpen}
use Rattle.layout_lint.proofs.ShapeLaws.{linked_then, within_then, families_then, child_follows, some_then}
use Rattle.layout_lint.proofs.StackLaws.{further, of_taken, of_rest, open_further, stepped_taken, deep_taken, one_less, one_waits, none_waits, so_many_more, stepped_open}
use Rattle.adf_salvage.specs.declared.progress.Progress.{Progress}
use Rattle.adf_salvage.specs.LeftOut.{way_text, HasRule}
use Rattle.adf_salvage.specs.Surveys.{IsEmpty, Keeps, Enters, Omits, IsGoing, IsSurvey, IsNextIn, IsWayTo, AreWays, ahead}
use Rattle.adf_salvage.proofs.WayLaws.{ways_first, way_last}

-- ---- a node is kept

module _ (wide : Bool) (end : ℕ) (s mid t : Progress) (m : Met) (name : List ℕ) (used : ℕ) (next : Next) (going : IsGoing wide end s) (deep : m.depth ≡ length s.families.items) (many : length s.families.items ≡ length s.names.items + 1)
    (follows : MayFollow (map node_place s.nodes.items) (met_place m)) (spent : used ≡ s.used) (leads : IsNext end used m.depth next) (inside : (266 ≤ m.place) × (m.place + node_length wide ≤ end + 1)) (enters : Enters name s mid) (keeps : Keeps m next mid t) where
  abbrev family : Family
  family = record { number = length mid.nodes.items; depth = m.depth; table = next.table; children = next.children; next = 0 }

  pushed : t.families.items ≡ s.families.items ++ record { number = length mid.nodes.items; depth = m.depth; table = next.table; children = next.children; next = 0 } ∷ []
  pushed = keeps.families ∙ ap (λ v. v.items ++ record { number = length mid.nodes.items; depth = m.depth; table = next.table; children = next.children; next = 0 } ∷ []) enters.families

  nodes : map node_place t.nodes.items ≡ map node_place s.nodes.items ++ met_place m ∷ []
  nodes = keeps.nodes ∙ ap (λ v. map node_place v.items ++ met_place m ∷ []) enters.nodes

  numbered : length mid.nodes.items ≡ length (map node_place s.nodes.items)
  numbered = ap (λ v. length v.items) enters.nodes ∙ sym (length-map s.nodes.items node_place)

  names : length t.names.items ≡ length s.names.items + 1
  names = ap (λ v. length v.items) keeps.names ∙ ap length enters.names ∙ length-append s.names.items (name ∷ [])

  pub kept_going : IsGoing wide end t
  kept_going = record {
    readable = subst (All (IsOpen end)) (sym pushed) (All-push (IsOpen end) s.families.items family going.readable (record { shallow = leads.shallow; within = leads.within }));
    stepped = stepped_open family s.families.items t.families.items going.stepped pushed deep;
    families = subst (λ ns. All (IsFamilyOf ns) t.families.items) (sym nodes) (families_then (map node_place s.nodes.items) (met_place m) s.families.items t.families.items family going.families pushed numbered refl);
    linked = subst AreLinked (sym nodes) (linked_then (map node_place s.nodes.items) (met_place m) going.linked follows);
    headers = subst (AreWithin wide end) (sym nodes) (within_then wide end (map node_place s.nodes.items) (met_place m) going.headers inside);
    named = (let long = ap length pushed ∙ length-append s.families.items (family ∷ []) in let n = names in omega (arith, long, n, many));
    room = (let room = leads.room in let u = keeps.used in omega (arith, room, u));
    some = some_then t.nodes.items (map node_place s.nodes.items) (met_place m) nodes;
    rules = rw (keeps.left ∙ enters.left) going.rules;
  }

  pub kept_nearer : ahead end t ≤ ahead end s
  kept_nearer =
      let more = so_many_more family s.families.items t.families.items refl pushed in
      let rises = leads.more in
      let few = leads.few in
      let room = leads.room in
      let u = keeps.used in
      omega (arith, more, rises, few, room, u, spent)

-- ---- the root is kept

module _ (wide : Bool) (end : ℕ) (s t : Progress) (m : Met) (used : ℕ) (next : Next) (empty : IsEmpty s) (top : IsTop (met_place m)) (leads : IsNext end used m.depth next) (inside : (266 ≤ m.place) × (m.place + node_length wide ≤ end + 1)) (keeps : Keeps m next s t) where
  abbrev first : Family
  first = record { number = length s.nodes.items; depth = m.depth; table = next.table; children = next.children; next = 0 }

  one_family : t.families.items ≡ [] ++ record { number = length s.nodes.items; depth = m.depth; table = next.table; children = next.children; next = 0 } ∷ []
  one_family = keeps.families ∙ ap (λ fs. fs ++ record { number = length s.nodes.items; depth = m.depth; table = next.table; children = next.children; next = 0 } ∷ []) empty.families

  one_node : map node_place t.nodes.items ≡ [] ++ met_place m ∷ []
  one_node = keeps.nodes ∙ ap (λ ns. map node_place ns ++ met_place m ∷ []) empty.nodes

  pub root_going : IsGoing wide end t
  root_going = record {
    readable = subst (All (IsOpen end)) (sym one_family) (All-push (IsOpen end) [] first (All-nil (IsOpen end)) (record { shallow = leads.shallow; within = leads.within }));
    stepped = stepped_open first [] t.families.items (λ k f e. cc) one_family top.depth;
    families = subst (λ ns. All (IsFamilyOf ns) t.families.items) (sym one_node) (families_then [] (met_place m) [] t.families.items first (All-nil (IsFamilyOf [])) one_family (ap length empty.nodes) refl);
    linked = subst AreLinked (sym one_node) (linked_then [] (met_place m) (record { root = λ n e. cc; others = λ k n e. cc }) (inl (refl, top)));
    headers = subst (AreWithin wide end) (sym one_node) (within_then wide end [] (met_place m) (λ k n e. cc) inside);
    named = (let long = ap length one_family in omega (arith, long));
    room = (let room = leads.room in let u = keeps.used in omega (arith, room, u));
    some = some_then t.nodes.items [] (met_place m) one_node;
    rules = subst (All HasRule) (sym (ap (λ v. v.items) keeps.left ∙ empty.left)) (All-nil HasRule);
  }

-- ---- a node is left out

module _ (wide : Bool) (end : ℕ) (s t : Progress) (name : List ℕ) (b : Broken) (going : IsGoing wide end s) (omits : Omits name b s t) where
  pub omitted_going : IsRule b.rule → IsGoing wide end t
  omitted_going ruled = record {
    readable = rw omits.families going.readable;
    stepped = rw omits.families going.stepped;
    families = rw (omits.families, omits.nodes) going.families;
    linked = rw omits.nodes going.linked;
    headers = rw omits.nodes going.headers;
    named = rw (omits.families, omits.names) going.named;
    room = rw omits.used going.room;
    some = rw omits.nodes going.some;
    rules = subst (All HasRule) (sym omits.left) (All-push HasRule s.left.items (record { path = way_text (map trimmed s.names.items ++ trimmed name ∷ []); rule = b.rule; place = b.place }) going.rules ruled);
  }

  pub omitted_nearer : ahead end t ≤ ahead end s
  omitted_nearer = let u = omits.used in let f = ap (λ v. left_in v.items) omits.families in omega (arith, u, f)

-- ---- a child is taken

-- one more is counted as looked at, and no name stands behind that of its parent
pub record Takes (family : Family) (s t : Progress) : Type 0 where
  pub takes : TakesFrom family s.families.items t.families.items
  pub names : t.names.items ≡ take family.depth s.names.items
  pub nodes : t.nodes ≡ s.nodes
  pub places : t.places ≡ s.places
  pub used : t.used ≡ s.used
  pub left : t.left ≡ s.left

module _ (wide : Bool) (end : ℕ) (s t : Progress) (family : Family) (going : IsGoing wide end s) (taken : Takes family s t) where
  taken_open : IsOpen end family
  taken_open = of_taken (IsOpen end) family s.families.items t.families.items taken.takes going.readable

  pub taken_shallow : family.depth < 255
  taken_shallow = let waits = taken.takes.waits in taken_open.shallow (omega (arith, waits))

  pub taken_within : family.table.place + 16 + 44 * family.next + 44 ≤ end + 1
  taken_within = let waits = taken.takes.waits in let within = taken_open.within (omega (arith, waits)) in omega (arith, waits, within)

  height : family.depth ≡ length taken.takes.base
  height =
      let deep = deep_taken family s.families.items t.families.items taken.takes going.stepped in
      let long = ap length taken.takes.now ∙ length-append taken.takes.base (further family ∷ []) in
      omega (arith, deep, long)

  pub taken_named : length t.families.items ≡ length t.names.items + 1
  taken_named =
      let deep = deep_taken family s.families.items t.families.items taken.takes going.stepped in
      let few = ap length taken.names ∙ length-take family.depth s.names.items in
      let whole = ap length taken.takes.was ∙ length-append taken.takes.base (family ∷ taken.takes.done) in
      let high = height in
      let named = going.named in
      omega (arith, deep, few, whole, high, named)

  pub taken_going : IsGoing wide end t
  taken_going = record {
    readable = of_rest (IsOpen end) family s.families.items t.families.items taken.takes (open_further end family) going.readable;
    stepped = stepped_taken family s.families.items t.families.items taken.takes going.stepped;
    families = rw taken.nodes (of_rest (IsFamilyOf (map node_place s.nodes.items)) family s.families.items t.families.items taken.takes (λ is. record { parent = is.parent; stands = is.stands; depth = is.depth }) going.families);
    linked = rw taken.nodes going.linked;
    headers = rw taken.nodes going.headers;
    named = (let n = taken_named in omega (arith, n));
    room = rw taken.used going.room;
    some = rw taken.nodes going.some;
    rules = rw taken.left going.rules;
  }

  pub taken_deep : (m : Met) → IsChildIn family m → m.depth ≡ length t.families.items
  taken_deep m child = child.step ∙ deep_taken family s.families.items t.families.items taken.takes going.stepped

  pub taken_follows : (m : Met) → IsChildIn family m → MayFollow (map node_place t.nodes.items) (met_place m)
  taken_follows m child =
      rw taken.nodes (child_follows (map node_place s.nodes.items) family m some (of_taken (IsFamilyOf (map node_place s.nodes.items)) family s.families.items t.families.items taken.takes going.families) child)
    where
      some : 0 < length (map node_place s.nodes.items)
      some = let count = length-map s.nodes.items node_place in let nodes = going.some in omega (arith, count, nodes)

  pub taken_nearer : ahead end t < ahead end s
  taken_nearer = let less = one_less family s.families.items t.families.items taken.takes in let u = taken.used in omega (arith, less, u)

  -- it is the next of the survey
  pub taken_next : (image : List ℕ) (m : Met) (name : List ℕ) → IsChildIn family m → waiting_of m ≡ waiting_child image family.table.place family.number (family.depth + 1) family.next → name ≡ unwrap_or m.entry (replicate 32 32)
      → IsSurvey image (waiting_in image s.families.items) s → IsNextIn image m name t
  taken_next image m name child is named u = record {
    survey = record {
      kept = u.kept;
      out = u.out;
      left = u.left;
      surveying = rw (one_waits image family s.families.items t.families.items taken.takes ∙ ap (λ w. waiting_in image t.families.items ++ w ∷ []) (sym is)) at u.surveying;
      named = ap (λ v. map node_place v.items) taken.nodes ∙ u.named;
      places = λ q. rw taken.places (u.places q);
      used = taken.used ∙ u.used;
      ways = subst (λ ns. AreWays u.kept t.families.items ns) (sym short) (subst (λ fs. AreWays u.kept fs (take (length taken.takes.base) s.names.items)) (sym taken.takes.now)
          (ways_first u.kept taken.takes.base taken.takes.done family (further family) s.names.items (was u.kept u.ways) refl));
      told = rw taken.left u.told;
    };
    entry = named_so (ap (λ (w : Waiting). w.entry) is);
    below = (let step = child.step in omega (arith, step));
    way = subst (λ n. IsWayTo u.kept n (map trimmed t.names.items)) (sym child.parent)
        (subst (λ ns. IsWayTo u.kept family.number (map trimmed ns)) (sym short) (way_last u.kept taken.takes.base taken.takes.done family s.names.items (was u.kept u.ways)));
  }
    where
      short : t.names.items ≡ take (length taken.takes.base) s.names.items
      short = taken.names ∙ ap (λ n. take n s.names.items) height

      was : (kept : List Waiting) → AreWays kept s.families.items s.names.items → AreWays kept (taken.takes.base ++ family ∷ taken.takes.done) s.names.items
      was kept ways = subst (λ fs. AreWays kept fs s.names.items) taken.takes.was ways

      named_so : {e : List ℕ} → m.entry ≡ Some e → m.entry ≡ Some name
      named_so {e} has = has ∙ ap Some (sym (named ∙ ap (λ o. unwrap_or o (replicate 32 32)) has))

-- none waits any more
pub none_taken : (image : List ℕ) (s t : Progress) → All IsDone s.families.items × (t.families.items ≡ []) → t.names ≡ s.names → t.nodes ≡ s.nodes → t.places ≡ s.places → t.used ≡ s.used → t.left ≡ s.left
    → IsSurvey image (waiting_in image s.families.items) s → IsSurvey image (waiting_in image t.families.items) t
none_taken image s t took names nodes places used left u = record {
  kept = u.kept;
  out = u.out;
  left = u.left;
  surveying = rw (none_waits image s.families.items took.0 ∙ sym (ap (waiting_in image) took.1)) at u.surveying;
  named = ap (λ v. map node_place v.items) nodes ∙ u.named;
  places = λ q. rw places (u.places q);
  used = used ∙ u.used;
  ways = subst (λ fs. AreWays u.kept fs t.names.items) (sym took.1) (λ k f at. cc);
  told = rw left u.told;
}

pub none_going : (wide : Bool) (end : ℕ) (s t : Progress) → t.families.items ≡ [] → t.nodes ≡ s.nodes → t.used ≡ s.used → t.left ≡ s.left → IsGoing wide end s → IsGoing wide end t
none_going wide end s t none nodes used left going = record {
  readable = rw none (All-nil (IsOpen end));
  stepped = rw none (λ k f e. cc);
  families = rw none (All-nil (IsFamilyOf (map node_place t.nodes.items)));
  linked = rw nodes going.linked;
  headers = rw nodes going.headers;
  named = (let n = ap length none in omega (arith, n));
  room = rw used going.room;
  some = rw nodes going.some;
  rules = rw left going.rules;
}

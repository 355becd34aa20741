-- What is seen at a node is the visit of it, and what waits below it are the visits below.
use Rattle.std.proofs.Common.{◌≡◌, ◌∙◌, sym, ap, subst, refl, ℕ, Bool, true, false, List, [], ◌∷◌, ◌++◌}
use Rattle.std.specs.Prelude.{not, ◌&&◌, ◌||◌, ◌==◌, if◌then◌else◌, map, Option, Some, None, is_some, is_none, IfSome}
use Rattle.std.specs.List.{AllByRecursion}
use Rattle.std.proofs.lemmas.Bool.{eqb-true, eq-eqb}
use Rattle.adf_model.specs.declared.tree.Child.{Child}
use Rattle.adf_model.specs.declared.tree.NodeId.{NodeId}
use Rattle.adf_model.specs.Slots.{Files}
use Rattle.adf_model.proofs.Basics.{not_true}
use Rattle.sids_tables.specs.declared.labels.LabelKind.{LabelKind}
use Rattle.sids_tables.specs.declared.labels.LabelKind.TheVariants.{CgnsBase, Zone, Other}
use Rattle.sids_tables.specs.contracts.labels.LabelKindPartialEq.TheImpl as kind_eq
use Rattle.sids_views.specs.Asks.{IsThere, IsPlain}
use Rattle.sids_views.specs.Views.{is_same_node, node_there, is_link_there, target_of, reached, kind_there, is_kind, entry_of, entries_there}
use Rattle.sids_views.proofs.Asked.{found, node_is, plain_reach}
use Rattle.adf_format.specs.Tree.{is_link}
use Rattle.sids_rules.specs.declared.seen.Seen.{Seen}
use Rattle.sids_rules.specs.SeenNodes.{IsSeen}
use Rattle.sids_rules.specs.Walk.{Visit, is_entered, child_visit, visits_under}
use Rattle.cgns_check.specs.declared.frame.Stop.{Stop}
use Rattle.cgns_check.specs.declared.look.Sight.{Sight}
use Rattle.cgns_check.specs.Level.{Level}
use Rattle.cgns_check.specs.Levels.{visit_at, visit_of}
use Rattle.cgns_check.specs.Looks.{is_link_to, waiting_below, IsSeenAs, nearest_by, StandsUnder}

-- ---- links

pub and_both : (p q : Bool) → (p && q) ≡ true → (p ≡ true) × (q ≡ true)
and_both true q h = (refl, h)
and_both false q h = absurd (not_true h)

pub same_node : (a b : NodeId) → is_same_node a b ≡ true → a ≡ b
same_node a b h =
    let both = and_both (a.file == b.file) (a.serial == b.serial) h in
    let with_file : ℕ → NodeId = λ f. record { file = f; serial = a.serial } in
    let with_serial : ℕ → NodeId = λ s. record { file = b.file; serial = s } in
    ap with_file (eqb-true a.file b.file both.0) ∙ ap with_serial (eqb-true a.serial b.serial both.1)

pub same_self : (a : NodeId) → is_same_node a a ≡ true
same_self a = ap (λ p. p && (a.serial == a.serial)) (eq-eqb a.file a.file refl) ∙ eq-eqb a.serial a.serial refl

module _ (files : Files) (node : NodeId) (there : IsThere files node) where
  other_node : (at : NodeId) → is_link_there files node ≡ true → IsPlain files at → (b : Bool) → is_same_node node at ≡ b → not b ≡ true
  other_node at link plain true e = absurd (not_true (sym plain.no_link ∙ ap (is_link_there files) (sym (same_node node at e)) ∙ link))
  other_node at link plain false e = refl

  link_or : (b : Bool) → is_link_there files node ≡ b → (o : Option NodeId) → o ≡ target_of files node → IfSome o (IsPlain files) → is_link_to node o ≡ b
  link_or false link o is plain =
      let f = found files node there in
      let itself : target_of files node ≡ Some node = ap reached (plain_reach files node f (ap is_link (sym (node_is files node f)) ∙ link)) in
      ap (is_link_to node) (is ∙ itself) ∙ ap not (same_self node)
  link_or true link None is plain = refl
  link_or true link (Some at) is plain = other_node at link plain (is_same_node node at) refl

  -- a node is a link exactly where it is not followed to itself
  pub link_is : (o : Option NodeId) → o ≡ target_of files node → IfSome o (IsPlain files) → is_link_to node o ≡ is_link_there files node
  link_is o is plain = link_or (is_link_there files node) refl o is plain

-- ---- nodes of which no children are entered

-- a node, by what it is followed to
abbrev pub seen_to : Stop → Option NodeId → Seen
seen_to stop o = record { node = stop.node; target = o; parent = stop.parent; base = stop.base; zone = stop.zone }

module _ (files : Files) (stop : Stop) (there : IsThere files stop.node) where
  alone : (o : Option NodeId) → o ≡ target_of files stop.node → IfSome o (IsPlain files) → ((path : List (List ℕ)) → [] ≡ visits_under files (visit_at files path stop) o)
      → (sight : Sight) → sight.seen ≡ seen_to stop o → sight.note ≡ (stop.inside && is_link_to stop.node o) → sight.below ≡ None → IsSeenAs files stop sight
  alone o is plain none sight s n b = record {
    seen = s ∙ ap (seen_to stop) is;
    note = n ∙ ap (λ l. stop.inside && l) (link_is files stop.node there o is plain);
    below = λ path. ap (waiting_below files path) b ∙ none path ∙ ap (visits_under files (visit_at files path stop)) is;
    stand = λ path. subst (λ below. AllByRecursion (λ (visit : Visit). IsSeen files visit.seen) (waiting_below files path below)) (sym b) tt;
  }

  pub lost : None ≡ target_of files stop.node
      → (sight : Sight) → sight.seen ≡ seen_to stop None → sight.note ≡ (stop.inside && is_link_to stop.node None) → sight.below ≡ None → IsSeenAs files stop sight
  lost is sight s n b = alone None is tt (λ path. refl) sight s n b

  module _ (at : NodeId) (is : Some at ≡ target_of files stop.node) (plain : IsPlain files at) where
    unentered : ((path : List (List ℕ)) → is_entered files (visit_at files path stop) at ≡ false) → (path : List (List ℕ)) → [] ≡ visits_under files (visit_at files path stop) (Some at)
    unentered h path = sym (ap (λ b. if b then map (child_visit files (visit_at files path stop) at) (node_there files at).children else []) (h path))

    noted_to : (sight : Sight) → sight.note ≡ (stop.inside && is_link_to stop.node (Some at)) → (stop.inside && is_link_there files stop.node) ≡ sight.note
    noted_to sight n = ap (λ l. stop.inside && l) (sym (link_is files stop.node there (Some at) is plain)) ∙ sym n

    entered_as : (path : List (List ℕ)) (note wanted : Bool) → (stop.inside && is_link_there files stop.node) ≡ note → (is_none stop.parent || not (is_kind Other files at)) ≡ wanted → is_entered files (visit_at files path stop) at ≡ (not note && wanted)
    entered_as path note wanted n k = ap (λ b. not b && (is_none stop.parent || not (is_kind Other files at))) n ∙ ap (λ b. not note && b) k

    -- a link inside a link is not entered
    pub noted : (sight : Sight) → sight.seen ≡ seen_to stop (Some at) → sight.note ≡ (stop.inside && is_link_to stop.node (Some at)) → sight.below ≡ None → sight.note ≡ true → IsSeenAs files stop sight
    noted sight s n b is_noted =
        alone (Some at) is plain (unentered (λ path. entered_as path true _ (noted_to sight n ∙ is_noted) refl)) sight s n b

    neither : (b : Bool) → (not b && false) ≡ false
    neither true = refl
    neither false = refl

    -- nor is a node outside the profile
    pub passed : (sight : Sight) → sight.seen ≡ seen_to stop (Some at) → sight.note ≡ (stop.inside && is_link_to stop.node (Some at)) → sight.below ≡ None
        → (is_none stop.parent || not (is_kind Other files at)) ≡ false → IsSeenAs files stop sight
    passed sight s n b k =
        alone (Some at) is plain (unentered (λ path. entered_as path sight.note false (noted_to sight n) k ∙ neither sight.note)) sight s n b

    -- ---- nodes whose children are entered

    module _ (kind : LabelKind) (k : kind ≡ kind_there files at) (level : Level) (under : StandsUnder stop at kind level) where
      abbrev made : NodeId → Option NodeId → Option NodeId → Bool → List (List ℕ) → ℕ → Visit
      made parent base zone inside path serial = let node : NodeId = record { file = at.file; serial = serial } in record {
        seen = record { node = node; target = target_of files node; parent = Some parent; base = base; zone = zone };
        path = path ++ (node_there files node).name ∷ [];
        inside = inside;
      }

      nearest_is : (wanted : LabelKind) (above : Option NodeId) → nearest_by wanted kind stop.parent at above ≡ nearest_by wanted (kind_there files at) stop.parent at above
      nearest_is wanted above = ap (λ k. nearest_by wanted k stop.parent at above) k

      child_is : (path : List (List ℕ)) (serial : ℕ) → visit_of files path level (entry_of files at.file serial) ≡ child_visit files (visit_at files path stop) at serial
      child_is path serial =
          let inside = under.inside ∙ ap (λ l. stop.inside || l) (link_is files stop.node there (Some at) is plain) in
          let base = under.base ∙ nearest_is CgnsBase stop.base in
          let zone = under.zone ∙ nearest_is Zone stop.zone in
          ap (λ p. made p level.base level.zone level.inside path serial) under.own
          ∙ ap (λ b. made at b level.zone level.inside path serial) base
          ∙ ap (λ z. made at (nearest_by CgnsBase (kind_there files at) stop.parent at stop.base) z level.inside path serial) zone
          ∙ ap (λ i. made at (nearest_by CgnsBase (kind_there files at) stop.parent at stop.base) (nearest_by Zone (kind_there files at) stop.parent at stop.zone) i path serial) inside

      children_are : (path : List (List ℕ)) (serials : List ℕ) → map (visit_of files path level) (map (entry_of files at.file) serials) ≡ map (child_visit files (visit_at files path stop) at) serials
      children_are path [] = refl
      children_are path (serial ∷ serials) =
          ap (λ v. v ∷ map (visit_of files path level) (map (entry_of files at.file) serials)) (child_is path serial)
          ∙ ap (λ vs. child_visit files (visit_at files path stop) at serial ∷ vs) (children_are path serials)

      if_nearest : (wanted : LabelKind) (above : Option NodeId) → IfSome above (IsPlain files) → (b : Bool) → IfSome (if b then Some at else above) (IsPlain files)
      if_nearest wanted above h true = plain
      if_nearest wanted above h false = h

      all_seen : IsSeen files (visit_at files [] stop).seen → (path : List (List ℕ)) (children : List Child) → AllByRecursion (λ (entry : Child). IsThere files entry.node) children
          → AllByRecursion (λ (visit : Visit). IsSeen files visit.seen) (map (visit_of files path level) children)
      all_seen seen path [] h = tt
      all_seen seen path (child ∷ children) h = (
        record {
          there = h.0;
          target = refl;
          parent = subst (IsPlain files) (sym under.own) plain;
          base = subst (λ o. IfSome o (IsPlain files)) (sym under.base) (if_nearest CgnsBase stop.base seen.base (is_some stop.parent && kind_eq.ghosts.eq kind CgnsBase));
          zone = subst (λ o. IfSome o (IsPlain files)) (sym under.zone) (if_nearest Zone stop.zone seen.zone (is_some stop.parent && kind_eq.ghosts.eq kind Zone));
        },
        all_seen seen path children h.1,
      )

      -- the children of a node are those of its visit
      pub entered : IsSeen files (visit_at files [] stop).seen → (sight : Sight) → sight.seen ≡ seen_to stop (Some at) → sight.note ≡ (stop.inside && is_link_to stop.node (Some at)) → sight.note ≡ false
          → sight.below ≡ Some level → (is_none stop.parent || not (is_kind Other files at)) ≡ true
          → level.rest ≡ entries_there files at → AllByRecursion (λ (entry : Child). IsThere files entry.node) level.rest → IsSeenAs files stop sight
      entered seen sight s n plainly b in_profile rest live = record {
        seen = s ∙ ap (seen_to stop) is;
        note = n ∙ ap (λ l. stop.inside && l) (link_is files stop.node there (Some at) is plain);
        below = λ path.
            ap (waiting_below files path) b
            ∙ ap (map (visit_of files path level)) rest
            ∙ children_are path (node_there files at).children
            ∙ sym (ap (λ b. if b then map (child_visit files (visit_at files path stop) at) (node_there files at).children else []) (entered_as path false true (noted_to sight n ∙ plainly) in_profile))
            ∙ ap (visits_under files (visit_at files path stop)) is;
        stand = λ path. subst (λ below. AllByRecursion (λ (visit : Visit). IsSeen files visit.seen) (waiting_below files path below)) (sym b) (all_seen seen path level.rest live);
      }

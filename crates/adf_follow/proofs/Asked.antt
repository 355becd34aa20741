-- Queries: what comes of their walk, and of the node that is reached.
use Rattle.std.proofs.Common.{◌≡◌, inl, inr, ℕ, Bool, true, false, List, refl, sym, ◌∙◌, ap, subst, arith}
use Rattle.std.specs.Prelude.{Option, Some, None, IsTrue, if◌then◌else◌, Result, Ok, Err}
use Rattle.adf_model.specs.declared.error.AdfError.{AdfError}
use Rattle.adf_model.specs.declared.error.AdfError.TheVariants.{Memory, ReadFault, NotOpen, NoSuchFile, LinkMissing, LinkChain, Layout, NotFound}
use Rattle.adf_model.specs.declared.tree.NodeId.{NodeId}
use Rattle.adf_model.specs.declared.tree.Query.{Query}
use Rattle.adf_model.specs.declared.tree.Query.TheVariants.{Name, LabelOf, ShapeOf, ChildrenOf, LinkText, ReadAll, ReadPart, Find, Next, FormatOf, Parent, Target}
use Rattle.adf_model.specs.declared.tree.Reply.{Reply}
use Rattle.adf_model.specs.Tests.{and_then}
use Rattle.adf_model.specs.Slots.{Files, Devices, IsTold}
use Rattle.adf_model.specs.Follow.{Spot, follow, child_in, reach, search_path, link_text_at}
use Rattle.adf_model.specs.Answers.{asked_node, is_followed, goes_through_links, searched, may_refuse, answering_node, field_at, reply_to}
use Rattle.adf_model.specs.Steps.{HasReadFault}
use Rattle.adf_model.specs.Causes.{OnlyAsks}
use Rattle.adf_model.specs.Runs.{MeetsNoLink}
use Rattle.adf_model.proofs.Basics.{not_true, not_there, same_Ok}
use Rattle.adf_follow.specs.Looking.{IsToldIn, IsToldFrom, IsToldAsked, IsFound, IsWalked, HasWalkCause, HasFieldCause, HasAskCause, HasFileFault, as_is}
use Rattle.adf_follow.proofs.Looks.{told_in_on, fault_before, passed_on, goes_on}
use Rattle.adf_follow.proofs.Steps.{at_node}

-- ---- kinds of queries

pub followed_goes : (query : Query) → is_followed query ≡ true → goes_through_links query ≡ true
followed_goes (Find node path) e = refl
followed_goes (Name node) e = e
followed_goes (LabelOf node) e = e
followed_goes (ShapeOf node) e = e
followed_goes (ChildrenOf node) e = e
followed_goes (LinkText node) e = e
followed_goes (ReadAll node) e = e
followed_goes (ReadPart node selection) e = e
followed_goes (Next node) e = e
followed_goes (FormatOf node) e = e
followed_goes (Parent node) e = e
followed_goes (Target node) e = e

by_itself : (query : Query) → goes_through_links query ≡ false → is_followed query ≡ false
by_itself query e = by_kind (is_followed query) refl
  where
    by_kind : (b : Bool) → is_followed query ≡ b → is_followed query ≡ false
    by_kind false is = is
    by_kind true is = absurd (not_true (sym e ∙ followed_goes query is))

may_link : (query : Query) → goes_through_links query ≡ true → IsTrue (may_refuse query LinkMissing) × IsTrue (may_refuse query LinkChain)
may_link (Find node path) e = (refl, refl)
may_link (Name node) e = (e, e)
may_link (LabelOf node) e = (e, e)
may_link (ShapeOf node) e = (e, e)
may_link (ChildrenOf node) e = (e, e)
may_link (LinkText node) e = (e, e)
may_link (ReadAll node) e = (e, e)
may_link (ReadPart node selection) e = (e, e)
may_link (Next node) e = (e, e)
may_link (FormatOf node) e = (e, e)
may_link (Parent node) e = (e, e)
may_link (Target node) e = (e, e)

not_searched : (query : Query) → ((node : NodeId) (path : List ℕ) → query ≡ Find node path → ⊥) → searched query ≡ None
not_searched (Find node path) plain = absurd (plain node path refl)
not_searched (Name node) plain = refl
not_searched (LabelOf node) plain = refl
not_searched (ShapeOf node) plain = refl
not_searched (ChildrenOf node) plain = refl
not_searched (LinkText node) plain = refl
not_searched (ReadAll node) plain = refl
not_searched (ReadPart node selection) plain = refl
not_searched (Next node) plain = refl
not_searched (FormatOf node) plain = refl
not_searched (Parent node) plain = refl
not_searched (Target node) plain = refl

-- ---- causes

module _ (files : Files) (query : Query) where
  -- a walk fails as a query may that goes through links
  pub walk_asks : (missing : AdfError) (before now : Devices) → goes_through_links query ≡ true → HasAskCause files query before now missing → (error : AdfError) → HasWalkCause missing files before now error → HasAskCause files query before now error
  walk_asks missing before now goes may Memory h = tt
  walk_asks missing before now goes may ReadFault h = subst (λ (b : Bool). HasReadFault b (asked_node query).file files before now) (sym goes) h
  walk_asks missing before now goes may (Layout rule place) h = h
  walk_asks missing before now goes may AdfError.Broken h = (goes, h)
  walk_asks missing before now goes may LinkMissing h = (may_link query goes).0
  walk_asks missing before now goes may LinkChain h = (may_link query goes).1
  walk_asks missing before now goes may error h = subst (HasAskCause files query before now) (sym h) may

  -- and so does a look at the node that is reached: the one that is named, where no link is followed
  pub field_asks : (after : Files) (before first now : Devices) (at : NodeId) → OnlyAsks files before first after → (is_followed query ≡ false → at ≡ asked_node query)
      → (error : AdfError) → HasFieldCause after query at.file first now error → HasAskCause files query before now error
  field_asks after before first now at leaves stays Memory h = tt
  field_asks after before first now at leaves stays ReadFault h = by_kind (goes_through_links query) refl
    where
      fault : HasFileFault files at.file before now
      fault = fault_before files after before first now at.file leaves h

      by_kind : (b : Bool) → goes_through_links query ≡ b → HasReadFault b (asked_node query).file files before now
      by_kind true is = (at.file, fault.0, fault.1)
      by_kind false is = (subst (λ (n : NodeId). HasFileFault files n.file before now) (stays (by_itself query is)) fault).1
  field_asks after before first now at leaves stays (Layout rule place) h = h
  field_asks after before first now at leaves stays AdfError.Broken h = absurd h
  field_asks after before first now at leaves stays NotOpen h = absurd h
  field_asks after before first now at leaves stays NoSuchFile h = absurd h
  field_asks after before first now at leaves stays LinkMissing h = absurd h
  field_asks after before first now at leaves stays LinkChain h = absurd h
  field_asks after before first now at leaves stays error h = h

-- ---- a path is searched

module _ (files : Files) (before now : Devices) (node : NodeId) (path : List ℕ) where
  -- all files tell where a search is told
  search_told : IsToldAsked files before (Find node path) → IsTold files before
  search_told told = elim told [
    | inl all ↦ all
    | inr own ↦ elim own.1 [ inl goes ↦ absurd (not_true (sym goes)) | inr meets ↦ absurd (not_there path (sym meets.0)) ]
  ]

  abbrev wanted_path : Result NodeId AdfError
  wanted_path = search_path (follow files) (child_in files) NotFound node path

  pub path_found : (at : NodeId) → IsWalked (IsTold files before) NotFound files before now as_is wanted_path (Ok at)
      → IsFound (IsToldAsked files before (Find node path)) (HasAskCause files (Find node path) before now) as_is (reply_to files (Find node path) (Some path)) (Ok (Reply.Node at))
  path_found at h = λ told. ap (λ r. and_then r (λ (found : NodeId). Ok (Reply.Node found))) (h (search_told told))

  pub path_fails : (error : AdfError) → IsWalked (IsTold files before) NotFound files before now as_is wanted_path (Err error)
      → IsFound (IsToldAsked files before (Find node path)) (HasAskCause files (Find node path) before now) as_is (reply_to files (Find node path) (Some path)) (Err error)
  path_fails error h = passed_on (IsToldAsked files before (Find node path)) (IsTold files before) (HasWalkCause NotFound files before now) (HasAskCause files (Find node path) before now) as_is as_is wanted_path
      (reply_to files (Find node path) (Some path)) error (walk_asks files (Find node path) NotFound before now refl refl error) search_told
      (λ told e. ap (λ r. and_then r (λ (found : NodeId). Ok (Reply.Node found))) e) h

-- ---- a node is reached

module _ (files : Files) (query : Query) (before : Devices) where
  -- where the query is told, following its node is
  from_told : is_followed query ≡ true → IsToldAsked files before query → IsToldFrom files before (asked_node query)
  from_told follows told = elim told [
    | inl all ↦ inl all
    | inr own ↦ elim own.1 [ inl goes ↦ absurd (not_true (sym goes ∙ followed_goes query follows)) | inr meets ↦ inr (own.0, meets.1) ]
  ]

  is_reached : is_followed query ≡ true → answering_node files query ≡ reach files (asked_node query)
  is_reached follows = ap (λ (b : Bool). if b then reach files (asked_node query) else Ok (asked_node query)) follows

  is_named : is_followed query ≡ false → answering_node files query ≡ Ok (asked_node query)
  is_named stays = ap (λ (b : Bool). if b then reach files (asked_node query) else Ok (asked_node query)) stays

  pub node_reached : (now : Devices) (node : NodeId) (result : Result NodeId AdfError) → is_followed query ≡ true → node ≡ asked_node query → IsWalked (IsToldFrom files before node) LinkMissing files before now as_is (reach files node) result
      → IsFound (IsToldAsked files before query) (HasAskCause files query before now) as_is (answering_node files query) result
  node_reached now node result follows is h =
      let goes = followed_goes query follows in
      goes_on (IsToldAsked files before query) (IsToldFrom files before (asked_node query)) (HasWalkCause LinkMissing files before now) (HasAskCause files query before now) as_is (reach files (asked_node query)) (answering_node files query) result
      (walk_asks files query LinkMissing before now goes (may_link query goes).0) (from_told follows) (λ told. is_reached follows)
      (subst (λ (n : NodeId). IsWalked (IsToldFrom files before n) LinkMissing files before now as_is (reach files n) result) is h)

  pub node_named : (now : Devices) → is_followed query ≡ false → IsFound (IsToldAsked files before query) (HasAskCause files query before now) as_is (answering_node files query) (Ok (asked_node query))
  node_named now stays told = is_named stays

  -- the file of the node that is reached is told
  told_there : (at : NodeId) → answering_node files query ≡ Ok at → IsToldAsked files before query → IsToldIn files before at.file
  told_there at reached told = elim told [
    | inl all ↦ all at.file
    | inr own ↦ subst (λ (n : NodeId). IsToldIn files before n.file) (same_Ok (sym (same_node own.1) ∙ reached)) own.0
  ]
    where
      same_node : MeetsNoLink files query → answering_node files query ≡ Ok (asked_node query)
      same_node meets = by_kind (is_followed query) refl
        where
          no_link : is_followed query ≡ true → link_text_at files (asked_node query) ≡ None
          no_link follows = elim meets [ inl goes ↦ absurd (not_true (sym goes ∙ followed_goes query follows)) | inr none ↦ none.1 ]

          by_kind : (b : Bool) → is_followed query ≡ b → answering_node files query ≡ Ok (asked_node query)
          by_kind false is = is_named is
          by_kind true is = is_reached is ∙ ap (λ r. and_then r (λ (spot : Spot). Ok spot.node)) (at_node files (asked_node query) 100 (omega arith) (no_link is))

  -- what is answered at the node that was reached
  pub answered_at : (after : Files) (first now : Devices) (at : NodeId) (result : Result Reply AdfError) → OnlyAsks files before first after → (is_followed query ≡ false → at ≡ asked_node query)
      → (IsToldAsked files before query → answering_node files query ≡ Ok at)
      → IsFound (IsToldIn after first at.file) (HasFieldCause after query at.file first now) as_is (field_at after at query) result
      → IsFound (IsToldAsked files before query) (HasAskCause files query before now) as_is (reply_to files query None) result
  answered_at after first now at result leaves stays reached h =
      goes_on (IsToldAsked files before query) (IsToldIn after first at.file) (HasFieldCause after query at.file first now) (HasAskCause files query before now) as_is (field_at after at query) (reply_to files query None) result
      (field_asks files query after before first now at leaves stays)
      (λ told. told_in_on files after before first at.file leaves (told_there at (reached told) told))
      (λ told. ap (λ r. and_then r (λ (at : NodeId). field_at files at query)) (reached told) ∙ ap (λ f. field_at f at query) (sym leaves.files_stay)) h

  -- or where it was not reached
  pub not_reached : (now : Devices) (error : AdfError) → IsFound (IsToldAsked files before query) (HasAskCause files query before now) as_is (answering_node files query) (Err error)
      → IsFound (IsToldAsked files before query) (HasAskCause files query before now) as_is (reply_to files query None) (Err error)
  not_reached now error h = passed_on (IsToldAsked files before query) (IsToldAsked files before query) (HasAskCause files query before now) (HasAskCause files query before now) as_is as_is (answering_node files query) (reply_to files query None) error
      (λ cause. cause) (λ told. told) (λ told e. ap (λ r. and_then r (λ (at : NodeId). field_at files at query)) e) h

  -- of a query that searches no path
  pub plain_found : (now : Devices) (result : Result Reply AdfError) → ((node : NodeId) (path : List ℕ) → query ≡ Find node path → ⊥) → IsFound (IsToldAsked files before query) (HasAskCause files query before now) as_is (reply_to files query None) result
      → IsFound (IsToldAsked files before query) (HasAskCause files query before now) as_is (reply_to files query (searched query)) result
  plain_found now result plain h = subst (λ (o : Option (List ℕ)). IsFound (IsToldAsked files before query) (HasAskCause files query before now) as_is (reply_to files query o) result) (sym (not_searched query plain)) h

  -- and of one that does
  pub search_found : (now : Devices) (node : NodeId) (path given : List ℕ) (result : Result Reply AdfError) → query ≡ Find node path → given ≡ path
      → IsFound (IsToldAsked files before (Find node given)) (HasAskCause files (Find node given) before now) as_is (reply_to files (Find node given) (Some given)) result
      → IsFound (IsToldAsked files before query) (HasAskCause files query before now) as_is (reply_to files query (searched query)) result
  search_found now node path given result is same h =
      subst (λ (q : Query). IsFound (IsToldAsked files before q) (HasAskCause files q before now) as_is (reply_to files q (searched q)) result) (ap (Find node) same ∙ sym is) h

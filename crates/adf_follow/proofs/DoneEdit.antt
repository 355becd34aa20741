-- One edit of a group: where it leads, and what is done.
use Rattle.std.proofs.Common.{◌≡◌, ◌⊎◌, inl, inr, ℕ, Bool, true, false, not, List, [], ◌∷◌, refl, sym, ◌∙◌, ap, subst, arith}
use Rattle.std.specs.Prelude.{Option, Some, None, IsSome, Ok, Err, ◌==◌}
use Rattle.std.specs.List.{list_any, AllByRecursion}
use Rattle.adf_model.specs.declared.error.AdfError.{AdfError}
use Rattle.adf_model.specs.declared.error.AdfError.TheVariants.{LinkMissing, NoSuchNode, ReadOnly}
use Rattle.adf_model.specs.declared.tree.Edit.{Edit}
use Rattle.adf_model.specs.declared.tree.Edit.TheVariants.{Create, Delete, Rename, Move, SetLabel, SetDims, PutAll, PutPart, Link}
use Rattle.adf_model.specs.declared.tree.NodeId.{NodeId}
use Rattle.adf_model.specs.Tests.{checked, and_then}
use Rattle.adf_model.specs.Edits.{apply, named_nodes, followed, with_followed, names_link}
use Rattle.adf_format.specs.Tree.{node_at, is_live}
use Rattle.adf_model.specs.Slots.{Open, Files, Devices, open_at}
use Rattle.adf_model.specs.Follow.{Spot, reach, text_of_open, link_text_at}
use Rattle.adf_model.specs.OneFile.{StandsIn}
use Rattle.adf_model.specs.Calls.{is_live_in, tests_at_entry, resolved, resolve}
use Rattle.adf_model.specs.Causes.{OnlyAsks}
use Rattle.adf_model.proofs.Basics.{same_Ok, same_Some, not_there, done, or_none, not_false, equal}
use Rattle.adf_model.proofs.Following.StepTests.{followed_same, step_tests}
use Rattle.adf_model.proofs.Following.OneFileLaws.{no_text, entry_tests}
use Rattle.adf_follow.specs.Groups.{FileWork, with_there, led_from, led_to, AreOpen, IsEditTold, IsToldBy, IsStepped, IsDone}
use Rattle.adf_follow.specs.Looking.{IsToldIn, IsToldFrom, IsWalked, HasWalkCause, as_is}
use Rattle.adf_follow.proofs.Looks.{told_in_on, passed_on}
use Rattle.adf_follow.proofs.Steps.{at_node}
use Rattle.adf_follow.proofs.Entered.{Passed, passes, passes_refused, live_opens}

pub all_there : (number : ℕ) (nodes : List NodeId) → list_any (λ (node : NodeId). not (node.file == number)) nodes ≡ false → AllByRecursion (λ (node : NodeId). node.file ≡ number) nodes
all_there number [] e = tt
all_there number (node ∷ nodes) e =
    let parts = or_none (not (node.file == number)) (list_any (λ (n : NodeId). not (n.file == number)) nodes) e in
    (equal node.file number (not_false (node.file == number) parts.0), all_there number nodes parts.1)

-- an edit names a node, and others behind it
pub first_of : (edit : Edit) → (node : NodeId) × (rest : List NodeId) × (named_nodes edit ≡ node ∷ rest)
first_of (Create n wanted label) = (n, [], refl)
first_of (Delete n) = (n, [], refl)
first_of (Rename n wanted) = (n, [], refl)
first_of (Move n to) = (n, to ∷ [], refl)
first_of (SetLabel n label) = (n, [], refl)
first_of (SetDims n shape) = (n, [], refl)
first_of (PutAll n given) = (n, [], refl)
first_of (PutPart n selection given) = (n, [], refl)
first_of (Link n wanted file path) = (n, [], refl)

-- what holds of all nodes of an edit holds of the first
pub first_has : (P : NodeId → Type 0) (edit : Edit) → AllByRecursion P (named_nodes edit) → P (first_of edit).0
first_has P edit all = (subst (AllByRecursion P) (first_of edit).2 all).0

-- and of the one that it follows
followed_has : (P : NodeId → Type 0) (edit : Edit) (node : NodeId) → AllByRecursion P (named_nodes edit) → followed edit ≡ Some node → P node
followed_has P (Create n wanted label) node all e = subst P (same_Some n node e) all.0
followed_has P (Delete n) node all e = absurd (not_there node e)
followed_has P (Rename n wanted) node all e = absurd (not_there node e)
followed_has P (Move n to) node all e = subst P (same_Some to node e) all.1.0
followed_has P (SetLabel n label) node all e = subst P (same_Some n node e) all.0
followed_has P (SetDims n shape) node all e = subst P (same_Some n node e) all.0
followed_has P (PutAll n given) node all e = subst P (same_Some n node e) all.0
followed_has P (PutPart n selection given) node all e = subst P (same_Some n node e) all.0
followed_has P (Link n wanted file path) node all e = subst P (same_Some n node e) all.0

-- and of all nodes with another in the place of that one, of which it holds too
others_have : (P : NodeId → Type 0) (edit : Edit) (there : NodeId) → AllByRecursion P (named_nodes edit) → P there → AllByRecursion P (named_nodes (with_followed edit there))
others_have P (Create n wanted label) there all h = (h, tt)
others_have P (Delete n) there all h = all
others_have P (Rename n wanted) there all h = all
others_have P (Move n to) there all h = (all.0, (h, tt))
others_have P (SetLabel n label) there all h = (h, tt)
others_have P (SetDims n shape) there all h = (h, tt)
others_have P (PutAll n given) there all h = (h, tt)
others_have P (PutPart n selection given) there all h = (h, tt)
others_have P (Link n wanted file path) there all h = (h, tt)

-- ---- the files of its nodes are open

-- behind the entry they are
pub entered_open : (files : Files) (nodes : List NodeId) → Passed (tests_at_entry files nodes) → AreOpen files nodes
entered_open files nodes e = by_node nodes (passes (tests_at_entry files nodes) e).1.1.1.0
  where
    by_node : (nodes : List NodeId) → list_any (λ (node : NodeId). not (is_live_in (open_at files node.file) node.serial)) nodes ≡ false → AreOpen files nodes
    by_node [] e = tt
    by_node (node ∷ nodes) e =
        let parts = or_none (not (is_live_in (open_at files node.file) node.serial)) (list_any (λ (n : NodeId). not (is_live_in (open_at files n.file) n.serial)) nodes) e in
        (live_opens (open_at files node.file) node.serial (not_false _ parts.0), by_node nodes parts.1)

pub open_on : (files : Files) (edit : Edit) (node there : NodeId) → followed edit ≡ Some node → (IsSome (open_at files node.file) → IsSome (open_at files there.file)) → AreOpen files (named_nodes edit) → AreOpen files (named_nodes (with_there edit (Some there)))
open_on files edit node there e on all = let Is : NodeId → Type 0 = λ n. IsSome (open_at files n.file) in others_have Is edit there all (on (followed_has Is edit node all e))

-- so the file of the group is
pub open_there : (files mid : Files) (edit : Edit) (there : Option NodeId) (number : ℕ) → mid ≡ files → AreOpen files (named_nodes (with_there edit there))
    → list_any (λ (node : NodeId). not (node.file == number)) (named_nodes (with_there edit there)) ≡ false → IsSome (open_at mid number)
open_there files mid edit there number same all near =
    let reached = with_there edit there in
    subst (λ (f : Files). IsSome (open_at f number)) (sym same) (subst (λ n. IsSome (open_at files n)) (first_has (λ (n : NodeId). n.file ≡ number) reached (all_there number (named_nodes reached) near))
    (first_has (λ (n : NodeId). IsSome (open_at files n.file)) reached all))

-- the edit of the node that its links lead to
pub leads_there : (files : Files) (edit : Edit) (there : Option NodeId) → led_to files edit ≡ Ok there → resolve files edit ≡ Ok (with_there edit there)
leads_there files edit there e = by_followed (followed edit) e
  where
    by_followed : (o : Option NodeId) → led_from files o ≡ Ok there → resolved files edit o ≡ Ok (with_there edit there)
    by_followed None e = ap (λ t. Ok (with_there edit t)) (same_Ok e)
    by_followed (Some node) e =
        let r = done (reach files node) (λ there. Ok (Some there)) there e in
        ap (λ r. and_then r (λ there. Ok (with_followed edit there))) r.1 ∙ ap (λ t. Ok (with_there edit t)) (same_Ok r.2)

module _ (files : Files) (before : Devices) (edit : Edit) (entry : Passed (tests_at_entry files (named_nodes edit))) where
  -- ---- where it leads

  -- no link is met
  no_link : (one : IsEditTold files before edit) → names_link one.opened.tree (followed edit) ≡ false
  no_link one = by_link (names_link one.opened.tree (followed edit)) refl
    where
      none_dead : list_any (λ (node : NodeId). not (is_live one.opened.tree node.serial)) (named_nodes edit) ≡ false
      none_dead = (passes ((list_any (λ (node : NodeId). not (is_live one.opened.tree node.serial)) (named_nodes edit), NoSuchNode) ∷ []) (entry ∙ entry_tests files one.number one.opened one.live (named_nodes edit) one.stands (Ok tt))).0

      by_link : (b : Bool) → names_link one.opened.tree (followed edit) ≡ b → names_link one.opened.tree (followed edit) ≡ false
      by_link false is = is
      by_link true is = absurd (one.no_link (
          step_tests one.opened.writable one.opened.tree edit
          ∙ ap (λ (d : Bool). checked ((d, NoSuchNode) ∷ (names_link one.opened.tree (followed edit), LinkMissing) ∷ (not one.opened.writable, ReadOnly) ∷ []) (apply one.opened.tree edit)) none_dead
          ∙ ap (λ (l : Bool). checked ((l, LinkMissing) ∷ (not one.opened.writable, ReadOnly) ∷ []) (apply one.opened.tree edit)) is
          ))

  plain : (one : IsEditTold files before edit) (node : NodeId) → followed edit ≡ Some node → link_text_at files node ≡ None
  plain one node e =
      let at = followed_has (λ (n : NodeId). n.file ≡ one.number) edit node one.stands e in
      ap (λ (o : Option Open). text_of_open o node.serial) (ap (open_at files) at ∙ one.live)
      ∙ no_text (node_at one.opened.tree node.serial) (ap (names_link one.opened.tree) (sym e) ∙ no_link one)

  from_told : (node : NodeId) → followed edit ≡ Some node → IsToldBy files before edit → IsToldFrom files before node
  from_told node e told = elim told [
    | inl all ↦ inl all.0
    | inr one ↦ inr (subst (IsToldIn files before) (sym (followed_has (λ (n : NodeId). n.file ≡ one.number) edit node one.stands e)) one.told, plain one node e)
  ]

  pub leads_on : (node there : NodeId) → followed edit ≡ Some node → (IsToldFrom files before node → reach files node ≡ Ok there) → IsToldBy files before edit → led_to files edit ≡ Ok (Some there)
  leads_on node there e h told = ap (led_from files) e ∙ ap (λ r. and_then r (λ (there : NodeId). Ok (Some there))) (h (from_told node e told))

  pub leads_nowhere : (now : Devices) (node : NodeId) (error : AdfError) → followed edit ≡ Some node → IsWalked (IsToldFrom files before node) LinkMissing files before now as_is (reach files node) (Err error)
      → IsWalked (IsToldBy files before edit) LinkMissing files before now as_is (led_to files edit) (Err error)
  leads_nowhere now node error e h = passed_on (IsToldBy files before edit) (IsToldFrom files before node) (HasWalkCause LinkMissing files before now) (HasWalkCause LinkMissing files before now) as_is as_is (reach files node) (led_to files edit) error
      (λ cause. cause) (from_told node e) (λ told failed. ap (led_from files) e ∙ ap (λ r. and_then r (λ (there : NodeId). Ok (Some there))) failed) h

  -- an edit that meets no link is one of its own nodes
  pub itself : IsEditTold files before edit → (there : Option NodeId) → led_to files edit ≡ Ok there → with_there edit there ≡ edit
  itself one there e = by_followed (followed edit) refl e
    where
      by_followed : (o : Option NodeId) → followed edit ≡ o → led_from files o ≡ Ok there → with_there edit there ≡ edit
      by_followed None is e = ap (with_there edit) (sym (same_Ok e))
      by_followed (Some node) is e =
          let reached : reach files node ≡ Ok node = ap (λ r. and_then r (λ (spot : Spot). Ok spot.node)) (at_node files node 100 (omega arith) (plain one node is)) in
          let same : Some node ≡ there = same_Ok (sym (ap (λ r. and_then r (λ (there : NodeId). Ok (Some there))) reached) ∙ e) in
          ap (with_there edit) (sym same) ∙ followed_same edit node is

  pub own_reached : IsEditTold files before edit → (reached : Edit) → resolve files edit ≡ Ok reached → reached ≡ edit
  own_reached one reached e = by_followed (followed edit) refl e
    where
      by_followed : (o : Option NodeId) → followed edit ≡ o → resolved files edit o ≡ Ok reached → reached ≡ edit
      by_followed None is e = sym (same_Ok e)
      by_followed (Some node) is e =
          let here : reach files node ≡ Ok node = ap (λ r. and_then r (λ (spot : Spot). Ok spot.node)) (at_node files node 100 (omega arith) (plain one node is)) in
          sym (same_Ok (sym (ap (λ r. and_then r (λ there. Ok (with_followed edit there))) here) ∙ e)) ∙ followed_same edit node is

  -- the file of the nodes that it reaches is told
  pub told_there : (there : Option NodeId) (number : ℕ) → led_to files edit ≡ Ok there → StandsIn number (with_there edit there) → IsToldBy files before edit → IsToldIn files before number
  told_there there number e stands told = elim told [
    | inl all ↦ all.0 number
    | inr one ↦
        let own : StandsIn number edit = subst (StandsIn number) (itself one there e) stands in
        subst (IsToldIn files before) (sym (first_has (λ (n : NodeId). n.file ≡ one.number) edit one.stands) ∙ first_has (λ (n : NodeId). n.file ≡ number) edit own) one.told
  ]

  -- ---- what is done

  pub one_done : (mid after : Files) (first : Devices) (was waiting work : ℕ → FileWork) (group : Option ℕ) (there : Option NodeId) (number : ℕ) (serial : Option ℕ) → OnlyAsks files before first mid → waiting ≡ was
      → (IsToldBy files before edit → led_to files edit ≡ Ok there) → (group ≡ None) ⊎ (group ≡ Some number)
      → list_any (λ (node : NodeId). not (node.file == number)) (named_nodes (with_there edit there)) ≡ false
      → (IsToldIn mid first number → IsStepped mid after waiting work number (with_there edit there) serial) → IsToldBy files before edit → IsDone files after was work group edit number serial
  one_done mid after first was waiting work group there number serial leaves still led own near stepped told =
      let stands : StandsIn number (with_there edit there) = all_there number (named_nodes (with_there edit there)) near in
      record {
        reached = with_there edit there;
        entered = passes_refused (tests_at_entry files (named_nodes edit)) entry;
        leads = leads_there files edit there (led told);
        own = own;
        stands = stands;
        stepped = subst (λ w. IsStepped files after w work number (with_there edit there) serial) still (subst (λ f. IsStepped f after waiting work number (with_there edit there) serial) leaves.files_stay
            (stepped (told_in_on files mid before first number leaves (told_there there number (led told) stands told))));
      }

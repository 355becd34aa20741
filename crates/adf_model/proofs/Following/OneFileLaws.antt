-- Where no link is met, edits of nodes of one open file give among many files what they give on its tree.
use Rattle.std.proofs.Common.{◌≡◌, ◌≢◌, ◌⊎◌, ℕ, ◌≤◌, arith, inl, inr, zero, suc, Bool, true, false, not, List, [], ◌∷◌, ◌++◌, refl, sym, ◌∙◌, ap, subst}
use Rattle.std.specs.Prelude.{Option, Some, None, IsSome, ◌==◌, ◌||◌, if◌then◌else◌, unwrap_or, Result, Ok, Err}
use Rattle.std.specs.List.{list_any, AllByRecursion}
use Rattle.std.proofs.lemmas.Bool.Decides.{eqb_tells}
use Rattle.adf_model.specs.declared.error.AdfError.{AdfError}
use Rattle.adf_model.specs.declared.error.AdfError.TheVariants.{NotOpen, NoSuchFile, ReadOnly, NoSuchNode, OtherFile, LinkMissing}
use Rattle.adf_model.specs.declared.error.EditError.{EditError}
use Rattle.adf_model.specs.declared.tree.Edit.{Edit}
use Rattle.adf_model.specs.declared.tree.Edit.TheVariants.{Create, Delete, Rename, Move, SetLabel, SetDims, PutAll, PutPart, Link}
use Rattle.adf_model.specs.declared.tree.NodeId.{NodeId}
use Rattle.adf_model.specs.Tests.{Test, first_refusal, checked, and_then, if_there}
use Rattle.adf_format.specs.Tree.{Node, Tree, node_at, is_live, is_link_in}
use Rattle.adf_model.specs.Edits.{apply, named_nodes, followed, with_followed, names_link, created_by, IsReached, file_step, Work, at_edit, file_group_from, file_group}
use Rattle.adf_model.specs.Slots.{Open, Slot, Files, AreTrees, slot_at, is_gone, is_open, is_broken, open_at, with_slot}
use Rattle.adf_model.specs.Slots.Slot.{Live}
use Rattle.adf_model.specs.Follow.{follow, follow_text, reach, text_in, text_of_open, link_text_at}
use Rattle.adf_model.specs.Calls.{Group, is_live_in, tests_at_entry, resolved, resolve, group_of, file_of, file_of_group, group_after, edit_reached, group_step, group_from, edit_group}
use Rattle.adf_model.specs.OneFile.{StandsIn, outcome_of_group, outcome_of_work}
use Rattle.adf_model.proofs.Basics.{not_there, not_false, or_none, same_Some, same_Ok, done}
use Rattle.adf_model.proofs.Answering.LayoutLemmas.{live_slot}
use Rattle.adf_model.proofs.Following.StepTests.{followed_same, step_tests}
use Rattle.adf_model.proofs.Following.FollowLaws.{follow-step}
use Rattle.adf_model.proofs.Keeping.GroupKeeps.{resolve_reaches, reached_in_tree, followed_live}

-- ---- tests and chains

abbrev AllIn : ℕ → List NodeId → Type 0
AllIn number nodes = AllByRecursion (λ (node : NodeId). node.file ≡ number) nodes

any_none : (number : ℕ) (test : NodeId → Bool) → ((node : NodeId) → node.file ≡ number → test node ≡ false) → (nodes : List NodeId) → AllIn number nodes → list_any test nodes ≡ false
any_none number test none [] all = refl
any_none number test none (node ∷ nodes) all = ap (λ b. b || list_any test nodes) (none node all.0) ∙ any_none number test none nodes all.1

any_same : (number : ℕ) (one other : NodeId → Bool) → ((node : NodeId) → node.file ≡ number → one node ≡ other node) → (nodes : List NodeId) → AllIn number nodes → list_any one nodes ≡ list_any other nodes
any_same number one other same [] all = refl
any_same number one other same (node ∷ nodes) all = ap (λ b. b || list_any one nodes) (same node all.0) ∙ ap (λ b. other node || b) (any_same number one other same nodes all.1)

checked_then : {A B : Type 0} (tests : List Test) (r : Result A AdfError) (next : A → Result B AdfError) → and_then (checked tests r) next ≡ checked tests (and_then r next)
checked_then [] r next = refl
checked_then {B = B} (test ∷ tests) r next = by_test test.0 (checked_then tests r next)
  where
    nothing : Result B AdfError
    nothing = Err test.1

    by_test : (b : Bool) → and_then (checked tests r) next ≡ checked tests (and_then r next) → and_then (if b then Err test.1 else checked tests r) next ≡ (if b then nothing else checked tests (and_then r next))
    by_test true later = refl
    by_test false later = later

-- only the last of four tests may hold
last_test : {A : Type 0} (one two three four last : Bool) → one ≡ false → two ≡ false → three ≡ false → four ≡ last → (r : Result A AdfError)
    → checked ((one, NoSuchFile) ∷ (two, NotOpen) ∷ (three, AdfError.Broken) ∷ (four, NoSuchNode) ∷ []) r ≡ checked ((last, NoSuchNode) ∷ []) r
last_test one two three four last e f g h r =
    ap (λ b. checked ((b, NoSuchFile) ∷ (two, NotOpen) ∷ (three, AdfError.Broken) ∷ (four, NoSuchNode) ∷ []) r) e
    ∙ ap (λ b. checked ((b, NotOpen) ∷ (three, AdfError.Broken) ∷ (four, NoSuchNode) ∷ []) r) f
    ∙ ap (λ b. checked ((b, AdfError.Broken) ∷ (four, NoSuchNode) ∷ []) r) g
    ∙ ap (λ b. checked ((b, NoSuchNode) ∷ []) r) h

equals_itself : (n : ℕ) → (n == n) ≡ true
equals_itself n = elim (eqb_tells n n) [ inl e ↦ e.0 | inr e ↦ absurd (e.1 refl) ]

-- it stands in the file
followed_in : (number : ℕ) (edit : Edit) (node : NodeId) → StandsIn number edit → followed edit ≡ Some node → node.file ≡ number
followed_in number edit node stands e = by_edit edit stands e
  where
    at : (n : NodeId) → n.file ≡ number → ◌≡◌ {A = Option NodeId} (Some n) (Some node) → node.file ≡ number
    at n file e = subst (λ (m : NodeId). m.file ≡ number) (same_Some n node e) file

    by_edit : (edit : Edit) → StandsIn number edit → followed edit ≡ Some node → node.file ≡ number
    by_edit (Create n wanted label) s e = at n s.0 e
    by_edit (Delete n) s e = absurd (not_there node e)
    by_edit (Rename n wanted) s e = absurd (not_there node e)
    by_edit (Move n to) s e = at to s.1.0 e
    by_edit (SetLabel n label) s e = at n s.0 e
    by_edit (SetDims n shape) s e = at n s.0 e
    by_edit (PutAll n given) s e = at n s.0 e
    by_edit (PutPart n selection given) s e = at n s.0 e
    by_edit (Link n wanted file path) s e = at n s.0 e

-- and so does the first node that it names
first_in : (number : ℕ) (edit : Edit) → StandsIn number edit → file_of (named_nodes edit) ≡ number
first_in number (Create n wanted label) s = s.0
first_in number (Delete n) s = s.0
first_in number (Rename n wanted) s = s.0
first_in number (Move n to) s = s.0
first_in number (SetLabel n label) s = s.0
first_in number (SetDims n shape) s = s.0
first_in number (PutAll n given) s = s.0
first_in number (PutPart n selection given) s = s.0
first_in number (Link n wanted file path) s = s.0

pub no_text : (o : Option Node) → is_link_in o ≡ false → text_in o ≡ None
no_text None e = refl
no_text (Some node) e = ap (λ b. if b then node.bytes else None) e

-- ---- one open file

module _ (files : Files) (number : ℕ) (opened : Open) (here : open_at files number ≡ Some opened) where
  pub opened_at : (node : NodeId) → node.file ≡ number → open_at files node.file ≡ Some opened
  opened_at node e = ap (open_at files) e ∙ here

  slot_of_node : (node : NodeId) → node.file ≡ number → slot_at files node.file ≡ Live opened
  slot_of_node node e = live_slot (slot_at files node.file) opened (opened_at node e)

  -- at entry it matters only whether the nodes are live
  pub entry_tests : {A : Type 0} (nodes : List NodeId) → AllIn number nodes → (r : Result A AdfError)
      → checked (tests_at_entry files nodes) r ≡ checked ((list_any (λ (node : NodeId). not (is_live opened.tree node.serial)) nodes, NoSuchNode) ∷ []) r
  entry_tests nodes all r =
      last_test (list_any (λ (node : NodeId). is_gone (slot_at files node.file)) nodes) (list_any (λ (node : NodeId). not (is_open (slot_at files node.file))) nodes)
      (list_any (λ (node : NodeId). is_broken (slot_at files node.file)) nodes) (list_any (λ (node : NodeId). not (is_live_in (open_at files node.file) node.serial)) nodes)
      (list_any (λ (node : NodeId). not (is_live opened.tree node.serial)) nodes)
      (any_none number (λ (node : NodeId). is_gone (slot_at files node.file)) (λ node e. ap is_gone (slot_of_node node e)) nodes all)
      (any_none number (λ (node : NodeId). not (is_open (slot_at files node.file))) (λ node e. ap (λ s. not (is_open s)) (slot_of_node node e)) nodes all)
      (any_none number (λ (node : NodeId). is_broken (slot_at files node.file)) (λ node e. ap is_broken (slot_of_node node e)) nodes all)
      (any_same number (λ (node : NodeId). not (is_live_in (open_at files node.file) node.serial)) (λ (node : NodeId). not (is_live opened.tree node.serial)) (λ node e. ap (λ o. not (is_live_in o node.serial)) (opened_at node e)) nodes all)
      r

  -- a node that is no link is reached at once
  pub reach_plain : (node : NodeId) → node.file ≡ number → is_link_in (node_at opened.tree node.serial) ≡ false → reach files node ≡ Ok node
  reach_plain node file plain =
      let text : link_text_at files node ≡ None = ap (λ o. text_of_open o node.serial) (opened_at node file) ∙ no_text (node_at opened.tree node.serial) plain in
      ap (λ r. and_then r (λ spot. Ok spot.node)) (follow-step files node 100 (hundred 100)) ∙ ap (λ t. and_then (follow_text (follow files) files node t node 100) (λ spot. Ok spot.node)) text
    where
      hundred : (n : ℕ) → n ≤ n
      hundred n = omega arith

  resolves : (edit : Edit) → StandsIn number edit → names_link opened.tree (followed edit) ≡ false → resolve files edit ≡ Ok edit
  resolves edit stands plain = by_followed (followed edit) refl
    where
      by_followed : (o : Option NodeId) → followed edit ≡ o → resolved files edit o ≡ Ok edit
      by_followed None e = refl
      by_followed (Some node) e =
          ap (λ r. and_then r (λ there. Ok (with_followed edit there))) (reach_plain node (followed_in number edit node stands e) (ap (names_link opened.tree) (sym e) ∙ plain))
          ∙ ap Ok (followed_same edit node e)

  -- the files with this state of the file, in the place of another
  in_place : (open_at files number ≡ Some opened) → with_slot files number (Live opened) ≡ files
  in_place e = same_slot files number e
    where
      same_slot : (files : Files) (number : ℕ) → open_at files number ≡ Some opened → with_slot files number (Live opened) ≡ files
      same_slot [] number e = refl
      same_slot (file ∷ files) zero e = ap (λ s. record file { slot = s } ∷ files) (sym (live_slot file.slot opened e))
      same_slot (file ∷ files) (suc number) e = ap (λ fs. file ∷ fs) (same_slot files number e)

pub slot_twice : (files : Files) (number : ℕ) (one other : Slot) → with_slot (with_slot files number one) number other ≡ with_slot files number other
slot_twice [] number one other = refl
slot_twice (file ∷ files) zero one other = refl
slot_twice (file ∷ files) (suc number) one other = ap (λ fs. file ∷ fs) (slot_twice files number one other)

pub opened_now : (files : Files) (number : ℕ) (opened next : Open) → open_at files number ≡ Some opened → open_at (with_slot files number (Live next)) number ≡ Some next
opened_now [] number opened next e = absurd (not_there opened e)
opened_now (file ∷ files) zero opened next e = refl
opened_now (file ∷ files) (suc number) opened next e = opened_now files number opened next e

-- ---- one edit

module _ (group : Group) (number : ℕ) (opened : Open) (here : open_at group.files number ≡ Some opened) (own : unwrap_or group.file number ≡ number) where
  own_file : (edit : Edit) → StandsIn number edit → file_of_group group edit ≡ number
  own_file edit stands = by_file group.file own
    where
      by_file : (file : Option ℕ) → unwrap_or file number ≡ number → unwrap_or file (file_of (named_nodes edit)) ≡ number
      by_file None e = first_in number edit stands
      by_file (Some n) e = e

  abbrev made : Edit → Tree → Result Group AdfError
  made edit tree = Ok (group_after group number opened edit tree)

  -- the edit in the file of this number
  abbrev reached_in : Edit → ℕ → Result Group AdfError
  reached_in edit n =
      if_there (open_at group.files n) NotOpen (λ at.
      checked ((list_any (λ (node : NodeId). not (node.file == n)) (named_nodes edit), OtherFile) ∷ (not at.writable, ReadOnly) ∷ [])
      (and_then (apply at.tree edit) (λ tree. Ok (group_after group n at edit tree))))

  reached_here : (edit : Edit) → StandsIn number edit → edit_reached group edit ≡ checked ((not opened.writable, ReadOnly) ∷ []) (and_then (apply opened.tree edit) (made edit))
  reached_here edit stands =
      ap (reached_in edit) (own_file edit stands)
      ∙ ap (λ o. if_there o NotOpen (λ at.
      checked ((list_any (λ (node : NodeId). not (node.file == number)) (named_nodes edit), OtherFile) ∷ (not at.writable, ReadOnly) ∷ [])
      (and_then (apply at.tree edit) (λ tree. Ok (group_after group number at edit tree))))) here
      ∙ ap (λ b. checked ((b, OtherFile) ∷ (not opened.writable, ReadOnly) ∷ []) (and_then (apply opened.tree edit) (made edit)))
      (any_none number (λ (node : NodeId). not (node.file == number)) (λ node e. ap (λ n. not (n == number)) e ∙ ap not (equals_itself number)) (named_nodes edit) stands)

  abbrev dead_named : Edit → Bool
  dead_named edit = list_any (λ (node : NodeId). not (is_live opened.tree node.serial)) (named_nodes edit)

  tests_in_order : (edit : Edit) (dead link : Bool) → StandsIn number edit → names_link opened.tree (followed edit) ≡ link
      → (checked ((dead, NoSuchNode) ∷ (link, LinkMissing) ∷ (not opened.writable, ReadOnly) ∷ []) (apply opened.tree edit) ≢ Err LinkMissing)
      → checked ((dead, NoSuchNode) ∷ []) (and_then (resolve group.files edit) (λ reached. edit_reached group reached))
      ≡ checked ((dead, NoSuchNode) ∷ (link, LinkMissing) ∷ (not opened.writable, ReadOnly) ∷ []) (and_then (apply opened.tree edit) (made edit))
  tests_in_order edit true link stands e no_link = refl
  tests_in_order edit false true stands e no_link = absurd (no_link refl)
  tests_in_order edit false false stands e no_link =
      ap (λ r. and_then r (λ reached. edit_reached group reached)) (resolves group.files number opened here edit stands e) ∙ reached_here edit stands

  pub one_step_as_many : (edit : Edit) → StandsIn number edit → file_step opened.writable opened.tree edit ≢ Err LinkMissing → group_step group edit ≡ and_then (file_step opened.writable opened.tree edit) (made edit)
  one_step_as_many edit stands no_link =
      entry_tests group.files number opened here (named_nodes edit) stands (and_then (resolve group.files edit) (λ reached. edit_reached group reached))
      ∙ tests_in_order edit (dead_named edit) (names_link opened.tree (followed edit)) stands refl (λ e. no_link (step_tests opened.writable opened.tree edit ∙ e))
      ∙ sym (checked_then ((dead_named edit, NoSuchNode) ∷ (names_link opened.tree (followed edit), LinkMissing) ∷ (not opened.writable, ReadOnly) ∷ []) (apply opened.tree edit) (made edit))
      ∙ sym (ap (λ r. and_then r (made edit)) (step_tests opened.writable opened.tree edit))

-- a group that has no file yet, or this one
pub in_its_file : (group : Group) (number : ℕ) (opened : Open) (edit : Edit) → open_at group.files number ≡ Some opened → (group.file ≡ None) ⊎ (group.file ≡ Some number) → StandsIn number edit → file_step opened.writable opened.tree edit ≢ Err LinkMissing
    → group_step group edit ≡ and_then (file_step opened.writable opened.tree edit) (λ tree. Ok (group_after group number opened edit tree))
in_its_file group number opened edit here own = one_step_as_many group number opened here (elim own [ inl e ↦ ap (λ f. unwrap_or f number) e | inr e ↦ ap (λ f. unwrap_or f number) e ]) edit

-- ---- one edit, through links

-- the node that an edit names and does not follow
abbrev kept_node : Edit → Option NodeId
kept_node (Create at wanted label) = None
kept_node (Delete node) = Some node
kept_node (Rename node wanted) = Some node
kept_node (Move node to) = Some node
kept_node (SetLabel node label) = None
kept_node (SetDims node shape) = None
kept_node (PutAll node given) = None
kept_node (PutPart node selection given) = None
kept_node (Link at wanted file path) = None

kept_still : (edit : Edit) (there : NodeId) → kept_node (with_followed edit there) ≡ kept_node edit
kept_still (Create at wanted label) there = refl
kept_still (Delete node) there = refl
kept_still (Rename node wanted) there = refl
kept_still (Move node to) there = refl
kept_still (SetLabel node label) there = refl
kept_still (SetDims node shape) there = refl
kept_still (PutAll node given) there = refl
kept_still (PutPart node selection given) there = refl
kept_still (Link at wanted file path) there = refl

-- it is one of those named
kept_passes : (test : NodeId → Bool) (edit : Edit) (node : NodeId) → list_any test (named_nodes edit) ≡ false → kept_node edit ≡ Some node → test node ≡ false
kept_passes test edit node none e = by_edit edit none e
  where
    at : (n : NodeId) (b : Bool) → (test n || b) ≡ false → ◌≡◌ {A = Option NodeId} (Some n) (Some node) → test node ≡ false
    at n b none e = ap test (sym (same_Some n node e)) ∙ (or_none (test n) b none).0

    by_edit : (edit : Edit) → list_any test (named_nodes edit) ≡ false → kept_node edit ≡ Some node → test node ≡ false
    by_edit (Create n wanted label) none e = absurd (not_there node e)
    by_edit (Delete n) none e = at n _ none e
    by_edit (Rename n wanted) none e = at n _ none e
    by_edit (Move n to) none e = at n _ none e
    by_edit (SetLabel n label) none e = absurd (not_there node e)
    by_edit (SetDims n shape) none e = absurd (not_there node e)
    by_edit (PutAll n given) none e = absurd (not_there node e)
    by_edit (PutPart n selection given) none e = absurd (not_there node e)
    by_edit (Link n wanted file path) none e = absurd (not_there node e)

kept_in : (number : ℕ) (edit : Edit) (node : NodeId) → StandsIn number edit → kept_node edit ≡ Some node → node.file ≡ number
kept_in number edit node stands e = by_edit edit stands e
  where
    at : (n : NodeId) → n.file ≡ number → ◌≡◌ {A = Option NodeId} (Some n) (Some node) → node.file ≡ number
    at n file e = subst (λ (m : NodeId). m.file ≡ number) (same_Some n node e) file

    by_edit : (edit : Edit) → StandsIn number edit → kept_node edit ≡ Some node → node.file ≡ number
    by_edit (Create n wanted label) s e = absurd (not_there node e)
    by_edit (Delete n) s e = at n s.0 e
    by_edit (Rename n wanted) s e = at n s.0 e
    by_edit (Move n to) s e = at n s.0 e
    by_edit (SetLabel n label) s e = absurd (not_there node e)
    by_edit (SetDims n shape) s e = absurd (not_there node e)
    by_edit (PutAll n given) s e = absurd (not_there node e)
    by_edit (PutPart n selection given) s e = absurd (not_there node e)
    by_edit (Link n wanted file path) s e = absurd (not_there node e)

-- where both live, no named node is dead
none_dead : (tree : Tree) (edit : Edit) → IsReached tree edit → ((node : NodeId) → kept_node edit ≡ Some node → is_live tree node.serial ≡ true) → list_any (λ (node : NodeId). not (is_live tree node.serial)) (named_nodes edit) ≡ false
none_dead tree edit reached kept = by_edit edit reached.live kept
  where
    one : (b : Bool) → b ≡ true → (not b || false) ≡ false
    one b e = ap (λ t. not t || false) e

    two : (a b : Bool) → a ≡ true → b ≡ true → (not a || (not b || false)) ≡ false
    two a b e f = ap (λ t. not t || (not b || false)) e ∙ one b f

    by_edit : (edit : Edit) → ((node : NodeId) → followed edit ≡ Some node → IsSome (node_at tree node.serial)) → ((node : NodeId) → kept_node edit ≡ Some node → is_live tree node.serial ≡ true)
        → list_any (λ (node : NodeId). not (is_live tree node.serial)) (named_nodes edit) ≡ false
    by_edit (Create n wanted label) live kept = one (is_live tree n.serial) (live n refl)
    by_edit (Delete n) live kept = one (is_live tree n.serial) (kept n refl)
    by_edit (Rename n wanted) live kept = one (is_live tree n.serial) (kept n refl)
    by_edit (Move n to) live kept = two (is_live tree n.serial) (is_live tree to.serial) (kept n refl) (live to refl)
    by_edit (SetLabel n label) live kept = one (is_live tree n.serial) (live n refl)
    by_edit (SetDims n shape) live kept = one (is_live tree n.serial) (live n refl)
    by_edit (PutAll n given) live kept = one (is_live tree n.serial) (live n refl)
    by_edit (PutPart n selection given) live kept = one (is_live tree n.serial) (live n refl)
    by_edit (Link n wanted file path) live kept = one (is_live tree n.serial) (live n refl)

-- an edit that links lead elsewhere keeps its other node
resolved_keeps : (files : Files) (edit reached : Edit) → resolve files edit ≡ Ok reached → kept_node reached ≡ kept_node edit
resolved_keeps files edit reached e = by_followed (followed edit) e
  where
    by_followed : (o : Option NodeId) → resolved files edit o ≡ Ok reached → kept_node reached ≡ kept_node edit
    by_followed None e = ap kept_node (sym (same_Ok e))
    by_followed (Some node) e = let r = done (reach files node) (λ there. Ok (with_followed edit there)) reached e in ap kept_node (sym (same_Ok r.2)) ∙ kept_still edit r.0

none_first : {A : Type 0} (tests : List Test) (r : Result A AdfError) → first_refusal tests ≡ None → checked tests r ≡ r
none_first [] r e = refl
none_first (test ∷ tests) r e = by_test test.0 e (none_first tests r)
  where
    some_none : (x : AdfError) → ◌≡◌ {A = Option AdfError} (Some x) None → ⊥
    some_none x e = cc

    by_test : (b : Bool) → (if b then Some test.1 else first_refusal tests) ≡ None → (first_refusal tests ≡ None → checked tests r ≡ r) → (if b then Err test.1 else checked tests r) ≡ r
    by_test true e later = absurd (some_none test.1 e)
    by_test false e later = later e

-- the last of the tests at entry finds no dead node
none_entered : (one two three four : Bool) → first_refusal ((one, NoSuchFile) ∷ (two, NotOpen) ∷ (three, AdfError.Broken) ∷ (four, NoSuchNode) ∷ []) ≡ None → four ≡ false
none_entered true two three four e = absurd (not_there NoSuchFile (sym e))
none_entered false true three four e = absurd (not_there NotOpen (sym e))
none_entered false false true four e = absurd (not_there AdfError.Broken (sym e))
none_entered false false false true e = absurd (not_there NoSuchNode (sym e))
none_entered false false false false e = refl

module _ (group : Group) (number : ℕ) (opened : Open) (edit reached : Edit) (trees : AreTrees group.files) (entered : first_refusal (tests_at_entry group.files (named_nodes edit)) ≡ None) (resolves_to : resolve group.files edit ≡ Ok reached)
    (here : open_at group.files number ≡ Some opened) (own : (group.file ≡ None) ⊎ (group.file ≡ Some number)) (stands : StandsIn number reached) where
  own_number : unwrap_or group.file number ≡ number
  own_number = elim own [ inl e ↦ ap (λ f. unwrap_or f number) e | inr e ↦ ap (λ f. unwrap_or f number) e ]

  entry_live : list_any (λ (node : NodeId). not (is_live_in (open_at group.files node.file) node.serial)) (named_nodes edit) ≡ false
  entry_live = none_entered (list_any (λ (node : NodeId). is_gone (slot_at group.files node.file)) (named_nodes edit)) (list_any (λ (node : NodeId). not (is_open (slot_at group.files node.file))) (named_nodes edit))
      (list_any (λ (node : NodeId). is_broken (slot_at group.files node.file)) (named_nodes edit)) (list_any (λ (node : NodeId). not (is_live_in (open_at group.files node.file) node.serial)) (named_nodes edit)) entered

  in_tree : IsReached opened.tree reached
  in_tree = reached_in_tree group.files opened number (trees number opened here) here reached (λ node e. followed_in number reached node stands e) (resolve_reaches group.files trees edit reached (followed_live group.files edit entry_live) resolves_to)

  kept_live : (node : NodeId) → kept_node reached ≡ Some node → is_live opened.tree node.serial ≡ true
  kept_live node e =
      let live = not_false _ (kept_passes (λ (n : NodeId). not (is_live_in (open_at group.files n.file) n.serial)) edit node entry_live (sym (resolved_keeps group.files edit reached resolves_to) ∙ e)) in
      subst (λ o. is_live_in o node.serial ≡ true) (opened_at group.files number opened here node (kept_in number reached node stands e)) live

  -- what is reached is done as on its tree alone
  pub reached_as_many : group_step group edit ≡ and_then (file_step opened.writable opened.tree reached) (λ tree. Ok (group_after group number opened reached tree))
  reached_as_many =
      none_first (tests_at_entry group.files (named_nodes edit)) (and_then (resolve group.files edit) (λ d. edit_reached group d)) entered
      ∙ ap (λ r. and_then r (λ d. edit_reached group d)) resolves_to
      ∙ reached_here group number opened here own_number reached stands
      ∙ sym (ap (λ b. checked ((b, NoSuchNode) ∷ (names_link opened.tree (followed reached), LinkMissing) ∷ (not opened.writable, ReadOnly) ∷ []) (and_then (apply opened.tree reached) (λ tree. Ok (group_after group number opened reached tree)))) (none_dead opened.tree reached in_tree kept_live)
      ∙ ap (λ b. checked ((b, LinkMissing) ∷ (not opened.writable, ReadOnly) ∷ []) (and_then (apply opened.tree reached) (λ tree. Ok (group_after group number opened reached tree)))) in_tree.no_link)
      ∙ sym (checked_then ((list_any (λ (node : NodeId). not (is_live opened.tree node.serial)) (named_nodes reached), NoSuchNode) ∷ (names_link opened.tree (followed reached), LinkMissing) ∷ (not opened.writable, ReadOnly) ∷ []) (apply opened.tree reached)
      (λ tree. Ok (group_after group number opened reached tree)))
      ∙ sym (ap (λ r. and_then r (λ tree. Ok (group_after group number opened reached tree))) (step_tests opened.writable opened.tree reached))

-- ---- a group

abbrev NoLink : Bool → ℕ → Work → List Edit → Type 0
NoLink writable from work edits = (at : ℕ) → file_group_from writable from work edits ≢ Err (record { at = at; error = LinkMissing })

-- the edits after one that left this tree
abbrev further : ℕ → Group → Open → Edit → List Edit → Tree → Result Work EditError
further from group opened edit edits tree = file_group_from opened.writable (suc from) (record { tree = tree; created = group.created ++ created_by opened.tree edit }) edits

pub many_from : (from : ℕ) (group : Group) (number : ℕ) (opened : Open) (edits : List Edit) → open_at group.files number ≡ Some opened → unwrap_or group.file number ≡ number → AllByRecursion (StandsIn number) edits
    → NoLink opened.writable from (record { tree = opened.tree; created = group.created }) edits
    → outcome_of_group (group_from from group edits) ≡ outcome_of_work group.files number opened (file_group_from opened.writable from (record { tree = opened.tree; created = group.created }) edits)
many_from from group number opened [] here own stand no_link = ap (λ (fs : Files). Ok (fs, group.created)) (sym (in_place group.files number opened here here))
many_from from group number opened (edit ∷ edits) here own stand no_link =
    ap (λ r. outcome_of_group (at_edit from r (λ next. group_from (suc from) next edits))) (one_step_as_many group number opened here own edit stand.0 (λ e. no_link from (ap (λ r. at_edit from r (further from group opened edit edits)) e)))
    ∙ by_step (file_step opened.writable opened.tree edit) (λ tree e.
    many_from (suc from) (group_after group number opened edit tree) number (record opened { tree = tree }) edits (opened_now group.files number opened (record opened { tree = tree }) here) refl stand.1
    (λ at f. no_link at (ap (λ r. at_edit from r (further from group opened edit edits)) e ∙ f)))
  where
    -- a tree that is put in place twice
    twice : (r : Result Work EditError) (tree : Tree) → outcome_of_work (with_slot group.files number (Live (record opened { tree = tree }))) number (record opened { tree = tree }) r ≡ outcome_of_work group.files number opened r
    twice (Err error) tree = refl
    twice (Ok work) tree = ap (λ (fs : Files). Ok (fs, work.created)) (slot_twice group.files number (Live (record opened { tree = tree })) (Live (record opened { tree = work.tree })))

    by_step : (r : Result Tree AdfError)
        → ((tree : Tree) → r ≡ Ok tree → outcome_of_group (group_from (suc from) (group_after group number opened edit tree) edits)
        ≡ outcome_of_work (with_slot group.files number (Live (record opened { tree = tree }))) number (record opened { tree = tree }) (further from group opened edit edits tree))
        → outcome_of_group (at_edit from (and_then r (λ tree. Ok (group_after group number opened edit tree))) (λ next. group_from (suc from) next edits)) ≡ outcome_of_work group.files number opened (at_edit from r (further from group opened edit edits))
    by_step (Err error) later = refl
    by_step (Ok tree) later = later tree refl ∙ twice (further from group opened edit edits tree) tree

pub one_group_as_many : (files : Files) (number : ℕ) (opened : Open) (edits : List Edit) → open_at files number ≡ Some opened → AllByRecursion (StandsIn number) edits
    → ((at : ℕ) → file_group opened.writable opened.tree edits ≢ Err (record { at = at; error = LinkMissing }))
    → outcome_of_group (edit_group files edits) ≡ outcome_of_work files number opened (file_group opened.writable opened.tree edits)
one_group_as_many files number opened edits here stand no_link = many_from 0 (group_of files) number opened edits here refl stand no_link

-- A group of edits on many files, through links, leaves trees.
use Rattle.std.proofs.Common.{◌≡◌, ℕ, zero, suc, Bool, true, false, not, List, [], ◌∷◌, refl, sym, ◌∙◌, ap, subst, ◌⊎◌, inl, inr}
use Rattle.std.specs.Prelude.{Option, Some, None, IsSome, ◌==◌, ◌||◌, if◌then◌else◌, Result, Ok, Err}
use Rattle.std.specs.List.{list_any}
use Rattle.adf_format.specs.declared.types.DataType.{DataType}
use Rattle.adf_format.specs.declared.types.DataType.TheVariants.{Mt, I4, I8, U4, U8, R4, R8, X4, X8, B1, C1, Lk}
use Rattle.adf_format.specs.Names.{is_lk}
use Rattle.adf_format.specs.Tree.{Node, Tree, node_at, is_link, is_link_in, IsTree}
use Rattle.adf_model.specs.declared.error.AdfError.{AdfError}
use Rattle.adf_model.specs.declared.error.EditError.{EditError}
use Rattle.adf_model.specs.declared.tree.Edit.{Edit}
use Rattle.adf_model.specs.declared.tree.Edit.TheVariants.{Create, Delete, Rename, Move, SetLabel, SetDims, PutAll, PutPart, Link}
use Rattle.adf_model.specs.declared.tree.NodeId.{NodeId}
use Rattle.adf_model.specs.Edits.{apply, named_nodes, followed, with_followed, names_link, IsReached, at_edit}
use Rattle.adf_model.specs.Slots.{Open, Files, slot_at, open_at, with_slot, AreTrees}
use Rattle.adf_model.specs.Slots.Slot.{Live}
use Rattle.adf_model.specs.Follow.{follow, reach, text_in, text_of_open, link_text_at}
use Rattle.adf_model.specs.Calls.{Group, is_live_in, tests_at_entry, resolved, resolve, group_of, file_of_group, group_after, edit_reached, group_step, group_from, edit_group}
use Rattle.adf_model.proofs.Basics.{not_true, or_none, not_false, not_there, same_Some, same_Ok, not_Err, passed, found, done, equal}
use Rattle.adf_model.proofs.Following.ReachLemmas.{IsLiveAt, follow_well}
use Rattle.adf_model.proofs.Keeping.EditsKeep.{apply_keeps}

-- ---- a file that changes its state

opened_in : (files : Files) (number n : ℕ) (o k : Open) → open_at (with_slot files number (Live o)) n ≡ Some k → (k ≡ o) ⊎ (open_at files n ≡ Some k)
opened_in [] number n o k e = inr e
opened_in (file ∷ files) zero zero o k e = inl (sym (same_Some o k e))
opened_in (file ∷ files) zero (suc n) o k e = inr e
opened_in (file ∷ files) (suc number) zero o k e = inr e
opened_in (file ∷ files) (suc number) (suc n) o k e = opened_in files number n o k e

-- ---- nodes that are reached

lk_alone : (kind : DataType) → is_lk kind ≡ true → kind ≡ Lk
lk_alone Lk e = refl
lk_alone Mt e = absurd (not_true e)
lk_alone I4 e = absurd (not_true e)
lk_alone I8 e = absurd (not_true e)
lk_alone U4 e = absurd (not_true e)
lk_alone U8 e = absurd (not_true e)
lk_alone R4 e = absurd (not_true e)
lk_alone R8 e = absurd (not_true e)
lk_alone X4 e = absurd (not_true e)
lk_alone X8 e = absurd (not_true e)
lk_alone B1 e = absurd (not_true e)
lk_alone C1 e = absurd (not_true e)

-- in a tree a node without link text is no link
no_text : (tree : Tree) → IsTree tree → (serial : ℕ) → text_in (node_at tree serial) ≡ None → is_link_in (node_at tree serial) ≡ false
no_text tree is serial e = by_node (node_at tree serial) refl e
  where
    some_none : (text : List ℕ) → ◌≡◌ {A = Option (List ℕ)} (Some text) None → ⊥
    some_none text e = cc

    by_link : (node : Node) (b : Bool) → node_at tree serial ≡ Some node → is_link node ≡ b → (if b then node.bytes else None) ≡ None → is_link node ≡ false
    by_link node false there link none = link
    by_link node true there link none = let l = (is.each serial node there).link (lk_alone node.kind link) in absurd (some_none l.text (sym l.held ∙ none))

    by_node : (o : Option Node) → node_at tree serial ≡ o → text_in o ≡ None → is_link_in o ≡ false
    by_node None there e = refl
    by_node (Some node) there e = by_link node (is_link node) there refl e

-- an edit with nodes in one file, where links are followed to a node that is reached
abbrev pub Reached : Files → Option NodeId → Type 0
Reached files None = Unit {0}
Reached files (Some node) = IsLiveAt files node × (link_text_at files node ≡ None)

-- the followed node of an edit is one of its nodes
pub followed_live : (files : Files) (edit : Edit) → list_any (λ (node : NodeId). not (is_live_in (open_at files node.file) node.serial)) (named_nodes edit) ≡ false → (node : NodeId) → followed edit ≡ Some node → IsLiveAt files node
followed_live files edit e node f = by_edit edit e f
  where
    first : (a b : Bool) → (not a || b) ≡ false → a ≡ true
    first a b e = not_false a (or_none (not a) b e).0

    at : (n : NodeId) → ◌≡◌ {A = Option NodeId} (Some n) (Some node) → is_live_in (open_at files n.file) n.serial ≡ true → IsLiveAt files node
    at n e live = subst (IsLiveAt files) (same_Some n node e) live

    by_edit : (edit : Edit) → list_any (λ (n : NodeId). not (is_live_in (open_at files n.file) n.serial)) (named_nodes edit) ≡ false → followed edit ≡ Some node → IsLiveAt files node
    by_edit (Create n wanted label) e f = at n f (first _ _ e)
    by_edit (Delete n) e f = absurd (not_there node f)
    by_edit (Rename n wanted) e f = absurd (not_there node f)
    by_edit (Move n to) e f = at to f (first _ _ (or_none (not (is_live_in (open_at files n.file) n.serial)) _ e).1)
    by_edit (SetLabel n label) e f = at n f (first _ _ e)
    by_edit (SetDims n shape) e f = at n f (first _ _ e)
    by_edit (PutAll n given) e f = at n f (first _ _ e)
    by_edit (PutPart n selection given) e f = at n f (first _ _ e)
    by_edit (Link n wanted file path) e f = at n f (first _ _ e)

-- another node in its place is then the followed one
followed_now : (edit : Edit) (node there : NodeId) → followed edit ≡ Some node → followed (with_followed edit there) ≡ Some there
followed_now (Create n wanted label) node there f = refl
followed_now (Delete n) node there f = absurd (not_there node f)
followed_now (Rename n wanted) node there f = absurd (not_there node f)
followed_now (Move n to) node there f = refl
followed_now (SetLabel n label) node there f = refl
followed_now (SetDims n shape) node there f = refl
followed_now (PutAll n given) node there f = refl
followed_now (PutPart n selection given) node there f = refl
followed_now (Link n wanted file path) node there f = refl

-- what an edit is resolved to has a followed node that is reached
pub resolve_reaches : (files : Files) → AreTrees files → (edit reached : Edit) → ((node : NodeId) → followed edit ≡ Some node → IsLiveAt files node) → resolve files edit ≡ Ok reached → Reached files (followed reached)
resolve_reaches files trees edit reached live e = by_followed (followed edit) refl e
  where
    by_followed : (o : Option NodeId) → followed edit ≡ o → resolved files edit o ≡ Ok reached → Reached files (followed reached)
    by_followed None f e = subst (λ (d : Edit). Reached files (followed d)) (same_Ok e) (subst (Reached files) (sym f) tt)
    by_followed (Some node) f e =
        let there = done (reach files node) _ reached e in
        let spot = done (follow files node 100) _ there.0 there.1 in
        let well = follow_well files trees node 100 spot.0 (live node f) spot.1 in
        let now : IsLiveAt files there.0 × (link_text_at files there.0 ≡ None) = subst (λ (n : NodeId). IsLiveAt files n × (link_text_at files n ≡ None)) (same_Ok spot.2) well in
        subst (λ (d : Edit). Reached files (followed d)) (same_Ok there.2) (subst (Reached files) (sym (followed_now edit node there.0 f)) now)

-- the followed node of an edit in one file is in that file
pub followed_in : (edit : Edit) (number : ℕ) → list_any (λ (node : NodeId). not (node.file == number)) (named_nodes edit) ≡ false → (node : NodeId) → followed edit ≡ Some node → node.file ≡ number
followed_in edit number e node f = by_edit edit e f
  where
    first : (n : NodeId) (b : Bool) → (not (n.file == number) || b) ≡ false → n.file ≡ number
    first n b e = equal n.file number (not_false _ (or_none (not (n.file == number)) b e).0)

    at : (n : NodeId) → ◌≡◌ {A = Option NodeId} (Some n) (Some node) → n.file ≡ number → node.file ≡ number
    at n e here = sym (ap (λ (m : NodeId). m.file) (same_Some n node e)) ∙ here

    by_edit : (edit : Edit) → list_any (λ (n : NodeId). not (n.file == number)) (named_nodes edit) ≡ false → followed edit ≡ Some node → node.file ≡ number
    by_edit (Create n wanted label) e f = at n f (first n _ e)
    by_edit (Delete n) e f = absurd (not_there node f)
    by_edit (Rename n wanted) e f = absurd (not_there node f)
    by_edit (Move n to) e f = at to f (first to _ (or_none (not (n.file == number)) _ e).1)
    by_edit (SetLabel n label) e f = at n f (first n _ e)
    by_edit (SetDims n shape) e f = at n f (first n _ e)
    by_edit (PutAll n given) e f = at n f (first n _ e)
    by_edit (PutPart n selection given) e f = at n f (first n _ e)
    by_edit (Link n wanted file path) e f = at n f (first n _ e)

-- an edit whose followed node is reached, in the tree of its file
pub reached_in_tree : (files : Files) (opened : Open) (number : ℕ) → IsTree opened.tree → open_at files number ≡ Some opened → (edit : Edit) → ((node : NodeId) → followed edit ≡ Some node → node.file ≡ number) → Reached files (followed edit) → IsReached opened.tree edit
reached_in_tree files opened number is here edit inside r = by_followed (followed edit) refl r
  where
    lives : (node : NodeId) → node.file ≡ number → IsLiveAt files node → IsSome (node_at opened.tree node.serial)
    lives node file live = subst (λ o. is_live_in o node.serial ≡ true) (ap (open_at files) file ∙ here) live

    plain : (node : NodeId) → node.file ≡ number → link_text_at files node ≡ None → is_link_in (node_at opened.tree node.serial) ≡ false
    plain node file text = no_text opened.tree is node.serial (subst (λ o. text_of_open o node.serial ≡ None) (ap (open_at files) file ∙ here) text)

    by_followed : (o : Option NodeId) → followed edit ≡ o → Reached files o → IsReached opened.tree edit
    by_followed None f r = record { live = λ node e. absurd (not_there node (sym f ∙ e)); no_link = ap (names_link opened.tree) f }
    by_followed (Some at) f r = record {
      live = λ node e. let same : at ≡ node = same_Some at node (sym f ∙ e) in lives node (inside node e) (subst (IsLiveAt files) same r.0);
      no_link = ap (names_link opened.tree) f ∙ plain at (inside at f) r.1;
    }

-- one edit of a group leaves trees
pub group_step_keeps : (group next : Group) (edit : Edit) → AreTrees group.files → group_step group edit ≡ Ok next → AreTrees next.files
group_step_keeps group next edit trees e =
    let entry = passed (tests_at_entry group.files (named_nodes edit)) _ next e in
    let reached = done (resolve group.files edit) (λ reached. edit_reached group reached) next entry.1 in
    let number = file_of_group group reached.0 in
    let at = found (open_at group.files number) AdfError.NotOpen _ next reached.2 in
    let opened = at.0 in
    let tests = passed ((list_any (λ (node : NodeId). not (node.file == number)) (named_nodes reached.0), AdfError.OtherFile) ∷ (not opened.writable, AdfError.ReadOnly) ∷ []) _ next at.2 in
    let tree = done (apply opened.tree reached.0) (λ tree. Ok (group_after group number opened reached.0 tree)) next tests.1 in
    let is = trees number opened at.1 in
    let good = resolve_reaches group.files trees edit reached.0 (followed_live group.files edit entry.0.1.1.1.0) reached.1 in
    let kept : IsTree tree.0 = apply_keeps opened.tree tree.0 reached.0 is (reached_in_tree group.files opened number is at.1 reached.0 (followed_in reached.0 number tests.0.0) good) tree.1 in
    subst (λ (g : Group). AreTrees g.files) (same_Ok tree.2)
    (λ n o h. elim (opened_in group.files number n (record opened { tree = tree.0 }) o h) [ inl same ↦ subst (λ (k : Open). IsTree k.tree) (sym same) kept | inr old ↦ trees n o old ])

-- after a group each file is as before, or open
abbrev pub LeavesOthers : Files → Files → Type 0
LeavesOthers files after = (number : ℕ) → (slot_at after number ≡ slot_at files number) ⊎ ((opened : Open) × (slot_at after number ≡ Live opened))

live_with : (files : Files) (number : ℕ) (opened : Open) → LeavesOthers files (with_slot files number (Live opened))
live_with [] number opened n = inl refl
live_with (file ∷ files) zero opened zero = inr (opened, refl)
live_with (file ∷ files) zero opened (suc n) = inl refl
live_with (file ∷ files) (suc number) opened zero = inl refl
live_with (file ∷ files) (suc number) opened (suc n) = live_with files number opened n

others_trans : (a b c : Files) → LeavesOthers a b → LeavesOthers b c → LeavesOthers a c
others_trans a b c p q number = elim (q number) [ inl same ↦ elim (p number) [ inl old ↦ inl (same ∙ old) | inr live ↦ inr (live.0, same ∙ live.1) ] | inr live ↦ inr live ]

pub one_step : (r : Result Group AdfError) (at : ℕ) (next : Group → Result Group EditError) (last : Group) → at_edit at r next ≡ Ok last → (group : Group) × (r ≡ Ok group) × (next group ≡ Ok last)
one_step (Ok group) at next last e = (group, refl, e)
one_step (Err error) at next last e = absurd (not_Err e)

steps_keep : (at : ℕ) (group last : Group) (edits : List Edit) → AreTrees group.files → group_from at group edits ≡ Ok last → AreTrees last.files
steps_keep at group last [] trees e = subst (λ (g : Group). AreTrees g.files) (same_Ok e) trees
steps_keep at group last (edit ∷ edits) trees e =
    let s = one_step (group_step group edit) at (λ next. group_from (suc at) next edits) last e in
    steps_keep (suc at) s.0 last edits (group_step_keeps group s.0 edit trees s.1) s.2

-- and so does a group
pub edit_group_keeps : (files : Files) (edits : List Edit) (group : Group) → AreTrees files → edit_group files edits ≡ Ok group → AreTrees group.files
edit_group_keeps files edits group trees e = steps_keep 0 (group_of files) group edits trees e

step_others : (group next : Group) (edit : Edit) → group_step group edit ≡ Ok next → LeavesOthers group.files next.files
step_others group next edit e =
    let entry = passed (tests_at_entry group.files (named_nodes edit)) _ next e in
    let reached = done (resolve group.files edit) (λ reached. edit_reached group reached) next entry.1 in
    let number = file_of_group group reached.0 in
    let at = found (open_at group.files number) AdfError.NotOpen _ next reached.2 in
    let tests = passed ((list_any (λ (node : NodeId). not (node.file == number)) (named_nodes reached.0), AdfError.OtherFile) ∷ (not at.0.writable, AdfError.ReadOnly) ∷ []) _ next at.2 in
    let tree = done (apply at.0.tree reached.0) (λ tree. Ok (group_after group number at.0 reached.0 tree)) next tests.1 in
    subst (λ (g : Group). LeavesOthers group.files g.files) (same_Ok tree.2) (live_with group.files number (record at.0 { tree = tree.0 }))

steps_others : (at : ℕ) (group last : Group) (edits : List Edit) → group_from at group edits ≡ Ok last → LeavesOthers group.files last.files
steps_others at group last [] e = subst (λ (g : Group). LeavesOthers group.files g.files) (same_Ok e) (λ n. inl refl)
steps_others at group last (edit ∷ edits) e =
    let s = one_step (group_step group edit) at (λ next. group_from (suc at) next edits) last e in
    others_trans group.files s.0.files last.files (step_others group s.0 edit s.1) (steps_others (suc at) s.0 last edits s.2)

pub edit_group_others : (files : Files) (edits : List Edit) (group : Group) → edit_group files edits ≡ Ok group → LeavesOthers files group.files
edit_group_others files edits group e = steps_others 0 (group_of files) group edits e

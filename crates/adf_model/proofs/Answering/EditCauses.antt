-- Why edits are refused: each with an error that its kind may have.
use Rattle.std.proofs.Common.{◌≡◌, ℕ, zero, suc, ◌+◌, Bool, true, false, not, List, [], ◌∷◌, ◌++◌, refl, sym, ◌∙◌, ap, subst, arith}
use Rattle.std.specs.Prelude.{Option, Some, None, is_some, ◌||◌, ◌==◌, IsTrue, Result, Ok, Err, slice_get, if◌then◌else◌}
use Rattle.adf_model.specs.declared.error.AdfError.{AdfError}
use Rattle.adf_model.specs.declared.error.AdfError.TheVariants.{NotOpen, NoSuchNode, ReadOnly, OtherFile, NotAChild, BadName, BadLabel, Duplicate, BadRange, LinkMissing, LinkChain}
use Rattle.adf_model.specs.declared.error.EditError.{EditError}
use Rattle.adf_model.specs.declared.tree.Edit.{Edit}
use Rattle.adf_model.specs.declared.tree.Edit.TheVariants.{Create, Delete, Rename, Move, SetLabel, SetDims, PutAll, PutPart, Link}
use Rattle.adf_model.specs.declared.tree.NodeId.{NodeId}
use Rattle.adf_format.specs.Names.{is_name, is_label}
use Rattle.adf_format.specs.Tree.{Tree, node_at, parent_of}
use Rattle.adf_model.specs.Selection.{selection_fits}
use Rattle.adf_format.specs.Links.{file_part, path_part, components}
use Rattle.std.specs.List.{list_any}
use Rattle.adf_model.specs.Tests.{Test, checked, and_then, if_there}
use Rattle.adf_model.specs.Edits.{apply, other_children, create_tests, link_tests, move_tests, shape_tests, data_tests, length_test, size_of, part_size, has_named, named_nodes, followed, with_followed, at_edit}
use Rattle.adf_model.specs.Slots.{Slot, Files, slot_at, open_at, number_of}
use Rattle.adf_model.specs.Slots.Slot.{Gone, Raw, Saved, Live}
use Rattle.adf_model.specs.Follow.{Spot, Follower, walk, child_in, open_file, linked_file, link_text_at, follow_text, follow_within, follow, reach}
use Rattle.adf_model.specs.Calls.{Group, file_of_group, tests_at_entry, resolved, edit_reached, group_step, group_from, group_of, edit_group}
use Rattle.adf_model.proofs.Basics.{not_true, not_Err, same_Some}
use Rattle.adf_model.specs.Causes.{may_refuse_edit, is_of_links, is_of_kind}

-- the error, where there is one, is among some
abbrev pub Among : {A : Type 0} → (AdfError → Bool) → Result A AdfError → Type 0
Among some (Ok value) = Unit {0}
Among some (Err error) = IsTrue (some error)

abbrev AmongTests : (AdfError → Bool) → List Test → Type 0
AmongTests some [] = Unit {0}
AmongTests some (test ∷ tests) = IsTrue (some test.1) × AmongTests some tests

module _ (some : AdfError → Bool) where
  one_among : {A : Type 0} (b : Bool) (error : AdfError) (after : Result A AdfError) → IsTrue (some error) → Among some after → Among some (if b then Err error else after)
  one_among true error after here rest = here
  one_among false error after here rest = rest

  pub checked_among : {A : Type 0} (tests : List Test) (after : Result A AdfError) → AmongTests some tests → Among some after → Among some (checked tests after)
  checked_among [] after each rest = rest
  checked_among (test ∷ tests) after each rest = one_among test.0 test.1 (checked tests after) each.0 (checked_among tests after each.1 rest)

  pub then_among : {A B : Type 0} (first : Result A AdfError) (next : A → Result B AdfError) → Among some first → ((a : A) → Among some (next a)) → Among some (and_then first next)
  then_among (Ok a) next one more = more a
  then_among (Err error) next one more = one

  pub there_among : {A B : Type 0} (first : Option A) (error : AdfError) (next : A → Result B AdfError) → IsTrue (some error) → ((a : A) → Among some (next a)) → Among some (if_there first error next)
  there_among (Some a) error next one more = more a
  there_among None error next one more = one

-- ---- one edit of reached nodes

pub applied_among : (tree : Tree) (edit : Edit) → Among (may_refuse_edit edit) (apply tree edit)
applied_among tree (Create at wanted label) = checked_among _ (create_tests tree at.serial wanted label) _ (refl, (refl, (refl, (refl, (refl, (refl, tt)))))) tt
applied_among tree (Delete node) = there_among _ (parent_of tree node.serial) NotAChild _ refl (λ from. tt)
applied_among tree (Rename node wanted) =
    there_among _ (parent_of tree node.serial) NotAChild _ refl (λ from.
    checked_among _ ((not (is_name wanted), BadName) ∷ (has_named tree (other_children tree from node.serial) wanted, Duplicate) ∷ []) _ (refl, (refl, tt))
    (there_among _ (node_at tree node.serial) NoSuchNode _ refl (λ n. tt)))
applied_among tree (Move node to) = there_among _ (parent_of tree node.serial) NotAChild _ refl (λ from. checked_among _ (move_tests tree node.serial to.serial) _ (refl, (refl, (refl, (refl, tt)))) tt)
applied_among tree (SetLabel node label) = there_among _ (node_at tree node.serial) NoSuchNode _ refl (λ n. checked_among _ ((not (is_label label), BadLabel) ∷ []) _ (refl, tt) tt)
applied_among tree (SetDims node shape) = there_among _ (node_at tree node.serial) NoSuchNode _ refl (λ n. checked_among _ (shape_tests tree.wide n shape) _ (refl, (refl, tt)) tt)
applied_among tree (PutAll node given) =
    there_among _ (node_at tree node.serial) NoSuchNode _ refl (λ n. checked_among _ (data_tests n ++ length_test (size_of n) given ∷ []) _ (refl, (refl, (refl, tt))) tt)
applied_among tree (PutPart node selection given) =
    there_among _ (node_at tree node.serial) NoSuchNode _ refl (λ n.
    checked_among _ (data_tests n ++ (not (selection_fits n.dims selection), BadRange) ∷ length_test (part_size n selection) given ∷ []) _ (refl, (refl, (refl, (refl, tt)))) tt)
applied_among tree (Link at wanted file path) = checked_among _ (link_tests tree at.serial wanted file path) _ (refl, (refl, (refl, (refl, (refl, (refl, tt)))))) tt

pub applied_refused : (tree : Tree) (edit : Edit) (error : AdfError) → apply tree edit ≡ Err error → IsTrue (may_refuse_edit edit error)
applied_refused tree edit error e = subst (Among (may_refuse_edit edit)) e (applied_among tree edit)

-- ---- links

-- the errors of a walk over links
abbrev of_links : AdfError → Bool
of_links AdfError.Broken = true
of_links error = is_of_links error

file_among : (slot : Slot) (number : ℕ) → Among of_links (open_file slot number)
file_among Gone number = refl
file_among Raw number = refl
file_among (Saved tree) number = refl
file_among (Live opened) number = tt
file_among Slot.Broken number = refl

linked_among : (files : Files) (own : ℕ) (wanted : List ℕ) → Among of_links (linked_file files own wanted)
linked_among files own [] = tt
linked_among files own (b ∷ wanted) = there_among of_links (number_of files (b ∷ wanted)) LinkMissing _ refl (λ number. file_among (slot_at files number) number)

abbrev IsFollower : Follower → Type 0
IsFollower further = (node : NodeId) (left : ℕ) → Among of_links (further node left)

walked_among : (further : Follower) (files : Files) (names : List (List ℕ)) (spot : Spot) → IsFollower further → Among of_links (walk further (child_in files) LinkMissing names spot)
walked_among further files [] spot is = tt
walked_among further files (wanted ∷ names) spot is =
    then_among of_links (further spot.node spot.left) _ (is spot.node spot.left) (λ here.
    there_among of_links (child_in files here.node wanted) LinkMissing _ refl (λ next. walked_among further files names (record { node = next; left = here.left }) is))

text_among : (further : Follower) (files : Files) (own : NodeId) (text : Option (List ℕ)) → IsFollower further → IsFollower (follow_text further files own text)
text_among further files own None is node left = tt
text_among further files own (Some text) is node zero = refl
text_among further files own (Some text) is node (suc left) =
    then_among of_links (linked_file files own.file (file_part text)) _ (linked_among files own.file (file_part text)) (λ number.
    then_among of_links (walk further (child_in files) LinkMissing (components (path_part text)) (record { node = record { file = number; serial = 0 }; left = left })) _
    (walked_among further files (components (path_part text)) (record { node = record { file = number; serial = 0 }; left = left }) is) (λ last.
    is last.node last.left))

within_among : (nesting : ℕ) (files : Files) → IsFollower (follow_within nesting files)
within_among zero files node left = text_among (λ at rest. Err LinkChain) files node (link_text_at files node) (λ at rest. refl) node left
within_among (suc nesting) files node left = text_among (follow_within nesting files) files node (link_text_at files node) (within_among nesting files) node left

pub followed_among : (files : Files) → IsFollower (follow files)
unfolding follow
followed_among files node left = within_among 100 files node left

pub reached_among : (files : Files) (node : NodeId) → Among of_links (reach files node)
reached_among files node = then_among of_links (follow files node 100) _ (followed_among files node 100) (λ spot. tt)

-- ---- groups

link_of_edit : (edit : Edit) (node : NodeId) (error : AdfError) → followed edit ≡ Some node → IsTrue (of_links error) → IsTrue (may_refuse_edit edit error)
link_of_edit edit node LinkMissing e h = ap (λ (o : Option NodeId). is_some o || is_of_kind edit LinkMissing) e
link_of_edit edit node LinkChain e h = ap (λ (o : Option NodeId). is_some o || is_of_kind edit LinkChain) e
link_of_edit edit node AdfError.Broken e h = refl
link_of_edit edit node error e h = absurd (not_true h)

same_kind : (edit : Edit) (there : NodeId) (error : AdfError) → IsTrue (may_refuse_edit (with_followed edit there) error) → IsTrue (may_refuse_edit edit error)
same_kind (Create at wanted label) there error h = h
same_kind (Delete node) there error h = h
same_kind (Rename node wanted) there error h = h
same_kind (Move node to) there error h = h
same_kind (SetLabel node label) there error h = h
same_kind (SetDims node shape) there error h = h
same_kind (PutAll node given) there error h = h
same_kind (PutPart node selection given) there error h = h
same_kind (Link at wanted file path) there error h = h

-- among some errors, and so among more
pub among_more : {A : Type 0} (some other : AdfError → Bool) (result : Result A AdfError) → ((error : AdfError) → IsTrue (some error) → IsTrue (other error)) → Among some result → Among other result
among_more some other (Ok value) so h = tt
among_more some other (Err error) so h = so error h

edit_among : (group : Group) (edit : Edit) → Among (may_refuse_edit edit) (edit_reached group edit)
edit_among group edit =
    there_among (may_refuse_edit edit) (open_at group.files (file_of_group group edit)) NotOpen _ refl (λ opened.
    checked_among (may_refuse_edit edit) ((list_any (λ (node : NodeId). not (node.file == file_of_group group edit)) (named_nodes edit), OtherFile) ∷ (not opened.writable, ReadOnly) ∷ []) _ (refl, (refl, tt))
    (then_among (may_refuse_edit edit) (apply opened.tree edit) _ (applied_among opened.tree edit) (λ tree. tt)))

resolved_among : (group : Group) (edit : Edit) (node : Option NodeId) → followed edit ≡ node → Among (may_refuse_edit edit) (and_then (resolved group.files edit node) (λ reached. edit_reached group reached))
resolved_among group edit None e = edit_among group edit
resolved_among group edit (Some node) e = by_reach (reach group.files node) (reached_among group.files node)
  where
    by_reach : (r : Result NodeId AdfError) → Among of_links r → Among (may_refuse_edit edit) (and_then (and_then r (λ there. Ok (with_followed edit there))) (λ reached. edit_reached group reached))
    by_reach (Ok there) h = among_more (may_refuse_edit (with_followed edit there)) (may_refuse_edit edit) _ (same_kind edit there) (edit_among group (with_followed edit there))
    by_reach (Err error) h = link_of_edit edit node error e h

step_among : (group : Group) (edit : Edit) → Among (may_refuse_edit edit) (group_step group edit)
step_among group edit = checked_among (may_refuse_edit edit) (tests_at_entry group.files (named_nodes edit)) _ (refl, (refl, (refl, (refl, tt)))) (resolved_among group edit (followed edit) refl)

-- where a group is refused, and why
record RefusedAt (from : ℕ) (edits : List Edit) (refusal : EditError) : Type 0 where
  place : ℕ
  edit : Edit
  at : refusal.at ≡ from + place
  there : slice_get edits place ≡ Some edit
  kind : IsTrue (may_refuse_edit edit refusal.error)

abbrev refusal_of : Result Group EditError → EditError
refusal_of (Ok group) = record { at = 0; error = NotOpen }
refusal_of (Err refusal) = refusal

refused_from : (from : ℕ) (group : Group) (edits : List Edit) (refusal : EditError) → group_from from group edits ≡ Err refusal → RefusedAt from edits refusal
refused_from from group [] refusal e = absurd (not_Err (sym e))
refused_from from group (first ∷ edits) refusal e = by_step (group_step group first) (step_among group first) e (λ next. refused_from (suc from) next edits refusal)
  where
    by_step : (r : Result Group AdfError) → Among (may_refuse_edit first) r → at_edit from r (λ next. group_from (suc from) next edits) ≡ Err refusal
        → ((next : Group) → group_from (suc from) next edits ≡ Err refusal → RefusedAt (suc from) edits refusal) → RefusedAt from (first ∷ edits) refusal
    by_step (Ok next) h e further = let r = further next e in record { place = suc r.place; edit = r.edit; at = (let i = r.at in omega (arith, i)); there = r.there; kind = r.kind }
    by_step (Err given) h e further = let same = ap refusal_of e in record {
      place = 0;
      edit = first;
      at = (let i : from ≡ refusal.at = ap (λ (x : EditError). x.at) same in omega (arith, i));
      there = refl;
      kind = subst (λ (x : AdfError). IsTrue (may_refuse_edit first x)) (ap (λ (x : EditError). x.error) same) h;
    }

-- a group of edits is refused with an error that the refused edit may have
pub group_refused : (files : Files) (edits : List Edit) (refusal : EditError) (edit : Edit) → edit_group files edits ≡ Err refusal → slice_get edits refusal.at ≡ Some edit → IsTrue (may_refuse_edit edit refusal.error)
group_refused files edits refusal edit e here =
    let r = refused_from 0 (group_of files) edits refusal e in
    let at : r.place ≡ refusal.at = (let i = r.at in omega (arith, i)) in
    let same : r.edit ≡ edit = same_Some r.edit edit (sym r.there ∙ ap (slice_get edits) at ∙ here) in
    subst (λ (x : Edit). IsTrue (may_refuse_edit x refusal.error)) same r.kind

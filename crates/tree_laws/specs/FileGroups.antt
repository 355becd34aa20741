-- A group of edits on many files, in the tree of its own file.
use Rattle.std.specs.Prelude.{◌≡◌, ◌≢◌, IsSome, ℕ, ◌+◌, ◌*◌, ◌<◌, List, length, take, Some, Ok, Err, ⊤}
use Rattle.std.specs.List.{AllByRecursion}
use Rattle.adf_format.specs.Tree.{Tree}
use Rattle.adf_format.specs.Placement.{Placement}
use Rattle.adf_format.specs.HeapRule.{LimitReached, place_edit}
use Rattle.adf_model.specs.declared.error.AdfError.{AdfError}
use Rattle.adf_model.specs.declared.tree.Edit.{Edit}
use Rattle.adf_model.specs.declared.tree.Edit.TheVariants.{Create, Delete, Rename, Move, SetLabel}
use Rattle.adf_model.specs.Edits.{apply, file_group}
use Rattle.adf_model.specs.Placing.{placed_as, place_group}
use Rattle.adf_model.specs.Slots.{Open, Files, Devices, AreTrees, open_at, device_at}
use Rattle.adf_model.specs.Slots.Slot.{Live}
use Rattle.adf_model.specs.Calls.{Group, edit_group}
use Rattle.adf_model.specs.OneFile.{StandsIn}
use Rattle.adf_model.specs.Steps.{IsLaidOut, RoomStops}
use Rattle.tree_laws.specs.Plans.{end_of_plan, plan_edit}
use Rattle.adf_model.specs.FileGroup.{done_by}
use Rattle.tree_laws.specs.Groups.{tree_left, group_need, AreDone, place_plans}

-- a group was done in the tree of its file: its edits one after another, and what it needed is the sum of their needs
pub record IsDoneIn (group : Group) (number : ℕ) (opened : Open) : Type 0 where
  pub steps : AreDone opened.tree group.done
  pub needed : group.needed ≡ group_need opened.tree group.done
  pub left : open_at group.files number ≡ Some (record opened { tree = tree_left opened.tree group.done })

abbrev pub GroupsAreDone : Type 0
GroupsAreDone =
    (files : Files) (edits : List Edit) (group : Group) (number : ℕ) (opened : Open) → AreTrees files
    → edit_group files edits ≡ Ok group → group.file ≡ Some number → open_at files number ≡ Some opened
    → IsDoneIn group number opened

-- where no link is met, the edits done are those of the one file
abbrev pub DoneAsMany : Type 0
DoneAsMany =
    (files : Files) (edits : List Edit) (group : Group) (number : ℕ) (opened : Open)
    → open_at files number ≡ Some opened → AllByRecursion (StandsIn number) edits
    → ((at : ℕ) → file_group opened.writable opened.tree edits ≢ Err (record { at = at; error = AdfError.LinkMissing }))
    → edit_group files edits ≡ Ok group → group.done ≡ done_by opened.writable opened.tree edits

-- a take of a group that is refused wants more than its needs leave
abbrev pub RoomIsNeeded : Type 0
RoomIsNeeded =
    (files : Files) (edits : List Edit) (group : Group) (number : ℕ) (opened : Open) (p : Placement)
    (full : LimitReached) → AreTrees files → edit_group files edits ≡ Ok group → group.file ≡ Some number
    → open_at files number ≡ Some opened → length p.parts ≡ length opened.tree.nodes
    → place_group opened.limit opened.tree p group.done ≡ Err full
    → opened.limit * 4096 < p.heap.end + 1 + group.needed

-- so the edits up to it may need more than the limit leaves, on devices that tell what they hold
abbrev pub TakesStop : Type 0
TakesStop =
    (files : Files) (devices : Devices) (edits : List Edit) (at number : ℕ) (group : Group) (opened : Open)
    (full : LimitReached) → AreTrees files → at < length edits
    → edit_group files (take (at + 1) edits) ≡ Ok group
    → group.file ≡ Some number → open_at files number ≡ Some opened → IsSome (device_at devices number).held
    → IsLaidOut (Live opened) (device_at devices number) (device_at devices number).held
    → place_group opened.limit opened.tree (device_at devices number).placement group.done ≡ Err full
    → RoomStops files devices edits at

-- ---- plans

-- an edit of names, labels and places in the tree
abbrev pub IsTreeEdit : Edit → Type 0
IsTreeEdit (Create at wanted label) = ⊤
IsTreeEdit (Delete node) = ⊤
IsTreeEdit (Rename node wanted) = ⊤
IsTreeEdit (Move node to) = ⊤
IsTreeEdit (SetLabel node label) = ⊤
IsTreeEdit edit = ⊥

-- it is placed as by its plan, and a group of such edits by their plans
abbrev pub EditByPlan : Type 0
EditByPlan =
    (limit : ℕ) (tree after : Tree) (p : Placement) (edit : Edit) → IsTreeEdit edit
    → length p.parts ≡ length tree.nodes → apply tree edit ≡ Ok after
    → place_edit limit tree after (placed_as edit) p ≡ end_of_plan (plan_edit limit tree after (placed_as edit) p)

abbrev pub GroupByPlans : Type 0
GroupByPlans =
    (limit : ℕ) (tree : Tree) (p : Placement) (done : List (Edit × Tree))
    → AllByRecursion (λ (e : Edit × Tree). IsTreeEdit e.0) done → length p.parts ≡ length tree.nodes
    → AreDone tree done
    → place_group limit tree p done ≡ place_plans limit tree p done

-- What waits in an open file: the edits in work, as the model has them.
use Rattle.std.proofs.Common.{◌≡◌, ℕ, ◌+◌, ◌≤◌, List, [], ◌∷◌, ◌++◌, length, Bool, true, false, refl, sym, ◌∙◌, ap, subst, arith}
use Rattle.std.specs.Prelude.{Option, Some, None, IsSome, IfSome, Result, Ok, Err, if◌then◌else◌}
use Rattle.adf_format.specs.HeapRule.{place_edit}
use Rattle.adf_format.specs.Placement.{Placement}
use Rattle.adf_format.specs.Tree.{Tree, next_serial}
use Rattle.adf_library.specs.Places.{committed, in_work, device_as, work_as, tree_by, placement_by}
use Rattle.adf_library.proofs.Meaning.{core_meant, tree_meant, placement_meant}
use Rattle.adf_model.proofs.Basics.{not_true, same_Ok}
use Rattle.adf_model.specs.Edits.{Work, file_step, file_group}
use Rattle.adf_model.specs.FileGroup.{done_by}
use Rattle.adf_model.specs.Need.{cost}
use Rattle.adf_model.specs.Placing.{chunk_number, placed_as}
use Rattle.adf_model.specs.Steps.{IsFileRefusal}
use Rattle.adf_model.specs.Torn.{TornGroup}
use Rattle.adf_model.specs.Untouched.{KeepsRest, KeepsTail}
use Rattle.adf_model.specs.declared.error.AdfError.{AdfError}
use Rattle.adf_model.specs.declared.error.EditError.{EditError}
use Rattle.adf_model.specs.declared.tree.Edit.{Edit}
use Rattle.adf_tree.specs.Commits.{TearsAll}
use Rattle.adf_tree.specs.Files.{FileState, HasMeaning, DoesAll, accepted}
use Rattle.adf_tree.specs.Steps.{IsWithinCost}
use Rattle.cg_io.specs.Blocks.{Both}
use Rattle.cg_io.specs.Waits.{how_many}
use Rattle.tree_edits.specs.declared.memory.Core.{Core}
use Rattle.tree_edits.specs.Edits.{Does, Refuses, memory_of}

-- what is told of two bytes holds of those that are held
pub both_told : (P : List ℕ → List ℕ → Type 0) (before after : Option (List ℕ)) (old new : List ℕ) → Both P before after → before ≡ Some old → after ≡ Some new → P old new
both_told P before after old new both was now = subst (λ h. Both P (Some old) h) now (subst (λ h. Both P h after) was both)

pub both_some : (P : List ℕ → List ℕ → Type 0) (before after : Option (List ℕ)) → Both P before after → IsSome before → IsSome after
both_some P None after both some = absurd (not_true some)
both_some P (Some old) None both some = absurd both
both_some P (Some old) (Some new) both some = refl

-- ---- one edit

-- an edit is done on the tree in work
pub record StepFacts (edit : Edit) (was now : Core) (before after : Option (List ℕ)) : Type 0 where
  pub made : file_step was.writable (tree_by before was.rows.items) edit ≡ Ok (tree_by after now.rows.items)
  pub placed : place_edit was.heap.limit (tree_by before was.rows.items) (tree_by after now.rows.items) (placed_as edit) (placement_by before was.rows.items was.heap.work.heap)
      ≡ Ok (placement_by after now.rows.items now.heap.work.heap)
  pub count : length was.rows.items ≡ next_serial (tree_by before was.rows.items)

pub step_facts : (edit : Edit) (was now : Core) (before after : Option (List ℕ)) → HasMeaning was before → Both (Does edit was now) before after → IsSome before → StepFacts edit was now before after
step_facts edit was now None after has both some = absurd (not_true some)
step_facts edit was now (Some old) None has both some = absurd both
step_facts edit was now (Some old) (Some new) has both some =
    let means = core_meant was (Some old) has in
    let does = both (tree_by (Some old) was.rows.items) (placement_by (Some old) was.rows.items was.heap.work.heap) means in
    let tree = tree_meant new does.after does.placement (memory_of now) does.means in
    let placement = placement_meant new does.after does.placement (memory_of now) does.means in
    record {
      made = subst (λ (t : Tree). file_step was.writable (tree_by (Some old) was.rows.items) edit ≡ Ok t) tree does.whole.made;
      placed = subst (λ (t : Tree). place_edit was.heap.limit (tree_by (Some old) was.rows.items) t (placed_as edit) (placement_by (Some old) was.rows.items was.heap.work.heap) ≡ Ok (placement_by (Some new) now.rows.items now.heap.work.heap)) tree
          (subst (λ (q : Placement). place_edit was.heap.limit (tree_by (Some old) was.rows.items) does.after (placed_as edit) (placement_by (Some old) was.rows.items was.heap.work.heap) ≡ Ok q) placement does.whole.placed);
      count = means.table.count;
    }

pub cost_fact : (edit : Edit) (was : Core) (earlier later : List ℕ) (before : Option (List ℕ)) → HasMeaning was before → IfSome before (IsWithinCost edit was earlier later) → IsSome before
    → how_many later ≤ how_many earlier + cost (tree_by before was.rows.items) (chunk_number (placement_by before was.rows.items was.heap.work.heap)) edit
cost_fact edit was earlier later None has within some = absurd (not_true some)
cost_fact edit was earlier later (Some old) has within some = within (tree_by (Some old) was.rows.items) (placement_by (Some old) was.rows.items was.heap.work.heap) (core_meant was (Some old) has)

pub refusal_fact : (edit : Edit) (was : Core) (error : AdfError) (before : Option (List ℕ)) → HasMeaning was before → IfSome before (Refuses edit was error) → IsSome before
    → IsFileRefusal false was.writable was.heap.limit (tree_by before was.rows.items) (placement_by before was.rows.items was.heap.work.heap) edit error
refusal_fact edit was error None has refuses some = absurd (not_true some)
refusal_fact edit was error (Some old) has refuses some = refuses (tree_by (Some old) was.rows.items) (placement_by (Some old) was.rows.items was.heap.work.heap) (core_meant was (Some old) has)

-- ---- all edits in work

-- they lead from the tree that was committed to the one in work
pub record WorkFacts (f : FileState) : Type 0 where
  pub work : Work
  pub made : file_group f.core.writable (committed f).tree f.steps ≡ Ok work
  pub left : work.tree ≡ (in_work f).tree

-- and keep what they do not touch
abbrev pub KeepsIn : FileState → List ℕ → List ℕ → Type 0
KeepsIn f old new = KeepsRest f.core.heap.limit (committed f).tree (device_as f).placement (work_as f).done (work_as f).placement old new × KeepsTail (work_as f).placement.heap.end old new

record AllFacts (core : Core) (steps : List Edit) (before after : Option (List ℕ)) : Type 0 where
  pub work : Work
  pub made : file_group core.writable (tree_by before core.rows.kept) steps ≡ Ok work
  pub left : work.tree ≡ tree_by after core.rows.items
  pub keeps : Both (λ old new. KeepsRest core.heap.limit (tree_by before core.rows.kept) (placement_by before core.rows.kept core.heap.kept.heap) (done_by core.writable (tree_by before core.rows.kept) steps)
      (placement_by after core.rows.items core.heap.work.heap) old new × KeepsTail (placement_by after core.rows.items core.heap.work.heap).heap.end old new) before after

all_facts : (core : Core) (steps : List Edit) (waiting : List ℕ) (before after : Option (List ℕ)) → HasMeaning (accepted core) before → Both (DoesAll steps waiting (accepted core) core) before after → IsSome before
    → AllFacts core steps before after
all_facts core steps waiting None after has both some = absurd (not_true some)
all_facts core steps waiting (Some old) None has both some = absurd both
all_facts core steps waiting (Some old) (Some new) has both some =
    let does = both (tree_by (Some old) core.rows.kept) (placement_by (Some old) core.rows.kept core.heap.kept.heap) (core_meant (accepted core) (Some old) has) in
    let placement = placement_meant new does.work.tree does.placement (memory_of core) does.means in
    record {
      work = does.work;
      made = does.whole.made;
      left = tree_meant new does.work.tree does.placement (memory_of core) does.means;
      keeps = subst (λ (q : Placement). KeepsRest core.heap.limit (tree_by (Some old) core.rows.kept) (placement_by (Some old) core.rows.kept core.heap.kept.heap) (done_by core.writable (tree_by (Some old) core.rows.kept) steps) q old new
          × KeepsTail q.heap.end old new) placement (does.whole.rest, does.whole.tail);
    }

module _ (f : FileState) (has : HasMeaning (accepted f.core) f.device.held) (both : Both (DoesAll f.steps f.waiting (accepted f.core) f.core) f.device.held f.image) (told : IsSome f.device.held) where
  facts : AllFacts f.core f.steps f.device.held f.image
  facts = all_facts f.core f.steps f.waiting f.device.held f.image has both told

  pub work_facts : WorkFacts f
  work_facts = record { work = facts.work; made = facts.made; left = facts.left }

  pub work_keeps : Both (KeepsIn f) f.device.held f.image
  work_keeps = facts.keeps

  -- a commit that failed leaves a first part of what the edits make
  pub work_torn : (later : Option (List ℕ)) → Both (TearsAll f) f.device.held later
      → Both (λ old new. TornGroup f.core.heap.limit (committed f).tree (device_as f).placement (work_as f).done (in_work f).tree old new) f.device.held later
  work_torn later tears = by_held f.device.held later has tears work_facts.made
    where
      by_held : (before after : Option (List ℕ)) → HasMeaning (accepted f.core) before → Both (TearsAll f) before after
          → file_group f.core.writable (tree_by before f.core.rows.kept) f.steps ≡ Ok work_facts.work
          → Both (λ old new. TornGroup f.core.heap.limit (tree_by before f.core.rows.kept) (placement_by before f.core.rows.kept f.core.heap.kept.heap) (done_by f.core.writable (tree_by before f.core.rows.kept) f.steps)
          (in_work f).tree old new) before after
      by_held None None has tears made = tt
      by_held None (Some new) has tears made = absurd tears
      by_held (Some old) None has tears made = absurd tears
      by_held (Some old) (Some new) has tears made =
          let t = tears (tree_by (Some old) f.core.rows.kept) (placement_by (Some old) f.core.rows.kept f.core.heap.kept.heap) (core_meant (accepted f.core) (Some old) has) in
          subst (λ (after : Tree). TornGroup f.core.heap.limit (tree_by (Some old) f.core.rows.kept) (placement_by (Some old) f.core.rows.kept f.core.heap.kept.heap)
          (done_by f.core.writable (tree_by (Some old) f.core.rows.kept) f.steps) after old new)
          (ap (λ (w : Work). w.tree) (same_Ok (sym t.made ∙ made)) ∙ work_facts.left) t.torn

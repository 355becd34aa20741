-- What a deletion over a space answers, as a step of an open file.
use Rattle.std.proofs.Common.{◌≡◌, inl, inr, ℕ, suc, refl, sym, ◌∙◌, ap, subst, arith, List, [], ◌∷◌, map, sum, length, ◌+◌, ◌*◌, ◌≤◌}
use Rattle.std.proofs.lemmas.List.Sums.{sum_by-cons}
use Rattle.std.specs.List.{All}
use Rattle.std.specs.Prelude.{Option, Some, None, IfSome, Ok, Err}
use Rattle.adf_format.specs.HeapRule.{parts_or_none}
use Rattle.adf_format.specs.Placement.{NodeParts, Placement}
use Rattle.adf_format.specs.Tree.{Tree, children_at, parent_of}
use Rattle.adf_model.specs.Counts.{DeviceState, OnlyReads}
use Rattle.adf_model.specs.Need.{cost, siblings_of}
use Rattle.adf_model.specs.Placing.{chunk_number}
use Rattle.adf_model.specs.declared.error.AdfError.{AdfError}
use Rattle.adf_model.specs.declared.error.AdfError.TheVariants as error
use Rattle.adf_model.specs.declared.tree.Edit.{Edit}
use Rattle.adf_model.specs.declared.tree.Edit.TheVariants.{Delete}
use Rattle.adf_model.specs.declared.tree.NodeId.{NodeId}
use Rattle.cg_io.proofs.ReadLaws.{only_none}
use Rattle.cg_io.specs.Answers.{AnswersWrite}
use Rattle.cg_io.specs.Blocks.{Both, blocks_of}
use Rattle.cg_io.specs.Waits.{how_many}
use Rattle.tree_deletes.specs.Deleted.{DeletesWithin, IsDeleteCause, MayDelete}
use Rattle.tree_deletes.specs.Doomed.{IsDoomed}
use Rattle.tree_deletes.specs.Erased.{serials_of}
use Rattle.tree_deletes.specs.Given.{gift_cost}
use Rattle.tree_edits.proofs.Kids.{count_is, kids_are}
use Rattle.tree_edits.proofs.Nodes.{its_row}
use Rattle.tree_edits.specs.Edits.{Does, KeepsCore, Refuses, memory_of}
use Rattle.tree_edits.specs.Left.{entry_place, length_behind}
use Rattle.tree_edits.specs.Rows.{AreNear, Means}
use Rattle.tree_edits.specs.declared.memory.Core.{Core}
use Rattle.tree_edits.specs.Waiting.{Reaches}
use Rattle.tree_laws.proofs.Groups.Pays.{edit_pays}
use Rattle.tree_laws.specs.Pays.{edit_blocks, leave_blocks, of_gifts}
use Rattle.adf_tree.proofs.EditsAnswer.{same_core, unlisted_rule}
use Rattle.adf_tree.specs.Steps.{EditAnswers, IsStepCause, IsWithinCost}

delete_cause : (core : Core) (node : NodeId) (held : Option (List ℕ)) (before now : ℕ) (e : AdfError) → IsDeleteCause core node held before now e → IsStepCause (Delete node) before now e
delete_cause core node held before now error.Memory c = tt
delete_cause core node held before now error.ReadFault c = c.1
delete_cause core node held before now (error.Layout rule at) (may, inl c) = unlisted_rule core held may.row.place may.parent rule at c
delete_cause core node held before now (error.Layout rule at) (may, inr c) = c.0
delete_cause core node held before now error.NoSuchNode c = (refl, refl)
delete_cause core node held before now error.ReadOnly c = (refl, refl)
delete_cause core node held before now error.NotAChild c = (refl, refl)
delete_cause core node held before now e c = absurd c

-- ---- costs

-- what leaves a list is within its blocks
leaves_within : (place behind count : ℕ) → behind ≤ 44 * count → blocks_of place behind + 2 ≤ leave_blocks count
leaves_within place behind count le = omega arith

-- the parts of the nodes are given, each by so many
gifts_are : (image : List ℕ) (tree : Tree) (p : Placement) (nodes : List _) → All (IsDoomed image tree p) nodes
    → gift_cost nodes ≡ of_gifts (3 * length (serials_of nodes) + sum (map (chunk_number p) (serials_of nodes)))
gifts_are image tree p [] all = omega arith
gifts_are image tree p (d ∷ ds) all =
    let own = all 0 d (omega arith) in
    let chunks : chunk_number p d.serial ≡ d.chunks.count = ap (λ (o : Option NodeParts). length (parts_or_none o).chunks) own.placed ∙ sym own.stands.chunks.count in
    let rest = gifts_are image tree p ds (λ k x lt. all (suc k) x (omega (arith, lt))) in
    let more : sum (map (chunk_number p) (serials_of (d ∷ ds))) ≡ chunk_number p d.serial + sum (map (chunk_number p) (serials_of ds)) = sum_by-cons (λ (x : ℕ). x) (chunk_number p d.serial) (map (chunk_number p) (serials_of ds)) in
    omega (arith, chunks, rest, more)

module _ (core : Core) (node : NodeId) (before now : List ℕ) (n : ℕ) (le : how_many now ≤ how_many before + n) where
  delete_within : (held : Option (List ℕ)) → DeletesWithin core node held n → IfSome held (IsWithinCost (Delete node) core before now)
  delete_within None c = tt
  delete_within (Some image) c = λ tree p m. by_parts tree p m c
    where
      by_parts : (tree : Tree) (p : Placement) → Means image tree p (memory_of core) → DeletesWithin core node (Some image) n → how_many now ≤ how_many before + cost tree (chunk_number p) (Delete node)
      by_parts tree p m (inl none) = omega (arith, le, none)
      by_parts tree p m (inr d) =
          let listed = d.0.listed in
          let may = d.0.is.may in
          let its = d.0.is.is.table in
          let below = d.0.is.below tree p m in
          let many : listed.table.count ≡ length (children_at tree may.parent)
          = count_is image core may.parent its.above its.found tree p m listed.table its.named ∙ ap length (sym (kids_are image core may.parent its.above its.found tree p m listed.table its.named)) in
          let above = (its_row image (memory_of core) node.serial may.row may.child.found tree p m).parent in
          let kin : siblings_of tree (parent_of tree node.serial) ≡ listed.table.count = ap (siblings_of tree) (sym above ∙ may.child.above) ∙ sym many in
          let leave = ap leave_blocks kin in
          let leaves = leaves_within (entry_place listed) (length_behind listed) listed.table.count (omega arith) in
          let gifts = gifts_are image tree p d.0.nodes below.each ∙ ap (λ (xs : List ℕ). of_gifts (3 * length xs + sum (map (chunk_number p) xs))) below.serials in
          let paid = edit_pays tree (chunk_number p) (Delete node) in
          let is = d.1 in
          let least : n ≤ edit_blocks tree (chunk_number p) (Delete node) = omega (arith, is, gifts, leaves, leave) in
          omega (arith, le, least, paid)

module _ {S : Type 0} (is_sound : S → Type 0) (image : S → Option (List ℕ)) (state : S → DeviceState) (waiting : S → List ℕ) where
  -- want of memory before anything is done
  pub memory_answers : (edit : Edit) (core : Core) (old : S) → AreNear core.wide core.rows.items → is_sound old → (e : AdfError) → e ≡ error.Memory → EditAnswers is_sound image state waiting edit core core old old (Err e)
  memory_answers edit core old near sound e is = subst (λ (x : AdfError). EditAnswers is_sound image state waiting edit core core old old (Err x)) (sym is) (record {
    sound = sound;
    done = tt;
    serial = tt;
    allowed = tt;
    refused = free (image old);
    kept = same_core core;
    near = near;
    effect = only_none (state old);
    cost = tt;
    reached = tt;
    cause = tt;
  })
    where
      free : (held : Option (List ℕ)) → IfSome held (Refuses edit core error.Memory)
      free None = tt
      free (Some bytes) = λ tree p m. tt

  module _ (core after : Core) (node : NodeId) (old new : S) (kept : KeepsCore core after) (near : AreNear after.wide after.rows.items) where
    pub delete_done : Both (Does (Delete node) core after) (image old) (image new) → IfSome (image old) (Reaches (Delete node) core after (waiting old) (waiting new)) → MayDelete core node (image old)
        → ((n : ℕ) × DeletesWithin core node (image old) n × AnswersWrite {T = Unit {0}} is_sound state waiting n OnlyReads (IsDeleteCause core node (image old)) old new (Ok tt))
        → EditAnswers is_sound image state waiting (Delete node) core after old new (Ok None)
    delete_done does reaches may w = record {
      sound = w.2.sound;
      done = does;
      serial = refl;
      allowed = may.is.may.allowed;
      refused = tt;
      kept = kept;
      near = near;
      effect = w.2.effect;
      cost = delete_within core node (waiting old) (waiting new) w.0 w.2.waits (image old) w.1;
      reached = reaches;
      cause = tt;
    }

    pub delete_refused : (e : AdfError) → IfSome (image old) (Refuses (Delete node) core e)
        → ((n : ℕ) × DeletesWithin core node (image old) n × AnswersWrite {T = Unit {0}} is_sound state waiting n OnlyReads (IsDeleteCause core node (image old)) old new (Err e))
        → EditAnswers is_sound image state waiting (Delete node) core after old new (Err e)
    delete_refused e refuses w = record {
      sound = w.2.sound;
      done = tt;
      serial = tt;
      allowed = tt;
      refused = refuses;
      kept = kept;
      near = near;
      effect = w.2.effect;
      cost = tt;
      reached = tt;
      cause = delete_cause core node (image old) (state old).faults (state new).faults e w.2.cause;
    }

-- What a move over a space answers, as a step of an open file.
use Rattle.std.proofs.Common.{◌≡◌, inl, inr, ℕ, refl, sym, ◌∙◌, ap, subst, arith, List, length, ◌+◌, ◌*◌, ◌/◌, ◌≤◌, Bool, true, false}
use Rattle.std.specs.Prelude.{Option, Some, None, nat_lt, if◌then◌else◌, IfSome, Ok, Err}
use Rattle.adf_format.specs.HeapRule.{grown_entries}
use Rattle.adf_format.specs.Parts.{table_length}
use Rattle.adf_format.specs.Placement.{Placement}
use Rattle.adf_format.specs.RuleNumbers.{IsRule}
use Rattle.adf_format.specs.Tree.{Tree, children_at, parent_of}
use Rattle.adf_model.specs.Counts.{DeviceState, OnlyReads}
use Rattle.adf_model.specs.Need.{cost, siblings_of}
use Rattle.adf_model.specs.Placing.{chunk_number}
use Rattle.adf_model.specs.declared.error.AdfError.{AdfError}
use Rattle.adf_model.specs.declared.error.AdfError.TheVariants as error
use Rattle.adf_model.specs.declared.tree.Edit.TheVariants.{Move}
use Rattle.adf_model.specs.declared.tree.NodeId.{NodeId}
use Rattle.cg_io.specs.Answers.{AnswersWrite}
use Rattle.cg_io.specs.Blocks.{Both}
use Rattle.cg_io.specs.Waits.{how_many}
use Rattle.tree_edits.proofs.Kids.{count_is, kids_are}
use Rattle.tree_edits.proofs.Nodes.{its_row}
use Rattle.tree_edits.specs.Edits.{Does, KeepsCore, Refuses, memory_of}
use Rattle.tree_edits.specs.Rows.{AreNear, Means}
use Rattle.tree_edits.specs.declared.memory.Core.{Core}
use Rattle.tree_edits.specs.Waiting.{Reaches}
use Rattle.tree_moves.specs.Movable.{IsMovable, IsMoveCause, SourceBreaks}
use Rattle.tree_moves.specs.Moved.{MovesWithin}
use Rattle.adf_tree.proofs.EditsAnswer.{breaks_rule, unlisted_rule}
use Rattle.adf_tree.proofs.HeaderRules.{header_rule}
use Rattle.adf_tree.specs.Steps.{EditAnswers, IsStepCause, IsWithinCost}

move_cause : (core : Core) (node at : NodeId) (held : Option (List ℕ)) (before now : ℕ) (e : AdfError) → IsMoveCause core node at held before now e → IsStepCause (Move node at) before now e
move_cause core node at held before now error.Memory c = tt
move_cause core node at held before now error.ReadFault c = c.2
move_cause core node at held before now (error.Full asked end) c = (refl, refl)
move_cause core node at held before now (error.Layout rule place) (inl (inl c)) = breaks_rule core.wide held c.1.0.place rule place c.1.2
move_cause core node at held before now (error.Layout rule place) (inl (inr c)) = by_source c.4
  where
    by_source : SourceBreaks core held c.0 c.2 rule place → IsRule rule
    by_source (inl b) = unlisted_rule core held c.0.place c.2 rule place b
    by_source (inr b) = header_rule core.wide held c.0.place rule place b
move_cause core node at held before now (error.Layout rule place) (inr c) = c.1
move_cause core node at held before now error.NoSuchNode c = (refl, refl)
move_cause core node at held before now error.LinkMissing c = (refl, refl)
move_cause core node at held before now error.ReadOnly c = (refl, refl)
move_cause core node at held before now error.NotAChild c = (refl, refl)
move_cause core node at held before now error.IntoItself c = (refl, refl)
move_cause core node at held before now error.Duplicate c = (refl, refl)
move_cause core node at held before now error.TooManyChildren c = (refl, refl)
move_cause core node at held before now error.TooDeep c = (refl, refl)
move_cause core node at held before now e c = absurd c

-- so many blocks are within what a move from a parent of so many children to one of others costs
move_costs : (from to entries : ℕ) → 9 + (8 + 44 * from / 4096) + (if nat_lt to entries then 0 else 24 + table_length (grown_entries to) / 4096) ≤ 64 * (1 + 0 + 0) + (44 * (2 * to + 8) + 44 * from + 4095) / 4096
move_costs from to entries = by_test (nat_lt to entries)
  where
    by_test : (b : Bool) → 9 + (8 + 44 * from / 4096) + (if b then 0 else 24 + table_length (grown_entries to) / 4096) ≤ 64 * (1 + 0 + 0) + (44 * (2 * to + 8) + 44 * from + 4095) / 4096
    by_test true = omega arith
    by_test false = omega arith

module _ (core : Core) (node at : NodeId) (before now : List ℕ) (n : ℕ) (le : how_many now ≤ how_many before + n) where
  move_within : (held : Option (List ℕ)) → MovesWithin core node at held n → IfSome held (IsWithinCost (Move node at) core before now)
  move_within None c = tt
  move_within (Some image) c = λ tree p m. by_lists tree p m c
    where
      by_lists : (tree : Tree) (p : Placement) → Means image tree p (memory_of core) → MovesWithin core node at (Some image) n → how_many now ≤ how_many before + cost tree (chunk_number p) (Move node at)
      by_lists tree p m (inl none) = omega (arith, le, none)
      by_lists tree p m (inr w) =
          let its = w.0 in
          let looked = w.1.looked in
          let parent = w.1.parent in
          let target = looked.may.may.target in
          let from = looked.source_is.listed.table in
          let many : its.source.listed.table.count ≡ length (children_at tree parent)
          = count_is image core parent from.above from.found tree p m its.source.listed.table from.named ∙ ap length (sym (kids_are image core parent from.above from.found tree p m its.source.listed.table from.named)) in
          let others : its.to.table.count ≡ length (children_at tree at.serial)
          = count_is image core at.serial its.to.row target.node.found tree p m its.to.table target.named_by ∙ ap length (sym (kids_are image core at.serial its.to.row target.node.found tree p m its.to.table target.named_by)) in
          let above = (its_row image (memory_of core) node.serial its.row looked.may.may.found tree p m).parent in
          let kin : siblings_of tree (parent_of tree node.serial) ≡ its.source.listed.table.count = ap (siblings_of tree) (sym above ∙ looked.may.leaves.above) ∙ sym many in
          let most = move_costs its.source.listed.table.count its.to.table.count its.to.table.entries in
          let is = w.2 in
          let paid : n ≤ cost tree (chunk_number p) (Move node at)
          = subst (λ (k : ℕ). n ≤ 64 * (1 + 0 + 0) + (44 * (2 * length (children_at tree at.serial) + 8) + 44 * k + 4095) / 4096) (sym kin)
          (subst (λ (k : ℕ). n ≤ 64 * (1 + 0 + 0) + (44 * (2 * k + 8) + 44 * its.source.listed.table.count + 4095) / 4096) others (omega (arith, is, most))) in
          omega (arith, le, paid)

module _ {S : Type 0} (is_sound : S → Type 0) (image : S → Option (List ℕ)) (state : S → DeviceState) (waiting : S → List ℕ) (core after : Core) (node at : NodeId) (old new : S)
    (kept : KeepsCore core after) (near : AreNear after.wide after.rows.items)
  where
    pub move_done : Both (Does (Move node at) core after) (image old) (image new) → IfSome (image old) (Reaches (Move node at) core after (waiting old) (waiting new)) → IsMovable core node at (image old)
        → ((n : ℕ) × MovesWithin core node at (image old) n × AnswersWrite {T = Unit {0}} is_sound state waiting n OnlyReads (IsMoveCause core node at (image old)) old new (Ok tt))
        → EditAnswers is_sound image state waiting (Move node at) core after old new (Ok None)
    move_done does reaches may w = record {
      sound = w.2.sound;
      done = does;
      serial = refl;
      allowed = may.1.looked.may.may.target.allowed;
      refused = tt;
      kept = kept;
      near = near;
      effect = w.2.effect;
      cost = move_within core node at (waiting old) (waiting new) w.0 w.2.waits (image old) w.1;
      reached = reaches;
      cause = tt;
    }

    pub move_refused : (e : AdfError) → IfSome (image old) (Refuses (Move node at) core e)
        → ((n : ℕ) × MovesWithin core node at (image old) n × AnswersWrite {T = Unit {0}} is_sound state waiting n OnlyReads (IsMoveCause core node at (image old)) old new (Err e))
        → EditAnswers is_sound image state waiting (Move node at) core after old new (Err e)
    move_refused e refuses w = record {
      sound = w.2.sound;
      done = tt;
      serial = tt;
      allowed = tt;
      refused = refuses;
      kept = kept;
      near = near;
      effect = w.2.effect;
      cost = tt;
      reached = tt;
      cause = move_cause core node at (image old) (state old).faults (state new).faults e w.2.cause;
    }

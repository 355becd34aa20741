-- What an edit of the data of a node over a space answers, as a step of an open file.
use Rattle.std.proofs.Common.{◌≡◌, inl, inr, ℕ, refl, arith, List, length, true, false}
use Rattle.std.specs.Prelude.{Option, Some, None, IfSome, IsSome, Ok, Err}
use Rattle.adf_format.specs.RuleNumbers.{IsRule}
use Rattle.adf_model.specs.Counts.{DeviceState, OnlyReads}
use Rattle.adf_model.specs.declared.error.AdfError.{AdfError}
use Rattle.adf_model.specs.declared.error.AdfError.TheVariants as error
use Rattle.adf_model.specs.declared.tree.Edit.{Edit}
use Rattle.adf_model.specs.declared.tree.Edit.TheVariants.{SetDims}
use Rattle.adf_model.specs.declared.tree.NodeId.{NodeId}
use Rattle.adf_model.specs.declared.tree.Shape.{Shape}
use Rattle.cg_io.specs.Blocks.{Both}
use Rattle.data_edits.specs.Found.{IsNodeCause}
use Rattle.data_edits.specs.Puts.{IsDataCause, IsPutCause, Part, edit_of}
use Rattle.data_edits.specs.Puts.Part.{Whole, Chosen}
use Rattle.data_edits.specs.Shaped.{IsShapeCause}
use Rattle.tree_edits.specs.Causes.{named_row, HeaderBreaks}
use Rattle.tree_edits.specs.Edits.{Does, KeepsCore, Refuses}
use Rattle.tree_edits.specs.Rows.{AreNear}
use Rattle.tree_edits.specs.declared.memory.Core.{Core}
use Rattle.tree_edits.specs.declared.rows.Row.{Row}
use Rattle.tree_edits.specs.Waiting.{Reaches}
use Rattle.adf_tree.proofs.HeaderRules.{header_rule}
use Rattle.adf_tree.specs.Steps.{EditAnswers, IsStepCause, IsWithinCost, drawn_by}

-- ---- causes

node_rule : (core : Core) (node : NodeId) (held : Option (List ℕ)) (before now rule at : ℕ) → IsNodeCause core node held before now (error.Layout rule at) → IsRule rule
node_rule core node held before now rule at (there, breaks) = by_row (named_row core node) there breaks
  where
    by_row : (o : Option Row) → IsSome o → IfSome o (λ (row : Row). HeaderBreaks core.wide held row.place rule at) → IsRule rule
    by_row None there breaks = cc
    by_row (Some row) there breaks = header_rule core.wide held row.place rule at breaks

pub shape_cause : (core : Core) (node : NodeId) (shape : Shape) (held : Option (List ℕ)) (before now : ℕ) (e : AdfError) → IsShapeCause core node shape held before now e → IsStepCause (SetDims node shape) before now e
shape_cause core node shape held before now error.Memory c = tt
shape_cause core node shape held before now error.ReadFault c = c.1
shape_cause core node shape held before now (error.Layout rule at) (inl c) = node_rule core node held before now rule at c
shape_cause core node shape held before now (error.Layout rule at) (inr c) = c.3
shape_cause core node shape held before now (error.Full asked end) c = (refl, refl)
shape_cause core node shape held before now error.BadShape c = (refl, refl)
shape_cause core node shape held before now error.TooLarge c = (refl, refl)
shape_cause core node shape held before now error.NoSuchNode c = (refl, refl)
shape_cause core node shape held before now error.LinkMissing c = (refl, refl)
shape_cause core node shape held before now error.ReadOnly c = (refl, refl)
shape_cause core node shape held before now e c = absurd c

data_rule : (core : Core) (node : NodeId) (held : Option (List ℕ)) (before now rule at : ℕ) → IsDataCause core node held before now (error.Layout rule at) → IsRule rule
data_rule core node held before now rule at (inl c) = node_rule core node held before now rule at c
data_rule core node held before now rule at (inr c) = let is : rule ≡ 21 = c.3.2.0 in (omega (arith, is), omega (arith, is))

pub put_cause : (core : Core) (node : NodeId) (part : Part) (given : List ℕ) (held : Option (List ℕ)) (before now : ℕ) (e : AdfError) → IsPutCause core node part given held before now e → IsStepCause (edit_of node part given) before now e
put_cause core node part given held before now error.Memory c = tt
put_cause core node part given held before now error.ReadFault c = c.1
put_cause core node part given held before now (error.Layout rule at) (inl c) = data_rule core node held before now rule at c
put_cause core node part given held before now (error.Layout rule at) (inr c) = c.3
put_cause core node Whole given held before now error.BadRange c = let no : true ≡ false = c.3 in cc
put_cause core node Whole given held before now (error.Full asked end) c = (refl, refl)
put_cause core node Whole given held before now error.NoData c = (refl, refl)
put_cause core node Whole given held before now error.TooLarge c = (refl, refl)
put_cause core node Whole given held before now (error.WrongLength want got) c = (refl, refl)
put_cause core node Whole given held before now error.NoSuchNode c = (refl, refl)
put_cause core node Whole given held before now error.LinkMissing c = (refl, refl)
put_cause core node Whole given held before now error.ReadOnly c = (refl, refl)
put_cause core node (Chosen selection) given held before now error.BadRange c = (refl, refl)
put_cause core node (Chosen selection) given held before now (error.Full asked end) c = (refl, refl)
put_cause core node (Chosen selection) given held before now error.NoData c = (refl, refl)
put_cause core node (Chosen selection) given held before now error.TooLarge c = (refl, refl)
put_cause core node (Chosen selection) given held before now (error.WrongLength want got) c = (refl, refl)
put_cause core node (Chosen selection) given held before now error.NoSuchNode c = (refl, refl)
put_cause core node (Chosen selection) given held before now error.LinkMissing c = (refl, refl)
put_cause core node (Chosen selection) given held before now error.ReadOnly c = (refl, refl)
put_cause core node part given held before now e c = absurd c

-- ---- the answers

module _ {S : Type 0} (is_sound : S → Type 0) (image : S → Option (List ℕ)) (state : S → DeviceState) (waiting : S → List ℕ) (edit : Edit) (core after : Core) (old new : S)
    (sound : is_sound new) (kept : KeepsCore core after) (near : AreNear after.wide after.rows.items) (effect : OnlyReads (state old) (state new))
  where
    -- of an edit that draws no serial
    pub contents_done : None ≡ drawn_by edit (length core.rows.items) → Both (Does edit core after) (image old) (image new) → core.writable ≡ true
        → IfSome (image old) (IsWithinCost edit core (waiting old) (waiting new)) → IfSome (image old) (Reaches edit core after (waiting old) (waiting new))
        → EditAnswers is_sound image state waiting edit core after old new (Ok None)
    contents_done none does allowed cost reaches = record {
      sound = sound;
      done = does;
      serial = none;
      allowed = allowed;
      refused = tt;
      kept = kept;
      near = near;
      effect = effect;
      cost = cost;
      reached = reaches;
      cause = tt;
    }

    pub contents_refused : (e : AdfError) → IfSome (image old) (Refuses edit core e) → IsStepCause edit (state old).faults (state new).faults e
        → EditAnswers is_sound image state waiting edit core after old new (Err e)
    contents_refused e refuses cause = record {
      sound = sound;
      done = tt;
      serial = tt;
      allowed = tt;
      refused = refuses;
      kept = kept;
      near = near;
      effect = effect;
      cost = tt;
      reached = tt;
      cause = cause;
    }

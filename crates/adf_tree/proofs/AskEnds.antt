-- What a question answers on an open file, and what it leaves of it.
use Rattle.std.proofs.Common.{◌≡◌, ℕ, refl, sym, ◌∙◌, ap, subst, List, Bool, true, false}
use Rattle.std.specs.Prelude.{Option, Some, None, IfErr, IfOk, Result, Err}
use Rattle.adf_format.specs.Tree.{Tree}
use Rattle.adf_model.specs.Answers.{asked_node}
use Rattle.adf_model.specs.Counts.{DeviceState, OnlyReads}
use Rattle.adf_model.specs.Steps.{IsFileAnswer}
use Rattle.adf_model.specs.declared.error.AdfError.{AdfError}
use Rattle.adf_model.specs.declared.error.AdfError.TheVariants as error
use Rattle.adf_model.specs.declared.tree.Edit.{Edit}
use Rattle.adf_model.specs.declared.tree.Query.{Query}
use Rattle.adf_model.specs.declared.tree.Reply.{Reply}
use Rattle.block_cache.specs.declared.cache.BlockCache.{BlockCache}
use Rattle.block_draft.specs.Draft.{waiting_in}
use Rattle.block_draft.specs.declared.draft.Draft.{Draft}
use Rattle.kept_asks.specs.Named.{HasNames, NamesStay}
use Rattle.kept_names.specs.Kept.{NamesState}
use Rattle.tree_asks.proofs.Answered.{tells_memory}
use Rattle.tree_asks.specs.Known.{IsKnown}
use Rattle.tree_asks.specs.Told.{OfEach, Tells}
use Rattle.tree_asks.specs.declared.hints.Hints.{Hints}
use Rattle.tree_edits.specs.declared.memory.Core.{Core}
use Rattle.adf_tree.specs.Asks.{AskEnds, IsAskedCause, LookEnds}
use Rattle.adf_tree.specs.Files.{FileState, IsWorking, device_of, image_in, state_of, steps_in}
use Rattle.adf_tree.specs.Headers.{Looks}
use Rattle.adf_tree.proofs.KeptNames.{has_names, names_stay}
use Rattle.adf_tree.specs.declared.file.AdfFile.{AdfFile}

-- hints change nothing of a file
pub other_hints : {D : Type 0} (state : D → DeviceState) (file : AdfFile D) (hints : Option Hints) → IsWorking state file → IsWorking state (record file { hints = hints })
other_hints state file hints w = record {
  cache = w.cache;
  near = w.near;
  kept_near = w.kept_near;
  means = w.means;
  work = w.work;
  names = w.names;
  idle = λ none. record { changes = (w.idle none).changes; core = (w.idle none).core };
  stopped = w.stopped;
}

-- lists of children that a question leaves those of the tree
pub other_names : {D : Type 0} (state : D → DeviceState) (file : AdfFile D) (names : NamesState) → IsWorking state file → NamesStay file.core (image_in state file) file.names names → IsWorking state (record file { names = names })
other_names state file names w stay = record {
  cache = w.cache;
  near = w.near;
  kept_near = w.kept_near;
  means = w.means;
  work = w.work;
  names = λ live. names_stay file.core (device_of state file).held (image_in state file) file.names names stay (w.names live);
  idle = λ none. record { changes = (w.idle none).changes; core = (w.idle none).core };
  stopped = w.stopped;
}

pub names_of : {D : Type 0} (state : D → DeviceState) (file : AdfFile D) → IsWorking state file → file.broken ≡ false → HasNames file.core (image_in state file) file.names
names_of state file w live =
    has_names file.core (device_of state file).held (image_in state file) file.names (steps_in file) (waiting_in file.draft) (w.names live) (w.means live) (w.work live)

-- a call that leaves the bytes that are shown and the blocks that wait looks
abbrev told_with : DeviceState → Option (List ℕ) → List ℕ → Core → List Edit → Bool → FileState
told_with d image waiting core steps broken = record { device = d; image = image; waiting = waiting; core = core; steps = steps; broken = broken }

pub only_looks : {D : Type 0} (state : D → DeviceState) (file : AdfFile D) (draft : Draft (BlockCache D)) → image_in state (record file { draft = draft }) ≡ image_in state file → waiting_in draft ≡ waiting_in file.draft
    → OnlyReads (device_of state file) (device_of state (record file { draft = draft })) → Looks (state_of state file) (state_of state (record file { draft = draft }))
only_looks state file draft shown waits reads =
    let d = device_of state (record file { draft = draft }) in
    record {
      device = reads;
      stays = ap (λ (image : Option (List ℕ)). told_with d image (waiting_in draft) file.core (steps_in file) file.broken) shown
          ∙ ap (λ (blocks : List ℕ). told_with d (image_in state file) blocks file.core (steps_in file) file.broken) waits;
    }

two_ways : (b : Bool) → b ≡ false → b ≡ true → ⊥
two_ways b is e = cc

-- ---- queries

pub broken_asks : (query : Query) (old new : FileState) → old.broken ≡ true → AskEnds query old new (Err error.Broken)
broken_asks query old new broken = record {
  broken = λ e. refl;
  told = by_held old.image;
  known = tt;
  cause = λ live. absurd (two_ways old.broken live broken);
}
  where
    by_held : (held : Option (List ℕ)) → OfEach old.core held (λ image tree p. IsFileAnswer old.broken tree query (Err error.Broken))
    by_held None = tt
    by_held (Some image) = λ tree p m. subst (λ (b : Bool). IsFileAnswer b tree query (Err error.Broken)) (sym broken) refl

pub memory_asks : (query : Query) (old new : FileState) (e : AdfError) → old.broken ≡ false → e ≡ error.Memory → AskEnds query old new (Err e)
memory_asks query old new e live is = subst (λ (x : AdfError). AskEnds query old new (Err x)) (sym is) (record {
  broken = λ broken. absurd (two_ways old.broken live broken);
  told = by_held old.image;
  known = tt;
  cause = λ e. tt;
})
  where
    by_held : (held : Option (List ℕ)) → OfEach old.core held (λ image tree p. IsFileAnswer old.broken tree query (Err error.Memory))
    by_held None = tt
    by_held (Some image) = λ tree p m. tt

pub asks_end : (query : Query) (old new : FileState) (result : Result Reply AdfError) → old.broken ≡ false → OfEach old.core old.image (λ image tree p. IsFileAnswer false tree query result)
    → IfOk result (IsKnown old.core (asked_node query) query) → IfErr result (IsAskedCause query old.device.faults new.device.faults) → AskEnds query old new result
asks_end query old new result live told known cause = record {
  broken = λ broken. absurd (two_ways old.broken live broken);
  told = subst (λ (b : Bool). OfEach old.core old.image (λ image tree p. IsFileAnswer b tree query result)) (sym live) told;
  known = known;
  cause = λ e. cause;
}

-- ---- looks

module _ {A : Type 0} (wanted : Tree → Result A AdfError) (Cause : ℕ → ℕ → AdfError → Type 0) (old new : FileState) where
  pub broken_looks : old.broken ≡ true → LookEnds wanted Cause old new (Err error.Broken)
  broken_looks broken = record { broken = λ e. refl; told = λ live. absurd (two_ways old.broken live broken); cause = λ live. absurd (two_ways old.broken live broken) }

  pub memory_looks : (e : AdfError) → old.broken ≡ false → e ≡ error.Memory → Cause old.device.faults new.device.faults error.Memory → LookEnds wanted Cause old new (Err e)
  memory_looks e live is free = record {
    broken = λ broken. absurd (two_ways old.broken live broken);
    told = λ x. tells_memory old.core old.image wanted e is;
    cause = λ x. subst (Cause old.device.faults new.device.faults) (sym is) free;
  }

  pub looks_end : (result : Result A AdfError) → old.broken ≡ false → Tells old.core old.image wanted result → IfErr result (Cause old.device.faults new.device.faults) → LookEnds wanted Cause old new result
  looks_end result live told cause = record { broken = λ broken. absurd (two_ways old.broken live broken); told = λ x. told; cause = λ x. cause }

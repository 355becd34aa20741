-- What a commit leaves of bytes and counts.
use Rattle.std.proofs.Common.{◌≡◌, inl, inr, ℕ, refl, sym, subst, arith, List, [], ◌∷◌, ◌+◌, ◌≤◌, true, false}
use Rattle.std.specs.Prelude.{Option, Some, None, IsSome}
use Rattle.std.specs.Map.{keys_of}
use Rattle.adf_model.specs.Counts.{DeviceState, NoCountFell, WriteFails, raised, Rose}
use Rattle.adf_model.specs.FileGroup.{done_by}
use Rattle.adf_model.specs.Untouched.{group_touched}
use Rattle.adf_model.proofs.Basics.{not_true, same_Some}
use Rattle.block_draft.specs.Changes.{image_of, with_changes, AreChanges, IsPartWritten}
use Rattle.cg_io.specs.Blocks.{Both}
use Rattle.cg_io.specs.Device.{with_block}
use Rattle.cg_io.specs.Waits.{Waits, how_many}
use Rattle.torn_laws.proofs.PartTorn.{group_is_torn, part_is_counted, waits_are_reached}
use Rattle.adf_tree.specs.Commits.{Breaks, TearsAll}
use Rattle.adf_tree.specs.Files.{FileState, DoesAll, accepted}

-- bytes that were told are told after a write that failed
pub part_told : (held : Option (List ℕ)) (writes : ℕ) (changes : List (ℕ × List ℕ)) (new : Option (List ℕ)) (now : ℕ) → IsPartWritten held writes changes new now → IsSome held → IsSome new
part_told None writes changes new now torn some = absurd (not_true some)
part_told (Some held) writes [] new now torn some = absurd torn
part_told (Some held) writes (c ∷ changes) None now (inl torn) some = absurd torn.0
part_told (Some held) writes (c ∷ changes) (Some new) now (inl torn) some = refl
part_told (Some held) writes (c ∷ changes) new now (inr rest) some = part_told (with_block (Some held) c.0 c.1) (raised writes) changes new now rest refl

-- and their count of writes has not fallen
pub part_later : (held : Option (List ℕ)) (writes : ℕ) (changes : List (ℕ × List ℕ)) (new : Option (List ℕ)) (now : ℕ) → IsPartWritten held writes changes new now → writes ≤ now
part_later held writes [] new now torn = absurd torn
part_later held writes (c ∷ changes) new now (inl torn) = let e = torn.1 in omega (arith, e)
part_later held writes (c ∷ changes) new now (inr rest) = let le = part_later (with_block held c.0 c.1) (raised writes) changes new now rest in omega (arith, le)

pub part_rose : (held : Option (List ℕ)) (writes : ℕ) (changes : List (ℕ × List ℕ)) (new : Option (List ℕ)) (now : ℕ) → IsPartWritten held writes changes new now → Rose writes now
part_rose held writes changes new now torn = (part_is_counted held new writes now changes torn).0

-- bytes that were not told are not told after it
part_untold : (writes : ℕ) (changes : List (ℕ × List ℕ)) (new : List ℕ) (now : ℕ) → IsPartWritten None writes changes (Some new) now → ⊥
part_untold writes [] new now torn = torn
part_untold writes (c ∷ changes) new now (inl torn) = torn.0
part_untold writes (c ∷ changes) new now (inr rest) = part_untold (raised writes) changes new now rest

-- the bytes are a first part of what the edits in work were to make, in each tree and placement that was meant
module _ (old : FileState) (changes : List (ℕ × List ℕ)) (waits : old.waiting ≡ keys_of changes) (are : AreChanges changes) (writes now : ℕ) where
  group_tears : (before after : List ℕ) → IsPartWritten (Some before) writes changes (Some after) now → DoesAll old.steps old.waiting (accepted old.core) old.core before (with_changes before changes) → TearsAll old before after
  group_tears before after torn does tree p m =
      let f = does tree p m in
      let limit = old.core.heap.limit in
      let done = done_by old.core.writable tree old.steps in
      let reached = waits_are_reached (group_touched limit tree p done) tree.wide p f.placement.heap.end changes (λ n waiting. f.reached n (subst (λ (blocks : List ℕ). Waits blocks n) (sym waits) waiting)) in record {
        work = f.work;
        made = f.whole.made;
        torn = group_is_torn limit tree f.work.tree p f.placement done before after writes now changes are torn f.whole.laid_out f.whole.tail f.whole.placed f.whole.rest reached;
      }

  all_tear : (held image new : Option (List ℕ)) → IsPartWritten held writes changes new now → image ≡ image_of held changes → Both (DoesAll old.steps old.waiting (accepted old.core) old.core) held image → Both (TearsAll old) held new
  all_tear None image None torn is does = tt
  all_tear None image (Some after) torn is does = part_untold writes changes after now torn
  all_tear (Some before) None new torn is does = absurd does
  all_tear (Some before) (Some shown) None torn is does = absurd (not_true (part_told (Some before) writes changes None now torn refl))
  all_tear (Some before) (Some shown) (Some after) torn is does =
      group_tears before after torn (subst (DoesAll old.steps old.waiting (accepted old.core) old.core before) (same_Some shown (with_changes before changes) is) does)

-- what a failed write leaves of the device below a file
record BreaksBelow (old : FileState) (below : DeviceState) : Type 0 where
  pub failed : WriteFails old.device below
  pub counts : NoCountFell old.device below
  pub writes : below.writes ≤ old.device.writes + how_many old.waiting
  pub torn : Both (TearsAll old) old.device.held below.held

pub breaks : (old new : FileState) (below : DeviceState) (changes : List (ℕ × List ℕ)) → old.broken ≡ false → new.broken ≡ true → new.core ≡ accepted old.core → new.steps ≡ [] → new.device ≡ below
    → Both (DoesAll old.steps old.waiting (accepted old.core) old.core) old.device.held old.image → (old.steps ≡ [] → changes ≡ [])
    → old.image ≡ image_of old.device.held changes → old.waiting ≡ keys_of changes → AreChanges changes
    → IsPartWritten old.device.held old.device.writes changes below.held below.writes → below.writes ≤ old.device.writes + how_many (keys_of changes) → below.reads ≡ old.device.reads
    → old.device.faults ≤ below.faults → Rose old.device.faults below.faults → old.device.lost ≤ below.lost → Rose old.device.lost below.lost → Breaks old new
breaks old new below changes live broken core steps same work idle image waits are torn few reads faults rose lost lost_rose = by_device (record {
  failed = record { faults = rose; lost = lost_rose; writes = part_rose old.device.held old.device.writes changes below.held below.writes torn };
  counts = record { faults = faults; lost = lost; reads = omega (arith, reads); writes = part_later old.device.held old.device.writes changes below.held below.writes torn };
  writes = subst (λ (blocks : List ℕ). below.writes ≤ old.device.writes + how_many blocks) (sym waits) few;
  torn = all_tear old changes waits are old.device.writes below.writes old.device.held old.image below.held torn image work;
})
  where
    by_device : BreaksBelow old below → Breaks old new
    by_device b = let o = subst (BreaksBelow old) (sym same) b in record {
      live = live;
      some = λ none. subst (λ (cs : List (ℕ × List ℕ)). IsPartWritten old.device.held old.device.writes cs below.held below.writes) (idle none) torn;
      broken = broken;
      core = core;
      steps = steps;
      failed = o.failed;
      counts = o.counts;
      writes = o.writes;
      torn = o.torn;
    }

-- A file in which no edit is in work.
use Rattle.std.proofs.Common.{◌≡◌, ℕ, refl, sym, ◌∙◌, ap, subst, arith, List, [], ◌∷◌, map, length, Bool, false}
use Rattle.std.specs.Prelude.{Option, Some, None}
use Rattle.std.specs.Map.{keys_of}
use Rattle.block_cache.specs.Cache.{IsCache}
use Rattle.block_draft.specs.Changes.{image_of, with_changes}
use Rattle.block_draft.specs.Draft.{blocks_below, changes_in, waiting_in}
use Rattle.cg_io.specs.Blocks.{Both}
use Rattle.cg_io.specs.Device.{DeviceState}
use Rattle.adf_model.specs.declared.tree.Edit.{Edit}
use Rattle.adf_model.specs.declared.tree.NodeId.{NodeId}
use Rattle.adf_model.proofs.Basics.{not_true}
use Rattle.adf_tree.specs.Reached.{with_reached}
use Rattle.tree_laws.proofs.Whole.GroupsWhole.{whole_group_begins}
use Rattle.file_heap.specs.Heap.{FreeSpace}
use Rattle.tree_edits.specs.declared.memory.Core.{Core}
use Rattle.tree_edits.specs.declared.rows.Row.{Row}
use Rattle.tree_edits.specs.Rows.{AreNear}
use Rattle.adf_tree.specs.declared.file.AdfFile.{AdfFile}
use Rattle.adf_tree.specs.Files.{FileState, steps_in, device_of, image_in, state_of, accepted, HasMeaning, DoesAll, IsFile, KeepsNames}
use Rattle.adf_tree.specs.Steps.{undone_over}

-- where no block is changed, the bytes that are shown are those that are held
pub image_settled : (held : Option (List ℕ)) (changes : List (ℕ × List ℕ)) → changes ≡ [] → image_of held changes ≡ held
image_settled None changes e = refl
image_settled (Some bytes) changes e = ap (λ (cs : List (ℕ × List ℕ)). Some (with_changes bytes cs)) e

-- no edit leaves all as it is
none_done : (core : Core) (held : Option (List ℕ)) → Both (DoesAll [] [] core core) held held
none_done core None = tt
none_done core (Some image) = λ tree p m. record {
  work = record { tree = tree; created = [] };
  placement = p;
  whole = whole_group_begins core.heap.limit core.writable tree p image m.laid_out;
  means = m;
  cost = omega arith;
  reached = λ n waits. absurd (not_true waits);
}

pub no_steps : (items : List (Edit × Option NodeId)) → items ≡ [] → map (λ (e : Edit × Option NodeId). with_reached e.0 e.1) items ≡ []
no_steps items e = ap (map (λ (e : Edit × Option NodeId). with_reached e.0 e.1)) e

module _ {D : Type 0} (state : D → DeviceState) (file : AdfFile D) (settled : changes_in file.draft ≡ []) (none : steps_in file ≡ [])
    (same : file.core ≡ accepted file.core)
  where
    idle_image : image_in state file ≡ (device_of state file).held
    idle_image = image_settled (device_of state file).held (changes_in file.draft) settled

    idle_work : Both (DoesAll (steps_in file) (waiting_in file.draft) (accepted file.core) file.core) (device_of state file).held (image_in state file)
    idle_work =
        subst (λ (image : Option (List ℕ)). Both (DoesAll (steps_in file) (waiting_in file.draft) (accepted file.core) file.core) (device_of state file).held image) (sym idle_image)
        (subst (λ (edits : List Edit). Both (DoesAll edits (waiting_in file.draft) (accepted file.core) file.core) (device_of state file).held (device_of state file).held) (sym none)
        (subst (λ (n : List ℕ). Both (DoesAll [] n (accepted file.core) file.core) (device_of state file).held (device_of state file).held) (sym (ap keys_of settled))
        (subst (λ (core : Core). Both (DoesAll [] [] core file.core) (device_of state file).held (device_of state file).held) same
        (none_done file.core (device_of state file).held))))

    pub idle_file : IsCache state (blocks_below file.draft) → AreNear file.core.wide file.core.rows.items
        → (file.broken ≡ false → HasMeaning file.core (device_of state file).held)
        → (file.broken ≡ false → KeepsNames file.names file.core (device_of state file).held (device_of state file).held) → IsFile state file
    idle_file cache near means names = record {
      working = record {
        cache = cache;
        near = near;
        kept_near = subst (λ (core : Core). AreNear core.wide core.rows.items) same near;
        means = λ live. subst (λ (core : Core). HasMeaning core (device_of state file).held) same (means live);
        work = λ live. idle_work;
        names = λ live. subst (KeepsNames file.names file.core (device_of state file).held) (sym idle_image) (names live);
        idle = λ e. record { changes = settled; core = same };
        stopped = λ e. none;
      };
      none = none;
    }

-- what is in memory is as it was accepted, where its parts are
pub core_same : (core : Core) → core.heap.kept ≡ core.heap.work → core.rows.kept ≡ core.rows.items → core ≡ accepted core
core_same core heap rows =
    ap (λ (free : FreeSpace). record core { heap = record core.heap { work = free } }) (sym heap)
    ∙ ap (λ (items : List (Option Row)). record core { heap = record core.heap { work = core.heap.kept }; rows = record core.rows { items = items } }) (sym rows)

pub no_changes : (changes : List (ℕ × List ℕ)) → length changes ≡ 0 → changes ≡ []
no_changes [] e = refl
no_changes (change ∷ changes) e = absurd (omega (arith, e))

pub no_keys : (changes : List (ℕ × List ℕ)) → keys_of changes ≡ [] → changes ≡ []
no_keys [] e = refl
no_keys (change ∷ changes) e = cc

-- ---- a file in which no edit is in work, as it is told

abbrev told_as : DeviceState → Option (List ℕ) → List ℕ → Core → List Edit → Bool → FileState
told_as d image waiting core steps broken = record { device = d; image = image; waiting = waiting; core = core; steps = steps; broken = broken }

pub idle_state : {D : Type 0} (state : D → DeviceState) (file : AdfFile D) → IsFile state file → state_of state file ≡ undone_over (device_of state file) (state_of state file)
idle_state state file f =
    let idle = f.working.idle f.none in
    let held = (device_of state file).held in
    let d = device_of state file in
    ap (λ (image : Option (List ℕ)). told_as d image (waiting_in file.draft) file.core (steps_in file) file.broken) (image_settled held (changes_in file.draft) idle.changes)
    ∙ ap (λ (n : List ℕ). told_as d held n file.core (steps_in file) file.broken) (ap keys_of idle.changes)
    ∙ ap (λ (core : Core). told_as d held [] core (steps_in file) file.broken) idle.core
    ∙ ap (λ (steps : List Edit). told_as d held [] (accepted file.core) steps file.broken) f.none

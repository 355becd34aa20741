-- What a step, a commit and an undo make of an open file, as its slot has it.
use Rattle.std.proofs.Common.{◌≡◌, ℕ, List, [], ◌∷◌, ◌++◌, length, map, Bool, true, false, refl, sym, ◌∙◌, ap, subst, arith}
use Rattle.std.specs.Prelude.{Option, Some, None, IsSome, IfSome, IsTrue, Result, Ok, Err, IfOk, IfErr, OnErr, if◌then◌else◌}
use Rattle.adf_follow.specs.Groups.{FileWork, IsStep, IsStepped, IsStepRefusal, IsCommitted, IsTornCommit, if_drawn, with_there}
use Rattle.adf_follow.specs.Looking.{HasStepCause}
use Rattle.adf_format.specs.Placement.{Placement}
use Rattle.adf_format.specs.Tree.{Tree, next_serial}
use Rattle.adf_library.specs.Edits.{StaysWaiting, IsDropped, StepsPlace, RefusesPlace, IsWritten, IsTorn, CommitEndsAt, CommitsPlace, is_told}
use Rattle.adf_library.specs.Places.{committed, in_work, slot_as, device_as, work_as, tree_by, placement_by, file_of, slot_in, device_of_slot, work_of_slot}
use Rattle.adf_library.specs.declared.places.Place as code
use Rattle.adf_library.specs.declared.places.Place.TheVariants as place
use Rattle.adf_library.specs.declared.places.Slot.{Slot}
use Rattle.adf_library.proofs.FileEdits.{StepFacts, KeepsIn, both_some, both_told, cost_fact, refusal_fact, step_facts, work_facts, work_keeps, work_torn}
use Rattle.adf_library.proofs.FileLooks.{open_sound}
use Rattle.adf_library.proofs.Meaning.{work_means, image_told}
use Rattle.adf_library.proofs.OpenedFile.{image_is, file_rests, file_laid}
use Rattle.adf_model.proofs.Basics.{not_true, same_Some}
use Rattle.adf_model.specs.Causes.{may_refuse_edit}
use Rattle.adf_model.specs.Counts.{OnlyReads}
use Rattle.adf_model.specs.Edits.{created_by, file_step, with_followed}
use Rattle.adf_model.specs.FileGroup.{done_by}
use Rattle.adf_model.specs.Slots.{Open, Device, Standing, standing_of, is_open, is_gone, open_of, with_slot}
use Rattle.adf_model.specs.Slots as model
use Rattle.adf_model.specs.Steps.{IsFileRefusal}
use Rattle.adf_model.specs.Torn.{TornGroup}
use Rattle.adf_model.specs.declared.error.AdfError.{AdfError}
use Rattle.adf_model.specs.declared.error.AdfError.TheVariants.{Memory, ReadFault, WriteFault, NotOpen, NoSuchFile, LinkChain, OtherFile, Layout}
use Rattle.adf_model.specs.declared.tree.Edit.{Edit}
use Rattle.adf_model.specs.declared.tree.Edit.TheVariants.{Create, Delete, Rename, Move, SetLabel, SetDims, PutAll, PutPart, Link}
use Rattle.adf_model.specs.declared.tree.NodeId.{NodeId}
use Rattle.adf_tree.specs.Commits.{Commits, Breaks, CommitEnds, TearsAll, undone}
use Rattle.adf_tree.specs.Commits as file
use Rattle.adf_tree.specs.Files.{FileState, IsFile, IsWorking, accepted, device_with, state_of}
use Rattle.adf_tree.specs.Reached.{with_reached}
use Rattle.adf_tree.specs.Steps.{IsStepCause, Refused, StepEnds, Stepped, drawn_by, undone_over}
use Rattle.adf_tree.specs.declared.file.AdfFile.{AdfFile}
use Rattle.cg_io.proofs.ReadLaws.{only_none}
use Rattle.cg_io.specs.Blocks.{Both}
use Rattle.cg_io.specs.Device.{DeviceState}
use Rattle.tree_edits.specs.declared.memory.Core.{Core}
use Rattle.tree_edits.specs.declared.rows.Row.{Row}
use Rattle.tree_edits.specs.Edits.{KeepsCore}
use Rattle.tree_laws.proofs.Groups.GroupsGrow.{done_grow}

-- ---- edits of nodes that were reached

pub same_reached : (edit : Edit) (there : Option NodeId) → with_reached edit there ≡ with_there edit there
same_reached edit None = refl
same_reached edit (Some there) = refl

followed_kind : (edit : Edit) (there : NodeId) (error : AdfError) → IsTrue (may_refuse_edit (with_followed edit there) error) → IsTrue (may_refuse_edit edit error)
followed_kind (Create at wanted label) there error h = h
followed_kind (Delete node) there error h = h
followed_kind (Rename node wanted) there error h = h
followed_kind (Move node to) there error h = h
followed_kind (SetLabel node label) there error h = h
followed_kind (SetDims node shape) there error h = h
followed_kind (PutAll node given) there error h = h
followed_kind (PutPart node selection given) there error h = h
followed_kind (Link at wanted file path) there error h = h

reached_kind : (edit : Edit) (there : Option NodeId) (error : AdfError) → IsTrue (may_refuse_edit (with_there edit there) error) → IsTrue (may_refuse_edit edit error)
reached_kind edit None error h = h
reached_kind edit (Some there) error h = followed_kind edit there error h

-- the serial that an edit draws is that of the node that it makes
drawn_is : (tree : Tree) (edit : Edit) (n : ℕ) → n ≡ next_serial tree → map (λ (node : NodeId). Some node.serial) (created_by tree edit) ≡ if_drawn (drawn_by edit n)
drawn_is tree (Create at wanted label) n e = ap (λ (s : ℕ). Some s ∷ []) (sym e)
drawn_is tree (Link at wanted file path) n e = ap (λ (s : ℕ). Some s ∷ []) (sym e)
drawn_is tree (Delete node) n e = refl
drawn_is tree (Rename node wanted) n e = refl
drawn_is tree (Move node to) n e = refl
drawn_is tree (SetLabel node label) n e = refl
drawn_is tree (SetDims node shape) n e = refl
drawn_is tree (PutAll node given) n e = refl
drawn_is tree (PutPart node selection given) n e = refl

-- ---- how a file stands

abbrev stands : Bool → Bool → Standing
stands broken writable = if broken then Standing.Failed else if writable then Standing.Editing else Standing.Reading

stands_so : (view : FileState → Open) (f : FileState) → standing_of (slot_as view f) ≡ stands f.broken (view f).writable
stands_so view f = by_test f.broken
  where
    by_test : (b : Bool) → standing_of (if b then model.Slot.Broken else model.Slot.Live (view f)) ≡ stands b (view f).writable
    by_test true = refl
    by_test false = refl

-- ---- one file

module _ {D : Type 0} (state : D → DeviceState) (name : List ℕ) (old new : AdfFile D) where
  abbrev f : FileState
  f = state_of state old

  abbrev g : FileState
  g = state_of state new

  abbrev before : Slot D
  before = record { name = name; place = place.Open old }

  abbrev after : Slot D
  after = record { name = name; place = place.Open new }

  abbrev named : model.Slot → model.File
  named slot = record { name = name; slot = slot }

  live : (view : FileState → Open) → f.broken ≡ false → slot_as view f ≡ model.Slot.Live (view f)
  live view sound = ap (λ (b : Bool). if b then model.Slot.Broken else model.Slot.Live (view f)) sound

  live_now : (view : FileState → Open) → g.broken ≡ false → slot_as view g ≡ model.Slot.Live (view g)
  live_now view sound = ap (λ (b : Bool). if b then model.Slot.Broken else model.Slot.Live (view g)) sound

  broken_now : (view : FileState → Open) → g.broken ≡ true → slot_as view g ≡ model.Slot.Broken
  broken_now view broken = ap (λ (b : Bool). if b then model.Slot.Broken else model.Slot.Live (view g)) broken

  told_held : f.broken ≡ false → is_told state before → IsSome f.device.held
  told_held sound told = told (ap is_gone (live in_work sound))

  -- ---- what waits is dropped

  module _ (is : IsFile state new) (device : OnlyReads f.device g.device) (left : g ≡ undone_over g.device f) where
    drop_waits : StaysWaiting state before after
    drop_waits = record {
      kept = ap (λ (h : FileState). named (slot_as committed h)) left
          ∙ ap (λ (h : Option (List ℕ)). named (if f.broken then model.Slot.Broken else model.Slot.Live (record { tree = tree_by h f.core.rows.kept; writable = f.core.writable; limit = f.core.heap.limit }))) device.held;
      standing = ap (λ (h : FileState). standing_of (slot_as in_work h)) left ∙ stands_so in_work (undone_over g.device f) ∙ sym (stands_so in_work f);
      device = device;
      placed = ap (λ (h : FileState). placement_by h.device.held h.core.rows.kept h.core.heap.kept.heap) left
          ∙ ap (λ (h : Option (List ℕ)). placement_by h f.core.rows.kept f.core.heap.kept.heap) device.held;
    }

    drop_drops : IsDropped state before after
    drop_drops = record {
      file = ap (slot_as in_work) left
          ∙ ap (λ (h : Option (List ℕ)). if f.broken then model.Slot.Broken else model.Slot.Live (record { tree = tree_by h f.core.rows.kept; writable = f.core.writable; limit = f.core.heap.limit })) device.held;
      work = (file_rests state new is).work;
    }

  -- ---- a step

  module _ (working : IsWorking state old) (sound : f.broken ≡ false) (edit : Edit) where
    module _ (serial : Option ℕ) (stepped : Stepped edit serial f g) where
      kept_open : committed g ≡ committed f
      kept_open = rw (stepped.device.held, stepped.kept.rows, stepped.kept.writable, stepped.kept.limit) refl

      step_waits : StaysWaiting state before after
      step_waits = record {
        kept = ap named (live_now committed stepped.broken ∙ ap model.Slot.Live kept_open ∙ sym (live committed sound));
        standing = stands_so in_work g ∙ ap (λ (b : Bool). stands b g.core.writable) (stepped.broken ∙ sym sound) ∙ ap (stands f.broken) stepped.kept.writable ∙ sym (stands_so in_work f);
        device = stepped.device;
        placed = rw (stepped.device.held, stepped.kept.rows, stepped.kept.heap) refl;
      }

      step_edits : standing_of (slot_as in_work f) ≡ Standing.Editing
      step_edits = stands_so in_work f ∙ ap (λ (b : Bool). stands b f.core.writable) sound ∙ ap (λ (w : Bool). stands false w) stepped.allowed

      module _ (told : IsSome f.device.held) where
        facts : StepFacts edit f.core g.core f.image g.image
        facts = step_facts edit f.core g.core f.image g.image (work_means state old working sound) stepped.done (image_told state old working sound told)

        done_more : (work_as g).done ≡ (work_as f).done ++ (edit, (in_work g).tree) ∷ []
        done_more =
            let all = work_facts f (working.means sound) (working.work sound) told in
            ap (λ (w : Bool). done_by w (committed g).tree g.steps) stepped.kept.writable
            ∙ ap (λ (o : Open). done_by f.core.writable o.tree g.steps) kept_open
            ∙ ap (done_by f.core.writable (committed f).tree) stepped.steps
            ∙ done_grow f.core.writable (committed f).tree (in_work g).tree f.steps edit all.work all.made (subst (λ (t : Tree). ◌≡◌ (file_step f.core.writable t edit) (Ok (in_work g).tree)) (sym all.left) facts.made)

        step_is : IsStep (in_work f) edit (in_work g).tree (work_as f) (work_as g)
        step_is = record {
          made = facts.made;
          done = done_more;
          placed = facts.placed;
          cost = cost_fact edit f.core f.waiting g.waiting f.image (work_means state old working sound) stepped.cost (image_told state old working sound told);
        }

        step_done : IsStepped (file_of in_work state before ∷ []) (file_of in_work state after ∷ []) (λ n. work_as f) (λ n. work_as g) 0 edit serial
        step_done = record {
          opened = in_work f;
          tree = (in_work g).tree;
          here = ap open_of (live in_work sound);
          step = step_is;
          left = ap (λ (s : model.Slot). named s ∷ []) (live_now in_work stepped.broken ∙ rw (stepped.kept.writable, stepped.kept.limit) refl);
          drawn = drawn_is (in_work f).tree edit (length f.core.rows.items) facts.count ∙ ap if_drawn (sym stepped.drawn);
        }

      step_place : StepsPlace state edit before after serial
      step_place = record { editing = step_edits; done = λ told. step_done (told_held sound told) }

    module _ (error : AdfError) (refused : Refused edit error f g) where
      why_refused : is_told state before → IsStepRefusal (file_of in_work state before ∷ []) (λ n. work_as f) 0 edit error
      why_refused told = record {
        opened = in_work f;
        here = ap open_of (live in_work sound);
        why = refusal_fact edit f.core error f.image (work_means state old working sound) refused.why (image_told state old working sound (told_held sound told));
      }

  module _ (sound : f.broken ≡ false) (edit : Edit) (there : Option NodeId) where
    refused_cause : (error : AdfError) → IsStepCause (with_there edit there) f.device.faults g.device.faults error
        → HasStepCause (file_of in_work state before ∷ []) edit 0 (device_as f ∷ []) (device_as g ∷ []) error
    refused_cause Memory h = tt
    refused_cause ReadFault h = (ap is_open (live in_work sound), h)
    refused_cause (Layout rule place) h = h
    refused_cause AdfError.Broken h = absurd h
    refused_cause WriteFault h = absurd h
    refused_cause NotOpen h = absurd h
    refused_cause NoSuchFile h = absurd h
    refused_cause LinkChain h = absurd h
    refused_cause OtherFile h = absurd h
    refused_cause error h = (h.0, reached_kind edit there error h.1)

  -- ---- a commit

  module _ (working : IsWorking state old) (sound : f.broken ≡ false) (is : IsFile state new) where
    was_open : (was : Open) → open_of (slot_as committed f) ≡ Some was → committed f ≡ was
    was_open was e = same_Some (committed f) was (sym (ap open_of (live committed sound)) ∙ e)

    module _ (done : Commits f g) where
      same_core : g.core ≡ file.committed f.core
      same_core = done.core

      now_open : in_work g ≡ in_work f
      now_open = ap (λ (h : Option (List ℕ)). record { tree = tree_by h g.core.rows.items; writable = g.core.writable; limit = g.core.heap.limit }) (image_is state new is ∙ done.held)
          ∙ ap (λ (c : Core). record { tree = tree_by f.image c.rows.items; writable = c.writable; limit = c.heap.limit }) done.core

      kept_now : committed g ≡ in_work f
      kept_now = ap (λ (h : Option (List ℕ)). record { tree = tree_by h g.core.rows.kept; writable = g.core.writable; limit = g.core.heap.limit }) done.held
          ∙ ap (λ (c : Core). record { tree = tree_by f.image c.rows.kept; writable = c.writable; limit = c.heap.limit }) done.core

      placed_now : (device_as g).placement ≡ (work_as f).placement
      placed_now = ap (λ (h : Option (List ℕ)). placement_by h g.core.rows.kept g.core.heap.kept.heap) done.held
          ∙ ap (λ (c : Core). placement_by f.image c.rows.kept c.heap.kept.heap) done.core

      written_as : IsSome f.device.held → IsCommitted (committed f) (work_as f) (device_as f) (device_as g)
      written_as told = record {
        cost = done.writes;
        placed = placed_now;
        rest = λ earlier later was now. both_told (KeepsIn f) f.device.held f.image earlier later (work_keeps f (working.means sound) (working.work sound) told) was (sym done.held ∙ now);
      }

      is_written : IsWritten state before after
      is_written = record {
        now = ap named (live_now in_work done.broken ∙ ap model.Slot.Live now_open ∙ sym (live in_work sound));
        kept = live_now committed done.broken ∙ ap model.Slot.Live kept_now ∙ sym (live in_work sound);
        committed_is = λ was told e. subst (λ (o : Open). IsCommitted o (work_as f) (device_as f) (device_as g)) (was_open was e) (written_as (told_held sound told));
      }

      commit_done : CommitsPlace state before after (Ok tt)
      commit_done = record {
        name = refl;
        ends = is_written;
        rest = (file_rests state new is).work;
        device = done.counts;
        laid_out = file_laid state new is.working;
        told = λ told there. subst IsSome (sym done.held) (image_told state old working sound (told_held sound told));
      }

    module _ (broke : Breaks f g) where
      torn_as : IsSome f.device.held → IsTornCommit (committed f) (in_work f).tree (work_as f) (device_as f) (device_as g)
      torn_as told = record {
        cost = broke.writes;
        torn = λ earlier later was now.
            both_told (λ a b. TornGroup f.core.heap.limit (committed f).tree (device_as f).placement (work_as f).done (in_work f).tree a b) f.device.held g.device.held earlier later
            (work_torn f (working.means sound) (working.work sound) told g.device.held broke.torn) was now;
      }

      is_torn : IsTorn state before after WriteFault
      is_torn = record {
        fault = refl;
        now = broken_now in_work broke.broken;
        kept = broken_now committed broke.broken;
        failed = broke.failed;
        torn = λ was opened told here there.
            subst (λ (o : Open). IsTornCommit was o.tree (work_as f) (device_as f) (device_as g)) (same_Some (in_work f) opened (sym (ap open_of (live in_work sound)) ∙ there))
            (subst (λ (o : Open). IsTornCommit o (in_work f).tree (work_as f) (device_as f) (device_as g)) (was_open was here) (torn_as (told_held sound told)));
      }

      commit_broke : CommitsPlace state before after (Err WriteFault)
      commit_broke = record {
        name = refl;
        ends = is_torn;
        rest = (file_rests state new is).work;
        device = broke.counts;
        laid_out = file_laid state new is.working;
        told = λ told there. both_some (TearsAll f) f.device.held g.device.held broke.torn (told_held sound told);
      }

    commit_ends : (result : Result Unit AdfError) → CommitEnds result f g → CommitsPlace state before after result
    commit_ends (Ok done) ends = commit_done ends
    commit_ends (Err WriteFault) ends = commit_broke ends
    commit_ends (Err AdfError.Broken) ends = absurd (not_true (sym sound ∙ ends.0))
    commit_ends (Err error) ends = absurd ends

-- ---- as the code has it

module _ {D : Type 0} (state : D → DeviceState) (slot : Slot D) (old new : AdfFile D) (is : slot.place ≡ place.Open old) where
  abbrev later : Slot D
  later = record slot { place = place.Open new }

  at_place : (P : Slot D → Type 0) → P (record slot { place = place.Open old }) → P slot
  at_place P p = subst (λ (q : code.Place D). P (record slot { place = q })) (sym is) p

  sound_open : IsSome (open_of (file_of in_work state slot).slot) → (state_of state old).broken ≡ false
  sound_open some = open_sound (state_of state old) (subst (λ (p : code.Place D). IsSome (open_of (slot_in in_work state p))) is some)

  module _ (working : IsWorking state old) (some : IsSome (open_of (file_of in_work state slot).slot)) where
    abbrev sound : (state_of state old).broken ≡ false
    sound = sound_open some

    module _ (edit : Edit) (there : Option NodeId) (now_working : IsWorking state new) where
      reached_ends : (result : Result (Option ℕ) AdfError) → StepEnds (with_reached edit there) result (state_of state old) (state_of state new) → StepEnds (with_there edit there) result (state_of state old) (state_of state new)
      reached_ends result ends = subst (λ (e : Edit). StepEnds e result (state_of state old) (state_of state new)) (same_reached edit there) ends

      abbrev reached : Edit
      reached = with_there edit there

      refused_file : (error : AdfError) → Refused reached error (state_of state old) (state_of state new) → IsFile state new
      refused_file error refused = record { working = now_working; none = ap (λ (f : FileState). f.steps) refused.undone }

      -- a refusal is one of a file that is not broken
      refused_so : (error : AdfError) → StepEnds reached (Err error) (state_of state old) (state_of state new) → Refused reached error (state_of state old) (state_of state new)
      refused_so AdfError.Broken ends = absurd (not_true (sym sound ∙ ends.0))
      refused_so error ends = ends

      waits : (result : Result (Option ℕ) AdfError) → StepEnds reached result (state_of state old) (state_of state new) → StaysWaiting state slot later
      waits (Ok serial) ends = at_place (λ s. StaysWaiting state s later) (step_waits state slot.name old new working sound reached serial ends)
      waits (Err error) ends =
          let refused = refused_so error ends in
          at_place (λ s. StaysWaiting state s later) (drop_waits state slot.name old new (refused_file error refused) refused.device refused.undone)

      pub step_stays : (result : Result (Option ℕ) AdfError) → StepEnds (with_reached edit there) result (state_of state old) (state_of state new) → StaysWaiting state slot later
      step_stays result ends = waits result (reached_ends result ends)

      steps : (result : Result (Option ℕ) AdfError) → StepEnds reached result (state_of state old) (state_of state new) → IfOk result (StepsPlace state reached slot later)
      steps (Ok serial) ends = at_place (λ s. StepsPlace state reached s later serial) (step_place state slot.name old new working sound reached serial ends)
      steps (Err error) ends = tt

      pub step_steps : (result : Result (Option ℕ) AdfError) → StepEnds (with_reached edit there) result (state_of state old) (state_of state new) → IfOk result (StepsPlace state reached slot later)
      step_steps result ends = steps result (reached_ends result ends)

      refuses : (result : Result (Option ℕ) AdfError) → StepEnds reached result (state_of state old) (state_of state new) → IfErr result (RefusesPlace state edit reached slot later)
      refuses (Ok serial) ends = tt
      refuses (Err error) ends =
          let refused = refused_so error ends in
          at_place (λ s. RefusesPlace state edit reached s later error) (record {
            why = why_refused state slot.name old new working sound reached error refused;
            cause = refused_cause state slot.name old new sound edit there error refused.cause;
          })

      pub step_refuses : (result : Result (Option ℕ) AdfError) → StepEnds (with_reached edit there) result (state_of state old) (state_of state new) → IfErr result (RefusesPlace state edit reached slot later)
      step_refuses result ends = refuses result (reached_ends result ends)

      drops : (result : Result (Option ℕ) AdfError) → StepEnds reached result (state_of state old) (state_of state new) → OnErr result (IsDropped state slot later)
      drops (Ok serial) ends = tt
      drops (Err error) ends =
          let refused = refused_so error ends in
          at_place (λ s. IsDropped state s later) (drop_drops state slot.name old new (refused_file error refused) refused.device refused.undone)

      pub step_drops : (result : Result (Option ℕ) AdfError) → StepEnds (with_reached edit there) result (state_of state old) (state_of state new) → OnErr result (IsDropped state slot later)
      step_drops result ends = drops result (reached_ends result ends)

    pub commit_commits : IsFile state new → (result : Result Unit AdfError) → CommitEnds result (state_of state old) (state_of state new) → CommitsPlace state slot later result
    commit_commits now result ends = at_place (λ s. CommitsPlace state s later result) (commit_ends state slot.name old new working sound now result ends)

  module _ (now : IsFile state new) (left : state_of state new ≡ undone (state_of state old)) where
    same_device : (state_of state new).device ≡ (state_of state old).device
    same_device = ap (λ (f : FileState). f.device) left

    undone_so : state_of state new ≡ undone_over (state_of state new).device (state_of state old)
    undone_so = left ∙ ap (λ (d : DeviceState). undone_over d (state_of state old)) (sym same_device)

    only : OnlyReads (state_of state old).device (state_of state new).device
    only = subst (OnlyReads (state_of state old).device) (sym same_device) (only_none (state_of state old).device)

    pub undo_waits : StaysWaiting state slot later
    undo_waits = at_place (λ s. StaysWaiting state s later) (drop_waits state slot.name old new now only undone_so)

    pub undo_drops : IsDropped state slot later
    undo_drops = at_place (λ s. IsDropped state s later) (drop_drops state slot.name old new now only undone_so)

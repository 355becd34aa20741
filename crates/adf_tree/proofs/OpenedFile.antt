-- What is opened by a verdict of the linter.
use Rattle.std.proofs.Common.{◌≡◌, ℕ, zero, suc, refl, sym, ◌∙◌, ap, subst, arith, List, [], ◌∷◌, map, length, ◌+◌, ◌≤◌, ◌*◌, ◌^◌, Bool, false}
use Rattle.std.specs.Prelude.{Option, Some, None, IfSome, Result, Ok, Err, IfOk, IfErr, slice_get}
use Rattle.adf_format.specs.RecordFields.{node_length}
use Rattle.adf_format.specs.declared.types.Extent.{Extent}
use Rattle.adf_format.specs.declared.types.Format.{Format}
use Rattle.adf_format.specs.Tree.{Tree, IsNumbered}
use Rattle.adf_format.specs.Placement.{Placement, Heap}
use Rattle.adf_format.specs.LaysOut.{ThreadsFreeChunks}
use Rattle.adf_format.specs.Verdict.{NodePlace}
use Rattle.adf_model.specs.Counts.{DeviceState, OnlyReads}
use Rattle.adf_model.specs.Steps.{Opening, Stored}
use Rattle.adf_model.specs.declared.error.AdfError.{AdfError}
use Rattle.adf_model.specs.declared.error.AdfError.TheVariants as error
use Rattle.cg_io.specs.Answers.{IsRefusal, IsUntold, Told}
use Rattle.cg_io.specs.Blocks.{ReadsFew}
use Rattle.file_heap.specs.Heap.{IsHeap, IsThreaded}
use Rattle.layout_lint.specs.declared.verdict.NodePlace as code
use Rattle.layout_lint.specs.declared.verdict.Verdict.{Verdict}
use Rattle.layout_lint.specs.declared.verdict.Verdict.TheVariants as says
use Rattle.layout_lint.specs.Shapes.{HasShape, IsShaped}
use Rattle.layout_lint.specs.Verdicts.{IsVerdict, MayFail, NamesRule}
use Rattle.layout_lint.specs.Walks.{node_place}
use Rattle.tree_edits.specs.declared.memory.Core.{Core}
use Rattle.tree_edits.specs.Edits.{memory_of}
use Rattle.tree_edits.specs.Rows.{IsTable, Memory, Means, AreNear}
use Rattle.adf_model.specs.Slots.{no_device}
use Rattle.block_cache.specs.Cache.{IsCache}
use Rattle.block_draft.specs.Draft.{blocks_below, changes_in, waiting_in}
use Rattle.tree_edits.specs.Undo.{RowsState}
use Rattle.cg_io.proofs.ReadLaws.{only_then}
use Rattle.adf_tree.specs.declared.file.AdfFile.{AdfFile}
use Rattle.adf_tree.specs.declared.file.OpenRefused.{OpenRefused}
use Rattle.adf_tree.specs.Files.{FileState, IsFile, HasMeaning, device_of, image_in, state_of}
use Rattle.adf_tree.specs.Opening.{opened_from, HasNumberedTree, HasVerdict, IsRefused, OpensStored, Stands}
use Rattle.adf_tree.proofs.KeptNames.{none_kept}
use Rattle.adf_tree.proofs.OpenedTable.{opened_table}
use Rattle.adf_tree.proofs.Starting.{core_same, idle_file, no_keys, no_steps}

-- ---- what the linter says

module _ (v : Verdict) (nodes : List code.NodePlace) (gaps : List Extent) (end : ℕ) (format : Format) (wide : Bool)
    (is : v ≡ says.Sound nodes gaps end format wide)
  where
    pub verdict_of : (old new : Option (List ℕ)) → new ≡ old → Told old (λ image. IsVerdict image v) → HasVerdict new nodes gaps end wide
    verdict_of old new same told image e = (format, subst (IsVerdict image) is (told image (sym same ∙ e)))

    pub shape_of : HasShape v → IsShaped (map node_place nodes) gaps end wide
    shape_of shape = subst HasShape is shape

pub verdict_threads : (held : Option (List ℕ)) (nodes : List code.NodePlace) (gaps : List Extent) (end : ℕ) (wide : Bool)
    → HasVerdict held nodes gaps end wide → IfSome held (λ bytes. ThreadsFreeChunks bytes gaps)
verdict_threads None nodes gaps end wide v = tt
verdict_threads (Some image) nodes gaps end wide v = let w = v image refl in subst (ThreadsFreeChunks image) w.1.same_gaps w.1.laid_out.threads

-- the tree of a verdict is what bytes and memory mean
pub verdict_means : (held : Option (List ℕ)) (nodes : List code.NodePlace) (gaps : List Extent) (end : ℕ) (memory : Memory)
    → HasVerdict held nodes gaps end memory.wide → memory.rows ≡ opened_from 0 (map node_place nodes)
    → memory.free.heap ≡ record { gaps = gaps; end = end } → IfSome held (IsThreaded memory.free)
    → IfSome held (λ image. (tree : Tree) × (p : Placement) × Means image tree p memory × IsNumbered tree)
verdict_means None nodes gaps end memory v rows heap threads = tt
verdict_means (Some image) nodes gaps end memory v rows heap threads =
    let w = (v image refl).1 in (
      w.tree,
      w.placement,
      record {
        laid_out = w.laid_out;
        wide = w.same_width;
        table = subst (IsTable w.tree w.placement) (sym rows) (opened_table image w.tree w.placement (map node_place nodes) w.laid_out w.in_order w.listed);
        heap = ap (λ (gs : List Extent). let made : Heap = record { gaps = gs; end = w.placement.heap.end } in made) w.same_gaps
            ∙ ap (λ (e : ℕ). let made : Heap = record { gaps = gaps; end = e } in made) w.same_end ∙ sym heap;
        threads = threads;
      },
      w.in_order,
    )

pub numbered_means : (core : Core) (held : Option (List ℕ))
    → HasNumberedTree core held → HasMeaning core held
numbered_means core None m = tt
numbered_means core (Some image) m = (m.0, m.1, m.2)

-- ---- the shape of a verdict, also where bytes are not told

pub shape_heap : (nodes : List NodePlace) (gaps : List Extent) (end : ℕ) (wide : Bool) → IsShaped nodes gaps end wide
    → IsHeap (record { gaps = gaps; end = end })
shape_heap nodes gaps end wide s = record { order = s.order; within = s.within; low = (let l = s.low in omega (arith, l)); high = s.high }

rows_near : (wide : Bool) (k : ℕ) (nodes : List NodePlace)
    → ((i : ℕ) (n : NodePlace) → slice_get nodes i ≡ Some n → n.place + node_length wide ≤ 2 ^ 44) → AreNear wide (opened_from k nodes)
rows_near wide k [] all i = tt
rows_near wide k (n ∷ nodes) all zero = all zero n refl
rows_near wide k (n ∷ nodes) all (suc i) = rows_near wide (suc k) nodes (λ j m e. all (suc j) m e) i

pub shape_near : (nodes : List NodePlace) (gaps : List Extent) (end : ℕ) (wide : Bool) → IsShaped nodes gaps end wide
    → AreNear wide (opened_from 0 nodes)
shape_near nodes gaps end wide s = rows_near wide 0 nodes (λ i n e. let h = (s.headers i n e).1 in let high = s.high in omega (arith, h, high))

-- ---- refusals

-- want of memory refuses each opening
pub lacks_memory : (opening : Opening) (old new : DeviceState) (e : AdfError) → e ≡ error.Memory → OnlyReads old new → IsRefused opening old new e
lacks_memory opening old new e is reads = subst (IsRefused opening old new) (sym is) (record { cause = λ p q. tt; leaves = reads })

-- ---- the file

pub all_rows_of : (rows : RowsState) (given nodes : List code.NodePlace) → given ≡ nodes → rows ≡ record { items = opened_from 0 (map node_place given); kept = opened_from 0 (map node_place given) }
    → rows ≡ record { items = opened_from 0 (map node_place nodes); kept = opened_from 0 (map node_place nodes) }
all_rows_of rows given nodes is e = subst (λ (ns : List code.NodePlace). rows ≡ record { items = opened_from 0 (map node_place ns); kept = opened_from 0 (map node_place ns) }) is e

module _ {D : Type 0} (state : D → DeviceState) (old : DeviceState) (file : AdfFile D) (nodes : List code.NodePlace) (gaps : List Extent) (end limit : ℕ)
    (cache : IsCache state (blocks_below file.draft)) (shown : image_in state file ≡ old.held) (waits : waiting_in file.draft ≡ [])
    (reads : OnlyReads old (device_of state file)) (steps : file.steps.items ≡ []) (live : file.broken ≡ false)
    (heap : file.core.heap.work.heap ≡ record { gaps = gaps; end = end }) (kept : file.core.heap.kept ≡ file.core.heap.work) (bound : file.core.heap.limit ≡ limit)
    (rows : file.core.rows ≡ record { items = opened_from 0 (map node_place nodes); kept = opened_from 0 (map node_place nodes) })
    (threads : IfSome (image_in state file) (IsThreaded file.core.heap.work))
    (shape : IsShaped (map node_place nodes) gaps end file.core.wide) (verdict : HasVerdict old.held nodes gaps end file.core.wide)
  where
    numbered : HasNumberedTree file.core (device_of state file).held
    numbered = verdict_means (device_of state file).held nodes gaps end (memory_of file.core)
        (subst (λ (held : Option (List ℕ)). HasVerdict held nodes gaps end file.core.wide) (sym reads.held) verdict)
        (ap (λ (r : RowsState). r.items) rows) heap
        (subst (λ (held : Option (List ℕ)). IfSome held (IsThreaded file.core.heap.work)) (shown ∙ sym reads.held) threads)

    pub stored_file : file.names.lists ≡ [] → IsFile state file
    stored_file none = idle_file state file (no_keys (changes_in file.draft) waits) (no_steps file.steps.items steps)
        (core_same file.core kept (ap (λ (r : RowsState). r.kept) rows ∙ sym (ap (λ (r : RowsState). r.items) rows)))
        cache (subst (AreNear file.core.wide) (sym (ap (λ (r : RowsState). r.items) rows)) (shape_near (map node_place nodes) gaps end file.core.wide shape))
        (λ e. numbered_means file.core (device_of state file).held numbered)
        (λ e. none_kept file.names file.core (device_of state file).held (device_of state file).held none)

    pub stored_stands : Stands file.core.writable limit old (state_of state file)
    stored_stands = record {
      starts = record { writable_is = refl; limit_is = bound; steps = no_steps file.steps.items steps; sound = live };
      device = reads;
      shape = record {
        nodes = map node_place nodes;
        rows = ap (λ (r : RowsState). r.items) rows;
        shape = subst (λ (h : Heap). IsShaped (map node_place nodes) h.gaps h.end file.core.wide) (sym heap) shape;
      };
      tree = numbered;
    }

-- behind the reads of the linter
pub opens_later : (writable : Bool) (limit : ℕ) (a b : DeviceState) (file : FileState) → OnlyReads a b → Told a.held (λ image. ReadsFew (8 * length image + 16) a b)
    → Stands writable limit b file → file.device.reads ≤ b.reads + 2 * (length file.core.heap.work.heap.gaps + 3) → OpensStored writable limit a file
opens_later writable limit a b file reads few stands more = record {
  stands = record { starts = stands.starts; device = only_then a b file.device reads stands.device; shape = stands.shape; tree = stands.tree };
  few = λ image told. (let f = (few image told).few in omega (arith, f, more));
}

-- ---- why an opening fails

-- where the lists are not read
pub unread_refused : (writable : Bool) (old new : DeviceState) (held : Option (List ℕ)) (e : AdfError) → held ≡ old.held → OnlyReads old new
    → IsRefusal (IsUntold held) old.faults new.faults e → IsRefused (Stored writable) old new e
unread_refused writable old new held error.Memory same reads cause = record { cause = λ p q. tt; leaves = reads }
unread_refused writable old new held error.ReadFault same reads cause = record { cause = λ p q. cause; leaves = reads }
unread_refused writable old new held (error.Layout rule place) same reads cause = record {
  cause = λ p q. (cause.0, λ image e. absurd (subst IsUntold (same ∙ e) cause.1));
  leaves = reads;
}
unread_refused writable old new held e same reads cause = absurd cause

-- where the linter finds a fault
pub unsound_refused : (writable : Bool) (old new : DeviceState) (v : Verdict) (rule place : ℕ) → v ≡ says.Unsound rule place → NamesRule v → OnlyReads old new
    → Told old.held (λ image. IsVerdict image v) → IsRefused (Stored writable) old new (error.Layout rule place)
unsound_refused writable old new v rule place is names reads told = record {
  cause = λ p q. (subst NamesRule is names, λ image e. subst (IsVerdict image) is (told image e));
  leaves = reads;
}

-- where it fails
pub lint_refused : (writable : Bool) (old new : DeviceState) (e : AdfError) → OnlyReads old new → MayFail old.faults new.faults e → IsRefused (Stored writable) old new e
lint_refused writable old new error.Memory reads cause = record { cause = λ p q. tt; leaves = reads }
lint_refused writable old new error.ReadFault reads cause = record { cause = λ p q. cause; leaves = reads }
lint_refused writable old new e reads cause = absurd cause

-- a refusal after reads
pub refused_later : (writable : Bool) (a b c : DeviceState) (e : AdfError) → OnlyReads a b → IsRefused (Stored writable) b c e → IsRefused (Stored writable) a c e
refused_later writable a b c error.Memory reads r = record { cause = λ p q. tt; leaves = only_then a b c reads r.leaves }
refused_later writable a b c error.ReadFault reads r = record {
  cause = λ p q. (let f = reads.faults in let g = r.cause p q in omega (arith, f, g));
  leaves = only_then a b c reads r.leaves;
}
refused_later writable a b c error.WriteFault reads r = absurd (r.cause no_device.placement no_device.placement)
refused_later writable a b c (error.Layout rule place) reads r = record {
  cause = λ p q. ((r.cause p q).0, λ image e. (r.cause p q).1 image (reads.held ∙ e));
  leaves = only_then a b c reads r.leaves;
}
refused_later writable a b c e reads r = absurd (r.cause no_device.placement no_device.placement)

-- an opening behind the reads of the linter
module _ {D : Type 0} (state : D → DeviceState) (writable : Bool) (limit : ℕ) (a b : DeviceState) (reads : OnlyReads a b) where
  pub done_later : (result : Result (AdfFile D) (OpenRefused D)) → Told a.held (λ image. ReadsFew (8 * length image + 16) a b)
      → IfOk result (λ file. Stands writable limit b (state_of state file))
      → IfOk result (λ file. (device_of state file).reads ≤ b.reads + 2 * (length file.core.heap.work.heap.gaps + 3))
      → IfOk result (λ file. OpensStored writable limit a (state_of state file))
  done_later (Ok file) few stands more = opens_later writable limit a b (state_of state file) reads few stands more
  done_later (Err r) few stands more = tt

  pub refusal_later : (result : Result (AdfFile D) (OpenRefused D)) → IfErr result (λ r. IsRefused (Stored writable) b (state r.device) r.error)
      → IfErr result (λ r. IsRefused (Stored writable) a (state r.device) r.error)
  refusal_later (Ok file) is = tt
  refusal_later (Err r) is = refused_later writable a b (state r.device) r.error reads is

-- a refusal that comes with its device
pub refused_with : (opening : Opening) (old new there : DeviceState) (e given : AdfError) → there ≡ new → given ≡ e → IsRefused opening old new e → IsRefused opening old there given
refused_with opening old new there e given device error r = subst (λ (d : DeviceState). IsRefused opening old d given) (sym device) (subst (IsRefused opening old new) (sym error) r)

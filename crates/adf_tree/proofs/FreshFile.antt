-- The fresh file: its block, its table, and what a failed write leaves of it.
use Rattle.std.proofs.Common.{◌≡◌, ◌≢◌, ◌⊎◌, inl, inr, ℕ, zero, suc, refl, sym, ◌∙◌, ap, subst, arith, List, [], ◌∷◌, ◌++◌, length, get_or, take, drop, replicate, ◌+◌, ◌-◌, ◌*◌, ◌<◌, ◌≤◌, ◌^◌, Bool, true, false, length-append, length-take}
use Rattle.std.proofs.lemmas.Bool.{cases_lt}
use Rattle.std.proofs.lemmas.List.{length-replicate}
use Rattle.std.proofs.lemmas.Grind.{same_number_lists}
use Rattle.std.specs.Prelude.{Option, Some, None, IsSome, IfSome, Result, Ok, Err, OnOk, slice_index_or}
use Rattle.std.specs.Option.{option_map}
use Rattle.adf_format.specs.Fresh.{fresh_text, fresh_end, fresh_placement, fresh_block}
use Rattle.adf_format.specs.Tree.{fresh_tree, depth_of, lineage, climb, families}
use Rattle.adf_format.specs.LaysOut.{LaysOut, ThreadsFreeChunks}
use Rattle.adf_format.proofs.BehindEnd.{more_behind}
use Rattle.adf_format.proofs.FreshLaidOut.{fresh_is_tree, fresh_laid_out, fresh_length}
use Rattle.adf_format.specs.RecordFields.{node_length}
use Rattle.adf_model.specs.Counts.{DeviceState, OnlyReads, Rose, raised_by}
use Rattle.adf_model.specs.Steps.{Fresh}
use Rattle.adf_model.specs.Torn.{TornAt}
use Rattle.adf_model.specs.declared.error.AdfError.{AdfError}
use Rattle.adf_model.specs.declared.error.AdfError.TheVariants as error
use Rattle.adf_model.proofs.Basics.{same_Some}
use Rattle.adf_model.proofs.Trees.SubtreeLemmas.{root_has_none}
use Rattle.block_cache.specs.Cache.{IsCache}
use Rattle.block_draft.specs.Changes.{image_of, with_changes, AreChanges, IsPartWritten}
use Rattle.block_draft.specs.Draft.{blocks_below, changes_in}
use Rattle.cg_io.specs.Answers.{IsRefusal, IsUntold}
use Rattle.cg_io.proofs.ReadLaws.{only_then}
use Rattle.cg_io.specs.Blocks.{Both, ReadsFew, Wrote}
use Rattle.cg_io.specs.Device.{IsTorn, overwritten}
use Rattle.cg_io.specs.Waits.{how_many}
use Rattle.std.specs.Map.{keys_of}
use Rattle.block_draft.proofs.Waits.{many_wait}
use Rattle.cg_io.proofs.Places.{length-overwritten}
use Rattle.file_heap.specs.Heap.{IsHeap, IsThreaded}
use Rattle.tree_edits.specs.declared.memory.Core.{Core}
use Rattle.tree_edits.specs.Edits.{memory_of}
use Rattle.tree_edits.specs.Rows.{AreNear, IsRowOf, IsTable, Means}
use Rattle.adf_tree.specs.declared.file.AdfFile.{AdfFile}
use Rattle.adf_tree.specs.Files.{HasMeaning, IsFile, device_of, state_of}
use Rattle.adf_tree.specs.Fresh.{IsFreshCause, IsFreshCore, fresh_error}
use Rattle.adf_tree.specs.Opening.{IsEmpty, IsEmptyCause, IsRefused, KeepsFresh, OpensFresh, fresh_row}
use Rattle.adf_tree.proofs.KeptNames.{none_kept}
use Rattle.adf_tree.proofs.Committing.{part_later, part_rose, part_told}
use Rattle.adf_tree.proofs.Starting.{core_same, idle_file, no_steps}

-- ---- the block

pub block_long : (wide : Bool) → length (fresh_block wide) ≡ 4096
unfolding fresh_block
block_long wide =
    length-append (fresh_text wide) (replicate (4095 - fresh_end wide) 0)
    ∙ (let e = fresh_length wide in let r = length-replicate {A = ℕ} (4095 - fresh_end wide) 0 in let s = short wide in omega (arith, e, r, s))
  where
    short : (wide : Bool) → fresh_end wide ≤ 607
    short true = omega arith
    short false = omega arith

pub block_holds : (wide : Bool) → LaysOut (fresh_block wide) (fresh_tree wide) (fresh_placement wide)
unfolding fresh_block
block_holds wide = more_behind (fresh_text wide) (replicate (4095 - fresh_end wide) 0) (fresh_tree wide) (fresh_placement wide) (fresh_laid_out wide)

-- one block over nothing is the block
one_block : (image from : List ℕ) → length from ≡ 4096 → Wrote 0 from [] image → image ≡ from
one_block image from long w = same_number_lists image from (size (cases_lt 4096 (length image))) (λ k lt. w.within k (omega arith) (let r = size (cases_lt 4096 (length image)) in omega (arith, lt, r, long)) ∙ ap (λ (j : ℕ). get_or from j 0) (no_less k))
  where
    no_less : (k : ℕ) → k - 0 ≡ k
    no_less k = omega arith

    past : 4096 < length image → ⊥
    past lt = let far = (w.grows 4096 (omega arith) lt).1 in omega (arith, far, long)

    size : (4096 < length image) ⊎ (length image ≤ 4096) → length image ≡ length from
    size (inl lt) = absurd (past lt)
    size (inr le) = let r = w.reaches (omega (arith, long)) in omega (arith, le, r, long)

fresh_image : (wide : Bool) (from : List ℕ) (old new : Option (List ℕ)) → from ≡ fresh_block wide → IsEmpty old → Both (Wrote 0 from) old new
    → new ≡ option_map (λ (none : List ℕ). fresh_block wide) old
fresh_image wide from None None is empty w = refl
fresh_image wide from None (Some new) is empty w = absurd w
fresh_image wide from (Some old) None is empty w = absurd w
fresh_image wide from (Some old) (Some new) is empty w =
    ap (λ (bytes : List ℕ). Some bytes) (one_block new from (ap length is ∙ block_long wide) (subst (λ bytes. Wrote 0 from bytes new) empty w) ∙ is)

pub fresh_written : {T E : Type 0} (wide : Bool) (from : List ℕ) (old new : Option (List ℕ)) (result : Result T E) → from ≡ fresh_block wide → IsEmpty old
    → OnOk result (Both (Wrote 0 from) old new) → OnOk result (new ≡ option_map (λ (none : List ℕ). fresh_block wide) old)
fresh_written wide from old new (Ok done) is empty w = fresh_image wide from old new is empty w
fresh_written wide from old new (Err e) is empty w = tt

pub fresh_threads : (wide : Bool) (old image : Option (List ℕ)) → image ≡ option_map (λ (none : List ℕ). fresh_block wide) old → IfSome image (λ bytes. ThreadsFreeChunks bytes [])
fresh_threads wide None image is = subst (λ (o : Option (List ℕ)). IfSome o (λ bytes. ThreadsFreeChunks bytes [])) (sym is) tt
fresh_threads wide (Some old) image is = subst (λ (o : Option (List ℕ)). IfSome o (λ bytes. ThreadsFreeChunks bytes [])) (sym is) (block_holds wide).threads

pub fresh_is_heap : (wide : Bool) → IsHeap (record { gaps = []; end = fresh_end wide })
fresh_is_heap wide = record { order = tt; within = tt; low = low wide; high = high wide }
  where
    low : (wide : Bool) → 265 ≤ fresh_end wide
    low true = omega arith
    low false = omega arith

    high : (wide : Bool) → fresh_end wide < 2 ^ 44
    high true = omega arith
    high false = omega arith

-- ---- what is in memory

no_depth : (wide : Bool) → depth_of (fresh_tree wide) 0 ≡ 0
unfolding lineage
no_depth wide = ap (λ (o : Option ℕ). length (0 ∷ climb 255 (families (fresh_tree wide)) o) - 1) (root_has_none (fresh_tree wide) (fresh_is_tree wide))

fresh_table : (wide : Bool) → IsTable (fresh_tree wide) (fresh_placement wide) (Some fresh_row ∷ [])
fresh_table wide = record { count = refl; each = each }
  where
    each : (serial : ℕ) → IsRowOf (fresh_tree wide) (fresh_placement wide) serial (slice_index_or (Some fresh_row ∷ []) serial None)
    each zero = record { live = refl; place = refl; parent = sym (root_has_none (fresh_tree wide) (fresh_is_tree wide)); depth = sym (no_depth wide) }
    each (suc k) = refl

pub fresh_means : (wide : Bool) (core : Core) (old image : Option (List ℕ)) → image ≡ option_map (λ (none : List ℕ). fresh_block wide) old
    → core.wide ≡ wide → core.rows.items ≡ Some fresh_row ∷ [] → core.heap.work.heap ≡ record { gaps = []; end = fresh_end wide } → IfSome image (IsThreaded core.heap.work)
    → IfSome image (λ bytes. Means bytes (fresh_tree wide) (fresh_placement wide) (memory_of core))
fresh_means wide core None image is width rows heap threads = subst (λ (o : Option (List ℕ)). IfSome o (λ bytes. Means bytes (fresh_tree wide) (fresh_placement wide) (memory_of core))) (sym is) tt
fresh_means wide core (Some old) image is width rows heap threads =
    subst (λ (o : Option (List ℕ)). IfSome o (λ bytes. Means bytes (fresh_tree wide) (fresh_placement wide) (memory_of core))) (sym is) (record {
      laid_out = block_holds wide;
      wide = sym width;
      table = subst (IsTable (fresh_tree wide) (fresh_placement wide)) (sym rows) (fresh_table wide);
      heap = sym heap;
      threads = subst (λ (o : Option (List ℕ)). IfSome o (IsThreaded core.heap.work)) is threads;
    })

-- the root is near
fresh_near : (wide : Bool) (core : Core) → KeepsFresh wide core → AreNear core.wide core.rows.items
fresh_near wide core keeps = subst (AreNear core.wide) (sym keeps.rows) near
  where
    low : (w : Bool) → 266 + node_length w ≤ 2 ^ 44
    low true = omega arith
    low false = omega arith

    near : AreNear core.wide (Some fresh_row ∷ [])
    near zero = low core.wide
    near (suc k) = tt

-- ---- a write that fails

drop_past : (n : ℕ) (xs : List ℕ) → length xs ≤ n → drop n xs ≡ []
drop_past zero [] le = refl
drop_past (suc n) [] le = refl
drop_past zero (x ∷ xs) le = absurd (omega (arith, le))
drop_past (suc n) (x ∷ xs) le = drop_past n xs (omega (arith, le))

-- bytes that are torn where there were none
torn_nothing : (after : List ℕ) → IsTorn [] 0 after → TornAt 0 [] [] after
torn_nothing after is = record {
  written = λ n lt. absurd (omega (arith, lt));
  unwritten = λ n lt. ap (λ (rest : List ℕ). let piece = take 4096 rest in piece ++ replicate (4096 - length piece) 0)
      (drop_past (n * 4096) after (let s = short (length after) (size is) in omega (arith, s, lt)) ∙ sym (drop_past (n * 4096) [] (omega arith)));
  kept = omega arith;
  grown = (let s = short (length after) (size is) in omega (arith, s));
  whole = sized (size is);
}
  where
    size : IsTorn [] 0 after → (length after ≡ 4096) ⊎ (length after ≡ 0)
    size (piece, long, inl is) = inl (let e = ap length is in let o = length-overwritten [] 0 piece in omega (arith, e, o, long))
    size (piece, long, inr is) = inr (let e = ap length is in let t = length-take (length {A = ℕ} []) (overwritten [] 0 piece) in omega (arith, e, t))

    short : (n : ℕ) → (n ≡ 4096) ⊎ (n ≡ 0) → n ≤ 4096
    short n (inl e) = omega (arith, e)
    short n (inr e) = omega (arith, e)

    sized : (length after ≡ 4096) ⊎ (length after ≡ 0) → (length after ≡ length {A = ℕ} []) ⊎ ((blocks : ℕ) × (length after ≡ blocks * 4096))
    sized (inl e) = inr (1, omega (arith, e))
    sized (inr e) = inl e

-- of the one block that waits
pub torn_fresh : (wide : Bool) (after : List ℕ) (changes : List (ℕ × List ℕ)) (writes now : ℕ) → AreChanges changes → length changes ≤ 1
    → with_changes [] changes ≡ fresh_block wide → IsPartWritten (Some []) writes changes (Some after) now → TornAt 0 [] [] after
torn_fresh wide after [] writes now sizes few is torn = absurd torn
torn_fresh wide after (c ∷ []) writes now are few is (inl torn) = torn_nothing after (subst (λ n. IsTorn [] n after) first torn.0)
  where
    first : c.0 ≡ 0
    first =
        let e = ap length is in let l = block_long wide in let o = length-overwritten [] (c.0 * 4096) c.1 in let s = are.sizes.0 in
        omega (arith, e, l, o, s)
torn_fresh wide after (c ∷ []) writes now are few is (inr torn) = absurd torn
torn_fresh wide after (c ∷ d ∷ changes) writes now are few is torn = absurd (omega (arith, few))

-- ---- an opening that fails

pub fresh_cause : (untold : Type 0) (before now : ℕ) (e : AdfError) → IsRefusal untold before now e → IsFreshCause untold before now (fresh_error e)
fresh_cause untold before now error.Memory c = tt
fresh_cause untold before now error.ReadFault c = c
fresh_cause untold before now (error.Layout rule place) c = c.1
fresh_cause untold before now e c = absurd c

-- where the bytes are not written
pub unwritten_cause : (untold : Type 0) (before now : ℕ) (e : AdfError) → IsRefusal ⊥ before now e → IsFreshCause untold before now e
unwritten_cause untold before now error.Memory c = tt
unwritten_cause untold before now error.ReadFault c = c
unwritten_cause untold before now (error.Layout rule place) c = absurd c.1
unwritten_cause untold before now e c = absurd c

-- where the lists are not read
pub unlisted_cause : (held mid : Option (List ℕ)) (wide : Bool) (a b c : ℕ) (e : AdfError) → mid ≡ option_map (λ (none : List ℕ). fresh_block wide) held → a ≤ b
    → IsFreshCause (IsUntold mid) b c e → IsFreshCause (IsUntold held) a c e
unlisted_cause held mid wide a b c error.Memory same le cause = tt
unlisted_cause held mid wide a b c error.ReadFault same le cause = omega (arith, le, cause)
unlisted_cause None mid wide a b c error.NotEmpty same le cause = tt
unlisted_cause (Some bytes) mid wide a b c error.NotEmpty same le cause = absurd (subst IsUntold same cause)
unlisted_cause held mid wide a b c e same le cause = absurd cause

pub fresh_refused : (wide : Bool) (old mid new : DeviceState) (e : AdfError) → OnlyReads old mid → OnlyReads mid new → (held : Option (List ℕ)) → held ≡ old.held
    → IsFreshCause (IsUntold held) mid.faults new.faults e → IsRefused (Fresh wide) old new e
fresh_refused wide old mid new error.Memory r s held same c = record { cause = λ p q. tt; leaves = only_then old mid new r s }
fresh_refused wide old mid new error.ReadFault r s held same c = record { cause = λ p q. (let f = r.faults in omega (arith, f, c)); leaves = only_then old mid new r s }
fresh_refused wide old mid new error.NotEmpty r s held same c = record { cause = λ p q image told. absurd (subst IsUntold (same ∙ told) c); leaves = only_then old mid new r s }
fresh_refused wide old mid new e r s held same c = absurd c

-- a device that is not found empty
pub not_empty_refused : (wide : Bool) (old new : DeviceState) (e : AdfError) → OnlyReads old new → IsEmptyCause old.held old.faults new.faults e → IsRefused (Fresh wide) old new e
not_empty_refused wide old new error.ReadFault reads c = record { cause = λ p q. c; leaves = reads }
not_empty_refused wide old new error.NotEmpty reads c = record { cause = λ p q. c; leaves = reads }
not_empty_refused wide old new e reads c = absurd c

pub not_empty : (held : Option (List ℕ)) (n : ℕ) → IfSome held (λ bytes. n ≡ length bytes) → 0 < n → (image : List ℕ) → held ≡ Some image → image ≢ []
not_empty held n told some image is none = (let e = subst (λ (h : Option (List ℕ)). IfSome h (λ bytes. n ≡ length bytes)) is told in let l = ap length none in omega (arith, e, l, some))

pub empty_told : (held : Option (List ℕ)) (n : ℕ) → IfSome held (λ bytes. n ≡ length bytes) → n ≤ 0 → IsEmpty held
empty_told None n told none = tt
empty_told (Some bytes) n told none = empty bytes (omega (arith, told, none))
  where
    empty : (xs : List ℕ) → length xs ≡ 0 → xs ≡ []
    empty [] e = refl
    empty (x ∷ xs) e = absurd (omega (arith, e))

pub empty_same : (old new : Option (List ℕ)) → new ≡ old → IsEmpty old → IsEmpty new
empty_same old new same e = subst IsEmpty (sym same) e

-- a write of the fresh bytes that fails
pub torn_refused : (wide : Bool) (old mid new : DeviceState) (changes : List (ℕ × List ℕ)) → OnlyReads old mid → IsEmpty old.held
    → image_of mid.held changes ≡ option_map (λ (none : List ℕ). fresh_block wide) mid.held → AreChanges changes → how_many (keys_of changes) ≤ 1
    → IsPartWritten mid.held mid.writes changes new.held new.writes → new.writes ≤ mid.writes + how_many (keys_of changes) → new.reads ≡ mid.reads
    → mid.faults ≤ new.faults → Rose mid.faults new.faults → mid.lost ≤ new.lost → Rose mid.lost new.lost → IsRefused (Fresh wide) old new error.WriteFault
torn_refused wide old mid new changes r empty image are few torn writes reads faults rose lost lost_rose = record {
  cause = λ p q. (
    record {
      faults = (let f = r.faults in omega (arith, f, rose));
      lost = (let f = r.lost in omega (arith, f, lost_rose));
      writes = (let f = r.writes in let up = part_rose mid.held mid.writes changes new.held new.writes torn in omega (arith, f, up));
    },
    λ one told. subst (λ (h : Option (List ℕ)). IfSome h (λ bytes. bytes ≡ [])) told empty,
    λ one other told there. by_bytes one (subst (λ (h : Option (List ℕ)). IfSome h (λ bytes. bytes ≡ [])) told empty) (r.held ∙ told) other there,
  );
  leaves = (
    record {
      faults = (let f = r.faults in omega (arith, f, faults));
      lost = (let f = r.lost in omega (arith, f, lost));
      reads = (let f = r.reads in omega (arith, f, reads));
      writes = (let f = r.writes in let up = part_later mid.held mid.writes changes new.held new.writes torn in omega (arith, f, up));
    },
    (let f = r.writes in omega (arith, f, writes, few)),
    λ some. part_told mid.held mid.writes changes new.held new.writes torn (subst IsSome (sym r.held) some),
  );
}
  where
    by_bytes : (one : List ℕ) → one ≡ [] → mid.held ≡ Some one → (other : List ℕ) → new.held ≡ Some other → TornAt 0 one one other
    by_bytes one none told other there = subst (λ (xs : List ℕ). TornAt 0 xs xs other) (sym none)
        (torn_fresh wide other changes mid.writes new.writes are (let n = many_wait changes are in omega (arith, few, n)) wanted
        (subst (λ (h : Option (List ℕ)). IsPartWritten (Some []) mid.writes changes h new.writes) there (subst (λ (h : Option (List ℕ)). IsPartWritten h mid.writes changes new.held new.writes) (told ∙ ap (λ (xs : List ℕ). Some xs) none) torn)))
      where
        wanted : with_changes [] changes ≡ fresh_block wide
        wanted = same_Some (with_changes [] changes) (fresh_block wide)
            (subst (λ (h : Option (List ℕ)). image_of h changes ≡ option_map (λ (none : List ℕ). fresh_block wide) h) (told ∙ ap (λ (xs : List ℕ). Some xs) none) image)

-- ---- an opening that is done

module _ {D : Type 0} (state : D → DeviceState) (old mid : DeviceState) (file : AdfFile D) (wide : Bool) (limit waits : ℕ)
    (r : ReadsFew 8 old mid) (empty : IsEmpty old.held)
    (core : IsFreshCore wide limit file.core) (settled : changes_in file.draft ≡ []) (steps : file.steps.items ≡ []) (live : file.broken ≡ false)
    (cache : IsCache state (blocks_below file.draft))
    (held : (device_of state file).held ≡ option_map (λ (none : List ℕ). fresh_block wide) mid.held)
    (means : IfSome (device_of state file).held (λ bytes. Means bytes (fresh_tree wide) (fresh_placement wide) (memory_of file.core)))
    (faults : mid.faults ≤ (device_of state file).faults) (lost : mid.lost ≤ (device_of state file).lost) (reads : (device_of state file).reads ≡ mid.reads)
    (wrote : (device_of state file).writes ≡ raised_by waits mid.writes) (writes : (device_of state file).writes ≤ mid.writes + 1)
  where
    pub fresh_file : file.names.lists ≡ [] → IsFile state file
    fresh_file none = idle_file state file settled (no_steps file.steps.items steps) core.same cache (fresh_near wide file.core core.keeps) (λ e. by_held (device_of state file).held means)
        (λ e. none_kept file.names file.core (device_of state file).held (device_of state file).held none)
      where
        by_held : (h : Option (List ℕ)) → IfSome h (λ bytes. Means bytes (fresh_tree wide) (fresh_placement wide) (memory_of file.core)) → HasMeaning file.core h
        by_held None m = tt
        by_held (Some bytes) m = (fresh_tree wide, fresh_placement wide, m)

    pub fresh_opens : OpensFresh wide limit old (state_of state file)
    fresh_opens = record {
      starts = record { writable_is = core.writable; limit_is = core.limit_is; steps = no_steps file.steps.items steps; sound = live };
      core = core.keeps;
      empty = empty;
      held = held ∙ ap (λ (h : Option (List ℕ)). option_map (λ (none : List ℕ). fresh_block wide) h) r.held;
      counts = record {
        faults = (let f = r.faults in omega (arith, f, faults));
        lost = (let f = r.lost in omega (arith, f, lost));
        reads = (let f = r.reads in omega (arith, f, reads));
        writes = (let f = r.writes in omega (arith, f, wrote));
      };
      writes = (let f = r.writes in omega (arith, f, writes));
      few = (let f = r.few in omega (arith, f, reads));
      tree = means;
    }

-- what is kept of a fresh file is as it was accepted
pub fresh_core_is : (wide : Bool) (limit : ℕ) (core : Core) → core.wide ≡ wide → core.writable ≡ true → core.heap.limit ≡ limit → core.heap.kept ≡ core.heap.work
    → core.heap.work.heap ≡ record { gaps = []; end = fresh_end wide } → core.rows.items ≡ Some fresh_row ∷ [] → core.rows.kept ≡ Some fresh_row ∷ [] → IsFreshCore wide limit core
fresh_core_is wide limit core width writable bound kept heap items rows = record {
  keeps = record { wide_is = width; rows = items; heap = heap };
  writable = writable;
  limit_is = bound;
  same = core_same core kept (rows ∙ sym items);
}

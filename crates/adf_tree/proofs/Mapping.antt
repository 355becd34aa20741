-- The extents of a file: where its headers stand, and what a survey of them tells.
use Rattle.std.proofs.Common.{◌≡◌, ℕ, zero, suc, refl, sym, ◌∙◌, ap, subst, arith, append_assoc, List, [], ◌∷◌, ◌++◌, length, map, take, flat_map, ◌+◌, ◌<◌, false}
use Rattle.std.proofs.lemmas.List.{append-nil}
use Rattle.std.proofs.lemmas.List.Sorted.{IsPermutation-refl}
use Rattle.std.specs.List.Sorted.{IsPermutation}
use Rattle.std.specs.Prelude.{Option, Some, None, is_some, IfSome, slice_index_or, Ok, Err, ⊤}
use Rattle.adf_format.specs.declared.types.Extent.{Extent}
use Rattle.adf_format.proofs.LayoutLaws.{live_parts}
use Rattle.adf_format.specs.Tree.{Tree, Node}
use Rattle.adf_format.specs.Placement.{Placement, NodeParts, parts_of}
use Rattle.adf_format.specs.Verdict.{ListsExtents}
use Rattle.adf_model.specs.Counts.{DeviceState, OnlyReads}
use Rattle.adf_model.specs.declared.error.AdfError.{AdfError}
use Rattle.adf_model.specs.declared.error.AdfError.TheVariants as error
use Rattle.block_cache.specs.Cache.{IsCache, device_in}
use Rattle.block_cache.specs.declared.cache.BlockCache.{BlockCache}
use Rattle.block_draft.specs.Changes.{image_of}
use Rattle.block_draft.specs.Draft.{blocks_below, changes_in}
use Rattle.block_draft.specs.Lends.{with_blocks}
use Rattle.block_draft.specs.declared.draft.Draft.{Draft}
use Rattle.cg_io.proofs.ReadLaws.{few_only}
use Rattle.cg_io.specs.Answers.{IsRefusal, IsUntold, Told}
use Rattle.cg_io.specs.Blocks.{ReadsFew}
use Rattle.layout_lint.specs.Owners.{IsLaidAt, IsNoLayout, OwnsPlaces, extent_of, header_at, header_places}
use Rattle.layout_lint.specs.declared.owners.Owned.{Owned}
use Rattle.tree_edits.proofs.Nodes.{no_node, the_node}
use Rattle.tree_edits.specs.declared.memory.Core.{Core}
use Rattle.tree_edits.specs.declared.rows.Row.{Row}
use Rattle.tree_edits.specs.Edits.{memory_of}
use Rattle.tree_edits.specs.Rows.{Means, Memory, row_of}
use Rattle.tree_laws.proofs.Edits.EditsPlaced.{as_many}
use Rattle.adf_tree.proofs.AskEnds.{only_looks}
use Rattle.adf_tree.proofs.HeaderReads.{read_works}
use Rattle.adf_tree.specs.Files.{FileState, HasMeaning, IsFile, device_of, image_in, state_of}
use Rattle.adf_tree.specs.Headers.{Looks}
use Rattle.adf_tree.specs.declared.file.AdfFile.{AdfFile}
use Rattle.adf_tree.specs.Maps.{ListsAll, MapEnds, live_places, place_in}

-- ---- places

takes : (rows : List (Option Row)) (i : ℕ) → i < length rows → flat_map place_in (take (suc i) rows) ≡ flat_map place_in (take i rows) ++ place_in (row_of rows i)
takes [] i lt = absurd (omega (arith, lt))
takes (r ∷ rows) zero lt = append-nil (place_in r)
takes (r ∷ rows) (suc i) lt = ap (λ xs. place_in r ++ xs) (takes rows i (omega (arith, lt))) ∙ sym (append_assoc (place_in r) (flat_map place_in (take i rows)) (place_in (row_of rows i)))

-- one more place
pub one_place : (rows : List (Option Row)) (places now : List ℕ) (i j : ℕ) (o : Option Row) → i < length rows → j ≡ i + 1 → o ≡ row_of rows i → places ≡ flat_map place_in (take i rows) → now ≡ places ++ place_in o
    → now ≡ flat_map place_in (take j rows)
one_place rows places now i j o lt next row so more =
    let at : j ≡ suc i = omega (arith, next) in
    more ∙ ap (λ xs. xs ++ place_in o) so ∙ ap (λ (x : Option Row). flat_map place_in (take i rows) ++ place_in x) row ∙ sym (takes rows i lt) ∙ ap (λ (k : ℕ). flat_map place_in (take k rows)) (sym at)

same_places : (parts : List (Option NodeParts)) (rows : List (Option Row)) → length parts ≡ length rows → ((k : ℕ) → header_at (slice_index_or parts k None) ≡ place_in (row_of rows k)) → flat_map header_at parts ≡ flat_map place_in rows
same_places [] [] n each = refl
same_places [] (r ∷ rows) n each = absurd (omega (arith, n))
same_places (q ∷ parts) [] n each = absurd (omega (arith, n))
same_places (q ∷ parts) (r ∷ rows) n each = ap (λ xs. xs ++ flat_map header_at parts) (each 0) ∙ ap (λ xs. place_in r ++ xs) (same_places parts rows (omega (arith, n)) (λ k. each (suc k)))

none_of : {A : Type 0} (o : Option A) → is_some o ≡ false → o ≡ None
none_of None none = refl
none_of (Some x) none = cc

module _ (image : List ℕ) (tree : Tree) (p : Placement) (memory : Memory) (m : Means image tree p memory) where
  at_serial : (serial : ℕ) → header_at (parts_of p serial) ≡ place_in (row_of memory.rows serial)
  at_serial serial = by_row (row_of memory.rows serial) refl
    where
      by_row : (o : Option Row) → row_of memory.rows serial ≡ o → header_at (parts_of p serial) ≡ place_in o
      by_row None none = ap header_at (none_of (parts_of p serial) (live_parts image tree p m.laid_out serial ∙ ap (λ (o : Option Node). is_some o) (no_node image memory serial none tree p m)))
      by_row (Some row) found = let n = the_node image memory serial row found tree p m in ap header_at n.is.stands ∙ ap (λ (k : ℕ). k ∷ []) n.at

  as_long : length p.parts ≡ length memory.rows
  as_long = as_many tree p m.laid_out.same_nodes ∙ sym m.table.count

  pub is_laid_at : (places : List ℕ) (gaps : List Extent) → places ≡ live_places memory.rows → gaps ≡ memory.free.heap.gaps → IsLaidAt image tree p places gaps
  is_laid_at places gaps are free = record {
    laid_out = m.laid_out;
    headers = subst (IsPermutation (header_places p)) (same_places p.parts memory.rows as_long at_serial ∙ sym are) (IsPermutation-refl (header_places p));
    free = ap (λ (heap : _). heap.gaps) m.heap ∙ sym free;
  }

-- ---- what is told

module _ (core : Core) (places : List ℕ) (gaps : List Extent) (are : places ≡ live_places core.rows.items) (free : gaps ≡ core.heap.work.heap.gaps) where
  abbrev pub told_of : Option (List ℕ) → (Tree → Placement → Type 0) → Type 0
  told_of held P = Told held (λ image. (tree : Tree) (p : Placement) → IsLaidAt image tree p places gaps → P tree p)

  lists : (held : Option (List ℕ)) (owned : List Owned) (extents : List Extent) → told_of held (λ tree p. OwnsPlaces tree p places owned) → extents ≡ map extent_of owned → IfSome held (ListsAll core extents)
  lists None owned extents all same = tt
  lists (Some image) owned extents all same = λ tree p m.
      let owns = all image refl tree p (is_laid_at image tree p (memory_of core) m places gaps are free) in
      subst (λ (es : List Extent). ListsExtents tree.wide p es) (sym same) owns.lists

  untold : (held : Option (List ℕ)) (rule at : ℕ) → HasMeaning core held → told_of held (λ tree p. IsNoLayout (error.Layout rule at)) → IsUntold held
  untold None rule at m names = tt
  untold (Some image) rule at m names = names image refl m.0 m.1 (is_laid_at image m.0 m.1 (memory_of core) m.2 places gaps are free)

  module _ (old new : FileState) (same : old.core ≡ core) (live : old.broken ≡ false) where
    pub maps : (owned : List Owned) (extents : List Extent) → told_of old.device.held (λ tree p. OwnsPlaces tree p places owned) → extents ≡ map extent_of owned → MapEnds (Ok extents) old new
    maps owned extents all is = (live, subst (λ (c : Core). IfSome old.device.held (ListsAll c extents)) (sym same) (lists old.device.held owned extents all is))

    pub refuses : (e : AdfError) → HasMeaning core old.device.held → told_of old.device.held (λ tree p. IsNoLayout e) → IsRefusal ⊤ old.device.faults new.device.faults e → MapEnds (Err e) old new
    refuses error.Memory m names cause = live
    refuses error.ReadFault m names cause = (live, cause)
    refuses (error.Layout rule at) m names cause = (live, cause.0, untold old.device.held rule at m names)
    refuses e m names cause = absurd cause

pub map_wants : (old new : FileState) (e : AdfError) → old.broken ≡ false → e ≡ error.Memory → MapEnds (Err e) old new
map_wants old new e live is = subst (λ (x : AdfError). MapEnds (Err x) old new) (sym is) live

-- ---- what is left

module _ {D : Type 0} (state : D → DeviceState) (file : AdfFile D) (f : IsFile state file) (was blocks : BlockCache D) (same : was ≡ blocks_below file.draft) (cache : IsCache state blocks) (n : ℕ)
    (few : ReadsFew n (state (device_in was)) (state (device_in blocks)))
  where
    abbrev now : AdfFile D
    now = record file { draft = with_blocks file.draft blocks }

    reads : OnlyReads (device_of state file) (state (device_in blocks))
    reads = subst (λ (b : BlockCache D). OnlyReads (state (device_in b)) (state (device_in blocks))) same (few_only n _ _ few)

    shown : image_in state now ≡ image_in state file
    shown = ap (λ (held : Option (List ℕ)). image_of held (changes_in file.draft)) reads.held

    -- a file whose blocks were read
    pub surveyed : IsFile state now
    surveyed = record { working = read_works state file (with_blocks file.draft blocks) f.working cache shown refl reads; none = f.none }

    pub survey_looks : Looks (state_of state file) (state_of state now)
    survey_looks = only_looks state file (with_blocks file.draft blocks) shown refl reads

-- what is said of the blocks that were lent is said of those of the file
pub of_lent : {D : Type 0} (draft : Draft (BlockCache D)) (was : BlockCache D) → was ≡ blocks_below draft → (P : BlockCache D → Type 0) → P was → P (blocks_below draft)
of_lent draft was same P h = subst P same h

-- the memory of a file in which no edit is in work means what the device holds
pub settled_means : {D : Type 0} (state : D → DeviceState) (file : AdfFile D) → IsFile state file → file.broken ≡ false → HasMeaning file.core (device_of state file).held
settled_means state file f live = subst (λ (core : Core). HasMeaning core (device_of state file).held) (sym (f.working.idle f.none).core) (f.working.means live)

-- The tree of an open file is the one that its bytes and its memory mean.
use Rattle.std.proofs.Common.{◌≡◌, ℕ, List, [], false, refl, sym, ◌∙◌, ap, subst}
use Rattle.std.specs.Prelude.{Option, Some, None, IsSome, IfSome, is_some, unwrap_or}
use Rattle.std.specs.Option.{option_map}
use Rattle.std.proofs.lemmas.List.{length-map}
use Rattle.adf_format.specs.FirstFault.{is_wide}
use Rattle.adf_format.specs.Placement.{Placement, Heap}
use Rattle.adf_format.specs.Tree.{Tree, Node, is_live}
use Rattle.adf_library.specs.Places.{places_in, tree_by, placement_by}
use Rattle.adf_model.proofs.Basics.{not_true}
use Rattle.cg_io.specs.Blocks.{Both}
use Rattle.cg_io.specs.Device.{DeviceState}
use Rattle.adf_tree.specs.Files.{HasMeaning, DoesAll, IsWorking, accepted, device_of, image_in, steps_in}
use Rattle.block_draft.specs.Draft.{waiting_in}
use Rattle.adf_tree.specs.declared.file.AdfFile.{AdfFile}
use Rattle.tree_edits.specs.declared.memory.Core.{Core}
use Rattle.tree_edits.specs.declared.rows.Row.{Row}
use Rattle.tree_edits.specs.Edits.{memory_of}
use Rattle.tree_edits.specs.Rows.{Memory, Means, IsRowOf, row_of}
use Rattle.tree_laws.specs.Reading.{node_in, placement_in, ArePlaces, SaysPlace}
use Rattle.tree_laws.proofs.Reading.PlacesFound.{get_mapped}
use Rattle.tree_laws.proofs.Reading.TreesRead.{tree_is_read, table_is_places}

module _ (image : List ℕ) (tree : Tree) (p : Placement) (memory : Memory) (means : Means image tree p memory) where
  place_said : (serial : ℕ) (o : Option Row) → IsRowOf tree p serial o → SaysPlace tree p serial (option_map (λ (row : Row). row.place) o)
  place_said serial None is = is
  place_said serial (Some row) is = (is.live, is.place)

  -- the rows say where the headers stand
  are_places : ArePlaces p (places_in memory.rows)
  are_places = table_is_places image tree p (places_in memory.rows) means.laid_out
      (length-map memory.rows (option_map (λ (row : Row). row.place)) ∙ means.table.count)
      (λ serial. subst (SaysPlace tree p serial) (sym (get_mapped (λ (row : Row). row.place) memory.rows serial)) (place_said serial (row_of memory.rows serial) (means.table.each serial)))

  pub tree_meant : tree ≡ tree_by (Some image) memory.rows
  unfolding tree_by
  tree_meant = (tree_is_read image tree p (places_in memory.rows) means.laid_out are_places).0

  pub placement_meant : p ≡ placement_by (Some image) memory.rows memory.free.heap
  unfolding placement_by
  placement_meant = (tree_is_read image tree p (places_in memory.rows) means.laid_out are_places).1
      ∙ ap (λ (h : Heap). placement_in image (places_in memory.rows) h) means.heap

-- so what is meant is meant of that tree
pub meant : (image : List ℕ) (tree : Tree) (p : Placement) (memory : Memory) → Means image tree p memory
    → Means image (tree_by (Some image) memory.rows) (placement_by (Some image) memory.rows memory.free.heap) memory
meant image tree p memory means =
    subst (λ (t : Tree). Means image t (placement_by (Some image) memory.rows memory.free.heap) memory) (tree_meant image tree p memory means)
    (subst (λ (q : Placement). Means image tree q memory) (placement_meant image tree p memory means) means)

pub core_meant : (core : Core) (held : Option (List ℕ)) → HasMeaning core held
    → IfSome held (λ image. Means image (tree_by (Some image) core.rows.items) (placement_by (Some image) core.rows.items core.heap.work.heap) (memory_of core))
core_meant core None h = tt
core_meant core (Some image) h = meant image h.0 h.1 (memory_of core) h.2

-- ---- which nodes are live is known without the bytes

live_row : {A : Type 0} (f : ℕ → A) (o : Option Row) → is_some (option_map f (option_map (λ (row : Row). row.place) o)) ≡ is_some o
live_row f None = refl
live_row f (Some row) = refl

pub live_by_rows : (held : Option (List ℕ)) (rows : List (Option Row)) (serial : ℕ) → is_live (tree_by held rows) serial ≡ is_some (row_of rows serial)
unfolding tree_by
live_by_rows held rows serial =
    let f : ℕ → Node = node_in (unwrap_or held []) (is_wide (unwrap_or held [])) (places_in rows) in
    ap is_some (get_mapped f (places_in rows) serial ∙ ap (option_map f) (get_mapped (λ (row : Row). row.place) rows serial))
    ∙ live_row f (row_of rows serial)

-- ---- an open file

module _ {D : Type 0} (state : D → DeviceState) (file : AdfFile D) (working : IsWorking state file) (sound : file.broken ≡ false) where
  abbrev held : Option (List ℕ)
  held = (device_of state file).held

  pub kept_means : IfSome held (λ image. Means image (tree_by (Some image) file.core.rows.kept) (placement_by (Some image) file.core.rows.kept file.core.heap.kept.heap) (memory_of (accepted file.core)))
  kept_means = core_meant (accepted file.core) held (working.means sound)

  -- the bytes with the edits in work are told where the device tells, and mean the memory in work
  in_work_of : (before after : Option (List ℕ)) → HasMeaning (accepted file.core) before → Both (DoesAll (steps_in file) (waiting_in file.draft) (accepted file.core) file.core) before after → HasMeaning file.core after
  in_work_of None None has both = tt
  in_work_of None (Some now) has both = absurd both
  in_work_of (Some old) None has both = absurd both
  in_work_of (Some old) (Some now) has both = let done = both has.0 has.1 has.2 in (done.work.tree, done.placement, done.means)

  pub work_means : HasMeaning file.core (image_in state file)
  work_means = in_work_of held (image_in state file) (working.means sound) (working.work sound)

  told_of : (before after : Option (List ℕ)) → Both (DoesAll (steps_in file) (waiting_in file.draft) (accepted file.core) file.core) before after → IsSome before → IsSome after
  told_of None after both some = absurd (not_true some)
  told_of (Some old) None both some = absurd both
  told_of (Some old) (Some now) both some = refl

  pub image_told : IsSome held → IsSome (image_in state file)
  image_told some = told_of held (image_in state file) (working.work sound) some

-- What the verdict on a file says of its nodes, for a copy of them.
use Rattle.std.proofs.Common.{◌≡◌, ◌⊎◌, ℕ, zero, suc, ◌+◌, ◌^◌, ◌<◌, ◌≤◌, List, length, map, get_or, refl, sym, ◌∙◌, ap, subst, arith, inl, inr, Bool, Option, Some}
use Rattle.std.specs.Prelude.{option_map, slice_get}
use Rattle.std.proofs.lemmas.List.{length-map}
use Rattle.std.proofs.lemmas.Option.{slice_get-get_or, slice_get-map, slice_get_within}
use Rattle.adf_format.specs.declared.types.Extent.{Extent}
use Rattle.adf_format.specs.declared.types.Format.{Format}
use Rattle.adf_format.specs.Parts.{node_length}
use Rattle.adf_format.specs.Tree.{Tree}
use Rattle.adf_format.specs.Verdict.{IsLaidOutAs}
use Rattle.adf_model.specs.Counts.{OnlyReads}
use Rattle.adf_model.specs.declared.error.AdfError.{AdfError}
use Rattle.adf_model.specs.declared.error.AdfError.TheVariants as error
use Rattle.cg_io.specs.Blocks.{ReadsFew}
use Rattle.cg_io.specs.Device.{DeviceState}
use Rattle.layout_lint.specs.declared.verdict.NodePlace.{NodePlace}
use Rattle.layout_lint.specs.Shapes.{IsShaped}
use Rattle.layout_lint.specs.Verdicts.{MayFail}
use Rattle.layout_lint.specs.Walks.{node_place}
use Rattle.adf_repack.specs.declared.whole.Target.{Target}
use Rattle.adf_repack.specs.Families.{AreParents}
use Rattle.adf_repack.specs.Given.{IsGiven}
use Rattle.adf_repack.specs.Plans.{place_in, old_place}
use Rattle.adf_repack.specs.Repacks.{width_for, IsCopied, IsRefused, IsRepacked, IsRefusedOf, IsLicensed, wants_memory, unread, unasked, unwritten, not_laid_out, too_long_dimension, not_empty, too_long}
use Rattle.adf_repack.proofs.WholeLaws.{whole_given}

none : NodePlace
none = record { place = 0; parent = 0; position = 0; depth = 0 }

module _ (nodes : List NodePlace) (gaps : List Extent) (end : ℕ) (wide : Bool) (shape : IsShaped (map node_place nodes) gaps end wide) where
  -- each header ends by the last place
  pub headers_near : (k : ℕ) → k < length nodes → old_place nodes k + node_length wide ≤ 2 ^ 44
  headers_near k lt =
      let at : slice_get nodes k ≡ Some (get_or nodes k none) = slice_get-get_or nodes k none lt in
      let h = shape.headers k (node_place (get_or nodes k none)) (slice_get-map node_place nodes k ∙ ap (option_map node_place) at) in
      let within = h.1 in
      let high = shape.high in
      let place : old_place nodes k ≡ (get_or nodes k none).place = ap place_in at in
      omega (arith, within, high, place)

  -- the parent of each node is one of them
  pub parents_there : AreParents nodes
  parents_there k n at = by_number k n at
    where
      long : length (map node_place nodes) ≡ length nodes
      long = length-map nodes node_place

      by_number : (k : ℕ) (n : NodePlace) → slice_get nodes k ≡ Some n → n.parent < length nodes
      by_number zero n at =
          let top = (shape.linked.root (node_place n) (slice_get-map node_place nodes 0 ∙ ap (option_map node_place) at)).parent in
          let some = shape.some in
          let l = long in
          omega (arith, top, some, l)
      by_number (suc k) n at =
          let below = (shape.linked.others (suc k) (node_place n) (slice_get-map node_place nodes (suc k) ∙ ap (option_map node_place) at) (omega arith)).before in
          let within = slice_get_within nodes (suc k) n at in
          omega (arith, below, within)

module _ (image : List ℕ) (nodes : List NodePlace) (gaps : List Extent) (end : ℕ) (format : Format) (wide : Bool) (laid : IsLaidOutAs image (map node_place nodes) gaps end format wide) where
  pub nodes_given : IsGiven image nodes laid.tree
  nodes_given = whole_given image laid.tree laid.placement laid.laid_out laid.in_order nodes laid.listed

  pub repacked_so : (target : Target) (to : Bool) (held : Option (List ℕ)) (last : ℕ) → to ≡ width_for target wide → ((tree : Tree) → IsGiven image nodes tree → tree.wide ≡ wide → IsCopied to tree held last)
      → IsRepacked target image held last
  repacked_so target to held last is copied = record {
    tree = laid.tree;
    placement = laid.placement;
    laid_out = laid.laid_out;
    copied = subst (λ (w : Bool). IsCopied w laid.tree held last) (is ∙ ap (width_for target) (sym laid.same_width)) (copied laid.tree nodes_given laid.same_width);
  }

  pub refused_so : (target : Target) (to : Bool) (e : AdfError) → to ≡ width_for target wide → ((tree : Tree) → IsGiven image nodes tree → tree.wide ≡ wide → IsRefused to tree e) → IsRefusedOf target image e
  refused_so target to e is refused = record {
    tree = laid.tree;
    placement = laid.placement;
    laid_out = laid.laid_out;
    refused = subst (λ (w : Bool). IsRefused w laid.tree e) (is ∙ ap (width_for target) (sym laid.same_width)) (refused laid.tree nodes_given laid.same_width);
  }

-- ---- behind the linter

-- few reads are only reads
pub only_few : (n : ℕ) (old new : DeviceState) → ReadsFew n old new → OnlyReads old new
only_few n old new h = record { held = h.held; lost = h.lost; writes = h.writes; reads = h.reads; faults = h.faults }

-- a refusal that counts license behind reads of the file
pub licensed_after : (source middle now device last : DeviceState) (e : AdfError) → source.faults ≤ middle.faults → IsLicensed middle now device last e → IsLicensed source now device last e
licensed_after source middle now device last e later wants_memory = wants_memory
licensed_after source middle now device last e later (unread rose) = unread (omega (arith, rose, later))
licensed_after source middle now device last e later (unasked rose lost) = unasked rose lost
licensed_after source middle now device last e later (unwritten rose lost) = unwritten rose lost
licensed_after source middle now device last e later (not_laid_out rule place named) = not_laid_out rule place named
licensed_after source middle now device last e later too_long_dimension = too_long_dimension
licensed_after source middle now device last e later (not_empty held) = not_empty held
licensed_after source middle now device last e later (too_long asked far none) = too_long asked far none

-- a refusal of the linter itself
pub failed_first : (source now device : DeviceState) (e : AdfError) → MayFail source.faults now.faults e → IsLicensed source now device device e × ((e ≡ error.Memory) ⊎ (e ≡ error.ReadFault))
failed_first source now device error.Memory h = (wants_memory, inl refl)
failed_first source now device error.ReadFault h = (unread h, inr refl)
failed_first source now device (error.Layout rule place) h = absurd h
failed_first source now device error.WriteFault h = absurd h
failed_first source now device error.Broken h = absurd h
failed_first source now device error.NotOpen h = absurd h
failed_first source now device error.NoSuchFile h = absurd h
failed_first source now device error.AlreadyOpen h = absurd h
failed_first source now device error.ReadOnly h = absurd h
failed_first source now device error.NoSuchNode h = absurd h
failed_first source now device error.NotAChild h = absurd h
failed_first source now device error.BadName h = absurd h
failed_first source now device error.Duplicate h = absurd h
failed_first source now device error.BadLabel h = absurd h
failed_first source now device error.BadShape h = absurd h
failed_first source now device error.NoData h = absurd h
failed_first source now device error.BadRange h = absurd h
failed_first source now device error.IntoItself h = absurd h
failed_first source now device error.TooDeep h = absurd h
failed_first source now device error.LinkMissing h = absurd h
failed_first source now device error.LinkChain h = absurd h
failed_first source now device error.NotALink h = absurd h
failed_first source now device error.BadLink h = absurd h
failed_first source now device error.NotEmpty h = absurd h
failed_first source now device error.TooLarge h = absurd h
failed_first source now device error.TooManyChildren h = absurd h
failed_first source now device error.NotFound h = absurd h
failed_first source now device error.Syntax h = absurd h
failed_first source now device error.LineTooLong h = absurd h
failed_first source now device error.OtherFile h = absurd h
failed_first source now device (error.WrongLength want got) h = absurd h
failed_first source now device (error.Full asked end) h = absurd h

-- The sound part of a file, for a packed copy of it.
use Rattle.std.proofs.Common.{◌≡◌, ℕ, zero, suc, ◌+◌, ◌^◌, ◌<◌, ◌≤◌, List, length, get_or, refl, sym, ◌∙◌, ap, subst, arith, inl, inr, Bool, Option, Some}
use Rattle.std.specs.Prelude.{option_map, slice_get}
use Rattle.std.proofs.lemmas.List.{length-map}
use Rattle.std.proofs.lemmas.Option.{slice_get-get_or, slice_get-map, slice_get_within}
use Rattle.adf_format.specs.Parts.{node_length}
use Rattle.adf_format.specs.SoundPart.{tree_of}
use Rattle.adf_format.specs.Tree.{Tree}
use Rattle.adf_model.specs.declared.error.AdfError.{AdfError}
use Rattle.adf_model.specs.declared.error.AdfError.TheVariants as error
use Rattle.cg_io.specs.Device.{DeviceState}
use Rattle.layout_lint.specs.declared.verdict.NodePlace.{NodePlace}
use Rattle.layout_lint.specs.Walks.{node_place}
use Rattle.adf_repack.specs.Families.{AreParents}
use Rattle.adf_repack.specs.Given.{IsGiven}
use Rattle.adf_repack.specs.Plans.{place_in, old_place}
use Rattle.adf_repack.specs.Repacks.{IsCopied, IsRefused, IsLicensed, wants_memory, unread, not_laid_out}
use Rattle.adf_repack.proofs.SourceLaws.{reads_none}
use Rattle.salvage_given.specs.Given.{SoundPartIsGiven}
use Rattle.adf_salvage.specs.declared.part.SoundPart.{SoundPart}
use Rattle.adf_salvage.specs.Parts.{IsPartOf, IsShaped, TellsNoPart, MayRefuse}
use Rattle.adf_salvage.specs.Salvages.{IsSalvaged, IsRefusedPart, IsSalvageRefusal}

none : NodePlace
none = record { place = 0; parent = 0; position = 0; depth = 0 }

module _ (part : SoundPart) (shape : IsShaped part) where
  -- each header ends by the last place
  pub headers_near : (k : ℕ) → k < length part.nodes → old_place part.nodes k + node_length part.wide ≤ 2 ^ 44
  headers_near k lt =
      let at : slice_get part.nodes k ≡ Some (get_or part.nodes k none) = slice_get-get_or part.nodes k none lt in
      let h = shape.headers k (node_place (get_or part.nodes k none)) (slice_get-map node_place part.nodes k ∙ ap (option_map node_place) at) in
      let within = h.1 in
      let high = shape.reached in
      let place : old_place part.nodes k ≡ (get_or part.nodes k none).place = ap place_in at in
      omega (arith, within, high, place)

  -- the parent of each node is one of them
  pub parents_there : AreParents part.nodes
  parents_there zero n at =
      let top = (shape.linked.root (node_place n) (slice_get-map node_place part.nodes 0 ∙ ap (option_map node_place) at)).parent in
      let some = shape.some in
      omega (arith, top, some)
  parents_there (suc k) n at =
      let below = (shape.linked.others (suc k) (node_place n) (slice_get-map node_place part.nodes (suc k) ∙ ap (option_map node_place) at) (omega arith)).before in
      let within = slice_get_within part.nodes (suc k) n at in
      omega (arith, below, within)

  module _ (image : List ℕ) (law : SoundPartIsGiven) (is : IsPartOf image part) where
    given : IsGiven image part.nodes (tree_of image is.kept)
    given = law image is.kept is.left part.nodes is.sound (let some = shape.some in let long = length-map part.nodes node_place in let count = is.nodes.count in omega (arith, some, long, count)) is.nodes

    pub salvaged_so : (held : Option (List ℕ)) (end : ℕ) → ((tree : Tree) → IsGiven image part.nodes tree → tree.wide ≡ part.wide → IsCopied part.wide tree held end) → IsSalvaged image held end part.left
    salvaged_so held end copied = record {
      kept = is.kept;
      out = is.left;
      sound = is.sound;
      told = is.told;
      copied = subst (λ (w : Bool). IsCopied w (tree_of image is.kept) held end) is.wide (copied (tree_of image is.kept) given (sym is.wide));
    }

    pub refused_so : (e : AdfError) → ((tree : Tree) → IsGiven image part.nodes tree → tree.wide ≡ part.wide → IsRefused part.wide tree e) → IsRefusedPart image e
    refused_so e refused = record {
      kept = is.kept;
      out = is.left;
      sound = is.sound;
      refused = subst (λ (w : Bool). IsRefused w (tree_of image is.kept) e) is.wide (refused (tree_of image is.kept) given (sym is.wide));
    }

-- a refusal of the sound part itself
pub lost_first : (source now device : DeviceState) (e : AdfError) → MayRefuse source.faults now.faults e → IsLicensed source now device device e × ((image : List ℕ) → TellsNoPart image e → IsSalvageRefusal image device device e)
lost_first source now device error.Memory h = (wants_memory, λ image told. inl (inl refl))
lost_first source now device error.ReadFault h = (unread h, λ image told. inl (inr refl))
lost_first source now device (error.Layout rule place) h = (not_laid_out rule place h, λ image told. inr (inl (record { rule = rule; place = place; is = refl; fault = told; left = reads_none device })))
lost_first source now device error.WriteFault h = absurd h
lost_first source now device error.Broken h = absurd h
lost_first source now device error.NotOpen h = absurd h
lost_first source now device error.NoSuchFile h = absurd h
lost_first source now device error.AlreadyOpen h = absurd h
lost_first source now device error.ReadOnly h = absurd h
lost_first source now device error.NoSuchNode h = absurd h
lost_first source now device error.NotAChild h = absurd h
lost_first source now device error.BadName h = absurd h
lost_first source now device error.Duplicate h = absurd h
lost_first source now device error.BadLabel h = absurd h
lost_first source now device error.BadShape h = absurd h
lost_first source now device error.NoData h = absurd h
lost_first source now device error.BadRange h = absurd h
lost_first source now device error.IntoItself h = absurd h
lost_first source now device error.TooDeep h = absurd h
lost_first source now device error.LinkMissing h = absurd h
lost_first source now device error.LinkChain h = absurd h
lost_first source now device error.NotALink h = absurd h
lost_first source now device error.BadLink h = absurd h
lost_first source now device error.NotEmpty h = absurd h
lost_first source now device error.TooLarge h = absurd h
lost_first source now device error.TooManyChildren h = absurd h
lost_first source now device error.NotFound h = absurd h
lost_first source now device error.Syntax h = absurd h
lost_first source now device error.LineTooLong h = absurd h
lost_first source now device error.OtherFile h = absurd h
lost_first source now device (error.WrongLength want got) h = absurd h
lost_first source now device (error.Full asked end) h = absurd h

-- The sound part of a damaged file is a tree that may be written packed.
use Rattle.std.specs.Prelude.{ℕ, ◌<◌, List, length, map}
use Rattle.adf_format.specs.Checks.{Fault}
use Rattle.adf_format.specs.FirstFault.{Visit}
use Rattle.adf_format.specs.SoundPart.{IsSoundPart, tree_of}
use Rattle.layout_lint.specs.declared.verdict.NodePlace.{NodePlace}
use Rattle.layout_lint.specs.Walks.{node_place}
use Rattle.salvage_laws.specs.Surveys.{NameVisits}
use Rattle.adf_repack.specs.Given.{IsGiven}

-- the places of the nodes that are kept, unless the root is left out, make the tree of the sound part
abbrev pub SoundPartIsGiven : Type 0
SoundPartIsGiven =
    (image : List ℕ) (kept : List Visit) (left : List (Visit × Fault)) (nodes : List NodePlace) → IsSoundPart image kept left
    → 0 < length kept → NameVisits kept (map node_place nodes) → IsGiven image nodes (tree_of image kept)

-- The chunks that were read, one by one.
use Rattle.std.proofs.Common.{◌≡◌, ℕ, ◌+◌, ◌<◌, ◌≤◌, arith, List, [], ◌∷◌, ◌++◌, length, take, sym, ◌∙◌, ap}
use Rattle.std.proofs.lemmas.List.{map_push, take_more, take_all}
use Rattle.std.specs.Prelude.{Option, Some, None}
use Rattle.adf_format.specs.Placement.{NodeParts}
use Rattle.adf_format.specs.HeapRule.{chunk}
use Rattle.adf_data.specs.declared.place.DataPlace.{DataPlace}
use Rattle.adf_data.specs.declared.chunks.Chunk.{Chunk}
use Rattle.adf_data.specs.Chunks.{part_of, parts_of, part_at, Named}

named_count : (at : DataPlace) (parts : NodeParts) (image : Option (List ℕ)) → Named at parts image → at.count ≡ length parts.chunks
named_count at parts None n = absurd n
named_count at parts (Some bytes) n = n.count

pub list_more : (at : DataPlace) (image : Option (List ℕ)) (chunks : List Chunk) (c : Chunk) (i : ℕ) → i < at.count → ((parts : NodeParts) → Named at parts image → parts_of chunks ≡ take i parts.chunks)
    → ((parts : NodeParts) → Named at parts image → part_of c ≡ part_at parts.chunks i) → (parts : NodeParts) → Named at parts image → parts_of (chunks ++ c ∷ []) ≡ take (i + 1) parts.chunks
list_more at image chunks c i lt so_far one parts n =
    map_push part_of chunks c ∙ ap (λ cs. cs ++ part_of c ∷ []) (so_far parts n) ∙ ap (λ p. take i parts.chunks ++ p ∷ []) (one parts n)
    ∙ sym (take_more parts.chunks i (chunk 0 0) (let k = named_count at parts image n in omega (arith, k, lt)))

pub list_whole : (at : DataPlace) (image : Option (List ℕ)) (chunks : List Chunk) (i : ℕ) → at.count ≤ i → ((parts : NodeParts) → Named at parts image → parts_of chunks ≡ take i parts.chunks) → (parts : NodeParts) → Named at parts image → parts_of chunks ≡ parts.chunks
list_whole at image chunks i past so_far parts n = so_far parts n ∙ take_all i parts.chunks (let k = named_count at parts image n in omega (arith, k, past))

use Rattle.std.proofs.Common.{◌++◌, ◌∷◌, [], List, ◌∙◌, ap}
use Rattle.adf_data.specs.declared.chunks.Chunk.{Chunk}
use Rattle.adf_data.specs.Chunks.{parts_of}
use Rattle.adf_data.proofs.chunks.list_chunks.Goals as goal

pub returns-clause-says : goal.returns-clause-says
returns-clause-says g c = λ parts n. ap parts_of (c.in_ok-keep-in-Ok.ensures.items ∙ ap (λ (cs : List Chunk). cs ++ c.in-Ok.chunk ∷ []) c.new-chunks.ensures.items) ∙ c.in-Ok.ensures.says parts n

use Rattle.std.proofs.Common.{◌++◌, List, map, arith, ◌∙◌, ap}
use Rattle.std.proofs.lemmas.List.{take_all, length-map}
use Rattle.adf_format.specs.Spelled.{in_row}
use Rattle.adf_format.specs.Placement.{ChunkPart}
use Rattle.adf_data.specs.Chunks.{part_of, parts_of}
use Rattle.adf_data.specs.Growing.{entry_of}
use Rattle.adf_data.proofs.GrowLaws.{entries_more}
use Rattle.adf_data.proofs.tables.put_entries.Goals as goal

pub loop-i-preserved : goal.loop-i-preserved
loop-i-preserved c =
    entries_more (parts_of c.args.chunks.now) c.loop-i.i c.args.text.now.items c.loop-i.text.items c.entry_text.result c.put.new.text.items
    (let l = length-map c.args.chunks.now part_of in let t = c.loop-i-test.true in omega (arith, l, t)) c.loop-i.invariant (c.entry_text.ensures ∙ ap entry_of c.chunk_of.ensures.part) c.in-Ok.ensures.text

pub returns-clause-text : goal.returns-clause-text
returns-clause-text c =
    c.loop-i.invariant
    ∙ ap (λ (cs : List ChunkPart). c.args.text.now.items ++ in_row (map entry_of cs)) (take_all c.loop-i.i (parts_of c.args.chunks.now) (let l = length-map c.args.chunks.now part_of in let t = c.loop-i-test.false in omega (arith, l, t)))

use Rattle.std.proofs.Common.{◌++◌, ◌∷◌, [], ◌+◌, ◌*◌, ℕ, List, length, arith, ◌∙◌, ap, sym}
use Rattle.std.proofs.lemmas.List.{length-map, length-append}
use Rattle.adf_format.specs.Records.{Chunks, head_text}
use Rattle.adf_data.specs.Chunks.{part_of, parts_of}
use Rattle.adf_data.proofs.ChunkLaws.{view_from}
use Rattle.adf_data.proofs.GrowLaws.{text_whole, text_long}
use Rattle.adf_data.proofs.tables.table_text.Goals as goal

pub returns-in-Ok-put-2-clause-text : goal.returns-in-Ok-put-2-clause-text
returns-in-Ok-put-2-clause-text c =
    text_whole c.args.place (c.args.place + 40 + 24 * length c.args.chunks.now) (parts_of c.args.chunks.now) (part_of c.args.last) c.encode_head.result c.tail.result c.put.new.text.items c.put_entries.new.text.items c.put-2.new.text.items c.put-3.new.text.items
    (ap (λ n. c.args.place + 40 + 24 * n) (sym (length-map c.args.chunks.now part_of))) (c.encode_head.ensures ∙ ap (head_text Chunks) (view_from _ c.from_place.result c.from_place.ensures)) c.tail.ensures
    (c.in-Ok.ensures.text ∙ ap (λ (t : List ℕ). t ++ c.encode_head.result) c.new-text.ensures.items) c.in-Ok-put_entries.ensures.text (c.in-Ok-put.ensures.text ∙ ap (λ t. c.put_entries.new.text.items ++ t) c.entry_text.ensures) c.in-Ok-put-2.ensures.text

pub returns-in-Ok-put-2-clause-long : goal.returns-in-Ok-put-2-clause-long
returns-in-Ok-put-2-clause-long c =
    let l = length-map c.args.chunks.now part_of in
    let n = length-append (parts_of c.args.chunks.now) (part_of c.args.last ∷ []) in
    ap length (returns-in-Ok-put-2-clause-text c) ∙ text_long c.args.place (parts_of c.args.chunks.now ++ part_of c.args.last ∷ []) ∙ omega (arith, l, n)

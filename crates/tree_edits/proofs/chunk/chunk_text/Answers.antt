use Rattle.std.proofs.Common.{◌++◌, ◌∙◌, ap, List, ℕ, arith}
use Rattle.tree_edits.proofs.LinkTexts.{chunk_whole}
use Rattle.tree_edits.proofs.chunk.chunk_text.Goals as goal

pub returns-in-Ok-put-3-clause-text : goal.returns-in-Ok-put-3-clause-text
returns-in-Ok-put-3-clause-text c =
    chunk_whole c.args.place _ _ c.args.payload.now c.encode_head.result c.tail.result c.put.new.text.items c.put-2.new.text.items c.put-3.new.text.items c.put-4.new.text.items c.from_place.result (omega (arith, c.chunk_length.ensures)) (omega arith)
    c.encode_head.ensures c.from_place.ensures c.tail.ensures
    (c.in-Ok.ensures.text ∙ ap (λ (t : List ℕ). t ++ c.encode_head.result) c.new-text.ensures.items) c.in-Ok-put.ensures.text c.in-Ok-put-2.ensures.text c.in-Ok-put-3.ensures.text

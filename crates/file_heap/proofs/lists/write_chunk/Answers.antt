use Rattle.std.proofs.Common.{rules}
use Rattle.file_heap.proofs.Effects.{on_ok}
use Rattle.file_heap.proofs.PushLaws.{chunk_done, head_waits, tail_waits}
use Rattle.file_heap.proofs.lists.write_chunk.Goals as goal

pub returns-clause-written : goal.returns-clause-written
returns-clause-written g c =
    on_ok c.write_field-2.result
    (chunk_done c.args.place c.args.length c.args.next _ _ _ _ (g.S.ReadBytes.image c.args.space.now) (g.S.ReadBytes.image c.write_field.new.space) (g.S.ReadBytes.image c.write_field-2.new.space)
    c.encode_free_head.ensures c.pointer_of.ensures.view c.pointer_of-2.ensures.view c.in_ok-write_field.ensures.written c.tail.ensures)
    c.write_field-2.ensures.written

pub returns-in_err-write_field-clause-only : goal.returns-in_err-write_field-clause-only
returns-in_err-write_field-clause-only g c =
    head_waits c.args.place c.args.length c.encode_free_head.result (g.S.ReadBytes.waiting c.args.space.now) (g.S.ReadBytes.waiting c.write_field.new.space) (search rules) c.requires.long c.write_field.ensures.only

pub returns-clause-only : goal.returns-clause-only
returns-clause-only g c =
    tail_waits c.args.place c.args.length c.encode_free_head.result c.tail.result (g.S.ReadBytes.waiting c.args.space.now) (g.S.ReadBytes.waiting c.write_field.new.space) (g.S.ReadBytes.waiting c.write_field-2.new.space) (search rules) (search rules) c.requires.long c.write_field.ensures.only c.write_field-2.ensures.only

use Rattle.std.proofs.Common.{ap, [], ◌∷◌}
use Rattle.file_heap.specs.Links.{number_of, range}
use Rattle.file_heap.proofs.PushLaws.{pushed, chunk_changes, chunk_waits}
use Rattle.file_heap.proofs.ChangeLaws.{table_then, table_waits}
use Rattle.file_heap.proofs.SpotLaws.{number_few}
use Rattle.file_heap.proofs.lists.push.Goals as goal

pub returns-clause-written : goal.returns-clause-written
returns-clause-written g c =
    pushed (g.S.ReadBytes.image c.args.space.now) (g.S.ReadBytes.image c.first_in.new.space) (g.S.ReadBytes.image c.write_chunk.new.space) (g.S.ReadBytes.image c.write_link.new.space) (g.S.ReadBytes.image c.end_list.new.space)
    c.args.place c.args.length (number_of c.class_of-list.result) c.first_at.result c.in_ok-first.first (ap number_of c.class_of-list.ensures) c.first_at.ensures.place c.first_in.ensures.image c.requires.long c.requires.near (number_few c.class_of-list.result) c.in_ok-first.ensures.reach
    c.in_ok-first.ensures.told c.in_ok-write_chunk.ensures.written c.in_ok-write_link.ensures.written c.in_ok-end_list.ensures.ended

pub returns-in_err-write_link-clause-bytes : goal.returns-in_err-write_link-clause-bytes
returns-in_err-write_link-clause-bytes g c =
    chunk_changes c.args.place c.args.length (number_of c.class_of-list.result) c.first_at.result (g.S.ReadBytes.image c.args.space.now) (g.S.ReadBytes.image c.first_in.new.space) (g.S.ReadBytes.image c.write_chunk.new.space) (g.S.ReadBytes.image c.write_link.new.space)
    (number_few c.class_of-list.result) c.first_at.ensures.place c.first_in.ensures.image c.write_chunk.ensures.bytes c.write_link.ensures.bytes

pub returns-in_err-end_list-clause-bytes : goal.returns-in_err-end_list-clause-bytes
returns-in_err-end_list-clause-bytes g c =
    table_then (range c.args.place c.args.length ∷ []) (g.S.ReadBytes.image c.args.space.now) (g.S.ReadBytes.image c.write_link.new.space) (g.S.ReadBytes.image c.end_list.new.space)
    (chunk_changes c.args.place c.args.length (number_of c.class_of-list.result) c.first_at.result (g.S.ReadBytes.image c.args.space.now) (g.S.ReadBytes.image c.first_in.new.space) (g.S.ReadBytes.image c.write_chunk.new.space) (g.S.ReadBytes.image c.write_link.new.space)
    (number_few c.class_of-list.result) c.first_at.ensures.place c.first_in.ensures.image c.write_chunk.ensures.bytes c.write_link.ensures.bytes) c.end_list.ensures.bytes

pub returns-clause-bytes : goal.returns-clause-bytes
returns-clause-bytes g c =
    table_then (range c.args.place c.args.length ∷ []) (g.S.ReadBytes.image c.args.space.now) (g.S.ReadBytes.image c.write_link.new.space) (g.S.ReadBytes.image c.end_list.new.space)
    (chunk_changes c.args.place c.args.length (number_of c.class_of-list.result) c.first_at.result (g.S.ReadBytes.image c.args.space.now) (g.S.ReadBytes.image c.first_in.new.space) (g.S.ReadBytes.image c.write_chunk.new.space) (g.S.ReadBytes.image c.write_link.new.space)
    (number_few c.class_of-list.result) c.first_at.ensures.place c.first_in.ensures.image c.write_chunk.ensures.bytes c.write_link.ensures.bytes) c.end_list.ensures.bytes

pub returns-in_err-write_link-clause-only : goal.returns-in_err-write_link-clause-only
returns-in_err-write_link-clause-only g c =
    chunk_waits c.args.place c.args.length (number_of c.class_of-list.result) c.first_at.result (g.S.ReadBytes.waiting c.args.space.now) (g.S.ReadBytes.waiting c.first_in.new.space) (g.S.ReadBytes.waiting c.write_chunk.new.space) (g.S.ReadBytes.waiting c.write_link.new.space)
    (number_few c.class_of-list.result) c.first_at.ensures.place c.first_in.ensures.waiting c.write_chunk.ensures.only c.write_link.ensures.only

pub returns-in_err-end_list-clause-only : goal.returns-in_err-end_list-clause-only
returns-in_err-end_list-clause-only g c =
    table_waits (range c.args.place c.args.length ∷ []) (g.S.ReadBytes.waiting c.args.space.now) (g.S.ReadBytes.waiting c.write_link.new.space) (g.S.ReadBytes.waiting c.end_list.new.space)
    (chunk_waits c.args.place c.args.length (number_of c.class_of-list.result) c.first_at.result (g.S.ReadBytes.waiting c.args.space.now) (g.S.ReadBytes.waiting c.first_in.new.space) (g.S.ReadBytes.waiting c.write_chunk.new.space) (g.S.ReadBytes.waiting c.write_link.new.space)
    (number_few c.class_of-list.result) c.first_at.ensures.place c.first_in.ensures.waiting c.write_chunk.ensures.only c.write_link.ensures.only) c.end_list.ensures.only

pub returns-clause-only : goal.returns-clause-only
returns-clause-only g c =
    table_waits (range c.args.place c.args.length ∷ []) (g.S.ReadBytes.waiting c.args.space.now) (g.S.ReadBytes.waiting c.write_link.new.space) (g.S.ReadBytes.waiting c.end_list.new.space)
    (chunk_waits c.args.place c.args.length (number_of c.class_of-list.result) c.first_at.result (g.S.ReadBytes.waiting c.args.space.now) (g.S.ReadBytes.waiting c.first_in.new.space) (g.S.ReadBytes.waiting c.write_chunk.new.space) (g.S.ReadBytes.waiting c.write_link.new.space)
    (number_few c.class_of-list.result) c.first_at.ensures.place c.first_in.ensures.waiting c.write_chunk.ensures.only c.write_link.ensures.only) c.end_list.ensures.only

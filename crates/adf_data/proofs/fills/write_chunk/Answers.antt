use Rattle.std.proofs.Common.{◌+◌, ◌-◌, ◌∙◌, ap, arith, length}
use Rattle.adf_format.specs.Records.{Data, head_text}
use Rattle.adf_data.specs.Chunks.{parts_of}
use Rattle.cg_io.proofs.WaitLaws.{waits_none}
use Rattle.adf_data.proofs.ChunkLaws.{all_made, head_size, view_from, copy_changes, body_changes, tail_changes}
use Rattle.adf_data.proofs.BlockLaws.{range_waits, copy_waits, body_waits, tail_waits}
use Rattle.adf_data.proofs.fills.write_chunk.Goals as goal

pub returns-in-Ok-store-clause-made : goal.returns-in-Ok-store-clause-made
returns-in-Ok-store-clause-made g c =
    all_made (parts_of c.args.chunks.now) c.args.kept c.args.length c.args.place _ _ (g.S.ReadBytes.image c.args.space.now) (g.S.ReadBytes.image c.store.new.space) (g.S.ReadBytes.image c.copy_out.new.space) (g.S.ReadBytes.image c.fill.new.space) (g.S.ReadBytes.image c.store-2.new.space)
    c.requires.long c.requires.fits c.requires.near c.requires.kept (c.encode_head.ensures ∙ ap (head_text Data) (view_from (c.args.place + c.args.length - 4) c.from_place.result c.from_place.ensures)) c.tail.ensures
    c.in-Ok.ensures.written c.in-Ok-copy_out.ensures.copied c.in-Ok-fill.ensures.filled c.in-Ok-store.ensures.written

pub returns-in-Err-copy_out-clause-bytes : goal.returns-in-Err-copy_out-clause-bytes
returns-in-Err-copy_out-clause-bytes g c = copy_changes c.args.place c.args.length c.args.kept _ _ c.encode_head.ensures c.requires.fits (g.S.ReadBytes.image c.args.space.now) (g.S.ReadBytes.image c.store.new.space) (g.S.ReadBytes.image c.copy_out.new.space)
    c.store.ensures.bytes c.copy_out.ensures.bytes

pub returns-in-Err-fill-clause-bytes : goal.returns-in-Err-fill-clause-bytes
returns-in-Err-fill-clause-bytes g c = body_changes c.args.place c.args.length c.args.kept _ _ c.encode_head.ensures c.requires.fits (g.S.ReadBytes.image c.args.space.now) (g.S.ReadBytes.image c.store.new.space) (g.S.ReadBytes.image c.copy_out.new.space)
    c.store.ensures.bytes c.copy_out.ensures.bytes (g.S.ReadBytes.image c.fill.new.space) c.fill.ensures.bytes

pub returns-in-Ok-store-clause-bytes : goal.returns-in-Ok-store-clause-bytes
returns-in-Ok-store-clause-bytes g c = tail_changes c.args.place c.args.length c.args.kept _ _ c.encode_head.ensures c.requires.fits (g.S.ReadBytes.image c.args.space.now) (g.S.ReadBytes.image c.store.new.space) (g.S.ReadBytes.image c.copy_out.new.space)
    c.store.ensures.bytes c.copy_out.ensures.bytes (g.S.ReadBytes.image c.fill.new.space) c.fill.ensures.bytes _ (g.S.ReadBytes.image c.store-2.new.space) c.tail.ensures c.store-2.ensures.bytes

pub returns-in-Err-store-clause-bytes : goal.returns-in-Err-store-clause-bytes
returns-in-Err-store-clause-bytes g c = tail_changes c.args.place c.args.length c.args.kept _ _ c.encode_head.ensures c.requires.fits (g.S.ReadBytes.image c.args.space.now) (g.S.ReadBytes.image c.store.new.space) (g.S.ReadBytes.image c.copy_out.new.space)
    c.store.ensures.bytes c.copy_out.ensures.bytes (g.S.ReadBytes.image c.fill.new.space) c.fill.ensures.bytes _ (g.S.ReadBytes.image c.store-2.new.space) c.tail.ensures c.store-2.ensures.bytes

pub returns-in-Err-clause-only : goal.returns-in-Err-clause-only
returns-in-Err-clause-only g c = range_waits c.args.place c.args.length c.args.place 16 _ _ _ _ (omega arith) (let l = c.requires.long in omega (arith, l)) (ap length c.encode_head.ensures ∙ head_size _) (waits_none _ _) c.store.ensures.only

pub returns-in-Err-copy_out-clause-only : goal.returns-in-Err-copy_out-clause-only
returns-in-Err-copy_out-clause-only g c = copy_waits c.args.place c.args.length c.args.kept _ _ c.encode_head.ensures c.requires.fits (g.S.ReadBytes.waiting c.args.space.now) (g.S.ReadBytes.waiting c.store.new.space) (g.S.ReadBytes.waiting c.copy_out.new.space)
    c.store.ensures.only c.copy_out.ensures.only

pub returns-in-Err-fill-clause-only : goal.returns-in-Err-fill-clause-only
returns-in-Err-fill-clause-only g c = body_waits c.args.place c.args.length c.args.kept _ _ c.encode_head.ensures c.requires.fits (g.S.ReadBytes.waiting c.args.space.now) (g.S.ReadBytes.waiting c.store.new.space) (g.S.ReadBytes.waiting c.copy_out.new.space)
    c.store.ensures.only c.copy_out.ensures.only (g.S.ReadBytes.waiting c.fill.new.space) c.fill.ensures.only

pub returns-in-Ok-store-clause-only : goal.returns-in-Ok-store-clause-only
returns-in-Ok-store-clause-only g c = tail_waits c.args.place c.args.length c.args.kept _ _ c.encode_head.ensures c.requires.fits (g.S.ReadBytes.waiting c.args.space.now) (g.S.ReadBytes.waiting c.store.new.space) (g.S.ReadBytes.waiting c.copy_out.new.space)
    c.store.ensures.only c.copy_out.ensures.only (g.S.ReadBytes.waiting c.fill.new.space) c.fill.ensures.only _ (g.S.ReadBytes.waiting c.store-2.new.space) c.tail.ensures c.store-2.ensures.only

pub returns-in-Err-store-clause-only : goal.returns-in-Err-store-clause-only
returns-in-Err-store-clause-only g c = tail_waits c.args.place c.args.length c.args.kept _ _ c.encode_head.ensures c.requires.fits (g.S.ReadBytes.waiting c.args.space.now) (g.S.ReadBytes.waiting c.store.new.space) (g.S.ReadBytes.waiting c.copy_out.new.space)
    c.store.ensures.only c.copy_out.ensures.only (g.S.ReadBytes.waiting c.fill.new.space) c.fill.ensures.only _ (g.S.ReadBytes.waiting c.store-2.new.space) c.tail.ensures c.store-2.ensures.only

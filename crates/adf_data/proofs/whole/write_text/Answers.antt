use Rattle.std.proofs.Common.{◌+◌, ◌-◌, ◌∙◌, ap, arith, length}
use Rattle.adf_format.specs.Records.{Data, head_text}
use Rattle.cg_io.proofs.WaitLaws.{waits_none}
use Rattle.adf_data.proofs.ChunkLaws.{all_text_made, head_size, view_from, copy_changes, body_changes, tail_changes}
use Rattle.adf_data.proofs.BlockLaws.{range_waits, copy_waits, body_waits, tail_waits}
use Rattle.adf_data.proofs.whole.write_text.Goals as goal

pub returns-in-Ok-store-2-clause-made : goal.returns-in-Ok-store-2-clause-made
returns-in-Ok-store-2-clause-made g c =
    all_text_made c.args.text.now c.args.n c.args.place _ _ (g.S.ReadBytes.image c.args.space.now) (g.S.ReadBytes.image c.store.new.space) (g.S.ReadBytes.image c.store-2.new.space) (g.S.ReadBytes.image c.fill.new.space) (g.S.ReadBytes.image c.store-3.new.space)
    c.requires.long c.requires.fits c.requires.near (c.encode_head.ensures ∙ ap (head_text Data) (view_from (c.args.place + c.args.n - 4) c.from_place.result c.from_place.ensures)) c.tail.ensures
    c.in-Ok.ensures.written c.in-Ok-store.ensures.written c.in-Ok-fill.ensures.filled c.in-Ok-store-2.ensures.written

pub returns-in-Err-store-clause-bytes : goal.returns-in-Err-store-clause-bytes
returns-in-Err-store-clause-bytes g c = copy_changes c.args.place c.args.n (length c.args.text.now) _ _ c.encode_head.ensures c.requires.fits (g.S.ReadBytes.image c.args.space.now) (g.S.ReadBytes.image c.store.new.space) (g.S.ReadBytes.image c.store-2.new.space) c.store.ensures.bytes c.store-2.ensures.bytes

pub returns-in-Err-fill-clause-bytes : goal.returns-in-Err-fill-clause-bytes
returns-in-Err-fill-clause-bytes g c = body_changes c.args.place c.args.n (length c.args.text.now) _ _ c.encode_head.ensures c.requires.fits (g.S.ReadBytes.image c.args.space.now) (g.S.ReadBytes.image c.store.new.space) (g.S.ReadBytes.image c.store-2.new.space) c.store.ensures.bytes c.store-2.ensures.bytes (g.S.ReadBytes.image c.fill.new.space) c.fill.ensures.bytes

pub returns-in-Ok-store-2-clause-bytes : goal.returns-in-Ok-store-2-clause-bytes
returns-in-Ok-store-2-clause-bytes g c = tail_changes c.args.place c.args.n (length c.args.text.now) _ _ c.encode_head.ensures c.requires.fits (g.S.ReadBytes.image c.args.space.now) (g.S.ReadBytes.image c.store.new.space) (g.S.ReadBytes.image c.store-2.new.space)
    c.store.ensures.bytes c.store-2.ensures.bytes (g.S.ReadBytes.image c.fill.new.space) c.fill.ensures.bytes _ (g.S.ReadBytes.image c.store-3.new.space) c.tail.ensures c.store-3.ensures.bytes

pub returns-in-Err-store-2-clause-bytes : goal.returns-in-Err-store-2-clause-bytes
returns-in-Err-store-2-clause-bytes g c = tail_changes c.args.place c.args.n (length c.args.text.now) _ _ c.encode_head.ensures c.requires.fits (g.S.ReadBytes.image c.args.space.now) (g.S.ReadBytes.image c.store.new.space) (g.S.ReadBytes.image c.store-2.new.space)
    c.store.ensures.bytes c.store-2.ensures.bytes (g.S.ReadBytes.image c.fill.new.space) c.fill.ensures.bytes _ (g.S.ReadBytes.image c.store-3.new.space) c.tail.ensures c.store-3.ensures.bytes

pub returns-in-Err-clause-only : goal.returns-in-Err-clause-only
returns-in-Err-clause-only g c = range_waits c.args.place c.args.n c.args.place 16 _ _ _ _ (omega arith) (let l = c.requires.long in omega (arith, l)) (ap length c.encode_head.ensures ∙ head_size _) (waits_none _ _) c.store.ensures.only

pub returns-in-Err-store-clause-only : goal.returns-in-Err-store-clause-only
returns-in-Err-store-clause-only g c = copy_waits c.args.place c.args.n (length c.args.text.now) _ _ c.encode_head.ensures c.requires.fits (g.S.ReadBytes.waiting c.args.space.now) (g.S.ReadBytes.waiting c.store.new.space) (g.S.ReadBytes.waiting c.store-2.new.space) c.store.ensures.only c.store-2.ensures.only

pub returns-in-Err-fill-clause-only : goal.returns-in-Err-fill-clause-only
returns-in-Err-fill-clause-only g c = body_waits c.args.place c.args.n (length c.args.text.now) _ _ c.encode_head.ensures c.requires.fits (g.S.ReadBytes.waiting c.args.space.now) (g.S.ReadBytes.waiting c.store.new.space) (g.S.ReadBytes.waiting c.store-2.new.space) c.store.ensures.only c.store-2.ensures.only (g.S.ReadBytes.waiting c.fill.new.space) c.fill.ensures.only

pub returns-in-Ok-store-2-clause-only : goal.returns-in-Ok-store-2-clause-only
returns-in-Ok-store-2-clause-only g c = tail_waits c.args.place c.args.n (length c.args.text.now) _ _ c.encode_head.ensures c.requires.fits (g.S.ReadBytes.waiting c.args.space.now) (g.S.ReadBytes.waiting c.store.new.space) (g.S.ReadBytes.waiting c.store-2.new.space)
    c.store.ensures.only c.store-2.ensures.only (g.S.ReadBytes.waiting c.fill.new.space) c.fill.ensures.only _ (g.S.ReadBytes.waiting c.store-3.new.space) c.tail.ensures c.store-3.ensures.only

pub returns-in-Err-store-2-clause-only : goal.returns-in-Err-store-2-clause-only
returns-in-Err-store-2-clause-only g c = tail_waits c.args.place c.args.n (length c.args.text.now) _ _ c.encode_head.ensures c.requires.fits (g.S.ReadBytes.waiting c.args.space.now) (g.S.ReadBytes.waiting c.store.new.space) (g.S.ReadBytes.waiting c.store-2.new.space)
    c.store.ensures.only c.store-2.ensures.only (g.S.ReadBytes.waiting c.fill.new.space) c.fill.ensures.only _ (g.S.ReadBytes.waiting c.store-3.new.space) c.tail.ensures c.store-3.ensures.only

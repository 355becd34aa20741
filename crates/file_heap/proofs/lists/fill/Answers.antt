use Rattle.std.proofs.Common.{refl}
use Rattle.file_heap.proofs.Effects.{on_ok}
use Rattle.file_heap.proofs.PushLaws.{is_filled, fill_changes, fill_waits}
use Rattle.file_heap.proofs.lists.fill.Goals as goal

pub returns-clause-written : goal.returns-clause-written
returns-clause-written g c =
    on_ok c.write_field.result (is_filled c.args.place c.args.length _ (g.S.ReadBytes.image c.args.space.now) (g.S.ReadBytes.image c.write_field.new.space) c.requires.some c.requires.short refl) c.write_field.ensures.written

pub returns-clause-bytes : goal.returns-clause-bytes
returns-clause-bytes g c = fill_changes c.args.place c.args.length _ (g.S.ReadBytes.image c.args.space.now) (g.S.ReadBytes.image c.write_field.new.space) c.requires.short refl c.write_field.ensures.bytes

pub returns-clause-only : goal.returns-clause-only
returns-clause-only g c = fill_waits c.args.place c.args.length _ (g.S.ReadBytes.waiting c.args.space.now) (g.S.ReadBytes.waiting c.write_field.new.space) c.requires.short refl c.write_field.ensures.only

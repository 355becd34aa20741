use Rattle.std.proofs.Common.{◌+◌, ◌^◌, ◌∙◌, ◌-◌, arith}
use Rattle.adf_data.proofs.WriteLaws.{bytes_of_spread}
use Rattle.adf_data.proofs.PartLaws.{elements_wait, all_elements_made, elements_change, ends_later}
use Rattle.adf_data.proofs.whole.write_elements.Goals as goal

pub write_each-requires-clause-small : goal.write_each-requires-clause-small
write_each-requires-clause-small g c = ends_later c.args.element c.args.size (2 ^ 30) c.args.runs.now c.requires.small c.requires.ends

pub write_each-requires-clause-within : goal.write_each-requires-clause-within
write_each-requires-clause-within g c = ends_later c.args.element c.args.size (c.args.n - 20 + 0) c.args.runs.now (let f = c.requires.fits in omega (arith, f)) c.requires.ends

pub write_each-requires-clause-room : goal.write_each-requires-clause-room
write_each-requires-clause-room g c = c.requires.bytes ∙ bytes_of_spread c.args.element c.args.runs.now

pub returns-in-Ok-write_each-clause-made : goal.returns-in-Ok-write_each-clause-made
returns-in-Ok-write_each-clause-made g c =
    all_elements_made c.args.size c.args.element c.args.n c.args.place c.args.runs.now c.args.bytes.now (g.S.ReadBytes.image c.args.space.now) (g.S.ReadBytes.image c.write_chunk.new.space) (g.S.ReadBytes.image c.write_each.new.space) c.requires.long c.requires.fits c.requires.ends c.in-Ok.ensures.made c.in-Ok-write_each.ensures.written

pub returns-in-Ok-write_each-clause-changes : goal.returns-in-Ok-write_each-clause-changes
returns-in-Ok-write_each-clause-changes g c = elements_change c.args.place c.args.n (g.S.ReadBytes.image c.args.space.now) (g.S.ReadBytes.image c.write_chunk.new.space) (g.S.ReadBytes.image c.write_each.new.space) c.write_chunk.ensures.bytes c.write_each.ensures.bytes

pub returns-in-Ok-write_each-clause-only : goal.returns-in-Ok-write_each-clause-only
returns-in-Ok-write_each-clause-only g c = elements_wait c.args.place c.args.n c.args.size (g.S.ReadBytes.waiting c.args.space.now) (g.S.ReadBytes.waiting c.write_chunk.new.space) (g.S.ReadBytes.waiting c.write_each.new.space) c.write_chunk.ensures.only (c.write_each.ensures.only c.args.size c.requires.ends)

pub returns-in-Err-write_each-clause-changes : goal.returns-in-Err-write_each-clause-changes
returns-in-Err-write_each-clause-changes g c = elements_change c.args.place c.args.n (g.S.ReadBytes.image c.args.space.now) (g.S.ReadBytes.image c.write_chunk.new.space) (g.S.ReadBytes.image c.write_each.new.space) c.write_chunk.ensures.bytes c.write_each.ensures.bytes

pub returns-in-Err-write_each-clause-only : goal.returns-in-Err-write_each-clause-only
returns-in-Err-write_each-clause-only g c = elements_wait c.args.place c.args.n c.args.size (g.S.ReadBytes.waiting c.args.space.now) (g.S.ReadBytes.waiting c.write_chunk.new.space) (g.S.ReadBytes.waiting c.write_each.new.space) c.write_chunk.ensures.only (c.write_each.ensures.only c.args.size c.requires.ends)

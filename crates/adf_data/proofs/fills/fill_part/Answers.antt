use Rattle.std.proofs.Common.{take}
use Rattle.adf_data.proofs.FillLaws.{part_filled, part_long, part_zero}
use Rattle.adf_data.proofs.fills.fill_part.Goals as goal

pub returns-in-Ok-clause-filled : goal.returns-in-Ok-clause-filled
returns-in-Ok-clause-filled g c =
    part_filled c.args.place c.args.part (take c.args.part c.args.block.now) (g.S.ReadBytes.image c.args.space.now) (g.S.ReadBytes.image c.store.new.space) c.in-Ok.ensures.written (part_long c.args.part 4096 c.args.block.now c.told-block c.requires.block) (part_zero c.args.part c.args.block.now c.requires.zero)

use Rattle.adf_tree.proofs.FreshFile.{fresh_written}
use Rattle.adf_tree.proofs.fresh.write_fresh.Goals as goal

pub returns-clause-image : goal.returns-clause-image
returns-clause-image g c =
    fresh_written c.args.wide c.first_block-block.result (g.S.ReadBytes.image c.args.space.now) (g.S.ReadBytes.image c.write_bytes.new.space) c.write_bytes.result c.first_block-block.ensures
    c.requires.empty c.write_bytes.ensures.written

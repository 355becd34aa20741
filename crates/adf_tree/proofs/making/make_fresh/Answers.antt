use Rattle.std.proofs.Common.{arith}
use Rattle.std.proofs.lemmas.Grind.{common_steps}
use Rattle.adf_tree.proofs.FreshMade.{makes_fresh}
use Rattle.adf_tree.proofs.making.make_fresh.Goals as goal

pub returns-clause-fresh : goal.returns-clause-fresh
returns-clause-fresh g c = makes_fresh c.args.wide c.map_err-2.result (g.D.Device.state c.args.device.now) (g.D.Device.state c.write_block.new.self) (grind (arith, common_steps))

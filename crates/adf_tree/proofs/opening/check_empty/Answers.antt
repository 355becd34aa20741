use Rattle.block_cache.specs.Cache.{device_in}
use Rattle.adf_tree.proofs.FreshFile.{empty_told, not_empty}
use Rattle.adf_tree.proofs.opening.check_empty.Goals as goal

pub returns-clause-empty : goal.returns-clause-empty
returns-clause-empty g c = empty_told (g.D.Device.state (device_in c.args.cache.now)).held c.in-Ok.length c.in-Ok.ensures.told c.if-length-gt0.false

pub returns-then-length-gt0-clause-cause : goal.returns-then-length-gt0-clause-cause
returns-then-length-gt0-clause-cause g c = not_empty (g.D.Device.state (device_in c.args.cache.now)).held c.in-Ok.length c.in-Ok.ensures.told c.if-length-gt0.true

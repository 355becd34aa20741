use Rattle.layout_laws.proofs.TilePassLaws.{start, pass_on, clash, hole, last_fill, last_tiled}
use Rattle.layout_laws.proofs.passes.over_extents.Goals as goal

pub returns-clause-start : goal.returns-clause-start
returns-clause-start c = start

pub returns-clause-on : goal.returns-clause-on
returns-clause-on c = pass_on

pub returns-clause-clash : goal.returns-clause-clash
returns-clause-clash c = clash

pub returns-clause-hole : goal.returns-clause-hole
returns-clause-hole c = hole

pub returns-clause-gaps : goal.returns-clause-gaps
returns-clause-gaps c = last_fill

pub returns-clause-tiled : goal.returns-clause-tiled
returns-clause-tiled c = last_tiled

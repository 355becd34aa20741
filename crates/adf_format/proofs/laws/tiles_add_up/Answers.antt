use Rattle.adf_format.proofs.TileLaws.{TilesInOrder-Tiles}
use Rattle.adf_format.proofs.CountLaws.{tiles_add_up}
use Rattle.adf_format.proofs.laws.tiles_add_up.Goals as goal

pub returns-clause-in_a_row : goal.returns-clause-in_a_row
returns-clause-in_a_row c = TilesInOrder-Tiles

pub returns-clause-add_up : goal.returns-clause-add_up
returns-clause-add_up c = tiles_add_up

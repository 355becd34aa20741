use Rattle.std.proofs.Common.{◌+◌, length, arith}
use Rattle.sids_rules.proofs.OffsetLaws.{position_order, position_high}
use Rattle.sids_rules.proofs.offsets.piece_at.Goals as goal

pub part-requires-clause-order : goal.part-requires-clause-order
part-requires-clause-order c = omega (arith, position_order c.args.offsets.now (length c.args.connectivity.now) c.requires.offsets c.args.k c.requires.within)

pub part-requires-clause-within : goal.part-requires-clause-within
part-requires-clause-within c = omega (arith, position_high c.args.offsets.now (length c.args.connectivity.now) c.requires.offsets (c.args.k + 1) c.requires.within)

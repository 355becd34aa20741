use Rattle.std.proofs.Common.{arith}
use Rattle.tree_moves.proofs.place.has_room.Goals as goal

pub returns-then-from-clause-lacks : goal.returns-then-from-clause-lacks
returns-then-from-clause-lacks c = (
  omega (arith, c.if-to-ge-MOST_CHILDREN.false),
  (c.deepest-most.result, c.deepest-most.ensures, omega (arith, c.if-from.true, c.from.ensures, c.from-2.ensures, c.from-3.ensures, c.from-4.ensures)),
)

pub returns-clause-room : goal.returns-clause-room
returns-clause-room c = record {
  few = omega (arith, c.if-to-ge-MOST_CHILDREN.false);
  deepest = c.deepest-most.result;
  is = c.deepest-most.ensures;
  fits = omega (arith, c.if-from.false, c.from.ensures, c.from-2.ensures, c.from-3.ensures, c.from-4.ensures);
}

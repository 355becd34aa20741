use Rattle.std.proofs.Common.{◌-◌, ◌*◌, ◌∙◌, ap, sym}
use Rattle.node_reads.specs.Entries.{is_wanted}
use Rattle.node_reads.proofs.EntryLaws.{sliced}
use Rattle.node_reads.proofs.find.first_in.Goals as goal

pub returns-then-is_in : goal.returns-then-is_in
returns-then-is_in c = (
  c.loop-position.auto.position,
  c.loop-position-test.true,
  ap (is_wanted c.args.wanted.now) (sym (sliced c.args.piece.now (44 * (c.loop-position.position - c.args.from)) 44)) ∙ sym c.is_in.ensures ∙ c.if-is_in.true,
  c.loop-position.invariant,
)

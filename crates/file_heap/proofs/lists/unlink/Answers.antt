use Rattle.file_heap.proofs.SpotLaws.{front_waits}
use Rattle.file_heap.proofs.lists.unlink.Goals as goal

pub returns-clause-only : goal.returns-clause-only
returns-clause-only g c =
    front_waits c.args.slots.now c.args.i c.args.spot c.requires.gaps c.requires.inside c.requires.free c.requires.spot (g.S.ReadBytes.image c.args.space.now) (g.S.ReadBytes.waiting c.args.space.now) (g.S.ReadBytes.waiting c.next_behind.new.space) (g.S.ReadBytes.waiting c.relink.new.space)
    c.next_behind.ensures.waiting c.requires.threads c.relink.ensures.only

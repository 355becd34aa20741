use Rattle.file_heap.specs.Links.{number_of}
use Rattle.file_heap.proofs.ChangeLaws.{last_changed, last_waits}
use Rattle.file_heap.proofs.SpotLaws.{number_few}
use Rattle.file_heap.proofs.lists.end_list.Goals as goal

pub returns-in-None-clause-bytes : goal.returns-in-None-clause-bytes
returns-in-None-clause-bytes g c = last_changed (number_of c.args.list) c.first_at.result (g.S.ReadBytes.image c.args.space.now) (g.S.ReadBytes.image c.write_link.new.space) (number_few c.args.list) c.first_at.ensures.place c.write_link.ensures.bytes

pub returns-in-None-clause-only : goal.returns-in-None-clause-only
returns-in-None-clause-only g c = last_waits (number_of c.args.list) c.first_at.result (g.S.ReadBytes.waiting c.args.space.now) (g.S.ReadBytes.waiting c.write_link.new.space) (number_few c.args.list) c.first_at.ensures.place c.write_link.ensures.only

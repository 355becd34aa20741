use Rattle.tree_asks.proofs.LinkTexts.{long_refused, data_told}
use Rattle.tree_asks.proofs.links.link_data.Goals as goal

pub returns-then-length-clause-told : goal.returns-then-length-clause-told
returns-then-length-clause-told g c =
    long_refused c.args.core.now c.args.serial c.args.place c.args.header.now c.requires.link _ (g.S.ReadBytes.image c.args.space.now) c.size_in-length.result c.no_text.result c.requires.its c.size_in-length.ensures c.if-length.true

pub returns-clause-told : goal.returns-clause-told
returns-clause-told g c =
    data_told c.args.core.now c.args.serial c.args.place c.args.header.now c.requires.link c.data_place.result c.data_place.ensures.place c.in-Ok.runs c.size_in-length.result c.size_in-length.ensures c.in-Ok.ensures.run
    (g.S.ReadBytes.image c.args.space.now) _ _ c.read_runs.result c.requires.its c.read_runs.ensures.read c.read_runs.ensures.cause

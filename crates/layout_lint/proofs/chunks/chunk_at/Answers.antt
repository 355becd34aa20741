use Rattle.std.proofs.Common.{◌∙◌, sym}
use Rattle.layout_lint.proofs.ChunkListLaws.{chunk_listed, more_than_one}
use Rattle.layout_lint.proofs.chunks.chunk_at.Goals as goal

pub returns-clause-says : goal.returns-clause-says
returns-clause-says c = λ image are.
    let listed = sym c.are_listed.ensures ∙ c.if-not-are_listed.false in
    chunk_listed image c.args.chunks.place c.args.chunks.count c.args.position c.args.list.now (record { place = 0; tail = 0 }) listed c.requires.within (c.requires.list.all (more_than_one c.args.chunks.count listed)) are

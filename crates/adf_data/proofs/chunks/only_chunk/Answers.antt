use Rattle.std.proofs.Common.{arith}
use Rattle.adf_data.proofs.Listing.{far_head, good_head, bad_head}
use Rattle.adf_data.proofs.chunks.only_chunk.Goals as goal

pub returns-then-place-gt-LAST_HEAD-clause-cause : goal.returns-then-place-gt-LAST_HEAD-clause-cause
returns-then-place-gt-LAST_HEAD-clause-cause g c = ((omega arith, omega arith), far_head c.args.at (g.S.ReadBytes.image c.args.space.now) c.in-Some.place c.in-Some.ensures c.requires.one (omega arith))

pub returns-in-Some-chunk_in_head-clause-says : goal.returns-in-Some-chunk_in_head-clause-says
returns-in-Some-chunk_in_head-clause-says g c =
    good_head c.args.at (g.S.ReadBytes.image c.args.space.now) c.in-Some.place c.load.new.into c.in-Some-chunk_in_head.chunk c.in-Some.ensures c.requires.one c.in_ok-load.ensures.told c.load.auto.into c.in-Some-chunk_in_head.ensures.says

pub returns-in-None-clause-cause : goal.returns-in-None-clause-cause
returns-in-None-clause-cause g c =
    ((omega arith, omega arith), bad_head c.args.at (g.S.ReadBytes.image c.args.space.now) c.in-Some.place c.load.new.into c.in-Some.ensures c.requires.one c.in_ok-load.ensures.told c.load.auto.into c.in-None.ensures.says)

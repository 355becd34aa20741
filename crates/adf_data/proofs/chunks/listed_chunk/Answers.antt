use Rattle.std.proofs.Common.{arith}
use Rattle.adf_data.proofs.Listing.{far_entry, good_entry, bad_entry}
use Rattle.adf_data.proofs.chunks.listed_chunk.Goals as goal

pub returns-then-entry-gt-LAST_ENTRY-clause-cause : goal.returns-then-entry-gt-LAST_ENTRY-clause-cause
returns-then-entry-gt-LAST_ENTRY-clause-cause g c = ((omega arith, omega arith), far_entry c.args.at (g.S.ReadBytes.image c.args.space.now) c.in-Some.table c.args.number c.in-Some.ensures c.requires.several c.requires.inside (omega arith))

pub returns-in-Some-chunk_in_entry-clause-says : goal.returns-in-Some-chunk_in_entry-clause-says
returns-in-Some-chunk_in_entry-clause-says g c =
    good_entry c.args.at (g.S.ReadBytes.image c.args.space.now) c.in-Some.table c.args.number c.load.new.into c.in-Some-chunk_in_entry.chunk c.in-Some.ensures c.requires.several c.requires.inside c.in_ok-load.ensures.told c.load.auto.into c.in-Some-chunk_in_entry.ensures.says

pub returns-in-None-clause-cause : goal.returns-in-None-clause-cause
returns-in-None-clause-cause g c =
    ((omega arith, omega arith), bad_entry c.args.at (g.S.ReadBytes.image c.args.space.now) c.in-Some.table c.args.number c.load.new.into c.in-Some.ensures c.requires.several c.requires.inside c.in_ok-load.ensures.told c.load.auto.into c.in-None.ensures.says)

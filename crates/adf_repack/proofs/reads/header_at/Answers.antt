use Rattle.std.proofs.Common.{true}
use Rattle.node_reads.proofs.HeaderLaws.{rows_kept, rows_broken}
use Rattle.adf_repack.proofs.reads.header_at.Goals as goal

pub returns-in-Ok-decode_named-clause-header : goal.returns-in-Ok-decode_named-clause-header
returns-in-Ok-decode_named-clause-header g c = record {
  bytes = c.in-Ok.bytes;
  long = c.in-Ok.ensures.long;
  given = c.in-Ok.ensures.told;
  says = record {
    kept = rows_kept c.args.wide true c.args.place c.in-Ok.bytes c.in-Ok-decode_named.ensures.sound;
    says = c.in-Ok-decode_named.ensures.says;
  };
}

pub returns-in-Err-decode_named-clause-cause : goal.returns-in-Err-decode_named-clause-cause
returns-in-Err-decode_named-clause-cause g c = record {
  bytes = c.in-Ok.bytes;
  long = c.in-Ok.ensures.long;
  given = c.in-Ok.ensures.told;
  says = rw c.from.ensures (rows_broken c.args.wide true c.args.place c.in-Ok.bytes c.in-Err-decode_named.bad c.in-Err-decode_named.ensures.bad);
}

use Rattle.std.proofs.Common.{◌≡◌, ◌+◌, subst, Bool, None, Some}
use Rattle.adf_format.specs.Checks.{first_broken}
use Rattle.adf_format.specs.FirstFault.{node_rows}
use Rattle.node_reads.proofs.HeaderLaws.{rows_kept, rows_broken}
use Rattle.node_reads.proofs.header.header_at.Goals as goal

pub returns-in-Ok-decode_named-clause-header : goal.returns-in-Ok-decode_named-clause-header
returns-in-Ok-decode_named-clause-header g c = record {
  bytes = c.in-Ok.header;
  long = c.in-Ok.ensures.long;
  given = c.in-Ok.ensures.told;
  says = record {
    kept = subst (λ (named : Bool). first_broken (node_rows c.args.wide c.args.place named c.in-Ok.header) ≡ None) c.is_named-named.ensures
        (rows_kept c.args.wide c.is_named-named.result c.args.place c.in-Ok.header c.in-Ok-decode_named.ensures.sound);
    says = c.in-Ok-decode_named.ensures.says;
  };
}

pub returns-in-Err-decode_named-clause-reads : goal.returns-in-Err-decode_named-clause-reads
returns-in-Err-decode_named-clause-reads g c = record {
  sound = c.read_bytes.ensures.reads.sound;
  bytes = c.read_bytes.ensures.reads.bytes;
  waits = c.read_bytes.ensures.reads.waits;
  effect = c.read_bytes.ensures.reads.effect;
  cause = record {
    bytes = c.in-Ok.header;
    long = c.in-Ok.ensures.long;
    given = c.in-Ok.ensures.told;
    says = rw c.from.ensures (subst (λ (named : Bool). first_broken (node_rows c.args.wide c.args.place named c.in-Ok.header) ≡ Some (record { rule = c.in-Err-decode_named.bad.rule; place = c.args.place + c.in-Err-decode_named.bad.offset })) c.is_named-named.ensures
        (rows_broken c.args.wide c.is_named-named.result c.args.place c.in-Ok.header c.in-Err-decode_named.bad c.in-Err-decode_named.ensures.bad));
  };
}

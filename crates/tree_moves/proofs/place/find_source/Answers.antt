use Rattle.std.proofs.Common.{◌∙◌, inl, inr, sym, refl, subst, None}
use Rattle.cg_io.proofs.ReadLaws.{few_only, only_then, only_none}
use Rattle.node_reads.specs.Reads.{ReadAt, Breaks, IsUnread}
use Rattle.node_reads.specs.Headers.{IsHeader, header_rows}
use Rattle.adf_format.specs.RecordFields.{node_length}
use Rattle.tree_edits.proofs.CreateDone.{table_only}
use Rattle.tree_moves.proofs.Found.{unlisted_breaks, header_breaks}
use Rattle.tree_moves.proofs.place.find_source.Goals as goal

pub returns-in-None-clause-reads : goal.returns-in-None-clause-reads
returns-in-None-clause-reads g c = record {
  sound = c.requires.sound;
  bytes = refl;
  waits = refl;
  effect = only_none _;
  cause = inl (inr (refl, refl, inl (sym c.get.ensures ∙ c.in-None.is)));
}

pub returns-in-Err-clause-reads : goal.returns-in-Err-clause-reads
returns-in-Err-clause-reads g c = record {
  sound = c.in-Err.ensures.reads.sound;
  bytes = c.in-Err.ensures.reads.bytes;
  waits = c.in-Err.ensures.reads.waits;
  effect = table_only _ 1 2 _ _ c.in-Err.ensures.reads.effect;
  cause = unlisted_breaks c.args.core.now (g.S.ReadBytes.image c.args.space.now) c.args.row c.args.parent _ _ c.in-Err.error c.in-Err.ensures.reads.cause;
}

pub returns-in-Ok-read_header-clause-source : goal.returns-in-Ok-read_header-clause-source
returns-in-Ok-read_header-clause-source g c = record {
  from = sym c.get.ensures ∙ c.in-Some.is;
  listed = c.in-Ok.ensures.listed;
  header = c.in-Ok-read_header.header;
  read = subst (λ h. ReadAt h c.args.row.place (node_length c.args.core.now.wide) (IsHeader c.args.core.now.wide c.args.row.place None c.in-Ok-read_header.header)) c.in-Ok.ensures.reads.bytes c.in-Ok-read_header.ensures.header;
  name = refl;
}

pub returns-in-Ok-read_header-clause-reads : goal.returns-in-Ok-read_header-clause-reads
returns-in-Ok-read_header-clause-reads g c = record {
  sound = c.in-Ok-read_header.ensures.reads.sound;
  bytes = c.in-Ok-read_header.ensures.reads.bytes ∙ c.in-Ok.ensures.reads.bytes;
  waits = c.in-Ok-read_header.ensures.reads.waits ∙ c.in-Ok.ensures.reads.waits;
  effect = only_then _ _ _ (table_only _ 1 2 _ _ c.in-Ok.ensures.reads.effect) (few_only _ _ _ c.in-Ok-read_header.ensures.reads.effect);
  cause = tt;
}

pub returns-in-Err-read_header-clause-reads : goal.returns-in-Err-read_header-clause-reads
returns-in-Err-read_header-clause-reads g c =
    let one = table_only _ 1 2 _ _ c.in-Ok.ensures.reads.effect in
    record {
      sound = c.in-Err-read_header.ensures.reads.sound;
      bytes = c.in-Err-read_header.ensures.reads.bytes ∙ c.in-Ok.ensures.reads.bytes;
      waits = c.in-Err-read_header.ensures.reads.waits ∙ c.in-Ok.ensures.reads.waits;
      effect = only_then _ _ _ one (few_only _ _ _ c.in-Err-read_header.ensures.reads.effect);
      cause = header_breaks c.args.core.now (g.S.ReadBytes.image c.args.space.now) c.args.row c.args.parent _ (g.S.ReadBytes.state c.find_listed.new.space).faults _ c.in-Err-read_header.error one.faults
          (subst (λ h. IsUnread (Breaks h c.args.row.place (node_length c.args.core.now.wide) (header_rows c.args.core.now.wide c.args.row.place None)) (g.S.ReadBytes.state c.find_listed.new.space).faults (g.S.ReadBytes.state c.read_header.new.bytes).faults c.in-Err-read_header.error) c.in-Ok.ensures.reads.bytes c.in-Err-read_header.ensures.reads.cause);
    }

use Rattle.std.proofs.lemmas.List.{length_push}
use Rattle.std.proofs.Common.{◌+◌, length, ◌∙◌, arith, subst, ap, sym}
use Rattle.adf_data.specs.Chunks.{parts_of, Named, NoneNamed}
use Rattle.adf_data.proofs.ListLaws.{list_more, list_whole}
use Rattle.cg_io.proofs.ReadLaws.{only_then, refused_later}
use Rattle.adf_data.proofs.chunks.list_several.Goals as goal

pub returns-in-Err-listed_chunk-clause-cause : goal.returns-in-Err-listed_chunk-clause-cause
returns-in-Err-listed_chunk-clause-cause g c =
    refused_later (NoneNamed c.args.at (g.S.ReadBytes.image c.loop-number.space)) (NoneNamed c.args.at (g.S.ReadBytes.image c.args.space.now)) (g.S.ReadBytes.state c.args.space.now).faults (g.S.ReadBytes.state c.loop-number.space).faults (g.S.ReadBytes.state c.listed_chunk.new.space).faults
    c.in-Err-listed_chunk.error c.loop-number.invariant.looks.faults (λ none parts n. none parts (subst (Named c.args.at parts) (sym c.loop-number.invariant.image) n)) c.in-Err-listed_chunk.ensures.cause

pub loop-number-preserved : goal.loop-number-preserved
loop-number-preserved g c = record {
  sound = c.listed_chunk.ensures.sound;
  image = c.listed_chunk.ensures.image ∙ c.loop-number.invariant.image;
  waits = c.listed_chunk.ensures.waits ∙ c.loop-number.invariant.waits;
  looks = only_then (g.S.ReadBytes.state c.args.space.now) (g.S.ReadBytes.state c.loop-number.space) (g.S.ReadBytes.state c.listed_chunk.new.space) c.loop-number.invariant.looks c.listed_chunk.ensures.effect;
  says = λ parts n. ap parts_of c.in_ok-keep-in-Ok-listed_chunk.ensures.items ∙ list_more c.args.at (g.S.ReadBytes.image c.args.space.now) c.loop-number.chunks.items c.in-Ok-listed_chunk.chunk c.loop-number.number (omega arith) c.loop-number.invariant.says (λ q m. c.in-Ok-listed_chunk.ensures.says q (subst (Named c.args.at q) (sym c.loop-number.invariant.image) m)) parts n;
  long = ap length c.in_ok-keep-in-Ok-listed_chunk.ensures.items ∙ length_push c.loop-number.chunks.items c.in-Ok-listed_chunk.chunk ∙ ap (λ n. n + 1) c.loop-number.invariant.long;
  sane = c.in_ok-keep-in-Ok-listed_chunk.ensures.sane;
}

pub returns-clause-says : goal.returns-clause-says
returns-clause-says g c = list_whole c.args.at (g.S.ReadBytes.image c.args.space.now) c.loop-number.chunks.items c.loop-number.number (omega arith) c.loop-number.invariant.says

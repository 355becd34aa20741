use Rattle.std.proofs.Common.{◌≡◌, refl, sym, rules, subst, inr}
use Rattle.adf_records.specs.View.{record_of}
use Rattle.adf_format.specs.Records.{NodeRecord}
use Rattle.adf_repack.specs.Plans.{HasLong, record_at}
use Rattle.adf_repack.proofs.CopyLaws.{numbers_are}
use Rattle.adf_repack.proofs.MeasureLaws.{none_long}
use Rattle.adf_repack.proofs.NodeLaws.{header_said, long_dimension}
use Rattle.adf_repack.proofs.PayloadLaws.{told_of}
use Rattle.adf_repack.proofs.measuring.measure_node.Goals as goal

pub returns-then-not-dimensions_fit-clause-cause : goal.returns-then-not-dimensions_fit-clause-cause
returns-then-not-dimensions_fit-clause-cause g c =
    let h = c.in-Ok.header in
    inr (inr (
      refl,
      record {
        header = record_of h;
        read = header_said (g.B.Blocks.state c.args.blocks.now).held c.args.wide c.args.place c.args.place h refl c.in-Ok.ensures.header;
        so = long_dimension c.args.to (record_of h) c.dimensions_within.result (rw (sym (numbers_are h)) c.dimensions_within.ensures) (c.dimensions_fit.ensures.long (search rules));
      },
    ))

pub returns-clause-fits : goal.returns-clause-fits
returns-clause-fits g c image e long =
    let h = c.in-Ok.header in
    let held = (g.B.Blocks.state c.args.blocks.now).held in
    let said = header_said held c.args.wide c.args.place c.args.place h refl c.in-Ok.ensures.header in
    let is : record_of h ≡ record_at image c.args.wide c.args.place = told_of held image (λ i. record_of h ≡ record_at i c.args.wide c.args.place) e said in
    none_long c.args.to (record_of h) c.dimensions_within.result (rw (sym (numbers_are h)) c.dimensions_within.ensures) (c.dimensions_fit.ensures.fit (search rules))
    (subst (λ (r : NodeRecord). HasLong c.args.to r) (sym is) long)

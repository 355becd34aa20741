use Rattle.std.proofs.Common.{◌∙◌, ap, map}
use Rattle.std.proofs.lemmas.List.Elements.{All-same}
use Rattle.adf_format.specs.FirstFault.{payload_total}
use Rattle.layout_lint.specs.Chunks.{IsChunk, data_extent, entry_visit}
use Rattle.layout_lint.proofs.DataLaws.{visits_are, breaks_list, breaks_chunks, breaks_contents, keeps_data, used_said, extents_said, put_behind, all_solid}
use Rattle.layout_lint.proofs.ShapeLaws.{adds_then, adds_more}
use Rattle.layout_lint.proofs.RowSteps.{ended_by}
use Rattle.layout_lint.proofs.look.look_at_data.Goals as goal

pub returns-in_err-framed-clause-rows : goal.returns-in_err-framed-clause-rows
returns-in_err-framed-clause-rows g c = λ image told long is. rw (ended_by _ _ c.from_residual.ensures.1)
    (breaks_list image c.args.span.wide c.args.span.end c.args.used c.args.place c.place_of.result c.args.header.now is c.place_of.ensures.value c.in_err-framed.field-0.0 (c.in_err-framed.ensures.rows image told long))

pub returns-in_err-sums-clause-rows : goal.returns-in_err-sums-clause-rows
returns-in_err-sums-clause-rows g c = λ image told long is. rw (ended_by _ _ c.from_residual-in_err-sums.ensures.1)
    (let told_then = c.look_at_listing.ensures.short.held ∙ told in
    breaks_chunks image c.args.span.wide c.args.span.end c.args.used c.args.place c.place_of.result c.args.header.now is c.place_of.ensures.value c.in_ok-framed.framed.used c.in_ok-framed.ensures.used c.in_err-sums.field-0.0
    (c.in_ok-framed.ensures.rows image told long) (c.in_err-sums.ensures.rows image told_then long (λ more. ap (map entry_visit) c.deref.ensures.value ∙ c.in_ok-framed.ensures.listed image told long more)))

pub look_at_contents-requires-clause-chunks : goal.look_at_contents-requires-clause-chunks
look_at_contents-requires-clause-chunks g c =
    let a = c.in_ok-sums.ensures.added in
    All-same (IsChunk c.args.span.end) _ a.more (put_behind c.deref-2.result.now c.look_at_chunks.new.extents.items c.look_at_listing.new.extents.items a.more c.len-first.result c.deref-2.ensures.value a.added (c.len-first.ensures ∙ c.look_at_listing.new.extents.ok.0)) a.chunks

pub returns-in-Ok-clause-rows : goal.returns-in-Ok-clause-rows
returns-in-Ok-clause-rows g c = λ image told long is.
    let told_then = c.look_at_listing.ensures.short.held ∙ told in
    let told_last = c.look_at_chunks.ensures.effect.held ∙ told_then in
    let visits = visits_are image c.args.span.wide c.args.span.end c.args.used c.args.place c.place_of.result c.args.header.now is c.place_of.ensures.value in
    let parts = put_behind c.deref-2.result.now c.look_at_chunks.new.extents.items c.look_at_listing.new.extents.items _ c.len-first.result c.deref-2.ensures.value (c.in_ok-sums.ensures.extents image told_then long (λ more. ap (map entry_visit) c.deref.ensures.value ∙ c.in_ok-framed.ensures.listed image told long more)) (c.len-first.ensures ∙ c.look_at_listing.new.extents.ok.0) in
    keeps_data image c.args.span.wide c.args.span.end c.args.used c.args.place c.place_of.result c.args.header.now is c.place_of.ensures.value c.in_ok-framed.framed.used c.in_ok-framed.ensures.used
    (c.in_ok-framed.ensures.rows image told long) (c.in_ok-sums.ensures.rows image told_then long (λ more. ap (map entry_visit) c.deref.ensures.value ∙ c.in_ok-framed.ensures.listed image told long more))
    (c.in-Ok.ensures.rows image told_last long is (parts ∙ ap (map (data_extent image)) visits) (c.in_ok-sums.ensures.payload image told_then long (λ more. ap (map entry_visit) c.deref.ensures.value ∙ c.in_ok-framed.ensures.listed image told long more) ∙ ap (payload_total image) visits))

pub returns-in-Ok-clause-used : goal.returns-in-Ok-clause-used
returns-in-Ok-clause-used g c = λ image told long is.
    used_said image c.args.span.wide c.args.span.end c.args.used c.args.place c.place_of.result c.args.header.now is c.place_of.ensures.value c.in_ok-framed.framed.used c.in_ok-framed.ensures.used c.in_ok-sums.sums.used
    (c.in_ok-sums.ensures.used image (c.look_at_listing.ensures.short.held ∙ told) long (λ more. ap (map entry_visit) c.deref.ensures.value ∙ c.in_ok-framed.ensures.listed image told long more))

pub returns-in-Ok-clause-extents : goal.returns-in-Ok-clause-extents
returns-in-Ok-clause-extents g c = λ image told long is.
    extents_said image c.args.span.wide c.args.span.end c.args.used c.args.place c.place_of.result c.args.header.now is c.place_of.ensures.value c.args.extents.now.items c.look_at_listing.new.extents.items c.look_at_chunks.new.extents.items
    c.in_ok-framed.ensures.extents (c.in_ok-sums.ensures.extents image (c.look_at_listing.ensures.short.held ∙ told) long (λ more. ap (map entry_visit) c.deref.ensures.value ∙ c.in_ok-framed.ensures.listed image told long more))

pub returns-in-Ok-clause-solid : goal.returns-in-Ok-clause-solid
returns-in-Ok-clause-solid g c = λ solid.
    all_solid c.args.span.end c.place_of.result c.args.header.now.chunks _ c.args.extents.now.items c.look_at_listing.new.extents.items c.look_at_chunks.new.extents.items c.in_ok-framed.ensures.extents c.in_ok-framed.ensures.fits c.in_ok-sums.ensures.added solid

pub returns-clause-rows : goal.returns-clause-rows
returns-clause-rows g c = λ image told long is.
    let told_then = c.look_at_listing.ensures.short.held ∙ told in
    let told_last = c.look_at_chunks.ensures.effect.held ∙ told_then in
    let visits = visits_are image c.args.span.wide c.args.span.end c.args.used c.args.place c.place_of.result c.args.header.now is c.place_of.ensures.value in
    let parts = put_behind c.deref-2.result.now c.look_at_chunks.new.extents.items c.look_at_listing.new.extents.items _ c.len-first.result c.deref-2.ensures.value (c.in_ok-sums.ensures.extents image told_then long (λ more. ap (map entry_visit) c.deref.ensures.value ∙ c.in_ok-framed.ensures.listed image told long more)) (c.len-first.ensures ∙ c.look_at_listing.new.extents.ok.0) in
    breaks_contents image c.args.span.wide c.args.span.end c.args.used c.args.place c.place_of.result c.args.header.now is c.place_of.ensures.value c.in_ok-framed.framed.used c.in_ok-framed.ensures.used c.in-Err.halt
    (c.in_ok-framed.ensures.rows image told long) (c.in_ok-sums.ensures.rows image told_then long (λ more. ap (map entry_visit) c.deref.ensures.value ∙ c.in_ok-framed.ensures.listed image told long more))
    (c.in-Err.ensures.rows image told_last long is (parts ∙ ap (map (data_extent image)) visits) (c.in_ok-sums.ensures.payload image told_then long (λ more. ap (map entry_visit) c.deref.ensures.value ∙ c.in_ok-framed.ensures.listed image told long more) ∙ ap (payload_total image) visits))

pub returns-in-Ok-clause-adds : goal.returns-in-Ok-clause-adds
returns-in-Ok-clause-adds g c = adds_then _ _ _ (adds_more _ _ _ c.in_ok-framed.ensures.extents) (adds_more _ _ _ c.in_ok-sums.ensures.added.added)

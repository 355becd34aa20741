use Rattle.std.proofs.Common.{◌∙◌, sym, arith}
use Rattle.cg_io.proofs.ReadLaws.{reads_more}
use Rattle.layout_lint.proofs.ContentRows.{breaks_payload, breaks_link, keeps_contents, link_within, few_reads}
use Rattle.layout_lint.proofs.contents.look_at_contents.Goals as goal

pub returns-then-not-has_payload-clause-rows : goal.returns-then-not-has_payload-clause-rows
returns-then-not-has_payload-clause-rows g c = λ image told long is are total.
    rw (c.halt_at.ensures, c.node_length.ensures) (breaks_payload image c.args.span.wide c.args.place c.args.header.now c.args.chunks.now c.size_of_data-size.result c.args.payload is c.size_of_data-size.ensures c.requires.count are total (omega arith)
    (sym c.has_payload.ensures ∙ c.if-not-has_payload.true))

pub returns-in-Ok-true-clause-rows : goal.returns-in-Ok-true-clause-rows
returns-in-Ok-true-clause-rows g c = λ image told long is are total.
    let holds = sym c.has_payload.ensures ∙ c.if-not-has_payload.false in
    let sound = c.in-Ok-true.ensures.told image told c.args.span.end _ long c.requires.chunks are (λ link. let k = link_within c.args.header.now.kind c.args.header.now.chunks c.size_of_data-size.result c.args.payload holds link in omega arith) in
    keeps_contents image c.args.span.wide c.args.place c.args.header.now c.args.chunks.now c.size_of_data-size.result c.args.payload is c.size_of_data-size.ensures c.requires.count are total (omega arith) holds (sym sound ∙ c.in-Ok-true.field-0-test)

pub returns-in-Ok-true-clause-effect : goal.returns-in-Ok-true-clause-effect
returns-in-Ok-true-clause-effect g c = reads_more _ _ _ _ c.is_sound_link.ensures.effect (few_reads c.args.header.now.kind c.args.header.now.chunks c.size_of_data-size.result c.args.payload (sym c.has_payload.ensures ∙ c.if-not-has_payload.false))

pub returns-in-Ok-false-clause-rows : goal.returns-in-Ok-false-clause-rows
returns-in-Ok-false-clause-rows g c = λ image told long is are total.
    let holds = sym c.has_payload.ensures ∙ c.if-not-has_payload.false in
    let sound = c.in-Ok-false.ensures.told image told c.args.span.end _ long c.requires.chunks are (λ link. let k = link_within c.args.header.now.kind c.args.header.now.chunks c.size_of_data-size.result c.args.payload holds link in omega arith) in
    rw c.halt_at-in-Ok-false.ensures (breaks_link image c.args.span.wide c.args.place c.args.header.now c.args.chunks.now c.size_of_data-size.result c.args.payload is c.size_of_data-size.ensures c.requires.count are total (omega arith) holds
    (sym sound ∙ c.in-Ok-false.field-0-test))

pub returns-in-Ok-false-clause-effect : goal.returns-in-Ok-false-clause-effect
returns-in-Ok-false-clause-effect g c = reads_more _ _ _ _ c.is_sound_link.ensures.effect (few_reads c.args.header.now.kind c.args.header.now.chunks c.size_of_data-size.result c.args.payload (sym c.has_payload.ensures ∙ c.if-not-has_payload.false))

pub returns-in-Err-clause-effect : goal.returns-in-Err-clause-effect
returns-in-Err-clause-effect g c = reads_more _ _ _ _ c.is_sound_link.ensures.effect (few_reads c.args.header.now.kind c.args.header.now.chunks c.size_of_data-size.result c.args.payload (sym c.has_payload.ensures ∙ c.if-not-has_payload.false))

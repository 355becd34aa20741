use Rattle.std.proofs.Common.{◌∙◌, ap, ◌*◌, [], length, drop}
use Rattle.std.specs.Prelude.{unwrap_or}
use Rattle.std.specs.List.{list_any}
use Rattle.sids_views.specs.Views.{node_there}
use Rattle.sids_section_rules.specs.Parts.{part_bytes}
use Rattle.sids_readings.specs.Reading.{bytes_of}
use Rattle.sids_section_rules.specs.Entries.{fails}
use Rattle.sids_section_rules.proofs.PartLaws.{part_numbers}
use Rattle.sids_section_rules.proofs.entries.part_fails.Goals as goal

pub returns-in-Ok-clause-value : goal.returns-in-Ok-clause-value
returns-in-Ok-clause-value g c told =
    let node = node_there (g.C.TreeCalls.files c.args.calls.now) c.args.at in
    let wide = c.args.wide in
    let bytes = unwrap_or node.bytes [] in
    let width = c.requires.width told in
    let part = c.items.ensures ∙ c.in-Ok.ensures.value told ∙ ap (λ w. part_bytes w c.args.first c.args.count bytes) width in
    let size = ap length c.items.ensures ∙ c.in-Ok.ensures.size told ∙ ap (λ w. c.args.count * bytes_of w) width in
    c.has_failing.ensures
    ∙ ap (list_any (fails c.args.test.now)) (part_numbers c.args.format wide c.args.count (drop (c.args.first * bytes_of wide) bytes) c.items.result.now part size)

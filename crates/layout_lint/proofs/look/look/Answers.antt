use Rattle.std.proofs.Common.{◌+◌, ◌∙◌, ap, sym, refl}
use Rattle.layout_lint.proofs.LookLaws.{header_is, name_read, breaks_header, breaks_count, breaks_children, breaks_data, keeps_node, leads_there, extents_added, solid_node, solid_table}
use Rattle.layout_lint.proofs.ShapeLaws.{node_added, adds_then, adds_more}
use Rattle.layout_lint.proofs.RowSteps.{ended_by}
use Rattle.layout_lint.proofs.look.look.Goals as goal

pub returns-in_err-header-clause-rows : goal.returns-in_err-header-clause-rows
returns-in_err-header-clause-rows g c = λ image told long. rw (ended_by _ _ c.from_residual.ensures.1)
    (breaks_header image c.args.span.wide c.args.span.end c.args.known c.args.used c.args.met.now c.in_err-header.field-0.0 (c.in_err-header.ensures.rows image told long))

pub returns-then-not-has_few_children-clause-rows : goal.returns-then-not-has_few_children-clause-rows
returns-then-not-has_few_children-clause-rows g c = λ image told long.
    let header = c.in_ok-header.ensures.rows image told long in
    let is = header_is image c.args.span.wide c.args.span.end c.args.known c.args.used c.args.met.now c.in_ok-header.header header (c.in_ok-header.ensures.says image told long) c.in_ok-header.ensures.wide in
    rw c.halt_at.ensures (breaks_count image c.args.span.wide c.args.span.end c.args.known c.args.used c.args.met.now c.in_ok-header.header header is (sym c.has_few_children.ensures ∙ c.if-not-has_few_children.true))

pub returns-in_err-behind-clause-rows : goal.returns-in_err-behind-clause-rows
returns-in_err-behind-clause-rows g c = λ image told long. rw (ended_by _ _ c.from_residual-in_err-behind.ensures.1)
    (let header = c.in_ok-header.ensures.rows image told long in
    let is = header_is image c.args.span.wide c.args.span.end c.args.known c.args.used c.args.met.now c.in_ok-header.header header (c.in_ok-header.ensures.says image told long) c.in_ok-header.ensures.wide in
    let told_then = c.look_at_header.ensures.effect.held ∙ told in
    breaks_children image c.args.span.wide c.args.span.end c.args.known c.args.used c.args.met.now c.in_ok-header.header header is (sym c.has_few_children.ensures ∙ c.if-not-has_few_children.false)
    (c.args.used + c.node_length-length.result) (ap (λ k. c.args.used + k) c.node_length-length.ensures) c.in_err-behind.field-0.0 (c.in_err-behind.ensures.rows image told_then long))

pub returns-in-Err-clause-rows : goal.returns-in-Err-clause-rows
returns-in-Err-clause-rows g c = λ image told long.
    let header = c.in_ok-header.ensures.rows image told long in
    let is = header_is image c.args.span.wide c.args.span.end c.args.known c.args.used c.args.met.now c.in_ok-header.header header (c.in_ok-header.ensures.says image told long) c.in_ok-header.ensures.wide in
    let told_then = c.look_at_header.ensures.effect.held ∙ told in
    breaks_data image c.args.span.wide c.args.span.end c.args.known c.args.used c.args.met.now c.in_ok-header.header header is (sym c.has_few_children.ensures ∙ c.if-not-has_few_children.false)
    (c.args.used + c.node_length-length.result) (ap (λ k. c.args.used + k) c.node_length-length.ensures) (c.in_ok-behind.ensures.rows image told_then long) c.in_ok-behind.behind c.in_ok-behind.ensures.used
    c.in-Err.halt (c.in-Err.ensures.rows image (c.look_at_children.ensures.effect.held ∙ told_then) long is)

pub returns-in-Ok-clause-rows : goal.returns-in-Ok-clause-rows
returns-in-Ok-clause-rows g c = λ image told long.
    let header = c.in_ok-header.ensures.rows image told long in
    let is = header_is image c.args.span.wide c.args.span.end c.args.known c.args.used c.args.met.now c.in_ok-header.header header (c.in_ok-header.ensures.says image told long) c.in_ok-header.ensures.wide in
    let told_then = c.look_at_header.ensures.effect.held ∙ told in
    keeps_node image c.args.span.wide c.args.span.end c.args.known c.args.used c.args.met.now c.in_ok-header.header header is (sym c.has_few_children.ensures ∙ c.if-not-has_few_children.false)
    (c.args.used + c.node_length-length.result) (ap (λ k. c.args.used + k) c.node_length-length.ensures) (c.in_ok-behind.ensures.rows image told_then long) c.in_ok-behind.behind c.in_ok-behind.ensures.used
    (c.in-Ok.ensures.rows image (c.look_at_children.ensures.effect.held ∙ told_then) long is)

pub returns-in-Ok-clause-leads : goal.returns-in-Ok-clause-leads
returns-in-Ok-clause-leads g c = λ image told long.
    let header = c.in_ok-header.ensures.rows image told long in
    let is = header_is image c.args.span.wide c.args.span.end c.args.known c.args.used c.args.met.now c.in_ok-header.header header (c.in_ok-header.ensures.says image told long) c.in_ok-header.ensures.wide in
    let told_then = c.look_at_children.ensures.effect.held ∙ (c.look_at_header.ensures.effect.held ∙ told) in
    leads_there image c.args.span.wide c.args.met.now.place c.in_ok-header.header is c.args.used (c.args.used + c.node_length-length.result) c.in_ok-behind.behind
    (record { table = c.table_of.result; children = c.in_ok-header.header.children; used = c.in-Ok.used; name = c.in_ok-header.header.name }) (ap (λ t. t.place) c.table_of.ensures.value) refl (ap (λ k. c.args.used + k) c.node_length-length.ensures)
    c.in_ok-behind.ensures.used (c.in-Ok.ensures.used image told_then long is)

pub returns-in-Ok-clause-extents : goal.returns-in-Ok-clause-extents
returns-in-Ok-clause-extents g c = λ image told long.
    let header = c.in_ok-header.ensures.rows image told long in
    let is = header_is image c.args.span.wide c.args.span.end c.args.known c.args.used c.args.met.now c.in_ok-header.header header (c.in_ok-header.ensures.says image told long) c.in_ok-header.ensures.wide in
    let told_then = c.look_at_children.ensures.effect.held ∙ (c.look_at_header.ensures.effect.held ∙ told) in
    extents_added image c.args.span.wide c.args.met.now.place c.in_ok-header.header is c.args.extents.now.items c.add_extent.new.extents.items c.look_at_children.new.extents.items c.look_at_data.new.extents.items
    c.node_length-length.result c.node_length-length.ensures c.in_ok-add_extent.ensures.added c.in_ok-behind.ensures.extents (c.in-Ok.ensures.extents image told_then long is)

pub returns-in-Ok-clause-solid : goal.returns-in-Ok-clause-solid
returns-in-Ok-clause-solid g c =
    c.in-Ok.ensures.solid
    (solid_table c.args.span.end _ c.in_ok-header.header.entries c.add_extent.new.extents.items c.look_at_children.new.extents.items c.in_ok-behind.ensures.fits c.in_ok-behind.ensures.extents
    (solid_node c.args.span.end c.args.met.now.place c.node_length-length.result c.args.span.wide c.args.extents.now.items c.add_extent.new.extents.items c.node_length-length.ensures c.in_ok-header.ensures.fits.1 c.in_ok-add_extent.ensures.added c.requires.solid))

pub returns-in-Ok-clause-adds : goal.returns-in-Ok-clause-adds
returns-in-Ok-clause-adds g c =
    node_added c.args.span.wide c.args.met.now.place c.node_length-length.result _ _ _ c.node_length-length.ensures c.in_ok-add_extent.ensures.added
    (adds_then _ _ _ (adds_more _ _ _ c.in_ok-behind.ensures.extents) c.in-Ok.ensures.adds)

pub returns-in-Ok-clause-named : goal.returns-in-Ok-clause-named
returns-in-Ok-clause-named g c = λ image told long. name_read image c.args.span.wide c.args.met.now.place c.in_ok-header.header (c.in_ok-header.ensures.says image told long)

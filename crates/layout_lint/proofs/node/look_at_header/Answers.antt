use Rattle.std.proofs.Common.{◌∙◌, ap, sym, length}
use Rattle.std.specs.Prelude.{not}
use Rattle.adf_format.specs.Parts.{node_length}
use Rattle.layout_lint.proofs.NodeLaws.{breaks_fits, breaks_new, breaks_room, finds_header, fits_within}
use Rattle.layout_lint.proofs.node.look_at_header.Goals as goal

pub returns-then-not-fits-clause-rows : goal.returns-then-not-fits-clause-rows
returns-then-not-fits-clause-rows g c = λ image told long.
    rw c.halt_at.ensures (breaks_fits image c.args.span.wide c.args.span.end c.args.known c.args.used c.args.met.now (rw c.node_length-length.ensures at (sym c.fits.ensures ∙ c.if-not-fits.true)))

pub returns-then-known-clause-rows : goal.returns-then-known-clause-rows
returns-then-known-clause-rows g c = λ image told long.
    rw c.halt_at-then-known.ensures (breaks_new image c.args.span.wide c.args.span.end c.args.known c.args.used c.args.met.now (rw c.node_length-length.ensures at (sym c.fits.ensures ∙ c.if-not-fits.false)) (ap not c.if-known.true))

pub returns-then-not-has_room-clause-rows : goal.returns-then-not-has_room-clause-rows
returns-then-not-has_room-clause-rows g c = λ image told long.
    rw c.halt_at-then-not-has_room.ensures (breaks_room image c.args.span.wide c.args.span.end c.args.known c.args.used c.args.met.now (rw c.node_length-length.ensures at (sym c.fits.ensures ∙ c.if-not-fits.false)) (ap not c.if-known.false)
    (rw c.node_length-length.ensures at (sym c.has_room.ensures ∙ c.if-not-has_room.true)))

pub returns-then-span-clause-rows : goal.returns-then-span-clause-rows
returns-then-span-clause-rows g c = λ image told long.
    let fit = rw c.node_length-length.ensures at (sym c.fits.ensures ∙ c.if-not-fits.false) in
    let within = fits_within c.args.span.end c.args.met.now.place (node_length c.args.span.wide) (length image) fit long in
    finds_header image c.args.span.wide c.args.span.end c.args.known c.args.used c.args.met.now c.header_at.result fit (ap not c.if-known.false) (rw c.node_length-length.ensures at (sym c.has_room.ensures ∙ c.if-not-has_room.false))
    (rw c.if-span.true (c.header_at.ensures.rows image told (rw c.if-span.true at within)))

pub returns-else-span-clause-rows : goal.returns-else-span-clause-rows
returns-else-span-clause-rows g c = λ image told long.
    let fit = rw c.node_length-length.ensures at (sym c.fits.ensures ∙ c.if-not-fits.false) in
    let within = fits_within c.args.span.end c.args.met.now.place (node_length c.args.span.wide) (length image) fit long in
    finds_header image c.args.span.wide c.args.span.end c.args.known c.args.used c.args.met.now c.header_at-else-span.result fit (ap not c.if-known.false) (rw c.node_length-length.ensures at (sym c.has_room.ensures ∙ c.if-not-has_room.false))
    (rw c.if-span.false (c.header_at-else-span.ensures.rows image told (rw c.if-span.false at within)))

use Rattle.std.proofs.Common.{ap, length, arith, ◌∙◌}
use Rattle.std.proofs.lemmas.Result.{err_from_is_err_and}
use Rattle.session.proofs.Reading.{begun, ended, gone_on, fill_failed, filled, last}
use Rattle.session.proofs.reader.Pieces.next_line.Goals as goal

pub parts-init : goal.parts-init
parts-init g c = record { short = omega (arith, ap length c.clear.ensures.items); reads = begun _ _ _ c.clear.ensures.items; later = omega arith }

pub returns-then-has_ended-clause-found : goal.returns-then-has_ended-clause-found
returns-then-has_ended-clause-found g c = rw c.line_found.ensures (ended _ _ _ _ _ _ _ _ _ _ c.parts.invariant.reads c.in_ok-has_ended.ensures.moved c.if-has_ended.true)

pub returns-in_err-fill-clause-stopped : goal.returns-in_err-fill-clause-stopped
returns-in_err-fill-clause-stopped g c =
    let p = err_from_is_err_and c.from_residual-in_err-fill.result c.from_residual-in_err-fill.ensures.1 in
    rw (p.1, p.2) (fill_failed _ _ _ _ _ _ _ _ _ _ (gone_on _ _ _ _ _ _ _ _ _ _ c.parts.invariant.reads c.in_ok-has_ended.ensures.moved c.if-has_ended.false) (c.in_ok-has_ended.ensures.moved.all c.if-has_ended.false)
    c.in_err-fill.ensures.kept.0 c.in_err-fill.ensures.kept.1 c.in_err-fill.ensures.source c.in_err-fill.ensures.full)

pub returns-then-branch-eq0-clause-found : goal.returns-then-branch-eq0-clause-found
returns-then-branch-eq0-clause-found g c =
    let end = c.in_ok-fill.ensures.end c.if-branch-eq0.true in
    rw (c.last_found.ensures, c.deref.ensures.value)
    (last _ _ _ _ _ _ (filled _ _ _ _ _ _ _ _ _ (gone_on _ _ _ _ _ _ _ _ _ _ c.parts.invariant.reads c.in_ok-has_ended.ensures.moved c.if-has_ended.false) (c.in_ok-has_ended.ensures.moved.all c.if-has_ended.false)
    c.in_ok-fill.ensures.bytes c.in_ok-fill.ensures.count.0 c.in_ok-fill.ensures.count.1)
    (c.in_ok-fill.ensures.count.0 ∙ c.if-branch-eq0.true) end.0 end.1)

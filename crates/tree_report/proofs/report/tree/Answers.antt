use Rattle.std.proofs.Common.{sym, subst, arith, reverse, List}
use Rattle.std.specs.Prelude.{Option, Ok, Err}
use Rattle.adf_model.specs.Slots.{Files, IsTold}
use Rattle.sids_views.specs.Asks.{IsThere}
use Rattle.sids_views.proofs.Gathered.{asks-trans, told_after}
use Rattle.tree_report.specs.declared.stack.Stop.{Stop}
use Rattle.tree_report.specs.Level.{Level}
use Rattle.tree_report.specs.Levels.{IsNext, TakesNext}
use Rattle.tree_report.specs.Lines.{tree_lines}
use Rattle.tree_report.specs.Sights.{tree_in, node_in, AllThere}
use Rattle.tree_report.proofs.SightLaws.{root_there}
use Rattle.tree_report.proofs.ReportLaws.{Told, begins_with, taken_next, went_on, broke_off, ran_out, later_cause_of}
use Rattle.tree_report.proofs.report.tree.Goals as goal

pub visit-requires-clause-stands : goal.visit-requires-clause-stands
visit-requires-clause-stands g c told trees =
    let files = g.C.TreeCalls.files c.args.calls.now in
    let file = c.args.file in (
      subst (λ s. IsThere files (node_in file s)) (sym c.root_stop.ensures.serial) (root_there files file trees c.requires.open_file c.requires.whole),
      subst (λ (fs : List Level). AllThere files file (reverse fs)) (sym c.new-frames.ensures.items) tt,
    )

pub returns-in-Err-clause-lines : goal.returns-in-Err-clause-lines
returns-in-Err-clause-lines g c told =
    let files = g.C.TreeCalls.files c.args.calls.now in
    let file = c.args.file in
    let taken = g.O.Sink.taken c.args.sink.now in
    let frames = c.new-frames.result.items in
    broke_off files file (tree_lines (tree_in files file)) taken taken c.root_stop.result (reverse frames) (reverse c.visit.new.frames.items) c.in-Err.fault (g.O.Sink.taken c.visit.new.sink)
    (begins_with files file c.root_stop.result c.root_stop.ensures.serial c.root_stop.ensures.way frames c.new-frames.ensures.items taken) (c.in-Err.ensures.visits told)

pub nodes-init : goal.nodes-init
nodes-init g c =
    let files = g.C.TreeCalls.files c.args.calls.now in
    let file = c.args.file in
    let taken = g.O.Sink.taken c.args.sink.now in
    let frames = c.new-frames.result.items in
    record {
      ready = c.in-Ok.ensures.ready;
      only = c.in-Ok.ensures.only;
      few = c.in-Ok.ensures.few;
      there = λ told. (c.in-Ok.ensures.visits told).2.0;
      later = c.in-Ok.ensures.sink;
      so = λ told.
          went_on files file (tree_lines (tree_in files file)) taken taken c.root_stop.result (reverse frames) (reverse c.visit.new.frames.items) (g.O.Sink.taken c.visit.new.sink)
          (begins_with files file c.root_stop.result c.root_stop.ensures.serial c.root_stop.ensures.way frames c.new-frames.ensures.items taken) (c.in-Ok.ensures.visits told);
    }

pub returns-in-Err-next-clause-lines : goal.returns-in-Err-next-clause-lines
returns-in-Err-next-clause-lines g c told =
    let files = g.C.TreeCalls.files c.args.calls.now in
    ran_out files c.args.file (tree_lines (tree_in files c.args.file)) (g.O.Sink.taken c.args.sink.now) (g.O.Sink.taken c.nodes.sink) (reverse c.nodes.frames.items) (c.nodes.invariant.so told)

pub returns-in-Err-visit-clause-lines : goal.returns-in-Err-visit-clause-lines
returns-in-Err-visit-clause-lines g c told =
    let files = g.C.TreeCalls.files c.args.calls.now in
    let file = c.args.file in
    let inv = c.nodes.invariant in
    let all = tree_lines (tree_in files file) in
    let taken = g.O.Sink.taken c.args.sink.now in
    let now = g.O.Sink.taken c.nodes.sink in
    let later = g.O.Sink.taken c.visit-in-nodes.new.sink in
    let before = reverse c.nodes.frames.items in
    let after = reverse c.next.new.frames.items in
    let left = reverse c.visit-in-nodes.new.frames.items in
    let stop = c.in-Ok-Some.stop in
    let takes : TakesNext before stop after = subst (λ (o : Option Stop). IsNext before (Ok o) after) c.in-Ok-Some.field-0-is c.in-Ok-Some.ensures.next in
    broke_off files file all taken now stop after left c.in-Err-visit.fault later (taken_next files file all taken now before stop after takes (inv.so told))
    (subst (λ (fs : Files). Told fs file stop after (Err c.in-Err-visit.fault) left now later) inv.only.files_stay (c.in-Err-visit.ensures.visits (told_after _ _ _ _ inv.only told)))

pub returns-in-Err-visit-clause-cause : goal.returns-in-Err-visit-clause-cause
returns-in-Err-visit-clause-cause g c =
    let inv = c.nodes.invariant in
    later_cause_of _ _ _ _ _ _ _ _ c.in-Err-visit.fault inv.only inv.later c.in-Err-visit.ensures.cause

pub nodes-preserved : goal.nodes-preserved
nodes-preserved g c =
    let files = g.C.TreeCalls.files c.args.calls.now in
    let devices = g.C.TreeCalls.devices c.args.calls.now in
    let file = c.args.file in
    let inv = c.nodes.invariant in
    let all = tree_lines (tree_in files file) in
    let taken = g.O.Sink.taken c.args.sink.now in
    let now = g.O.Sink.taken c.nodes.sink in
    let later = g.O.Sink.taken c.visit-in-nodes.new.sink in
    let before = reverse c.nodes.frames.items in
    let after = reverse c.next.new.frames.items in
    let left = reverse c.visit-in-nodes.new.frames.items in
    let stop = c.in-Ok-Some.stop in
    let takes : TakesNext before stop after = subst (λ (o : Option Stop). IsNext before (Ok o) after) c.in-Ok-Some.field-0-is c.in-Ok-Some.ensures.next in
    let tells : IsTold files devices → Told files file stop after (Ok tt) left now later = λ told.
    subst (λ (fs : Files). Told fs file stop after (Ok tt) left now later) inv.only.files_stay (c.in-Ok-visit.ensures.visits (told_after _ _ _ _ inv.only told)) in
    record {
      ready = c.in-Ok-visit.ensures.ready;
      only = asks-trans _ _ _ _ _ _ inv.only c.in-Ok-visit.ensures.only;
      few = c.in-Ok-visit.ensures.few;
      there = λ told. (tells told).2.0;
      later = omega (arith, inv.later, c.in-Ok-visit.ensures.sink);
      so = λ told. went_on files file all taken now stop after left later (taken_next files file all taken now before stop after takes (inv.so told)) (tells told);
    }

pub returns-clause-lines : goal.returns-clause-lines
returns-clause-lines g c told =
    let files = g.C.TreeCalls.files c.args.calls.now in
    ran_out files c.args.file (tree_lines (tree_in files c.args.file)) (g.O.Sink.taken c.args.sink.now) (g.O.Sink.taken c.nodes.sink) (reverse c.nodes.frames.items) (c.nodes.invariant.so told)

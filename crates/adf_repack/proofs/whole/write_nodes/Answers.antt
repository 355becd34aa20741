use Rattle.std.proofs.Common.{◌∙◌, ap, sym, subst, inl, Bool, List, ℕ, Option}
use Rattle.adf_repack.specs.Planning.{IsPlanned, copied_file}
use Rattle.adf_repack.specs.Plans.{BreaksOne}
use Rattle.adf_repack.specs.Repacks.{IsCopied, IsRefused}
use Rattle.adf_repack.specs.Writers.{in_blocks}
use Rattle.adf_repack.proofs.OutcomeLaws.{copied_so}
use Rattle.adf_repack.proofs.NamedLaws.{one_named}
use Rattle.adf_repack.proofs.RefusalLaws.{unplanned_licensed, unplanned_refused, late_left, late_licensed, late_refused, no_count_fell, written_so}
use Rattle.adf_repack.proofs.WritingLaws.{planned_as, broken_as}
use Rattle.adf_repack.proofs.whole.write_nodes.Goals as goal

-- ---- before the first write

pub returns-in-Err-clause-licensed : goal.returns-in-Err-clause-licensed
returns-in-Err-clause-licensed g c =
    unplanned_licensed c.args.wide c.args.to c.args.nodes.now (g.B.Blocks.state c.args.blocks.now) (g.B.Blocks.state c.plan_copy.new.blocks) (g.E.Device.state c.args.device) (g.E.Device.state c.plan_copy.new.device) c.in-Err.error
    c.plan_copy.ensures.asks c.in-Err.ensures.cause

pub returns-in-Err-clause-left : goal.returns-in-Err-clause-left
returns-in-Err-clause-left g c = inl c.plan_copy.ensures.asks

pub returns-in-Err-clause-refused : goal.returns-in-Err-clause-refused
returns-in-Err-clause-refused g c image e tree given width =
    unplanned_refused image c.args.nodes.now tree given c.args.wide c.args.to (g.B.Blocks.state c.args.blocks.now) (g.B.Blocks.state c.plan_copy.new.blocks) (g.E.Device.state c.args.device) (g.E.Device.state c.plan_copy.new.device)
    c.in-Err.error e width c.in-Err.ensures.cause

pub write_planned-requires-clause-planned : goal.write_planned-requires-clause-planned
write_planned-requires-clause-planned g c =
    subst (λ (o : Option (List ℕ)). IsPlanned o c.args.wide c.args.to c.args.nodes.now c.in-Ok.planned) (sym c.plan_copy.ensures.reads.held) c.in-Ok.ensures.planned

pub write_planned-requires-clause-none : goal.write_planned-requires-clause-none
write_planned-requires-clause-none g c bytes told = c.in-Ok.ensures.none bytes (sym c.plan_copy.ensures.asks.held ∙ told)

-- ---- what was written

pub returns-in-Ok-write_planned-clause-written : goal.returns-in-Ok-write_planned-clause-written
returns-in-Ok-write_planned-clause-written g c =
    written_so (g.E.Device.state c.args.device) (g.E.Device.state c.plan_copy.new.device) (g.E.Device.state c.in-Ok-write_planned.packed.device) c.in-Ok.planned.length c.in-Ok-write_planned.packed.end
    c.in-Ok-write_planned.ensures.end c.in-Ok.ensures.asked c.in-Ok-write_planned.ensures.wrote c.in-Ok-write_planned.ensures.effect
    (no_count_fell (g.E.Device.state c.args.device) (g.E.Device.state c.plan_copy.new.device) (g.E.Device.state c.in-Ok-write_planned.packed.device) c.plan_copy.ensures.asks c.in-Ok-write_planned.ensures.counts)

pub returns-in-Ok-write_planned-clause-packed : goal.returns-in-Ok-write_planned-clause-packed
returns-in-Ok-write_planned-clause-packed g c image e tree given width =
    let p = c.in-Ok.planned in
    let last = (g.E.Device.state c.in-Ok-write_planned.packed.device).held in
    let planned = planned_as (g.B.Blocks.state c.args.blocks.now).held c.args.wide c.args.to c.args.nodes.now p image tree e width c.in-Ok.ensures.planned in
    subst (λ (v : Bool). IsCopied v tree last c.in-Ok-write_planned.packed.end) c.in-Ok.ensures.planned.version
    (copied_so image c.args.nodes.now tree given p planned last c.in-Ok-write_planned.packed.end c.in-Ok-write_planned.ensures.end
    (λ bytes told. c.in-Ok-write_planned.ensures.held image (c.plan_copy.ensures.reads.held ∙ e) bytes told
    ∙ ap (λ (w : Bool). in_blocks (copied_file image w c.args.nodes.now p)) (sym width)))

-- ---- while it was written

pub returns-clause-licensed : goal.returns-clause-licensed
returns-clause-licensed g c =
    late_licensed (BreaksOne (g.B.Blocks.state c.plan_copy.new.blocks).held c.args.wide c.args.nodes.now c.in-Ok.planned.plan)
    (g.B.Blocks.state c.args.blocks.now) (g.B.Blocks.state c.plan_copy.new.blocks) (g.B.Blocks.state c.write_planned.new.blocks)
    (g.E.Device.state c.args.device) (g.E.Device.state c.plan_copy.new.device) (g.E.Device.state c.in-Err-write_planned.refused.1) c.in-Err-write_planned.refused.0
    (one_named (g.B.Blocks.state c.plan_copy.new.blocks).held c.args.wide c.args.nodes.now c.in-Ok.planned.plan) c.plan_copy.ensures.reads c.plan_copy.ensures.asks c.in-Err-write_planned.ensures.cause

pub returns-clause-left : goal.returns-clause-left
returns-clause-left g c =
    late_left (BreaksOne (g.B.Blocks.state c.plan_copy.new.blocks).held c.args.wide c.args.nodes.now c.in-Ok.planned.plan) (g.B.Blocks.state c.plan_copy.new.blocks).faults (g.B.Blocks.state c.write_planned.new.blocks).faults
    (g.E.Device.state c.args.device) (g.E.Device.state c.plan_copy.new.device) (g.E.Device.state c.in-Err-write_planned.refused.1) c.in-Err-write_planned.refused.0 c.in-Ok.ensures.none
    (no_count_fell (g.E.Device.state c.args.device) (g.E.Device.state c.plan_copy.new.device) (g.E.Device.state c.in-Err-write_planned.refused.1) c.plan_copy.ensures.asks c.in-Err-write_planned.ensures.fell)
    c.in-Err-write_planned.ensures.cause

pub returns-clause-refused : goal.returns-clause-refused
returns-clause-refused g c image e tree given width =
    let p = c.in-Ok.planned in
    let before = (g.B.Blocks.state c.plan_copy.new.blocks).faults in
    let now = (g.B.Blocks.state c.write_planned.new.blocks).faults in
    let asked = g.E.Device.state c.plan_copy.new.device in
    let last = g.E.Device.state c.in-Err-write_planned.refused.1 in
    let error = c.in-Err-write_planned.refused.0 in
    let planned = planned_as (g.B.Blocks.state c.args.blocks.now).held c.args.wide c.args.to c.args.nodes.now p image tree e width c.in-Ok.ensures.planned in
    subst (λ (v : Bool). IsRefused v tree error) c.in-Ok.ensures.planned.version
    (late_refused image c.args.nodes.now tree given p before now asked last error planned
    (broken_as (g.B.Blocks.state c.plan_copy.new.blocks).held c.args.wide c.args.nodes.now p.plan image tree before now asked last error (c.plan_copy.ensures.reads.held ∙ e) width c.in-Err-write_planned.ensures.cause))

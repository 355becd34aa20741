use Rattle.std.proofs.Common.{◌≡◌, drop}
use Rattle.adf_model.specs.Causes.{OnlyAsks}
use Rattle.adf_model.specs.Slots.{IsTold}
use Rattle.sids_section_rules.specs.Overlaps.{overlaps_in}
use Rattle.sids_section_rules.proofs.overlaps.overlaps_in.Given as goal

-- only questions were asked, and what is left of the children says the same as all of them
abbrev pub invariant-loop-child : goal.invariant-loop-child
invariant-loop-child g l =
    let files = g.C.TreeCalls.files in
    let devices = g.C.TreeCalls.devices in
    record {
      ready : g.C.TreeCalls.is_ready l.calls;
      only : OnlyAsks (files l.fn.calls) (devices l.fn.calls) (devices l.calls) (files l.calls);
      rest : IsTold (files l.fn.calls) (devices l.fn.calls) → overlaps_in (files l.fn.calls) l.node l.range (drop l.child-index l.children) ≡ overlaps_in (files l.fn.calls) l.node l.range l.children;
    }

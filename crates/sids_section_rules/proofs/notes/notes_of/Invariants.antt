use Rattle.std.proofs.Common.{take, drop}
use Rattle.adf_model.specs.Causes.{OnlyAsks}
use Rattle.adf_model.specs.Slots.{IsTold}
use Rattle.sids_section_rules.proofs.NoteLaws.{SoFar}
use Rattle.sids_section_rules.proofs.notes.notes_of.Given as goal

-- only questions were asked, and the notes so far, with those of the children that are left, are all
abbrev pub invariant-loop-child : goal.invariant-loop-child
invariant-loop-child g l =
    let files = g.C.TreeCalls.files in
    let devices = g.C.TreeCalls.devices in
    record {
      ready : g.C.TreeCalls.is_ready l.calls;
      only : OnlyAsks (files l.fn.calls) (devices l.fn.calls) (devices l.calls) (files l.calls);
      found : IsTold (files l.fn.calls) (devices l.fn.calls) → SoFar (files l.fn.calls) l.notes (take l.child-index l.children) (drop l.child-index l.children) l.children;
    }

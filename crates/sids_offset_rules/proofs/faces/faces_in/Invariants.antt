use Rattle.std.proofs.Common.{◌≡◌, ◌++◌, drop}
use Rattle.std.specs.Prelude.{filter_map}
use Rattle.adf_model.specs.Causes.{OnlyAsks}
use Rattle.adf_model.specs.Slots.{IsTold}
use Rattle.sids_offset_rules.specs.Faces.{face_of}
use Rattle.sids_offset_rules.proofs.faces.faces_in.Given as goal

-- only questions were asked, and the ranges so far, with those of the children that are left, are all
abbrev pub invariant-loop-child : goal.invariant-loop-child
invariant-loop-child g l =
    let files = g.C.TreeCalls.files in
    let devices = g.C.TreeCalls.devices in
    record {
      ready : g.C.TreeCalls.is_ready l.calls;
      only : OnlyAsks (files l.fn.calls) (devices l.fn.calls) (devices l.calls) (files l.calls);
      found : IsTold (files l.fn.calls) (devices l.fn.calls) → l.faces.items ++ filter_map (face_of (files l.fn.calls)) (drop l.child-index l.children) ≡ filter_map (face_of (files l.fn.calls)) l.children;
    }

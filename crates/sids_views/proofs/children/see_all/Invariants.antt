use Rattle.std.proofs.Common.{◌≡◌}
use Rattle.std.specs.Prelude.{filter_map}
use Rattle.adf_model.specs.Causes.{OnlyAsks}
use Rattle.adf_model.specs.Slots.{IsTold}
use Rattle.sids_views.specs.Views.{seen_child}
use Rattle.sids_views.proofs.children.see_all.Given as goal

-- only questions were asked, and the children so far are those of the entries so far
abbrev pub invariant-loop-entry : goal.invariant-loop-entry
invariant-loop-entry g l =
    let files = g.C.TreeCalls.files in
    let devices = g.C.TreeCalls.devices in
    record {
      ready : g.C.TreeCalls.is_ready l.calls;
      only : OnlyAsks (files l.fn.calls) (devices l.fn.calls) (devices l.calls) (files l.calls);
      found : IsTold (files l.fn.calls) (devices l.fn.calls) → l.seen.items ≡ filter_map (seen_child (files l.fn.calls)) l.yielded;
    }

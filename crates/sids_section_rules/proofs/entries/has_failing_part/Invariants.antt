use Rattle.std.proofs.Common.{◌≡◌, ◌≤◌, ◌-◌, ◌*◌, [], drop}
use Rattle.std.specs.Prelude.{unwrap_or}
use Rattle.std.specs.List.{list_any}
use Rattle.adf_model.specs.Causes.{OnlyAsks}
use Rattle.adf_model.specs.Slots.{IsTold}
use Rattle.sids_views.specs.Views.{node_there}
use Rattle.sids_readings.specs.Reading.{bytes_of, numbers_of}
use Rattle.sids_section_rules.specs.Entries.{fails}
use Rattle.sids_section_rules.proofs.entries.has_failing_part.Given as goal

-- only questions were asked, and what is left of the numbers says the same as all of them
abbrev pub invariant-loop-first : goal.invariant-loop-first
invariant-loop-first g l =
    let files = g.C.TreeCalls.files in
    let devices = g.C.TreeCalls.devices in
    record {
      ready : g.C.TreeCalls.is_ready l.calls;
      only : OnlyAsks (files l.fn.calls) (devices l.fn.calls) (devices l.calls) (files l.calls);
      within : l.first ≤ l.fn.entries;
      rest : IsTold (files l.fn.calls) (devices l.fn.calls)
          → list_any (fails l.fn.test) (numbers_of l.fn.format l.fn.wide (l.fn.entries - l.first) (drop (l.first * bytes_of l.fn.wide) (unwrap_or (node_there (files l.fn.calls) l.fn.at).bytes [])))
          ≡ list_any (fails l.fn.test) (numbers_of l.fn.format l.fn.wide l.fn.entries (unwrap_or (node_there (files l.fn.calls) l.fn.at).bytes []));
    }

abbrev pub decreases-loop-first : goal.decreases-loop-first
decreases-loop-first g l = l.fn.entries - l.first

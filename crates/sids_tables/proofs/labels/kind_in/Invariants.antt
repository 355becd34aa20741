use Rattle.std.proofs.Common.{◌≡◌, map, drop}
use Rattle.sids_tables.specs.Labels.{kind_in}
use Rattle.sids_tables.proofs.labels.kind_in.Given as goal

-- the entries that are left give the label the kind that all of them give it
abbrev pub invariant-loop-name : goal.invariant-loop-name
invariant-loop-name l =
    kind_in (map (λ entry. (entry.0.now, entry.1)) (drop l.name-index l.table)) l.label
    ≡ kind_in (map (λ entry. (entry.0.now, entry.1)) l.table) l.label

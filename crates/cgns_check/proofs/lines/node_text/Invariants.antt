use Rattle.std.proofs.Common.{◌≡◌, take}
use Rattle.sids_rules.specs.Findings.{printed_lines}
use Rattle.cgns_check.specs.Lines.{node_lines}
use Rattle.cgns_check.proofs.lines.node_text.Given as goal

-- the lines of the rules so far
abbrev pub invariant-loop-number : goal.invariant-loop-number
invariant-loop-number l = l.text.items ≡ printed_lines (node_lines l.path l.note (take l.number-index l.numbers))

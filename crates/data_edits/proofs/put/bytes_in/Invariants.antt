use Rattle.std.proofs.Common.{◌≡◌, ◌*◌, length, take}
use Rattle.strided.specs.RunLists.{spread}
use Rattle.data_edits.proofs.put.bytes_in.Given as goal

-- the bytes so far
abbrev pub invariant-loop-i : goal.invariant-loop-i
invariant-loop-i l = l.total ≡ l.element * length (spread (take l.i l.runs))

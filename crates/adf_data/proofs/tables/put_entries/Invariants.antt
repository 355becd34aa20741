use Rattle.std.proofs.Common.{◌≡◌, ◌++◌, take, map}
use Rattle.adf_format.specs.Spelled.{in_row}
use Rattle.adf_data.specs.Chunks.{parts_of}
use Rattle.adf_data.specs.Growing.{entry_of}
use Rattle.adf_data.proofs.tables.put_entries.Given as goal

abbrev pub invariant-loop-i : goal.invariant-loop-i
invariant-loop-i l = l.text.items ≡ l.fn.text.items ++ in_row (map entry_of (take l.i (parts_of l.chunks)))

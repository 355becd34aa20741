-- What reads of a table leave of a device.
use Rattle.std.proofs.Common.{inl, inr, ℕ, ◌+◌, ◌*◌}
use Rattle.cg_io.proofs.ReadLaws.{few_only}
use Rattle.cg_io.specs.Answers.{OnlyReads}
use Rattle.cg_io.specs.Device.{DeviceState}
use Rattle.node_reads.specs.declared.header.ChildTable.{ChildTable}
use Rattle.node_reads.specs.Entries.{pieces_of}
use Rattle.tree_edits.specs.Listed.{ReadsTable}

pub table_reads : (IsIts : ChildTable → Type 0) (times few : ℕ) (old new : DeviceState) → ReadsTable IsIts times few old new → OnlyReads old new
table_reads IsIts times few old new (inl r) = few_only few old new r
table_reads IsIts times few old new (inr r) = few_only (2 * times * pieces_of r.0.count + few) old new r.2

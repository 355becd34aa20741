use Rattle.std.proofs.Common.{ℕ, ◌++◌, sym, subst}
use Rattle.std.specs.Prelude.{Option, IfErr}
use Rattle.cg_io.specs.Blocks.{Both}
use Rattle.cg_io.specs.Answers.{IsRefusal}
use Rattle.adf_format.specs.Placement.{chunk_table_extents}
use Rattle.adf_format.specs.Changes.{heap_fields}
use Rattle.file_heap.specs.Heap.{ChangesOnly}
use Rattle.adf_data.specs.Sizes.{Ungivable}
use Rattle.adf_data.proofs.ReleaseLaws.{table_bytes, table_cause}
use Rattle.field_access.specs.Fields.{WaitsWhereTold}
use Rattle.adf_data.proofs.WaitLaws.{table_waits}
use Rattle.adf_data.proofs.gifts.give_table.Goals as goal

pub returns-in-Some-clause-bytes : goal.returns-in-Some-clause-bytes
returns-in-Some-clause-bytes g c =
    subst (λ (o : Option ℕ). Both (ChangesOnly (heap_fields ++ chunk_table_extents o c.args.count ++ c.args.heap.now.work.heap.gaps)) (g.S.ReadBytes.image c.args.space.now) (g.S.ReadBytes.image c.give_range.new.space)) (sym c.in-Some.is)
    (table_bytes c.in-Some.place c.args.count c.args.heap.now.work.heap.gaps (g.S.ReadBytes.image c.args.space.now) (g.S.ReadBytes.image c.give_range.new.space) c.give_range.ensures.bytes)

pub returns-in-Some-clause-cause : goal.returns-in-Some-clause-cause
returns-in-Some-clause-cause g c =
    subst (λ (o : Option ℕ). IfErr c.give_range.result (IsRefusal (Ungivable (g.S.ReadBytes.image c.args.space.now) (chunk_table_extents o c.args.count) c.args.heap.now.work.heap) (g.S.ReadBytes.state c.args.space.now).faults (g.S.ReadBytes.state c.give_range.new.space).faults)) (sym c.in-Some.is)
    (table_cause c.give_range.result (g.S.ReadBytes.state c.args.space.now).faults (g.S.ReadBytes.state c.give_range.new.space).faults (g.S.ReadBytes.image c.args.space.now) c.in-Some.place c.args.count c.args.heap.now.work.heap c.give_range.ensures.cause)

pub returns-in-Some-clause-only : goal.returns-in-Some-clause-only
returns-in-Some-clause-only g c =
    subst (λ (o : Option ℕ). WaitsWhereTold (g.S.ReadBytes.image c.args.space.now) (heap_fields ++ chunk_table_extents o c.args.count ++ c.args.heap.now.work.heap.gaps) (g.S.ReadBytes.waiting c.args.space.now) (g.S.ReadBytes.waiting c.give_range.new.space)) (sym c.in-Some.is)
    (table_waits c.in-Some.place c.args.count c.args.heap.now.work.heap.gaps (g.S.ReadBytes.image c.args.space.now) (g.S.ReadBytes.waiting c.args.space.now) (g.S.ReadBytes.waiting c.give_range.new.space) c.give_range.ensures.only)

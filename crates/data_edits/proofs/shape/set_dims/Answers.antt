use Rattle.std.proofs.Common.{sym, ap, subst, arith, refl}
use Rattle.std.specs.Prelude.{IfSome, Err}
use Rattle.adf_model.specs.declared.tree.Edit.{Edit}
use Rattle.cg_io.proofs.ReadLaws.{few_only, only_then}
use Rattle.file_heap.specs.Heap.{IsThreaded}
use Rattle.data_edits.proofs.Causes.{each_one, threaded, node_is_cause}
use Rattle.cg_io.specs.Waits.{how_many}
use Rattle.data_edits.proofs.Costs.{shape_at_most}
use Rattle.data_edits.proofs.Shapes.{few_rank, few_dims, good_dims}
use Rattle.data_edits.proofs.ShapeDone.{of_node, refused_shape, shape_cause, reshape_cause, refused_reshape, write_cause, refused_write, done, may_reshape, moved_cause, moved_exact, moved_both, where_ok, all_refused}
use Rattle.field_access.proofs.WaitLaws.{waits_then}
use Rattle.data_edits.specs.Shaped.{reshaped}
use Rattle.data_edits.proofs.DataWaits.{data_reached, moved_wait}
use Rattle.data_edits.proofs.shape.set_dims.Goals as goal

pub returns-in-Err-clause-refused : goal.returns-in-Err-clause-refused
returns-in-Err-clause-refused g c =
    each_one c.args.core.now c.args.node (Edit.SetDims c.args.node c.args.shape.now) (of_node c.args.node c.args.shape.now) (g.S.ReadBytes.image c.args.space.now) c.in-Err.error c.in-Err.ensures.refused

pub returns-in-Err-clause-effect : goal.returns-in-Err-clause-effect
returns-in-Err-clause-effect g c = few_only 2 _ _ c.in-Err.ensures.reads.effect

pub returns-in-Err-clause-cause : goal.returns-in-Err-clause-cause
returns-in-Err-clause-cause g c = node_is_cause c.args.core.now c.args.node c.args.shape.now (g.S.ReadBytes.image c.args.space.now) _ _ c.in-Err.error c.in-Err.ensures.reads.cause

pub returns-in-Err-check_shape-clause-refused : goal.returns-in-Err-check_shape-clause-refused
returns-in-Err-check_shape-clause-refused g c =
    refused_shape c.args.core.now c.args.node c.args.shape.now c.in-Ok.found.row c.in-Ok.found.header (g.S.ReadBytes.image c.args.space.now) c.in-Ok.ensures.may c.in-Err-check_shape.error c.in-Err-check_shape.ensures.refused

pub returns-in-Err-check_shape-clause-effect : goal.returns-in-Err-check_shape-clause-effect
returns-in-Err-check_shape-clause-effect g c = few_only 2 _ _ c.in-Ok.ensures.reads.effect

pub returns-in-Err-check_shape-clause-cause : goal.returns-in-Err-check_shape-clause-cause
returns-in-Err-check_shape-clause-cause g c =
    shape_cause c.args.core.now c.args.node c.args.shape.now c.in-Ok.found.row c.in-Ok.found.header (g.S.ReadBytes.image c.args.space.now) c.in-Ok.ensures.may _ _ c.in-Err-check_shape.error c.in-Err-check_shape.ensures.refused

pub reshape-requires-clause-threads : goal.reshape-requires-clause-threads
reshape-requires-clause-threads g c = subst (λ held. IfSome held (IsThreaded c.args.core.now.heap.work)) (sym c.in-Ok.ensures.reads.bytes) (threaded c.args.core.now (g.S.ReadBytes.image c.args.space.now) c.requires.means)

pub returns-in-Err-reshape-clause-refused : goal.returns-in-Err-reshape-clause-refused
returns-in-Err-reshape-clause-refused g c =
    let may = may_reshape c.args.core.now c.args.node c.args.shape.now c.in-Ok.found.row c.in-Ok.found.header (g.S.ReadBytes.image c.args.space.now) c.in-Ok.ensures.may c.in-Ok-check_shape.ensures.good c.in-Ok-check_shape.ensures.small in
    refused_reshape c.args.core.now c.args.node c.args.shape.now c.in-Ok.found.row c.in-Ok.found.header (g.S.ReadBytes.image c.args.space.now) may _ _ c.in-Err-reshape.error
    (moved_cause c.args.core.now c.args.shape.now c.in-Ok.found.header (g.S.ReadBytes.image c.args.space.now) (g.S.ReadBytes.image c.find_node.new.bytes) c.in-Ok.ensures.reads.bytes _ _ c.in-Err-reshape.error c.in-Err-reshape.ensures.cause)
    (moved_exact c.args.core.now c.args.shape.now c.in-Ok.found.header (g.S.ReadBytes.image c.args.space.now) (g.S.ReadBytes.image c.find_node.new.bytes) c.in-Ok.ensures.reads.bytes (Err c.in-Err-reshape.error) c.in-Err-reshape.error refl c.in-Err-reshape.ensures.exact)

pub returns-in-Err-reshape-clause-effect : goal.returns-in-Err-reshape-clause-effect
returns-in-Err-reshape-clause-effect g c = only_then _ _ _ (few_only 2 _ _ c.in-Ok.ensures.reads.effect) c.in-Err-reshape.ensures.effect

pub returns-in-Err-reshape-clause-cause : goal.returns-in-Err-reshape-clause-cause
returns-in-Err-reshape-clause-cause g c =
    let may = may_reshape c.args.core.now c.args.node c.args.shape.now c.in-Ok.found.row c.in-Ok.found.header (g.S.ReadBytes.image c.args.space.now) c.in-Ok.ensures.may c.in-Ok-check_shape.ensures.good c.in-Ok-check_shape.ensures.small in
    reshape_cause c.args.core.now c.args.node c.args.shape.now c.in-Ok.found.row c.in-Ok.found.header (g.S.ReadBytes.image c.args.space.now) may _ _ _ c.in-Err-reshape.error (few_only 2 _ _ c.in-Ok.ensures.reads.effect).faults
    (moved_cause c.args.core.now c.args.shape.now c.in-Ok.found.header (g.S.ReadBytes.image c.args.space.now) (g.S.ReadBytes.image c.find_node.new.bytes) c.in-Ok.ensures.reads.bytes _ _ c.in-Err-reshape.error c.in-Err-reshape.ensures.cause)

pub write_shape-requires-clause-few : goal.write_shape-requires-clause-few
write_shape-requires-clause-few g c = few_rank c.args.core.now.wide c.args.shape.now c.in-Ok-check_shape.ensures.good

pub write_shape-requires-clause-fits : goal.write_shape-requires-clause-fits
write_shape-requires-clause-fits g c = good_dims c.args.core.now.wide c.args.shape.now c.in-Ok-check_shape.ensures.good

pub returns-in-Err-write_shape-clause-refused : goal.returns-in-Err-write_shape-clause-refused
returns-in-Err-write_shape-clause-refused g c =
    let may = may_reshape c.args.core.now c.args.node c.args.shape.now c.in-Ok.found.row c.in-Ok.found.header (g.S.ReadBytes.image c.args.space.now) c.in-Ok.ensures.may c.in-Ok-check_shape.ensures.good c.in-Ok-check_shape.ensures.small in
    refused_write c.args.core.now c.args.node c.args.shape.now c.in-Ok.found.row c.in-Ok.found.header (g.S.ReadBytes.image c.args.space.now) may _ _ c.in-Err-write_shape.error c.in-Err-write_shape.ensures.writes.cause

pub returns-in-Err-write_shape-clause-effect : goal.returns-in-Err-write_shape-clause-effect
returns-in-Err-write_shape-clause-effect g c = only_then _ _ _ (only_then _ _ _ (few_only 2 _ _ c.in-Ok.ensures.reads.effect) c.in-Ok-reshape.ensures.effect) (few_only 2 _ _ c.in-Err-write_shape.ensures.writes.effect)

pub returns-in-Err-write_shape-clause-cause : goal.returns-in-Err-write_shape-clause-cause
returns-in-Err-write_shape-clause-cause g c =
    let may = may_reshape c.args.core.now c.args.node c.args.shape.now c.in-Ok.found.row c.in-Ok.found.header (g.S.ReadBytes.image c.args.space.now) c.in-Ok.ensures.may c.in-Ok-check_shape.ensures.good c.in-Ok-check_shape.ensures.small in
    write_cause c.args.core.now c.args.node c.args.shape.now c.in-Ok.found.row c.in-Ok.found.header (g.S.ReadBytes.image c.args.space.now) may _ _ _ c.in-Err-write_shape.error
    (only_then _ _ _ (few_only 2 _ _ c.in-Ok.ensures.reads.effect) c.in-Ok-reshape.ensures.effect).faults c.in-Err-write_shape.ensures.writes.cause

pub returns-clause-done : goal.returns-clause-done
returns-clause-done g c =
    let may = may_reshape c.args.core.now c.args.node c.args.shape.now c.in-Ok.found.row c.in-Ok.found.header (g.S.ReadBytes.image c.args.space.now) c.in-Ok.ensures.may c.in-Ok-check_shape.ensures.good c.in-Ok-check_shape.ensures.small in
    done c.args.core.now c.args.node c.args.shape.now c.in-Ok.found.row c.in-Ok.found.header c.write_chunks.result (record { heap = c.reshape.new.heap; rows = c.args.core.now.rows; wide = c.args.core.now.wide; writable = c.args.core.now.writable })
    c.in-Ok-reshape.at c.reshape.new.heap.work (g.S.ReadBytes.image c.args.space.now) (g.S.ReadBytes.image c.reshape.new.space) (g.S.ReadBytes.image c.write_shape.new.space) (g.S.ReadBytes.image c.write_chunks.new.space) may
    (few_dims c.args.core.now.wide c.args.shape.now c.in-Ok-check_shape.ensures.good) (good_dims c.args.core.now.wide c.args.shape.now c.in-Ok-check_shape.ensures.good)
    (moved_both _ (g.S.ReadBytes.image c.args.space.now) (g.S.ReadBytes.image c.find_node.new.bytes) (g.S.ReadBytes.image c.reshape.new.space) c.in-Ok.ensures.reads.bytes c.in-Ok-reshape.ensures.becomes)
    c.write_chunks.ensures.few c.in-Ok-write_shape.ensures.written c.write_chunks.ensures.written refl refl refl

pub returns-clause-allowed : goal.returns-clause-allowed
returns-clause-allowed g c =
    where_ok c.write_chunks.result _ (c.in-Ok.found.row, c.in-Ok.found.header, may_reshape c.args.core.now c.args.node c.args.shape.now c.in-Ok.found.row c.in-Ok.found.header (g.S.ReadBytes.image c.args.space.now) c.in-Ok.ensures.may c.in-Ok-check_shape.ensures.good c.in-Ok-check_shape.ensures.small)

pub returns-clause-refused : goal.returns-clause-refused
returns-clause-refused g c =
    let may = may_reshape c.args.core.now c.args.node c.args.shape.now c.in-Ok.found.row c.in-Ok.found.header (g.S.ReadBytes.image c.args.space.now) c.in-Ok.ensures.may c.in-Ok-check_shape.ensures.good c.in-Ok-check_shape.ensures.small in
    all_refused c.write_chunks.result _ _ (λ e x. refused_write c.args.core.now c.args.node c.args.shape.now c.in-Ok.found.row c.in-Ok.found.header (g.S.ReadBytes.image c.args.space.now) may _ _ e x) c.write_chunks.ensures.writes.cause

pub returns-clause-effect : goal.returns-clause-effect
returns-clause-effect g c =
    only_then _ _ _ (only_then _ _ _ (only_then _ _ _ (few_only 2 _ _ c.in-Ok.ensures.reads.effect) c.in-Ok-reshape.ensures.effect) (few_only 2 _ _ c.in-Ok-write_shape.ensures.writes.effect)) (few_only 2 _ _ c.write_chunks.ensures.writes.effect)

pub returns-clause-cause : goal.returns-clause-cause
returns-clause-cause g c =
    let may = may_reshape c.args.core.now c.args.node c.args.shape.now c.in-Ok.found.row c.in-Ok.found.header (g.S.ReadBytes.image c.args.space.now) c.in-Ok.ensures.may c.in-Ok-check_shape.ensures.good c.in-Ok-check_shape.ensures.small in
    let before = only_then _ _ _ (only_then _ _ _ (few_only 2 _ _ c.in-Ok.ensures.reads.effect) c.in-Ok-reshape.ensures.effect) (few_only 2 _ _ c.in-Ok-write_shape.ensures.writes.effect) in
    all_refused c.write_chunks.result _ _ (λ e x. write_cause c.args.core.now c.args.node c.args.shape.now c.in-Ok.found.row c.in-Ok.found.header (g.S.ReadBytes.image c.args.space.now) may _ _ _ e before.faults x) c.write_chunks.ensures.writes.cause

pub returns-clause-waits : goal.returns-clause-waits
returns-clause-waits g c =
    let may = may_reshape c.args.core.now c.args.node c.args.shape.now c.in-Ok.found.row c.in-Ok.found.header (g.S.ReadBytes.image c.args.space.now) c.in-Ok.ensures.may c.in-Ok-check_shape.ensures.good c.in-Ok-check_shape.ensures.small in
    where_ok c.write_chunks.result _ (
      c.in-Ok.found.row,
      c.in-Ok.found.header,
      may,
      omega (arith, ap how_many c.in-Ok.ensures.reads.waits, c.in-Ok-reshape.ensures.waits, c.in-Ok-write_shape.ensures.writes.waits, c.write_chunks.ensures.writes.waits),
    )

pub returns-clause-costs : goal.returns-clause-costs
returns-clause-costs g c =
    let may = may_reshape c.args.core.now c.args.node c.args.shape.now c.in-Ok.found.row c.in-Ok.found.header (g.S.ReadBytes.image c.args.space.now) c.in-Ok.ensures.may c.in-Ok-check_shape.ensures.good c.in-Ok-check_shape.ensures.small in
    where_ok c.write_chunks.result _
    (shape_at_most c.args.core.now c.args.node c.args.shape.now c.in-Ok.found.row c.in-Ok.found.header (g.S.ReadBytes.image c.args.space.now) may _ _
    (omega (arith, ap how_many c.in-Ok.ensures.reads.waits, c.in-Ok-reshape.ensures.waits, c.in-Ok-write_shape.ensures.writes.waits, c.write_chunks.ensures.writes.waits)))

pub returns-clause-reached : goal.returns-clause-reached
returns-clause-reached g c =
    let held = g.S.ReadBytes.image c.args.space.now in
    let h = c.in-Ok.found.header in
    where_ok c.write_chunks.result _
    (data_reached c.args.core.now c.args.node c.in-Ok.found.row h (Edit.SetDims c.args.node c.args.shape.now) (λ tree p. refl) (reshaped h c.args.shape.now)
    (record { heap = c.reshape.new.heap; rows = c.args.core.now.rows; wide = c.args.core.now.wide; writable = c.args.core.now.writable }) c.in-Ok-reshape.at c.reshape.new.heap.work refl
    _ _ _ held (g.S.ReadBytes.image c.reshape.new.space) c.in-Ok.ensures.may
    (moved_both _ held (g.S.ReadBytes.image c.find_node.new.bytes) (g.S.ReadBytes.image c.reshape.new.space) c.in-Ok.ensures.reads.bytes c.in-Ok-reshape.ensures.becomes)
    (moved_wait h c.args.core.now.heap.work.heap c.reshape.new.heap.work.heap held (g.S.ReadBytes.image c.find_node.new.bytes) _ _ _ c.in-Ok.ensures.reads.bytes c.in-Ok.ensures.reads.waits c.in-Ok-reshape.ensures.only)
    (waits_then _ _ _ _ c.in-Ok-write_shape.ensures.only c.write_chunks.ensures.only))

use Rattle.std.proofs.Common.{◌*◌, ◌^◌, ◌≤◌, sym, ◌∙◌, ap, subst, arith, refl, length}
use Rattle.std.specs.Prelude.{Err, Ok, IfSome}
use Rattle.cg_io.specs.Waits.{how_many}
use Rattle.cg_io.proofs.ReadLaws.{few_only, only_then}
use Rattle.file_heap.specs.Heap.{IsThreaded}
use Rattle.strided.specs.RunLists.{spread}
use Rattle.tree_asks.proofs.DataReads.{found_fits}
use Rattle.data_edits.specs.Puts.{Part, put_on}
use Rattle.data_edits.proofs.Causes.{threaded}
use Rattle.data_edits.proofs.Costs.{put_at_most}
use Rattle.data_edits.proofs.ShapeDone.{moved_both, where_ok, all_refused}
use Rattle.data_edits.proofs.PutDone.{one_put, data_is_cause, refused_length, length_cause, refused_put, put_cause, refused_write, write_cause, done, moved_put, moved_exact, refused_runs, runs_cause}
use Rattle.data_edits.proofs.PutFacts.{size_is, some_is, fit_said, long_said, part_few, part_fills, part_ends, part_keeps, part_change}
use Rattle.adf_model.specs.declared.tree.Edit.{Edit}
use Rattle.data_edits.proofs.DataWaits.{data_reached, moved_wait}
use Rattle.data_edits.proofs.put.put_part.Goals as goal

pub returns-in-Err-clause-refused : goal.returns-in-Err-clause-refused
returns-in-Err-clause-refused g c =
    one_put c.args.core.now c.args.node (Part.Chosen c.args.selection.now) c.args.bytes.now (g.S.ReadBytes.image c.args.space.now) c.in-Err.error c.in-Err.ensures.refused

pub returns-in-Err-clause-effect : goal.returns-in-Err-clause-effect
returns-in-Err-clause-effect g c =
    few_only 2 _ _ c.in-Err.ensures.reads.effect

pub returns-in-Err-clause-cause : goal.returns-in-Err-clause-cause
returns-in-Err-clause-cause g c =
    data_is_cause c.args.core.now c.args.node (Part.Chosen c.args.selection.now) c.args.bytes.now (g.S.ReadBytes.image c.args.space.now) _ _ c.in-Err.error c.in-Err.ensures.reads.cause

pub returns-in-Err-runs-clause-refused : goal.returns-in-Err-runs-clause-refused
returns-in-Err-runs-clause-refused g c =
    refused_runs c.args.core.now c.args.node c.args.selection.now c.args.bytes.now c.in-Ok.data.found.row c.in-Ok.data.found.header c.in-Ok.data.shape c.in-Ok.ensures.shape (g.S.ReadBytes.image c.args.space.now) c.in-Ok.ensures.may (Err c.in-Err-runs.error) c.in-Err-runs.error refl c.in-Err-runs.ensures.refused c.in-Err-runs.ensures.range

pub returns-in-Err-runs-clause-effect : goal.returns-in-Err-runs-clause-effect
returns-in-Err-runs-clause-effect g c =
    few_only 2 _ _ c.in-Ok.ensures.reads.effect

pub returns-in-Err-runs-clause-cause : goal.returns-in-Err-runs-clause-cause
returns-in-Err-runs-clause-cause g c =
    runs_cause c.args.core.now c.args.node c.args.selection.now c.args.bytes.now c.in-Ok.data.found.row c.in-Ok.data.found.header c.in-Ok.data.shape c.in-Ok.ensures.shape (g.S.ReadBytes.image c.args.space.now) c.in-Ok.ensures.may (Err c.in-Err-runs.error) c.in-Err-runs.error refl c.in-Err-runs.ensures.refused c.in-Err-runs.ensures.range _ _

pub bytes_in-requires : goal.bytes_in-requires
bytes_in-requires g c =
    subst (λ rs. c.element_size-element.result * length (spread rs) ≤ 2 ^ 30) (sym c.items.ensures) (part_few c.args.core.now c.args.node c.args.selection.now c.args.bytes.now (g.S.ReadBytes.image c.args.space.now) c.in-Ok.data.found.row c.in-Ok.data.found.header c.in-Ok.data.shape c.in-Ok.ensures.shape c.element_size-element.result c.element_size-element.ensures c.in-Ok-runs.runs c.in-Ok-runs.ensures.elements (found_fits (Ok c.in-Ok-runs.runs) c.in-Ok-runs.runs _ c.in-Ok-runs.ensures.range refl) c.in-Ok.ensures.may.small)

pub returns-in-Err-check_length-clause-refused : goal.returns-in-Err-check_length-clause-refused
returns-in-Err-check_length-clause-refused g c =
    refused_length c.args.core.now c.args.node (Part.Chosen c.args.selection.now) c.args.bytes.now c.in-Ok.data.found.row c.in-Ok.data.found.header (g.S.ReadBytes.image c.args.space.now) c.in-Ok.ensures.may (fit_said c.args.core.now c.args.node c.args.selection.now c.args.bytes.now (g.S.ReadBytes.image c.args.space.now) c.in-Ok.data.found.row c.in-Ok.data.found.header c.in-Ok.data.shape c.in-Ok.ensures.shape c.element_size-element.result c.element_size-element.ensures c.in-Ok-runs.runs c.in-Ok-runs.ensures.elements (found_fits (Ok c.in-Ok-runs.runs) c.in-Ok-runs.runs _ c.in-Ok-runs.ensures.range refl)) c.bytes_in.result ((c.bytes_in.ensures ∙ ap (λ rs. c.element_size-element.result * length (spread rs)) c.items.ensures) ∙ long_said c.args.core.now c.args.node c.args.selection.now c.args.bytes.now (g.S.ReadBytes.image c.args.space.now) c.in-Ok.data.found.row c.in-Ok.data.found.header c.in-Ok.data.shape c.in-Ok.ensures.shape c.element_size-element.result c.element_size-element.ensures c.in-Ok-runs.runs c.in-Ok-runs.ensures.elements (found_fits (Ok c.in-Ok-runs.runs) c.in-Ok-runs.runs _ c.in-Ok-runs.ensures.range refl)) c.in-Err-check_length.error c.in-Err-check_length.ensures.refused.0 c.in-Err-check_length.ensures.refused.1

pub returns-in-Err-check_length-clause-effect : goal.returns-in-Err-check_length-clause-effect
returns-in-Err-check_length-clause-effect g c =
    few_only 2 _ _ c.in-Ok.ensures.reads.effect

pub returns-in-Err-check_length-clause-cause : goal.returns-in-Err-check_length-clause-cause
returns-in-Err-check_length-clause-cause g c =
    length_cause c.args.core.now c.args.node (Part.Chosen c.args.selection.now) c.args.bytes.now c.in-Ok.data.found.row c.in-Ok.data.found.header (g.S.ReadBytes.image c.args.space.now) c.in-Ok.ensures.may (fit_said c.args.core.now c.args.node c.args.selection.now c.args.bytes.now (g.S.ReadBytes.image c.args.space.now) c.in-Ok.data.found.row c.in-Ok.data.found.header c.in-Ok.data.shape c.in-Ok.ensures.shape c.element_size-element.result c.element_size-element.ensures c.in-Ok-runs.runs c.in-Ok-runs.ensures.elements (found_fits (Ok c.in-Ok-runs.runs) c.in-Ok-runs.runs _ c.in-Ok-runs.ensures.range refl)) c.bytes_in.result ((c.bytes_in.ensures ∙ ap (λ rs. c.element_size-element.result * length (spread rs)) c.items.ensures) ∙ long_said c.args.core.now c.args.node c.args.selection.now c.args.bytes.now (g.S.ReadBytes.image c.args.space.now) c.in-Ok.data.found.row c.in-Ok.data.found.header c.in-Ok.data.shape c.in-Ok.ensures.shape c.element_size-element.result c.element_size-element.ensures c.in-Ok-runs.runs c.in-Ok-runs.ensures.elements (found_fits (Ok c.in-Ok-runs.runs) c.in-Ok-runs.runs _ c.in-Ok-runs.ensures.range refl)) _ _ c.in-Err-check_length.error c.in-Err-check_length.ensures.refused.0 c.in-Err-check_length.ensures.refused.1

pub place_part-requires-clause-size : goal.place_part-requires-clause-size
place_part-requires-clause-size g c =
    size_is c.in-Ok.data.found.header c.in-Ok.data.shape c.in-Ok.ensures.shape c.in-Ok.ensures.may.small c.size-size.result c.size-size.ensures

pub place_part-requires-clause-some : goal.place_part-requires-clause-some
place_part-requires-clause-some g c =
    some_is c.in-Ok.data.found.header c.in-Ok.data.shape c.in-Ok.ensures.shape c.in-Ok.ensures.may.small c.size-size.result c.size-size.ensures c.in-Ok.ensures.may.filled c.in-Ok.ensures.good

pub place_part-requires-clause-small : goal.place_part-requires-clause-small
place_part-requires-clause-small g c =
    let e = (size_is c.in-Ok.data.found.header c.in-Ok.data.shape c.in-Ok.ensures.shape c.in-Ok.ensures.may.small c.size-size.result c.size-size.ensures) in let few = c.in-Ok.ensures.may.small in omega (arith, e, few)

pub place_part-requires-clause-ends : goal.place_part-requires-clause-ends
place_part-requires-clause-ends g c =
    part_ends c.args.core.now c.args.node c.args.selection.now c.args.bytes.now (g.S.ReadBytes.image c.args.space.now) c.in-Ok.data.found.row c.in-Ok.data.found.header c.in-Ok.data.shape c.in-Ok.ensures.shape c.size-size.result (size_is c.in-Ok.data.found.header c.in-Ok.data.shape c.in-Ok.ensures.shape c.in-Ok.ensures.may.small c.size-size.result c.size-size.ensures) c.element_size-element.result c.element_size-element.ensures c.in-Ok-runs.runs c.in-Ok-runs.ensures.elements (found_fits (Ok c.in-Ok-runs.runs) c.in-Ok-runs.runs _ c.in-Ok-runs.ensures.range refl) (c.in-Ok-check_length.ensures.same ∙ (c.bytes_in.ensures ∙ ap (λ rs. c.element_size-element.result * length (spread rs)) c.items.ensures)) c.in-Ok-runs.ensures.within

pub place_part-requires-clause-bytes : goal.place_part-requires-clause-bytes
place_part-requires-clause-bytes g c =
    c.in-Ok-check_length.ensures.same ∙ (c.bytes_in.ensures ∙ ap (λ rs. c.element_size-element.result * length (spread rs)) c.items.ensures)

pub place_part-requires-clause-long : goal.place_part-requires-clause-long
place_part-requires-clause-long g c =
    part_keeps c.args.core.now c.args.node c.args.selection.now c.args.bytes.now (g.S.ReadBytes.image c.args.space.now) c.in-Ok.data.found.row c.in-Ok.data.found.header c.in-Ok.data.shape c.in-Ok.ensures.shape c.size-size.result (size_is c.in-Ok.data.found.header c.in-Ok.data.shape c.in-Ok.ensures.shape c.in-Ok.ensures.may.small c.size-size.result c.size-size.ensures) c.element_size-element.result c.element_size-element.ensures c.in-Ok-runs.runs c.in-Ok-runs.ensures.elements (found_fits (Ok c.in-Ok-runs.runs) c.in-Ok-runs.runs _ c.in-Ok-runs.ensures.range refl) (c.in-Ok-check_length.ensures.same ∙ (c.bytes_in.ensures ∙ ap (λ rs. c.element_size-element.result * length (spread rs)) c.items.ensures))

pub place_part-requires-clause-threads : goal.place_part-requires-clause-threads
place_part-requires-clause-threads g c =
    subst (λ held. IfSome held (IsThreaded c.args.core.now.heap.work)) (sym c.in-Ok.ensures.reads.bytes) (threaded c.args.core.now (g.S.ReadBytes.image c.args.space.now) c.requires.means)

pub returns-in-Err-place_part-clause-refused : goal.returns-in-Err-place_part-clause-refused
returns-in-Err-place_part-clause-refused g c =
    refused_put c.args.core.now c.args.node (Part.Chosen c.args.selection.now) c.args.bytes.now c.in-Ok.data.found.row c.in-Ok.data.found.header (put_on c.size-size.result c.element_size-element.result (spread c.in-Ok-runs.runs) c.args.bytes.now) (part_change c.args.core.now c.args.node c.args.selection.now c.args.bytes.now (g.S.ReadBytes.image c.args.space.now) c.in-Ok.data.found.row c.in-Ok.data.found.header c.in-Ok.data.shape c.in-Ok.ensures.shape c.size-size.result (size_is c.in-Ok.data.found.header c.in-Ok.data.shape c.in-Ok.ensures.shape c.in-Ok.ensures.may.small c.size-size.result c.size-size.ensures) c.element_size-element.result c.element_size-element.ensures c.in-Ok-runs.runs c.in-Ok-runs.ensures.elements (found_fits (Ok c.in-Ok-runs.runs) c.in-Ok-runs.runs _ c.in-Ok-runs.ensures.range refl) (c.in-Ok-check_length.ensures.same ∙ (c.bytes_in.ensures ∙ ap (λ rs. c.element_size-element.result * length (spread rs)) c.items.ensures))) (g.S.ReadBytes.image c.args.space.now) (part_fills c.args.core.now c.args.node c.args.selection.now c.args.bytes.now (g.S.ReadBytes.image c.args.space.now) c.in-Ok.data.found.row c.in-Ok.data.found.header c.in-Ok.data.shape c.in-Ok.ensures.shape c.size-size.result (size_is c.in-Ok.data.found.header c.in-Ok.data.shape c.in-Ok.ensures.shape c.in-Ok.ensures.may.small c.size-size.result c.size-size.ensures) c.element_size-element.result c.element_size-element.ensures c.in-Ok-runs.runs c.in-Ok-runs.ensures.elements (found_fits (Ok c.in-Ok-runs.runs) c.in-Ok-runs.runs _ c.in-Ok-runs.ensures.range refl) (c.in-Ok-check_length.ensures.same ∙ (c.bytes_in.ensures ∙ ap (λ rs. c.element_size-element.result * length (spread rs)) c.items.ensures)) c.in-Ok.ensures.may) _ _ c.in-Err-place_part.error
    (moved_put c.args.core.now c.in-Ok.data.found.header (g.S.ReadBytes.image c.args.space.now) (g.S.ReadBytes.image c.find_data.new.bytes) c.in-Ok.ensures.reads.bytes _ _ c.in-Err-place_part.error c.in-Err-place_part.ensures.cause)
    (moved_exact c.args.core.now (put_on c.size-size.result c.element_size-element.result (spread c.in-Ok-runs.runs) c.args.bytes.now) c.in-Ok.data.found.header (g.S.ReadBytes.image c.args.space.now) (g.S.ReadBytes.image c.find_data.new.bytes) c.in-Ok.ensures.reads.bytes (Err c.in-Err-place_part.error) c.in-Err-place_part.error refl c.in-Err-place_part.ensures.exact)

pub returns-in-Err-place_part-clause-effect : goal.returns-in-Err-place_part-clause-effect
returns-in-Err-place_part-clause-effect g c =
    only_then _ _ _ (few_only 2 _ _ c.in-Ok.ensures.reads.effect) c.in-Err-place_part.ensures.effect

pub returns-in-Err-place_part-clause-cause : goal.returns-in-Err-place_part-clause-cause
returns-in-Err-place_part-clause-cause g c =
    put_cause c.args.core.now c.args.node (Part.Chosen c.args.selection.now) c.args.bytes.now c.in-Ok.data.found.row c.in-Ok.data.found.header (g.S.ReadBytes.image c.args.space.now) (part_fills c.args.core.now c.args.node c.args.selection.now c.args.bytes.now (g.S.ReadBytes.image c.args.space.now) c.in-Ok.data.found.row c.in-Ok.data.found.header c.in-Ok.data.shape c.in-Ok.ensures.shape c.size-size.result (size_is c.in-Ok.data.found.header c.in-Ok.data.shape c.in-Ok.ensures.shape c.in-Ok.ensures.may.small c.size-size.result c.size-size.ensures) c.element_size-element.result c.element_size-element.ensures c.in-Ok-runs.runs c.in-Ok-runs.ensures.elements (found_fits (Ok c.in-Ok-runs.runs) c.in-Ok-runs.runs _ c.in-Ok-runs.ensures.range refl) (c.in-Ok-check_length.ensures.same ∙ (c.bytes_in.ensures ∙ ap (λ rs. c.element_size-element.result * length (spread rs)) c.items.ensures)) c.in-Ok.ensures.may) _ _ _ c.in-Err-place_part.error (few_only 2 _ _ c.in-Ok.ensures.reads.effect).faults
    (moved_put c.args.core.now c.in-Ok.data.found.header (g.S.ReadBytes.image c.args.space.now) (g.S.ReadBytes.image c.find_data.new.bytes) c.in-Ok.ensures.reads.bytes _ _ c.in-Err-place_part.error c.in-Err-place_part.ensures.cause)

pub returns-clause-done : goal.returns-clause-done
returns-clause-done g c =
    done c.args.core.now c.args.node (Part.Chosen c.args.selection.now) c.args.bytes.now c.in-Ok.data.found.row c.in-Ok.data.found.header (put_on c.size-size.result c.element_size-element.result (spread c.in-Ok-runs.runs) c.args.bytes.now) (part_change c.args.core.now c.args.node c.args.selection.now c.args.bytes.now (g.S.ReadBytes.image c.args.space.now) c.in-Ok.data.found.row c.in-Ok.data.found.header c.in-Ok.data.shape c.in-Ok.ensures.shape c.size-size.result (size_is c.in-Ok.data.found.header c.in-Ok.data.shape c.in-Ok.ensures.shape c.in-Ok.ensures.may.small c.size-size.result c.size-size.ensures) c.element_size-element.result c.element_size-element.ensures c.in-Ok-runs.runs c.in-Ok-runs.ensures.elements (found_fits (Ok c.in-Ok-runs.runs) c.in-Ok-runs.runs _ c.in-Ok-runs.ensures.range refl) (c.in-Ok-check_length.ensures.same ∙ (c.bytes_in.ensures ∙ ap (λ rs. c.element_size-element.result * length (spread rs)) c.items.ensures))) c.write_chunks.result (record { heap = c.place_part.new.heap; rows = c.args.core.now.rows; wide = c.args.core.now.wide; writable = c.args.core.now.writable })
    c.in-Ok-place_part.at c.place_part.new.heap.work (g.S.ReadBytes.image c.args.space.now) (g.S.ReadBytes.image c.place_part.new.space) (g.S.ReadBytes.image c.write_chunks.new.space) (part_fills c.args.core.now c.args.node c.args.selection.now c.args.bytes.now (g.S.ReadBytes.image c.args.space.now) c.in-Ok.data.found.row c.in-Ok.data.found.header c.in-Ok.data.shape c.in-Ok.ensures.shape c.size-size.result (size_is c.in-Ok.data.found.header c.in-Ok.data.shape c.in-Ok.ensures.shape c.in-Ok.ensures.may.small c.size-size.result c.size-size.ensures) c.element_size-element.result c.element_size-element.ensures c.in-Ok-runs.runs c.in-Ok-runs.ensures.elements (found_fits (Ok c.in-Ok-runs.runs) c.in-Ok-runs.runs _ c.in-Ok-runs.ensures.range refl) (c.in-Ok-check_length.ensures.same ∙ (c.bytes_in.ensures ∙ ap (λ rs. c.element_size-element.result * length (spread rs)) c.items.ensures)) c.in-Ok.ensures.may)
    (moved_both _ (g.S.ReadBytes.image c.args.space.now) (g.S.ReadBytes.image c.find_data.new.bytes) (g.S.ReadBytes.image c.place_part.new.space) c.in-Ok.ensures.reads.bytes c.in-Ok-place_part.ensures.becomes)
    c.write_chunks.ensures.few c.write_chunks.ensures.written refl refl refl

pub returns-clause-allowed : goal.returns-clause-allowed
returns-clause-allowed g c =
    where_ok c.write_chunks.result _ (c.in-Ok.data.found.row, c.in-Ok.data.found.header, part_fills c.args.core.now c.args.node c.args.selection.now c.args.bytes.now (g.S.ReadBytes.image c.args.space.now) c.in-Ok.data.found.row c.in-Ok.data.found.header c.in-Ok.data.shape c.in-Ok.ensures.shape c.size-size.result (size_is c.in-Ok.data.found.header c.in-Ok.data.shape c.in-Ok.ensures.shape c.in-Ok.ensures.may.small c.size-size.result c.size-size.ensures) c.element_size-element.result c.element_size-element.ensures c.in-Ok-runs.runs c.in-Ok-runs.ensures.elements (found_fits (Ok c.in-Ok-runs.runs) c.in-Ok-runs.runs _ c.in-Ok-runs.ensures.range refl) (c.in-Ok-check_length.ensures.same ∙ (c.bytes_in.ensures ∙ ap (λ rs. c.element_size-element.result * length (spread rs)) c.items.ensures)) c.in-Ok.ensures.may)

pub returns-clause-refused : goal.returns-clause-refused
returns-clause-refused g c =
    all_refused c.write_chunks.result _ _ (λ e x. refused_write c.args.core.now c.args.node (Part.Chosen c.args.selection.now) c.args.bytes.now c.in-Ok.data.found.row c.in-Ok.data.found.header (g.S.ReadBytes.image c.args.space.now) (part_fills c.args.core.now c.args.node c.args.selection.now c.args.bytes.now (g.S.ReadBytes.image c.args.space.now) c.in-Ok.data.found.row c.in-Ok.data.found.header c.in-Ok.data.shape c.in-Ok.ensures.shape c.size-size.result (size_is c.in-Ok.data.found.header c.in-Ok.data.shape c.in-Ok.ensures.shape c.in-Ok.ensures.may.small c.size-size.result c.size-size.ensures) c.element_size-element.result c.element_size-element.ensures c.in-Ok-runs.runs c.in-Ok-runs.ensures.elements (found_fits (Ok c.in-Ok-runs.runs) c.in-Ok-runs.runs _ c.in-Ok-runs.ensures.range refl) (c.in-Ok-check_length.ensures.same ∙ (c.bytes_in.ensures ∙ ap (λ rs. c.element_size-element.result * length (spread rs)) c.items.ensures)) c.in-Ok.ensures.may) _ _ e x) c.write_chunks.ensures.writes.cause

pub returns-clause-effect : goal.returns-clause-effect
returns-clause-effect g c =
    only_then _ _ _ (only_then _ _ _ (few_only 2 _ _ c.in-Ok.ensures.reads.effect) c.in-Ok-place_part.ensures.effect) (few_only 2 _ _ c.write_chunks.ensures.writes.effect)

pub returns-clause-waits : goal.returns-clause-waits
returns-clause-waits g c =
    where_ok c.write_chunks.result _ (c.in-Ok.data.found.row, c.in-Ok.data.found.header, part_fills c.args.core.now c.args.node c.args.selection.now c.args.bytes.now (g.S.ReadBytes.image c.args.space.now) c.in-Ok.data.found.row c.in-Ok.data.found.header c.in-Ok.data.shape c.in-Ok.ensures.shape c.size-size.result (size_is c.in-Ok.data.found.header c.in-Ok.data.shape c.in-Ok.ensures.shape c.in-Ok.ensures.may.small c.size-size.result c.size-size.ensures) c.element_size-element.result c.element_size-element.ensures c.in-Ok-runs.runs c.in-Ok-runs.ensures.elements (found_fits (Ok c.in-Ok-runs.runs) c.in-Ok-runs.runs _ c.in-Ok-runs.ensures.range refl) (c.in-Ok-check_length.ensures.same ∙ (c.bytes_in.ensures ∙ ap (λ rs. c.element_size-element.result * length (spread rs)) c.items.ensures)) c.in-Ok.ensures.may, omega (arith, ap how_many c.in-Ok.ensures.reads.waits, c.in-Ok-place_part.ensures.waits, c.write_chunks.ensures.writes.waits))

pub returns-clause-costs : goal.returns-clause-costs
returns-clause-costs g c =
    where_ok c.write_chunks.result _ (put_at_most c.args.core.now c.args.node (Part.Chosen c.args.selection.now) c.args.bytes.now c.in-Ok.data.found.row c.in-Ok.data.found.header (g.S.ReadBytes.image c.args.space.now) (part_fills c.args.core.now c.args.node c.args.selection.now c.args.bytes.now (g.S.ReadBytes.image c.args.space.now) c.in-Ok.data.found.row c.in-Ok.data.found.header c.in-Ok.data.shape c.in-Ok.ensures.shape c.size-size.result (size_is c.in-Ok.data.found.header c.in-Ok.data.shape c.in-Ok.ensures.shape c.in-Ok.ensures.may.small c.size-size.result c.size-size.ensures) c.element_size-element.result c.element_size-element.ensures c.in-Ok-runs.runs c.in-Ok-runs.ensures.elements (found_fits (Ok c.in-Ok-runs.runs) c.in-Ok-runs.runs _ c.in-Ok-runs.ensures.range refl) (c.in-Ok-check_length.ensures.same ∙ (c.bytes_in.ensures ∙ ap (λ rs. c.element_size-element.result * length (spread rs)) c.items.ensures)) c.in-Ok.ensures.may) _ _ (omega (arith, ap how_many c.in-Ok.ensures.reads.waits, c.in-Ok-place_part.ensures.waits, c.write_chunks.ensures.writes.waits)))

pub returns-clause-cause : goal.returns-clause-cause
returns-clause-cause g c =
    all_refused c.write_chunks.result _ _ (λ e x. write_cause c.args.core.now c.args.node (Part.Chosen c.args.selection.now) c.args.bytes.now c.in-Ok.data.found.row c.in-Ok.data.found.header (g.S.ReadBytes.image c.args.space.now) (part_fills c.args.core.now c.args.node c.args.selection.now c.args.bytes.now (g.S.ReadBytes.image c.args.space.now) c.in-Ok.data.found.row c.in-Ok.data.found.header c.in-Ok.data.shape c.in-Ok.ensures.shape c.size-size.result (size_is c.in-Ok.data.found.header c.in-Ok.data.shape c.in-Ok.ensures.shape c.in-Ok.ensures.may.small c.size-size.result c.size-size.ensures) c.element_size-element.result c.element_size-element.ensures c.in-Ok-runs.runs c.in-Ok-runs.ensures.elements (found_fits (Ok c.in-Ok-runs.runs) c.in-Ok-runs.runs _ c.in-Ok-runs.ensures.range refl) (c.in-Ok-check_length.ensures.same ∙ (c.bytes_in.ensures ∙ ap (λ rs. c.element_size-element.result * length (spread rs)) c.items.ensures)) c.in-Ok.ensures.may) _ _ _ e (only_then _ _ _ (few_only 2 _ _ c.in-Ok.ensures.reads.effect) c.in-Ok-place_part.ensures.effect).faults x) c.write_chunks.ensures.writes.cause

pub returns-clause-reached : goal.returns-clause-reached
returns-clause-reached g c =
    let held = g.S.ReadBytes.image c.args.space.now in
    let h = c.in-Ok.data.found.header in
    where_ok c.write_chunks.result _
    (data_reached c.args.core.now c.args.node c.in-Ok.data.found.row h (Edit.PutPart c.args.node c.args.selection.now c.args.bytes.now) (λ tree p. refl) (put_on c.size-size.result c.element_size-element.result (spread c.in-Ok-runs.runs) c.args.bytes.now)
    (record { heap = c.place_part.new.heap; rows = c.args.core.now.rows; wide = c.args.core.now.wide; writable = c.args.core.now.writable }) c.in-Ok-place_part.at c.place_part.new.heap.work refl
    _ _ _ held (g.S.ReadBytes.image c.place_part.new.space) c.in-Ok.ensures.may.may
    (moved_both _ held (g.S.ReadBytes.image c.find_data.new.bytes) (g.S.ReadBytes.image c.place_part.new.space) c.in-Ok.ensures.reads.bytes c.in-Ok-place_part.ensures.becomes)
    (moved_wait h c.args.core.now.heap.work.heap c.place_part.new.heap.work.heap held (g.S.ReadBytes.image c.find_data.new.bytes) _ _ _ c.in-Ok.ensures.reads.bytes c.in-Ok.ensures.reads.waits c.in-Ok-place_part.ensures.only)
    c.write_chunks.ensures.only)

use Rattle.std.proofs.Common.{◌∙◌, refl}
use Rattle.layout_lint.proofs.RowSteps.{row_kept, row_broken, no_value, some_value}
use Rattle.layout_lint.proofs.ChunkLaws.{chunk_entry_said}
use Rattle.layout_lint.proofs.chunks.look_at_chunk_entry.Goals as goal

pub returns-in-None-clause-rows : goal.returns-in-None-clause-rows
returns-in-None-clause-rows g c = λ image told within.
    rw c.halt_at.ensures (row_broken 25 c.args.at _ (no_value _ _ _ (c.in-None.ensures.said ∙ chunk_entry_said image c.args.at c.in_ok-bytes.bytes (c.in_ok-bytes.ensures.told image told within)) refl))

pub returns-in-Some-clause-rows : goal.returns-in-Some-clause-rows
returns-in-Some-clause-rows g c = λ image told within.
    row_kept 25 c.args.at _ (some_value _ _ _ _ (c.in-Some.ensures.said ∙ chunk_entry_said image c.args.at c.in_ok-bytes.bytes (c.in_ok-bytes.ensures.told image told within)) refl).0

pub returns-in-Some-clause-says : goal.returns-in-Some-clause-says
returns-in-Some-clause-says g c = λ image told within.
    (some_value _ _ _ _ (c.in-Some.ensures.said ∙ chunk_entry_said image c.args.at c.in_ok-bytes.bytes (c.in_ok-bytes.ensures.told image told within)) refl).1

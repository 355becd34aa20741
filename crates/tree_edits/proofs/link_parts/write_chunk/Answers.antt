use Rattle.std.proofs.Common.{◌≡◌, ◌∙◌, ap, subst, length, List, ℕ}
use Rattle.std.specs.Prelude.{OnOk}
use Rattle.adf_format.specs.HeapRule.{chunk_length_for}
use Rattle.cg_io.specs.Blocks.{Both}
use Rattle.tree_edits.specs.Linked.{chunk_text}
use Rattle.tree_edits.specs.Taken.{FillsWith}
use Rattle.tree_edits.proofs.LinkTexts.{length-chunk_text}
use Rattle.tree_edits.proofs.PutTwice.{fill_once}
use Rattle.tree_edits.proofs.Causes.{where_ok}
use Rattle.tree_edits.proofs.WaitSteps.{waits_long}
use Rattle.tree_edits.proofs.link_parts.write_chunk.Goals as goal

pub returns-clause-written : goal.returns-clause-written
returns-clause-written g c =
    let is : c.deref.result.now ≡ chunk_text c.args.place c.args.text.now = c.deref.ensures.value ∙ c.in-Ok.ensures.text in
    subst (λ (t : List ℕ). OnOk c.write_field.result (Both (FillsWith c.args.place (chunk_length_for (length c.args.text.now)) t) (g.S.ReadBytes.image c.args.space.now) (g.S.ReadBytes.image c.write_field.new.space))) is
    (fill_once c.write_field.result c.args.place (chunk_length_for (length c.args.text.now)) c.deref.result.now (g.S.ReadBytes.image c.args.space.now) (g.S.ReadBytes.image c.write_field.new.space) (ap length is ∙ length-chunk_text c.args.place c.args.text.now) c.write_field.ensures.written c.write_field.ensures.bytes)

pub returns-clause-waits : goal.returns-clause-waits
returns-clause-waits g c =
    let is : c.deref.result.now ≡ chunk_text c.args.place c.args.text.now = c.deref.ensures.value ∙ c.in-Ok.ensures.text in
    where_ok c.write_field.result _ (waits_long c.args.place (length c.deref.result.now) (chunk_length_for (length c.args.text.now)) _ _ (ap length is ∙ length-chunk_text c.args.place c.args.text.now) c.write_field.ensures.only)

use Rattle.std.proofs.Common.{sym, ◌∙◌}
use Rattle.std.proofs.lemmas.Result.{IfOk-weaker}
use Rattle.data_edits.specs.Shaped.{LacksSize}
use Rattle.data_edits.proofs.Costs.{small_pays}
use Rattle.data_edits.proofs.Reshaping.{asks_no_room, few_bytes, never_full, some_size, stays_filled}
use Rattle.data_edits.proofs.ShapeDone.{where_ok}
use Rattle.data_edits.proofs.shape.reshape.Goals as goal

pub returns-then-not-keeps-clause-becomes : goal.returns-then-not-keeps-clause-becomes
returns-then-not-keeps-clause-becomes g c = IfOk-weaker c.release_data.result _ _ (λ now x. x c.args.shape.now (sym c.keeps.ensures ∙ c.if-not-keeps.true)) c.release_data.ensures.becomes

pub returns-then-not-keeps-clause-exact : goal.returns-then-not-keeps-clause-exact
returns-then-not-keeps-clause-exact g c = λ asked end is. absurd (never_full _ c.release_data.result _ _ c.release_data.ensures.cause asked end is)

pub returns-then-not-keeps-clause-waits : goal.returns-then-not-keeps-clause-waits
returns-then-not-keeps-clause-waits g c = where_ok c.release_data.result _ (small_pays c.args.found.now.header c.args.shape.now _ _ c.release_data.ensures.waits)

pub returns-then-not-keeps-clause-cause : goal.returns-then-not-keeps-clause-cause
returns-then-not-keeps-clause-cause g c =
    asks_no_room (LacksSize c.args.heap.now.limit c.args.found.now.header c.args.shape.now c.args.heap.now.work.heap) _ c.release_data.result _ _ c.release_data.ensures.cause

pub resize_data-requires-clause-some : goal.resize_data-requires-clause-some
resize_data-requires-clause-some g c =
    some_size c.args.wide c.args.shape.now c.requires.good
    (stays_filled c.args.found.now.header c.args.shape.now (sym c.keeps.ensures ∙ c.if-not-keeps.false) (sym c.is_empty.ensures ∙ c.if-is_empty.false))

pub resize_data-requires-clause-small : goal.resize_data-requires-clause-small
resize_data-requires-clause-small g c = few_bytes c.args.wide c.args.found.now.header c.args.shape.now (sym c.keeps.ensures ∙ c.if-not-keeps.false) c.requires.small

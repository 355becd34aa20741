use Rattle.std.proofs.Common.{ap}
use Rattle.adf_model.specs.Steps.{Stored}
use Rattle.adf_model.specs.declared.error.AdfError.TheVariants as error
use Rattle.block_cache.specs.Cache.{device_in}
use Rattle.cg_io.proofs.ReadLaws.{few_only}
use Rattle.adf_tree.proofs.OpenedFile.{done_later, lint_refused, refusal_later, refused_with, shape_of, unsound_refused, verdict_of}
use Rattle.adf_tree.proofs.OpenedReads.{bound_later, linted_within}
use Rattle.adf_tree.proofs.opening.open_stored.Goals as goal

pub opened-requires-clause-shape : goal.opened-requires-clause-shape
opened-requires-clause-shape g c = shape_of c.in-Ok.verdict _ _ _ _ _ c.in-Sound.is c.in-Ok.ensures.shape

pub opened-requires-clause-verdict : goal.opened-requires-clause-verdict
opened-requires-clause-verdict g c =
    let state = g.D.Device.state in
    verdict_of c.in-Ok.verdict _ _ _ _ _ c.in-Sound.is (state (device_in c.args.cache)).held (state (device_in c.lint.new.blocks)).held c.lint.ensures.effect.held c.in-Ok.ensures.verdict

pub returns-in-Sound-clause-opened : goal.returns-in-Sound-clause-opened
returns-in-Sound-clause-opened g c =
    let state = g.D.Device.state in
    done_later state c.args.writable c.args.limit (state (device_in c.args.cache)) (state (device_in c.lint.new.blocks)) (few_only _ _ _ c.lint.ensures.effect) c.opened.result
    c.lint.ensures.few c.opened.ensures.opened c.opened.ensures.few

pub returns-in-Sound-clause-refused : goal.returns-in-Sound-clause-refused
returns-in-Sound-clause-refused g c =
    let state = g.D.Device.state in
    refusal_later state c.args.writable c.args.limit (state (device_in c.args.cache)) (state (device_in c.lint.new.blocks)) (few_only _ _ _ c.lint.ensures.effect) c.opened.result
    c.opened.ensures.refused

pub returns-in-Unsound-clause-refused : goal.returns-in-Unsound-clause-refused
returns-in-Unsound-clause-refused g c =
    let state = g.D.Device.state in
    let old = state (device_in c.args.cache) in
    let new = state (device_in c.lint.new.blocks) in
    refused_with (Stored c.args.writable) old new _ (error.Layout c.in-Unsound.rule c.in-Unsound.place) _ (ap state c.refused-in-Unsound.ensures.device) c.refused-in-Unsound.ensures.error
    (unsound_refused c.args.writable old new c.in-Ok.verdict _ _ c.in-Unsound.is c.in-Ok.ensures.rule (few_only _ _ _ c.lint.ensures.effect) c.in-Ok.ensures.verdict)

pub returns-in-Err-clause-refused : goal.returns-in-Err-clause-refused
returns-in-Err-clause-refused g c =
    let state = g.D.Device.state in
    let old = state (device_in c.args.cache) in
    let new = state (device_in c.lint.new.blocks) in
    refused_with (Stored c.args.writable) old new _ c.in-Err.error _ (ap state c.refused.ensures.device) c.refused.ensures.error
    (lint_refused c.args.writable old new c.in-Err.error (few_only _ _ _ c.lint.ensures.effect) c.in-Err.ensures.cause)

pub returns-in-Sound-clause-bound : goal.returns-in-Sound-clause-bound
returns-in-Sound-clause-bound g c =
    let state = g.D.Device.state in
    bound_later state c.args.writable (state (device_in c.args.cache)) (state (device_in c.lint.new.blocks)) c.opened.result c.lint.ensures.effect.held c.lint.ensures.few c.opened.ensures.bound

pub returns-in-Unsound-clause-bound : goal.returns-in-Unsound-clause-bound
returns-in-Unsound-clause-bound g c =
    let state = g.D.Device.state in
    linted_within c.args.writable (state (device_in c.args.cache)) (state (device_in c.lint.new.blocks)) _ (ap state c.refused-in-Unsound.ensures.device) c.lint.ensures.few

pub returns-in-Err-clause-bound : goal.returns-in-Err-clause-bound
returns-in-Err-clause-bound g c =
    let state = g.D.Device.state in
    linted_within c.args.writable (state (device_in c.args.cache)) (state (device_in c.lint.new.blocks)) _ (ap state c.refused.ensures.device) c.lint.ensures.few

use Rattle.std.proofs.Common.{◌∙◌, List, ℕ, subst, sym}
use Rattle.std.specs.Prelude.{Option}
use Rattle.cg_io.proofs.ReadLaws.{only_then}
use Rattle.kept_asks.specs.Named.{HasNames}
use Rattle.tree_asks.specs.Told.{Tells}
use Rattle.adf_tree.proofs.AskLooks.{later_path, stay_on_path, tells_on}
use Rattle.adf_tree.proofs.AskWalks.{along_stops, child_or, goes_along}
use Rattle.adf_tree.proofs.asks.next_along.Goals as goal

pub child_of-requires-clause-names : goal.child_of-requires-clause-names
child_of-requires-clause-names g c =
    subst (λ (held : Option (List ℕ)). HasNames c.args.core.now held c.args.names.now) (sym c.stay.ensures.reads.bytes) c.requires.names

pub returns-in-Ok-clause-told : goal.returns-in-Ok-clause-told
returns-in-Ok-clause-told g c =
    goes_along c.args.core.now c.args.node c.args.name.now (g.R.ReadBytes.image c.args.bytes.now) c.child_of.result c.in-Ok.ensures.told
    (subst (λ (held : Option (List ℕ)). Tells c.args.core.now held (λ tree. child_or tree c.args.node c.args.name.now) c.child_of.result) c.stay.ensures.reads.bytes c.child_of.ensures.told)

pub returns-in-Ok-clause-reads : goal.returns-in-Ok-clause-reads
returns-in-Ok-clause-reads g c =
    let a = c.stay.ensures.reads in
    let b = c.child_of.ensures.reads in
    record { sound = b.sound; bytes = b.bytes ∙ a.bytes; waits = b.waits ∙ a.waits; effect = only_then _ _ _ a.effect b.effect; cause = later_path _ _ _ c.child_of.result a.effect.faults b.cause }

pub returns-in-Err-clause-told : goal.returns-in-Err-clause-told
returns-in-Err-clause-told g c =
    tells_on c.args.core.now (g.R.ReadBytes.image c.args.bytes.now) _ _ c.in-Err.error (along_stops c.args.node c.args.name.now c.in-Err.error) c.in-Err.ensures.told

pub returns-in-Err-clause-reads : goal.returns-in-Err-clause-reads
returns-in-Err-clause-reads g c =
    let r = c.in-Err.ensures.reads in record { sound = r.sound; bytes = r.bytes; waits = r.waits; effect = r.effect; cause = stay_on_path _ _ c.in-Err.error r.cause }

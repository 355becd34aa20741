use Rattle.std.proofs.Common.{◌∙◌, List, ℕ, subst, sym}
use Rattle.std.specs.Prelude.{Option}
use Rattle.adf_model.specs.Answers.{field_within}
use Rattle.cg_io.proofs.ReadLaws.{only_then}
use Rattle.kept_asks.specs.Named.{HasNames, NamesStay}
use Rattle.tree_asks.specs.Told.{Tells}
use Rattle.adf_tree.proofs.AskLooks.{asks_cause, asks_only, known_as, later_asked, stay_asks, through_of}
use Rattle.adf_tree.proofs.AskWalks.{node_answered, node_refused}
use Rattle.adf_tree.proofs.asks.of_node.Goals as goal

pub answer_at-requires-clause-names : goal.answer_at-requires-clause-names
answer_at-requires-clause-names g c =
    subst (λ (held : Option (List ℕ)). HasNames c.args.core.now held c.args.names.now) (sym c.enter.ensures.reads.bytes) c.requires.names

pub returns-in-Ok-clause-names : goal.returns-in-Ok-clause-names
returns-in-Ok-clause-names g c =
    subst (λ (held : Option (List ℕ)). NamesStay c.args.core.now held c.args.names.now c.answer_at.new.names) c.enter.ensures.reads.bytes c.answer_at.ensures.names

pub returns-in-Ok-clause-told : goal.returns-in-Ok-clause-told
returns-in-Ok-clause-told g c =
    node_answered c.args.core.now c.args.query.now _ _ c.asked_node-at.ensures c.is_followed.ensures (g.S.ReadBytes.image c.args.space.now) c.answer_at.result c.in-Ok.ensures.told
    (subst (λ (held : Option (List ℕ)). Tells c.args.core.now held (λ tree. field_within tree c.asked_node-at.result c.args.query.now) c.answer_at.result) c.enter.ensures.reads.bytes c.answer_at.ensures.told)

pub returns-in-Ok-clause-known : goal.returns-in-Ok-clause-known
returns-in-Ok-clause-known g c = known_as c.args.core.now _ _ c.args.query.now c.answer_at.result c.asked_node-at.ensures c.answer_at.ensures.known

pub returns-in-Ok-clause-reads : goal.returns-in-Ok-clause-reads
returns-in-Ok-clause-reads g c =
    let a = c.enter.ensures.reads in
    let b = c.answer_at.ensures.reads in
    let held = g.S.ReadBytes.image c.enter.new.bytes in
    record {
      sound = b.sound;
      bytes = b.bytes ∙ a.bytes;
      waits = b.waits ∙ a.waits;
      effect = only_then _ _ _ a.effect (asks_only c.args.core.now held c.asked_node-at.result c.args.query.now _ _ b.effect);
      cause = later_asked c.args.query.now _ _ _ c.answer_at.result a.effect.faults (asks_cause c.args.query.now _ _ c.answer_at.result b.cause);
    }

pub returns-in-Err-clause-told : goal.returns-in-Err-clause-told
returns-in-Err-clause-told g c =
    node_refused c.args.core.now c.args.query.now _ _ c.asked_node-at.ensures c.is_followed.ensures (g.S.ReadBytes.image c.args.space.now) c.in-Err.error c.in-Err.ensures.told

pub returns-in-Err-clause-reads : goal.returns-in-Err-clause-reads
returns-in-Err-clause-reads g c =
    let r = c.in-Err.ensures.reads in
    record {
      sound = r.sound;
      bytes = r.bytes;
      waits = r.waits;
      effect = r.effect;
      cause = stay_asks c.args.query.now _ _ c.in-Err.error (through_of c.args.query.now (sym c.is_followed.ensures ∙ c.in-Err.ensures.free)) r.cause;
    }

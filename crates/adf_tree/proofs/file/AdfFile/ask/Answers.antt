use Rattle.adf_tree.proofs.AskEnds.{asks_end, broken_asks, memory_asks, names_of, other_hints, other_names}
use Rattle.adf_tree.proofs.HeaderReads.{read_works}
use Rattle.adf_tree.specs.Files.{state_of}
use Rattle.adf_tree.proofs.file.AdfFile.ask.Goals as goal

pub returns-then-self-clause-ends : goal.returns-then-self-clause-ends
returns-then-self-clause-ends g c =
    let file = state_of g.D.Device.state c.args.self.now in
    broken_asks c.args.query.now file file c.if-self.true

pub returns-in-Err-clause-sound : goal.returns-in-Err-clause-sound
returns-in-Err-clause-sound g c = other_hints g.D.Device.state c.args.self.now _ c.requires

pub returns-in-Err-clause-ends : goal.returns-in-Err-clause-ends
returns-in-Err-clause-ends g c =
    let file = state_of g.D.Device.state c.args.self.now in
    memory_asks c.args.query.now file file c.in-Err.error c.if-self.false c.in-Err.ensures

pub answer-result-requires-clause-names : goal.answer-result-requires-clause-names
answer-result-requires-clause-names g c = names_of g.D.Device.state c.args.self.now c.requires c.if-self.false

pub returns-clause-sound : goal.returns-clause-sound
returns-clause-sound g c =
    let state = g.D.Device.state in
    let file = c.args.self.now in
    let reads = c.answer-result.ensures.reads in
    let named = other_names state file c.answer-result.new.names c.requires c.answer-result.ensures.names in
    other_hints state (record file { draft = c.answer-result.new.space; names = c.answer-result.new.names }) _ (read_works state (record file { names = c.answer-result.new.names }) c.answer-result.new.space named reads.sound reads.bytes reads.waits reads.effect)

pub returns-clause-ends : goal.returns-clause-ends
returns-clause-ends g c =
    let state = g.D.Device.state in
    let file = c.args.self.now in
    let reads = c.answer-result.ensures.reads in
    asks_end c.args.query.now (state_of state file) (state_of state (record file { draft = c.answer-result.new.space })) c.answer-result.result c.if-self.false c.answer-result.ensures.told c.answer-result.ensures.known reads.cause

use Rattle.adf_tree.proofs.AskLooks.{looks_child}
use Rattle.tree_edits.proofs.TableReads.{table_reads}
use Rattle.adf_tree.proofs.AskEnds.{broken_looks, looks_end, memory_looks, names_of, only_looks, other_hints}
use Rattle.adf_tree.proofs.HeaderReads.{read_works}
use Rattle.adf_tree.specs.Files.{state_of}
use Rattle.adf_tree.proofs.file.AdfFile.child_at.Goals as goal

pub returns-then-self-clause-ends : goal.returns-then-self-clause-ends
returns-then-self-clause-ends g c =
    let file = state_of g.D.Device.state c.args.self.now in
    broken_looks _ _ file file c.if-self.true

pub returns-in-Err-clause-sound : goal.returns-in-Err-clause-sound
returns-in-Err-clause-sound g c = other_hints g.D.Device.state c.args.self.now _ c.requires

pub returns-in-Err-clause-ends : goal.returns-in-Err-clause-ends
returns-in-Err-clause-ends g c =
    let file = state_of g.D.Device.state c.args.self.now in
    memory_looks _ _ file file c.in-Err.error c.if-self.false c.in-Err.ensures tt

pub child_at-result-requires-clause-names : goal.child_at-result-requires-clause-names
child_at-result-requires-clause-names g c = names_of g.D.Device.state c.args.self.now c.requires c.if-self.false

pub returns-clause-sound : goal.returns-clause-sound
returns-clause-sound g c =
    let state = g.D.Device.state in
    let file = c.args.self.now in
    let reads = c.child_at-result.ensures.reads in
    other_hints state (record file { draft = c.child_at-result.new.bytes }) _ (read_works state file c.child_at-result.new.bytes c.requires reads.sound reads.bytes reads.waits (table_reads _ 1 4 _ _ reads.effect))

pub returns-clause-ends : goal.returns-clause-ends
returns-clause-ends g c =
    let state = g.D.Device.state in
    let file = c.args.self.now in
    let reads = c.child_at-result.ensures.reads in
    looks_end _ _ (state_of state file) (state_of state (record file { draft = c.child_at-result.new.bytes })) c.child_at-result.result c.if-self.false c.child_at-result.ensures.told (looks_child file.core _ c.args.parent _ _ c.child_at-result.result reads.cause)

pub returns-clause-looks : goal.returns-clause-looks
returns-clause-looks g c =
    let file = c.args.self.now in
    let reads = c.child_at-result.ensures.reads in
    only_looks g.D.Device.state file c.child_at-result.new.bytes reads.bytes reads.waits (table_reads _ 1 4 _ _ reads.effect)

use Rattle.std.proofs.Common.{sym, ◌∙◌}
use Rattle.adf_tree.proofs.AskEnds.{names_of, only_looks, other_hints, other_names}
use Rattle.adf_tree.proofs.HeaderReads.{read_works}
use Rattle.adf_tree.proofs.LookedFirst.{read_stop}
use Rattle.adf_tree.specs.Files.{state_of}
use Rattle.adf_tree.specs.Reached.{with_reached}
use Rattle.adf_tree.proofs.file.AdfFile.know_parent.Goals as goal

pub know_children-known-requires-clause-names : goal.know_children-known-requires-clause-names
know_children-known-requires-clause-names g c = names_of g.D.Device.state c.args.self.now c.requires.sound c.requires.live

pub returns-clause-sound : goal.returns-clause-sound
returns-clause-sound g c =
    let state = g.D.Device.state in
    let file = c.args.self.now in
    let reads = c.know_children-known.ensures.reads in
    let named = other_names state file c.know_children-known.new.names c.requires.sound c.know_children-known.ensures.names in
    other_hints state (record file { draft = c.know_children-known.new.space; names = c.know_children-known.new.names }) _
    (read_works state (record file { names = c.know_children-known.new.names }) c.know_children-known.new.space named reads.sound reads.bytes reads.waits reads.effect)

pub returns-clause-looks : goal.returns-clause-looks
returns-clause-looks g c =
    let reads = c.know_children-known.ensures.reads in
    only_looks g.D.Device.state c.args.self.now c.know_children-known.new.space reads.bytes reads.waits reads.effect

pub returns-clause-refused : goal.returns-clause-refused
returns-clause-refused g c =
    let state = g.D.Device.state in
    let file = c.args.self.now in
    read_stop (with_reached c.args.edit.now c.args.there) (state_of state file) (state_of state (record file { draft = c.know_children-known.new.space })) c.in-Some.at (sym c.new_parent.ensures ∙ c.in-Some.is) c.if-not-self.false
    c.know_children-known.result c.know_children-known.ensures.live c.know_children-known.ensures.reads.cause

pub returns-in-Err-clause-sound : goal.returns-in-Err-clause-sound
returns-in-Err-clause-sound g c = other_hints g.D.Device.state c.args.self.now _ c.requires.sound

use Rattle.std.proofs.Common.{arith}
use Rattle.adf_library.proofs.EditAmong.{broken_among, committed_among, devices_among, failed_among, fault_of, layouts_among, others_work, placed_among, ready_set, rest_among, told_among, torn_among, written_among}
use Rattle.adf_library.proofs.slots.SlotsEditedFiles.commit.Goals as goal

pub returns-clause-ready : goal.returns-clause-ready
returns-clause-ready g c = ready_set g.D.Device.state c.args.self.now.items.items c.args.number c.index_mut.result.now c.commit_in.new.slot (omega (arith, c.len.ensures, c.if-number-len.false)) c.index_mut.ensures.value c.commit_in.ensures.commits.name c.commit_in.ensures.ready c.requires.ready

pub returns-clause-fault : goal.returns-clause-fault
returns-clause-fault g c = fault_of g.D.Device.state c.args.self.now.items.items c.args.number c.index_mut.result.now c.commit_in.new.slot (omega (arith, c.len.ensures, c.if-number-len.false)) c.index_mut.ensures.value c.commit_in.ensures.commits.name c.commit_in.result c.commit_in.ensures.commits.ends

pub returns-clause-done : goal.returns-clause-done
returns-clause-done g c = written_among g.D.Device.state c.args.self.now.items.items c.args.number c.index_mut.result.now c.commit_in.new.slot (omega (arith, c.len.ensures, c.if-number-len.false)) c.index_mut.ensures.value c.commit_in.ensures.commits.name c.commit_in.result c.commit_in.ensures.commits.ends

pub returns-clause-broken : goal.returns-clause-broken
returns-clause-broken g c = broken_among g.D.Device.state c.args.self.now.items.items c.args.number c.index_mut.result.now c.commit_in.new.slot (omega (arith, c.len.ensures, c.if-number-len.false)) c.index_mut.ensures.value c.commit_in.ensures.commits.name c.commit_in.result c.commit_in.ensures.commits.ends

pub returns-clause-others : goal.returns-clause-others
returns-clause-others g c = others_work g.D.Device.state c.args.self.now.items.items c.args.number c.index_mut.result.now c.commit_in.new.slot (omega (arith, c.len.ensures, c.if-number-len.false)) c.index_mut.ensures.value c.commit_in.ensures.commits.name

pub returns-clause-rest : goal.returns-clause-rest
returns-clause-rest g c = rest_among g.D.Device.state c.args.self.now.items.items c.args.number c.index_mut.result.now c.commit_in.new.slot (omega (arith, c.len.ensures, c.if-number-len.false)) c.index_mut.ensures.value c.commit_in.ensures.commits.name c.commit_in.result c.commit_in.ensures.commits

pub returns-clause-devices : goal.returns-clause-devices
returns-clause-devices g c = devices_among g.D.Device.state c.args.self.now.items.items c.args.number c.index_mut.result.now c.commit_in.new.slot (omega (arith, c.len.ensures, c.if-number-len.false)) c.index_mut.ensures.value c.commit_in.ensures.commits.name c.commit_in.result c.commit_in.ensures.commits

pub returns-clause-placed : goal.returns-clause-placed
returns-clause-placed g c = placed_among g.D.Device.state c.args.self.now.items.items c.args.number c.index_mut.result.now c.commit_in.new.slot (omega (arith, c.len.ensures, c.if-number-len.false)) c.index_mut.ensures.value c.commit_in.ensures.commits.name c.commit_in.result c.commit_in.ensures.commits

pub returns-clause-failed : goal.returns-clause-failed
returns-clause-failed g c = failed_among g.D.Device.state c.args.self.now.items.items c.args.number c.index_mut.result.now c.commit_in.new.slot (omega (arith, c.len.ensures, c.if-number-len.false)) c.index_mut.ensures.value c.commit_in.ensures.commits.name c.commit_in.result c.commit_in.ensures.commits.ends

pub returns-clause-layouts : goal.returns-clause-layouts
returns-clause-layouts g c = layouts_among g.D.Device.state c.args.self.now.items.items c.args.number c.index_mut.result.now c.commit_in.new.slot (omega (arith, c.len.ensures, c.if-number-len.false)) c.index_mut.ensures.value c.commit_in.ensures.commits.name c.commit_in.result c.commit_in.ensures.commits

pub returns-clause-told : goal.returns-clause-told
returns-clause-told g c = told_among g.D.Device.state c.args.self.now.items.items c.args.number c.index_mut.result.now c.commit_in.new.slot (omega (arith, c.len.ensures, c.if-number-len.false)) c.index_mut.ensures.value c.commit_in.ensures.commits.name c.commit_in.result c.commit_in.ensures.commits

pub returns-clause-committed : goal.returns-clause-committed
returns-clause-committed g c = committed_among g.D.Device.state c.args.self.now.items.items c.args.number c.index_mut.result.now c.commit_in.new.slot (omega (arith, c.len.ensures, c.if-number-len.false)) c.index_mut.ensures.value c.commit_in.ensures.commits.name c.commit_in.result c.commit_in.ensures.commits.ends

pub returns-clause-torn : goal.returns-clause-torn
returns-clause-torn g c = torn_among g.D.Device.state c.args.self.now.items.items c.args.number c.index_mut.result.now c.commit_in.new.slot (omega (arith, c.len.ensures, c.if-number-len.false)) c.index_mut.ensures.value c.commit_in.ensures.commits.name c.commit_in.result c.commit_in.ensures.commits.ends

use Rattle.adf_library.specs.Shelf.{slots_of}
use Rattle.tool_commands.proofs.TwoDevices.{on_devices}
use Rattle.tool_commands.proofs.commands.salvage_on.Goals as goal

pub returns-clause-salvage : goal.returns-clause-salvage
returns-clause-salvage g c =
    let state = g.D.Device.state in
    on_devices c.args.from c.args.to _ (slots_of state c.args.shelf.now) (slots_of state c.take_both-source.new.shelf) (slots_of state c.put_both_back.new.shelf)
    (state c.take_both-source.result.0) (state c.salvage_file-source.result.source) (state c.take_both-source.result.1) (state c.salvage_file-source.result.target)
    c.requires.apart c.take_both-source.ensures.source c.take_both-source.ensures.target c.take_both-source.ensures.rest c.put_both_back.ensures.back
    (record {
      made = c.salvage_file-source.result.made;
      salvage = c.salvage_file-source.ensures.salvage;
      reads = c.salvage_file-source.ensures.reads;
      counts = c.salvage_file-source.ensures.counts;
      told = c.tell_salvage-status.ensures;
    })

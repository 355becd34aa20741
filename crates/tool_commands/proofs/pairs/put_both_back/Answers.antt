use Rattle.adf_library.specs.Shelf.{There, slots_of}
use Rattle.tool_commands.proofs.TwoDevices.{still_taken, whole_but_second}
use Rattle.tool_commands.proofs.pairs.put_both_back.Goals as goal

pub put_back-requires-2-clause-taken : goal.put_back-requires-2-clause-taken
put_back-requires-2-clause-taken g c =
    let state = g.D.Device.state in
    still_taken (λ was. There (state c.args.source)) (slots_of state c.args.shelf.now) (slots_of state c.put_back.new.self) c.args.from c.args.to c.requires.apart c.put_back.ensures.back c.requires.second

pub returns-clause-whole : goal.returns-clause-whole
returns-clause-whole g c =
    let state = g.D.Device.state in
    c.put_back-2.ensures.whole (whole_but_second state c.args.shelf.now c.put_back.new.self c.args.from c.args.to (state c.args.source) c.requires.whole c.put_back.ensures.back)

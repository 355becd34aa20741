use Rattle.std.proofs.Common.{◌∙◌, ◌<◌, length, arith}
use Rattle.std.proofs.lemmas.List.{length-set}
use Rattle.adf_library.specs.Library.{IsIdle}
use Rattle.adf_library.specs.Shelf.{slot_of}
use Rattle.adf_library.proofs.SlotLaws.{kept, one_further}
use Rattle.adf_library.proofs.library.close_all.Goals as goal

pub closing-preserved : goal.closing-preserved
closing-preserved g c =
    let within : c.closing.number < length c.closing.slots.items = omega (arith, c.closing.invariant.count, c.closing-test.true) in
    record {
      count = length-set c.closing.slots.items c.closing.number c.shut.new.slot ∙ c.closing.invariant.count;
      same = kept (slot_of g.D.Device.state) c.closing.slots.items c.closing.number c.index_mut.result.now c.shut.new.slot within c.index_mut.ensures.value c.shut.ensures.stays ∙ c.closing.invariant.same;
      idle = one_further IsIdle c.closing.slots.items c.closing.number c.shut.new.slot within c.closing.invariant.idle c.shut.ensures.idle;
    }

use Rattle.std.proofs.Common.{option_map}
use Rattle.adf_format.specs.Pointer.{pointer}
use Rattle.disk_ptr.specs.View.{view}
use Rattle.field_access.proofs.FieldLaws.{made_given}
use Rattle.field_access.proofs.reading.read_pointer.Goals as goal

pub returns-in-Ok-clause-told : goal.returns-in-Ok-clause-told
returns-in-Ok-clause-told g c = made_given pointer (option_map view c.decode.result) (g.R.ReadBytes.image c.args.bytes.now) c.args.place 12 c.in-Ok.text c.in-Ok.ensures.long c.in-Ok.ensures.told c.decode.ensures.value

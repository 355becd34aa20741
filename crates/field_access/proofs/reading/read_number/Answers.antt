use Rattle.adf_format.specs.Hex.{hex_value}
use Rattle.field_access.proofs.FieldLaws.{made_given}
use Rattle.field_access.proofs.reading.read_number.Goals as goal

pub returns-in-Ok-clause-told : goal.returns-in-Ok-clause-told
returns-in-Ok-clause-told g c = made_given hex_value c.read_long_hex.result (g.R.ReadBytes.image c.args.bytes.now) c.args.place g.row.N c.in-Ok.text c.in-Ok.ensures.long c.in-Ok.ensures.told c.read_long_hex.ensures.value

use Rattle.adf_format.specs.Fields.{holds}
use Rattle.field_access.proofs.FieldLaws.{made_given}
use Rattle.field_access.proofs.reading.has_tag.Goals as goal

pub returns-in-Ok-clause-told : goal.returns-in-Ok-clause-told
returns-in-Ok-clause-told g c = made_given (λ says. holds says 0 c.args.tag.now) c.holds.result (g.R.ReadBytes.image c.args.bytes.now) c.args.place 4 c.in-Ok.text c.in-Ok.ensures.long c.in-Ok.ensures.told c.holds.ensures

use Rattle.adf_format.proofs.FieldLaws.{field_written, field_beside, field_around, writes_joined}
use Rattle.adf_format.proofs.WrittenParts.{writes_keep}
use Rattle.adf_format.proofs.writes.fields_after_a_write.Goals as goal

pub returns-clause-inside : goal.returns-clause-inside
returns-clause-inside c = field_written

pub returns-clause-beside : goal.returns-clause-beside
returns-clause-beside c = field_beside

pub returns-clause-around : goal.returns-clause-around
returns-clause-around c = field_around

pub returns-clause-joined : goal.returns-clause-joined
returns-clause-joined c = writes_joined

pub returns-clause-keeps : goal.returns-clause-keeps
returns-clause-keeps c = writes_keep

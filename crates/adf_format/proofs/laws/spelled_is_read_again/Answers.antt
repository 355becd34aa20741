use Rattle.std.proofs.Common.{refl}
use Rattle.adf_format.proofs.HexLaws.{hex_value-hex_text, length-hex_text, pointer-pointer_text}
use Rattle.adf_format.proofs.laws.spelled_is_read_again.Goals as goal

pub returns-clause-number : goal.returns-clause-number
returns-clause-number c = hex_value-hex_text

pub returns-clause-digits : goal.returns-clause-digits
returns-clause-digits c = length-hex_text

pub returns-clause-place : goal.returns-clause-place
returns-clause-place c = pointer-pointer_text

pub returns-clause-blank : goal.returns-clause-blank
returns-clause-blank c = refl

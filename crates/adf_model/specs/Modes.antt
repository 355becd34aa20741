-- What is opened in each mode.
use Rattle.std.specs.Prelude.{true, false}
use Rattle.adf_model.specs.declared.mode.Mode.{Mode}
use Rattle.adf_model.specs.declared.mode.Mode.TheVariants.{New, NewWide, ReadWrite, ReadOnly}
use Rattle.adf_model.specs.Steps.{Opening, Fresh, Stored}

-- the opening of a mode
abbrev pub opening_of : Mode → Opening
opening_of New = Fresh false
opening_of NewWide = Fresh true
opening_of ReadWrite = Stored true
opening_of ReadOnly = Stored false

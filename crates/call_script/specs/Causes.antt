-- Why a line is refused.
use Rattle.std.specs.Prelude.{◌≡◌, ◌⊎◌}
use Rattle.adf_model.specs.declared.error.AdfError.{AdfError}
use Rattle.adf_model.specs.declared.error.AdfError.TheVariants.{Memory, Syntax}

-- why no call is told
abbrev pub IsRefusal : AdfError → Type 0
IsRefusal error = (error ≡ Syntax) ⊎ (error ≡ Memory)

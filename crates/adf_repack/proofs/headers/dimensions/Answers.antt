use Rattle.std.proofs.Common.{arith}
use Rattle.adf_format.specs.Hex.{hex_text}
use Rattle.adf_format.specs.Parts.{dimension_digits}
use Rattle.adf_repack.proofs.CopyLaws.{each_of_twelve}
use Rattle.adf_repack.proofs.headers.dimensions.Goals as goal

pub returns : goal.returns
returns c = rw (
  c.dimension.ensures,
  c.dimension-2.ensures,
  c.dimension-3.ensures,
  c.dimension-4.ensures,
  c.dimension-5.ensures,
  c.dimension-6.ensures,
  c.dimension-7.ensures,
  c.dimension-8.ensures,
  c.dimension-9.ensures,
  c.dimension-10.ensures,
  c.dimension-11.ensures,
  c.dimension-12.ensures,
)
    (each_of_twelve (hex_text (dimension_digits c.args.wide)) c.args.values.now (omega arith))

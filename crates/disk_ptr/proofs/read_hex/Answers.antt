use Rattle.std.proofs.Common.{arith}
use Rattle.disk_ptr.proofs.Digits.{fits_word}
use Rattle.disk_ptr.proofs.read_hex.Goals as goal

pub overflow_cast-result : goal.overflow_cast-result
overflow_cast-result c = omega (arith, fits_word _ _ c.in_ok-value.ensures.small c.requires.few)

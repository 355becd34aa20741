use Rattle.std.proofs.Common.{arith}
use Rattle.disk_ptr.proofs.Digits.{room_for_digit}
use Rattle.disk_ptr.proofs.read_long_hex.Goals as goal

pub overflow_mul-value : goal.overflow_mul-value
overflow_mul-value c = omega (arith, room_for_digit _ _ c.loop-c.invariant.small (omega arith))

pub overflow_add-value : goal.overflow_add-value
overflow_add-value c = omega (arith, room_for_digit _ _ c.loop-c.invariant.small (omega arith), c.in_ok-digit_of.ensures.small)

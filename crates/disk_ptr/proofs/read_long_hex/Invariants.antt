use Rattle.std.proofs.Common.{◌≡◌, ◌<◌, ◌^◌, drop}
use Rattle.adf_format.specs.Hex.{hex_value, hex_value_after}
use Rattle.disk_ptr.proofs.read_long_hex.Given as goal

-- the digits so far, and those that are left, spell what all spell
abbrev pub invariant-loop-c : goal.invariant-loop-c
invariant-loop-c l = record { so_far : hex_value_after l.value (drop l.c-index l.bytes) ≡ hex_value l.bytes; small : l.value < 16 ^ l.c-index }
